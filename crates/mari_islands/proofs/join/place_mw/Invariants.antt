use Rattle.std.proofs.Common.{◌≡◌, ℕ, map, slice_index, take}
use Rattle.std.specs.Prelude.{Contains}
use Rattle.mari_islands.proofs.join.place_mw.Given as goal

-- those so far are written, and the others are as they were
abbrev pub invariant-loop-place : goal.invariant-loop-place
invariant-loop-place l = record {
  placed : map (slice_index l.mw) (take l.place l.numbers) ≡ take l.place l.own;
  others : (k : ℕ) → (Contains (take l.place l.numbers) k → ⊥) → slice_index l.mw k ≡ slice_index l.initial.mw k;
}
