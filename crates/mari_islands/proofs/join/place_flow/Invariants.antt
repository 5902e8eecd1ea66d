use Rattle.std.proofs.Common.{◌≡◌, ℕ, map, take}
use Rattle.std.specs.Prelude.{Contains}
use Rattle.mari_market.specs.Sums.{int_at}
use Rattle.mari_islands.proofs.join.place_flow.Given as goal

-- those so far are written, and the others are as they were
abbrev pub invariant-loop-place : goal.invariant-loop-place
invariant-loop-place l = record {
  placed : map (int_at l.flow) (take l.place l.numbers) ≡ take l.place l.own;
  others : (k : ℕ) → (Contains (take l.place l.numbers) k → ⊥) → int_at l.flow k ≡ int_at l.initial.flow k;
}
