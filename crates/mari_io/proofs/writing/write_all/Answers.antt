use Rattle.std.proofs.Common.{◌≡◌, ◌∙◌, ℕ, ◌+◌, ◌-◌, List, ◌++◌, length, take, drop, arith, sym, ap}
use Rattle.std.proofs.Math.Seq.{take-add}
use Rattle.std.proofs.lemmas.List.{take_rest}
use Rattle.std.proofs.lemmas.Grind.{common_steps}
use Rattle.mari_io.specs.Taken.{then_took}
use Rattle.mari_io.proofs.Taken.{took_both}
use Rattle.mari_io.proofs.writing.write_all.Goals as goal

next_part : (text : List ℕ) (i n : ℕ) → take i text ++ take n (take (length text - i) (drop i text)) ≡ take (i + n) text
next_part text i n = rw take_rest (sym (take-add i n text))

pub loop-at-preserved : goal.loop-at-preserved
loop-at-preserved g c = record {
  fits = grind (arith, common_steps);
  taken = took_both _ _ _ _ _ c.loop-at.invariant.taken c.in_ok-count.ensures.taken ∙ ap (then_took _) (next_part _ _ _);
  faults = omega (arith, c.in_ok-count.ensures.cause.later);
}
