use Rattle.std.proofs.Common.{◌≡◌, ◌==◌, ◌||◌, ◌<◌, ◌-◌, ℕ, length}
use Rattle.std.specs.Prelude.{IfSome}
use Rattle.std.specs.List.{list_any}
use Rattle.mari_market.specs.Prefix.{opens_in}
use Rattle.mari_reach.specs.State.{line_from, line_of}
use Rattle.mari_reach.proofs.marks.Marks.mark_line.Given as goal

abbrev pub invariant-loop-step : goal.invariant-loop-step
invariant-loop-step l = record {
  rest : (g : ℕ) → (opens_in l.self g || list_any (λ h. h == g) (line_from (length l.gates - l.step) l.gates l.next)) ≡ (opens_in l.fn.self g || list_any (λ h. h == g) (line_of l.gates l.gate));
  there : IfSome l.next (λ h. h < length l.gates);
}
