use Rattle.std.proofs.Common.{ap, sym, ◌∙◌, arith}
use Rattle.mari_incumbent.specs.Incumbent.{IncumbentId, SeatView}
use Rattle.mari_incumbent.proofs.Keeps.{closes}
use Rattle.mari_incumbent.proofs.incumbent.Incumbent.close.Goals as goal

pub returns : goal.returns
returns c =
    let last = c.close_with-closed.ensures.values.2 in
    let seat = c.seat.view_is in
    let whole = ap (λ (s : SeatView). s.parts) seat ∙ c.requires.parts ∙ sym (ap (λ (w : IncumbentId). w.all) c.self.view_is) in
    let end = closes _ _ _ _ _ c.word-incumbent.result last.0 last.1.0 last.1.1 last.2 c.word-incumbent.ensures whole c.seat.invariant.1 in
    let known = ap (λ m. m.0) c.seat.invariant.0 in
    let is_offered = ap (λ (s : SeatView). s.offered) seat in
    let is_seen = ap (λ (s : SeatView). s.seen) seat in
    let offered = ap (λ v. v.offered) known in
    let seen = ap (λ v. v.seen) known in
    record { offered = omega (arith, end.0); seen = omega (arith, end.0, end.1) }
