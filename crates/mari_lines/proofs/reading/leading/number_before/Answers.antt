use Rattle.std.proofs.Common.{◌≡◌, ◌≤◌, ◌<◌, get_or, ⊎_elim, arith}
use Rattle.mari_lines.proofs.Leading.{number_then}
use Rattle.mari_lines.proofs.reading.leading.number_before.Goals as goal

pub returns : goal.returns
returns c =
    let low : c.args.number ≤ c.args.greatest = omega arith in
    let some : 0 < c.args.place = omega arith in
    let alone : get_or c.args.text.now 0 0 ≡ 48 → c.args.place ≡ 1 = λ zero. ⊎_elim (λ first. omega (arith, some, first.1)) (λ other. absurd (other zero)) c.else-text-eq48.either in
    (low, number_then c.args.number c.args.place c.args.text.now (omega arith) c.requires.number c.requires.digits some c.requires.place alone)
