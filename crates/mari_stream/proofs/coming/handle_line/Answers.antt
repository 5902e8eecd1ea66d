use Rattle.std.proofs.Common.{◌∙◌, ℕ, List, drop, refl, sym, subst}
use Rattle.mari_lines.specs.Reading.{Lacks}
use Rattle.mari_stream.specs.Coming.{NoLineIn, come_of}
use Rattle.mari_stream.specs.declared.coming.Ahead.{Ahead}
use Rattle.mari_stream.proofs.LineByLine.{all-there, drop-line, ended-next, formless-next, from-place, nothing-next, refused-next, taken, too-long}
use Rattle.mari_stream.proofs.coming.handle_line.Goals as goal

pub returns-in-TooLong-clause-handles : goal.returns-in-TooLong-clause-handles
returns-in-TooLong-clause-handles g c = λ text parts s.
    let coming = c.args.coming.now in
    nothing-next g.F.TextForm.form c.keep_lines.ensures (come_of coming) text parts s
    (subst (λ (a : Ahead). NoLineIn a (drop coming.handled coming.bytes.items)) (sym c.in-TooLong.is) tt)

pub returns-in-Ended-clause-handles : goal.returns-in-Ended-clause-handles
returns-in-Ended-clause-handles g c = λ text parts s. ended-next g.F.TextForm.form c.keep_lines.ensures (come_of c.args.coming.now) text parts s c.in-Ended.is

pub returns-in_default-clause-handles : goal.returns-in_default-clause-handles
returns-in_default-clause-handles g c = λ text parts s.
    let coming = c.args.coming.now in
    let is = from-place coming.bytes.items c.deref.result.now coming.handled _ c.deref.ensures.value refl in
    nothing-next g.F.TextForm.form c.keep_lines.ensures (come_of coming) text parts s
    (subst (λ (a : Ahead). NoLineIn a (drop coming.handled coming.bytes.items)) (sym c.in-Whole.is) (subst (λ (w : List ℕ). Lacks 10 w) (sym is) c.in_default.ensures))

pub returns-then-here-gt-MOST_LINE-clause-handles : goal.returns-then-here-gt-MOST_LINE-clause-handles
returns-then-here-gt-MOST_LINE-clause-handles g c = λ text parts s.
    let coming = c.args.coming.now in
    let is = from-place coming.bytes.items c.deref.result.now coming.handled _ c.deref.ensures.value c.in-Some.ensures.1 in
    formless-next g.F.TextForm.form c.keep_lines.ensures (come_of coming) text parts s c.in-Some.here.now c.in-Some._after.now
    (all-there coming.ahead _ s.rest c.in-Whole.is s.ahead ∙ is) c.in-Some.ensures.0 (too-long g.F.TextForm.form c.keep_lines.ensures c.in-Some.here.now c.if-here-gt-MOST_LINE.true)

pub returns-in-Ok-clause-handles : goal.returns-in-Ok-clause-handles
returns-in-Ok-clause-handles g c = λ text parts s.
    let coming = c.args.coming.now in
    let is = from-place coming.bytes.items c.deref.result.now coming.handled _ c.deref.ensures.value c.in-Some.ensures.1 in
    taken g.F.TextForm.form c.keep_lines.ensures (come_of coming) text parts s c.in-Some.here.now c.in-Some._after.now
    (all-there coming.ahead _ s.rest c.in-Whole.is s.ahead ∙ is) c.take_line.new.self c.in-Ok.part c.in-Ok.ensures coming.ahead _ c.in-Whole.is
    (drop-line coming.bytes.items c.in-Some.here.now c.in-Some._after.now coming.handled is)

pub returns-in-Err-clause-handles : goal.returns-in-Err-clause-handles
returns-in-Err-clause-handles g c = λ text parts s.
    let coming = c.args.coming.now in
    let is = from-place coming.bytes.items c.deref.result.now coming.handled _ c.deref.ensures.value c.in-Some.ensures.1 in
    rw c.at.ensures
    (refused-next g.F.TextForm.form c.keep_lines.ensures (come_of coming) text parts s c.in-Some.here.now c.in-Some._after.now
    (all-there coming.ahead _ s.rest c.in-Whole.is s.ahead ∙ is) c.in-Some.ensures.0 c.take_line.new.self c.in-Err.fault c.in-Err.ensures)
