use Rattle.std.proofs.Common.{drop, sym, subst, ◌∙◌}
use Rattle.mari_stream.specs.Coming.{IsAhead}
use Rattle.mari_stream.specs.declared.coming.Ahead.{Ahead}
use Rattle.mari_stream.specs.declared.coming.Ahead.TheVariants as mark
use Rattle.mari_stream.proofs.LineByLine.{ahead-more, long-ends, there}
use Rattle.mari_stream.proofs.coming.append.Goals as goal

pub returns-then-is_some-clause-appended : goal.returns-then-is_some-clause-appended
returns-then-is_some-clause-appended g c =
    let coming = c.args.coming.now in
    let x = there _ _ c.split_once.result (sym c.is_some.ensures ∙ c.if-is_some.true) c.split_once.ensures in
    let unread = drop coming.handled coming.bytes.items in
    ahead-more g.F.TextForm.form coming.kept coming.lines coming.ahead mark.Ended unread unread c.args.piece.now
    (λ rest h. long-ends unread unread c.args.piece.now x.0.0.now x.0.1.now rest x.1.0 x.1.1 (subst (λ (a : Ahead). IsAhead a unread rest) c.in-TooLong.is h))
