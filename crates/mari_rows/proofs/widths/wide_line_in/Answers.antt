use Rattle.std.proofs.Common.{◌∙◌, arith, refl, sym}
use Rattle.mari_rows.specs.Widths.{state_of}
use Rattle.mari_rows.specs.declared.widths.Ended.TheVariants as ended
use Rattle.mari_rows.proofs.WalkLemmas.{at_end-last, at_end-narrow, at_end-wide, first-records, first_from-all, first_from-more}
use Rattle.mari_rows.proofs.widths.wide_line_in.Goals.{in-Nothing, in-Field, in-Record+else-commas-most, then-is_in_record, else-is_in_record}
use Rattle.mari_rows.proofs.widths.wide_line_in.Goals as goal

pub returns-then-commas-most : goal.returns-then-commas-most
returns-then-commas-most c =
    let l = c.loop-byte in
    let more = first_from-more c.args.most c.args.text.now l.byte-index (state_of l.place)
    (state_of c.after-next.result.0) ended.Record l.line l.commas c.loop-byte-test.true c.after-next.ensures.place (sym c.in-Record.is ∙ c.after-next.ensures.ended) in
    sym (at_end-wide c.args.most l.line l.commas _ c.if-commas-most.true) ∙ more ∙ l.invariant.same ∙ first-records c.args.most c.args.text.now

pub loop-byte-preserved : goal.loop-byte-preserved
loop-byte-preserved c =
    let l = c.loop-byte in
    let to = c.after-next.ensures in
    let more = λ (e : ended.the_data). first_from-more c.args.most c.args.text.now l.byte-index (state_of l.place) (state_of c.after-next.result.0) e l.line l.commas c.loop-byte-test.true to.place in
    elim c.match-ended.branch [
      | in-Nothing w ↦ rw (w.line-is, w.commas-is) (record {
        same = more ended.Nothing (sym w.in-Nothing.is ∙ to.ended) ∙ l.invariant.same;
        lines = omega arith;
        counted = omega arith;
      })
      | in-Field w ↦ rw (w.line-is, w.commas-is) (record {
        same = more ended.Field (sym w.in-Field.is ∙ to.ended) ∙ l.invariant.same;
        lines = omega arith;
        counted = omega arith;
      })
      | in-Record+else-commas-most w ↦ rw (w.line-is, w.commas-is) (record {
        same = sym (at_end-narrow c.args.most l.line l.commas _ w.if-commas-most.false) ∙ more ended.Record (sym w.in-Record.is ∙ to.ended) ∙ l.invariant.same;
        lines = omega arith;
        counted = omega arith;
      })
    ]

pub returns : goal.returns
returns c =
    let l = c.loop-byte in
    let all = first_from-all c.args.most c.args.text.now l.byte-index (state_of l.place) l.line l.commas c.loop-byte-test.false ∙ l.invariant.same ∙ first-records c.args.most c.args.text.now in
    c.then_some.ensures ∙ elim c.if-is_in_record.branch [
      | then-is_in_record w ↦ rw (w.then_some-is, ← c.is_in_record.ensures, w.if-is_in_record.true) (at_end-last c.args.most l.line l.commas)
      | else-is_in_record w ↦ rw (w.then_some-is, ← c.is_in_record.ensures, w.if-is_in_record.false) refl
    ] ∙ all
