use Rattle.std.proofs.Common.{◌∙◌, ◌+◌, ap, sym, arith}
use Rattle.mari_day.proofs.Framing.{end-ends, ends-at, next-stops, next-written}
use Rattle.mari_day.proofs.frame.write_day.Goals as goal

pub returns-in_err-write_made-2-clause-ends : goal.returns-in_err-write_made-2-clause-ends
returns-in_err-write_made-2-clause-ends g c =
    let form = g.D.DaySoFar in
    let of = form.of c.args.day.now in
    let inv = c.loop-run.invariant in
    let next = rw inv.same at (c.next.ensures.next inv.wrote.blocks inv.wrote.keeps (ap (λ n. n + 1) (sym inv.wrote.counted))) in
    let err = c.in_err-write_made-2 in
    ends-at (form.runs of) (form.IsNext of) (form.head_text of) (form.block_text of)
    (form.IsWhole c.next.new.self) _ _ c.from_residual-in_err-write_made-2.result err.field-0.0 c.from_residual-in_err-write_made-2.ensures.1
    (next-stops (form.runs of) (form.IsNext of) (form.head_text of) (form.block_text of) (λ t. t.items) c.next.result (form.Keeps c.loop-run.day) c.loop-run.run _ _ inv.wrote _
    (form.IsWhole c.next.new.self) (form.Keeps c.next.new.self)
    (omega (arith, c.run_count-run-end.ensures)) next err.field-0.0 err.ensures.written err.ensures.none)

pub loop-run-preserved : goal.loop-run-preserved
loop-run-preserved g c =
    let form = g.D.DaySoFar in
    let of = form.of c.args.day.now in
    let inv = c.loop-run.invariant in
    let next = rw inv.same at (c.next.ensures.next inv.wrote.blocks inv.wrote.keeps (ap (λ n. n + 1) (sym inv.wrote.counted))) in
    record {
      same = c.next.ensures.same ∙ inv.same;
      wrote = next-written (form.runs of) (form.IsNext of) (form.head_text of) (form.block_text of) (λ t. t.items) c.next.result (form.Keeps c.loop-run.day) c.loop-run.run _ _ inv.wrote _
          (form.Keeps c.next.new.self)
          (omega (arith, c.run_count-run-end.ensures)) next _ c.in_ok-write_made-2.ensures.written c.in_ok-write_made-2.ensures.none;
      faults = omega (arith, inv.faults, c.in_ok-write_made-2.ensures.cause.later);
      ready = c.next.ensures.ready;
    }

pub returns-clause-ends : goal.returns-clause-ends
returns-clause-ends g c =
    let form = g.D.DaySoFar in
    let of = form.of c.args.day.now in
    let inv = c.loop-run.invariant in
    let whole = rw inv.same at
    (c.end.ensures inv.wrote.blocks (rw inv.same inv.wrote.part) inv.wrote.keeps (omega (arith, inv.wrote.counted, inv.wrote.part.few, c.run_count-run-end.ensures, ap form.runs inv.same))) in
    end-ends (form.runs of) (form.IsNext of) (form.head_text of) (form.block_text of) (λ t. t.items) c.end.result (form.Keeps c.loop-run.day) c.loop-run.run _ _ inv.wrote _
    (form.IsWhole c.loop-run.day)
    whole c.write_made-2.result c.write_made-2.ensures.written c.write_made-2.ensures.none
