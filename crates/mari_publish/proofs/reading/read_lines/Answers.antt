use Rattle.std.proofs.Common.{◌≡◌, ◌+◌, false, Result, Ok, Err, sym, subst, ◌∙◌, arith}
use Rattle.std.specs.Prelude.{OnOk}
use Rattle.std.specs.Result.{is_err}
use Rattle.mari_publish.specs.Gathering.{seen}
use Rattle.mari_publish.proofs.Progress.{Progress, progress_of_nothing, number_fits, counts_fit, has_room, refused, shorter, forward, finished}
use Rattle.mari_publish.proofs.reading.read_lines.Goals as goal

taken : {X E : Type 0} (r : Result X E) (P : Type 0) → is_err r ≡ false → OnOk r P → P
taken (Ok x) P e h = h
taken (Err x) P e h = absurd cc

pub loop-here-init : goal.loop-here-init
loop-here-init c = progress_of_nothing c.args.bytes.now (seen c.args.gathered.now) c.args.kept.now c.requires.gathered c.requires.kept

pub take_line-requires-clause-counts : goal.take_line-requires-clause-counts
take_line-requires-clause-counts c = counts_fit c.args.bytes.now c.loop-here.rest.now c.loop-here.number (seen c.loop-here.gathered) c.loop-here.kept c.loop-here.invariant

pub take_line-requires-clause-room : goal.take_line-requires-clause-room
take_line-requires-clause-room c = has_room c.args.bytes.now c.loop-here.rest.now c.loop-here.number (seen c.loop-here.gathered) c.loop-here.kept c.loop-here.invariant

pub overflow_add-number : goal.overflow_add-number
overflow_add-number c = let small = number_fits c.args.bytes.now c.loop-here.rest.now c.loop-here.number (seen c.loop-here.gathered) c.loop-here.kept c.loop-here.invariant in omega (arith, small)

pub returns-in-Err : goal.returns-in-Err
returns-in-Err c =
    rw c.at.ensures (refused c.args.bytes.now c.loop-here.rest.now c.in-Some.here.now c.in-Some.after.now c.loop-here.number (seen c.loop-here.gathered) c.loop-here.kept c.take_line.new.kept
    c.loop-here.invariant c.in-Some.ensures.0 c.in-Some.ensures.1 c.in-Err.fault c.in-Err.ensures)

pub loop-here-smaller : goal.loop-here-smaller
loop-here-smaller c = shorter c.loop-here.rest.now c.in-Some.here.now c.in-Some.after.now c.in-Some.ensures.1

pub loop-here-preserved : goal.loop-here-preserved
loop-here-preserved c =
    let more = forward c.args.bytes.now c.loop-here.rest.now c.in-Some.here.now c.in-Some.after.now c.loop-here.number (seen c.loop-here.gathered) c.loop-here.kept c.take_line.new.kept c.in-Ok.part
    c.loop-here.invariant c.in-Some.ensures.1 c.in-Ok.ensures in
    let grew = taken c.gather.result _ (sym c.is_err.ensures.value ∙ c.if-is_err.false) c.gather.ensures in
    subst (λ q. Progress c.args.bytes.now c.in-Some.after.now (c.loop-here.number + 1) q c.take_line.new.kept) (sym grew) more

pub returns : goal.returns
returns c = finished c.args.bytes.now c.loop-here.rest.now c.loop-here.number c.loop-here.gathered c.loop-here.kept c.finish.result c.loop-here.invariant c.in_default.ensures c.finish.ensures
