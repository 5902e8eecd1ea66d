use Rattle.std.proofs.Common.{◌≡◌, ◌≤◌}
use Rattle.mari_day.proofs.Framing.{WroteFirst}
use Rattle.mari_day.proofs.frame.write_day.Given as goal

-- the head and the blocks of the runs before this one were written; the count of faults hasn't fallen
abbrev pub invariant-loop-run : goal.invariant-loop-run
invariant-loop-run g l =
    let form = g.D.DaySoFar in
    let of = form.of l.fn.day in
    record {
      same : form.of l.day ≡ of;
      wrote : WroteFirst (form.runs of) (form.IsNext of) (form.head_text of) (form.block_text of) (form.Keeps l.day) l.run (g.K.Sink.taken l.fn.sink) (g.K.Sink.taken l.sink);
      faults : g.K.Sink.faults l.fn.sink ≤ g.K.Sink.faults l.sink;
      ready : form.Ready l.by;
    }
