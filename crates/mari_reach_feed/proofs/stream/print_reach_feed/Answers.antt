use Rattle.mari_io.specs.Outside.{page_of}
use Rattle.mari_reach_feed.proofs.Feeding.{feed_printed, feed_stopped}
use Rattle.mari_reach_feed.proofs.stream.print_reach_feed.Goals as goal

pub returns-in-Ok-clause-reported : goal.returns-in-Ok-clause-reported
returns-in-Ok-clause-reported g c = λ reported e.
    feed_printed (g.K.Sink.taken c.args.sink.now) (g.K.Sink.taken c.read_text_parts.new.with) (page_of reported c.args.name.now) (tt {0}) (c.in-Ok.ensures.reported reported e)

pub returns-in-Err-clause-reported : goal.returns-in-Err-clause-reported
returns-in-Err-clause-reported g c = λ reported e.
    rw c.stop_of.ensures
    (feed_stopped (g.K.Sink.taken c.args.sink.now) (g.K.Sink.taken c.read_text_parts.new.with) (page_of reported c.args.name.now) c.in-Err.stop (c.in-Err.ensures.reported reported e))
