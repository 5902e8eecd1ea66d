use Rattle.mari_io.specs.Outside.{page_of}
use Rattle.mari_feed.proofs.Feeding.{feed_printed, feed_stopped, same_as_read}
use Rattle.mari_feed.proofs.stream.print_feed.Goals as goal

pub returns-in-Ok-clause-reported : goal.returns-in-Ok-clause-reported
returns-in-Ok-clause-reported g c = λ reported e.
    feed_printed (g.K.Sink.taken c.args.sink.now) (g.K.Sink.taken c.read_parts.new.with) (page_of reported c.args.name.now) (tt {0}) (c.in-Ok.ensures.reported reported e)

pub returns-in-Err-clause-reported : goal.returns-in-Err-clause-reported
returns-in-Err-clause-reported g c = λ reported e.
    rw c.stop_of.ensures (feed_stopped (g.K.Sink.taken c.args.sink.now) (g.K.Sink.taken c.read_parts.new.with) (page_of reported c.args.name.now) c.in-Err.stop (c.in-Err.ensures.reported reported e))

pub returns-in-Ok-clause-whole : goal.returns-in-Ok-clause-whole
returns-in-Ok-clause-whole g c = λ reported page answer e is o.
    same_as_read (Unit {0}) (page_of reported c.args.name.now) (g.K.Sink.taken c.args.sink.now) _ _ (returns-in-Ok-clause-reported g c reported e) page is answer o

pub returns-in-Err-clause-whole : goal.returns-in-Err-clause-whole
returns-in-Err-clause-whole g c = λ reported page answer e is o.
    same_as_read (Unit {0}) (page_of reported c.args.name.now) (g.K.Sink.taken c.args.sink.now) _ _ (returns-in-Err-clause-reported g c reported e) page is answer o
