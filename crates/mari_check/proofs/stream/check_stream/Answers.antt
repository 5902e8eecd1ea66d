use Rattle.std.proofs.Common.{Ok, Err, refl}
use Rattle.std.specs.Prelude.{⊤}
use Rattle.mari_io.specs.Outside.{page_of}
use Rattle.mari_publish.specs.Pieces.{parts_of}
use Rattle.mari_check.specs.SoFar.{KeepsVerdict}
use Rattle.mari_check.proofs.Piecewise.{fault-states, fault-stops, states-whole, verdict-states}
use Rattle.mari_check.proofs.Streaming.{all-found}
use Rattle.mari_check.proofs.stream.check_stream.Goals as goal

pub unwrap-requires : goal.unwrap-requires
unwrap-requires g c =
    let w = c.in-Ok-read_parts.ensures.any.1 in
    let now = c.read_parts.new.so_far in
    all-found c.args.books.now w.publication (parts_of w.publication) now.day now.found refl w.took.found

pub returns-in-Ok-read_parts-clause-reported : goal.returns-in-Ok-read_parts-clause-reported
returns-in-Ok-read_parts-clause-reported g c = λ reported e.
    verdict-states c.args.books.now c.read_parts.new.so_far _ (page_of reported c.args.name.now) (tt {0}) c.unwrap.result c.unwrap.ensures (c.in-Ok-read_parts.ensures.reported reported e)

pub returns-in-Ok-read_parts-clause-whole : goal.returns-in-Ok-read_parts-clause-whole
returns-in-Ok-read_parts-clause-whole g c = λ reported page answer e is o.
    states-whole c.args.books.now (page_of reported c.args.name.now) page answer (Ok c.unwrap.result) (returns-in-Ok-read_parts-clause-reported g c reported e) is o

pub returns-clause-reported : goal.returns-clause-reported
returns-clause-reported g c = λ reported e.
    rw c.fault_of.ensures (fault-states (λ parts. KeepsVerdict c.args.books.now parts c.read_parts.new.so_far) (λ parts x stop. ⊤) (page_of reported c.args.name.now) c.in-Err-read_parts.stop
    (c.in-Err-read_parts.ensures.reported reported e))

pub returns-clause-stops : goal.returns-clause-stops
returns-clause-stops g c = λ reported page e is.
    rw c.fault_of.ensures (fault-stops g.S.Shelf.rest g.S.Shelf.fetches page c.read_parts.new.shelf c.in-Err-read_parts.stop (c.in-Err-read_parts.ensures.stops reported page e is))

pub returns-clause-whole : goal.returns-clause-whole
returns-clause-whole g c = λ reported page answer e is o.
    states-whole c.args.books.now (page_of reported c.args.name.now) page answer (Err c.fault_of.result) (returns-clause-reported g c reported e) is o
