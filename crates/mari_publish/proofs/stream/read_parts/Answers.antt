use Rattle.std.proofs.Common.{List, ℕ, Option, Ok, Err, ap, subst, sym}
use Rattle.mari_io.specs.Outside.{page_of}
use Rattle.mari_publish.proofs.Paging.{opened-page}
use Rattle.mari_publish.specs.Streams.{ReadStates, stop_of_text}
use Rattle.mari_publish.proofs.Streaming.{end-any, end-reported, end-stops, end-whole, open-any, open-fault}
use Rattle.mari_publish.proofs.stream.read_parts.Goals as goal

pub returns-in-Err-clause-any : goal.returns-in-Err-clause-any
returns-in-Err-clause-any g c = rw c.stop_unopened.ensures (open-any (g.P.PartsSoFar.Took c.args.so_far.now c.args.with.now c.args.so_far.now c.args.with.now)
    (g.P.PartsSoFar.Breaks c.args.so_far.now c.args.with.now c.args.so_far.now c.args.with.now) c.in-Err.fault (λ e. c.in-Err.ensures.not_too_long (ap (λ x. Err x) e)) c.requires)

pub returns-in-Err-clause-reported : goal.returns-in-Err-clause-reported
returns-in-Err-clause-reported g c = λ reported e.
    rw c.stop_unopened.ensures (open-fault (g.P.PartsSoFar.Took c.args.so_far.now c.args.with.now c.args.so_far.now c.args.with.now) (g.P.PartsSoFar.Breaks c.args.so_far.now c.args.with.now
    c.args.so_far.now c.args.with.now) (Unit {0}) (page_of reported c.args.name.now) (g.S.Shelf.rest c.open_page.new.self) c.in-Err.fault c.requires (c.in-Err.ensures.reported reported e))

pub returns-in-Ok-end-clause-any : goal.returns-in-Ok-end-clause-any
returns-in-Ok-end-clause-any g c =
    let all = c.in-Ok-read_pieces.ensures.any in
    end-any (g.P.PartsSoFar.Took c.args.so_far.now c.args.with.now c.read_pieces.new.so_far c.read_pieces.new.with) (g.P.PartsSoFar.Breaks c.args.so_far.now c.args.with.now c.read_pieces.new.so_far
    c.read_pieces.new.with) all.0 c.read_pieces.new.reader all.1 (tt {0}) (c.in-Ok-end.ensures.end all.0 all.1.parts all.1.taken.stands)

pub returns-in-Ok-end-clause-reported : goal.returns-in-Ok-end-clause-reported
returns-in-Ok-end-clause-reported g c = λ reported e.
    let open_is = opened-page (tt {0}) (page_of reported c.args.name.now) _ (c.in-Ok.ensures.reported reported e) in
    let all = c.in-Ok-read_pieces.ensures.reported open_is.0 open_is.2 in
    let whole = end-whole (g.P.PartsSoFar.Took c.args.so_far.now c.args.with.now c.read_pieces.new.so_far c.read_pieces.new.with)
    (g.P.PartsSoFar.Breaks c.args.so_far.now c.args.with.now c.read_pieces.new.so_far c.read_pieces.new.with) open_is.0 c.read_pieces.new.reader all.1 (tt {0}) all.0
    (c.in-Ok-end.ensures.end open_is.0 all.1.parts all.1.taken.stands) in
    subst (λ (p : Option (List ℕ)). ReadStates (g.P.PartsSoFar.Took c.args.so_far.now c.args.with.now c.read_pieces.new.so_far c.read_pieces.new.with)
    (g.P.PartsSoFar.Breaks c.args.so_far.now c.args.with.now c.read_pieces.new.so_far c.read_pieces.new.with) p (Ok (tt {0}))) (sym open_is.1) whole

pub returns-in-Err-end-clause-reported : goal.returns-in-Err-end-clause-reported
returns-in-Err-end-clause-reported g c = λ reported e.
    let open_is = opened-page (tt {0}) (page_of reported c.args.name.now) _ (c.in-Ok.ensures.reported reported e) in
    let all = c.in-Ok-read_pieces.ensures.reported open_is.0 open_is.2 in
    let cut = end-reported (g.P.PartsSoFar.Took c.args.so_far.now c.args.with.now c.read_pieces.new.so_far c.read_pieces.new.with)
    (g.P.PartsSoFar.Breaks c.args.so_far.now c.args.with.now c.read_pieces.new.so_far c.read_pieces.new.with) open_is.0 c.read_pieces.new.reader all.1 (Unit {0}) c.in-Err-end.fault all.0
    (c.in-Err-end.ensures.end open_is.0 all.1.parts all.1.taken.stands) in
    rw c.stop_of_reader.ensures (subst (λ (p : Option (List ℕ)). ReadStates (g.P.PartsSoFar.Took c.args.so_far.now c.args.with.now c.read_pieces.new.so_far c.read_pieces.new.with)
    (g.P.PartsSoFar.Breaks c.args.so_far.now c.args.with.now c.read_pieces.new.so_far c.read_pieces.new.with) p (Err (stop_of_text c.in-Err-end.fault))) (sym open_is.1) cut)

pub returns-in-Err-end-clause-stops : goal.returns-in-Err-end-clause-stops
returns-in-Err-end-clause-stops g c = λ reported page e is.
    let open_is = opened-page (tt {0}) (page_of reported c.args.name.now) _ (c.in-Ok.ensures.reported reported e) in
    let all = c.in-Ok-read_pieces.ensures.reported open_is.0 open_is.2 in
    rw c.stop_of_reader.ensures (end-stops g.row.P-Stop.Denot g.S.Shelf.rest g.S.Shelf.fetches page c.read_pieces.new.shelf (Unit {0}) open_is.0 all.1.parts c.in-Err-end.fault
    (c.in-Err-end.ensures.end open_is.0 all.1.parts all.1.taken.stands))

pub returns-in-Err-read_pieces-clause-reported : goal.returns-in-Err-read_pieces-clause-reported
returns-in-Err-read_pieces-clause-reported g c = λ reported e.
    let open_is = opened-page (tt {0}) (page_of reported c.args.name.now) _ (c.in-Ok.ensures.reported reported e) in
    subst (λ (p : Option (List ℕ)). ReadStates (g.P.PartsSoFar.Took c.args.so_far.now c.args.with.now c.read_pieces.new.so_far c.read_pieces.new.with)
    (g.P.PartsSoFar.Breaks c.args.so_far.now c.args.with.now c.read_pieces.new.so_far c.read_pieces.new.with) p (Err c.in-Err-read_pieces.stop)) (sym open_is.1)
    (c.in-Err-read_pieces.ensures.reported open_is.0 open_is.2)
