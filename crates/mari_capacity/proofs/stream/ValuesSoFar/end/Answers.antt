use Rattle.mari_publish.specs.Pieces.{parts_of}
use Rattle.mari_capacity.proofs.Endings.{ends-invalid, ends-valid, has-verdict, states-valid}
use Rattle.mari_capacity.proofs.stream.ValuesSoFar.end.Goals as goal
use Rattle.mari_capacity.proofs.stream.ValuesSoFar.end.Goals.{in-Invalid, in-Valid+in_ok-put_done-in-Valid}

pub unwrap-requires : goal.unwrap-requires
unwrap-requires c = let r = c.requires.read in has-verdict r.0 r.1 r.2 c.args.self r.3

pub returns-clause-reported : goal.returns-clause-reported
returns-clause-reported c = λ books more text a short.
    rw c.of.ensures (elim c.match-unwrap.branch [
      | in-Invalid w ↦ rw (w.end-is, w.lines-is) (ends-invalid books more text c.args.self a w.in-Invalid.run' w.in-Invalid.fault short w.in-Invalid.ensures)
      | in-Valid+in_ok-put_done-in-Valid w ↦ rw (w.end-is, w.lines-is)
          (ends-valid books more text c.args.self a w.in-Valid.published w.in-Valid.unpublished _ short w.in-Valid.ensures w.in_ok-put_done-in-Valid.ensures)
    ])

pub returns-clause-lines : goal.returns-clause-lines
returns-clause-lines c = λ books more text a.
    rw c.of.ensures (elim c.match-unwrap.branch [
      | in-Invalid w ↦ rw (w.end-is, w.lines-is) (parts_of a.publication, a.taken.states)
      | in-Valid+in_ok-put_done-in-Valid w ↦ rw (w.end-is, w.lines-is)
          (states-valid books more text c.args.self a w.in-Valid.published w.in-Valid.unpublished _ w.in-Valid.ensures w.in_ok-put_done-in-Valid.ensures)
    ])
