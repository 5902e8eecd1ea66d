use Rattle.std.proofs.Common.{◌≤◌, length, arith}
use Rattle.mari_progress.specs.After.{before_of, run_after}
use Rattle.mari_progress.proofs.Progressing.{can-add, next, published-added, same-market}
use Rattle.mari_progress.proofs.progress.Progress.add.Goals as goal

pub after-requires-clause-stands : goal.after-requires-clause-stands
after-requires-clause-stands c =
    let books = c.args.books.now in
    let s = c.requires.next in
    let last : run_after s.0 ≤ length books.runs.runs = omega (arith, s.3, c.requires.last) in (
      before_of books s.0,
      s.2.stands,
      next books c.requires.accepted s.0 c.args.self.now s.2 c.args.run s.3,
      same-market books c.requires.accepted s.0 c.args.self.now s.2 last s.1 c.args.settled s.4 c.args.run s.3,
    )

pub add-requires : goal.add-requires
add-requires c =
    let s = c.requires.next in
    (can-add c.args.books.now c.requires.accepted s.0 c.args.self.now s.2 (omega (arith, s.3, c.requires.last)) s.1 c.args.settled s.4).ledgers

pub overflow_add-self : goal.overflow_add-self
overflow_add-self c =
    let s = c.requires.next in
    let few = (can-add c.args.books.now c.requires.accepted s.0 c.args.self.now s.2 (omega (arith, s.3, c.requires.last)) s.1 c.args.settled s.4).few in
    omega (arith, few)

pub returns : goal.returns
returns c = λ blocks block progress is own.
    let books = c.args.books.now in
    let last : run_after blocks ≤ length books.runs.runs = omega (arith, is, c.requires.last) in
    let e = next books c.requires.accepted blocks c.args.self.now progress c.args.run is in
    let stands = c.after.ensures (before_of books blocks) progress.stands e (same-market books c.requires.accepted blocks c.args.self.now progress last block c.args.settled own c.args.run is) in
    let kept = c.keep.ensures in
    published-added books c.requires.accepted blocks c.args.self.now progress last block c.args.settled own c.args.run is c.keep.new.self (rw kept.remaining stands)
    (rw kept.totals c.add.ensures.operators) (rw kept.totals c.add.ensures.providers) (rw kept.totals c.add.ensures.rents) (rw c.run_entry.ensures at kept.scheduled) kept.published
