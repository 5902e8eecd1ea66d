use Rattle.std.proofs.Common.{arith}
use Rattle.std.proofs.lemmas.List.Elements.{All-push}
use Rattle.mari_reach_day.specs.Ranges.{ReachFits}
use Rattle.mari_reach_day.specs.Reach.{blocks_of}
use Rattle.mari_reach_text.proofs.Accepted.{at_most_one}
use Rattle.mari_reach_day.proofs.Counts.{both_kinds, first_more}
use Rattle.mari_reach_day.proofs.Progressing.{next_run, one_more, run_of}
use Rattle.mari_reach_day.proofs.writing.ReachSoFarDaySoFarUnit.next.Goals as goal

pub run_reached-requires-clause-stands : goal.run_reached-requires-clause-stands
run_reached-requires-clause-stands c = let s = c.requires.kept in (s.0, s.1.kept, run_of s.0 c.args.run s.2)

pub overflow_add-self : goal.overflow_add-self
overflow_add-self c =
    let s = c.requires.kept in
    omega (arith, c.one_if_first.ensures, at_most_one c.in_ok-block.field-0.block.claim, s.1.counted, both_kinds s.0, s.2, c.requires.last, s.1.accepted.runs.few)

pub add-requires-clause-next : goal.add-requires-clause-next
add-requires-clause-next c =
    let day = c.args.self.now in
    let books = day.books.now in
    let s = c.requires.kept in
    let is = run_of s.0 c.args.run s.2 in
    let done = c.in_ok-block.ensures.done s.0 s.1.kept is in
    (blocks_of s.0, c.in_ok-block.field-0.block.block, s.1.kept, is, next_run books day.budget s.0 c.in_ok-block.field-0.block done.block c.in_ok-block.field-0.settled done.settled)

pub returns-clause-next : goal.returns-clause-next
returns-clause-next c = λ blocks keeps is.
    let day = c.args.self.now in
    let books = day.books.now in
    let run = c.in_ok-block.field-0 in
    let after = run_of blocks c.args.run is in
    let done = c.in_ok-block.ensures.done blocks keeps.kept after in
    let adds = next_run books day.budget blocks run.block done.block run.settled done.settled in
    record {
      block = run.block;
      is_next = done.block;
      keeps = record {
        accepted = keeps.accepted;
        dated = keeps.dated;
        nodes = keeps.nodes;
        fits = All-push ReachFits blocks run.block keeps.fits c.in_ok-block.ensures.fits;
        kept = one_more books blocks run.block _ (c.add.ensures (blocks_of blocks) run.block.block keeps.kept after adds);
        counted = omega (arith, keeps.counted, c.one_if_first.ensures, first_more blocks run.block);
      };
      spelled = c.in_ok-text.ensures;
    }
