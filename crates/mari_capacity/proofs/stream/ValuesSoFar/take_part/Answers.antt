use Rattle.std.proofs.Common.{refl}
use Rattle.mari_check.proofs.Ending.{after-is, few-runs}
use Rattle.mari_check.proofs.Streaming.{first-checked, later-block, later-totals}
use Rattle.mari_capacity.specs.Ends.{blocks_in}
use Rattle.mari_capacity.proofs.Parts.{block-goes-on, block-stops, head-goes-on, head-stops, open-blocks, still-open, totals-taken}
use Rattle.mari_capacity.proofs.stream.ValuesSoFar.take_part.Goals as goal

pub head-requires : goal.head-requires
head-requires c =
    let r = c.requires.comes in
    first-checked c.args.books.now r.0 c.args.self.now.day c.args.part.now _ _ _ c.in-Head.is (still-open c.args.books.now _ r.0 c.args.self.now c.args.part.now r.1 r.2) r.2

pub next_run-run-requires : goal.next_run-run-requires
next_run-run-requires c =
    let r = c.requires.comes in
    let checked = open-blocks c.args.books.now r.0 c.args.self.now.day (still-open c.args.books.now _ r.0 c.args.self.now c.args.part.now r.1 r.2) in
    few-runs c.args.books.now c.requires.accepted (blocks_in r.0) c.args.self.now.day checked

pub add_block-requires-clause-stands : goal.add_block-requires-clause-stands
add_block-requires-clause-stands c =
    let r = c.requires.comes in
    (blocks_in r.0, open-blocks c.args.books.now r.0 c.args.self.now.day (still-open c.args.books.now _ r.0 c.args.self.now c.args.part.now r.1 r.2))

pub end-requires-clause-stands : goal.end-requires-clause-stands
end-requires-clause-stands c =
    let r = c.requires.comes in
    (blocks_in r.0, open-blocks c.args.books.now r.0 c.args.self.now.day (still-open c.args.books.now _ r.0 c.args.self.now c.args.part.now r.1 r.2))

pub returns-in-Head-clause-taken : goal.returns-in-Head-clause-taken
returns-in-Head-clause-taken c = λ parts t come.
    head-goes-on c.args.books.now c.args.self.now.more parts c.args.self.now _ c.args.part.now t come _ _ _ c.in-Head.is c.head.ensures.budget
    c.head.ensures.stands refl refl refl c.head.result c.stop_at.result c.head.ensures.finds c.stop_at.ensures

pub returns-in-Head-clause-stops : goal.returns-in-Head-clause-stops
returns-in-Head-clause-stops c = λ parts t come.
    head-stops c.args.books.now c.args.self.now.more parts c.args.self.now (record c.args.self.now { day = c.head.new.self }) c.args.part.now t come _
    _ _ c.in-Head.is c.head.ensures.budget c.head.ensures.stands refl refl refl c.head.result c.stop_at.result c.head.ensures.finds c.stop_at.ensures

pub returns-in-Block-clause-taken : goal.returns-in-Block-clause-taken
returns-in-Block-clause-taken c = λ parts t come.
    let checked = open-blocks c.args.books.now parts c.args.self.now.day (still-open c.args.books.now _ parts c.args.self.now c.args.part.now t come) in
    let after = after-is c.args.books.now c.requires.accepted (blocks_in parts) c.args.self.now.day checked c.next_run-run.result c.next_run-run.ensures in
    let later = later-block c.args.part.now c.in-Block.block c.in-Block.is in
    block-goes-on c.args.books.now c.args.self.now.more parts c.args.self.now c.add_block.new.self c.args.part.now t come c.in-Block.block
    c.in-Block.is later c.next_run-run.result after c.add_block.ensures.same c.add_block.result c.stop_at-in-Block.result
    (c.add_block.ensures.finds (blocks_in parts) checked) (c.add_block.ensures.stands (blocks_in parts) checked)
    (c.add_block.ensures.lines (blocks_in parts) checked t.states.lines) c.stop_at-in-Block.ensures

pub returns-in-Block-clause-stops : goal.returns-in-Block-clause-stops
returns-in-Block-clause-stops c = λ parts t come.
    let checked = open-blocks c.args.books.now parts c.args.self.now.day (still-open c.args.books.now _ parts c.args.self.now c.args.part.now t come) in
    let after = after-is c.args.books.now c.requires.accepted (blocks_in parts) c.args.self.now.day checked c.next_run-run.result c.next_run-run.ensures in
    let later = later-block c.args.part.now c.in-Block.block c.in-Block.is in
    block-stops c.args.books.now c.args.self.now.more parts c.args.self.now c.add_block.new.self c.args.part.now t come c.in-Block.block c.in-Block.is
    later c.next_run-run.result after c.add_block.ensures.same c.add_block.result c.stop_at-in-Block.result
    (c.add_block.ensures.finds (blocks_in parts) checked) c.add_block.ensures.kept c.stop_at-in-Block.ensures

pub returns-in-Totals-clause-taken : goal.returns-in-Totals-clause-taken
returns-in-Totals-clause-taken c = λ parts t come.
    totals-taken c.args.books.now c.args.self.now.more parts c.args.self.now _ c.args.part.now t come c.in-Totals.operators c.in-Totals.providers
    c.in-Totals.is (later-totals c.args.part.now c.in-Totals.operators c.in-Totals.providers c.in-Totals.is) c.end.result
    (λ p head budget checked first second. c.end.ensures p head budget checked (rw c.as_slice-lines.ensures first) (rw c.as_slice.ensures second)) refl refl refl
