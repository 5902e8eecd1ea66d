use Rattle.mari_reach_check.proofs.Parts.{block-found, first-checked, head-found, later-block, later-totals, totals-settle, way}
use Rattle.mari_reach_check.proofs.day.ReachDayCheck.part.Goals as goal

pub head_verdict-found-requires : goal.head_verdict-found-requires
head_verdict-found-requires c = let s = c.requires.comes in first-checked c.args.books.now s.0 c.args.self.now c.args.part c.in-Head.date c.in-Head.quarters c.in-Head.budget c.in-Head.is s.1 s.2

pub block_verdict-requires-clause-stands : goal.block_verdict-requires-clause-stands
block_verdict-requires-clause-stands c =
    let s = c.requires.comes in
    let w = way c.args.books.now s.0 c.args.self.now c.args.part (later-block c.args.part c.in-Block.block c.in-Block.is) s.1 s.2 in
    (w.clear.blocks, w.clear.checked)

pub returns-in-Head : goal.returns-in-Head
returns-in-Head c = λ parts fine comes.
    head-found c.args.books.now parts c.args.self.now fine c.args.part comes c.in-Head.date c.in-Head.quarters c.in-Head.budget c.in-Head.is
    c.head_verdict-found.result c.head_verdict-found.ensures.states c.head_verdict-found.new.self c.head_verdict-found.ensures.stands c.head_verdict-found.ensures.budget

pub returns-in-Block : goal.returns-in-Block
returns-in-Block c = λ parts fine comes.
    let books = c.args.books.now in
    let w = way books parts c.args.self.now c.args.part (later-block c.args.part c.in-Block.block c.in-Block.is) fine comes in
    block-found books parts c.args.self.now c.args.part w c.in-Block.block c.in-Block.is c.block_verdict.new.self c.block_verdict.result
    (c.block_verdict.ensures.states w.clear.blocks w.clear.checked) (c.block_verdict.ensures.stands w.clear.blocks w.clear.checked) c.block_verdict.ensures.budget

pub returns-in-Totals : goal.returns-in-Totals
returns-in-Totals c = λ parts fine comes.
    let books = c.args.books.now in
    let w = way books parts c.args.self.now c.args.part (later-totals c.args.part c.in-Totals.operators c.in-Totals.providers c.in-Totals.is) fine comes in
    totals-settle books parts c.args.self.now c.args.part w c.in-Totals.operators c.in-Totals.providers c.in-Totals.is c.last_verdict-found.result
    (λ p head budget checked first second. c.last_verdict-found.ensures p head budget checked (rw c.as_slice.ensures first) (rw c.as_slice-in-Totals.ensures second))
