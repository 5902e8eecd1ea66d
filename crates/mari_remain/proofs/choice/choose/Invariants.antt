use Rattle.mari_links.specs.Links.{has_gate}
use Rattle.mari_remain.specs.Available.{is_available}
use Rattle.mari_remain.specs.FirstBlocks.{taken_in}
use Rattle.mari_remain.proofs.Choosing.{IsChosen, order_chosen}
use Rattle.mari_remain.proofs.choice.choose.Given as goal

-- the available bids so far, the gated ones among them, and their orders
abbrev pub invariant-loop-number : goal.invariant-loop-number
invariant-loop-number l =
    IsChosen (is_available l.books (taken_in l.books l.remaining l.run.quarter) l.run) (has_gate l.books.links) (order_chosen l.books l.remaining l.run)
    l.all l.number-index l.choice.numbers.items l.choice.gated.items l.choice.orders.items
