use Rattle.std.proofs.Common.{◌≡◌, ◌++◌, drop}
use Rattle.mari_islands.specs.Islands.{has_first}
use Rattle.mari_islands.specs.Lists.{places_from}
use Rattle.mari_islands.specs.Part.{is_order_in}
use Rattle.mari_islands.proofs.part.order_numbers.Given as goal

-- with those still to come it is the whole
abbrev pub invariant-loop-number : goal.invariant-loop-number
invariant-loop-number l =
    l.numbers.items ++ places_from (is_order_in (has_first l.firsts l.first)) l.number (drop l.number l.orders) ≡ places_from
    (is_order_in (has_first l.firsts l.first)) 0 l.orders
