-- Which gates and zones of a run's market the names of a text stand for.
use Rattle.std.specs.Prelude.{ℕ, ◌≡◌, List, Option, Some, filter, map, option_map, position}
use Rattle.std.specs.Option.{option_and_then}
use Rattle.std.specs.Str.{bytes_eq}
use Rattle.mari_links.specs.Links.{has_gate}
use Rattle.mari_remain.specs.RunMarket.{gate_of as gate_in}
use Rattle.mari_remain.specs.declared.books.Books.{Books}
use Rattle.mari_remain.specs.declared.market.RunMarket.{RunMarket}
use Rattle.mari_reach.specs.declared.decisions.Choice.TheVariants.{OfGate, OfPrice}
use Rattle.mari_reach.specs.declared.decisions.ReachItem.{ReachItem}
use Rattle.mari_reach.specs.declared.decisions.ReachItem.TheVariants.{Branch, Leaf}
use Rattle.mari_reach.specs.declared.decisions.ReachLeaf.TheVariants as leaf
use Rattle.mari_reach_text.specs.declared.named.NamedItem.{NamedItem}
use Rattle.mari_reach_text.specs.declared.named.NamedItem.TheVariants as named

-- the bids of a run's market that have a gate, by their numbers: their gates are numbered in this order
abbrev pub gated_of : Books → RunMarket → List ℕ
gated_of books made = filter (has_gate books.links) made.bids

-- the gate of the bid of a name, where it is one of these
abbrev pub gate_of_name : Books → (gated : List ℕ) → (name : List ℕ) → Option ℕ
gate_of_name books gated name = option_and_then (gate_in gated) (position (bytes_eq name) books.bids.ids)

-- the item that a named one stands for, where its gate or its zone is there
abbrev pub item_of : Books → (gated : List ℕ) → NamedItem → Option ReachItem
item_of books gated (named.Gate name) = option_map (λ gate. Branch (OfGate gate)) (gate_of_name books gated name)
item_of books gated (named.Price name price) = option_map (λ zone. Branch (OfPrice zone price)) (position (bytes_eq name) books.zones.zones)
item_of books gated named.Void = Some (Leaf leaf.Void)
item_of books gated (named.Bound potentials) = Some (Leaf (leaf.Bound potentials))
item_of books gated (named.Cut cut) = Some (Leaf (leaf.Cut cut))

-- named items stand for this tree, item by item
abbrev pub IsNumbered : Books → (gated : List ℕ) → List NamedItem → List ReachItem → Type 0
IsNumbered books gated items tree = map (item_of books gated) items ≡ map Some tree
