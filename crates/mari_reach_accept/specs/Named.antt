-- A printed block as the checker reads it: bids and zones by their names.
use Rattle.std.specs.Prelude.{ℕ, List, map, slice_index_or}
use Rattle.mari_rows.specs.Names.{name_at}
use Rattle.mari_remain.specs.declared.books.Books.{Books}
use Rattle.mari_progress.specs.Totals.{operator_totals, provider_totals}
use Rattle.mari_reach.specs.declared.decisions.Choice.{Choice}
use Rattle.mari_reach.specs.declared.decisions.Choice.TheVariants.{OfGate, OfPrice}
use Rattle.mari_reach.specs.declared.decisions.ReachItem.{ReachItem}
use Rattle.mari_reach.specs.declared.decisions.ReachItem.TheVariants.{Branch, Leaf}
use Rattle.mari_reach.specs.declared.decisions.ReachLeaf.{ReachLeaf}
use Rattle.mari_reach.specs.declared.decisions.ReachLeaf.TheVariants.{Void, Bound, Cut}
use Rattle.mari_reach_text.specs.Texts.{ReachPublication}
use Rattle.mari_reach_text.specs.declared.named.NamedBlock.{NamedBlock}
use Rattle.mari_reach_text.specs.declared.named.NamedItem.{NamedItem}
use Rattle.mari_reach_text.specs.declared.named.NamedItem.TheVariants as named
use Rattle.mari_reach_day.specs.declared.block.ReachBlock.{ReachBlock}
use Rattle.mari_reach_day.specs.Reach.{blocks_of}

-- a choice by names: the bid whose gate is decided, or the zone whose price is
abbrev pub named_choice : Books → (gated : List ℕ) → Choice → NamedItem
named_choice books gated (OfGate gate) = named.Gate (name_at books.bids.ids (slice_index_or gated gate 0))
named_choice books gated (OfPrice zone price) = named.Price (name_at books.zones.zones zone) price

-- a leaf names nothing
abbrev pub named_leaf : ReachLeaf → NamedItem
named_leaf Void = named.Void
named_leaf (Bound potentials) = named.Bound potentials
named_leaf (Cut cut) = named.Cut cut

-- an item of a tree by names
abbrev pub named_item : Books → (gated : List ℕ) → ReachItem → NamedItem
named_item books gated (Branch choice) = named_choice books gated choice
named_item books gated (Leaf leaf) = named_leaf leaf

-- a block by names
abbrev pub named_of : Books → ReachBlock → NamedBlock
named_of books r = record { block = r.block; claim = r.claim; tree = map (named_item books r.gated) r.tree }

-- the blocks of a day by names
abbrev pub all_named : Books → List ReachBlock → List NamedBlock
all_named books blocks = map (named_of books) blocks

-- what the text of a day says: the head of the books, the blocks, and their sums
abbrev pub publication_of : Books → (budget : ℕ) → List ReachBlock → ReachPublication
publication_of books budget blocks = record {
  date = books.date;
  quarters = books.quarters;
  budget = budget;
  blocks = all_named books blocks;
  operators = operator_totals books (blocks_of blocks);
  providers = provider_totals books (blocks_of blocks);
}
