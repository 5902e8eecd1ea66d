-- Which line may follow what has come, and what has come then.
use Rattle.std.specs.Prelude.{◌≡◌, ℕ, ◌+◌, ◌<◌, Bool, true, false, ◌&&◌, List, [], ◌∷◌, ◌++◌, map, length, nat_lt, ◌==◌, Option, Some, None, option_and_then, Result, Ok, Err, if◌then◌else◌, ⊤, ℤ}
use Rattle.std.specs.List.{flat_map}
use Rattle.mari_units.specs.declared.numbers.Cents.{Cents}
use Rattle.mari_market.specs.declared.certificate.Leaf.TheVariants as leaves
use Rattle.mari_market.specs.declared.certificate.TreeItem.{TreeItem}
use Rattle.mari_market.specs.declared.certificate.TreeItem.TheVariants as items
use Rattle.mari_lines.specs.declared.line.AmountLine.{AmountLine}
use Rattle.mari_lines.specs.declared.line.MoneyLine.{MoneyLine}
use Rattle.mari_publish.specs.declared.publication.Publication.{Publication}
use Rattle.mari_publish.specs.declared.publication.Block.{Block}
use Rattle.mari_publish.specs.declared.publication.Block.TheVariants as block
use Rattle.mari_lines.specs.declared.line.Line.{Line}
use Rattle.mari_lines.specs.declared.line.Line.TheVariants as line
use Rattle.mari_publish.specs.declared.held.Pending.{Pending}
use Rattle.mari_publish.specs.declared.held.Pending.TheVariants.{Nothing, Zones, At, Flows}
use Rattle.mari_publish.specs.declared.held.Listing.{Listing}
use Rattle.mari_publish.specs.declared.held.Growing.{Growing}
use Rattle.mari_publish.specs.declared.held.Ending.{Ending}
use Rattle.mari_publish.specs.declared.held.Held.{Held}
use Rattle.mari_publish.specs.declared.held.Held.TheVariants as held
use Rattle.mari_publish.specs.declared.publication.Part.{Part}
use Rattle.mari_publish.specs.declared.publication.Part.TheVariants as part
use Rattle.mari_publish.specs.declared.held.Counts.{Counts}
use Rattle.mari_publish.specs.declared.held.Kept.{Kept}
use Rattle.mari_publish.specs.declared.follow.step.FollowFault.{FollowFault}
use Rattle.mari_publish.specs.declared.follow.step.FollowFault.TheVariants as follow_fault
use Rattle.mari_publish.specs.Lines.{front_lines, item_lines, lines_of, market_lines_by, opening_lines_by}
use Rattle.mari_units.specs.declared.limits.TheConstants.{MOST_BIDS, MOST_BORDERS, MOST_PROVIDERS, MOST_RUNS, MOST_ZONES}

-- the lines that have come of a conflict
abbrev pub pending_lines : Pending → List Line
pending_lines Nothing = []
pending_lines (Zones zones) = line.Conflict zones ∷ []
pending_lines (At zones prices) = line.Conflict zones ∷ line.At prices ∷ []
pending_lines (Flows zones prices flows) = line.Conflict zones ∷ line.At prices ∷ line.Flows flows ∷ []

-- of a block before its tree
abbrev pub listing_lines : Listing → List Line
listing_lines b = opening_lines_by b.heading b.welfare ++ market_lines_by b.zones b.borders b.bids b.demands

-- of a block in its tree
abbrev pub growing_lines : Growing → List Line
growing_lines g = listing_lines g.listing ++ line.Tree g.count ∷ (flat_map item_lines g.tree ++ pending_lines g.pending)

-- of a block after its tree
abbrev pub ending_part : Ending → List Line
ending_part e =
    listing_lines e.listing ++ line.Tree (length e.tree) ∷ (flat_map item_lines e.tree ++ (map line.Operator e.operators ++ map line.Provider e.providers))

-- the lines of what is held
abbrev pub held_lines : Held → List Line
held_lines held.Start = []
held_lines held.Between = []
held_lines (held.Run h) = line.Run h ∷ []
held_lines (held.Listing b) = listing_lines b
held_lines (held.Growing g) = growing_lines g
held_lines (held.Ending e) = ending_part e
held_lines (held.Totals os ps) = map line.TotalOperator os ++ map line.TotalProvider ps
held_lines held.Done = []

-- whether no conflict has begun
abbrev pub is_nothing : Pending → Bool
is_nothing Nothing = true
is_nothing (Zones zones) = false
is_nothing (At zones prices) = false
is_nothing (Flows zones prices flows) = false

-- the block with one more item of its tree
abbrev pub with_item : Growing → TreeItem → Held
with_item g i = held.Growing (record { listing = g.listing; count = g.count; tree = g.tree ++ i ∷ []; pending = Nothing })

-- the block with what has come of a conflict
abbrev pub with_pending : Growing → Pending → Held
with_pending g p = held.Growing (record { listing = g.listing; count = g.count; tree = g.tree; pending = p })

-- whether a list has no item
abbrev pub is_empty : {X : Type 0} → List X → Bool
is_empty xs = length xs == 0

-- in a block before its tree: zones, borders, bids, demands, and then the tree
abbrev pub after_listing : Listing → Line → Option Held
after_listing b (line.Zone z) = if is_empty b.borders && is_empty b.bids && is_empty b.demands && nat_lt (length b.zones) MOST_ZONES
    then Some (held.Listing (record {
      heading = b.heading;
      welfare = b.welfare;
      zones = b.zones ++ z ∷ [];
      borders = b.borders;
      bids = b.bids;
      demands = b.demands;
    })) else None
after_listing b (line.Border x) = if nat_lt 0 (length b.zones) && is_empty b.bids && is_empty b.demands && nat_lt (length b.borders) MOST_BORDERS
    then Some (held.Listing (record {
      heading = b.heading;
      welfare = b.welfare;
      zones = b.zones;
      borders = b.borders ++ x ∷ [];
      bids = b.bids;
      demands = b.demands;
    })) else None
after_listing b (line.Bid x) = if nat_lt 0 (length b.zones) && is_empty b.demands && nat_lt (length b.bids) MOST_BIDS
    then Some (held.Listing (record {
      heading = b.heading;
      welfare = b.welfare;
      zones = b.zones;
      borders = b.borders;
      bids = b.bids ++ x ∷ [];
      demands = b.demands;
    })) else None
after_listing b (line.Demand place mw) = if nat_lt 0 (length b.zones) && place == length b.demands + 1
    then Some (held.Listing (record {
      heading = b.heading;
      welfare = b.welfare;
      zones = b.zones;
      borders = b.borders;
      bids = b.bids;
      demands = b.demands ++ mw ∷ [];
    })) else None
after_listing b (line.Tree n) = if nat_lt 0 (length b.zones)
    then Some (held.Growing (record { listing = b; count = n; tree = []; pending = Nothing })) else None
after_listing b _ = None

-- the item of a conflict's four lines
abbrev pub conflict_item : List ℕ → List Cents → List ℤ → List ℕ → TreeItem
conflict_item zones prices flows mws = items.Leaf (leaves.Conflict (record {
  chain = zones;
  potentials = record { cents = prices };
  activation = record { mw = mws; flow = flows };
}))

-- in a tree: an item where one is due, and after the last one an operator
abbrev pub after_growing : Growing → Pending → Line → Option Held
after_growing g Nothing line.Branch = if nat_lt (length g.tree) g.count then Some (with_item g items.Branch) else None
after_growing g Nothing (line.Bound prices) =
    if nat_lt (length g.tree) g.count then Some (with_item g (items.Leaf (leaves.Bound (record { cents = prices })))) else None
after_growing g Nothing (line.Cut cut) = if nat_lt (length g.tree) g.count then Some (with_item g (items.Leaf (leaves.Cut cut))) else None
after_growing g Nothing (line.Conflict zones) = if nat_lt (length g.tree) g.count then Some (with_pending g (Zones zones)) else None
after_growing g Nothing (line.Operator o) = if length g.tree == g.count
    then Some (held.Ending (record { listing = g.listing; tree = g.tree; operators = o ∷ []; providers = [] })) else None
after_growing g (Zones zones) (line.At prices) = Some (with_pending g (At zones prices))
after_growing g (At zones prices) (line.Flows flows) = Some (with_pending g (Flows zones prices flows))
after_growing g (Flows zones prices flows) (line.Mws mws) =
    Some (with_item g (conflict_item zones prices flows mws))
after_growing g _ _ = None

-- the published block whose lines have all come
abbrev pub full_block : Ending → Block
full_block e = block.Published (record {
  heading = e.listing.heading;
  welfare = e.listing.welfare;
  zones = e.listing.zones;
  borders = e.listing.borders;
  bids = e.listing.bids;
  demands = e.listing.demands;
  tree = e.tree;
  operators = e.operators;
  providers = e.providers;
})

-- after a tree: operators, and then providers
abbrev pub after_ending : Ending → Line → Option Held
after_ending e (line.Operator o) = if is_empty e.providers && nat_lt (length e.operators) MOST_ZONES
    then Some (held.Ending (record { listing = e.listing; tree = e.tree; operators = e.operators ++ o ∷ []; providers = e.providers })) else None
after_ending e (line.Provider p) = if nat_lt (length e.providers) MOST_BIDS
    then Some (held.Ending (record { listing = e.listing; tree = e.tree; operators = e.operators; providers = e.providers ++ p ∷ [] })) else None
after_ending e _ = None

-- one block more
abbrev pub one_published : Counts → Counts
one_published c = record { published = c.published + 1; unpublished = c.unpublished }

abbrev pub one_unpublished : Counts → Counts
one_unpublished c = record { published = c.published; unpublished = c.unpublished + 1 }

-- what is kept of the block that is being read, where its line fits; no part is whole yet
abbrev pub keeps : Kept → Option Held → Option (Kept × Option Part)
keeps k None = None
keeps k (Some h) = Some (record { held = h; counts = k.counts }, None)

-- after the head or a block
abbrev pub starts_block : Kept → Line → Option (Kept × Option Part)
starts_block k (line.Run h) = if nat_lt (k.counts.published + k.counts.unpublished) MOST_RUNS
    then Some (record { held = held.Run h; counts = k.counts }, None) else None
starts_block k (line.Unpublished h count) = if nat_lt (k.counts.published + k.counts.unpublished) MOST_RUNS
    then Some (record { held = held.Between; counts = one_unpublished k.counts }, Some (part.Block (block.Unpublished h count))) else None
starts_block k (line.TotalOperator o) = keeps k (Some (held.Totals (o ∷ []) []))
starts_block k _ = None

-- in the totals: operators, and then providers
abbrev pub after_totals : List MoneyLine → List AmountLine → Line → Option Held
after_totals os ps (line.TotalOperator o) = if is_empty ps && nat_lt (length os) MOST_ZONES then Some (held.Totals (os ++ o ∷ []) ps) else None
after_totals os ps (line.TotalProvider p) = if nat_lt (length ps) MOST_PROVIDERS then Some (held.Totals os (ps ++ p ∷ [])) else None
after_totals os ps _ = None

-- what is kept after a line, and the part that is whole with it
abbrev pub after : Kept → Held → Line → Option (Kept × Option Part)
after k held.Start (line.Head date quarters budget) = Some (record { held = held.Between; counts = k.counts }, Some (part.Head date quarters budget))
after k held.Between l = starts_block k l
after k (held.Run h) (line.Welfare n) = keeps k (Some (held.Listing (record { heading = h; welfare = n; zones = []; borders = []; bids = []; demands = [] })))
after k (held.Listing b) l = keeps k (after_listing b l)
after k (held.Growing g) l = keeps k (after_growing g g.pending l)
after k (held.Ending e) (line.End run) = if run == e.listing.heading.run
    then Some (record { held = held.Between; counts = one_published k.counts }, Some (part.Block (full_block e))) else None
after k (held.Ending e) l = keeps k (after_ending e l)
after k (held.Totals os ps) (line.Done published unpublished) = if published == k.counts.published && unpublished == k.counts.unpublished
    then Some (record { held = held.Done; counts = k.counts }, Some (part.Totals os ps)) else None
after k (held.Totals os ps) l = keeps k (after_totals os ps l)
after k _ _ = None

-- a publication with one part more
abbrev pub grown : Publication → Option Part → Publication
grown p None = p
grown p (Some (part.Head date quarters budget)) = record { date = date; quarters = quarters; budget = budget; blocks = []; operators = []; providers = [] }
grown p (Some (part.Block b)) = record {
  date = p.date;
  quarters = p.quarters;
  budget = p.budget;
  blocks = p.blocks ++ b ∷ [];
  operators = p.operators;
  providers = p.providers;
}
grown p (Some (part.Totals os ps)) = record { date = p.date; quarters = p.quarters; budget = p.budget; blocks = p.blocks; operators = os; providers = ps }

-- the lines of the parts so far, and of what is held
abbrev pub lines_so_far : Publication → Held → List Line
lines_so_far p held.Start = []
lines_so_far p held.Done = lines_of p
lines_so_far p h = front_lines p ++ held_lines h

-- a reader before the first line
abbrev pub nothing_read : Publication
nothing_read = record { date = []; quarters = 0; budget = 0; blocks = []; operators = []; providers = [] }

abbrev pub nothing_kept : Kept
nothing_kept = record { held = held.Start; counts = record { published = 0; unpublished = 0 } }

-- what is kept after so many blocks
abbrev pub kept_at : Held → (published unpublished : ℕ) → Kept
kept_at h published unpublished = record { held = h; counts = record { published = published; unpublished = unpublished } }

-- a publication so far and what is kept, after lines that may follow one another
abbrev pub after_all : Publication → Kept → List Line → Option (Publication × Kept)
after_all p k [] = Some (p, k)
after_all p k (l ∷ ls) = option_and_then (λ (x : Kept × Option Part). after_all (grown p x.1) x.0 ls) (after k k.held l)

-- what is kept, with this in place of what is held
abbrev pub kept_with : Kept → Held → Kept
kept_with k h = record { held = h; counts = k.counts }

-- what is held becomes what it should, or stays as it is: the line may not follow, or memory ran out
abbrev pub Steps : {T : Type 0} → Option Held → Held → Held → Result T FollowFault → Type 0
Steps expected old new (Ok done) = expected ≡ Some new
Steps expected old new (Err follow_fault.OutOfOrder) = (expected ≡ None) × (new ≡ old)
Steps expected old new (Err follow_fault.Memory) = new ≡ old

-- the same of what is kept, with the part that is whole
abbrev pub Follows : Option (Kept × Option Part) → Kept → Kept → Result (Option Part) FollowFault → Type 0
Follows expected old new (Ok x) = expected ≡ Some (new, x)
Follows expected old new (Err follow_fault.OutOfOrder) = (expected ≡ None) × (new ≡ old)
Follows expected old new (Err follow_fault.Memory) = new ≡ old

-- in a block there is room for it among the runs
abbrev pub HasRoom : Held → Counts → Type 0
HasRoom (held.Run h) c = c.published + c.unpublished < MOST_RUNS
HasRoom (held.Listing b) c = c.published + c.unpublished < MOST_RUNS
HasRoom (held.Growing g) c = c.published + c.unpublished < MOST_RUNS
HasRoom (held.Ending e) c = c.published + c.unpublished < MOST_RUNS
HasRoom _ c = ⊤
