-- What contracts see of a pool, what always holds of it, and what its calls change.
use Rattle.std.specs.Prelude.{◌≡◌, ℕ, ◌+◌, ◌-◌, ◌*◌, ◌<◌, ◌≤◌, max, pos, Bool, true, false, if◌then◌else◌, List, [], ◌∷◌, ◌++◌, length, map, drop, replicate, Some, slice_get, slice_set}
use Rattle.mari_market.specs.declared.market.Market.{Market}
use Rattle.mari_market.specs.declared.finding.Finding.{Finding}
use Rattle.mari_market.specs.Relaxation.{IsClosedWelfare}
use Rattle.mari_core.specs.declared.node.NodeState.{NodeState}
use Rattle.mari_core.specs.declared.node.NodeState.TheVariants.{Untaken, Taken, Branched, Closed}
use Rattle.mari_core.specs.declared.journal.JournalEntry.{JournalEntry}
use Rattle.mari_core.specs.declared.journal.JournalEntry.TheVariants as journal
use Rattle.mari_core.specs.Nodes.{TreeNode, words_of, state_at}
use Rattle.mari_core.specs.Growth.{Grown, Entry, seed, grown, grown_by, settling, in_journal, IsGrowth, JournalLeadsTo}
use Rattle.mari_core.specs.Growth.Entry.{Take, Close, Branch, Full, GiveBack}
use Rattle.mari_incumbent.specs.Incumbent.{IncumbentId, SeatView, seat_view, IsFresh}
use Rattle.mari_pool.specs.Queued.{first_key, child_key}
use Rattle.mari_pool.specs.declared.ticket.Settled.{Settled}
use Rattle.mari_pool.specs.declared.ticket.Settled.TheVariants as settled

-- ---- what a pool is

-- a pool: its tree; the key of each node; its journal, and for how many entries that has room; the turn at which each
-- node was last taken, where a turn is the place of its entry; which worker numbers gave a ticket back; and the pool's
-- own seat
pub record Pooled : Type 0 where
  pub tree : Grown
  pub keys : List ℕ
  pub journal : List JournalEntry
  pub room : ℕ
  pub turns : List ℕ
  pub returned : List Bool
  pub seat : SeatView

-- at the start the empty word waits, with the greatest key
abbrev pub new_pool : Market → ℕ → ℕ → ℕ → SeatView → Pooled
new_pool m budget workers room seat = record {
  tree = seed m budget;
  keys = first_key ∷ [];
  journal = [];
  room = room;
  turns = replicate budget 0;
  returned = replicate (workers + 1) false;
  seat = seat;
}

-- ---- the journal's room

-- how many entries a node may still have: none once a node could not branch, and it isn't taken
abbrev pub owed_in : Bool → NodeState → ℕ
owed_in full Untaken = if full then 0 else 2
owed_in full (Taken k) = 1
owed_in full (Branched closed opened) = 0
owed_in full (Closed leaf cutoff) = 0

-- how many entries these nodes may still have
-- Counted from the list's head, as one node more is read, where `count_by` of the kit counts from its end; so is
-- `taken_among`.
abbrev pub owed_among : Bool → List TreeNode → ℕ
owed_among full [] = 0
owed_among full (n ∷ ns) = owed_in full n.state + owed_among full ns

-- how many worker numbers haven't given a ticket back
abbrev pub unreturned : List Bool → ℕ
unreturned [] = 0
unreturned (b ∷ bs) = (if b then 0 else 1) + unreturned bs

-- how many entries may still come: those of the nodes, two for each node that the budget still allows, and two for each
-- worker number that hasn't given a ticket back
abbrev pub owed : Grown → List Bool → ℕ
owed g returned = owed_among g.full g.nodes + (if g.full then 0 else 2 * (g.budget - length g.nodes) + 2 * unreturned returned)

-- ---- what always holds

-- whether a node is taken, as a number
abbrev pub taken_in : NodeState → ℕ
taken_in Untaken = 0
taken_in (Taken k) = 1
taken_in (Branched closed opened) = 0
taken_in (Closed leaf cutoff) = 0

-- how many nodes are taken
abbrev pub taken_among : List TreeNode → ℕ
taken_among [] = 0
taken_among (n ∷ ns) = taken_in n.state + taken_among ns

-- the last entry by which a node was taken stands at this place, and this worker took it there
pub record IsLastTake (entries : List JournalEntry) (node worker turn : ℕ) : Type 0 where
  pub taken : slice_get entries turn ≡ Some (journal.Take worker node)
  pub last : (t k : ℕ) → turn < t → slice_get entries t ≡ Some (journal.Take k node) → ⊥

-- a node's turn is the place of the last entry by which it was taken
pub record HasTurn (turns : List ℕ) (entries : List JournalEntry) (node worker : ℕ) : Type 0 where
  pub turn : ℕ
  pub turn_is : slice_get turns node ≡ Some turn
  pub last_take : IsLastTake entries node worker turn

-- each taken node has its turn, so a ticket of an earlier turn of it is stale
abbrev pub AreTurns : List TreeNode → List ℕ → List JournalEntry → Type 0
AreTurns nodes turns entries = (x k : ℕ) → state_at nodes x ≡ Some (Taken k) → HasTurn turns entries x k

-- what holds of a pool whenever its lock is free: its tree is a growth of the search's market within its budget, to
-- which the journal leads at cutoffs that the pool's seat has seen; each node has a key, and each taken one its turn;
-- that seat is of the search's incumbent, which starts at the closed welfare, and has one part, by which nothing was
-- offered; and the journal has room for all that may still come
pub record IsPool (m : Market) (budget workers : ℕ) (incumbent : IncumbentId) (p : Pooled) : Type 0 where
  pub market_is : p.tree.market ≡ m
  pub budget_is : p.tree.budget ≡ budget
  pub grows : IsGrowth p.tree
  pub leads : JournalLeadsTo p.journal p.seat.seen p.tree
  pub keys_are : length p.keys ≡ length p.tree.nodes
  pub closed : IsClosedWelfare m (pos incumbent.first)
  pub fresh : IsFresh incumbent p.seat
  pub room_is : length p.journal + owed p.tree p.returned ≤ p.room
  pub turns_are : length p.turns ≡ budget
  pub turns_report : AreTurns p.tree.nodes p.turns p.journal
  pub returned_are : length p.returned ≡ workers + 1

-- ---- tickets

-- the node is taken at this turn by this worker, and decides these gates
pub record IsTakenAt (p : Pooled) (node turn worker : ℕ) (word : List Bool) : Type 0 where
  pub taken : state_at p.tree.nodes node ≡ Some (Taken worker)
  pub at_turn : slice_get p.turns node ≡ Some turn
  pub word_is : slice_get (words_of p.tree.nodes) node ≡ Some word

-- ---- what calls change; all else stays

-- an entry more
abbrev pub entered : Pooled → Entry → Pooled
entered p e = record p { tree = grown p.tree e; journal = p.journal ++ in_journal e ∷ [] }

-- the node is taken, at the turn that is the place of the entry
abbrev pub taking : Pooled → ℕ → ℕ → Pooled
taking p worker node = record (entered p (Take worker node)) { turns = slice_set p.turns node (length p.journal) }

-- the pool's seat has seen what another saw
abbrev pub meeting : Pooled → ℕ → Pooled
meeting p seen = record p { seat = seat_view p.seat.incumbent (max p.seat.seen seen) p.seat.offered p.seat.parts }

-- the keys after an entry: each node that it makes has this one
abbrev pub keys_after : Grown → Entry → List ℕ → ℕ → List ℕ
keys_after g e keys key = keys ++ replicate (length (grown g e).nodes - length g.nodes) key

-- the seats meet, and the node is settled at what the other saw; the keys of its children are the bound that was found
-- at it
abbrev pub settled_with : Pooled → ℕ → ℕ → ℕ → Finding → Pooled
settled_with p worker node seen finding =
    record (entered (meeting p seen) (settling p.tree worker node seen finding)) {
      keys = keys_after p.tree (settling p.tree worker node seen finding) p.keys (child_key finding);
    }

-- what the entry says of a node that was settled
abbrev pub answer_of : Grown → Entry → Settled
answer_of g (Take k x) = settled.Stale
answer_of g (Close k x leaf cutoff) = settled.Closed
answer_of g (Branch k x cutoff) = settled.Branched
answer_of g (Full k x cutoff) = settled.Full (length g.nodes)
answer_of g (GiveBack k x) = settled.Stale

-- the node waits again, and its worker number has given a ticket back
abbrev pub giving_back : Pooled → ℕ → ℕ → Pooled
giving_back p worker node = record (entered p (GiveBack worker node)) { returned = slice_set p.returned worker true }

-- the entries by which every taken node is given back, where the nodes are counted from this number on
abbrev pub returning : ℕ → NodeState → List Entry
returning x Untaken = []
returning x (Taken k) = GiveBack k x ∷ []
returning x (Branched closed opened) = []
returning x (Closed leaf cutoff) = []

abbrev pub returns_of : ℕ → List TreeNode → List Entry
returns_of x [] = []
returns_of x (n ∷ ns) = returning x n.state ++ returns_of (x + 1) ns

-- these entries more
abbrev pub entered_by : Pooled → List Entry → Pooled
entered_by p es = record p { tree = grown_by p.tree es; journal = p.journal ++ map in_journal es }

-- where the nodes from this one on are put back as far as they are taken
abbrev pub put_back_from : Pooled → ℕ → Pooled
put_back_from p x = entered_by p (returns_of x (drop x p.tree.nodes))

-- the journal has room for `room` entries
abbrev pub roomy : Pooled → ℕ → Pooled
roomy p room = record p { room = room }
