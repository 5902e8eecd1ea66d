-- What contracts see of a queue of nodes, and which queue is that of a tree.
use Rattle.std.specs.Prelude.{◌≡◌, ℕ, zero, suc, ◌+◌, ◌-◌, ◌^◌, ◌<◌, ◌≤◌, ◌==◌, List, [], ◌∷◌, ◌++◌, length, map, replicate, All, count_by, slice_get, slice_index_or, IsPermutation, Option, Some, None, ⊤}
use Rattle.std.specs.Ordering.{nat_cmp, ordering_then}
use Rattle.std.specs.declared.cmp.Ordering.{Ordering}
use Rattle.std.specs.declared.cmp.Reverse.{Reverse}
use Rattle.mari_market.specs.declared.finding.Finding.{Finding}
use Rattle.mari_market.specs.declared.finding.Finding.TheVariants.{Empty, Relaxed}
use Rattle.mari_core.specs.declared.journal.JournalEntry.{JournalEntry}
use Rattle.mari_core.specs.declared.journal.JournalEntry.TheVariants.{Take, Close, Branch, Full, GiveBack}
use Rattle.mari_core.specs.declared.node.NodeState.{NodeState}
use Rattle.mari_core.specs.declared.node.NodeState.TheVariants.{Untaken, Taken, Branched, Closed}
use Rattle.mari_core.specs.Nodes.{TreeNode, state_at}
use Rattle.mari_core.specs.Preorder.{IsPreorder}

-- ---- keys

-- a queue: a key for each node that there is; the numbers of those that wait, in no order; and for how many nodes it
-- has room
pub record Queued : Type 0 where
  pub keys : List ℕ
  pub waiting : List ℕ
  pub room : ℕ

-- the key of the first node
abbrev pub first_key : ℕ
first_key = 2 ^ 64 - 1

-- the key of a node's children, by what was found at the node
abbrev pub child_key : Finding → ℕ
child_key (Empty cut) = 0
child_key (Relaxed r) = r.bound

-- the key of a node
abbrev pub key_of : List ℕ → ℕ → ℕ
key_of keys x = slice_index_or keys x 0

-- the other node has no greater key, nor an equal key and a lower number
pub record IsAhead (keys : List ℕ) (x other : ℕ) : Type 0 where
  pub none_greater : key_of keys other ≤ key_of keys x
  pub none_lower : key_of keys other ≡ key_of keys x → x ≤ other

-- ---- how a queue holds them

-- a node that waits, with its key
abbrev pub Waiting : Type 0
Waiting = ℕ × Reverse ℕ

-- the number of a waiting node
abbrev pub number_in : Waiting → ℕ
number_in w = w.1.0

-- the greater key comes first, and of equal keys the lower number
abbrev pub by_key : Waiting → Waiting → Ordering
by_key v w = ordering_then (nat_cmp v.0 w.0) (nat_cmp w.1.0 v.1.0)

-- it has the key that the node has
abbrev pub IsKeyed : List ℕ → Waiting → Type 0
IsKeyed keys w = slice_get keys w.1.0 ≡ Some w.0

-- ---- what calls change

-- a queue of no nodes
abbrev pub no_nodes : ℕ → Queued
no_nodes room = record { keys = []; waiting = []; room = room }

-- n numbers from x on
abbrev pub numbers_from : ℕ → ℕ → List ℕ
numbers_from x zero = []
numbers_from x (suc n) = numbers_from x n ++ (x + n) ∷ []

-- `count` nodes more, all with this key, which wait
pub record IsMore (key count : ℕ) (old new : Queued) : Type 0 where
  pub keys : new.keys ≡ old.keys ++ replicate count key
  pub waiting : IsPermutation (old.waiting ++ numbers_from (length old.keys) count) new.waiting
  pub room : new.room ≡ old.room

-- the node leaves those that wait, and was ahead of each of them
pub record LeavesFirst (old new : Queued) (x : ℕ) : Type 0 where
  pub leaves : IsPermutation old.waiting (x ∷ new.waiting)
  pub ahead : All (IsAhead old.keys x) old.waiting
  pub keys : new.keys ≡ old.keys
  pub room : new.room ≡ old.room

-- no node waits, and nothing changes
abbrev pub IsIdleQueue : Queued → Queued → Type 0
IsIdleQueue old new = (old.waiting ≡ []) × (new ≡ old)

-- the node waits again
pub record IsBack (old new : Queued) (x : ℕ) : Type 0 where
  pub joins : IsPermutation (x ∷ old.waiting) new.waiting
  pub keys : new.keys ≡ old.keys
  pub room : new.room ≡ old.room

-- what a queue needs so that an entry may be followed, after which there are `count` nodes
abbrev pub CanFollow : Queued → ℕ → JournalEntry → Type 0
CanFollow q count (Take k x) = ⊤
CanFollow q count (Close k x cutoff) = ⊤
CanFollow q count (Branch k x cutoff) = (length q.keys ≤ count) × (count ≤ q.room) × (length q.waiting ≤ length q.keys)
CanFollow q count (Full k x cutoff) = (x < length q.keys) × (length q.waiting < q.room)
CanFollow q count (GiveBack k x) = (x < length q.keys) × (length q.waiting < q.room)

-- the queue follows the entry: the nodes that it made wait with the key, or its node waits again
abbrev pub Follows : ℕ → ℕ → Queued → Queued → JournalEntry → Type 0
Follows key count q r (Take k x) = r ≡ q
Follows key count q r (Close k x cutoff) = r ≡ q
Follows key count q r (Branch k x cutoff) = IsMore key (count - length q.keys) q r
Follows key count q r (Full k x cutoff) = IsBack q r x
Follows key count q r (GiveBack k x) = IsBack q r x

-- ---- the queue of a tree

-- whether a node waits, as a number
abbrev pub waits_in : Option NodeState → ℕ
waits_in None = 0
waits_in (Some Untaken) = 1
waits_in (Some (Taken k)) = 0
waits_in (Some (Branched closed opened)) = 0
waits_in (Some (Closed leaf cutoff)) = 0

-- how many nodes wait
abbrev pub untaken_among : List TreeNode → ℕ
untaken_among [] = 0
untaken_among (n ∷ ns) = waits_in (Some n.state) + untaken_among ns

-- it has a key for each of these nodes, and each that waits is in it once, and nothing else is
pub record IsQueueOf (nodes : List TreeNode) (q : Queued) : Type 0 where
  pub keys : length q.keys ≡ length nodes
  pub each : (y : ℕ) → count_by (λ x. x == y) q.waiting ≡ waits_in (state_at nodes y)
  pub many : length q.waiting ≡ untaken_among nodes

-- the node waits, and no node that waits has a greater key, nor an equal key and a lower number
pub record IsFirstWaiting (keys : List ℕ) (nodes : List TreeNode) (x : ℕ) : Type 0 where
  pub waits : state_at nodes x ≡ Some Untaken
  pub ahead : (y : ℕ) → state_at nodes y ≡ Some Untaken → IsAhead keys x y

-- the keys are those of the nodes, in preorder
pub record AreKeys (nodes : List TreeNode) (keys found : List ℕ) : Type 0 where
  pub numbers : List ℕ
  pub preorder : IsPreorder nodes numbers
  pub found_are : found ≡ map (key_of keys) numbers
