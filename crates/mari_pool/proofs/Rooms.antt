-- The room of the journal: each entry takes one of those that may still come.
use Rattle.std.proofs.Common.{◌≡◌, Bool, true, false, ℕ, zero, suc, ◌+◌, ◌-◌, ◌*◌, ◌≤◌, if◌then◌else◌, List, [], ◌∷◌, ◌++◌, length, map, Option, Some, arith, refl, ap, length-append, set, replicate}
use Rattle.std.proofs.lemmas.List.{length-map}
use Rattle.std.specs.Prelude.{slice_get}
use Rattle.mari_market.specs.declared.certificate.Leaf.{Leaf}
use Rattle.mari_core.specs.declared.node.NodeState.{NodeState}
use Rattle.mari_core.specs.declared.node.NodeState.TheVariants.{Untaken, Taken, Closed}
use Rattle.mari_core.specs.Nodes.{TreeNode, new_node, state_at, branch_of}
use Rattle.mari_core.specs.Growth.{Grown, Entry, grown, with_state, children_at, settling_by, IsAllowed}
use Rattle.mari_core.specs.Growth.Entry.{Take, Close, Branch, Full, GiveBack}
use Rattle.mari_core.proofs.Changes.{length-with_state}
use Rattle.mari_pool.specs.Pooled.{owed_in, owed_among, unreturned, taken_in, taken_among}

-- ---- one node in another state

pub owed_state : (full : Bool) (s t : NodeState) (nodes : List TreeNode) (x : ℕ) → state_at nodes x ≡ Some t
    → owed_among full (with_state s nodes x) + owed_in full t ≡ owed_among full nodes + owed_in full s
owed_state full s t [] x e = absurd (cc)
owed_state full s t (n ∷ ns) zero e = let same : n.state ≡ t = cc in omega (arith, ap (owed_in full) same)
owed_state full s t (n ∷ ns) (suc x) e = omega (arith, owed_state full s t ns x e)

pub taken_state : (s t : NodeState) (nodes : List TreeNode) (x : ℕ) → state_at nodes x ≡ Some t → taken_among (with_state s nodes x) + taken_in t ≡ taken_among nodes + taken_in s
taken_state s t [] x e = absurd (cc)
taken_state s t (n ∷ ns) zero e = let same : n.state ≡ t = cc in omega (arith, ap taken_in same)
taken_state s t (n ∷ ns) (suc x) e = omega (arith, taken_state s t ns x e)

pub owed-append : (full : Bool) (xs ys : List TreeNode) → owed_among full (xs ++ ys) ≡ owed_among full xs + owed_among full ys
owed-append full [] ys = omega arith
owed-append full (x ∷ xs) ys = omega (arith, owed-append full xs ys)

pub taken-append : (xs ys : List TreeNode) → taken_among (xs ++ ys) ≡ taken_among xs + taken_among ys
taken-append [] ys = omega arith
taken-append (x ∷ xs) ys = omega (arith, taken-append xs ys)

owed_new : (full : Bool) (words : List (List Bool)) → owed_among full (map new_node words) ≤ (if full then 0 else 2 * length words)
owed_new true [] = omega arith
owed_new true (w ∷ ws) = omega (arith, owed_new true ws)
owed_new false [] = omega arith
owed_new false (w ∷ ws) = omega (arith, owed_new false ws)

pub taken_new : (words : List (List Bool)) → taken_among (map new_node words) ≡ 0
taken_new [] = refl
taken_new (w ∷ ws) = omega (arith, taken_new ws)

-- once a node could not branch, less is owed
owed_falls : (nodes : List TreeNode) → owed_among true nodes ≤ owed_among false nodes
owed_falls [] = omega arith
owed_falls (n ∷ ns) = grind (arith, owed_falls ns)

branch_owes : (full : Bool) (first : ℕ) (words : List (List Bool)) → owed_in full (branch_of first words) ≡ 0
branch_owes full first words = grind arith

pub branch_untaken : (first : ℕ) (words : List (List Bool)) → taken_in (branch_of first words) ≡ 0
branch_untaken first words = grind arith

-- ---- entries

-- what an entry is paid by: a taken node by its own; a node that waits by its own, where none could not branch; and a
-- node that is given back by its worker number
abbrev pub IsPaid : Grown → Entry → ℕ → ℕ → Type 0
IsPaid g (Take k x) before after = (g.full ≡ false) × (after ≡ before)
IsPaid g (Close k x leaf cutoff) before after = after ≡ before
IsPaid g (Branch k x cutoff) before after = after ≡ before
IsPaid g (Full k x cutoff) before after = after ≡ before
IsPaid g (GiveBack k x) before after = after + 1 ≡ before

abbrev pub still_owed : Grown → ℕ → ℕ
still_owed g count = owed_among g.full g.nodes + (if g.full then 0 else 2 * (g.budget - length g.nodes) + 2 * count)

pub entry_paid : (g : Grown) (e : Entry) (before after : ℕ) → length g.nodes ≤ g.budget → IsAllowed g e → IsPaid g e before after → still_owed (grown g e) after + 1 ≤ still_owed g before
entry_paid g (Take k x) before after l may paid = by_full g.full refl
  where
    by_full : (full : Bool) → g.full ≡ full → still_owed (grown g (Take k x)) after + 1 ≤ still_owed g before
    by_full true e = absurd (cc (paid.0))
    by_full false e = rw e (omega (arith, owed_state false (Taken k) Untaken g.nodes x may, length-with_state (Taken k) g.nodes x, paid.1))
entry_paid g (Close k x leaf cutoff) before after l may paid = by_full g.full refl
  where
    by_full : (full : Bool) → g.full ≡ full → still_owed (grown g (Close k x leaf cutoff)) after + 1 ≤ still_owed g before
    by_full true e = rw e (omega (arith, owed_state true (Closed leaf cutoff) (Taken k) g.nodes x may.taken))
    by_full false e = rw e (omega (arith, owed_state false (Closed leaf cutoff) (Taken k) g.nodes x may.taken, length-with_state (Closed leaf cutoff) g.nodes x, paid))
entry_paid g (Branch k x cutoff) before after l may paid = by_full g.full refl
  where
    kids : List (List Bool)
    kids = children_at g x

    state : NodeState
    state = branch_of (length g.nodes) kids

    count : length (with_state state g.nodes x ++ map new_node kids) ≡ length g.nodes + length kids
    count = omega (arith, length-append (with_state state g.nodes x) (map new_node kids), length-with_state state g.nodes x, length-map kids new_node)

    by_full : (full : Bool) → g.full ≡ full → still_owed (grown g (Branch k x cutoff)) after + 1 ≤ still_owed g before
    by_full true e =
        rw e
        (omega (
          arith,
          owed-append true (with_state state g.nodes x) (map new_node kids),
          owed_new true kids,
          branch_owes true (length g.nodes) kids,
          owed_state true state (Taken k) g.nodes x may.0.taken,
        ))
    by_full false e =
        rw e
        (omega (
          arith,
          owed-append false (with_state state g.nodes x) (map new_node kids),
          owed_new false kids,
          branch_owes false (length g.nodes) kids,
          owed_state false state (Taken k) g.nodes x may.0.taken,
          count,
          may.1,
          paid,
        ))
entry_paid g (Full k x cutoff) before after l may paid = by_full g.full refl
  where
    by_full : (full : Bool) → g.full ≡ full → still_owed (grown g (Full k x cutoff)) after + 1 ≤ still_owed g before
    by_full true e = rw e (omega (arith, owed_state true Untaken (Taken k) g.nodes x may.0.taken))
    by_full false e = rw e (omega (arith, owed_state true Untaken (Taken k) g.nodes x may.0.taken, owed_falls g.nodes))
entry_paid g (GiveBack k x) before after l may paid = by_full g.full refl
  where
    by_full : (full : Bool) → g.full ≡ full → still_owed (grown g (GiveBack k x)) after + 1 ≤ still_owed g before
    by_full true e = rw e (omega (arith, owed_state true Untaken (Taken k) g.nodes x may))
    by_full false e = rw e (omega (arith, owed_state false Untaken (Taken k) g.nodes x may, length-with_state Untaken g.nodes x, paid))

-- ---- how many are taken

abbrev pub comes : Entry → ℕ
comes (Take k x) = 1
comes (Close k x leaf cutoff) = 0
comes (Branch k x cutoff) = 0
comes (Full k x cutoff) = 0
comes (GiveBack k x) = 0

-- each entry but a take is of a taken node
pub taken_after : (g : Grown) (e : Entry) → IsAllowed g e → taken_among (grown g e).nodes + 1 ≡ taken_among g.nodes + 2 * comes e
taken_after g (Take k x) may = omega (arith, taken_state (Taken k) Untaken g.nodes x may)
taken_after g (Close k x leaf cutoff) may = omega (arith, taken_state (Closed leaf cutoff) (Taken k) g.nodes x may.taken)
taken_after g (Branch k x cutoff) may =
    let kids = children_at g x in
    let state = branch_of (length g.nodes) kids in
    omega (arith, taken-append (with_state state g.nodes x) (map new_node kids), taken_new kids, branch_untaken (length g.nodes) kids, taken_state state (Taken k) g.nodes x may.0.taken)
taken_after g (Full k x cutoff) may = omega (arith, taken_state Untaken (Taken k) g.nodes x may.0.taken)
taken_after g (GiveBack k x) may = omega (arith, taken_state Untaken (Taken k) g.nodes x may)

-- ---- worker numbers

pub unreturned_set : (bs : List Bool) (k : ℕ) → slice_get bs k ≡ Some false → unreturned (set bs k true) + 1 ≡ unreturned bs
unreturned_set [] k e = absurd (cc)
unreturned_set (b ∷ bs) zero e = let same : b ≡ false = cc in rw same (omega arith)
unreturned_set (b ∷ bs) (suc k) e = omega (arith, unreturned_set bs k e)

pub unreturned_all : (n : ℕ) → unreturned (replicate n false) ≡ n
unreturned_all zero = refl
unreturned_all (suc n) = omega (arith, unreturned_all n)

-- ---- settling

-- an entry that settles is paid by the node
pub settling_paid : (g : Grown) (k x cutoff n : ℕ) (o : Option Leaf) → IsPaid g (settling_by g k x cutoff o) n n
settling_paid g k x cutoff n o = grind arith

pub settling_comes : (g : Grown) (k x cutoff : ℕ) (o : Option Leaf) → comes (settling_by g k x cutoff o) ≡ 0
settling_comes g k x cutoff o = grind arith

-- one more worker number owes two entries at most
pub owed_more : (g : Grown) (n : ℕ) → still_owed g (n + 1) ≤ still_owed g n + 2
owed_more g n = grind arith

pub taken_few : (nodes : List TreeNode) → taken_among nodes ≤ length nodes
taken_few [] = omega arith
taken_few (n ∷ ns) = grind (arith, taken_few ns)
