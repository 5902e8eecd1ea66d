-- A taken node's turn is the place of the last entry by which it was taken.
use Rattle.std.proofs.Common.{◌≡◌, ◌⊎◌, inl, inr, Bool, ℕ, zero, suc, ◌<◌, List, [], ◌∷◌, ◌++◌, length, map, set, Some, arith, refl, sym, ap, subst, ◌∙◌}
use Rattle.std.specs.Prelude.{slice_get}
use Rattle.std.proofs.lemmas.Option.{slice_get_within}
use Rattle.mari_market.specs.declared.market.Market.{Market}
use Rattle.mari_core.specs.declared.journal.JournalEntry.{JournalEntry}
use Rattle.mari_core.specs.declared.journal.JournalEntry.TheVariants as journal
use Rattle.mari_core.specs.declared.node.NodeState.{NodeState}
use Rattle.mari_core.specs.declared.node.NodeState.TheVariants.{Taken}
use Rattle.mari_core.specs.Nodes.{TreeNode, branch_of, new_node, state_at}
use Rattle.mari_core.specs.Growth.{Grown, grown, in_journal, seed, with_state, children_at}
use Rattle.mari_core.specs.Growth.Entry.{Take, Close, Branch, Full, GiveBack}
use Rattle.mari_pool.specs.Pooled.{AreTurns, HasTurn, IsLastTake}

-- ---- one entry more

snoc_get : {X : Type 0} (xs : List X) (e d : X) (t : ℕ) → slice_get (xs ++ e ∷ []) t ≡ Some d → (slice_get xs t ≡ Some d) ⊎ ((t ≡ length xs) × (e ≡ d))
snoc_get [] e d zero h = inr (refl, cc)
snoc_get [] e d (suc t) h = absurd (cc)
snoc_get (x ∷ xs) e d zero h = inl h
snoc_get (x ∷ xs) e d (suc t) h = grind (arith, snoc_get xs e d t h)

get_snoc : {X : Type 0} (xs : List X) (e d : X) (t : ℕ) → slice_get xs t ≡ Some d → slice_get (xs ++ e ∷ []) t ≡ Some d
get_snoc [] e d t h = absurd (cc)
get_snoc (x ∷ xs) e d zero h = h
get_snoc (x ∷ xs) e d (suc t) h = get_snoc xs e d t h

at_end : {X : Type 0} (xs : List X) (e : X) → slice_get (xs ++ e ∷ []) (length xs) ≡ Some e
at_end [] e = refl
at_end (x ∷ xs) e = at_end xs e

set_here : (xs : List ℕ) (i n : ℕ) → i < length xs → slice_get (set xs i n) i ≡ Some n
set_here [] i n l = absurd (omega (arith, l))
set_here (x ∷ xs) zero n l = refl
set_here (x ∷ xs) (suc i) n l = set_here xs i n (omega (arith, l))

set_other : (xs : List ℕ) (i j n : ℕ) → (j ≡ i → ⊥) → slice_get (set xs i n) j ≡ slice_get xs j
set_other [] i j n un = refl
set_other (x ∷ xs) zero zero n un = absurd (un refl)
set_other (x ∷ xs) zero (suc j) n un = refl
set_other (x ∷ xs) (suc i) zero n un = refl
set_other (x ∷ xs) (suc i) (suc j) n un = set_other xs i j n (λ e. un (ap suc e))

-- an entry that doesn't take the node leaves its turn
last_kept : (entries : List JournalEntry) (e : JournalEntry) (node worker turn : ℕ)
    → ((k : ℕ) → e ≡ journal.Take k node → ⊥) → IsLastTake entries node worker turn
    → IsLastTake (entries ++ e ∷ []) node worker turn
last_kept entries e node worker turn other h = grind (arith, get_snoc, snoc_get)

-- an entry that takes it is the last
last_taken : (entries : List JournalEntry) (node worker : ℕ) → IsLastTake (entries ++ journal.Take worker node ∷ []) node worker (length entries)
last_taken entries node worker = grind (arith, at_end, snoc_get, slice_get_within)

-- ---- which nodes are taken after an entry

taken_before : (s : NodeState) (nodes : List TreeNode) (x y k : ℕ) → ((j : ℕ) → s ≡ Taken j → ⊥) → state_at (with_state s nodes x) y ≡ Some (Taken k) → state_at nodes y ≡ Some (Taken k)
taken_before s [] x y k un h = h
taken_before s (n ∷ ns) zero zero k un h = absurd (un k (cc))
taken_before s (n ∷ ns) zero (suc y) k un h = h
taken_before s (n ∷ ns) (suc x) zero k un h = h
taken_before s (n ∷ ns) (suc x) (suc y) k un h = taken_before s ns x y k un h

none_new : (words : List (List Bool)) (y k : ℕ) → state_at (map new_node words) y ≡ Some (Taken k) → ⊥
none_new (w ∷ ws) (suc y) k h = none_new ws y k h
none_new words y k h = cc

taken_front : (nodes : List TreeNode) (words : List (List Bool)) (y k : ℕ) → state_at (nodes ++ map new_node words) y ≡ Some (Taken k) → state_at nodes y ≡ Some (Taken k)
taken_front [] words y k h = absurd (none_new words y k h)
taken_front (n ∷ ns) words zero k h = h
taken_front (n ∷ ns) words (suc y) k h = taken_front ns words y k h

branch_not_taken : (first : ℕ) (words : List (List Bool)) (j : ℕ) → branch_of first words ≡ Taken j → ⊥
branch_not_taken first words j e = grind arith

taken_or_other : (k : ℕ) (nodes : List TreeNode) (x y j : ℕ) → state_at (with_state (Taken k) nodes x) y ≡ Some (Taken j) → ((y ≡ x) × (k ≡ j)) ⊎ ((y ≡ x → ⊥) × (state_at nodes y ≡ Some (Taken j)))
taken_or_other k [] x y j h = absurd (cc)
taken_or_other k (n ∷ ns) zero zero j h = inl (refl, cc)
taken_or_other k (n ∷ ns) zero (suc y) j h = inr (λ e. absurd (omega (arith, e)), h)
taken_or_other k (n ∷ ns) (suc x) zero j h = inr (λ e. absurd (omega (arith, e)), h)
taken_or_other k (n ∷ ns) (suc x) (suc y) j h = grind (arith, taken_or_other k ns x y j h)

-- ---- the turns

-- an entry that takes nothing keeps them
turns_after : (nodes news : List TreeNode) (turns : List ℕ) (entries : List JournalEntry) (e : JournalEntry)
    → ((node k : ℕ) → e ≡ journal.Take k node → ⊥)
    → ((y k : ℕ) → state_at news y ≡ Some (Taken k) → state_at nodes y ≡ Some (Taken k))
    → AreTurns nodes turns entries → AreTurns news turns (entries ++ e ∷ [])
turns_after nodes news turns entries e other before h y k taken =
    let was : HasTurn turns entries y k = h y k (before y k taken) in
    record { turn = was.turn; turn_is = was.turn_is; last_take = last_kept entries e y k was.turn (λ j. other y j) was.last_take }

pub turns_close : (g : Grown) (k x cutoff : ℕ) (leaf : Rattle.mari_market.specs.declared.certificate.Leaf.Leaf) (turns : List ℕ) (entries : List JournalEntry)
    → AreTurns g.nodes turns entries
    → AreTurns (grown g (Close k x leaf cutoff)).nodes turns (entries ++ in_journal (Close k x leaf cutoff) ∷ [])
turns_close g k x cutoff leaf turns entries h = grind (arith, turns_after, taken_before)

pub turns_branch : (g : Grown) (k x cutoff : ℕ) (turns : List ℕ) (entries : List JournalEntry)
    → AreTurns g.nodes turns entries
    → AreTurns (grown g (Branch k x cutoff)).nodes turns (entries ++ in_journal (Branch k x cutoff) ∷ [])
turns_branch g k x cutoff turns entries h =
    let s : NodeState = branch_of (length g.nodes) (children_at g x) in
    turns_after g.nodes (with_state s g.nodes x ++ map new_node (children_at g x)) turns entries (in_journal (Branch k x cutoff)) (λ node j e. absurd (cc))
    (λ y j t. taken_before s g.nodes x y j (branch_not_taken (length g.nodes) (children_at g x)) (taken_front (with_state s g.nodes x) (children_at g x) y j t)) h

pub turns_full : (g : Grown) (k x cutoff : ℕ) (turns : List ℕ) (entries : List JournalEntry)
    → AreTurns g.nodes turns entries
    → AreTurns (grown g (Full k x cutoff)).nodes turns (entries ++ in_journal (Full k x cutoff) ∷ [])
turns_full g k x cutoff turns entries h = grind (arith, turns_after, taken_before)

pub turns_back : (g : Grown) (k x : ℕ) (turns : List ℕ) (entries : List JournalEntry) → AreTurns g.nodes turns entries
    → AreTurns (grown g (GiveBack k x)).nodes turns (entries ++ in_journal (GiveBack k x) ∷ [])
turns_back g k x turns entries h = grind (arith, turns_after, taken_before)

-- the entry that takes a node gives it its turn
pub turns_take : (g : Grown) (k x turn : ℕ) (turns : List ℕ) (entries : List JournalEntry) → x < length turns
    → turn ≡ length entries → AreTurns g.nodes turns entries
    → AreTurns (grown g (Take k x)).nodes (set turns x turn) (entries ++ in_journal (Take k x) ∷ [])
turns_take g k x turn turns entries within place h y j taken = elim (taken_or_other k g.nodes x y j taken) [
  | inl this ↦ record {
    turn = turn;
    turn_is = subst (λ (i : ℕ). slice_get (set turns x turn) i ≡ Some turn) (sym this.0) (set_here turns x turn within);
    last_take = subst (λ (i : ℕ). IsLastTake (entries ++ journal.Take k x ∷ []) i j turn) (sym this.0)
        (subst (λ (w : ℕ). IsLastTake (entries ++ journal.Take k x ∷ []) x w turn) this.1
        (subst (IsLastTake (entries ++ journal.Take k x ∷ []) x k) (sym place) (last_taken entries x k)));
  }
  | inr other ↦
      let was : HasTurn turns entries y j = h y j other.1 in
      record {
        turn = was.turn;
        turn_is = set_other turns x y turn other.0 ∙ was.turn_is;
        last_take = last_kept entries (journal.Take k x) y j was.turn (λ i e. other.0 (taken_node e)) was.last_take;
      }
]
  where
    taken_node : {i : ℕ} → journal.Take k x ≡ journal.Take i y → y ≡ x
    taken_node e = cc

-- at the start no node is taken
pub turns_start : (m : Market) (budget : ℕ) (turns : List ℕ) → AreTurns (seed m budget).nodes turns []
turns_start m budget turns h k taken = grind arith
