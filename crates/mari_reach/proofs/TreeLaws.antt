-- A tree that holds bounds every admissible welfare, and shows which activation is the first.
use Rattle.std.proofs.Common.{◌≡◌, Bool, ℕ, ℤ, pos, ◌-ℤ◌, ◌≤ℤ◌, List, [], ◌∷◌, ◌++◌, arith, sym, ◌∙◌, subst, inl, inr}
use Rattle.std.proofs.lemmas.Int.{ints, by_lt_z}
use Rattle.std.proofs.lemmas.List.Elements.{All-nil, All-push}
use Rattle.mari_units.specs.declared.numbers.Cents.{Cents}
use Rattle.mari_market.specs.declared.market.Market.{Market}
use Rattle.mari_market.specs.declared.activation.Activation.{Activation}
use Rattle.mari_market.specs.Activation.{gate_word_of, is_open, welfare_of}
use Rattle.mari_market.specs.First.{ComesBefore, IsFirst}
use Rattle.mari_market.specs.Market.{IsValid}
use Rattle.mari_market.specs.Optimal.{IsAdmissible, IsConsistent, IsFeasible, IsOptimal}
use Rattle.mari_market.specs.Price.{price_at}
use Rattle.mari_market.proofs.Lists.{by_test}
use Rattle.mari_market.proofs.Search.{one_welfare}
use Rattle.mari_market.proofs.Ties.{before_both}
use Rattle.mari_reach.specs.declared.decisions.Decision.{Decision}
use Rattle.mari_reach.specs.declared.decisions.ReachLeaf.{ReachLeaf}
use Rattle.mari_reach.specs.declared.decisions.ReachItem.{ReachItem}
use Rattle.mari_reach.specs.declared.decisions.ReachItem.TheVariants.{Branch, Leaf}
use Rattle.mari_reach.specs.declared.decisions.Choice.{Choice}
use Rattle.mari_reach.specs.declared.decisions.Choice.TheVariants.{OfGate, OfPrice}
use Rattle.mari_reach.specs.State.{Agree, Obeys, children_at, first_of, second_of}
use Rattle.mari_reach.specs.Leaf.{ReachLeafHolds}
use Rattle.mari_reach.specs.Tree.{ArePartsOf, ReachHolds}
use Rattle.mari_reach.specs.Twins.{KeepsRank}
use Rattle.mari_reach.proofs.LeafLaws.{leaf_bounds, leaf_is_early}
use Rattle.mari_reach.proofs.Repeated.{by_exchange}

-- R holds where gates and prices are as one of these states decides
abbrev EachState : (ℕ → Bool) → List Cents → Type 0 → List (List Decision) → Type 0
EachState on us R [] = Unit {0}
EachState on us R (ds ∷ states) = (Agree ds on us → R) × EachState on us R states

-- gates and prices are as the one or the other child of a choice decides
either_child : {R : Type 0} (on : ℕ → Bool) (us : List Cents) (choice : Choice) → (Obeys on us (first_of choice) → R) → (Obeys on us (second_of choice) → R) → R
either_child on us (OfGate g) one other = by_test (on g) other one
either_child on us (OfPrice z p) one other = by_lt_z p.0 (price_at us z) other one

of_children : (on : ℕ → Bool) (us : List Cents) (R : Type 0) (ds : List Decision) (choice : Choice) (states : List (List Decision))
    → EachState on us R (children_at ds choice ++ states) → EachState on us R (ds ∷ states)
of_children on us R ds choice states h = (
  λ agree. either_child on us choice (λ e. h.0 (All-push (Obeys on us) ds (first_of choice) agree e)) (λ e. h.1.0 (All-push (Obeys on us) ds (second_of choice) agree e)),
  h.1.1,
)

-- what each leaf says where gates and prices are as its state decides, the parts say of their states
pub parts_say : (m : Market) (holds : List Decision → ReachLeaf → Type 0) (on : ℕ → Bool) (us : List Cents) (R : Type 0)
    → ((ds : List Decision) (leaf : ReachLeaf) → holds ds leaf → Agree ds on us → R)
    → (states : List (List Decision)) (items : List ReachItem) → ArePartsOf m holds states items → EachState on us R states
parts_say m holds on us R k [] items h = tt
parts_say m holds on us R k (ds ∷ states) [] h = absurd h
parts_say m holds on us R k (ds ∷ states) (Leaf leaf ∷ items) h = (λ agree. k ds leaf h.0 agree, parts_say m holds on us R k states items h.1)
parts_say m holds on us R k (ds ∷ states) (Branch choice ∷ items) h = of_children on us R ds choice states (parts_say m holds on us R k (children_at ds choice ++ states) items h.1)

nothing_decided : (on : ℕ → Bool) (us : List Cents) → Agree [] on us
nothing_decided on us = All-nil (Obeys on us)

-- a tree that holds bounds the welfare of what keeps the rank of twins
ranked_bounds : (m : Market) (w : ℤ) (u : List Bool) (items : List ReachItem) (us : List Cents) (a : Activation) → IsValid m → ReachHolds m w u items
    → IsFeasible m a → IsConsistent m a us → KeepsRank m (is_open m a) → welfare_of m a ≤ℤ w
ranked_bounds m w u items us a v h f c ranked =
    (parts_say m (ReachLeafHolds m w u) (is_open m a) us (welfare_of m a ≤ℤ w)
    (λ ds leaf k agree. leaf_bounds m w u ds leaf a us v k (record { feasible = f; consistent = c; agree = agree; ranked = ranked }))
    ([] ∷ []) items h).0 (nothing_decided (is_open m a) us)

-- and of what keeps the rank and comes before its gate word
ranked_early : (m : Market) (w : ℤ) (u : List Bool) (items : List ReachItem) (us : List Cents) (a : Activation) → IsValid m → ReachHolds m w u items
    → IsFeasible m a → IsConsistent m a us → KeepsRank m (is_open m a) → ComesBefore (gate_word_of m a) u → welfare_of m a ≤ℤ (w -ℤ pos 1)
ranked_early m w u items us a v h f c ranked b =
    (parts_say m (ReachLeafHolds m w u) (is_open m a) us (welfare_of m a ≤ℤ (w -ℤ pos 1))
    (λ ds leaf k agree. leaf_is_early m w u ds leaf a us v k (record { feasible = f; consistent = c; agree = agree; ranked = ranked }) b)
    ([] ∷ []) items h).0 (nothing_decided (is_open m a) us)

-- a tree that holds bounds every admissible welfare
pub tree_bounds : (m : Market) (w : ℤ) (u : List Bool) (items : List ReachItem) (a : Activation) → IsValid m → ReachHolds m w u items → IsAdmissible m a → welfare_of m a ≤ℤ w
tree_bounds m w u items a v h adm =
    by_exchange m adm.consistent.0 (λ b. welfare_of m b ≤ℤ w) v
    (λ b f c ranked. ranked_bounds m w u items adm.consistent.0 b v h f c ranked)
    (λ b other f c ahead most. elim ahead [ inl more ↦ omega (arith, ints, more, most) | inr same ↦ subst (λ (x : ℤ). x ≤ℤ w) (sym same.0) most ])
    a adm.feasible adm.consistent.1

-- and what comes before its gate word is worse
pub tree_is_early : (m : Market) (w : ℤ) (u : List Bool) (items : List ReachItem) (a : Activation) → IsValid m → ReachHolds m w u items → IsAdmissible m a
    → ComesBefore (gate_word_of m a) u → welfare_of m a ≤ℤ (w -ℤ pos 1)
tree_is_early m w u items a v h adm =
    by_exchange m adm.consistent.0 (λ b. ComesBefore (gate_word_of m b) u → welfare_of m b ≤ℤ (w -ℤ pos 1)) v
    (λ b f c ranked. ranked_early m w u items adm.consistent.0 b v h f c ranked)
    (λ b other f c ahead most before. elim ahead [
      | inl more ↦ omega (arith, ints, more, tree_bounds m w u items other v h (record { feasible = f; consistent = (adm.consistent.0, c) }))
      | inr same ↦ subst (λ (x : ℤ). x ≤ℤ (w -ℤ pos 1)) (sym same.0) (most (before_both (gate_word_of m other) (gate_word_of m b) u same.1 before))
    ])
    a adm.feasible adm.consistent.1

pub tree_optimal : (m : Market) (w : ℤ) (u : List Bool) (items : List ReachItem) (a : Activation) → IsValid m → ReachHolds m w u items → IsAdmissible m a → welfare_of m a ≡ w → IsOptimal m a
tree_optimal m w u items a v h adm e = record { admissible = adm; greatest = λ b other. subst (λ (x : ℤ). welfare_of m b ≤ℤ x) (sym e) (tree_bounds m w u items b v h other) }

below_itself : (x y : ℤ) → x ≡ y → x ≤ℤ (y -ℤ pos 1) → ⊥
below_itself x y e l = omega (arith, ints, e, l)

-- a tree that holds at the welfare of an admissible activation for its gate word shows it to be the first
pub tree_first : (m : Market) (w : ℤ) (u : List Bool) (items : List ReachItem) (a : Activation) → IsValid m → ReachHolds m w u items → IsAdmissible m a
    → welfare_of m a ≡ w → gate_word_of m a ≡ u → IsFirst m a
tree_first m w u items a v h adm e same = record { optimal = best; none_before = none }
  where
    best : IsOptimal m a
    best = tree_optimal m w u items a v h adm e

    none : (b : Activation) → IsOptimal m b → ComesBefore (gate_word_of m b) (gate_word_of m a) → ⊥
    none b k before =
        below_itself (welfare_of m b) w (one_welfare m b a k best ∙ e)
        (tree_is_early m w u items b v h k.admissible (subst (λ (x : List Bool). ComesBefore (gate_word_of m b) x) same before))
