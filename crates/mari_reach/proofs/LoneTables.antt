-- The table of lone gates' orders.
use Rattle.std.proofs.Common.{◌≡◌, ◌||◌, if◌then◌else◌, Bool, true, false, ℕ, ◌+◌, ◌<◌, ◌≤◌, List, [], ◌∷◌, ◌++◌, length, take, get_or, Option, Some, None, arith, refl, sym, ap, ◌∙◌, subst, inl, inr}
use Rattle.std.proofs.lemmas.Bool.{and_parts, cases_lt}
use Rattle.std.proofs.lemmas.List.{take_more}
use Rattle.std.proofs.lemmas.List.Elements.{filter-append}
use Rattle.std.proofs.lemmas.List.Folds.{list_any_more}
use Rattle.std.specs.List.{filter, list_any}
use Rattle.mari_market.specs.declared.market.Order.{Order}
use Rattle.mari_market.specs.declared.market.GateInfo.{GateInfo}
use Rattle.mari_market.specs.declared.market.Market.{Market}
use Rattle.mari_market.specs.Activation.{is_gate}
use Rattle.mari_market.specs.Prefix.{opens_in}
use Rattle.mari_market.proofs.Lists.{by_test}
use Rattle.mari_reach.specs.declared.marks.Marks.{Marks}
use Rattle.mari_reach.specs.declared.ranks.Lone.{Lone}
use Rattle.mari_reach.specs.declared.ranks.Twins.{Twins}
use Rattle.mari_reach.specs.Tables.{lone_in, outranks_in, AreMarked, IsLoneOf, IsTwinsOf}
use Rattle.mari_reach.proofs.Ranges.{both_true, or_first, or_later}
use Rattle.mari_reach.specs.Twins.{lone_order, orders_of, outranks, outranks_by, sole, stands_alone}

-- ---- one order more

not_alone : (x o : Order) (xs : List Order) → sole (x ∷ (xs ++ o ∷ [])) ≡ None
not_alone x o [] = refl
not_alone x o (y ∷ ys) = refl

no_more : (xs : List Order) → sole (xs ++ []) ≡ sole xs
no_more [] = refl
no_more (x ∷ []) = refl
no_more (x ∷ y ∷ ys) = refl

sole_more : (test : Order → Bool) (xs : List Order) (o : Order) → sole (filter test xs ++ o ∷ []) ≡ (if list_any test xs then None else Some o)
sole_more test [] o = refl
sole_more test (x ∷ xs) o = by (test x) (sole_more test xs o)
  where
    by : (b : Bool) → sole (filter test xs ++ o ∷ []) ≡ (if list_any test xs then None else Some o)
        → sole ((if b then x ∷ filter test xs else filter test xs) ++ o ∷ []) ≡ (if b || list_any test xs then None else Some o)
    by true more = not_alone x o (filter test xs)
    by false more = more

sole_kept : (test : Order → Bool) (xs : List Order) (o : Order) (b : Bool)
    → sole (filter test xs ++ (if b then o ∷ [] else [])) ≡ (if b then (if list_any test xs then None else Some o) else sole (filter test xs))
sole_kept test xs o true = sole_more test xs o
sole_kept test xs o false = no_more (filter test xs)

pub sole_step : (g : ℕ) (os : List Order) (i : ℕ) (d : Order) (seen : Bool) (old new : Option Order) → i < length os → seen ≡ list_any (λ (o : Order). is_gate g o.gate) (take i os)
    → old ≡ sole (orders_of (take i os) g) → new ≡ (if is_gate g (get_or os i d).gate then (if seen then None else Some (get_or os i d)) else old)
    → new ≡ sole (orders_of (take (i + 1) os) g)
sole_step g os i d seen old new l s e k =
    let o = get_or os i d in
    k ∙ ap (λ (b : Bool). if is_gate g o.gate then (if b then None else Some o) else old) s
    ∙ ap (λ (x : Option Order). if is_gate g o.gate then (if list_any (λ (y : Order). is_gate g y.gate) (take i os) then None else Some o) else x) e
    ∙ sym (sole_kept (λ (y : Order). is_gate g y.gate) (take i os) o (is_gate g o.gate))
    ∙ ap sole (sym (filter-append (λ (y : Order). is_gate g y.gate) (take i os) (o ∷ [])))
    ∙ ap (λ (xs : List Order). sole (orders_of xs g)) (sym (take_more os i d l))

pub seen_step : (g : ℕ) (os : List Order) (i : ℕ) (d : Order) (old new : Bool) → i < length os → old ≡ list_any (λ (o : Order). is_gate g o.gate) (take i os)
    → new ≡ (old || is_gate g (get_or os i d).gate) → new ≡ list_any (λ (o : Order). is_gate g o.gate) (take (i + 1) os)
seen_step g os i d old new l e k = k ∙ ap (λ (b : Bool). b || is_gate g (get_or os i d).gate) e ∙ sym (list_any_more (λ (o : Order). is_gate g o.gate) os i d l)

-- ---- a table that is sifted gate by gate

pub sifted_more : (gates : List GateInfo) (was old new : ℕ → Option Order) (i : ℕ) → ((g : ℕ) → g < i → old g ≡ (if stands_alone gates g then was g else None)) → ((g : ℕ) → i ≤ g → old g ≡ was g)
    → new i ≡ (if stands_alone gates i then old i else None) → ((g : ℕ) → (g ≡ i → ⊥) → new g ≡ old g) → (g : ℕ) → g < i + 1 → new g ≡ (if stands_alone gates g then was g else None)
sifted_more gates was old new i done left here others g l = elim (cases_lt g i) [
  | inl k ↦ others g (λ e. omega (arith, e)) ∙ done g k
  | inr k ↦
      let e : g ≡ i = omega arith in
      ap new e ∙ here ∙ ap (λ (x : Option Order). if stands_alone gates i then x else None) (left i (omega arith)) ∙ sym (ap (λ (j : ℕ). if stands_alone gates j then was j else None) e)
]

-- ---- the whole table

pub same_outranks : (m : Market) (t : Lone) (g h : ℕ) → IsLoneOf m t → g < length m.gates → h < length m.gates → outranks_in t g h ≡ outranks m g h
same_outranks m t g h k l s = ap (λ (x : Option Order). outranks_by x g (lone_in t h) h) (k g l) ∙ ap (λ (x : Option Order). outranks_by (lone_order m g) g x h) (k h s)

-- both of two twins are marked
both_marked : (m : Market) (t : Twins) (g h : ℕ) → IsTwinsOf m t → g < length m.gates → h < length m.gates → outranks_in t.lone g h ≡ true
    → (opens_in t.twinned g ≡ true) × (opens_in t.twinned h ≡ true)
both_marked m t g h k l s e = elim (cases_lt g h) [
  | inl less ↦
      let both = and_parts (opens_in t.twinned h) (opens_in t.twinned g) (k.marked h g s (omega (arith, less)) (or_later (outranks_in t.lone h g) (outranks_in t.lone g h) e)) in
      (both.1, both.0)
  | inr more ↦ and_parts (opens_in t.twinned g) (opens_in t.twinned h) (k.marked g h l more (or_first (outranks_in t.lone g h) (outranks_in t.lone h g) e))
]

-- so nothing outranks a gate that isn't marked, and it outranks nothing
pub none_above : (m : Market) (t : Twins) (g h : ℕ) → IsTwinsOf m t → g < length m.gates → h < length m.gates → opens_in t.twinned h ≡ false → outranks_in t.lone g h ≡ false
none_above m t g h k l s e = by_test (outranks_in t.lone g h) (λ y. let both = both_marked m t g h k l s y in let marked = both.1 in absurd (cc (marked, e))) (λ n. n)

pub none_below : (m : Market) (t : Twins) (g h : ℕ) → IsTwinsOf m t → g < length m.gates → h < length m.gates → opens_in t.twinned g ≡ false → outranks_in t.lone g h ≡ false
none_below m t g h k l s e = by_test (outranks_in t.lone g h) (λ y. let both = both_marked m t g h k l s y in let marked = both.0 in absurd (cc (marked, e))) (λ n. n)

-- marks that are kept keep pairs of twins marked
pub kept_marked : (t : Lone) (old new : Marks) (g h : ℕ) → ((k : ℕ) → opens_in old k ≡ true → opens_in new k ≡ true) → AreMarked t old g h → AreMarked t new g h
kept_marked t old new g h kept marked e =
    let both = and_parts (opens_in old g) (opens_in old h) (marked e) in
    both_true (opens_in new g) (opens_in new h) (kept g both.0) (kept h both.1)

-- one pair more of a gate's
pub pairs_more : (t : Lone) (old new : Marks) (g i : ℕ) → ((k : ℕ) → opens_in old k ≡ true → opens_in new k ≡ true) → ((h : ℕ) → h < i → AreMarked t old g h) → AreMarked t new g i
    → (h : ℕ) → h < i + 1 → AreMarked t new g h
pairs_more t old new g i kept done here h l = elim (cases_lt h i) [
  | inl less ↦ kept_marked t old new g h kept (done h less)
  | inr more ↦ let e : i ≡ h = omega arith in subst (AreMarked t new g) e here
]

-- one gate more
pub gates_more : (t : Lone) (old new : Marks) (i : ℕ) → ((k : ℕ) → opens_in old k ≡ true → opens_in new k ≡ true) → ((g h : ℕ) → g < i → h ≤ g → AreMarked t old g h)
    → ((h : ℕ) → h ≤ i → AreMarked t new i h) → (g h : ℕ) → g < i + 1 → h ≤ g → AreMarked t new g h
gates_more t old new i kept done here g h l s = elim (cases_lt g i) [
  | inl less ↦ kept_marked t old new g h kept (done g h less s)
  | inr more ↦ let e : i ≡ g = omega arith in subst (λ (k : ℕ). AreMarked t new k h) e (here h (omega (arith, e, s)))
]

-- a mark that stays
pub stays : (old b : Bool) → b ≡ false → old ≡ (old || b)
stays true b e = refl
stays false b e = sym e

-- where every gate is marked, so is each of two
pub all_marked : (m : Market) (t : Lone) (marks : Marks) → length m.gates ≤ 512 → ((g : ℕ) → g < 512 → opens_in marks g ≡ true) → (g h : ℕ) → g < length m.gates → h ≤ g → AreMarked t marks g h
all_marked m t marks few all g h l s e = both_true (opens_in marks g) (opens_in marks h) (all g (omega (arith, l, few))) (all h (omega (arith, l, few, s)))
