-- The test of twins says exactly which gates are twins, and in which rank; what a state opens and closes keeps it.
use Rattle.std.proofs.Common.{◌≡◌, ◌⊎◌, ◌↔◌, ◌==◌, ◌&&◌, ◌||◌, not, if◌then◌else◌, Bool, true, false, ℕ, zero, suc, ◌<◌, ℤ, List, [], ◌∷◌, length, get_or, Option, Some, None, arith, refl, sym, ap, ◌∙◌, subst, inl, inr}
use Rattle.std.specs.Prelude.{nat_lt}
use Rattle.std.specs.List.{list_any, range_with_len}
use Rattle.std.specs.Option.{is_some}
use Rattle.std.specs.Ordering.{int_eq}
use Rattle.std.proofs.lemmas.Int.{ints}
use Rattle.std.proofs.lemmas.Bool.{and_parts}
use Rattle.std.proofs.lemmas.Bool.Decides.{nat_tests, Decides-int_eq}
use Rattle.std.proofs.lemmas.List.Folds.{list_any_at, list_any_none}
use Rattle.mari_market.specs.declared.market.Side.{Side}
use Rattle.mari_market.specs.declared.market.Side.TheVariants.{Inject, Withdraw}
use Rattle.mari_market.specs.declared.market.Order.{Order}
use Rattle.mari_market.specs.declared.market.GateInfo.{GateInfo}
use Rattle.mari_market.specs.declared.market.Market.{Market}
use Rattle.mari_market.specs.Activation.{is_gate}
use Rattle.mari_market.specs.Gates.{group_of, parent_of}
use Rattle.mari_market.specs.Market.{IsValid}
use Rattle.mari_market.proofs.Rising.{is_less, less}
use Rattle.mari_gates.proofs.Decisions.{parent_at}
use Rattle.mari_reach.specs.Twins.{are_alike, are_indivisible, is_better, is_child, is_one_side, lone_order, may_exchange, no_order, order_at, orders_of, outranks, outranks_by, ranks_before, sole, stands_alone, AreAlike, AreIndivisible, AreTwins, IsBetter, IsLone, RanksBefore}
use Rattle.mari_reach.specs.declared.decisions.Decision.{Decision}
use Rattle.mari_reach.specs.declared.decisions.Decision.TheVariants.{Above, AtMost, Gate}
use Rattle.mari_reach.specs.State.{are_rivals, closes, closes_by, has_loss, has_rival, high_of, is_one_group, is_shut, line_from, line_of, loses, loses_within, low_of, opens, opens_by, shuts}
use Rattle.mari_reach.proofs.Exchanges.{gate_is, is_it}
use Rattle.mari_reach.proofs.Ranges.{both_true, or_first, or_later, refused}
use Rattle.mari_reach.proofs.Reaching.{any_gives, or_either, same_number}
use Rattle.mari_reach.proofs.Repeated.{ranked, Ranked}

-- ---- the only order of a gate

skipped : (g : ℕ) (x : Order) (xs : List Order) → is_gate g x.gate ≡ false → orders_of (x ∷ xs) g ≡ orders_of xs g
skipped g x xs e = ap (λ (b : Bool). if b then x ∷ orders_of xs g else orders_of xs g) e

taken : (g : ℕ) (x : Order) (xs : List Order) → is_gate g x.gate ≡ true → orders_of (x ∷ xs) g ≡ x ∷ orders_of xs g
taken g x xs e = ap (λ (b : Bool). if b then x ∷ orders_of xs g else orders_of xs g) e

no_orders : (g : ℕ) (os : List Order) → ((k : ℕ) → k < length os → (get_or os k no_order).gate ≡ Some g → ⊥) → orders_of os g ≡ []
no_orders g [] n = refl
no_orders g (x ∷ xs) n = skipped g x xs (refused (is_gate g x.gate) (λ e. n 0 (omega arith) (gate_is g x.gate e))) ∙ no_orders g xs (λ k l. n (suc k) (omega arith))

sole_of : (g : ℕ) (os : List Order) (i : ℕ) → i < length os → (get_or os i no_order).gate ≡ Some g → ((k : ℕ) → k < length os → (get_or os k no_order).gate ≡ Some g → k ≡ i)
    → sole (orders_of os g) ≡ Some (get_or os i no_order)
sole_of g [] i l e alone = absurd (omega arith)
sole_of g (x ∷ xs) zero l e alone =
    ap sole (taken g x xs (is_it g x.gate e) ∙ ap (λ (ys : List Order). x ∷ ys) (no_orders g xs (λ k s of_it. zero_is k (alone (suc k) (omega arith) of_it))))
  where
    zero_is : (k : ℕ) → suc k ≡ 0 → ⊥
    zero_is k f = omega (arith, f)
sole_of g (x ∷ xs) (suc i) l e alone =
    ap sole (skipped g x xs (refused (is_gate g x.gate) (λ f. later (alone 0 (omega arith) (gate_is g x.gate f)))))
    ∙ sole_of g xs i (omega arith) e (λ k s of_it. same k (alone (suc k) (omega arith) of_it))
  where
    later : 0 ≡ suc i → ⊥
    later f = omega (arith, f)

    same : (k : ℕ) → suc k ≡ suc i → k ≡ i
    same k f = omega (arith, f)

no_option : {X : Type 0} (o : Option X) → o ≡ None → not (is_some o) ≡ true
no_option o e = ap (λ (x : Option _). not (is_some x)) e

no_children : (g : ℕ) (gates : List GateInfo) → ((h : ℕ) → parent_of gates h ≡ Some g → ⊥) → list_any (is_child g) gates ≡ false
no_children g gates n =
    list_any_none (is_child g) gates (λ h d l. refused (is_child g (get_or gates h d)) (λ e. n h (parent_at gates h d l ∙ gate_is g (get_or gates h d).parent e)))

lone_stands : (m : Market) (g i : ℕ) → IsLone m g i → stands_alone m.gates g ≡ true
lone_stands m g i h =
    both_true (not (is_some (group_of m.gates g))) (not (is_some (parent_of m.gates g)) && not (list_any (is_child g) m.gates)) (no_option (group_of m.gates g) h.no_group)
    (both_true (not (is_some (parent_of m.gates g))) (not (list_any (is_child g) m.gates)) (no_option (parent_of m.gates g) h.no_parent) (ap not (no_children g m.gates h.no_child)))

lone_is : (m : Market) (g i : ℕ) → IsLone m g i → lone_order m g ≡ Some (order_at m i)
lone_is m g i h = ap (λ (b : Bool). if b then sole (orders_of m.orders g) else None) (lone_stands m g i h) ∙ sole_of g m.orders i h.place h.of_it h.alone

-- ---- twins pass their tests

equal : (a b : ℕ) → a ≡ b → (a == b) ≡ true
equal a b e = grind (arith, nat_tests)

equal_price : (a b : ℤ) → a ≡ b → int_eq a b ≡ true
equal_price a b e = (Decides-int_eq a b).1 e

side_is : (a b : Side) → a ≡ b → is_one_side a b ≡ true
side_is a b e = subst (λ (s : Side). is_one_side a s ≡ true) e (itself a)
  where
    itself : (s : Side) → is_one_side s s ≡ true
    itself Inject = refl
    itself Withdraw = refl

sizes_are : (o x : Order) → AreIndivisible o x ⊎ AreAlike o x → (are_indivisible o x || are_alike o x) ≡ true
sizes_are o x s = elim s [
  | inl one ↦ or_first (are_indivisible o x) (are_alike o x)
      (both_true (o.least == o.greatest) ((x.least == x.greatest) && (o.greatest == x.greatest)) (equal o.least o.greatest one.first)
      (both_true (x.least == x.greatest) (o.greatest == x.greatest) (equal x.least x.greatest one.second) (equal o.greatest x.greatest one.size)))
  | inr alike ↦ or_later (are_indivisible o x) (are_alike o x)
      (both_true (o.least == x.least) ((o.greatest == x.greatest) && int_eq o.price.0 x.price.0) (equal o.least x.least alike.least)
      (both_true (o.greatest == x.greatest) (int_eq o.price.0 x.price.0) (equal o.greatest x.greatest alike.greatest) (equal_price o.price.0 x.price.0 alike.price)))
]

better_is : (side : Side) (c d : ℤ) → IsBetter side c d → is_better side c d ≡ true
better_is Inject c d b = is_less c d b
better_is Withdraw c d b = is_less d c b

later_is : (h g : ℕ) → h < g → nat_lt h g ≡ true
later_is h g l = grind (arith, nat_tests)

rank_is : (o x : Order) (g h : ℕ) → RanksBefore o g x h → ranks_before o g x h ≡ true
rank_is o x g h r = elim r [
  | inl b ↦ or_first (is_better o.side o.price.0 x.price.0) (int_eq o.price.0 x.price.0 && nat_lt h g) (better_is o.side o.price.0 x.price.0 b)
  | inr e ↦ or_later (is_better o.side o.price.0 x.price.0) (int_eq o.price.0 x.price.0 && nat_lt h g)
      (both_true (int_eq o.price.0 x.price.0) (nat_lt h g) (equal_price o.price.0 x.price.0 e.0) (later_is h g e.1))
]

-- a twin that ranks before another outranks it
pub outranks_is : (m : Market) (g h i j : ℕ) → AreTwins m g h i j → RanksBefore (order_at m i) g (order_at m j) h → outranks m g h ≡ true
outranks_is m g h i j t r =
    let o = order_at m i in
    let x = order_at m j in
    ap (λ (y : Option Order). outranks_by y g (lone_order m h) h) (lone_is m g i t.first) ∙ ap (λ (y : Option Order). outranks_by (Some o) g y h) (lone_is m h j t.second)
    ∙ both_true (may_exchange o x) (ranks_before o g x h)
    (both_true (o.zone == x.zone) (is_one_side o.side x.side && (are_indivisible o x || are_alike o x)) (equal o.zone x.zone t.zone)
    (both_true (is_one_side o.side x.side) (are_indivisible o x || are_alike o x) (side_is o.side x.side t.side) (sizes_are o x t.sizes)))
    (rank_is o x g h r)

-- twins at their places, of which the first ranks before the second
abbrev pub AreRanked : Market → ℕ → ℕ → Type 0
AreRanked m g h = (i : ℕ) × ((j : ℕ) × (AreTwins m g h i j × RanksBefore (order_at m i) g (order_at m j) h))

pub outranks_exactly : (m : Market) (g h : ℕ) → IsValid m → (outranks m g h ≡ true) ↔ AreRanked m g h
outranks_exactly m g h v = (
  λ e. let r = ranked m g h v e in (r.first, (r.second, (r.twins, r.rank))),
  λ t. outranks_is m g h t.0 t.1.0 t.1.1.0 t.1.1.1,
)

-- ---- what outranks a gate outranks those that it outranks

sizes_both : (o x y : Order) → AreIndivisible o x ⊎ AreAlike o x → AreIndivisible x y ⊎ AreAlike x y → AreIndivisible o y ⊎ AreAlike o y
sizes_both o x y s t = elim s [
  | inl a ↦ elim t [
    | inl b ↦ inl (record { first = a.first; second = b.second; size = a.size ∙ b.size })
    | inr b ↦ inl (record { first = a.first; second = sym b.least ∙ a.second ∙ b.greatest; size = a.size ∙ b.greatest })
  ]
  | inr a ↦ elim t [
    | inl b ↦ inl (record { first = a.least ∙ b.first ∙ sym a.greatest; second = b.second; size = a.greatest ∙ b.size })
    | inr b ↦ inr (record { least = a.least ∙ b.least; greatest = a.greatest ∙ b.greatest; price = a.price ∙ b.price })
  ]
]

rank_both : (side : Side) (c d e : ℤ) (g h k : ℕ) → IsBetter side c d ⊎ ((c ≡ d) × (h < g)) → IsBetter side d e ⊎ ((d ≡ e) × (k < h)) → IsBetter side c e ⊎ ((c ≡ e) × (k < g))
rank_both Inject c d e g h k r s = elim r [
  | inl a ↦ elim s [ inl b ↦ inl (omega (arith, ints, a, b)) | inr b ↦ let same = b.0 in inl (omega (arith, ints, a, same)) ]
  | inr a ↦ elim s [ inl b ↦ let same = a.0 in inl (omega (arith, ints, b, same)) | inr b ↦ let l = a.1 in let n = b.1 in inr (a.0 ∙ b.0, omega (arith, l, n)) ]
]
rank_both Withdraw c d e g h k r s = elim r [
  | inl a ↦ elim s [ inl b ↦ inl (omega (arith, ints, a, b)) | inr b ↦ let same = b.0 in inl (omega (arith, ints, a, same)) ]
  | inr a ↦ elim s [ inl b ↦ let same = a.0 in inl (omega (arith, ints, b, same)) | inr b ↦ let l = a.1 in let n = b.1 in inr (a.0 ∙ b.0, omega (arith, l, n)) ]
]

pub outranks_both : (m : Market) (g h k : ℕ) → IsValid m → outranks m g h ≡ true → outranks m h k ≡ true → outranks m g k ≡ true
outranks_both m g h k v e f =
    let a = ranked m g h v e in
    let b = ranked m h k v f in
    let place : b.first ≡ a.second = a.twins.second.alone b.first b.twins.first.place b.twins.first.of_it in
    let o = order_at m a.first in
    let x = order_at m a.second in
    let y = order_at m b.second in
    let next : AreTwins m h k a.second b.second = subst (λ (n : ℕ). AreTwins m h k n b.second) place b.twins in
    let rank : RanksBefore x h y k = subst (λ (n : ℕ). RanksBefore (order_at m n) h y k) place b.rank in
    outranks_is m g k a.first b.second (record {
      first = a.twins.first;
      second = next.second;
      zone = a.twins.zone ∙ next.zone;
      side = a.twins.side ∙ next.side;
      sizes = sizes_both o x y a.twins.sizes next.sizes;
    })
    (rank_both o.side o.price.0 x.price.0 y.price.0 g h k a.rank (subst (λ (s : Side). IsBetter s x.price.0 y.price.0 ⊎ ((x.price.0 ≡ y.price.0) × (k < h))) (sym a.twins.side) rank))

-- ---- what a state opens and closes keeps the rank

any_weaker : {X : Type 0} (p q : X → Bool) (xs : List X) → ((x : X) → p x ≡ true → q x ≡ true) → list_any p xs ≡ true → list_any q xs ≡ true
any_weaker p q [] k e = absurd (cc)
any_weaker p q (x ∷ xs) k e = elim (or_either (p x) (list_any p xs) e) [
  | inl h ↦ or_first (q x) (list_any q xs) (k x h)
  | inr h ↦ or_later (q x) (list_any q xs) (any_weaker p q xs k h)
]

-- above a gate none is one that has no child
not_above : (n : ℕ) (gates : List GateInfo) (h : ℕ) (next : Option ℕ) → ((x : ℕ) → parent_of gates x ≡ Some h → ⊥) → ((x : ℕ) → next ≡ Some x → x ≡ h → ⊥)
    → list_any (λ k. k == h) (line_from n gates next) ≡ true → ⊥
not_above zero gates h next childless k e = absurd (cc)
not_above (suc n) gates h None childless k e = absurd (cc)
not_above (suc n) gates h (Some x) childless k e = elim (or_either (x == h) (list_any (λ y. y == h) (line_from n gates (parent_of gates x))) e) [
  | inl here ↦ k x refl (same_number x h here)
  | inr above ↦ not_above n gates h (parent_of gates x) childless (λ y is same. childless x (is ∙ ap Some same)) above
]

only_itself : (n : ℕ) (gates : List GateInfo) (h k : ℕ) → ((x : ℕ) → parent_of gates x ≡ Some h → ⊥) → list_any (λ x. x == h) (line_from n gates (Some k)) ≡ true → k ≡ h
only_itself zero gates h k childless e = absurd (cc)
only_itself (suc n) gates h k childless e = elim (or_either (k == h) (list_any (λ x. x == h) (line_from n gates (parent_of gates k))) e) [
  | inl here ↦ same_number k h here
  | inr above ↦ absurd (not_above n gates h (parent_of gates k) childless (λ x is same. childless k (is ∙ ap Some same)) above)
]

opens_better : (m : Market) (g h : ℕ) (d : Decision) → IsValid m → outranks m g h ≡ true → opens_by m h d ≡ true → opens_by m g d ≡ true
opens_better m g h (Gate k b) v rank e =
    let both = and_parts b (list_any (λ x. x == h) (line_of m.gates k) || outranks m h k) e in
    both_true b (list_any (λ x. x == g) (line_of m.gates k) || outranks m g k) both.0
    (or_later (list_any (λ x. x == g) (line_of m.gates k)) (outranks m g k)
    (elim (or_either (list_any (λ x. x == h) (line_of m.gates k)) (outranks m h k) both.1) [
      | inl line ↦ subst (λ (x : ℕ). outranks m g x ≡ true) (sym (only_itself (length m.gates) m.gates h k (ranked m g h v rank).twins.second.no_child line)) rank
      | inr more ↦ outranks_both m g h k v rank more
    ]))
opens_better m g h (AtMost z p) v rank e = absurd (cc)
opens_better m g h (Above z p) v rank e = absurd (cc)

-- a state opens with a gate its twins that rank before it
pub opened_by_rank : (m : Market) (ds : List Decision) (g h : ℕ) → IsValid m → outranks m g h ≡ true → opens m ds h ≡ true → opens m ds g ≡ true
opened_by_rank m ds g h v rank e = any_weaker (opens_by m h) (opens_by m g) ds (λ d is. opens_better m g h d v rank is) e

closes_worse : (m : Market) (g h : ℕ) (d : Decision) → IsValid m → outranks m g h ≡ true → closes_by m g d ≡ true → closes_by m h d ≡ true
closes_worse m g h (Gate k b) v rank e =
    let both = and_parts (not b) ((k == g) || outranks m k g) e in
    both_true (not b) ((k == h) || outranks m k h) both.0
    (or_later (k == h) (outranks m k h)
    (elim (or_either (k == g) (outranks m k g) both.1) [
      | inl same ↦ subst (λ (x : ℕ). outranks m x h ≡ true) (sym (same_number k g same)) rank
      | inr more ↦ outranks_both m k g h v more rank
    ]))
closes_worse m g h (AtMost z p) v rank e = absurd (cc)
closes_worse m g h (Above z p) v rank e = absurd (cc)

any_at : {X : Type 0} (p : X → Bool) (xs : List X) (d : X) → list_any p xs ≡ true → (k : ℕ) × (k < length xs) × (p (get_or xs k d) ≡ true)
any_at p [] d e = absurd (cc)
any_at p (x ∷ xs) d e = elim (or_either (p x) (list_any p xs) e) [
  | inl h ↦ (0, omega arith, h)
  | inr h ↦ let more = any_at p xs d h in let l = more.1 in (suc more.0, omega (arith, l), more.2)
]

loses_worse : (side : Side) (c d low high : ℤ) (g h : ℕ) → IsBetter side c d ⊎ ((c ≡ d) × (h < g)) → loses_within side c low high ≡ true → loses_within side d low high ≡ true
loses_worse Inject c d low high g h r e = elim r [
  | inl b ↦ is_less high d (omega (arith, ints, less high c e, b))
  | inr s ↦ let same = s.0 in is_less high d (omega (arith, ints, less high c e, same))
]
loses_worse Withdraw c d low high g h r e = elim r [
  | inl b ↦ is_less d low (omega (arith, ints, less c low e, b))
  | inr s ↦ let same = s.0 in is_less d low (omega (arith, ints, less c low e, same))
]

has_loss_worse : (m : Market) (ds : List Decision) (g h : ℕ) → Ranked m g h → has_loss m ds g ≡ true → has_loss m ds h ≡ true
has_loss_worse m ds g h r e =
    let o = order_at m r.first in
    let x = order_at m r.second in
    let f = any_at (λ (y : Order). is_gate g y.gate && loses m ds y) m.orders no_order e in
    let both = and_parts (is_gate g (order_at m f.0).gate) (loses m ds (order_at m f.0)) f.2 in
    let here : f.0 ≡ r.first = r.twins.first.alone f.0 f.1 (gate_is g (order_at m f.0).gate both.0) in
    let lost : loses_within o.side o.price.0 (low_of m ds o.zone) (high_of m ds o.zone) ≡ true = subst (λ (k : ℕ). loses m ds (order_at m k) ≡ true) here both.1 in
    let there : loses_within o.side x.price.0 (low_of m ds o.zone) (high_of m ds o.zone) ≡ true =
    loses_worse o.side o.price.0 x.price.0 (low_of m ds o.zone) (high_of m ds o.zone) g h r.rank lost in
    let in_zone : loses_within o.side x.price.0 (low_of m ds x.zone) (high_of m ds x.zone) ≡ true =
    subst (λ (z : ℕ). loses_within o.side x.price.0 (low_of m ds z) (high_of m ds z) ≡ true) r.twins.zone there in
    let worse : loses m ds x ≡ true = subst (λ (s : Side). loses_within s x.price.0 (low_of m ds x.zone) (high_of m ds x.zone) ≡ true) r.twins.side in_zone in
    list_any_at (λ (y : Order). is_gate h y.gate && loses m ds y) m.orders r.second no_order r.twins.second.place
    (both_true (is_gate h x.gate) (loses m ds x) (is_it h x.gate r.twins.second.of_it) worse)

no_rival : (gates : List GateInfo) (on : ℕ → Bool) (g : ℕ) → group_of gates g ≡ None → has_rival gates on g ≡ true → ⊥
no_rival gates on g none e =
    any_gives (λ h. are_rivals gates g h && on h) (range_with_len 0 (length gates)) e (λ h test.
    let both = and_parts (are_rivals gates g h) (on h) test in
    let rival = and_parts (not (g == h)) (is_one_group (group_of gates g) (group_of gates h)) both.0 in
    false_true (is_one_group None (group_of gates h)) refl (subst (λ (k : Option ℕ). is_one_group k (group_of gates h) ≡ true) none rival.1))
  where
    false_true : (b : Bool) → b ≡ false → b ≡ true → ⊥
    false_true true x y = absurd (cc)
    false_true false x y = absurd (cc)

shut_worse : (m : Market) (ds : List Decision) (g h : ℕ) → IsValid m → outranks m g h ≡ true → Ranked m g h → is_shut m ds g ≡ true → is_shut m ds h ≡ true
shut_worse m ds g h v rank r e = elim (or_either (closes m ds g) (has_rival m.gates (opens m ds) g || has_loss m ds g) e) [
  | inl said ↦ or_first (closes m ds h) (has_rival m.gates (opens m ds) h || has_loss m ds h) (any_weaker (closes_by m g) (closes_by m h) ds (λ d is. closes_worse m g h d v rank is) said)
  | inr more ↦ elim (or_either (has_rival m.gates (opens m ds) g) (has_loss m ds g) more) [
    | inl rival ↦ absurd (no_rival m.gates (opens m ds) g r.twins.first.no_group rival)
    | inr loss ↦ or_later (closes m ds h) (has_rival m.gates (opens m ds) h || has_loss m ds h) (or_later (has_rival m.gates (opens m ds) h) (has_loss m ds h) (has_loss_worse m ds g h r loss))
  ]
]

none_above : (p : ℕ → Bool) (n : ℕ) (gates : List GateInfo) (next : Option ℕ) → next ≡ None → list_any p (line_from n gates next) ≡ true → ⊥
none_above p zero gates next e f = absurd (cc)
none_above p (suc n) gates None e f = absurd (cc)
none_above p (suc n) gates (Some x) e f = absurd (cc)

lone_line : (p : ℕ → Bool) (n : ℕ) (gates : List GateInfo) (g : ℕ) → parent_of gates g ≡ None → list_any p (line_from n gates (Some g)) ≡ true → p g ≡ true
lone_line p zero gates g none e = absurd (cc)
lone_line p (suc n) gates g none e = elim (or_either (p g) (list_any p (line_from n gates (parent_of gates g))) e) [
  | inl here ↦ here
  | inr above ↦ absurd (none_above p n gates (parent_of gates g) none above)
]

in_own_line : (p : ℕ → Bool) (n : ℕ) (gates : List GateInfo) (g : ℕ) → 0 < n → p g ≡ true → list_any p (line_from n gates (Some g)) ≡ true
in_own_line p zero gates g l e = absurd (omega arith)
in_own_line p (suc n) gates g l e = or_first (p g) (list_any p (line_from n gates (parent_of gates g))) e

-- and closes with a gate its twins before which it ranks
pub shut_by_rank : (m : Market) (ds : List Decision) (g h : ℕ) → IsValid m → outranks m g h ≡ true → shuts m ds g ≡ true → shuts m ds h ≡ true
shut_by_rank m ds g h v rank e =
    let r = ranked m g h v rank in
    let there = r.twins.second.there in
    in_own_line (is_shut m ds) (length m.gates) m.gates h (omega (arith, there)) (shut_worse m ds g h v rank r (lone_line (is_shut m ds) (length m.gates) m.gates g r.twins.first.no_parent e))
