-- An activation that opens a gate and closes a twin of better rank isn't the first.
use Rattle.std.proofs.Common.{◌≡◌, ◌≢◌, ◌⊎◌, ◌==◌, ◌&&◌, ◌||◌, if◌then◌else◌, Bool, true, false, ℕ, zero, suc, ◌<◌, ◌≤◌, ℤ, pos, negsuc, ◌+ℤ◌, ◌-ℤ◌, ◌*ℤ◌, ◌≤ℤ◌, ◌<ℤ◌, List, [], ◌∷◌, length, set, get_or, get_or-set_other, Option, Some, None, arith, refl, sym, ap, ◌∙◌, subst, inl, inr}
use Rattle.std.specs.Prelude.{nat_lt, MatchOption}
use Rattle.std.specs.List.{AllZip}
use Rattle.std.proofs.lemmas.Int.{ints}
use Rattle.std.proofs.lemmas.Bool.{cases_eq}
use Rattle.std.proofs.lemmas.Bool.Decides.{nat_tests}
use Rattle.std.proofs.lemmas.List.{get_or-set_same, length-set}
use Rattle.mari_units.specs.declared.numbers.Cents.{Cents}
use Rattle.mari_market.specs.declared.market.Side.{Side}
use Rattle.mari_market.specs.declared.market.Side.TheVariants.{Inject, Withdraw}
use Rattle.mari_market.specs.declared.market.Order.{Order}
use Rattle.mari_market.specs.declared.market.Market.{Market}
use Rattle.mari_market.specs.declared.activation.Activation.{Activation}
use Rattle.mari_market.specs.declared.price_rules.Standing.TheVariants.{InOpen, InClosed}
use Rattle.mari_market.specs.Activation.{gain, gate_word_of, is_gate, is_open, is_run_of, order_gain, put_in, put_into, runs_gate, welfare_of, IsBalanced}
use Rattle.mari_market.specs.Bounds.{IsWithin, gated_span, own_bounds, span_of}
use Rattle.mari_market.specs.Bounds.GateState.{Open, Closed}
use Rattle.mari_market.specs.Consistent.{standing_of, IsConsistentOrder, IsConsistentTrade}
use Rattle.mari_market.specs.First.{ComesBefore, IsFirst}
use Rattle.mari_market.specs.Gates.{group_of, parent_of, KeepsGateRules}
use Rattle.mari_market.specs.Market.{IsValid}
use Rattle.mari_market.specs.Optimal.{IsAdmissible, IsConsistent, IsFeasible}
use Rattle.mari_market.specs.Price.{price_at}
use Rattle.mari_market.specs.Sums.{sum_along}
use Rattle.mari_market.proofs.Ints.{pos_mul_lt, sub-mul_z}
use Rattle.mari_market.proofs.Lists.{by_test}
use Rattle.mari_market.proofs.Sums.{AllZip-at, sum_along-set}
use Rattle.mari_reach.specs.Twins.{moved, no_order, order_at, AreTwins, IsAhead, IsBetter, RanksBefore}
use Rattle.mari_reach.proofs.LeafLaws.{opens_map}
use Rattle.mari_reach.proofs.Ranges.{both_true, or_first, or_later}

-- ---- lists side by side

zip_length : {X Y : Type 0} (P : X → Y → Type 0) (xs : List X) (ys : List Y) → AllZip P xs ys → length ys ≡ length xs
zip_length P [] [] a = refl
zip_length P [] (y ∷ ys) a = absurd a
zip_length P (x ∷ xs) [] a = absurd a
zip_length P (x ∷ xs) (y ∷ ys) a = ap suc (zip_length P xs ys a.1)

all_zip : {X Y : Type 0} (P : X → Y → Type 0) (xs : List X) (ys : List Y) (d : X) (e : Y) → length ys ≡ length xs → ((k : ℕ) → k < length xs → P (get_or xs k d) (get_or ys k e)) → AllZip P xs ys
all_zip P [] [] d e l h = tt
all_zip P [] (y ∷ ys) d e l h = absurd (omega (arith, l))
all_zip P (x ∷ xs) [] d e l h = absurd (omega (arith, l))
all_zip P (x ∷ xs) (y ∷ ys) d e l h = (h 0 (omega arith), all_zip P xs ys d e (omega (arith, l)) (λ k s. h (suc k) (omega arith)))

-- ---- gates that run

or_none : (a b : Bool) → a ≡ false → b ≡ false → (a || b) ≡ false
or_none true b e f = absurd (cc)
or_none false b e f = f

and_none : (a b : Bool) → a ≡ false → (a && b) ≡ false
and_none true b e = absurd (cc)
and_none false b e = refl

runs_mw : (q : ℕ) → 0 < q → nat_lt 0 q ≡ true
runs_mw q l = grind (arith, nat_tests)

pub gate_is : (g : ℕ) (gate : Option ℕ) → is_gate g gate ≡ true → gate ≡ Some g
gate_is g None e = absurd (cc)
gate_is g (Some h) e = let same : h ≡ g = grind (arith, nat_tests) in ap Some same

pub is_it : (g : ℕ) (gate : Option ℕ) → gate ≡ Some g → is_gate g gate ≡ true
is_it g None e = absurd (cc)
is_it g (Some h) e = let same : h ≡ g = cc in grind (arith, nat_tests)

off_gate : (k : ℕ) (os : List Order) (qs : List ℕ) (i q : ℕ) (d : Order) → i < length os → i < length qs → is_gate k (get_or os i d).gate ≡ false → runs_gate k os (set qs i q) ≡ runs_gate k os qs
off_gate k [] qs i q d l s e = absurd (omega arith)
off_gate k (o ∷ os) [] i q d l s e = absurd (omega arith)
off_gate k (o ∷ os) (x ∷ qs) zero q d l s e =
    ap (λ (b : Bool). b || runs_gate k os qs) (and_none (is_gate k o.gate) (nat_lt 0 q) e ∙ sym (and_none (is_gate k o.gate) (nat_lt 0 x) e))
off_gate k (o ∷ os) (x ∷ qs) (suc i) q d l s e = ap (λ (b : Bool). is_run_of k o x || b) (off_gate k os qs i q d (omega arith) (omega arith) e)

runs_at : (k : ℕ) (os : List Order) (qs : List ℕ) (i : ℕ) (d : Order) → i < length os → i < length qs → is_gate k (get_or os i d).gate ≡ true → 0 < get_or qs i 0 → runs_gate k os qs ≡ true
runs_at k [] qs i d l s e p = absurd (omega arith)
runs_at k (o ∷ os) [] i d l s e p = absurd (omega arith)
runs_at k (o ∷ os) (x ∷ qs) zero d l s e p = or_first (is_run_of k o x) (runs_gate k os qs) (both_true (is_gate k o.gate) (nat_lt 0 x) e (runs_mw x p))
runs_at k (o ∷ os) (x ∷ qs) (suc i) d l s e p = or_later (is_run_of k o x) (runs_gate k os qs) (runs_at k os qs i d (omega arith) (omega arith) e p)

runs_none : (k : ℕ) (os : List Order) (qs : List ℕ) (d : Order) → ((n : ℕ) → n < length os → n < length qs → is_run_of k (get_or os n d) (get_or qs n 0) ≡ false) → runs_gate k os qs ≡ false
runs_none k [] qs d h = refl
runs_none k (o ∷ os) [] d h = refl
runs_none k (o ∷ os) (x ∷ qs) d h = or_none (is_run_of k o x) (runs_gate k os qs) (h 0 (omega arith) (omega arith)) (runs_none k os qs d (λ n l s. h (suc n) (omega arith) (omega arith)))

-- ---- one order

keep_within : (own new : ℕ → Bool) (gate : Option ℕ) (o : Order) (q : ℕ) → ((k : ℕ) → gate ≡ Some k → new k ≡ own k)
    → IsWithin (span_of (λ k. if own k then Open else Closed) gate o) q → IsWithin (span_of (λ k. if new k then Open else Closed) gate o) q
keep_within own new None o q e w = w
keep_within own new (Some k) o q e w = subst (λ (b : Bool). IsWithin (gated_span (if b then Open else Closed) o) q) (sym (e k refl)) w

keep_trade : (own new : ℕ → Bool) (gate : Option ℕ) (side : Side) (c p : ℤ) (most q : ℕ) → ((k : ℕ) → gate ≡ Some k → new k ≡ own k)
    → IsConsistentTrade (standing_of own gate) side c most q p → IsConsistentTrade (standing_of new gate) side c most q p
keep_trade own new None side c p most q e h = h
keep_trade own new (Some k) side c p most q e h = subst (λ (b : Bool). IsConsistentTrade (if b then InOpen else InClosed) side c most q p) (sym (e k refl)) h

some_is : (g k : ℕ) → Some k ≡ Some g → k ≡ g
some_is g k e = cc

-- what an order of an open gate, and of a closed one, runs
from_open : (own : ℕ → Bool) (gate : Option ℕ) (h : ℕ) (o : Order) (q : ℕ) → gate ≡ Some h → own h ≡ true → IsWithin (span_of (λ k. if own k then Open else Closed) gate o) q
    → (o.least ≤ q) × (q ≤ o.greatest)
from_open own None h o q e f w = absurd (cc)
from_open own (Some k) h o q e f w =
    let x : IsWithin (gated_span Open o) q = subst (λ (b : Bool). IsWithin (gated_span (if b then Open else Closed) o) q) (ap own (some_is h k e) ∙ f) w in
    (x.least, x.most)

from_closed : (own : ℕ → Bool) (gate : Option ℕ) (h : ℕ) (o : Order) (q : ℕ) → gate ≡ Some h → own h ≡ false → IsWithin (span_of (λ k. if own k then Open else Closed) gate o) q → q ≤ 0
from_closed own None h o q e f w = absurd (cc)
from_closed own (Some k) h o q e f w =
    let x : IsWithin (gated_span Closed o) q = subst (λ (b : Bool). IsWithin (gated_span (if b then Open else Closed) o) q) (ap own (some_is h k e) ∙ f) w in
    x.most

to_open : (new : ℕ → Bool) (gate : Option ℕ) (g : ℕ) (o : Order) (q : ℕ) → gate ≡ Some g → new g ≡ true → o.least ≤ q → q ≤ o.greatest
    → IsWithin (span_of (λ k. if new k then Open else Closed) gate o) q
to_open new None g o q e f l s = absurd (cc)
to_open new (Some k) g o q e f l s = subst (λ (b : Bool). IsWithin (gated_span (if b then Open else Closed) o) q) (sym (ap new (some_is g k e) ∙ f)) (record { least = l; most = s })

to_closed : (new : ℕ → Bool) (gate : Option ℕ) (h : ℕ) (o : Order) → gate ≡ Some h → new h ≡ false → IsWithin (span_of (λ k. if new k then Open else Closed) gate o) 0
to_closed new None h o e f = absurd (cc)
to_closed new (Some k) h o e f = subst (λ (b : Bool). IsWithin (gated_span (if b then Open else Closed) o) 0) (sym (ap new (some_is h k e) ∙ f)) (record { least = omega arith; most = omega arith })

trade_from_open : (own : ℕ → Bool) (gate : Option ℕ) (h : ℕ) (side : Side) (c p : ℤ) (most q : ℕ) → gate ≡ Some h → own h ≡ true
    → IsConsistentTrade (standing_of own gate) side c most q p → IsConsistentTrade InOpen side c most q p
trade_from_open own None h side c p most q e f t = absurd (cc)
trade_from_open own (Some k) h side c p most q e f t = subst (λ (b : Bool). IsConsistentTrade (if b then InOpen else InClosed) side c most q p) (ap own (some_is h k e) ∙ f) t

trade_to_open : (new : ℕ → Bool) (gate : Option ℕ) (g : ℕ) (side : Side) (c p : ℤ) (most q : ℕ) → gate ≡ Some g → new g ≡ true → IsConsistentTrade InOpen side c most q p
    → IsConsistentTrade (standing_of new gate) side c most q p
trade_to_open new None g side c p most q e f t = absurd (cc)
trade_to_open new (Some k) g side c p most q e f t = subst (λ (b : Bool). IsConsistentTrade (if b then InOpen else InClosed) side c most q p) (sym (ap new (some_is g k e) ∙ f)) t

trade_to_closed : (new : ℕ → Bool) (gate : Option ℕ) (h : ℕ) (side : Side) (c p : ℤ) (most q : ℕ) → gate ≡ Some h → new h ≡ false → IsConsistentTrade (standing_of new gate) side c most q p
trade_to_closed new None h side c p most q e f = absurd (cc)
trade_to_closed new (Some k) h side c p most q e f = subst (λ (b : Bool). IsConsistentTrade (if b then InOpen else InClosed) side c most q p) (sym (ap new (some_is h k e) ∙ f)) (shut side)
  where
    shut : (s : Side) → IsConsistentTrade InClosed s c most q p
    shut Inject = record { lower = λ x. absurd x; upper = λ x. absurd x }
    shut Withdraw = record { lower = λ x. absurd x; upper = λ x. absurd x }

-- at least as good a price
abbrev IsAsGood : Side → ℤ → ℤ → Type 0
IsAsGood Inject c d = c ≤ℤ d
IsAsGood Withdraw c d = d ≤ℤ c

as_good : (side : Side) (c d : ℤ) (g h : ℕ) → IsBetter side c d ⊎ ((c ≡ d) × (h < g)) → IsAsGood side c d
as_good Inject c d g h r = elim r [ inl b ↦ omega (arith, ints, b) | inr e ↦ let same = e.0 in omega (arith, ints, same) ]
as_good Withdraw c d g h r = elim r [ inl b ↦ omega (arith, ints, b) | inr e ↦ let same = e.0 in omega (arith, ints, same) ]

-- what runs at a price, runs so at a price that is as good
trade_moves : (side : Side) (c d p : ℤ) (most other q : ℕ) → IsAsGood side c d → (q < most → (q < other) × (c ≡ d)) → IsConsistentTrade InOpen side d other q p
    → IsConsistentTrade InOpen side c most q p
trade_moves Inject c d p most other q good room t = record {
  lower = λ x. omega (arith, ints, t.lower tt, good);
  upper = λ l. let r = room l in omega (arith, ints, t.upper r.0, r.1);
}
trade_moves Withdraw c d p most other q good room t = record {
  lower = λ l. let r = room l in omega (arith, ints, t.lower r.0, r.1);
  upper = λ x. omega (arith, ints, t.upper tt, good);
}

-- ---- sums

no_put : (z : ℕ) (o : Order) → put_into z o 0 ≡ pos 0
no_put z o = by (o.zone == z) o.side
  where
    by : (b : Bool) (side : Side) → (if b then put_in side 0 else pos 0) ≡ pos 0
    by true Inject = refl
    by true Withdraw = refl
    by false side = refl

same_put : (z : ℕ) (o x : Order) (q : ℕ) → o.zone ≡ x.zone → o.side ≡ x.side → put_into z o q ≡ put_into z x q
same_put z o x q e f = ap (λ (y : ℕ). if y == z then put_in o.side q else pos 0) e ∙ ap (λ (s : Side). if x.zone == z then put_in s q else pos 0) f

no_gain : (side : Side) (c : ℤ) → gain side c 0 ≡ pos 0
no_gain Inject c = omega (arith, ints)
no_gain Withdraw c = omega (arith, ints)

positive : (k : ℤ) (q : ℕ) → pos 0 <ℤ k → 0 < q → pos 0 <ℤ (k *ℤ pos q)
positive (pos zero) q h l = absurd (omega (arith, ints, h))
positive (pos (suc n)) q h l = omega (arith, ints, pos_mul_lt n (pos 0) (pos q) (omega (arith, ints)))
positive (negsuc n) q h l = absurd (omega (arith, ints, h))

better_gain : (side : Side) (c d : ℤ) (q : ℕ) → IsBetter side c d → 0 < q → gain side d q <ℤ gain side c q
better_gain Inject c d q b l = omega (arith, ints, positive (d -ℤ c) q (omega (arith, ints, b)) l, sub-mul_z d c (pos q))
better_gain Withdraw c d q b l = omega (arith, ints, positive (c -ℤ d) q (omega (arith, ints, b)) l, sub-mul_z c d (pos q))

-- a sum in which the quantities of two orders are exchanged, of which one was 0
exchanged_sum : (f : Order → ℕ → ℤ) (os : List Order) (qs : List ℕ) (i j : ℕ) → i < length os → j < length os → length qs ≡ length os → i ≢ j → get_or qs i 0 ≡ 0
    → f (get_or os i no_order) 0 ≡ pos 0 → f (get_or os j no_order) 0 ≡ pos 0
    → sum_along f os (set (set qs j 0) i (get_or qs j 0)) +ℤ f (get_or os j no_order) (get_or qs j 0) ≡ sum_along f os qs +ℤ f (get_or os i no_order) (get_or qs j 0)
exchanged_sum f os qs i j l s full apart none x y =
    let first = sum_along-set f os qs j 0 no_order 0 s (omega (arith, s, full)) in
    let second = sum_along-set f os (set qs j 0) i (get_or qs j 0) no_order 0 l (omega (arith, l, full, length-set qs j 0)) in
    let was : f (get_or os i no_order) (get_or (set qs j 0) i 0) ≡ pos 0 = ap (λ (q : ℕ). f (get_or os i no_order) q) (get_or-set_other qs j i 0 0 apart ∙ none) ∙ x in
    omega (arith, ints, first, second, was, y)

-- ---- the exchange

-- an activation with consistent prices that opens a gate and closes a twin
pub record Exchange (m : Market) (a : Activation) (us : List Cents) (g h i j : ℕ) : Type 0 where
  pub valid : IsValid m
  pub twins : AreTwins m g h i j
  pub feasible : IsFeasible m a
  pub consistent : IsConsistent m a us
  pub opened : is_open m a h ≡ true
  pub closed : is_open m a g ≡ false

full : (m : Market) (a : Activation) (us : List Cents) (g h i j : ℕ) → Exchange m a us g h i j → length a.mw ≡ length m.orders
full m a us g h i j x = zip_length (λ (o : Order) (q : ℕ). IsWithin (own_bounds m a o) q) m.orders a.mw x.feasible.orders

apart_gates : (m : Market) (a : Activation) (us : List Cents) (g h i j : ℕ) → Exchange m a us g h i j → g ≢ h
apart_gates m a us g h i j x = λ e. let same = ap (is_open m a) e in let o = x.opened in let c = x.closed in absurd (cc (same, o, c))

apart_places : (m : Market) (a : Activation) (us : List Cents) (g h i j : ℕ) → Exchange m a us g h i j → i ≢ j
apart_places m a us g h i j x = λ e. apart_gates m a us g h i j x (some_is h g (sym x.twins.first.of_it ∙ ap (λ (k : ℕ). (order_at m k).gate) e ∙ x.twins.second.of_it))

at_least : (gate : Option ℕ) (gates least h : ℕ) → gate ≡ Some h → MatchOption gate (least ≡ 0) (λ k. (k < gates) × (1 ≤ least)) → 1 ≤ least
at_least None gates least h e f = absurd (cc)
at_least (Some k) gates least h e f = f.1

own_open : (m : Market) (a : Activation) (us : List Cents) (g h i j : ℕ) → Exchange m a us g h i j → ((order_at m j).least ≤ get_or a.mw j 0) × (get_or a.mw j 0 ≤ (order_at m j).greatest)
own_open m a us g h i j x =
    from_open (is_open m a) (order_at m j).gate h (order_at m j) (get_or a.mw j 0) x.twins.second.of_it x.opened
    (AllZip-at (λ (o : Order) (q : ℕ). IsWithin (own_bounds m a o) q) m.orders a.mw j no_order 0 x.twins.second.place x.feasible.orders)

runs : (m : Market) (a : Activation) (us : List Cents) (g h i j : ℕ) → Exchange m a us g h i j → 0 < get_or a.mw j 0
runs m a us g h i j x =
    let valid = x.valid.orders j no_order x.twins.second.place in
    omega (arith, at_least (order_at m j).gate (length m.gates) (order_at m j).least h x.twins.second.of_it valid.gate, (own_open m a us g h i j x).0)

none_there : (m : Market) (a : Activation) (us : List Cents) (g h i j : ℕ) → Exchange m a us g h i j → get_or a.mw i 0 ≡ 0
none_there m a us g h i j x =
    let w = from_closed (is_open m a) (order_at m i).gate g (order_at m i) (get_or a.mw i 0) x.twins.first.of_it x.closed
    (AllZip-at (λ (o : Order) (q : ℕ). IsWithin (own_bounds m a o) q) m.orders a.mw i no_order 0 x.twins.first.place x.feasible.orders) in
    omega (arith, w)

-- what the exchange reads as
at_first : (m : Market) (a : Activation) (us : List Cents) (g h i j : ℕ) → Exchange m a us g h i j → get_or (moved a i j).mw i 0 ≡ get_or a.mw j 0
at_first m a us g h i j x = get_or-set_same (set a.mw j 0) i (get_or a.mw j 0) 0 (omega (arith, x.twins.first.place, full m a us g h i j x, length-set a.mw j 0))

at_second : (m : Market) (a : Activation) (us : List Cents) (g h i j : ℕ) → Exchange m a us g h i j → get_or (moved a i j).mw j 0 ≡ 0
at_second m a us g h i j x =
    get_or-set_other (set a.mw j 0) i j (get_or a.mw j 0) 0 (λ e. apart_places m a us g h i j x (sym e))
    ∙ get_or-set_same a.mw j 0 0 (omega (arith, x.twins.second.place, full m a us g h i j x))

at_others : (m : Market) (a : Activation) (i j k : ℕ) → k ≢ i → k ≢ j → get_or (moved a i j).mw k 0 ≡ get_or a.mw k 0
at_others m a i j k ki kj = get_or-set_other (set a.mw j 0) i k (get_or a.mw j 0) 0 ki ∙ get_or-set_other a.mw j k 0 0 kj

full_moved : (m : Market) (a : Activation) (us : List Cents) (g h i j : ℕ) → Exchange m a us g h i j → length (moved a i j).mw ≡ length m.orders
full_moved m a us g h i j x = length-set (set a.mw j 0) i (get_or a.mw j 0) ∙ length-set a.mw j 0 ∙ full m a us g h i j x

-- ---- its gates

not_its : (k g : ℕ) (gate : Option ℕ) → gate ≡ Some g → k ≢ g → is_gate k gate ≡ false
not_its k g gate e n = by_test (is_gate k gate) (λ t. absurd (n (some_is g k (sym (gate_is k gate t) ∙ e)))) (λ f. f)

pub open_others : (m : Market) (a : Activation) (us : List Cents) (g h i j k : ℕ) → Exchange m a us g h i j → k ≢ g → k ≢ h → is_open m (moved a i j) k ≡ is_open m a k
open_others m a us g h i j k x kg kh =
    off_gate k m.orders (set a.mw j 0) i (get_or a.mw j 0) no_order x.twins.first.place (omega (arith, x.twins.first.place, full m a us g h i j x, length-set a.mw j 0))
    (not_its k g (order_at m i).gate x.twins.first.of_it kg)
    ∙ off_gate k m.orders a.mw j 0 no_order x.twins.second.place (omega (arith, x.twins.second.place, full m a us g h i j x)) (not_its k h (order_at m j).gate x.twins.second.of_it kh)

pub open_first : (m : Market) (a : Activation) (us : List Cents) (g h i j : ℕ) → Exchange m a us g h i j → is_open m (moved a i j) g ≡ true
open_first m a us g h i j x =
    runs_at g m.orders (moved a i j).mw i no_order x.twins.first.place (omega (arith, x.twins.first.place, full_moved m a us g h i j x)) (is_it g (order_at m i).gate x.twins.first.of_it)
    (subst (λ (q : ℕ). 0 < q) (sym (at_first m a us g h i j x)) (runs m a us g h i j x))

no_run : (b : Bool) (q : ℕ) → q ≡ 0 → (b && nat_lt 0 q) ≡ false
no_run b q e = ap (λ (x : ℕ). b && nat_lt 0 x) e ∙ by b
  where
    by : (c : Bool) → (c && false) ≡ false
    by true = refl
    by false = refl

pub shut_second : (m : Market) (a : Activation) (us : List Cents) (g h i j : ℕ) → Exchange m a us g h i j → is_open m (moved a i j) h ≡ false
shut_second m a us g h i j x =
    runs_none h m.orders (moved a i j).mw no_order (λ n l s.
    by_test (is_gate h (order_at m n).gate)
    (λ t. no_run (is_gate h (order_at m n).gate) (get_or (moved a i j).mw n 0)
    (ap (λ (k : ℕ). get_or (moved a i j).mw k 0) (x.twins.second.alone n l (gate_is h (order_at m n).gate t)) ∙ at_second m a us g h i j x))
    (λ f. and_none (is_gate h (order_at m n).gate) (nat_lt 0 (get_or (moved a i j).mw n 0)) f))

-- an open gate is the first of the twins, or neither and open before too
open_before : {R : Type 0} (m : Market) (a : Activation) (us : List Cents) (g h i j k : ℕ) → Exchange m a us g h i j → is_open m (moved a i j) k ≡ true
    → (k ≡ g → R) → (k ≢ g → k ≢ h → is_open m a k ≡ true → R) → R
open_before m a us g h i j k x o one other = elim (cases_eq k g) [
  | inl e ↦ one e
  | inr kg ↦ elim (cases_eq k h) [
    | inl e ↦ let same = ap (is_open m (moved a i j)) e in let shut = shut_second m a us g h i j x in absurd (cc (same, shut, o))
    | inr kh ↦ other kg kh (sym (open_others m a us g h i j k x kg kh) ∙ o)
  ]
]

none_some : {X : Type 0} (o : Option X) (y : X) → o ≡ None → o ≡ Some y → ⊥
none_some o y e f = absurd (cc (e, f))

moved_gates : (m : Market) (a : Activation) (us : List Cents) (g h i j : ℕ) → Exchange m a us g h i j → KeepsGateRules m.gates (is_open m (moved a i j))
moved_gates m a us g h i j x = record {
  parents = λ k p o e. open_before m a us g h i j k x o
      (λ same. absurd (none_some (parent_of m.gates g) p x.twins.first.no_parent (ap (parent_of m.gates) (sym same) ∙ e)))
      (λ kg kh was. open_others m a us g h i j p x
      (λ same. x.twins.first.no_child k (e ∙ ap Some same))
      (λ same. x.twins.second.no_child k (e ∙ ap Some same)) ∙ x.feasible.gates.parents k p was e);
  groups = λ k l n o r e f. open_before m a us g h i j k x o
      (λ same. absurd (none_some (group_of m.gates g) n x.twins.first.no_group (ap (group_of m.gates) (sym same) ∙ e)))
      (λ kg kh was. open_before m a us g h i j l x r
      (λ same. absurd (none_some (group_of m.gates g) n x.twins.first.no_group (ap (group_of m.gates) (sym same) ∙ f)))
      (λ lg lh were. x.feasible.gates.groups k l n was were e f));
}

-- ---- its orders

-- what holds of the two orders and of all others
by_place : (P : Order → ℕ → Type 0) (m : Market) (a : Activation) (us : List Cents) (g h i j : ℕ) → Exchange m a us g h i j
    → P (order_at m i) (get_or a.mw j 0) → P (order_at m j) 0 → ((k : ℕ) → k < length m.orders → k ≢ i → k ≢ j → P (order_at m k) (get_or a.mw k 0))
    → AllZip P m.orders (moved a i j).mw
by_place P m a us g h i j x first second others = all_zip P m.orders (moved a i j).mw no_order 0 (full_moved m a us g h i j x) (λ k l. elim (cases_eq k i) [
  | inl e ↦ subst (λ (n : ℕ). P (order_at m n) (get_or (moved a i j).mw n 0)) (sym e) (subst (P (order_at m i)) (sym (at_first m a us g h i j x)) first)
  | inr ki ↦ elim (cases_eq k j) [
    | inl e ↦ subst (λ (n : ℕ). P (order_at m n) (get_or (moved a i j).mw n 0)) (sym e) (subst (P (order_at m j)) (sym (at_second m a us g h i j x)) second)
    | inr kj ↦ subst (P (order_at m k)) (sym (at_others m a i j k ki kj)) (others k l ki kj)
  ]
])

-- an order at another place is of another gate, whose state is kept
other_gate : (m : Market) (a : Activation) (us : List Cents) (g h i j k : ℕ) → Exchange m a us g h i j → k < length m.orders → k ≢ i → k ≢ j
    → (n : ℕ) → (order_at m k).gate ≡ Some n → is_open m (moved a i j) n ≡ is_open m a n
other_gate m a us g h i j k x l ki kj n e =
    open_others m a us g h i j n x (λ same. ki (x.twins.first.alone k l (e ∙ ap Some same))) (λ same. kj (x.twins.second.alone k l (e ∙ ap Some same)))

fits_least : (m : Market) (a : Activation) (us : List Cents) (g h i j : ℕ) → Exchange m a us g h i j → ((order_at m i).least ≤ get_or a.mw j 0) × (get_or a.mw j 0 ≤ (order_at m i).greatest)
fits_least m a us g h i j x =
    let own = own_open m a us g h i j x in
    elim x.twins.sizes [
      | inl one ↦ let f = one.first in let s = one.second in let z = one.size in (omega (arith, own.0, f, s, z), omega (arith, own.1, z))
      | inr alike ↦ let f = alike.least in let z = alike.greatest in (omega (arith, own.0, f), omega (arith, own.1, z))
    ]

-- where there is room, the prices are the same
room : (m : Market) (a : Activation) (us : List Cents) (g h i j : ℕ) → Exchange m a us g h i j → get_or a.mw j 0 < (order_at m i).greatest
    → (get_or a.mw j 0 < (order_at m j).greatest) × ((order_at m i).price.0 ≡ (order_at m j).price.0)
room m a us g h i j x l =
    let own = own_open m a us g h i j x in
    elim x.twins.sizes [
      | inl one ↦ let s = one.second in let z = one.size in absurd (omega (arith, own.0, s, z, l))
      | inr alike ↦ let z = alike.greatest in (omega (arith, l, z), alike.price)
    ]

moved_orders : (m : Market) (a : Activation) (us : List Cents) (g h i j : ℕ) → Exchange m a us g h i j
    → AllZip (λ (o : Order) (q : ℕ). IsWithin (own_bounds m (moved a i j) o) q) m.orders (moved a i j).mw
moved_orders m a us g h i j x =
    let fits = fits_least m a us g h i j x in
    by_place (λ (o : Order) (q : ℕ). IsWithin (own_bounds m (moved a i j) o) q) m a us g h i j x
    (to_open (is_open m (moved a i j)) (order_at m i).gate g (order_at m i) (get_or a.mw j 0) x.twins.first.of_it (open_first m a us g h i j x) fits.0 fits.1)
    (to_closed (is_open m (moved a i j)) (order_at m j).gate h (order_at m j) x.twins.second.of_it (shut_second m a us g h i j x))
    (λ k l ki kj. keep_within (is_open m a) (is_open m (moved a i j)) (order_at m k).gate (order_at m k) (get_or a.mw k 0) (other_gate m a us g h i j k x l ki kj)
    (AllZip-at (λ (o : Order) (q : ℕ). IsWithin (own_bounds m a o) q) m.orders a.mw k no_order 0 l x.feasible.orders))

moved_prices : (m : Market) (a : Activation) (us : List Cents) (g h i j : ℕ) → Exchange m a us g h i j → RanksBefore (order_at m i) g (order_at m j) h
    → AllZip (IsConsistentOrder (is_open m (moved a i j)) us) m.orders (moved a i j).mw
moved_prices m a us g h i j x rank =
    let o = order_at m i in
    let y = order_at m j in
    let q = get_or a.mw j 0 in
    let was : IsConsistentTrade InOpen y.side y.price.0 y.greatest q (price_at us y.zone) =
    trade_from_open (is_open m a) y.gate h y.side y.price.0 (price_at us y.zone) y.greatest q x.twins.second.of_it x.opened
    (AllZip-at (IsConsistentOrder (is_open m a) us) m.orders a.mw j no_order 0 x.twins.second.place x.consistent.orders) in
    let here : IsConsistentTrade InOpen o.side y.price.0 y.greatest q (price_at us o.zone) =
    subst (λ (z : ℕ). IsConsistentTrade InOpen o.side y.price.0 y.greatest q (price_at us z)) (sym x.twins.zone)
    (subst (λ (s : Side). IsConsistentTrade InOpen s y.price.0 y.greatest q (price_at us y.zone)) (sym x.twins.side) was) in
    by_place (IsConsistentOrder (is_open m (moved a i j)) us) m a us g h i j x
    (trade_to_open (is_open m (moved a i j)) o.gate g o.side o.price.0 (price_at us o.zone) o.greatest q x.twins.first.of_it (open_first m a us g h i j x)
    (trade_moves o.side o.price.0 y.price.0 (price_at us o.zone) o.greatest y.greatest q (as_good o.side o.price.0 y.price.0 g h rank) (room m a us g h i j x) here))
    (trade_to_closed (is_open m (moved a i j)) y.gate h y.side y.price.0 (price_at us y.zone) y.greatest 0 x.twins.second.of_it (shut_second m a us g h i j x))
    (λ k l ki kj. keep_trade (is_open m a) (is_open m (moved a i j)) (order_at m k).gate (order_at m k).side (order_at m k).price.0 (price_at us (order_at m k).zone)
    (order_at m k).greatest (get_or a.mw k 0) (other_gate m a us g h i j k x l ki kj)
    (AllZip-at (IsConsistentOrder (is_open m a) us) m.orders a.mw k no_order 0 l x.consistent.orders))

-- ---- its balance, its welfare and its word

moved_balance : (m : Market) (a : Activation) (us : List Cents) (g h i j : ℕ) → Exchange m a us g h i j → IsBalanced m (moved a i j)
moved_balance m a us g h i j x = λ z l.
    let sums = exchanged_sum (put_into z) m.orders a.mw i j x.twins.first.place x.twins.second.place (full m a us g h i j x) (apart_places m a us g h i j x)
    (none_there m a us g h i j x) (no_put z (order_at m i)) (no_put z (order_at m j)) in
    let same = same_put z (order_at m i) (order_at m j) (get_or a.mw j 0) x.twins.zone x.twins.side in
    omega (arith, ints, sums, same, x.feasible.balance z l)

moved_welfare : (m : Market) (a : Activation) (us : List Cents) (g h i j : ℕ) → Exchange m a us g h i j
    → welfare_of m (moved a i j) +ℤ order_gain (order_at m j) (get_or a.mw j 0) ≡ welfare_of m a +ℤ order_gain (order_at m i) (get_or a.mw j 0)
moved_welfare m a us g h i j x =
    exchanged_sum order_gain m.orders a.mw i j x.twins.first.place x.twins.second.place (full m a us g h i j x) (apart_places m a us g h i j x) (none_there m a us g h i j x)
    (no_gain (order_at m i).side (order_at m i).price.0) (no_gain (order_at m j).side (order_at m j).price.0)

moved_before : (m : Market) (a : Activation) (us : List Cents) (g h i j : ℕ) → Exchange m a us g h i j → h < g → ComesBefore (gate_word_of m (moved a i j)) (gate_word_of m a)
moved_before m a us g h i j x l = record {
  gate = h;
  same = λ k s.
      let there : k < length m.gates = omega (arith, x.twins.second.there) in
      opens_map (is_open m (moved a i j)) (length m.gates) k there ∙ open_others m a us g h i j k x (λ e. omega (arith, e)) (λ e. omega (arith, e))
      ∙ sym (opens_map (is_open m a) (length m.gates) k there);
  closed = opens_map (is_open m (moved a i j)) (length m.gates) h x.twins.second.there ∙ shut_second m a us g h i j x;
  opened = opens_map (is_open m a) (length m.gates) h x.twins.second.there ∙ x.opened;
}

pub moved_ahead : (m : Market) (a : Activation) (us : List Cents) (g h i j : ℕ) → Exchange m a us g h i j → RanksBefore (order_at m i) g (order_at m j) h → IsAhead m (moved a i j) a
moved_ahead m a us g h i j x rank =
    let o = order_at m i in
    let y = order_at m j in
    let q = get_or a.mw j 0 in
    let sums = moved_welfare m a us g h i j x in
    elim rank [
      | inl better ↦
          let more : gain o.side y.price.0 q <ℤ gain o.side o.price.0 q = better_gain o.side o.price.0 y.price.0 q better (runs m a us g h i j x) in
          let own : gain o.side y.price.0 q ≡ order_gain y q = ap (λ (s : Side). gain s y.price.0 q) x.twins.side in
          inl (omega (arith, ints, sums, more, own))
      | inr same ↦
          let own : order_gain o q ≡ order_gain y q = ap (λ (s : Side). gain s o.price.0 q) x.twins.side ∙ ap (λ (c : ℤ). gain y.side c q) same.0 in
          inr (omega (arith, ints, sums, own), moved_before m a us g h i j x same.1)
    ]

pub moved_feasible : (m : Market) (a : Activation) (us : List Cents) (g h i j : ℕ) → Exchange m a us g h i j → IsFeasible m (moved a i j)
moved_feasible m a us g h i j x = record { orders = moved_orders m a us g h i j x; gates = moved_gates m a us g h i j x; borders = x.feasible.borders; balance = moved_balance m a us g h i j x }

pub moved_consistent : (m : Market) (a : Activation) (us : List Cents) (g h i j : ℕ) → Exchange m a us g h i j → RanksBefore (order_at m i) g (order_at m j) h → IsConsistent m (moved a i j) us
moved_consistent m a us g h i j x rank = record { prices = x.consistent.prices; orders = moved_prices m a us g h i j x rank; borders = x.consistent.borders }

-- so it isn't the first
pub out_of_rank : (m : Market) (a : Activation) (g h i j : ℕ) → IsValid m → AreTwins m g h i j → RanksBefore (order_at m i) g (order_at m j) h → is_open m a h ≡ true
    → is_open m a g ≡ false → IsFirst m a → ⊥
out_of_rank m a g h i j v t rank opened closed f =
    let adm = f.optimal.admissible in
    let us = adm.consistent.0 in
    let x : Exchange m a us g h i j = record { valid = v; twins = t; feasible = adm.feasible; consistent = adm.consistent.1; opened = opened; closed = closed } in
    let other : IsAdmissible m (moved a i j) = record { feasible = moved_feasible m a us g h i j x; consistent = (us, moved_consistent m a us g h i j x rank) } in
    elim (moved_ahead m a us g h i j x rank) [
      | inl more ↦ omega (arith, ints, more, f.optimal.greatest (moved a i j) other)
      | inr same ↦ f.none_before (moved a i j) (record { admissible = other; greatest = λ b k. subst (λ (w : ℤ). welfare_of m b ≤ℤ w) same.0 (f.optimal.greatest b k) }) same.1
    ]
