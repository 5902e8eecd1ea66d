-- Repeated exchange of twins: each activation with consistent prices is at most as good as one that keeps their rank.
use Rattle.std.proofs.Common.{◌≡◌, ◌≢◌, ◌⊎◌, ◌==◌, ◌&&◌, ◌||◌, not, if◌then◌else◌, Bool, true, false, ℕ, zero, suc, ◌+◌, ◌-◌, ◌*◌, ◌<◌, ◌≤◌, ℤ, pos, negsuc, ◌+ℤ◌, ◌-ℤ◌, ◌≤ℤ◌, ◌<ℤ◌, List, [], ◌∷◌, length, get_or, Option, Some, None, arith, refl, sym, ap, ◌∙◌, subst, inl, inr}
use Rattle.std.specs.Prelude.{nat_lt, MatchOption}
use Rattle.std.specs.List.{list_any, range_with_len}
use Rattle.std.specs.Option.{is_some}
use Rattle.std.specs.Ordering.{int_eq}
use Rattle.std.proofs.lemmas.Int.{ints}
use Rattle.std.proofs.lemmas.Bool.{and_parts, cases_eq}
use Rattle.std.proofs.lemmas.Bool.Decides.{nat_tests, Decides-int_eq}
use Rattle.mari_units.specs.declared.numbers.Cents.{Cents}
use Rattle.mari_units.specs.declared.numbers.TheConstants.{CAP}
use Rattle.mari_market.specs.declared.market.Side.{Side}
use Rattle.mari_market.specs.declared.market.Side.TheVariants.{Inject, Withdraw}
use Rattle.mari_market.specs.declared.market.Order.{Order}
use Rattle.mari_market.specs.declared.market.GateInfo.{GateInfo}
use Rattle.mari_market.specs.declared.market.Market.{Market}
use Rattle.mari_market.specs.declared.activation.Activation.{Activation}
use Rattle.mari_market.specs.Activation.{gate_word_of, is_gate, is_open}
use Rattle.mari_market.specs.Gates.{group_of, parent_of}
use Rattle.mari_market.specs.Market.{IsValid}
use Rattle.mari_market.specs.Optimal.{IsConsistent, IsFeasible}
use Rattle.mari_market.specs.Price.{IsPrice}
use Rattle.mari_market.proofs.Lists.{by_test}
use Rattle.mari_market.proofs.Rising.{less}
use Rattle.mari_market.proofs.Ties.{before_both}
use Rattle.mari_reach.specs.Twins.{are_alike, are_indivisible, is_better, is_child, is_one_side, lone_order, may_exchange, moved, no_order, order_at, orders_of, outranks, outranks_by, ranks_before, sole, stands_alone, AreAlike, AreIndivisible, AreTwins, IsAhead, IsBetter, IsLone, IsNoWorse, KeepsRank, RanksBefore}
use Rattle.mari_reach.proofs.Exchanges.{gate_is, is_it, moved_ahead, moved_consistent, moved_feasible, open_first, open_others, shut_second, Exchange}
use Rattle.mari_reach.proofs.Ranges.{both_true, one_in_range, opposite, or_first}
use Rattle.mari_reach.proofs.Reaching.{any_gives, or_either, same_number}

-- ---- the only order of a gate

-- an order that is a gate's only one in a list, with its place
record Sole (os : List Order) (g : ℕ) (o : Order) : Type 0 where
  pub place : ℕ
  pub there : place < length os
  pub at : get_or os place no_order ≡ o
  pub of_it : (get_or os place no_order).gate ≡ Some g
  pub alone : (k : ℕ) → k < length os → (get_or os k no_order).gate ≡ Some g → k ≡ place

none_by : (g : ℕ) (x : Order) (xs : List Order) (k : ℕ) (b : Bool) → is_gate g x.gate ≡ b → k < length (x ∷ xs)
    → (if b then x ∷ orders_of xs g else orders_of xs g) ≡ []
    → (orders_of xs g ≡ [] → (j : ℕ) → j < length xs → is_gate g (get_or xs j no_order).gate ≡ false)
    → is_gate g (get_or (x ∷ xs) k no_order).gate ≡ false
none_by g x xs k true is l e more = absurd (cc)
none_by g x xs zero false is l e more = is
none_by g x xs (suc k) false is l e more = more e k (omega arith)

-- where a gate has no orders in a list, none of it is of the gate
none_of : (g : ℕ) (os : List Order) → orders_of os g ≡ [] → (k : ℕ) → k < length os → is_gate g (get_or os k no_order).gate ≡ false
none_of g [] e k l = absurd (omega arith)
none_of g (x ∷ xs) e k l = none_by g x xs k (is_gate g x.gate) refl l e (λ f j s. none_of g xs f j s)

clash : (b : Bool) → b ≡ true → b ≡ false → ⊥
clash true e f = absurd (cc)
clash false e f = absurd (cc)

sole_head : (x : Order) (ys : List Order) (o : Order) → sole (x ∷ ys) ≡ Some o → (x ≡ o) × (ys ≡ [])
sole_head x [] o e = (some_order x o e, refl)
  where
    some_order : (y z : Order) → Some y ≡ Some z → y ≡ z
    some_order y z f = cc
sole_head x (y ∷ ys) o e = absurd (cc)

first_alone : (g : ℕ) (x : Order) (xs : List Order) → orders_of xs g ≡ [] → (k : ℕ) → k < length (x ∷ xs) → (get_or (x ∷ xs) k no_order).gate ≡ Some g → k ≡ 0
first_alone g x xs e zero l is = refl
first_alone g x xs e (suc k) l is = absurd (clash (is_gate g (get_or xs k no_order).gate) (is_it g (get_or xs k no_order).gate is) (none_of g xs e k (omega arith)))

later_alone : (g : ℕ) (x : Order) (xs : List Order) (o : Order) → is_gate g x.gate ≡ false → (s : Sole xs g o) → (k : ℕ) → k < length (x ∷ xs)
    → (get_or (x ∷ xs) k no_order).gate ≡ Some g → k ≡ suc s.place
later_alone g x xs o isnt s zero l is = absurd (clash (is_gate g x.gate) (is_it g x.gate is) isnt)
later_alone g x xs o isnt s (suc k) l is = ap suc (s.alone k (omega arith) is)

sole_by : (g : ℕ) (x : Order) (xs : List Order) (o : Order) (b : Bool) → is_gate g x.gate ≡ b → sole (if b then x ∷ orders_of xs g else orders_of xs g) ≡ Some o
    → (sole (orders_of xs g) ≡ Some o → Sole xs g o) → Sole (x ∷ xs) g o
sole_by g x xs o true is e more =
    let head = sole_head x (orders_of xs g) o e in
    record { place = 0; there = omega arith; at = head.0; of_it = gate_is g x.gate is; alone = first_alone g x xs head.1 }
sole_by g x xs o false is e more =
    let s = more e in
    let l = s.there in
    record { place = suc s.place; there = omega (arith, l); at = s.at; of_it = s.of_it; alone = later_alone g x xs o is s }

sole_at : (g : ℕ) (os : List Order) (o : Order) → sole (orders_of os g) ≡ Some o → Sole os g o
sole_at g [] o e = absurd (cc)
sole_at g (x ∷ xs) o e = sole_by g x xs o (is_gate g x.gate) refl e (λ f. sole_at g xs o f)

-- ---- gates that stand alone

no_option : {X : Type 0} (o : Option X) → not (is_some o) ≡ true → o ≡ None
no_option None e = refl
no_option (Some x) e = absurd (cc)

childless : (g : ℕ) (gates : List GateInfo) → list_any (is_child g) gates ≡ false → (h : ℕ) → parent_of gates h ≡ Some g → ⊥
childless g [] e h p = absurd (cc)
childless g (x ∷ xs) e zero p = absurd (clash (is_child g x || list_any (is_child g) xs) (or_first (is_child g x) (list_any (is_child g) xs) (is_it g x.parent p)) e)
childless g (x ∷ xs) e (suc h) p = childless g xs (or_rest (is_child g x) (list_any (is_child g) xs) e) h p
  where
    or_rest : (a b : Bool) → (a || b) ≡ false → b ≡ false
    or_rest true b f = absurd (cc)
    or_rest false b f = f

gate_there : (gate : Option ℕ) (gates least g : ℕ) → gate ≡ Some g → MatchOption gate (least ≡ 0) (λ k. (k < gates) × (1 ≤ least)) → g < gates
gate_there None gates least g e f = absurd (cc)
gate_there (Some k) gates least g e f = let same : k ≡ g = cc in let l = f.0 in omega (arith, same, l)

-- a lone gate has its order at a place
record Lone (m : Market) (g : ℕ) : Type 0 where
  pub place : ℕ
  pub lone : IsLone m g place
  pub order : lone_order m g ≡ Some (order_at m place)

lone_by : (m : Market) (g : ℕ) (o : Order) (b : Bool) → IsValid m → stands_alone m.gates g ≡ b → (if b then sole (orders_of m.orders g) else None) ≡ Some o → lone_order m g ≡ Some o → Lone m g
lone_by m g o false v is e same = absurd (cc)
lone_by m g o true v is e same =
    let s = sole_at g m.orders o e in
    let first = and_parts (not (is_some (group_of m.gates g))) (not (is_some (parent_of m.gates g)) && not (list_any (is_child g) m.gates)) is in
    let rest = and_parts (not (is_some (parent_of m.gates g))) (not (list_any (is_child g) m.gates)) first.1 in
    let valid = v.orders s.place no_order s.there in
    record {
      place = s.place;
      lone = record {
        there = gate_there (order_at m s.place).gate (length m.gates) (order_at m s.place).least g s.of_it valid.gate;
        place = s.there;
        of_it = s.of_it;
        alone = s.alone;
        no_group = no_option (group_of m.gates g) first.0;
        no_parent = no_option (parent_of m.gates g) rest.0;
        no_child = childless g m.gates (opposite (list_any (is_child g) m.gates) rest.1);
      };
      order = same ∙ ap Some (sym s.at);
    }

lone_at : (m : Market) (g : ℕ) (o : Order) → IsValid m → lone_order m g ≡ Some o → Lone m g
lone_at m g o v e = lone_by m g o (stands_alone m.gates g) v refl e e

-- ---- twins by their tests

one_side : (a b : Side) → is_one_side a b ≡ true → a ≡ b
one_side Inject Inject e = refl
one_side Inject Withdraw e = absurd (cc)
one_side Withdraw Inject e = absurd (cc)
one_side Withdraw Withdraw e = refl

indivisible : (o x : Order) → are_indivisible o x ≡ true → AreIndivisible o x
indivisible o x e =
    let first = and_parts (o.least == o.greatest) ((x.least == x.greatest) && (o.greatest == x.greatest)) e in
    let rest = and_parts (x.least == x.greatest) (o.greatest == x.greatest) first.1 in
    record { first = same_number o.least o.greatest first.0; second = same_number x.least x.greatest rest.0; size = same_number o.greatest x.greatest rest.1 }

alike : (o x : Order) → are_alike o x ≡ true → AreAlike o x
alike o x e =
    let first = and_parts (o.least == x.least) ((o.greatest == x.greatest) && int_eq o.price.0 x.price.0) e in
    let rest = and_parts (o.greatest == x.greatest) (int_eq o.price.0 x.price.0) first.1 in
    record { least = same_number o.least x.least first.0; greatest = same_number o.greatest x.greatest rest.0; price = (Decides-int_eq o.price.0 x.price.0).0 rest.1 }

better : (side : Side) (c d : ℤ) → is_better side c d ≡ true → IsBetter side c d
better Inject c d e = less c d e
better Withdraw c d e = less d c e

later_gate : (h g : ℕ) → nat_lt h g ≡ true → h < g
later_gate h g e = grind (arith, nat_tests)

ranked_first : (o x : Order) (g h : ℕ) → ranks_before o g x h ≡ true → RanksBefore o g x h
ranked_first o x g h e = elim (or_either (is_better o.side o.price.0 x.price.0) (int_eq o.price.0 x.price.0 && nat_lt h g) e) [
  | inl b ↦ inl (better o.side o.price.0 x.price.0 b)
  | inr b ↦ let both = and_parts (int_eq o.price.0 x.price.0) (nat_lt h g) b in inr ((Decides-int_eq o.price.0 x.price.0).0 both.0, later_gate h g both.1)
]

-- twins of which the first ranks before the second
pub record Ranked (m : Market) (g h : ℕ) : Type 0 where
  pub first : ℕ
  pub second : ℕ
  pub twins : AreTwins m g h first second
  pub rank : RanksBefore (order_at m first) g (order_at m second) h
  pub better_order : lone_order m g ≡ Some (order_at m first)
  pub worse_order : lone_order m h ≡ Some (order_at m second)

ranked_lone : (m : Market) (g h : ℕ) (a : Lone m g) (b : Lone m h)
    → (may_exchange (order_at m a.place) (order_at m b.place) && ranks_before (order_at m a.place) g (order_at m b.place) h) ≡ true → Ranked m g h
ranked_lone m g h a b e =
    let o = order_at m a.place in
    let x = order_at m b.place in
    let both = and_parts (may_exchange o x) (ranks_before o g x h) e in
    let zone = and_parts (o.zone == x.zone) (is_one_side o.side x.side && (are_indivisible o x || are_alike o x)) both.0 in
    let side = and_parts (is_one_side o.side x.side) (are_indivisible o x || are_alike o x) zone.1 in
    record {
      first = a.place;
      second = b.place;
      twins = record {
        first = a.lone;
        second = b.lone;
        zone = same_number o.zone x.zone zone.0;
        side = one_side o.side x.side side.0;
        sizes = elim (or_either (are_indivisible o x) (are_alike o x) side.1) [ inl f ↦ inl (indivisible o x f) | inr f ↦ inr (alike o x f) ];
      };
      rank = ranked_first o x g h both.1;
      better_order = a.order;
      worse_order = b.order;
    }

ranked_by : (m : Market) (g h : ℕ) (o x : Option Order) → IsValid m → lone_order m g ≡ o → lone_order m h ≡ x → outranks_by o g x h ≡ true → Ranked m g h
ranked_by m g h None x v a b e = absurd (cc)
ranked_by m g h (Some o) None v a b e = absurd (cc)
ranked_by m g h (Some o) (Some x) v a b e =
    let first = lone_at m g o v a in
    let second = lone_at m h x v b in
    ranked_lone m g h first second
    (ap (λ (y : Option Order). outranks_by y g (Some (order_at m second.place)) h) (sym first.order ∙ a)
    ∙ ap (λ (y : Option Order). outranks_by (Some o) g y h) (sym second.order ∙ b) ∙ e)

-- a gate that outranks another is a twin that ranks before it
pub ranked : (m : Market) (g h : ℕ) → IsValid m → outranks m g h ≡ true → Ranked m g h
ranked m g h v e = ranked_by m g h (lone_order m g) (lone_order m h) v refl refl e

-- ---- what an exchange lowers

abbrev nat_of : ℤ → ℕ
nat_of (pos n) = n
nat_of (negsuc n) = 0

nat_less : (a b : ℤ) → pos 0 ≤ℤ a → a <ℤ b → nat_of a < nat_of b
nat_less (pos a) (pos b) l h = omega (arith, ints)
nat_less (pos a) (negsuc b) l h = absurd (omega (arith, ints))
nat_less (negsuc a) b l h = absurd (omega (arith, ints))

-- how bad a price is
abbrev badness : Side → ℤ → ℕ
badness Inject c = nat_of (c +ℤ CAP)
badness Withdraw c = nat_of (CAP -ℤ c)

less_bad : (side : Side) (c d : ℤ) → IsPrice c → IsPrice d → IsBetter side c d → badness side c < badness side d
less_bad Inject c d p q b = let l = p.low in nat_less (c +ℤ CAP) (d +ℤ CAP) (omega (arith, ints, l)) (omega (arith, ints, b))
less_bad Withdraw c d p q b = let l = p.high in nat_less (CAP -ℤ c) (CAP -ℤ d) (omega (arith, ints, l)) (omega (arith, ints, b))

-- the place of an order of gate g among n gates, by its price and then by the gate, the last first
abbrev place_of : ℕ → Option Order → ℕ → ℕ
place_of n None g = 0
place_of n (Some o) g = badness o.side o.price.0 * suc n + (n - g)

times_more : (a b n : ℕ) → a < b → a * suc n + suc n ≤ b * suc n
times_more a zero n l = absurd (omega arith)
times_more zero (suc b) n l = omega arith
times_more (suc a) (suc b) n l = let more = times_more a b n (omega arith) in omega (arith, more)

place_less : (o x : Order) (n g h : ℕ) → IsPrice o.price.0 → IsPrice x.price.0 → g < n → h < n → o.side ≡ x.side → RanksBefore o g x h → place_of n (Some o) g < place_of n (Some x) h
place_less o x n g h p q l k side r = elim r [
  | inl b ↦
      let bad : badness o.side o.price.0 < badness x.side x.price.0 = subst (λ (s : Side). badness o.side o.price.0 < badness s x.price.0) side (less_bad o.side o.price.0 x.price.0 p q b) in
      let more = times_more (badness o.side o.price.0) (badness x.side x.price.0) n bad in
      omega (arith, more)
  | inr e ↦
      let same : badness o.side o.price.0 ≡ badness x.side x.price.0 = ap (λ (s : Side). badness s o.price.0) side ∙ ap (badness x.side) e.0 in
      let times : badness o.side o.price.0 * suc n ≡ badness x.side x.price.0 * suc n = ap (λ (b : ℕ). b * suc n) same in
      let s = e.1 in
      omega (arith, times, s)
]

-- the sum of a rule's numbers below n
abbrev total : (ℕ → ℕ) → ℕ → ℕ
total f zero = 0
total f (suc n) = f n + total f n

total_same : (f e : ℕ → ℕ) (n : ℕ) → ((k : ℕ) → k < n → e k ≡ f k) → total e n ≡ total f n
total_same f e zero same = refl
total_same f e (suc n) same = let here = same n (omega arith) in let rest = total_same f e n (λ k l. same k (omega arith)) in omega (arith, here, rest)

-- where one number differs, so does the sum
total_other : (f e : ℕ → ℕ) (g n : ℕ) → g < n → ((k : ℕ) → k ≢ g → e k ≡ f k) → total e n + f g ≡ total f n + e g
total_other f e g zero l same = absurd (omega arith)
total_other f e g (suc n) l same = elim (cases_eq n g) [
  | inl is ↦
      let rest = total_same f e n (λ k s. same k (λ k_is. omega (arith, is, k_is, s))) in
      let one = ap e is in
      let two = ap f is in
      omega (arith, rest, one, two)
  | inr isnt ↦
      let here = same n isnt in
      let rest = total_other f e g n (omega (arith, l, apart n g isnt)) same in
      omega (arith, here, rest)
]
  where
    apart : (a b : ℕ) → a ≢ b → (a < b) ⊎ (b < a)
    apart a b h = grind arith

-- where the numbers at two places are exchanged for a lower sum, so is the whole
total_less : (f e : ℕ → ℕ) (g h n : ℕ) → g < n → h < n → g ≢ h → f g ≡ 0 → e h ≡ 0 → e g < f h → ((k : ℕ) → k ≢ g → k ≢ h → e k ≡ f k) → total e n < total f n
total_less f e g h n l s apart fg eh lower same =
    let d : ℕ → ℕ = λ k. if k == h then 0 else f k in
    let dh : d h ≡ 0 = at_it h in
    let one = total_other f d h n s (λ k isnt. off_it k isnt) in
    let dg : d g ≡ 0 = off_it g apart ∙ fg in
    let two = total_other d e g n l (λ k isnt. by k isnt) in
    omega (arith, one, two, dh, dg, lower)
  where
    skip : ℕ → ℕ
    skip k = if k == h then 0 else f k

    if_it : (b : Bool) (x : ℕ) → b ≡ true → (if b then 0 else x) ≡ 0
    if_it true x e = refl
    if_it false x e = absurd (cc)

    if_not : (b : Bool) (x : ℕ) → b ≡ false → (if b then 0 else x) ≡ x
    if_not true x e = absurd (cc)
    if_not false x e = refl

    itself : (k : ℕ) → (k == k) ≡ true
    itself k = grind (arith, nat_tests)

    different : (a b : ℕ) → a ≢ b → (a == b) ≡ false
    different a b k = by_test (a == b) (λ y. absurd (k (same_number a b y))) (λ n. n)

    at_it : (k : ℕ) → (if k == k then 0 else f k) ≡ 0
    at_it k = if_it (k == k) (f k) (itself k)

    off_it : (k : ℕ) → k ≢ h → skip k ≡ f k
    off_it k isnt = if_not (k == h) (f k) (different k h isnt)

    by : (k : ℕ) → k ≢ g → e k ≡ skip k
    by k isnt = elim (cases_eq k h) [
      | inl is ↦ ap e is ∙ eh ∙ sym (if_it (k == h) (f k) (subst (λ (j : ℕ). (k == j) ≡ true) is (itself k)))
      | inr other ↦ same k isnt other ∙ sym (off_it k other)
    ]

-- what an open gate weighs
abbrev weighs : Market → (ℕ → Bool) → ℕ → ℕ
weighs m on k = if on k then place_of (length m.gates) (lone_order m k) k else 0

abbrev weight : Market → Activation → ℕ
weight m a = total (weighs m (is_open m a)) (length m.gates)

if_open : (b : Bool) (x : ℕ) → b ≡ true → (if b then x else 0) ≡ x
if_open true x e = refl
if_open false x e = absurd (cc)

if_shut : (b : Bool) (x : ℕ) → b ≡ false → (if b then x else 0) ≡ 0
if_shut true x e = absurd (cc)
if_shut false x e = refl

exchange_of : (m : Market) (a : Activation) (us : List Cents) (g h : ℕ) → IsValid m → IsFeasible m a → IsConsistent m a us → is_open m a h ≡ true → is_open m a g ≡ false
    → (r : Ranked m g h) → Exchange m a us g h r.first r.second
exchange_of m a us g h v f c opened closed r = record { valid = v; twins = r.twins; feasible = f; consistent = c; opened = opened; closed = closed }

-- an exchange makes it less
weighs_less : (m : Market) (a : Activation) (us : List Cents) (g h : ℕ) (r : Ranked m g h) → Exchange m a us g h r.first r.second → weight m (moved a r.first r.second) < weight m a
weighs_less m a us g h r x =
    let n = length m.gates in
    let b = moved a r.first r.second in
    let new = is_open m b in
    let old = is_open m a in
    let g_there = r.twins.first.there in
    let h_there = r.twins.second.there in
    let first_price = (x.valid.orders r.first no_order r.twins.first.place).price in
    let second_price = (x.valid.orders r.second no_order r.twins.second.place).price in
    let fg : weighs m old g ≡ 0 = if_shut (old g) (place_of n (lone_order m g) g) x.closed in
    let eh : weighs m new h ≡ 0 = if_shut (new h) (place_of n (lone_order m h) h) (shut_second m a us g h r.first r.second x) in
    let eg : weighs m new g ≡ place_of n (Some (order_at m r.first)) g = if_open (new g) (place_of n (lone_order m g) g) (open_first m a us g h r.first r.second x)
    ∙ ap (λ (o : Option Order). place_of n o g) r.better_order in
    let fh : weighs m old h ≡ place_of n (Some (order_at m r.second)) h = if_open (old h) (place_of n (lone_order m h) h) x.opened ∙ ap (λ (o : Option Order). place_of n o h) r.worse_order in
    let lower = place_less (order_at m r.first) (order_at m r.second) n g h first_price second_price g_there h_there r.twins.side r.rank in
    total_less (weighs m old) (weighs m new) g h n g_there h_there (λ e. clash (old h) x.opened (ap old (sym e) ∙ x.closed)) fg eh
    (subst (λ (w : ℕ). w < weighs m old h) (sym eg) (subst (λ (w : ℕ). place_of n (Some (order_at m r.first)) g < w) (sym fh) lower))
    (λ k kg kh. ap (λ (t : Bool). if t then place_of n (lone_order m k) k else 0) (open_others m a us g h r.first r.second k x kg kh))

-- ---- repeated exchange

-- an open gate, and a closed twin that ranks before it
record OutOfRank (m : Market) (on : ℕ → Bool) : Type 0 where
  pub better_gate : ℕ
  pub worse_gate : ℕ
  pub twins : outranks m better_gate worse_gate ≡ true
  pub opened : on worse_gate ≡ true
  pub closed : on better_gate ≡ false

abbrev closed_twin : Market → (ℕ → Bool) → ℕ → ℕ → Bool
closed_twin m on h g = outranks m g h && not (on g)

abbrev lacks_twin : Market → (ℕ → Bool) → ℕ → Bool
lacks_twin m on h = on h && list_any (closed_twin m on h) (range_with_len 0 (length m.gates))

found : (m : Market) (on : ℕ → Bool) → list_any (lacks_twin m on) (range_with_len 0 (length m.gates)) ≡ true → OutOfRank m on
found m on e =
    any_gives (lacks_twin m on) (range_with_len 0 (length m.gates)) e (λ h test.
    let both = and_parts (on h) (list_any (closed_twin m on h) (range_with_len 0 (length m.gates))) test in
    any_gives (closed_twin m on h) (range_with_len 0 (length m.gates)) both.1 (λ g shut.
    let two = and_parts (outranks m g h) (not (on g)) shut in
    record { better_gate = g; worse_gate = h; twins = two.0; opened = both.0; closed = opposite (on g) two.1 }))

negated : (b : Bool) → b ≡ false → not b ≡ true
negated true e = absurd (cc)
negated false e = refl

keeps : (m : Market) (on : ℕ → Bool) → IsValid m → list_any (lacks_twin m on) (range_with_len 0 (length m.gates)) ≡ false → KeepsRank m on
keeps m on v e g h twins opened = by_test (on g) (λ o. o) (λ shut.
    let r = ranked m g h v twins in
    let inner = one_in_range (closed_twin m on h) (length m.gates) g r.twins.first.there (both_true (outranks m g h) (not (on g)) twins (negated (on g) shut)) in
    let outer = one_in_range (lacks_twin m on) (length m.gates) h r.twins.second.there (both_true (on h) (list_any (closed_twin m on h) (range_with_len 0 (length m.gates))) opened inner) in
    absurd (clash (list_any (lacks_twin m on) (range_with_len 0 (length m.gates))) outer e))

rank_or_pair : (m : Market) (on : ℕ → Bool) → IsValid m → KeepsRank m on ⊎ OutOfRank m on
rank_or_pair m on v = by_test (list_any (lacks_twin m on) (range_with_len 0 (length m.gates))) (λ e. inr (found m on e)) (λ e. inl (keeps m on v e))

-- what an activation says by each that is ahead of it by an exchange, it says by one that keeps the rank
say : (m : Market) (us : List Cents) (P : Activation → Type 0) (a : Activation) → IsValid m → IsFeasible m a → IsConsistent m a us
    → (KeepsRank m (is_open m a) → P a)
    → ((b : Activation) → IsFeasible m b → IsConsistent m b us → IsAhead m b a → weight m b < weight m a → P a)
    → P a
say m us P a v f c kept step = elim (rank_or_pair m (is_open m a) v) [
  | inl in_rank ↦ kept in_rank
  | inr out ↦
      let g = out.better_gate in
      let h = out.worse_gate in
      let r = ranked m g h v out.twins in
      let x = exchange_of m a us g h v f c out.opened out.closed r in
      step (moved a r.first r.second) (moved_feasible m a us g h r.first r.second x) (moved_consistent m a us g h r.first r.second x r.rank)
      (moved_ahead m a us g h r.first r.second x r.rank) (weighs_less m a us g h r x)
]

by_weight : (m : Market) (us : List Cents) (P : Activation → Type 0) → IsValid m
    → ((a : Activation) → IsFeasible m a → IsConsistent m a us → KeepsRank m (is_open m a) → P a)
    → ((a b : Activation) → IsFeasible m b → IsConsistent m b us → IsAhead m b a → P b → P a)
    → (n : ℕ) (a : Activation) → weight m a ≤ n → IsFeasible m a → IsConsistent m a us → P a
by_weight m us P v kept step zero a l f c = say m us P a v f c (λ in_rank. kept a f c in_rank) (λ b fb cb ahead lower. absurd (omega (arith, l, lower)))
by_weight m us P v kept step (suc n) a l f c =
    say m us P a v f c (λ in_rank. kept a f c in_rank) (λ b fb cb ahead lower. step a b fb cb ahead (by_weight m us P v kept step n b (omega (arith, l, lower)) fb cb))

-- what holds of each activation that keeps the rank of twins, and of one where it does of another that is ahead of it,
-- holds of all with these prices
pub by_exchange : (m : Market) (us : List Cents) (P : Activation → Type 0) → IsValid m
    → ((a : Activation) → IsFeasible m a → IsConsistent m a us → KeepsRank m (is_open m a) → P a)
    → ((a b : Activation) → IsFeasible m b → IsConsistent m b us → IsAhead m b a → P b → P a)
    → (a : Activation) → IsFeasible m a → IsConsistent m a us → P a
by_exchange m us P v kept step a f c = by_weight m us P v kept step (weight m a) a (omega arith) f c

-- what is ahead of one that is ahead of a third is ahead of the third
ahead_both : (m : Market) (c b a : Activation) → IsAhead m c b → IsAhead m b a → IsAhead m c a
ahead_both m c b a (inl more) (inl also) = inl (omega (arith, ints, more, also))
ahead_both m c b a (inl more) (inr also) = inl (omega (arith, ints, more, also.0))
ahead_both m c b a (inr same) (inl also) = inl (omega (arith, ints, same.0, also))
ahead_both m c b a (inr same) (inr also) = inr (also.0 ∙ same.0, before_both (gate_word_of m c) (gate_word_of m b) (gate_word_of m a) same.1 also.1)

-- of each activation there is one with the same prices that keeps the rank, and is no worse
pub keeps_rank : (m : Market) (us : List Cents) (a : Activation) → IsValid m → IsFeasible m a → IsConsistent m a us
    → (b : Activation) × (IsFeasible m b × (IsConsistent m b us × (KeepsRank m (is_open m b) × IsNoWorse m b a)))
keeps_rank m us a v f c =
    by_exchange m us (λ x. (b : Activation) × (IsFeasible m b × (IsConsistent m b us × (KeepsRank m (is_open m b) × IsNoWorse m b x)))) v
    (λ x fx cx ranked. (x, (fx, (cx, (ranked, inl refl)))))
    (λ x y fy cy ahead best. (
      best.0,
      (
        best.1.0,
        (
          best.1.1.0,
          (
            best.1.1.1.0,
            elim (best.1.1.1.1) [
              | inl same ↦ inr (subst (λ (z : Activation). IsAhead m z x) (sym same) ahead)
              | inr further ↦ inr (ahead_both m best.0 y x further ahead)
            ],
          ),
        ),
      ),
    ))
    a f c
