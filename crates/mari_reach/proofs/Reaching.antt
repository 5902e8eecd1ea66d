-- What a state says of each admissible activation whose gates are as it decides: its gates, its prices and its bounds.
use Rattle.std.proofs.Common.{◌≡◌, ◌⊎◌, ◌==◌, ◌&&◌, ◌||◌, not, if◌then◌else◌, Bool, true, false, ℕ, zero, suc, ◌≤◌, ℤ, neg_ℤ, ◌≤ℤ◌, List, [], ◌∷◌, length, map, Option, Some, None, pos, ◌+ℤ◌, arith, refl, sym, ap, ◌∙◌, subst, inl, inr}
use Rattle.std.proofs.lemmas.Int.{ints, clamps, by_lt_z}
use Rattle.std.proofs.lemmas.Bool.{and_parts, cases_lt}
use Rattle.std.proofs.lemmas.Bool.Decides.{nat_tests}
use Rattle.std.proofs.lemmas.List.Elements.{All-head, All-tail, All-weaker}
use Rattle.std.specs.Int.{int_max, int_min}
use Rattle.std.specs.List.{All, AllZip, fold, list_any, range_with_len}
use lib.Signed.{◌<ℤ◌, lt_z}
use Rattle.mari_units.specs.declared.numbers.Cents.{Cents}
use Rattle.mari_units.specs.declared.numbers.TheConstants.{CAP}
use Rattle.mari_market.specs.declared.market.Side.{Side}
use Rattle.mari_market.specs.declared.market.Side.TheVariants.{Inject, Withdraw}
use Rattle.mari_market.specs.declared.market.Order.{Order}
use Rattle.mari_market.specs.declared.market.Border.{Border}
use Rattle.mari_market.specs.declared.market.GateInfo.{GateInfo}
use Rattle.mari_market.specs.declared.market.Market.{Market}
use Rattle.mari_market.specs.declared.activation.Activation.{Activation}
use Rattle.mari_market.specs.declared.price_rules.Standing.TheVariants.{Plain, InOpen, InClosed}
use Rattle.mari_market.specs.Activation.{is_gate, is_open, IsWithinLimits}
use Rattle.mari_market.specs.Bounds.{IsWithin, span_of, gated_span, own_bounds}
use Rattle.mari_market.specs.Bounds.GateState.{Open, Closed}
use Rattle.mari_market.specs.Consistent.{standing_of, IsConsistentBorder, IsConsistentTrade, IsConsistentOrder}
use Rattle.mari_market.specs.Gates.{group_of, parent_of, KeepsGateRules}
use Rattle.mari_market.specs.Price.{IsPrice, price_at}
use Rattle.mari_market.proofs.Conflicts.{price_in_cap}
use Rattle.mari_market.proofs.Rising.{less}
use Rattle.mari_market.proofs.Sums.{AllZip-both}
use Rattle.mari_reach.specs.declared.decisions.Decision.{Decision}
use Rattle.mari_reach.specs.declared.decisions.Decision.TheVariants.{Above, AtMost, Gate}
use Rattle.mari_market.specs.Flows.{IsFlowWithin}
use Rattle.mari_market.specs.Relaxation.{IsWithinSpans}
use Rattle.mari_reach.specs.Twins.{outranks, KeepsRank}
use Rattle.mari_reach.specs.State.{line_from, line_of, opens_by, opens, closes_by, closes, is_one_group, are_rivals, has_rival, is_opened, floor_of, ceiling_of, floor_at, ceiling_at, floor_said, ceiling_said, low_said, high_said, low_of, high_of, gains_within, loses_within, gains, loses, has_loss, is_shut, shuts, state_by, plain_span, gate_span, reached_span, bounds_in, border_span, rises, falls, flows_in, IsVoid, IsReached, Obeys, Agree}
use Rattle.mari_reach.proofs.Ranges.{refused}

-- ---- tests of lists

pub or_either : (a b : Bool) → (a || b) ≡ true → (a ≡ true) ⊎ (b ≡ true)
or_either true b e = inl refl
or_either false b e = inr e

-- an item that passes a test gives what each such item gives
pub any_gives : {X R : Type 0} (test : X → Bool) (xs : List X) → list_any test xs ≡ true → ((x : X) → test x ≡ true → R) → R
any_gives test [] e k = absurd (cc)
any_gives test (x ∷ xs) e k = elim (or_either (test x) (list_any test xs) e) [ inl h ↦ k x h | inr h ↦ any_gives test xs h k ]

-- the same where something holds of each item
any_of_all : {X R : Type 0} (P : X → Type 0) (test : X → Bool) (xs : List X) → All P xs → list_any test xs ≡ true → ((x : X) → P x → test x ≡ true → R) → R
any_of_all P test [] a e k = absurd (cc)
any_of_all P test (x ∷ xs) a e k = elim (or_either (test x) (list_any test xs) e) [ inl h ↦ k x (All-head P x xs a) h | inr h ↦ any_of_all P test xs (All-tail P x xs a) h k ]

-- the same where something holds of each pair
any_of_zip : {X Y R : Type 0} (P : X → Y → Type 0) (test : X → Bool) (xs : List X) (ys : List Y) → AllZip P xs ys → list_any test xs ≡ true → ((x : X) (y : Y) → P x y → test x ≡ true → R) → R
any_of_zip P test [] ys a e k = absurd (cc)
any_of_zip P test (x ∷ xs) [] a e k = absurd a
any_of_zip P test (x ∷ xs) (y ∷ ys) a e k = elim (or_either (test x) (list_any test xs) e) [ inl h ↦ k x y a.0 h | inr h ↦ any_of_zip P test xs ys a.1 h k ]

pub same_number : (a b : ℕ) → (a == b) ≡ true → a ≡ b
same_number a b e = grind (arith, nat_tests)

-- ---- lines

-- the gates above an open gate are open, so one of them that passes a test is an open gate that does
line_gives : {R : Type 0} (n : ℕ) (gates : List GateInfo) (on : ℕ → Bool) (test : ℕ → Bool) → KeepsGateRules gates on → (gate : Option ℕ)
    → ((g : ℕ) → gate ≡ Some g → on g ≡ true) → list_any test (line_from n gates gate) ≡ true
    → ((g : ℕ) → on g ≡ true → test g ≡ true → R) → R
line_gives zero gates on test rules gate is e k = absurd (cc)
line_gives (suc n) gates on test rules None is e k = absurd (cc)
line_gives (suc n) gates on test rules (Some g) is e k = elim (or_either (test g) (list_any test (line_from n gates (parent_of gates g))) e) [
  | inl h ↦ k g (is g refl) h
  | inr h ↦ line_gives n gates on test rules (parent_of gates g) (λ p parent. rules.parents g p (is g refl) parent) h k
]

pub some_same : (a b : ℕ) → Some a ≡ Some b → a ≡ b
some_same a b e = cc

line_of_open : {R : Type 0} (gates : List GateInfo) (on : ℕ → Bool) (test : ℕ → Bool) (g : ℕ) → KeepsGateRules gates on → on g ≡ true
    → list_any test (line_of gates g) ≡ true → ((h : ℕ) → on h ≡ true → test h ≡ true → R) → R
line_of_open gates on test g rules o e k = line_gives (length gates) gates on test rules (Some g) (λ h is. ap on (sym (some_same g h is)) ∙ o) e k

-- ---- what is opened

opened_by_one : (m : Market) (on : ℕ → Bool) (us : List Cents) (g : ℕ) (d : Decision) → KeepsGateRules m.gates on → KeepsRank m on → Obeys on us d → opens_by m g d ≡ true → on g ≡ true
opened_by_one m on us g (Gate h b) rules ranked is e =
    let both = and_parts b (list_any (λ k. k == g) (line_of m.gates h) || outranks m g h) e in
    elim (or_either (list_any (λ k. k == g) (line_of m.gates h)) (outranks m g h) both.1) [
      | inl above ↦ line_of_open m.gates on (λ k. k == g) h rules (is ∙ both.0) above (λ k o same. ap on (sym (same_number k g same)) ∙ o)
      | inr better ↦ ranked g h better (is ∙ both.0)
    ]
opened_by_one m on us g (AtMost z p) rules ranked is e = absurd (cc)
opened_by_one m on us g (Above z p) rules ranked is e = absurd (cc)

-- what the state opens is open
pub opened_is_open : (m : Market) (ds : List Decision) (on : ℕ → Bool) (us : List Cents) (g : ℕ) → KeepsGateRules m.gates on → KeepsRank m on → Agree ds on us → opens m ds g ≡ true → on g ≡ true
opened_is_open m ds on us g rules ranked agree e = any_of_all (Obeys on us) (opens_by m g) ds agree e (λ d is test. opened_by_one m on us g d rules ranked is test)

-- ---- the box

-- what an order has to be paid
abbrev pub Pays : Side → ℤ → ℤ → Type 0
Pays Inject c p = c ≤ℤ p
Pays Withdraw c p = p ≤ℤ c

pays_if : (b : Bool) (side : Side) (c p : ℤ) (most q : ℕ) → b ≡ true → IsConsistentTrade (if b then InOpen else InClosed) side c most q p → Pays side c p
pays_if true Inject c p most q e h = h.lower tt
pays_if true Withdraw c p most q e h = h.upper tt
pays_if false side c p most q e h = absurd (cc)

pays_where_opened : (on own : ℕ → Bool) (gate : Option ℕ) (side : Side) (c p : ℤ) (most q : ℕ) → ((g : ℕ) → on g ≡ true → own g ≡ true)
    → IsConsistentTrade (standing_of own gate) side c most q p → is_opened on gate ≡ true → Pays side c p
pays_where_opened on own None side c p most q k h e = absurd (cc)
pays_where_opened on own (Some g) side c p most q k h e = pays_if (own g) side c p most q (k g e) h

floor_is_low : (b : Bool) (side : Side) (c p : ℤ) → IsPrice p → (b ≡ true → Pays side c p) → floor_of b side c ≤ℤ p
floor_is_low true Inject c p price pays = pays refl
floor_is_low true Withdraw c p price pays = price.low
floor_is_low false side c p price pays = price.low

ceiling_is_high : (b : Bool) (side : Side) (c p : ℤ) → IsPrice p → (b ≡ true → Pays side c p) → p ≤ℤ ceiling_of b side c
ceiling_is_high true Inject c p price pays = price.high
ceiling_is_high true Withdraw c p price pays = pays refl
ceiling_is_high false side c p price pays = price.high

pays_at : (on own : ℕ → Bool) (us : List Cents) (z : ℕ) (o : Order) (q : ℕ) → ((g : ℕ) → on g ≡ true → own g ≡ true)
    → IsConsistentOrder own us o q → ((o.zone == z) && is_opened on o.gate) ≡ true → Pays o.side o.price.0 (price_at us z)
pays_at on own us z o q k h e =
    let both = and_parts (o.zone == z) (is_opened on o.gate) e in
    subst (λ (y : ℕ). Pays o.side o.price.0 (price_at us y)) (same_number o.zone z both.0)
    (pays_where_opened on own o.gate o.side o.price.0 (price_at us o.zone) o.greatest q k h both.1)

greatest : (x y p : ℤ) → x ≤ℤ p → y ≤ℤ p → int_max x y ≤ℤ p
greatest x y p h k = omega (arith, ints, clamps)

least : (x y p : ℤ) → p ≤ℤ x → p ≤ℤ y → p ≤ℤ int_min x y
least x y p h k = omega (arith, ints, clamps)

pub low_kept : (on own : ℕ → Bool) (us : List Cents) (z : ℕ) (a : ℤ) (os : List Order) (qs : List ℕ) → ((g : ℕ) → on g ≡ true → own g ≡ true)
    → IsPrice (price_at us z) → AllZip (IsConsistentOrder own us) os qs → a ≤ℤ price_at us z
    → fold int_max a (map (floor_at on z) os) ≤ℤ price_at us z
low_kept on own us z a [] qs k price h l = l
low_kept on own us z a (o ∷ os) [] k price h l = absurd h
low_kept on own us z a (o ∷ os) (q ∷ qs) k price h l =
    let one : floor_at on z o ≤ℤ price_at us z = floor_is_low ((o.zone == z) && is_opened on o.gate) o.side o.price.0 (price_at us z) price (λ e. pays_at on own us z o q k h.0 e) in
    low_kept on own us z (int_max a (floor_at on z o)) os qs k price h.1 (greatest a (floor_at on z o) (price_at us z) l one)

pub high_kept : (on own : ℕ → Bool) (us : List Cents) (z : ℕ) (a : ℤ) (os : List Order) (qs : List ℕ) → ((g : ℕ) → on g ≡ true → own g ≡ true)
    → IsPrice (price_at us z) → AllZip (IsConsistentOrder own us) os qs → price_at us z ≤ℤ a
    → price_at us z ≤ℤ fold int_min a (map (ceiling_at on z) os)
high_kept on own us z a [] qs k price h l = l
high_kept on own us z a (o ∷ os) [] k price h l = absurd h
high_kept on own us z a (o ∷ os) (q ∷ qs) k price h l =
    let one : price_at us z ≤ℤ ceiling_at on z o = ceiling_is_high ((o.zone == z) && is_opened on o.gate) o.side o.price.0 (price_at us z) price (λ e. pays_at on own us z o q k h.0 e) in
    high_kept on own us z (int_min a (ceiling_at on z o)) os qs k price h.1 (least a (ceiling_at on z o) (price_at us z) l one)

pub all_opened : (m : Market) (ds : List Decision) (a : Activation) (us : List Cents) → IsReached m ds a us → (g : ℕ) → opens m ds g ≡ true → is_open m a g ≡ true
all_opened m ds a us h g e = opened_is_open m ds (is_open m a) us g h.feasible.gates h.ranked h.agree e

-- what decisions of prices leave
floor_if : (b : Bool) (x p : ℤ) → IsPrice p → (b ≡ true → x <ℤ p) → (if b then x +ℤ pos 1 else neg_ℤ CAP) ≤ℤ p
floor_if true x p price above = omega (arith, ints, above refl)
floor_if false x p price above = price.low

ceiling_if : (b : Bool) (x p : ℤ) → IsPrice p → (b ≡ true → p ≤ℤ x) → p ≤ℤ (if b then x else CAP)
ceiling_if true x p price below = below refl
ceiling_if false x p price below = price.high

floor_obeyed : (on : ℕ → Bool) (us : List Cents) (z : ℕ) (d : Decision) → IsPrice (price_at us z) → Obeys on us d → floor_said z d ≤ℤ price_at us z
floor_obeyed on us z (Gate g b) price is = price.low
floor_obeyed on us z (AtMost y p) price is = price.low
floor_obeyed on us z (Above y p) price is = floor_if (y == z) p.0 (price_at us z) price (λ e. subst (λ (x : ℕ). p.0 <ℤ price_at us x) (same_number y z e) is)

ceiling_obeyed : (on : ℕ → Bool) (us : List Cents) (z : ℕ) (d : Decision) → IsPrice (price_at us z) → Obeys on us d → price_at us z ≤ℤ ceiling_said z d
ceiling_obeyed on us z (Gate g b) price is = price.high
ceiling_obeyed on us z (AtMost y p) price is = ceiling_if (y == z) p.0 (price_at us z) price (λ e. subst (λ (x : ℕ). price_at us x ≤ℤ p.0) (same_number y z e) is)
ceiling_obeyed on us z (Above y p) price is = price.high

fold_below : (f : Decision → ℤ) (p a : ℤ) (ds : List Decision) → All (λ (d : Decision). f d ≤ℤ p) ds → a ≤ℤ p → fold int_max a (map f ds) ≤ℤ p
fold_below f p a [] h l = l
fold_below f p a (d ∷ ds) h l = fold_below f p (int_max a (f d)) ds (All-tail (λ (x : Decision). f x ≤ℤ p) d ds h) (greatest a (f d) p l (All-head (λ (x : Decision). f x ≤ℤ p) d ds h))

fold_above : (f : Decision → ℤ) (p a : ℤ) (ds : List Decision) → All (λ (d : Decision). p ≤ℤ f d) ds → p ≤ℤ a → p ≤ℤ fold int_min a (map f ds)
fold_above f p a [] h l = l
fold_above f p a (d ∷ ds) h l = fold_above f p (int_min a (f d)) ds (All-tail (λ (x : Decision). p ≤ℤ f x) d ds h) (least a (f d) p l (All-head (λ (x : Decision). p ≤ℤ f x) d ds h))

low_said_kept : (ds : List Decision) (on : ℕ → Bool) (us : List Cents) (z : ℕ) → IsPrice (price_at us z) → Agree ds on us → low_said ds z ≤ℤ price_at us z
low_said_kept ds on us z price agree =
    fold_below (floor_said z) (price_at us z) (neg_ℤ CAP) ds (All-weaker (Obeys on us) (λ (d : Decision). floor_said z d ≤ℤ price_at us z) (λ d is. floor_obeyed on us z d price is) ds agree) price.low

high_said_kept : (ds : List Decision) (on : ℕ → Bool) (us : List Cents) (z : ℕ) → IsPrice (price_at us z) → Agree ds on us → price_at us z ≤ℤ high_said ds z
high_said_kept ds on us z price agree =
    fold_above (ceiling_said z) (price_at us z) CAP ds (All-weaker (Obeys on us) (λ (d : Decision). price_at us z ≤ℤ ceiling_said z d) (λ d is. ceiling_obeyed on us z d price is) ds agree) price.high

-- its prices lie in the box
pub above_low : (m : Market) (ds : List Decision) (a : Activation) (us : List Cents) → IsReached m ds a us → (z : ℕ) → low_of m ds z ≤ℤ price_at us z
above_low m ds a us h z =
    let price = price_in_cap m us h.consistent.prices z in
    low_kept (opens m ds) (is_open m a) us z (low_said ds z) m.orders a.mw (all_opened m ds a us h) price h.consistent.orders (low_said_kept ds (is_open m a) us z price h.agree)

pub below_high : (m : Market) (ds : List Decision) (a : Activation) (us : List Cents) → IsReached m ds a us → (z : ℕ) → price_at us z ≤ℤ high_of m ds z
below_high m ds a us h z =
    let price = price_in_cap m us h.consistent.prices z in
    high_kept (opens m ds) (is_open m a) us z (high_said ds z) m.orders a.mw (all_opened m ds a us h) price h.consistent.orders (high_said_kept ds (is_open m a) us z price h.agree)

-- ---- orders that always gain or lose

-- what gains, or loses, at a price
abbrev pub GainsAt : Side → ℤ → ℤ → Type 0
GainsAt Inject c p = c <ℤ p
GainsAt Withdraw c p = p <ℤ c

abbrev pub LosesAt : Side → ℤ → ℤ → Type 0
LosesAt Inject c p = p <ℤ c
LosesAt Withdraw c p = c <ℤ p

gains_at : (side : Side) (c low high p : ℤ) → low ≤ℤ p → p ≤ℤ high → gains_within side c low high ≡ true → GainsAt side c p
gains_at Inject c low high p l h e = omega (arith, ints, less c low e)
gains_at Withdraw c low high p l h e = omega (arith, ints, less high c e)

loses_at : (side : Side) (c low high p : ℤ) → low ≤ℤ p → p ≤ℤ high → loses_within side c low high ≡ true → LosesAt side c p
loses_at Inject c low high p l h e = omega (arith, ints, less high c e)
loses_at Withdraw c low high p l h e = omega (arith, ints, less c low e)

never_both : (side : Side) (c p : ℤ) → LosesAt side c p → Pays side c p → ⊥
never_both Inject c p l h = omega (arith, ints)
never_both Withdraw c p l h = omega (arith, ints)

-- ---- what is closed

rival_of : (gates : List GateInfo) (on : ℕ → Bool) (g h : ℕ) (j k : Option ℕ) → KeepsGateRules gates on → on g ≡ true → on h ≡ true
    → group_of gates g ≡ j → group_of gates h ≡ k → is_one_group j k ≡ true → g ≡ h
rival_of gates on g h None k rules x y in_g in_h e = absurd (cc)
rival_of gates on g h (Some j) None rules x y in_g in_h e = absurd (cc)
rival_of gates on g h (Some j) (Some k) rules x y in_g in_h e = rules.groups g h j x y in_g (in_h ∙ ap Some (sym (same_number j k e)))

apart : (g h : ℕ) → not (g == h) ≡ true → g ≡ h → ⊥
apart g h e same = let here : (g == h) ≡ true = grind (arith, nat_tests) in absurd (cc)

not_rival : (gates : List GateInfo) (on : ℕ → Bool) (g h : ℕ) → KeepsGateRules gates on → on g ≡ true → on h ≡ true → are_rivals gates g h ≡ true → ⊥
not_rival gates on g h rules x y e =
    let both = and_parts (not (g == h)) (is_one_group (group_of gates g) (group_of gates h)) e in
    apart g h both.0 (rival_of gates on g h (group_of gates g) (group_of gates h) rules x y refl refl both.1)

not_false : (b : Bool) → not b ≡ true → b ≡ true → ⊥
not_false true e h = absurd (cc)
not_false false e h = absurd (cc)

closed_by_one : (m : Market) (on : ℕ → Bool) (us : List Cents) (g : ℕ) (d : Decision) → KeepsRank m on → Obeys on us d → closes_by m g d ≡ true → on g ≡ true → ⊥
closed_by_one m on us g (Gate h b) ranked is e o =
    let both = and_parts (not b) ((h == g) || outranks m h g) e in
    elim (or_either (h == g) (outranks m h g) both.1) [
      | inl same ↦ not_false b both.0 (sym is ∙ ap on (same_number h g same) ∙ o)
      | inr better ↦ not_false b both.0 (sym is ∙ ranked h g better o)
    ]
closed_by_one m on us g (AtMost z p) ranked is e o = absurd (cc)
closed_by_one m on us g (Above z p) ranked is e o = absurd (cc)

-- a gate that a decision closes isn't open
closed_decided : (m : Market) (ds : List Decision) (on : ℕ → Bool) (us : List Cents) (g : ℕ) → KeepsRank m on → Agree ds on us → closes m ds g ≡ true → on g ≡ true → ⊥
closed_decided m ds on us g ranked agree e o = any_of_all (Obeys on us) (closes_by m g) ds agree e (λ d is test. closed_by_one m on us g d ranked is test o)

-- nor is one whose group has another open gate
closed_by_rival : (gates : List GateInfo) (on own : ℕ → Bool) (g : ℕ) → KeepsGateRules gates own → ((h : ℕ) → on h ≡ true → own h ≡ true) → has_rival gates on g ≡ true → own g ≡ true → ⊥
closed_by_rival gates on own g rules k e o =
    any_gives (λ h. are_rivals gates g h && on h) (range_with_len 0 (length gates)) e
    (λ h test. let both = and_parts (are_rivals gates g h) (on h) test in not_rival gates own g h rules o (k h both.1) both.0)

pays_of_gate : (own : ℕ → Bool) (g : ℕ) (gate : Option ℕ) (side : Side) (c p : ℤ) (most q : ℕ) → own g ≡ true → IsConsistentTrade (standing_of own gate) side c most q p
    → is_gate g gate ≡ true → Pays side c p
pays_of_gate own g None side c p most q o h e = absurd (cc)
pays_of_gate own g (Some k) side c p most q o h e = pays_if (own k) side c p most q (ap own (same_number k g e) ∙ o) h

-- nor is one with an order that always loses
closed_by_loss : (m : Market) (ds : List Decision) (a : Activation) (us : List Cents) → IsReached m ds a us → (g : ℕ) → has_loss m ds g ≡ true → is_open m a g ≡ true → ⊥
closed_by_loss m ds a us h g e o =
    any_of_zip (IsConsistentOrder (is_open m a) us) (λ (x : Order). is_gate g x.gate && loses m ds x) m.orders a.mw h.consistent.orders e
    (λ x q k test.
    let both = and_parts (is_gate g x.gate) (loses m ds x) test in
    never_both x.side x.price.0 (price_at us x.zone)
    (loses_at x.side x.price.0 (low_of m ds x.zone) (high_of m ds x.zone) (price_at us x.zone) (above_low m ds a us h x.zone) (below_high m ds a us h x.zone) both.1)
    (pays_of_gate (is_open m a) g x.gate x.side x.price.0 (price_at us x.zone) x.greatest q o k both.0))

shut_itself : (m : Market) (ds : List Decision) (a : Activation) (us : List Cents) → IsReached m ds a us → (g : ℕ) → is_shut m ds g ≡ true → is_open m a g ≡ true → ⊥
shut_itself m ds a us h g e o = elim (or_either (closes m ds g) (has_rival m.gates (opens m ds) g || has_loss m ds g) e) [
  | inl said ↦ closed_decided m ds (is_open m a) us g h.ranked h.agree said o
  | inr more ↦ elim (or_either (has_rival m.gates (opens m ds) g) (has_loss m ds g) more) [
    | inl rival ↦ closed_by_rival m.gates (opens m ds) (is_open m a) g h.feasible.gates (all_opened m ds a us h) rival o
    | inr loss ↦ closed_by_loss m ds a us h g loss o
  ]
]

-- what the state closes isn't open
pub all_shut : (m : Market) (ds : List Decision) (a : Activation) (us : List Cents) → IsReached m ds a us → (g : ℕ) → shuts m ds g ≡ true → is_open m a g ≡ true → ⊥
all_shut m ds a us h g e o = line_of_open m.gates (is_open m a) (is_shut m ds) g h.feasible.gates o e (λ k on test. shut_itself m ds a us h k test on)

-- so no state that is void has one
pub void_has_none : (m : Market) (ds : List Decision) (a : Activation) (us : List Cents) → IsReached m ds a us → IsVoid m ds → ⊥
void_has_none m ds a us h v = elim v [
  | inl torn ↦ all_shut m ds a us h torn.0 torn.1.shut (all_opened m ds a us h torn.0 torn.1.opened)
  | inr zone ↦ let none = zone.1.none in omega (arith, ints, above_low m ds a us h zone.0, below_high m ds a us h zone.0, none)
]

-- ---- bounds

-- what gains runs at its greatest, whether it is plain or of an open gate
full_where_gains : (side : Side) (c p : ℤ) (most q : ℕ) → IsConsistentTrade Plain side c most q p → GainsAt side c p → most ≤ q
full_where_gains Inject c p most q h g = elim (cases_lt q most) [ inl l ↦ absurd (omega (arith, ints, h.upper l, g)) | inr l ↦ l ]
full_where_gains Withdraw c p most q h g = elim (cases_lt q most) [ inl l ↦ absurd (omega (arith, ints, h.lower l, g)) | inr l ↦ l ]

full_in_open : (side : Side) (c p : ℤ) (most q : ℕ) → IsConsistentTrade InOpen side c most q p → GainsAt side c p → most ≤ q
full_in_open Inject c p most q h g = elim (cases_lt q most) [ inl l ↦ absurd (omega (arith, ints, h.upper l, g)) | inr l ↦ l ]
full_in_open Withdraw c p most q h g = elim (cases_lt q most) [ inl l ↦ absurd (omega (arith, ints, h.lower l, g)) | inr l ↦ l ]

-- what is plain and loses doesn't run
none_where_loses : (side : Side) (c p : ℤ) (most q : ℕ) → IsConsistentTrade Plain side c most q p → LosesAt side c p → q ≤ 0
none_where_loses Inject c p most q h g = elim (cases_lt 0 q) [ inl l ↦ absurd (omega (arith, ints, h.lower l, g)) | inr l ↦ l ]
none_where_loses Withdraw c p most q h g = elim (cases_lt 0 q) [ inl l ↦ absurd (omega (arith, ints, h.upper l, g)) | inr l ↦ l ]

within_plain : (gaining losing : Bool) (side : Side) (c p : ℤ) (o : Order) (q : ℕ) → IsConsistentTrade Plain side c o.greatest q p → q ≤ o.greatest
    → (gaining ≡ true → GainsAt side c p) → (losing ≡ true → LosesAt side c p) → IsWithin (plain_span gaining losing o) q
within_plain true losing side c p o q h most up down = record { least = full_where_gains side c p o.greatest q h (up refl); most = most }
within_plain false true side c p o q h most up down = record { least = omega arith; most = none_where_loses side c p o.greatest q h (down refl) }
within_plain false false side c p o q h most up down = record { least = omega arith; most = most }

-- an order of a gate that is open, or closed, as b says
within_gate : (gaining b opened shut : Bool) (side : Side) (c p : ℤ) (o : Order) (q : ℕ) → IsConsistentTrade (if b then InOpen else InClosed) side c o.greatest q p
    → IsWithin (gated_span (if b then Open else Closed) o) q → (opened ≡ true → b ≡ true) → (shut ≡ true → b ≡ true → ⊥)
    → (gaining ≡ true → GainsAt side c p) → IsWithin (gate_span gaining (state_by opened shut) o) q
within_gate true true true shut side c p o q h w x y up = record { least = full_in_open side c p o.greatest q h (up refl); most = w.most }
within_gate false true true shut side c p o q h w x y up = w
within_gate gaining false true shut side c p o q h w x y up = absurd (cc (x refl))
within_gate true true false true side c p o q h w x y up = absurd (y refl refl)
within_gate false true false true side c p o q h w x y up = absurd (y refl refl)
within_gate true false false true side c p o q h w x y up = w
within_gate false false false true side c p o q h w x y up = w
within_gate true true false false side c p o q h w x y up = record { least = omega arith; most = w.most }
within_gate false true false false side c p o q h w x y up = record { least = omega arith; most = w.most }
within_gate true false false false side c p o q h w x y up = record { least = omega arith; most = omega (arith, w.most) }
within_gate false false false false side c p o q h w x y up = record { least = omega arith; most = omega (arith, w.most) }

within_reached : (own opened shut : ℕ → Bool) (gaining losing : Bool) (gate : Option ℕ) (side : Side) (c p : ℤ) (o : Order) (q : ℕ)
    → IsConsistentTrade (standing_of own gate) side c o.greatest q p
    → IsWithin (span_of (λ g. if own g then Open else Closed) gate o) q
    → ((g : ℕ) → opened g ≡ true → own g ≡ true) → ((g : ℕ) → shut g ≡ true → own g ≡ true → ⊥)
    → (gaining ≡ true → GainsAt side c p) → (losing ≡ true → LosesAt side c p)
    → IsWithin (reached_span (λ g. state_by (opened g) (shut g)) gaining losing gate o) q
within_reached own opened shut gaining losing None side c p o q h w x y up down = within_plain gaining losing side c p o q h w.most up down
within_reached own opened shut gaining losing (Some g) side c p o q h w x y up down = within_gate gaining (own g) (opened g) (shut g) side c p o q h w (x g) (y g) up

-- every quantity lies within the state's bounds
pub within_state : (m : Market) (ds : List Decision) (a : Activation) (us : List Cents) → IsReached m ds a us → AllZip (λ (o : Order) (q : ℕ). IsWithin (bounds_in m ds o) q) m.orders a.mw
within_state m ds a us h =
    AllZip-both (IsConsistentOrder (is_open m a) us) (λ (o : Order) (q : ℕ). IsWithin (own_bounds m a o) q) (λ (o : Order) (q : ℕ). IsWithin (bounds_in m ds o) q)
    (λ o q k w.
    let low = above_low m ds a us h o.zone in
    let high = below_high m ds a us h o.zone in
    within_reached (is_open m a) (opens m ds) (shuts m ds) (gains m ds o) (loses m ds o) o.gate o.side o.price.0 (price_at us o.zone) o q k w
    (all_opened m ds a us h) (all_shut m ds a us h)
    (λ e. gains_at o.side o.price.0 (low_of m ds o.zone) (high_of m ds o.zone) (price_at us o.zone) low high e)
    (λ e. loses_at o.side o.price.0 (low_of m ds o.zone) (high_of m ds o.zone) (price_at us o.zone) low high e))
    m.orders a.mw h.consistent.orders h.feasible.orders

-- a flow that leads to a dearer zone is at its limit, and one that comes from one at its back limit
within_border : (rising falling : Bool) (pa pb : ℤ) (b : Border) (f : ℤ) → IsWithinLimits b f → (f <ℤ pos b.limit → pb ≤ℤ pa) → (neg_ℤ (pos b.back) <ℤ f → pa ≤ℤ pb)
    → (rising ≡ true → pa <ℤ pb) → (falling ≡ true → pb <ℤ pa) → IsFlowWithin (border_span rising falling b) f
within_border true falling pa pb b f w more less up down = record {
  back = by_lt_z f (pos b.limit) (λ l. absurd (omega (arith, ints, more l, up refl))) (λ l. omega (arith, ints, l));
  limit = w.limit;
}
within_border false true pa pb b f w more less up down = record {
  back = w.back;
  limit = by_lt_z (neg_ℤ (pos b.back)) f (λ l. absurd (omega (arith, ints, less l, down refl))) (λ l. l);
}
within_border false false pa pb b f w more less up down = w

dearer : (high low pa pb : ℤ) → pa ≤ℤ high → low ≤ℤ pb → lt_z high low ≡ true → pa <ℤ pb
dearer high low pa pb h l e = omega (arith, ints, less high low e)

-- every flow lies within the state's bounds
pub within_flows : (m : Market) (ds : List Decision) (a : Activation) (us : List Cents) → IsReached m ds a us → AllZip (λ (b : Border) (f : ℤ). IsFlowWithin (flows_in m ds b) f) m.borders a.flow
within_flows m ds a us h =
    AllZip-both (IsConsistentBorder us) IsWithinLimits (λ (b : Border) (f : ℤ). IsFlowWithin (flows_in m ds b) f)
    (λ b f k w.
    within_border (rises m ds b) (falls m ds b) (price_at us b.from) (price_at us b.to) b f w k.more k.less
    (λ e. dearer (high_of m ds b.from) (low_of m ds b.to) (price_at us b.from) (price_at us b.to) (below_high m ds a us h b.from) (above_low m ds a us h b.to) e)
    (λ e. dearer (high_of m ds b.to) (low_of m ds b.from) (price_at us b.to) (price_at us b.from) (below_high m ds a us h b.to) (above_low m ds a us h b.from) e))
    m.borders a.flow h.consistent.borders h.feasible.borders

pub within_bounds : (m : Market) (ds : List Decision) (a : Activation) (us : List Cents) → IsReached m ds a us → IsWithinSpans (bounds_in m ds) (flows_in m ds) m a
within_bounds m ds a us h = record { orders = within_state m ds a us h; borders = within_flows m ds a us h; balance = h.feasible.balance }

pub all_closed_there : (m : Market) (ds : List Decision) (a : Activation) (us : List Cents) → IsReached m ds a us → (g : ℕ) → shuts m ds g ≡ true → is_open m a g ≡ false
all_closed_there m ds a us h g e = refused (is_open m a g) (all_shut m ds a us h g e)
