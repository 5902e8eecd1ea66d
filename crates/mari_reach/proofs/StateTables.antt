-- The tables of a state against its definition.
use Rattle.std.proofs.Common.{◌≡◌, ◌==◌, ◌&&◌, ◌||◌, Bool, true, false, ℕ, zero, suc, ◌<◌, ◌≤◌, ℤ, ◌≤ℤ◌, List, [], ◌∷◌, length, map, Option, Some, None, arith, refl, sym, ap, ◌∙◌, subst, inl, inr, zero-add}
use Rattle.std.specs.Prelude.{◌↔◌, IsTrue, MatchOption}
use Rattle.std.proofs.lemmas.Bool.{and_parts}
use Rattle.std.proofs.lemmas.List.Elements.{All-head, All-tail}
use Rattle.std.proofs.lemmas.List.FromFn.{get_or-range_with_len, length-range_with_len}
use Rattle.std.specs.Int.{int_max, int_min}
use Rattle.std.specs.List.{All, fold, list_any, range_with_len}
use lib.Signed.{◌<ℤ◌, lt_z}
use Rattle.mari_market.specs.declared.market.Border.{Border}
use Rattle.mari_market.specs.declared.market.Order.{Order}
use Rattle.mari_market.specs.declared.market.GateInfo.{GateInfo}
use Rattle.mari_market.specs.declared.market.Market.{Market}
use Rattle.mari_market.specs.Activation.{is_gate}
use Rattle.mari_market.specs.Bounds.{GateState}
use Rattle.mari_market.specs.Gates.{parent_of, ParentsEarlier}
use Rattle.mari_market.specs.Market.{IsValid, IsValidBorder, IsValidOrder}
use Rattle.mari_market.specs.Prefix.{opens_in}
use Rattle.mari_market.specs.Sums.{int_at}
use Rattle.mari_reach.specs.declared.decisions.Decision.{Decision}
use Rattle.mari_reach.specs.declared.marks.Marks.{Marks}
use Rattle.mari_reach.specs.declared.prices.PriceBox.{PriceBox}
use Rattle.mari_reach.specs.declared.states.State.{State}
use Rattle.mari_reach.specs.State.{are_rivals, border_span, bounds_in, ceiling_at, ceiling_of, closes, floor_at, floor_of, flows_in, gains, gains_within, has_loss, has_rival, high_by, high_of, high_said, is_opened, is_shut, line_from, line_of, loses, loses_within, low_by, low_of, low_said, opens, reached_span, rises, shuts, state_at, state_by, IsBetweenPrices, IsPriceless, IsTorn, IsVoid}
use Rattle.mari_reach.specs.Tables.{HasOpened, HasPrices, IsStateOf, SpeaksFor, falls_in, flow_in, gains_in, is_priceless, is_torn, loses_in, span_in, state_in}
use Rattle.mari_reach.specs.Values.{is_void_by}
use Rattle.mari_market.proofs.Lists.{by_test}
use Rattle.mari_market.proofs.Rising.{is_less, less}
use Rattle.mari_reach.proofs.Ranges.{both_true, one_in_range, or_first, or_later}
use Rattle.mari_reach.proofs.Reaching.{or_either, some_same}

-- ---- tests that agree

same_any : {X : Type 0} (P : X → Type 0) (p q : X → Bool) (xs : List X) → All P xs → ((x : X) → P x → p x ≡ q x) → list_any p xs ≡ list_any q xs
same_any P p q [] a k = refl
same_any P p q (x ∷ xs) a k = ap (λ (b : Bool). b || list_any p xs) (k x (All-head P x xs a)) ∙ ap (λ (b : Bool). q x || b) (same_any P p q xs (All-tail P x xs a) k)

below_range : (n : ℕ) → All (λ h. h < n) (range_with_len 0 n)
below_range n i d l =
    let small : i < n = omega (arith, l, length-range_with_len 0 n) in
    subst (λ (h : ℕ). h < n) (sym (get_or-range_with_len 0 n i d small ∙ zero-add i)) small

same_rival : (gates : List GateInfo) (p q : ℕ → Bool) (g : ℕ) → ((h : ℕ) → h < length gates → p h ≡ q h) → has_rival gates p g ≡ has_rival gates q g
same_rival gates p q g k =
    same_any (λ h. h < length gates) (λ h. are_rivals gates g h && p h) (λ h. are_rivals gates g h && q h) (range_with_len 0 (length gates)) (below_range (length gates))
    (λ h l. ap (λ (b : Bool). are_rivals gates g h && b) (k h l))

same_line : (n : ℕ) (gates : List GateInfo) (p q : ℕ → Bool) (next : Option ℕ) → ParentsEarlier gates → ((h : ℕ) → h < length gates → p h ≡ q h)
    → ((g : ℕ) → next ≡ Some g → g < length gates) → list_any p (line_from n gates next) ≡ list_any q (line_from n gates next)
same_line zero gates p q next early k there = refl
same_line (suc n) gates p q None early k there = refl
same_line (suc n) gates p q (Some g) early k there =
    let here : g < length gates = there g refl in
    ap (λ (b : Bool). b || list_any p (line_from n gates (parent_of gates g))) (k g here)
    ∙ ap (λ (b : Bool). q g || b) (same_line n gates p q (parent_of gates g) early k (λ h e. let before : h < g = early g h e in omega arith))

pub same_line_of : (gates : List GateInfo) (p q : ℕ → Bool) (g : ℕ) → ParentsEarlier gates → ((h : ℕ) → h < length gates → p h ≡ q h) → g < length gates
    → list_any p (line_of gates g) ≡ list_any q (line_of gates g)
same_line_of gates p q g early k l = same_line (length gates) gates p q (Some g) early k (λ h e. subst (λ (x : ℕ). x < length gates) (some_same g h e) l)

-- ---- the box

same_opened : (n : ℕ) (p q : ℕ → Bool) (gate : Option ℕ) (least : ℕ) → MatchOption gate (least ≡ 0) (λ g. (g < n) × (1 ≤ least)) → ((h : ℕ) → h < n → p h ≡ q h) → is_opened p gate ≡ is_opened q gate
same_opened n p q None least f k = refl
same_opened n p q (Some g) least f k = k g f.0

same_low : (n zones : ℕ) (p q : ℕ → Bool) (os : List Order) (z : ℕ) (a : ℤ) → All (IsValidOrder zones n) os → ((h : ℕ) → h < n → p h ≡ q h)
    → fold int_max a (map (floor_at p z) os) ≡ fold int_max a (map (floor_at q z) os)
same_low n zones p q [] z a v k = refl
same_low n zones p q (o ∷ os) z a v k =
    let first = All-head (IsValidOrder zones n) o os v in
    let e : floor_at p z o ≡ floor_at q z o = ap (λ (b : Bool). floor_of ((o.zone == z) && b) o.side o.price.0) (same_opened n p q o.gate o.least first.gate k) in
    ap (λ (x : ℤ). fold int_max (int_max a x) (map (floor_at p z) os)) e ∙ same_low n zones p q os z (int_max a (floor_at q z o)) (All-tail (IsValidOrder zones n) o os v) k

same_high : (n zones : ℕ) (p q : ℕ → Bool) (os : List Order) (z : ℕ) (a : ℤ) → All (IsValidOrder zones n) os → ((h : ℕ) → h < n → p h ≡ q h)
    → fold int_min a (map (ceiling_at p z) os) ≡ fold int_min a (map (ceiling_at q z) os)
same_high n zones p q [] z a v k = refl
same_high n zones p q (o ∷ os) z a v k =
    let first = All-head (IsValidOrder zones n) o os v in
    let e : ceiling_at p z o ≡ ceiling_at q z o = ap (λ (b : Bool). ceiling_of ((o.zone == z) && b) o.side o.price.0) (same_opened n p q o.gate o.least first.gate k) in
    ap (λ (x : ℤ). fold int_min (int_min a x) (map (ceiling_at p z) os)) e ∙ same_high n zones p q os z (int_min a (ceiling_at q z o)) (All-tail (IsValidOrder zones n) o os v) k

pub box_is : (m : Market) (ds : List Decision) (marks : Marks) (box : PriceBox) (os : List Order) → IsValid m → SpeaksFor m os → HasOpened m ds marks
    → ((z : ℕ) → z < 64 → int_at box.low z ≡ low_by (opens_in marks) ds os z) → ((z : ℕ) → z < 64 → int_at box.high z ≡ high_by (opens_in marks) ds os z) → HasPrices m ds box
box_is m ds marks box os v speaks k low high = record {
  low = λ z l. low z (omega (arith, v.zones.1)) ∙ speaks.low (opens_in marks) ds z
      ∙ same_low (length m.gates) m.zones (opens_in marks) (opens m ds) m.orders z (low_said ds z) v.orders k;
  high = λ z l. high z (omega (arith, v.zones.1)) ∙ speaks.high (opens_in marks) ds z
      ∙ same_high (length m.gates) m.zones (opens_in marks) (opens m ds) m.orders z (high_said ds z) v.orders k;
}

-- ---- what gains and what loses

pub same_gains : (m : Market) (ds : List Decision) (box : PriceBox) (o : Order) → HasPrices m ds box → o.zone < m.zones → gains_in box o ≡ gains m ds o
same_gains m ds box o h l = ap (λ (x : ℤ). gains_within o.side o.price.0 x (int_at box.high o.zone)) (h.low o.zone l)
    ∙ ap (λ (x : ℤ). gains_within o.side o.price.0 (low_of m ds o.zone) x) (h.high o.zone l)

pub same_loses : (m : Market) (ds : List Decision) (box : PriceBox) (o : Order) → HasPrices m ds box → o.zone < m.zones → loses_in box o ≡ loses m ds o
same_loses m ds box o h l = ap (λ (x : ℤ). loses_within o.side o.price.0 x (int_at box.high o.zone)) (h.low o.zone l)
    ∙ ap (λ (x : ℤ). loses_within o.side o.price.0 (low_of m ds o.zone) x) (h.high o.zone l)

same_loss : (m : Market) (ds : List Decision) (box : PriceBox) (g : ℕ) → IsValid m → HasPrices m ds box → list_any (λ (o : Order). is_gate g o.gate && loses_in box o) m.orders ≡ has_loss m ds g
same_loss m ds box g v h =
    same_any (IsValidOrder m.zones (length m.gates)) (λ (o : Order). is_gate g o.gate && loses_in box o) (λ (o : Order). is_gate g o.gate && loses m ds o) m.orders v.orders
    (λ o w. ap (λ (b : Bool). is_gate g o.gate && b) (same_loses m ds box o h w.zone))

regroup : (w x y z : Bool) → w ≡ false → (((w || x) || y) || z) ≡ (x || (y || z))
regroup true x y z e = absurd (cc)
regroup false true y z e = refl
regroup false false true z e = refl
regroup false false false z e = refl

-- what is marked by a decision, by a rival and by a loss is closed itself
pub shut_is : (m : Market) (ds : List Decision) (marks : Marks) (box : PriceBox) (os : List Order) (gates : List GateInfo) (g : ℕ) (none one two three : Bool)
    → IsValid m → HasOpened m ds marks → HasPrices m ds box → SpeaksFor m os → gates ≡ m.gates → none ≡ false → one ≡ (none || closes m ds g)
    → two ≡ (one || has_rival gates (opens_in marks) g) → three ≡ (two || list_any (λ (o : Order). is_gate g o.gate && loses_in box o) os)
    → three ≡ is_shut m ds g
shut_is m ds marks box os gates g none one two three v k h speaks same_gates n e f d =
    d ∙ ap (λ (b : Bool). b || list_any (λ (o : Order). is_gate g o.gate && loses_in box o) os) (f ∙ ap (λ (b : Bool). b || has_rival gates (opens_in marks) g) e)
    ∙ regroup none (closes m ds g) (has_rival gates (opens_in marks) g) (list_any (λ (o : Order). is_gate g o.gate && loses_in box o) os) n
    ∙ ap (λ (b : Bool). closes m ds g || (b || list_any (λ (o : Order). is_gate g o.gate && loses_in box o) os))
    (ap (λ (gs : List GateInfo). has_rival gs (opens_in marks) g) same_gates ∙ same_rival m.gates (opens_in marks) (opens m ds) g k)
    ∙ ap (λ (b : Bool). closes m ds g || (has_rival m.gates (opens m ds) g || b)) (speaks.losses box g ∙ same_loss m ds box g v h)

-- ---- bounds

same_state : (m : Market) (ds : List Decision) (r : State) (g : ℕ) → IsStateOf m ds r → g < length m.gates → state_in r g ≡ state_at m ds g
same_state m ds r g h l = ap (λ (b : Bool). state_by b (opens_in r.shut g)) (h.opened g l) ∙ ap (λ (b : Bool). state_by (opens m ds g) b) (h.shut g l)

by_gate : (n : ℕ) (s t : ℕ → GateState) (gaining losing : Bool) (gate : Option ℕ) (least : ℕ) (o : Order) → MatchOption gate (least ≡ 0) (λ g. (g < n) × (1 ≤ least))
    → ((g : ℕ) → g < n → s g ≡ t g) → reached_span s gaining losing gate o ≡ reached_span t gaining losing gate o
by_gate n s t gaining losing None least o f k = refl
by_gate n s t gaining losing (Some g) least o f k = ap (λ (x : GateState). Rattle.mari_reach.specs.State.gate_span gaining x o) (k g f.0)

-- the bounds of a valid order by the tables are those of the state
pub same_span : (m : Market) (ds : List Decision) (r : State) (o : Order) → IsStateOf m ds r → IsValidOrder m.zones (length m.gates) o → span_in r o ≡ bounds_in m ds o
same_span m ds r o h v =
    ap (λ (b : Bool). reached_span (state_in r) b (loses_in r.prices o) o.gate o) (same_gains m ds r.prices o h.prices v.zone)
    ∙ ap (λ (b : Bool). reached_span (state_in r) (gains m ds o) b o.gate o) (same_loses m ds r.prices o h.prices v.zone)
    ∙ by_gate (length m.gates) (state_in r) (state_at m ds) (gains m ds o) (loses m ds o) o.gate o.least o v.gate (λ g l. same_state m ds r g h l)

-- the bounds of a valid border by the tables are those of the state
pub same_flow : (m : Market) (ds : List Decision) (r : State) (b : Border) → IsStateOf m ds r → IsValidBorder m.zones b → flow_in r b ≡ flows_in m ds b
same_flow m ds r b h v =
    ap (λ (x : Bool). border_span x (falls_in r.prices b) b) (ap (λ (x : ℤ). lt_z x (int_at r.prices.low b.to)) (h.prices.high b.from v.from)
    ∙ ap (λ (x : ℤ). lt_z (high_of m ds b.from) x) (h.prices.low b.to v.to))
    ∙ ap (λ (x : Bool). border_span (rises m ds b) x b) (ap (λ (x : ℤ). lt_z x (int_at r.prices.low b.from)) (h.prices.high b.to v.to)
    ∙ ap (λ (x : ℤ). lt_z (high_of m ds b.to) x) (h.prices.low b.from v.from))

-- ---- void states

-- a number below n that passes a test
found_below : (test : ℕ → Bool) (n : ℕ) → list_any test (range_with_len 0 n) ≡ true → (g : ℕ) × (g < n) × (test g ≡ true)
found_below test n e = go (range_with_len 0 n) (below_range n) e
  where
    go : (xs : List ℕ) → All (λ h. h < n) xs → list_any test xs ≡ true → (g : ℕ) × (g < n) × (test g ≡ true)
    go [] a e = absurd (cc)
    go (x ∷ xs) a e = elim (or_either (test x) (list_any test xs) e) [ inl h ↦ (x, All-head (λ h. h < n) x xs a, h) | inr h ↦ go xs (All-tail (λ h. h < n) x xs a) h ]

torn_by : (m : Market) (ds : List Decision) (r : State) → IsStateOf m ds r → list_any (is_torn r) (range_with_len 0 (length m.gates)) ≡ true → (g : ℕ) × IsTorn m ds g
torn_by m ds r h e =
    let f = found_below (is_torn r) (length m.gates) e in
    let both = and_parts (opens_in r.opened f.0) (opens_in r.shut f.0) f.2 in
    (f.0, record { there = f.1; opened = sym (h.opened f.0 f.1) ∙ both.0; shut = sym (h.shut f.0 f.1) ∙ both.1 })

is_torn_by : (m : Market) (ds : List Decision) (r : State) (g : ℕ) → IsStateOf m ds r → IsTorn m ds g → list_any (is_torn r) (range_with_len 0 (length m.gates)) ≡ true
is_torn_by m ds r g h torn =
    one_in_range (is_torn r) (length m.gates) g torn.there (both_true (opens_in r.opened g) (opens_in r.shut g) (h.opened g torn.there ∙ torn.opened) (h.shut g torn.there ∙ torn.shut))

priceless_is : (m : Market) (ds : List Decision) (r : State) (z : ℕ) → IsStateOf m ds r → z < m.zones → is_priceless r z ≡ lt_z (high_of m ds z) (low_of m ds z)
priceless_is m ds r z h l = ap (λ (x : ℤ). lt_z x (int_at r.prices.low z)) (h.prices.high z l) ∙ ap (λ (x : ℤ). lt_z (high_of m ds z) x) (h.prices.low z l)

priceless_by : (m : Market) (ds : List Decision) (r : State) → IsStateOf m ds r → list_any (is_priceless r) (range_with_len 0 m.zones) ≡ true → (z : ℕ) × IsPriceless m ds z
priceless_by m ds r h e =
    let f = found_below (is_priceless r) m.zones e in
    (f.0, record { there = f.1; none = less (high_of m ds f.0) (low_of m ds f.0) (sym (priceless_is m ds r f.0 h f.1) ∙ f.2) })

is_priceless_by : (m : Market) (ds : List Decision) (r : State) (z : ℕ) → IsStateOf m ds r → IsPriceless m ds z → list_any (is_priceless r) (range_with_len 0 m.zones) ≡ true
is_priceless_by m ds r z h none =
    one_in_range (is_priceless r) m.zones z none.there (priceless_is m ds r z h none.there ∙ is_less (high_of m ds z) (low_of m ds z) none.none)

-- the tables show exactly whether a state is void
pub void_by : (m : Market) (ds : List Decision) (r : State) → IsStateOf m ds r → (is_void_by m r ≡ true) ↔ IsVoid m ds
void_by m ds r h = (
  λ e. elim (or_either (list_any (is_torn r) (range_with_len 0 (length m.gates))) (list_any (is_priceless r) (range_with_len 0 m.zones)) e) [
    | inl torn ↦ inl (torn_by m ds r h torn)
    | inr none ↦ inr (priceless_by m ds r h none)
  ],
  λ v. elim v [
    | inl torn ↦ or_first (list_any (is_torn r) (range_with_len 0 (length m.gates))) (list_any (is_priceless r) (range_with_len 0 m.zones)) (is_torn_by m ds r torn.0 h torn.1)
    | inr zone ↦ or_later (list_any (is_torn r) (range_with_len 0 (length m.gates))) (list_any (is_priceless r) (range_with_len 0 m.zones)) (is_priceless_by m ds r zone.0 h zone.1)
  ],
)

-- and so does their test
pub void_answer : (m : Market) (ds : List Decision) (r : State) (answer : Bool) → IsStateOf m ds r → answer ≡ is_void_by m r → IsTrue answer ↔ IsVoid m ds
void_answer m ds r answer h e = (λ yes. (void_by m ds r h).0 (sym e ∙ yes), λ v. e ∙ (void_by m ds r h).1 v)

-- and whether it isn't
pub live_by : (m : Market) (ds : List Decision) (r : State) → IsStateOf m ds r → (is_void_by m r ≡ false) ↔ (IsVoid m ds → ⊥)
live_by m ds r h = (
  λ e v. let void = (void_by m ds r h).1 v in absurd (cc),
  λ live. by_test (is_void_by m r) (λ e. absurd (live ((void_by m ds r h).0 e))) (λ e. e),
)

-- ---- choices

pub between_by : (m : Market) (ds : List Decision) (r : State) (z : ℕ) (p : ℤ) (answer : Bool) → IsStateOf m ds r → z < m.zones
    → (IsTrue answer → int_at r.prices.low z ≤ℤ p) → (IsTrue answer → p <ℤ int_at r.prices.high z) → (int_at r.prices.low z ≤ℤ p → p <ℤ int_at r.prices.high z → IsTrue answer)
    → IsTrue answer ↔ IsBetweenPrices m ds z p
between_by m ds r z p answer h l low high within = (
  λ yes. record { there = l; low = subst (λ (x : ℤ). x ≤ℤ p) (h.prices.low z l) (low yes); high = subst (λ (x : ℤ). p <ℤ x) (h.prices.high z l) (high yes) },
  λ k. within (subst (λ (x : ℤ). x ≤ℤ p) (sym (h.prices.low z l)) k.low) (subst (λ (x : ℤ). p <ℤ x) (sym (h.prices.high z l)) k.high),
)
