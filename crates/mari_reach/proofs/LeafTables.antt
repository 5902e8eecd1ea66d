-- The tests of a leaf by the tables of a state.
use Rattle.std.proofs.Common.{◌≡◌, ◌||◌, if◌then◌else◌, not, Bool, true, false, ℕ, ◌<◌, ℤ, pos, ◌+ℤ◌, ◌-ℤ◌, ◌*ℤ◌, ◌≤ℤ◌, List, [], ◌∷◌, length, arith, refl, sym, ap, ◌∙◌, subst, inl, inr}
use mathlib.Core.Bool.{beq}
use Rattle.std.specs.Prelude.{IsTrue, ◌↔◌}
use Rattle.std.proofs.lemmas.Int.{ints, clamps}
use Rattle.std.proofs.lemmas.Bool.{cases_lt}
use Rattle.std.proofs.lemmas.List.Elements.{All-head, All-tail}
use Rattle.std.specs.Int.{int_max}
use Rattle.std.specs.List.{All}
use lib.Signed.{lt_z}
use Rattle.mari_units.specs.declared.numbers.Cents.{Cents}
use Rattle.mari_units.proofs.Lists.{same_map}
use Rattle.mari_market.specs.declared.market.Border.{Border}
use Rattle.mari_market.specs.declared.market.Order.{Order}
use Rattle.mari_market.specs.declared.market.Market.{Market}
use Rattle.mari_market.specs.declared.prefix.Prefix.{Prefix}
use Rattle.mari_market.specs.declared.certificate.Cut.{Cut as CutRecord}
use Rattle.mari_market.specs.declared.certificate.CutSide.{CutSide}
use Rattle.mari_market.specs.declared.certificate.CutSide.TheVariants.{In, Out}
use Rattle.mari_market.specs.Activation.{is_gate}
use Rattle.mari_market.specs.Bounds.{Span}
use Rattle.mari_market.specs.Cut.{is_in, CannotBalanceWithin, IsCutWithin}
use Rattle.mari_market.specs.Flows.{FlowSpan}
use Rattle.mari_proofs.specs.NetInjections.{Exceeds, net_put, put_of}
use Rattle.mari_market.specs.Dual.{best_flow, best_order, best_trade}
use Rattle.mari_market.specs.First.{ComesBefore}
use Rattle.mari_market.specs.Market.{IsValid, IsValidBorder, IsValidOrder}
use Rattle.mari_market.specs.Prefix.{bit_of, opens_in, word_of}
use Rattle.mari_market.specs.Price.{price_at}
use Rattle.mari_market.specs.Sums.{int_sum}
use Rattle.mari_market.proofs.Ints.{mul-neg_z, sub-mul_z}
use Rattle.mari_market.proofs.Prefixes.{opens_within}
use Rattle.mari_gates.proofs.Decisions.{length-decisions, opens-decisions}
use Rattle.mari_reach.specs.declared.decisions.Decision.{Decision}
use Rattle.mari_reach.specs.declared.decisions.ReachLeaf.{ReachLeaf}
use Rattle.mari_reach.specs.declared.decisions.ReachLeaf.TheVariants.{Void, Bound, Cut}
use Rattle.mari_reach.specs.declared.states.State.{State}
use Rattle.mari_reach.specs.Leaf.{best_of_gate, dual_of, gain_of, is_needed, needed_word, ReachLeafHolds, IsBoundFor}
use Rattle.mari_reach.specs.State.{border_span, bounds_in, flows_in, opens}
use Rattle.mari_reach.specs.Tables.{IsStateOf, falls_in, flow_in, rises_in, span_in}
use Rattle.mari_reach.specs.Values.{ReachLeafHoldsBy, IsBoundBy, carried_by, dual_in, is_needed_in, needed_in}
use Rattle.mari_reach.proofs.LeafLaws.{opens_map}
use Rattle.mari_reach.proofs.StateTables.{live_by, same_flow, same_span, void_by}

-- ---- the order of words

-- where two words are the same before a gate and differ there, that decides which comes before the other
pub differs_at : (x u : List Bool) (i : ℕ) (b c answer : Bool) → ((g : ℕ) → g < i → opens_in x g ≡ opens_in u g) → opens_in x i ≡ b → opens_in u i ≡ c
    → not (beq b c) ≡ true → answer ≡ not b → IsTrue answer ↔ ComesBefore x u
differs_at x u i true true answer same e f apart a = absurd (cc)
differs_at x u i false false answer same e f apart a = absurd (cc)
differs_at x u i false true answer same e f apart a = (λ yes. record { gate = i; same = same; closed = e; opened = f }, λ b. a)
differs_at x u i true false answer same e f apart a = (λ yes. absurd (cc (a, yes)), λ b. absurd (never b))
  where
    never : ComesBefore x u → ⊥
    never b = elim (cases_lt b.gate i) [
      | inl l ↦ let s = same b.gate l in absurd (cc (s, b.closed, b.opened))
      | inr l ↦ elim (cases_lt i b.gate) [
        | inl k ↦ let s = b.same i k in absurd (cc (s, e, f))
        | inr k ↦ let here : b.gate ≡ i = omega arith in absurd (cc (ap (opens_in u) here, b.opened, f))
      ]
    ]

-- words that are the same don't come before each other
pub none_differs : (x u : List Bool) (n : ℕ) → length u ≡ n → ((g : ℕ) → g < n → opens_in x g ≡ opens_in u g) → (false ≡ true) ↔ ComesBefore x u
none_differs x u n full same = (
  λ yes. absurd (cc),
  λ b.
      let l : b.gate < n = omega (arith, opens_within u b.gate b.opened, full) in
      let s = same b.gate l in
      absurd (cc (s, b.closed, b.opened)),
)

-- the word by the tables, and a full prefix, gate by gate
pub table_at : (m : Market) (r : State) (ps : List Cents) (g : ℕ) → g < length m.gates → opens_in (needed_in m r ps) g ≡ is_needed_in m r ps g
table_at m r ps g l = opens_map (is_needed_in m r ps) (length m.gates) g l

pub prefix_at : (x : Prefix) (n g : ℕ) → x.length ≡ n → g < n → opens_in (word_of x) g ≡ bit_of x g
prefix_at x n g full l = opens-decisions x x.length g (omega (arith, l, full))

pub length_of_prefix : (x : Prefix) (n : ℕ) → x.length ≡ n → length (word_of x) ≡ n
length_of_prefix x n full = length-decisions x x.length ∙ full

-- ---- what a border earns

-- what a border earns at most where its potentials are these
abbrev pub best_between : (pa pb : ℤ) → FlowSpan → ℤ
best_between pa pb s = int_max ((pb -ℤ pa) *ℤ s.limit) ((pa -ℤ pb) *ℤ s.back)

-- at its limit, or at its back limit
pub earns_on : (pa pb : ℤ) (falling : Bool) (b : Border) → (pb -ℤ pa) *ℤ pos b.limit ≡ best_between pa pb (border_span true falling b)
earns_on pa pb falling b = omega (arith, ints, clamps, mul-neg_z (pa -ℤ pb) (pos b.limit), sub-mul_z pb pa (pos b.limit), sub-mul_z pa pb (pos b.limit))

pub earns_back : (pa pb : ℤ) (b : Border) → (pa -ℤ pb) *ℤ pos b.back ≡ best_between pa pb (border_span false true b)
earns_back pa pb b = omega (arith, ints, clamps, mul-neg_z (pb -ℤ pa) (pos b.back), sub-mul_z pb pa (pos b.back), sub-mul_z pa pb (pos b.back))

-- the same where the tables show that prices rise, or fall
pub earns_rising : (r : State) (ps : List Cents) (b : Border) (x gap : ℤ) → rises_in r.prices b ≡ true → gap ≡ price_at ps b.to -ℤ price_at ps b.from → x ≡ gap *ℤ pos b.limit
    → x ≡ best_flow (flow_in r) ps b
earns_rising r ps b x gap rising e k =
    k ∙ ap (λ (g : ℤ). g *ℤ pos b.limit) e ∙ earns_on (price_at ps b.from) (price_at ps b.to) (falls_in r.prices b) b
    ∙ ap (λ (t : Bool). best_between (price_at ps b.from) (price_at ps b.to) (border_span t (falls_in r.prices b) b)) (sym rising)

pub earns_falling : (r : State) (ps : List Cents) (b : Border) (x gap : ℤ) → rises_in r.prices b ≡ false → falls_in r.prices b ≡ true
    → gap ≡ price_at ps b.from -ℤ price_at ps b.to → x ≡ gap *ℤ pos b.back
    → x ≡ best_flow (flow_in r) ps b
earns_falling r ps b x gap rising falling e k =
    k ∙ ap (λ (g : ℤ). g *ℤ pos b.back) e ∙ earns_back (price_at ps b.from) (price_at ps b.to) b
    ∙ ap (λ (t : Bool). best_between (price_at ps b.from) (price_at ps b.to) (border_span false t b)) (sym falling)
    ∙ ap (λ (t : Bool). best_between (price_at ps b.from) (price_at ps b.to) (border_span t (falls_in r.prices b) b)) (sym rising)

-- ---- the tables and the state

same_best : (f g : Order → Span) (ps : List Cents) (zones gates : ℕ) (os : List Order) → ((o : Order) → IsValidOrder zones gates o → f o ≡ g o) → All (IsValidOrder zones gates) os
    → int_sum (best_order f ps) os ≡ int_sum (best_order g ps) os
same_best f g ps zones gates [] e v = refl
same_best f g ps zones gates (o ∷ os) e v =
    ap (λ (s : Span). best_trade o.side o.price.0 (price_at ps o.zone) s +ℤ int_sum (best_order f ps) os) (e o (All-head (IsValidOrder zones gates) o os v))
    ∙ ap (λ (x : ℤ). best_order g ps o +ℤ x) (same_best f g ps zones gates os e (All-tail (IsValidOrder zones gates) o os v))

same_earned : (f g : Border → FlowSpan) (ps : List Cents) (zones : ℕ) (bs : List Border) → ((b : Border) → IsValidBorder zones b → f b ≡ g b) → All (IsValidBorder zones) bs
    → int_sum (best_flow f ps) bs ≡ int_sum (best_flow g ps) bs
same_earned f g ps zones [] e v = refl
same_earned f g ps zones (b ∷ bs) e v =
    ap (λ (s : FlowSpan). best_between (price_at ps b.from) (price_at ps b.to) s +ℤ int_sum (best_flow f ps) bs) (e b (All-head (IsValidBorder zones) b bs v))
    ∙ ap (λ (x : ℤ). best_flow g ps b +ℤ x) (same_earned f g ps zones bs e (All-tail (IsValidBorder zones) b bs v))

pub same_dual : (m : Market) (ds : List Decision) (r : State) (ps : List Cents) → IsValid m → IsStateOf m ds r → dual_in m r ps ≡ dual_of m ds ps
same_dual m ds r ps v h =
    ap (λ (x : ℤ). x +ℤ int_sum (best_flow (flow_in r) ps) m.borders) (same_best (span_in r) (bounds_in m ds) ps m.zones (length m.gates) m.orders (λ o k. same_span m ds r o h k) v.orders)
    ∙ ap (λ (x : ℤ). int_sum (best_order (bounds_in m ds) ps) m.orders +ℤ x) (same_earned (flow_in r) (flows_in m ds) ps m.zones m.borders (λ b k. same_flow m ds r b h k) v.borders)

same_gained : (h : ℕ) (f g : Order → Span) (ps : List Cents) (zones gates : ℕ) (os : List Order) → ((o : Order) → IsValidOrder zones gates o → f o ≡ g o) → All (IsValidOrder zones gates) os
    → int_sum (best_of_gate h f ps) os ≡ int_sum (best_of_gate h g ps) os
same_gained h f g ps zones gates [] e v = refl
same_gained h f g ps zones gates (o ∷ os) e v =
    ap (λ (s : Span). (if is_gate h o.gate then best_trade o.side o.price.0 (price_at ps o.zone) s else pos 0) +ℤ int_sum (best_of_gate h f ps) os) (e o (All-head (IsValidOrder zones gates) o os v))
    ∙ ap (λ (x : ℤ). best_of_gate h g ps o +ℤ x) (same_gained h f g ps zones gates os e (All-tail (IsValidOrder zones gates) o os v))

same_needed : (m : Market) (ds : List Decision) (r : State) (ps : List Cents) (g : ℕ) → IsValid m → IsStateOf m ds r → g < length m.gates → is_needed_in m r ps g ≡ is_needed m ds ps g
same_needed m ds r ps g v h l =
    ap (λ (b : Bool). b || lt_z (pos 0) (gain_of (span_in r) m ps g)) (h.opened g l)
    ∙ ap (λ (x : ℤ). opens m ds g || lt_z (pos 0) x) (same_gained g (span_in r) (bounds_in m ds) ps m.zones (length m.gates) m.orders (λ o k. same_span m ds r o h k) v.orders)

same_word : (m : Market) (ds : List Decision) (r : State) (ps : List Cents) → IsValid m → IsStateOf m ds r → needed_in m r ps ≡ needed_word m ds ps
same_word m ds r ps v h = same_map (is_needed_in m r ps) (is_needed m ds ps) (length m.gates) (λ g l. same_needed m ds r ps g v h l)

bound_by : (m : Market) (w : ℤ) (u : List Bool) (ds : List Decision) (r : State) (ps : List Cents) → IsValid m → IsStateOf m ds r → IsBoundBy m w u r ps ↔ IsBoundFor m w u ds ps
bound_by m w u ds r ps v h =
    let value : dual_in m r ps ≡ dual_of m ds ps = same_dual m ds r ps v h in
    let word : needed_in m r ps ≡ needed_word m ds ps = same_word m ds r ps v h in (
      λ b. record {
        prices = b.prices;
        value = subst (λ (x : ℤ). x ≤ℤ w) value b.value;
        early = λ e before. b.early (value ∙ e) (subst (λ (x : List Bool). ComesBefore x u) (sym word) before);
      },
      λ b. record {
        prices = b.prices;
        value = subst (λ (x : ℤ). x ≤ℤ w) (sym value) b.value;
        early = λ e before. b.early (sym value ∙ e) (subst (λ (x : List Bool). ComesBefore x u) word before);
      },
    )

-- ---- cuts

same_put : (side : CutSide) (f g : Order → Span) (set : List ℕ) (zones gates : ℕ) (os : List Order)
    → ((o : Order) → IsValidOrder zones gates o → f o ≡ g o) → All (IsValidOrder zones gates) os
    → int_sum (put_of side f set) os ≡ int_sum (put_of side g set) os
same_put side f g set zones gates [] e v = refl
same_put side f g set zones gates (o ∷ os) e v =
    ap (λ (s : Span). (if is_in set o.zone then net_put side o.side s else pos 0) +ℤ int_sum (put_of side f set) os) (e o (All-head (IsValidOrder zones gates) o os v))
    ∙ ap (λ (x : ℤ). put_of side g set o +ℤ x) (same_put side f g set zones gates os e (All-tail (IsValidOrder zones gates) o os v))

same_carry : (side : CutSide) (f g : Border → FlowSpan) (set : List ℕ) (zones : ℕ) (bs : List Border) → ((b : Border) → IsValidBorder zones b → f b ≡ g b) → All (IsValidBorder zones) bs
    → int_sum (carried_by side f set) bs ≡ int_sum (carried_by side g set) bs
same_carry side f g set zones [] e v = refl
same_carry side f g set zones (b ∷ bs) e v =
    ap (λ (x : ℤ). x +ℤ int_sum (carried_by side f set) bs) (one side (e b (All-head (IsValidBorder zones) b bs v)))
    ∙ ap (λ (x : ℤ). carried_by side g set b +ℤ x) (same_carry side f g set zones bs e (All-tail (IsValidBorder zones) b bs v))
  where
    one : (side : CutSide) → f b ≡ g b → carried_by side f set b ≡ carried_by side g set b
    one Out same = cc
    one In same = cc

balance_is : (bounds : Order → Span) (flows : Border → FlowSpan) (m : Market) (side : CutSide) (set : List ℕ)
    → CannotBalanceWithin bounds flows m side set ≡ Exceeds side (int_sum (put_of side bounds set) m.orders) (int_sum (carried_by side flows set) m.borders)
balance_is bounds flows m Out set = refl
balance_is bounds flows m In set = refl

-- the test that the code makes
pub tests_balance : (bounds : Order → Span) (flows : Border → FlowSpan) (m : Market) (side : CutSide) (set : List ℕ) (orders : List Order) (borders : List Border) (put carried : ℤ) (answer : Bool)
    → put ≡ int_sum (put_of side bounds set) orders → orders ≡ m.orders
    → carried ≡ int_sum (carried_by side flows set) borders → borders ≡ m.borders → IsTrue answer ↔ Exceeds side put carried
    → IsTrue answer ↔ CannotBalanceWithin bounds flows m side set
tests_balance bounds flows m side set orders borders put carried answer p os c bs t =
    let put_is : put ≡ int_sum (put_of side bounds set) m.orders = p ∙ ap (int_sum (put_of side bounds set)) os in
    let carried_is : carried ≡ int_sum (carried_by side flows set) m.borders = c ∙ ap (int_sum (carried_by side flows set)) bs in
    let same : Exceeds side put carried ≡ CannotBalanceWithin bounds flows m side set = ap (λ (x : ℤ). Exceeds side x carried) put_is
    ∙ ap (λ (x : ℤ). Exceeds side (int_sum (put_of side bounds set) m.orders) x) carried_is ∙ sym (balance_is bounds flows m side set) in
    subst (λ (P : Type 0). IsTrue answer ↔ P) same t

same_cut : (f g : Order → Span) (p q : Border → FlowSpan) (m : Market) (cut : CutRecord) → IsValid m → ((o : Order) → IsValidOrder m.zones (length m.gates) o → f o ≡ g o)
    → ((b : Border) → IsValidBorder m.zones b → p b ≡ q b) → IsCutWithin f p m cut → IsCutWithin g q m cut
same_cut f g p q m cut v e k h = record {
  zones = h.zones;
  side = subst (λ (P : Type 0). P) (balance_is f p m cut.side cut.zones
      ∙ ap (λ (x : ℤ). Exceeds cut.side x (int_sum (carried_by cut.side p cut.zones) m.borders)) (same_put cut.side f g cut.zones m.zones (length m.gates) m.orders e v.orders)
      ∙ ap (λ (x : ℤ). Exceeds cut.side (int_sum (put_of cut.side g cut.zones) m.orders) x) (same_carry cut.side p q cut.zones m.zones m.borders k v.borders)
      ∙ sym (balance_is g q m cut.side cut.zones)) h.side;
}

-- ---- leaves

-- a leaf holds by the tables exactly where it holds for the state
pub leaf_by : (m : Market) (w : ℤ) (u : List Bool) (ds : List Decision) (r : State) (leaf : ReachLeaf) → IsValid m → IsStateOf m ds r
    → ReachLeafHoldsBy m w u r leaf ↔ ReachLeafHolds m w u ds leaf
leaf_by m w u ds r Void v h = void_by m ds r h
leaf_by m w u ds r (Bound ps) v h = (
  λ b. ((live_by m ds r h).0 b.0, (bound_by m w u ds r ps.cents v h).0 b.1),
  λ b. ((live_by m ds r h).1 b.0, (bound_by m w u ds r ps.cents v h).1 b.1),
)
leaf_by m w u ds r (Cut cut) v h = (
  λ c. ((live_by m ds r h).0 c.0, same_cut (span_in r) (bounds_in m ds) (flow_in r) (flows_in m ds) m cut v (λ o k. same_span m ds r o h k) (λ b k. same_flow m ds r b h k) c.1),
  λ c. ((live_by m ds r h).1 c.0, same_cut (bounds_in m ds) (span_in r) (flows_in m ds) (flow_in r) m cut v (λ o k. sym (same_span m ds r o h k)) (λ b k. sym (same_flow m ds r b h k)) c.1),
)
