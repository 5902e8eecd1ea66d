-- What a leaf that holds says of each activation that its state reaches.
use Rattle.std.proofs.Common.{◌≡◌, ◌⊎◌, ◌==◌, if◌then◌else◌, Bool, true, false, ℕ, zero, suc, ◌<◌, ◌≤◌, ℤ, pos, ◌+ℤ◌, ◌-ℤ◌, ◌*ℤ◌, ◌≤ℤ◌, List, [], ◌∷◌, length, map, Option, Some, None, arith, refl, sym, ap, ◌∙◌, inl, inr}
use Rattle.std.proofs.lemmas.Int.{ints, clamps, by_lt_z}
use Rattle.std.proofs.lemmas.Bool.{cases_lt}
use Rattle.std.proofs.lemmas.List.FromFn.{get_or-map-range_with_len, length-map-range_with_len}
use Rattle.std.specs.Int.{int_max}
use Rattle.std.specs.List.{range_with_len}
use lib.Signed.{lt_z}
use Rattle.mari_units.specs.declared.numbers.Cents.{Cents}
use Rattle.mari_market.specs.declared.market.Order.{Order}
use Rattle.mari_market.specs.declared.market.Border.{Border}
use Rattle.mari_market.specs.declared.market.Market.{Market}
use Rattle.mari_market.specs.declared.activation.Activation.{Activation}
use Rattle.mari_market.specs.Activation.{gate_word_of, is_gate, is_open, welfare_of}
use Rattle.mari_market.specs.Bounds.{Span, IsWithin, span_of, gated_span, own_bounds}
use Rattle.mari_market.specs.Bounds.GateState.{Open, Closed}
use Rattle.mari_market.specs.Dual.{best_order, best_trade, gain_per_mw}
use Rattle.mari_market.specs.First.{ComesBefore}
use Rattle.mari_market.specs.Market.{IsValid}
use Rattle.mari_market.specs.Optimal.{IsFeasible}
use Rattle.mari_market.specs.Prefix.{opens_in}
use Rattle.mari_market.specs.Price.{price_at}
use Rattle.mari_market.specs.Sums.{int_sum}
use Rattle.mari_market.proofs.Lists.{by_test}
use Rattle.mari_market.proofs.Rising.{less}
use Rattle.mari_market.proofs.Sums.{AllZip-both}
use Rattle.mari_market.proofs.Prefixes.{opens_within}
use Rattle.mari_reach.specs.declared.decisions.Decision.{Decision}
use Rattle.mari_reach.specs.declared.decisions.ReachLeaf.{ReachLeaf}
use Rattle.mari_reach.specs.declared.decisions.ReachLeaf.TheVariants.{Void, Bound, Cut}
use Rattle.mari_market.specs.Flows.{FlowSpan}
use Rattle.mari_market.specs.Relaxation.{IsWithinSpans}
use Rattle.mari_reach.specs.Leaf.{best_of_gate, dual_of, gain_of, is_needed, needed_word, ReachLeafHolds, IsBoundFor}
use Rattle.mari_reach.specs.State.{bounds_in, flows_in, opens, IsReached}
use Rattle.mari_market.proofs.Cuts.{cut_has_none}
use Rattle.mari_market.proofs.Duality.{weak_duality_within}
use Rattle.mari_reach.proofs.Reaching.{all_opened, or_either, same_number, void_has_none, within_bounds}

-- ---- words

-- a word made of a rule for each gate
pub opens_map : (on : ℕ → Bool) (n g : ℕ) → g < n → opens_in (map on (range_with_len 0 n)) g ≡ on g
opens_map on n g l = get_or-map-range_with_len on 0 n g g false l (omega arith)

-- what a word opens, each of a rule's gates
in_gates : (on : ℕ → Bool) (n g : ℕ) → opens_in (map on (range_with_len 0 n)) g ≡ true → g < n
in_gates on n g e = omega (arith, opens_within (map on (range_with_len 0 n)) g e, length-map-range_with_len on 0 n)

-- ---- words that come before

-- two words are the same before a gate, or the one comes before the other there
abbrev SameOrBefore : List Bool → List Bool → ℕ → Type 0
SameOrBefore x u k = ((g : ℕ) → g < k → opens_in x g ≡ opens_in u g) ⊎ ComesBefore x u

one_more : (x u : List Bool) (k : ℕ) (b c : Bool) → opens_in x k ≡ b → opens_in u k ≡ c → (b ≡ true → c ≡ true)
    → ((g : ℕ) → g < k → opens_in x g ≡ opens_in u g) → SameOrBefore x u (suc k)
one_more x u k false true e f up same = inr (record { gate = k; same = same; closed = e; opened = f })
one_more x u k true false e f up same = absurd (cc (up refl))
one_more x u k true true e f up same = inl (λ g l. elim (cases_lt g k) [ inl s ↦ same g s | inr s ↦ let here : g ≡ k = omega arith in ap (opens_in x) here ∙ e ∙ sym f ∙ ap (opens_in u) (sym here) ])
one_more x u k false false e f up same = inl (λ g l. elim (cases_lt g k) [ inl s ↦ same g s | inr s ↦ let here : g ≡ k = omega arith in ap (opens_in x) here ∙ e ∙ sym f ∙ ap (opens_in u) (sym here) ])

up_to : (x v u : List Bool) (b : ComesBefore v u) → ((g : ℕ) → opens_in x g ≡ true → opens_in v g ≡ true) → (k : ℕ) → k ≤ b.gate → SameOrBefore x u k
up_to x v u b fewer zero l = inl (λ g s. absurd (omega arith))
up_to x v u b fewer (suc k) l = elim (up_to x v u b fewer k (omega arith)) [
  | inl same ↦ one_more x u k (opens_in x k) (opens_in u k) refl refl (λ e. sym (b.same k (omega arith)) ∙ fewer k e) same
  | inr before ↦ inr before
]

not_open : (b c : Bool) → (b ≡ true → c ≡ true) → c ≡ false → b ≡ false
not_open true c k e = absurd (cc (k refl))
not_open false c k e = refl

-- what opens no more than a word that comes before another comes before that one too
pub fewer_before : (x v u : List Bool) → ((g : ℕ) → opens_in x g ≡ true → opens_in v g ≡ true) → ComesBefore v u → ComesBefore x u
fewer_before x v u fewer b = elim (up_to x v u b fewer b.gate (omega arith)) [
  | inl same ↦ record { gate = b.gate; same = same; closed = not_open (opens_in x b.gate) (opens_in v b.gate) (fewer b.gate) b.closed; opened = b.opened }
  | inr before ↦ before
]

-- ---- values without a gate

-- bounds with the orders of one gate at 0
abbrev without : ℕ → (Order → Span) → Order → Span
without g bounds o = if is_gate g o.gate then record { lo = 0; hi = 0 } else bounds o

closed_runs_none : (b : Bool) (o : Order) (q : ℕ) → b ≡ false → IsWithin (gated_span (if b then Open else Closed) o) q → q ≤ 0
closed_runs_none true o q e w = absurd (cc)
closed_runs_none false o q e w = w.most

if_gate : (t : Bool) (q : ℕ) (s : Span) → (t ≡ true → q ≤ 0) → IsWithin s q → IsWithin (if t then record { lo = 0; hi = 0 } else s) q
if_gate true q s none h = record { least = omega arith; most = none refl }
if_gate false q s none h = h

-- with the orders of a closed gate at 0 an activation is within its bounds still
without_gate : (own : ℕ → Bool) (g : ℕ) (gate : Option ℕ) (o : Order) (q : ℕ) (s : Span) → own g ≡ false
    → IsWithin (span_of (λ h. if own h then Open else Closed) gate o) q → IsWithin s q
    → IsWithin (if is_gate g gate then record { lo = 0; hi = 0 } else s) q
without_gate own g None o q s e w h = h
without_gate own g (Some k) o q s e w h = if_gate (k == g) q s (λ t. closed_runs_none (own k) o q (ap own (same_number k g t) ∙ e) w) h

within_without : (m : Market) (a : Activation) (g : ℕ) (bounds : Order → Span) (flows : Border → FlowSpan) → IsFeasible m a → is_open m a g ≡ false
    → IsWithinSpans bounds flows m a → IsWithinSpans (without g bounds) flows m a
within_without m a g bounds flows f e w = record {
  orders = AllZip-both (λ (o : Order) (q : ℕ). IsWithin (own_bounds m a o) q) (λ (o : Order) (q : ℕ). IsWithin (bounds o) q) (λ (o : Order) (q : ℕ). IsWithin (without g bounds o) q)
      (λ o q own h. without_gate (is_open m a) g o.gate o q (bounds o) e own h) m.orders a.mw f.orders w.orders;
  borders = w.borders;
  balance = w.balance;
}

pub nothing : (gap : ℤ) → int_max (gap *ℤ pos 0) (gap *ℤ pos 0) ≡ pos 0
nothing gap = omega (arith, ints, clamps)

without_best : (t : Bool) (o : Order) (ps : List Cents) (s : Span)
    → best_trade o.side o.price.0 (price_at ps o.zone) (if t then record { lo = 0; hi = 0 } else s) +ℤ (if t then best_trade o.side o.price.0 (price_at ps o.zone) s else pos 0)
    ≡ best_trade o.side o.price.0 (price_at ps o.zone) s
without_best true o ps s = omega (arith, ints, clamps, nothing (gain_per_mw o.side o.price.0 (price_at ps o.zone)))
without_best false o ps s = omega (arith, ints)

sum_without : (g : ℕ) (bounds : Order → Span) (ps : List Cents) (os : List Order)
    → int_sum (best_order (without g bounds) ps) os +ℤ int_sum (best_of_gate g bounds ps) os ≡ int_sum (best_order bounds ps) os
sum_without g bounds ps [] = refl
sum_without g bounds ps (o ∷ os) = omega (arith, ints, without_best (is_gate g o.gate) o ps (bounds o), sum_without g bounds ps os)

-- an activation with a closed gate is worse than the dual value by the gate's gain
closed_loses : (m : Market) (ds : List Decision) (a : Activation) (us : List Cents) (ps : List Cents) (g : ℕ) → IsValid m → IsReached m ds a us → is_open m a g ≡ false
    → (welfare_of m a +ℤ gain_of (bounds_in m ds) m ps g) ≤ℤ dual_of m ds ps
closed_loses m ds a us ps g v r shut =
    omega (
      arith,
      ints,
      sum_without g (bounds_in m ds) ps m.orders,
      weak_duality_within (without g (bounds_in m ds)) (flows_in m ds) m a ps v
          (within_without m a g (bounds_in m ds) (flows_in m ds) r.feasible shut (within_bounds m ds a us r)),
    )

-- ---- early bounds

-- what reaches the dual value opens each gate that is needed
needed_is_open : (m : Market) (ds : List Decision) (a : Activation) (us : List Cents) (ps : List Cents) (g : ℕ) → IsValid m → IsReached m ds a us → dual_of m ds ps ≤ℤ welfare_of m a
    → is_needed m ds ps g ≡ true → is_open m a g ≡ true
needed_is_open m ds a us ps g v r top e = elim (or_either (opens m ds g) (lt_z (pos 0) (gain_of (bounds_in m ds) m ps g)) e) [
  | inl said ↦ all_opened m ds a us r g said
  | inr gains ↦ by_test (is_open m a g) (λ o. o)
      (λ shut. absurd (omega (arith, ints, closed_loses m ds a us ps g v r shut, less (pos 0) (gain_of (bounds_in m ds) m ps g) gains, top)))
]

needed_is_fewer : (m : Market) (ds : List Decision) (a : Activation) (us : List Cents) (ps : List Cents) → IsValid m → IsReached m ds a us → dual_of m ds ps ≤ℤ welfare_of m a
    → (g : ℕ) → opens_in (needed_word m ds ps) g ≡ true → opens_in (gate_word_of m a) g ≡ true
needed_is_fewer m ds a us ps v r top g e =
    let there : g < length m.gates = in_gates (is_needed m ds ps) (length m.gates) g e in
    opens_map (is_open m a) (length m.gates) g there ∙ needed_is_open m ds a us ps g v r top (sym (opens_map (is_needed m ds ps) (length m.gates) g there) ∙ e)

same_value : (x y z : ℤ) → x ≤ℤ y → y ≤ℤ z → z ≤ℤ x → y ≡ z
same_value x y z a b c = omega (arith, ints)

-- where a bound holds for a gate word, what comes before that word is worse
pub bound_is_early : (m : Market) (w : ℤ) (u : List Bool) (ds : List Decision) (ps : List Cents) (a : Activation) (us : List Cents) → IsValid m
    → IsBoundFor m w u ds ps → IsReached m ds a us → ComesBefore (gate_word_of m a) u → welfare_of m a ≤ℤ (w -ℤ pos 1)
bound_is_early m w u ds ps a us v h r b =
    by_lt_z (welfare_of m a) w (λ l. omega (arith, ints, l)) (λ top.
    let most : welfare_of m a ≤ℤ dual_of m ds ps = weak_duality_within (bounds_in m ds) (flows_in m ds) m a ps v (within_bounds m ds a us r) in
    let reached : dual_of m ds ps ≤ℤ welfare_of m a = omega (arith, ints, h.value, top) in
    absurd (h.early (same_value (welfare_of m a) (dual_of m ds ps) w most h.value top)
    (fewer_before (needed_word m ds ps) (gate_word_of m a) u (needed_is_fewer m ds a us ps v r reached) b)))

-- ---- leaves

-- nothing that the state reaches is better than the cutoff
pub leaf_bounds : (m : Market) (w : ℤ) (u : List Bool) (ds : List Decision) (leaf : ReachLeaf) (a : Activation) (us : List Cents) → IsValid m
    → ReachLeafHolds m w u ds leaf → IsReached m ds a us → welfare_of m a ≤ℤ w
leaf_bounds m w u ds Void a us v h r = absurd (void_has_none m ds a us r h)
leaf_bounds m w u ds (Bound ps) a us v h r = omega (arith, ints, weak_duality_within (bounds_in m ds) (flows_in m ds) m a ps.cents v (within_bounds m ds a us r), h.1.value)
leaf_bounds m w u ds (Cut cut) a us v h r = absurd (cut_has_none (bounds_in m ds) (flows_in m ds) m a cut.side cut.zones v (within_bounds m ds a us r) h.1.side)

-- and what comes before the gate word is worse
pub leaf_is_early : (m : Market) (w : ℤ) (u : List Bool) (ds : List Decision) (leaf : ReachLeaf) (a : Activation) (us : List Cents) → IsValid m
    → ReachLeafHolds m w u ds leaf → IsReached m ds a us → ComesBefore (gate_word_of m a) u → welfare_of m a ≤ℤ (w -ℤ pos 1)
leaf_is_early m w u ds Void a us v h r b = absurd (void_has_none m ds a us r h)
leaf_is_early m w u ds (Bound ps) a us v h r b = bound_is_early m w u ds ps.cents a us v h.1 r b
leaf_is_early m w u ds (Cut cut) a us v h r b = absurd (cut_has_none (bounds_in m ds) (flows_in m ds) m a cut.side cut.zones v (within_bounds m ds a us r) h.1.side)
