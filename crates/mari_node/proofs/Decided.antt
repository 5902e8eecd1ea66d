-- At a word that decides every gate, what lies within its bounds opens exactly the gates that the word opens.
use Rattle.std.proofs.Common.{◌≡◌, ◌==◌, ◌&&◌, if◌then◌else◌, Bool, true, false, ℕ, zero, suc, ◌+◌, ◌<◌, ◌≤◌, List, [], ◌∷◌, Option, Some, None, length, map, arith, refl, sym, ap, ◌∙◌, subst, inl, inr}
use Rattle.std.proofs.lemmas.Bool.Decides.{nat_tests}
use Rattle.std.proofs.lemmas.Bool.{cases_lt, eqb-true, or_from, or_left, or_right}
use Rattle.std.proofs.lemmas.List.{get_or_past}
use Rattle.std.proofs.lemmas.List.Elements.{All-head, All-tail}
use Rattle.std.specs.Prelude.{nat_lt, slice_get, slice_index_or, MatchOption}
use Rattle.std.specs.List.{All, AllZip, range_with_len}
use Rattle.mari_units.specs.declared.Cents.{Cents}
use Rattle.mari_market.specs.declared.market.Order.{Order}
use Rattle.mari_market.specs.declared.market.GateInfo.{GateInfo}
use Rattle.mari_market.specs.declared.market.Market.{Market}
use Rattle.mari_market.specs.declared.activation.Activation.{Activation}
use Rattle.mari_market.specs.Activation.{is_gate, runs_gate, is_open, gate_word_of}
use Rattle.mari_market.specs.Bounds.{Span, IsWithin, GateState, gated_span, span_of, span_in, own_bounds}
use Rattle.mari_market.specs.Bounds.GateState.{Open, Closed}
use Rattle.mari_market.specs.Dual.{IsTightTrade, IsTightOrder, IsTight}
use Rattle.mari_market.specs.Gates.{KeepsGateRules}
use Rattle.mari_market.specs.Market.{IsValid, IsValidOrder}
use Rattle.mari_market.specs.Optimal.{IsFeasible}
use Rattle.mari_market.specs.Prefix.{opens_in, undecided, decided, state_within, state_of, bounds_of_word, IsFeasibleWord}
use Rattle.mari_market.specs.Price.{price_at}
use Rattle.mari_market.specs.Relaxation.{IsWithinBounds}
use Rattle.mari_market.proofs.Sums.{AllZip-both, AllZip-with}
use Rattle.mari_market.proofs.Conflicts.{none_past}

-- ---- states of decided gates

decided_as : (b : Bool) (s : GateState) → decided (Some b) s ≡ (if b then Open else Closed)
decided_as true s = refl
decided_as false s = refl

state_decided : (n : ℕ) (gates : List GateInfo) (word : List Bool) (g : ℕ) (b : Bool) → 0 < n → slice_get word g ≡ Some b → state_within n gates word g ≡ (if b then Open else Closed)
state_decided zero gates word g b l e = absurd (omega arith)
state_decided (suc n) gates word g b l e =
    let implied = undecided gates word (state_within n gates word) g in
    ap (λ (o : Option Bool). decided o implied) e ∙ decided_as b implied

pub word_at : (word : List Bool) (g : ℕ) → g < length word → slice_get word g ≡ Some (opens_in word g)
word_at [] g l = absurd (omega arith)
word_at (b ∷ bs) zero l = refl
word_at (b ∷ bs) (suc g) l = word_at bs g (omega arith)

-- ---- which gates run

and_shut : (b t : Bool) → (b ≡ true → t ≡ false) → (b && t) ≡ false
and_shut true t h = h refl
and_shut false t h = refl

idle : (q : ℕ) → q ≤ 0 → nat_lt 0 q ≡ false
idle q l = grind (arith, nat_tests)

pub busy : (q : ℕ) → 1 ≤ q → nat_lt 0 q ≡ true
busy q l = grind (arith, nat_tests)

pub its_gate : (g : ℕ) → (g == g) ≡ true
its_gate g = grind (arith, nat_tests)

-- an order of a closed gate doesn't run
closed_idle : (state : ℕ → GateState) (gate : Option ℕ) (g : ℕ) (o : Order) (q : ℕ) → IsWithin (span_of state gate o) q → state g ≡ Closed → (is_gate g gate && nat_lt 0 q) ≡ false
closed_idle state None g o q w e = refl
closed_idle state (Some h) g o q w e = and_shut (h == g) (nat_lt 0 q) (λ same.
    let shut : state h ≡ Closed = ap state (eqb-true h g same) ∙ e in
    let none : IsWithin (gated_span Closed o) q = subst (λ (s : GateState). IsWithin (gated_span s o) q) shut w in
    idle q none.most)

closed_runs : (state : ℕ → GateState) (g : ℕ) (os : List Order) (qs : List ℕ) → AllZip (λ o q. IsWithin (span_in state o) q) os qs → state g ≡ Closed → runs_gate g os qs ≡ false
closed_runs state g [] qs w e = refl
closed_runs state g (o ∷ os) [] w e = refl
closed_runs state g (o ∷ os) (q ∷ qs) w e = or_from (is_gate g o.gate && nat_lt 0 q) (runs_gate g os qs) (closed_idle state o.gate g o q w.0 e) (closed_runs state g os qs w.1 e)

-- an order of an open gate runs
open_busy : (n : ℕ) (state : ℕ → GateState) (gate : Option ℕ) (g : ℕ) (o : Order) (q : ℕ) → gate ≡ Some g
    → MatchOption gate (o.least ≡ 0) (λ h. (h < n) × (1 ≤ o.least)) → IsWithin (span_of state gate o) q
    → state g ≡ Open → (is_gate g gate && nat_lt 0 q) ≡ true
open_busy n state None g o q s v w e = absurd (cc)
open_busy n state (Some h) g o q s v w e =
    let same : h ≡ g = cc in
    let opened : state h ≡ Open = ap state same ∙ e in
    let some : IsWithin (gated_span Open o) q = subst (λ (t : GateState). IsWithin (gated_span t o) q) opened w in
    let one : 1 ≤ q = omega (arith, some.least, v.1) in
    let test : (h == g) ≡ true = ap (λ (k : ℕ). k == g) same ∙ its_gate g in
    ap (λ (b : Bool). b && nat_lt 0 q) test ∙ busy q one

open_runs : (z n : ℕ) (state : ℕ → GateState) (g : ℕ) (os : List Order) (qs : List ℕ) (k : ℕ) (x : Order)
    → All (IsValidOrder z n) os → AllZip (λ o q. IsWithin (span_in state o) q) os qs → k < length os
    → slice_index_or os k x ≡ x → x.gate ≡ Some g → state g ≡ Open → runs_gate g os qs ≡ true
open_runs z n state g [] qs k x v w l at its e = absurd (omega arith)
open_runs z n state g (o ∷ os) [] k x v w l at its e = absurd w
open_runs z n state g (o ∷ os) (q ∷ qs) zero x v w l at its e =
    let first = All-head (IsValidOrder z n) o os v in
    or_left (is_gate g o.gate && nat_lt 0 q) (runs_gate g os qs) (open_busy n state o.gate g o q (ap (λ (y : Order). y.gate) at ∙ its) first.gate w.0 e)
open_runs z n state g (o ∷ os) (q ∷ qs) (suc k) x v w l at its e =
    or_right (is_gate g o.gate && nat_lt 0 q) (runs_gate g os qs) (open_runs z n state g os qs k x (All-tail (IsValidOrder z n) o os v) w.1 (omega arith) at its e)

runs_as : (m : Market) (a : Activation) (word : List Bool) (g : ℕ) (b : Bool) → IsValid m
    → IsWithinBounds (bounds_of_word m word) m a → g < length m.gates
    → state_of m.gates word g ≡ (if b then Open else Closed) → is_open m a g ≡ b
runs_as m a word g true v w l e =
    let used = (v.gates g l).used in
    open_runs m.zones (length m.gates) (state_of m.gates word) g m.orders a.mw used.0 used.1 v.orders w.orders used.2 used.3 used.4 e
runs_as m a word g false v w l e = closed_runs (state_of m.gates word) g m.orders a.mw w.orders e

state_as : (m : Market) (word : List Bool) (g : ℕ) → length word ≡ length m.gates → g < length m.gates → state_of m.gates word g ≡ (if opens_in word g then Open else Closed)
state_as m word g full l = state_decided (length m.gates) m.gates word g (opens_in word g) (omega arith) (word_at word g (omega arith))

-- exactly the gates that the word opens are open
pub opens_as_word : (m : Market) (a : Activation) (word : List Bool) → IsValid m → length word ≡ length m.gates → IsWithinBounds (bounds_of_word m word) m a → (g : ℕ) → is_open m a g ≡ opens_in word g
opens_as_word m a word v full w g = elim (cases_lt g (length m.gates)) [
  | inl l ↦ runs_as m a word g (opens_in word g) v w l (state_as m word g full l)
  | inr l ↦ none_past m.zones (length m.gates) g m.orders a.mw v.orders l ∙ sym (get_or_past word g false (omega arith))
]

-- ---- what is so of the activation

word_read : (k : ℕ) (word : List Bool) (opens : ℕ → Bool) → ((i : ℕ) → i < length word → opens (k + i) ≡ opens_in word i) → map opens (range_with_len k (length word)) ≡ word
word_read k [] opens h = refl
word_read k (b ∷ bs) opens h =
    let first : opens k ≡ b = ap opens (omega arith) ∙ h 0 (omega arith) in
    let rest : map opens (range_with_len (k + 1) (length bs)) ≡ bs = word_read (k + 1) bs opens (λ i l. ap opens (omega arith) ∙ h (suc i) (omega arith)) in
    ap (λ (c : Bool). c ∷ map opens (range_with_len (k + 1) (length bs))) first ∙ ap (λ (cs : List Bool). b ∷ cs) rest

-- its gate word is the word
pub has_word : (m : Market) (a : Activation) (word : List Bool) → IsValid m → length word ≡ length m.gates → IsWithinBounds (bounds_of_word m word) m a → gate_word_of m a ≡ word
has_word m a word v full w =
    ap (λ (n : ℕ). map (is_open m a) (range_with_len 0 n)) (sym full)
    ∙ word_read 0 word (is_open m a) (λ i l. ap (is_open m a) (omega arith) ∙ opens_as_word m a word v full w i)

keeps_as : (m : Market) (opens other : ℕ → Bool) → ((g : ℕ) → opens g ≡ other g) → KeepsGateRules m.gates other → KeepsGateRules m.gates opens
keeps_as m opens other same k = record {
  parents = λ g h e p. same h ∙ k.parents g h (sym (same g) ∙ e) p;
  groups = λ g h j e f p q. k.groups g h j (sym (same g) ∙ e) (sym (same h) ∙ f) p q;
}

same_span : (n : ℕ) (s t : ℕ → GateState) (gate : Option ℕ) (o : Order)
    → MatchOption gate (o.least ≡ 0) (λ h. (h < n) × (1 ≤ o.least)) → ((g : ℕ) → g < n → s g ≡ t g)
    → span_of s gate o ≡ span_of t gate o
same_span n s t None o v h = refl
same_span n s t (Some g) o v h = ap (λ (x : GateState). gated_span x o) (h g v.0)

-- the word's bounds of an order of the market are the activation's own
own_span : (m : Market) (a : Activation) (word : List Bool) (o : Order) → IsValid m → length word ≡ length m.gates
    → IsWithinBounds (bounds_of_word m word) m a → IsValidOrder m.zones (length m.gates) o
    → bounds_of_word m word o ≡ own_bounds m a o
own_span m a word o v full w valid = same_span (length m.gates) (state_of m.gates word) (λ g. if is_open m a g then Open else Closed) o.gate o valid.gate
    (λ g l. state_as m word g full l ∙ ap (λ (b : Bool). if b then Open else Closed) (sym (opens_as_word m a word v full w g)))

-- it is feasible
pub decided_feasible : (m : Market) (a : Activation) (word : List Bool) → IsValid m → IsFeasibleWord m.gates word
    → length word ≡ length m.gates → IsWithinBounds (bounds_of_word m word) m a → IsFeasible m a
decided_feasible m a word v feasible full w = record {
  orders =
      AllZip-both (λ o q. IsValidOrder m.zones (length m.gates) o × IsWithin (bounds_of_word m word o) q)
      (λ o q. IsValidOrder m.zones (length m.gates) o × IsWithin (bounds_of_word m word o) q) (λ o q. IsWithin (own_bounds m a o) q)
      (λ o q h _. subst (λ (s : Span). IsWithin s q) (own_span m a word o v full w h.0) h.1) m.orders a.mw (AllZip-with _ _ m.orders a.mw v.orders w.orders)
      (AllZip-with _ _ m.orders a.mw v.orders w.orders);
  gates = keeps_as m (is_open m a) (opens_in word) (opens_as_word m a word v full w) feasible.rules;
  borders = w.borders;
  balance = w.balance;
}

-- and potentials that are tight within the word's bounds are so within its own
pub decided_tight : (m : Market) (a : Activation) (word : List Bool) (ps : List Cents) → IsValid m
    → length word ≡ length m.gates → IsWithinBounds (bounds_of_word m word) m a
    → IsTight (bounds_of_word m word) m a ps → IsTight (own_bounds m a) m a ps
decided_tight m a word ps v full w tight = record {
  orders =
      AllZip-both (λ o q. IsValidOrder m.zones (length m.gates) o × IsTightOrder (bounds_of_word m word) ps o q)
      (λ o q. IsValidOrder m.zones (length m.gates) o × IsTightOrder (bounds_of_word m word) ps o q) (IsTightOrder (own_bounds m a) ps)
      (λ o q h _. subst (λ (s : Span). IsTightTrade o.side o.price.0 (price_at ps o.zone) s q) (own_span m a word o v full w h.0) h.1) m.orders a.mw
      (AllZip-with _ _ m.orders a.mw v.orders tight.orders) (AllZip-with _ _ m.orders a.mw v.orders tight.orders);
  borders = tight.borders;
}
