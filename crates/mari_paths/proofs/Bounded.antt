-- Orders' slots at a prefix.
use Rattle.std.proofs.Common.{◌≡◌, ◌≢◌, ◌⊎◌, inl, inr, false, ℕ, ◌+◌, ◌<◌, ◌≤◌, List, length, take, Option, Some, None, arith, refl, sym, ap, ◌∙◌, subst, get_or}
use Rattle.std.specs.Prelude.{is_some}
use Rattle.std.specs.List.{Contains}
use Rattle.std.proofs.lemmas.Bool.{cases_Bool, cases_eq, false≢true}
use Rattle.std.proofs.lemmas.List.{ext_get_or, get_or-map, get_or-take, get_or_default, length-map, length-take-le}
use Rattle.mari_market.specs.declared.market.Market.{Market}
use Rattle.mari_market.specs.declared.market.Order.{Order}
use Rattle.mari_market.specs.declared.prefix.Prefix.{Prefix}
use Rattle.mari_market.specs.Bounds.{Span, span_of}
use Rattle.mari_market.specs.Market.{GateFits, IsValid}
use Rattle.mari_market.specs.Prefix.{word_of, state_of, bounds_at}
use Rattle.mari_gates.proofs.GateTable.{bounds_in_order}
use Rattle.mari_network.specs.declared.slots.Slot.{Slot}
use Rattle.mari_network.specs.Slots.{no_slot, slot_at}
use Rattle.mari_network.specs.Orders.{no_order, slot_of, slots_of, AreOrderSlots}
use Rattle.mari_network.proofs.Fits.{fine_spans, order_slots_fine}
use Rattle.mari_paths.specs.Starts.{order_at, FitsOrder}
use Rattle.mari_paths.specs.Warm.{plain_span, AreGated, IsPlain}
use Rattle.mari_paths.proofs.Starts.{fits_order}

abbrev pub slot_in : Market → Prefix → ℕ → Slot
slot_in m x k = slot_of (bounds_at m x (order_at m k)) (order_at m k)

slots_at : (spans : Order → Span) (m : Market) (k : ℕ) → k < length m.orders → slot_at (slots_of spans m.orders) k ≡ slot_of (spans (order_at m k)) (order_at m k)
slots_at spans m k l = get_or-map (λ (o : Order). slot_of (spans o) o) m.orders k no_order no_slot l

-- an order can run in its slot
pub order_fits : (m : Market) (x : Prefix) (k : ℕ) → IsValid m → k < length m.orders → FitsOrder m.zones (order_at m k) (slot_in m x k)
order_fits m x k v l =
    let all : AreOrderSlots m.zones m.orders (slots_of (bounds_at m x) m.orders) =
    order_slots_fine (bounds_at m x) m.zones (length m.gates) m.orders v.orders (fine_spans (bounds_at m x) m.orders (bounds_in_order m x _ _ v refl refl)) in
    subst (λ (s : Slot). FitsOrder m.zones (order_at m k) s) (slots_at (bounds_at m x) m k l) (fits_order m (slots_of (bounds_at m x) m.orders) k all l)

-- slots that are the orders' place by place
pub slots_are : (spans : Order → Span) (m : Market) (slots : List Slot) → length m.orders ≤ length slots
    → ((k : ℕ) → k < length m.orders → slot_at slots k ≡ slot_of (spans (order_at m k)) (order_at m k))
    → take (length m.orders) slots ≡ slots_of spans m.orders
slots_are spans m slots few each =
    let long : length (take (length m.orders) slots) ≡ length m.orders = length-take-le (length m.orders) slots few in
    ext_get_or no_slot (take (length m.orders) slots) (slots_of spans m.orders) (long ∙ sym (length-map m.orders (λ (o : Order). slot_of (spans o) o)))
    (λ k l. let there : k < length m.orders = omega (arith, long, l) in get_or-take (length m.orders) slots k no_slot there ∙ each k there ∙ sym (slots_at spans m k there))

-- and place by place where they are the orders'
pub slot_is : (spans : Order → Span) (m : Market) (slots : List Slot) (k : ℕ) → k < length m.orders → take (length m.orders) slots ≡ slots_of spans m.orders
    → slot_at slots k ≡ slot_of (spans (order_at m k)) (order_at m k)
slot_is spans m slots k l e = sym (get_or-take (length m.orders) slots k no_slot l) ∙ ap (λ (ss : List Slot). slot_at ss k) e ∙ slots_at spans m k l

-- the slot that is made of an order's bounds
pub slot_made : (m : Market) (x : Prefix) (os : List Order) (p lo hi : ℕ) (span : Span) (slot : Slot) → os ≡ m.orders → span ≡ bounds_at m x (get_or os p no_order) → lo ≡ span.lo → hi ≡ span.hi
    → ((s : Span) → s.lo ≡ lo → s.hi ≡ hi → slot ≡ slot_of s (get_or os p no_order)) → slot ≡ slot_in m x p
slot_made m x os p lo hi span slot e bounds low high made =
    subst (λ (rs : List Order). slot ≡ slot_of (bounds_at m x (get_or rs p no_order)) (get_or rs p no_order)) e
    (made (bounds_at m x (get_or os p no_order)) (sym (low ∙ ap (λ (s : Span). s.lo) bounds)) (sym (high ∙ ap (λ (s : Span). s.hi) bounds)))

pub gate_fits : (m : Market) (os : List Order) (p : ℕ) → IsValid m → os ≡ m.orders → p < length m.orders → GateFits (length m.gates) (get_or os p no_order)
gate_fits m os p v e l = subst (λ (rs : List Order). GateFits (length m.gates) (get_or rs p no_order)) (sym e) (v.orders p no_order l).gate

-- an order without a gate has the same bounds at every prefix
pub plain_bounds : (m : Market) (x : Prefix) (o : Order) → is_some o.gate ≡ false → bounds_at m x o ≡ plain_span o
plain_bounds m x o e = by_gate o.gate e
  where
    by_gate : (g : Option ℕ) → is_some g ≡ false → span_of (state_of m.gates (word_of x)) g o ≡ plain_span o
    by_gate None h = refl
    by_gate (Some g) h = absurd (cc)

-- a place that is gone over from the i-th on
abbrev pub IsAhead : List ℕ → (i k : ℕ) → Type 0
IsAhead places i k = (j : ℕ) × (i ≤ j) × (j < length places) × (get_or places j 0 ≡ k)

pub all_ahead : (places : List ℕ) (k : ℕ) → Contains places k → IsAhead places 0 k
all_ahead places k h = (h.0, omega arith, h.1, get_or_default places h.0 0 k h.1 ∙ h.2)

-- one place is gone over
pub still_ahead : (places : List ℕ) (i k : ℕ) → k ≢ get_or places i 0 → IsAhead places i k → IsAhead places (i + 1) k
still_ahead places i k other h =
    let apart : h.0 ≢ i = λ e. other (sym h.3 ∙ ap (λ (j : ℕ). get_or places j 0) e) in
    (h.0, omega (arith, h.1, apart), h.2, h.3)

-- a plain order is at none of the places of the orders of gates
pub not_gated : (m : Market) (places : List ℕ) (k : ℕ) → AreGated m places → IsPlain m k → Contains places k → ⊥
not_gated m places k gated plain h =
    let only = gated.only h.0 k h.1 in
    false≢true (sym plain.1 ∙ ap (λ (j : ℕ). is_some (order_at m j).gate) (sym h.2) ∙ only)

-- a plain order, or one whose place is among the first i
abbrev pub IsTaken : Market → List ℕ → (i k : ℕ) → Type 0
IsTaken m places i k = IsPlain m k ⊎ ((j : ℕ) × (j < i) × (get_or places j 0 ≡ k))

pub take_one : (m : Market) (places : List ℕ) (i k : ℕ) → IsTaken m places (i + 1) k → IsTaken m places i k ⊎ (k ≡ get_or places i 0)
take_one m places i k h = elim h [
  | inl plain ↦ inl (inl plain)
  | inr j ↦ elim (cases_eq j.0 i) [
    | inl e ↦ inr (sym j.2 ∙ ap (λ (n : ℕ). get_or places n 0) e)
    | inr other ↦ inl (inr (j.0, omega (arith, j.1, other), j.2))
  ]
]

pub still_taken : (m : Market) (places : List ℕ) (i k : ℕ) → IsTaken m places i k → IsTaken m places (i + 1) k
still_taken m places i k h = elim h [
  | inl plain ↦ inl plain
  | inr j ↦ inr (j.0, omega (arith, j.1), j.2)
]

-- with the orders of gates all orders are taken, and nothing else
pub all_taken : (m : Market) (places : List ℕ) (i k : ℕ) → AreGated m places → length places ≤ i → k < length m.orders → IsTaken m places i k
all_taken m places i k gated all l = elim (cases_Bool (is_some (order_at m k).gate)) [
  | inl e ↦ let h = gated.all k l e in inr (h.0, omega (arith, h.1, all), get_or_default places h.0 0 k h.1 ∙ h.2)
  | inr e ↦ inl (l, e)
]

pub taken_there : (m : Market) (places : List ℕ) (i k : ℕ) → AreGated m places → i ≤ length places → IsTaken m places i k → k < length m.orders
taken_there m places i k gated few h = elim h [
  | inl plain ↦ plain.0
  | inr j ↦ subst (λ (n : ℕ). n < length m.orders) j.2 (gated.there j.0 0 (omega (arith, j.1, few)))
]
