-- The zones that stand for gates, and for groups.
use Rattle.std.proofs.Common.{◌≡◌, ℕ, ◌+◌, ◌<◌, ◌≤◌, Bool, true, false, List, [], ◌∷◌, ◌++◌, length, filter, Option, Some, None, set, get_or, slice_index, refl, sym, ap, ◌∙◌, subst, arith, inl, inr}
use Rattle.std.specs.Prelude.{Any, Contains, slice_get, slice_index_or}
use Rattle.std.specs.List.{All, range_with_len}
use Rattle.std.proofs.lemmas.Bool.{cases_eq, eq-eqb, eqb-true}
use Rattle.std.proofs.Math.Seq.{get_or-append_seam}
use Rattle.std.proofs.lemmas.List.{get_or-set_other, get_or-set_same, get_or_append_left, get_or_default, length-append, length-set}
use Rattle.std.proofs.lemmas.List.Elements.{All-contains_itself, All-filter, All-head, All-tail}
use Rattle.std.proofs.lemmas.List.Folds.{Any-from_list_any, list_any-from_Any}
use Rattle.std.proofs.lemmas.Option.{none-some, option_and_then_some, same_Some, slice_get_within}
use Rattle.mari_market.specs.declared.market.GateInfo.{GateInfo}
use Rattle.mari_market.specs.declared.market.Market.{Market}
use Rattle.mari_market.specs.declared.market.Order.{Order}
use Rattle.mari_market.specs.Activation.{is_gate}
use Rattle.mari_market.specs.Gates.{group_of}
use Rattle.mari_market.specs.Market.{IsValid}
use Rattle.mari_islands.specs.Islands.{AreBound, AreFirstZones, HasGate, has_first}
use Rattle.mari_islands.specs.Islands.AreBound.{same_gate, same_group}
use Rattle.mari_islands.specs.Part.{gates_in, is_gate_of, is_order_in, orders_in}
use Rattle.mari_islands.specs.Uniting.{AreHomes, AreMates, KeepsMates}
use Rattle.mari_islands.proofs.Bound.{has_gate, islands_split, one_gate}
use Rattle.mari_islands.proofs.Inside.{gate_named, names_gate}
use Rattle.mari_islands.proofs.Numbers.{any_from_contains, contains_filter, kept_contains, range_below}
use Rattle.mari_islands.proofs.Uniting.{no_order}

-- ---- gates

-- for each gate of the first `n` orders, `homes` has a zone that has an order of the gate
pub record AreHomesOf (m : Market) (n : ℕ) (homes : List ℕ) : Type 0 where
  pub one_each : length homes ≡ length m.gates
  pub found : (k g : ℕ) → k < n → (get_or m.orders k no_order).gate ≡ Some g → HasGate m (slice_index homes g) g

module _ (m : Market) (n : ℕ) (homes : List ℕ) (h : AreHomesOf m n homes) where
  pub homes_same : (get_or m.orders n no_order).gate ≡ None → AreHomesOf m (n + 1) homes
  homes_same e = record {
    one_each = h.one_each;
    found = λ k g l is. elim (cases_eq k n) [
      | inl same ↦ absurd (none-some g (sym e ∙ sym (ap (λ i. (get_or m.orders i no_order).gate) same) ∙ is))
      | inr other ↦ h.found k g (omega (arith, l, other)) is
    ];
  }

  pub homes_more : n < length m.orders → (gate : ℕ) → gate < length m.gates → (get_or m.orders n no_order).gate ≡ Some gate → AreHomesOf m (n + 1) (set homes gate (get_or m.orders n no_order).zone)
  homes_more l gate below e =
      let o : Order = get_or m.orders n no_order in
      let news : List ℕ = set homes gate o.zone in
      let here : slice_index news gate ≡ o.zone = get_or-set_same homes gate o.zone 0 (omega (arith, below, h.one_each)) in
      let own : HasGate m o.zone gate = has_gate m o gate (All-contains_itself m.orders n no_order l) e in
      record {
        one_each = length-set homes gate o.zone ∙ h.one_each;
        found = λ k g less is. elim (cases_eq g gate) [
          | inl same ↦ subst (λ (i : ℕ). HasGate m (slice_index news i) i) (sym same) (subst (λ (z : ℕ). HasGate m z gate) (sym here) own)
          | inr other ↦ subst (λ (z : ℕ). HasGate m z g) (sym (get_or-set_other homes gate g o.zone 0 other)) (elim (cases_eq k n) [
            | inl same ↦ absurd (other (same_Some g gate (sym is ∙ ap (λ i. (get_or m.orders i no_order).gate) same ∙ e)))
            | inr apart ↦ h.found k g (omega (arith, less, apart)) is
          ])
        ];
      }

  pub homes_done : IsValid m → length m.orders ≤ n → AreHomes m homes
  homes_done v all = record {
    one_each = h.one_each;
    there = λ g l.
        let used = (v.gates g l).used in
        let is : get_or m.orders used.0 no_order ≡ used.1 = get_or_default m.orders used.0 no_order used.1 used.2 ∙ used.3 in
        h.found used.0 g (omega (arith, used.2, all)) (ap (λ (o : Order). o.gate) is ∙ used.4);
  }

-- ---- groups

-- what stands in for what is known of a gate that isn't there
abbrev pub no_info : GateInfo
no_info = record { group = None; parent = None }

-- so for the groups of the first `n` gates: `mates` has a zone for each of these gates, and `groups` keeps one for each
-- group
pub record AreMatesOf (m : Market) (n : ℕ) (groups : ℕ → Option ℕ) (mates : List ℕ) : Type 0 where
  pub long : length mates ≡ n
  pub bound : (g : ℕ) → g < n → (h : ℕ) × HasGate m (slice_index mates g) h × AreBound m.gates g h
  pub listed : (g k : ℕ) → g < n → group_of m.gates g ≡ Some k → groups k ≡ Some (slice_index mates g)
  pub sound : (k z : ℕ) → groups k ≡ Some z → (h : ℕ) × (group_of m.gates h ≡ Some k) × HasGate m z h

at_end : (xs : List ℕ) (n z : ℕ) → length xs ≡ n → slice_index (xs ++ z ∷ []) n ≡ z
at_end xs n z e = ap (slice_index (xs ++ z ∷ [])) (sym e) ∙ get_or-append_seam xs z [] 0

before_end : (xs : List ℕ) (n z k : ℕ) → length xs ≡ n → k < n → slice_index (xs ++ z ∷ []) k ≡ slice_index xs k
before_end xs n z k e l = get_or_append_left xs (z ∷ []) 0 k (omega (arith, e, l))

module _ (m : Market) (homes : List ℕ) (is : AreHomes m homes) (n : ℕ) (l : n < length m.gates) (old new : ℕ → Option ℕ) (mates : List ℕ) (zone : ℕ) (h : AreMatesOf m n old mates)
    (k : KeepsMates old new (group_of m.gates n) (slice_index homes n) zone) where
  own : HasGate m (slice_index homes n) n
  own = is.there n l

  sound : (q z : ℕ) → new q ≡ Some z → (g : ℕ) × (group_of m.gates g ≡ Some q) × HasGate m z g
  sound q z e = elim (k.others q z e) [
    | inl o ↦ h.sound q z o
    | inr o ↦ (n, o.0, subst (λ (y : ℕ). HasGate m y n) (sym o.1) own)
  ]

  bound : (group : Option ℕ) → group_of m.gates n ≡ group → (g : ℕ) × HasGate m zone g × AreBound m.gates n g
  bound None e = (n, subst (λ (y : ℕ). HasGate m y n) (sym (k.own e)) own, same_gate refl)
  bound (Some q) e = let s = sound q zone (k.kept q e) in (s.0, s.2, same_group q e s.1)

  pub mates_more : AreMatesOf m (n + 1) new (mates ++ zone ∷ [])
  mates_more = record {
    long = length-append mates (zone ∷ []) ∙ ap (λ i. i + 1) h.long;
    bound = λ g less. elim (cases_eq g n) [
      | inl same ↦ subst (λ (i : ℕ). (j : ℕ) × HasGate m (slice_index (mates ++ zone ∷ []) i) j × AreBound m.gates i j) (sym same)
          (let b = bound (group_of m.gates n) refl in (b.0, subst (λ (y : ℕ). HasGate m y b.0) (sym (at_end mates n zone h.long)) b.1, b.2))
      | inr other ↦ (let b = h.bound g (omega (arith, less, other)) in (b.0, subst (λ (y : ℕ). HasGate m y b.0) (sym (before_end mates n zone g h.long (omega (arith, less, other)))) b.1, b.2))
    ];
    listed = λ g q less e. elim (cases_eq g n) [
      | inl same ↦ k.kept q (ap (group_of m.gates) (sym same) ∙ e) ∙ ap Some (sym (at_end mates n zone h.long) ∙ ap (slice_index (mates ++ zone ∷ [])) (sym same))
      | inr other ↦ k.stay q (slice_index mates g) (h.listed g q (omega (arith, less, other)) e) ∙ ap Some (sym (before_end mates n zone g h.long (omega (arith, less, other))))
    ];
    sound = sound;
  }

-- a gate that is in a group is there
grouped_there : (gates : List GateInfo) (g k : ℕ) → group_of gates g ≡ Some k → g < length gates
grouped_there gates g k e = option_and_then_some (λ (info : GateInfo). info.group) (slice_get gates g) k e (λ info h t. slice_get_within gates g info h)

pub mates_done : (m : Market) (groups : ℕ → Option ℕ) (mates : List ℕ) → AreMatesOf m (length m.gates) groups mates → AreMates m mates
mates_done m groups mates h = record {
  one_each = h.long;
  bound = h.bound;
  same = λ g i k e f. same_Some (slice_index mates g) (slice_index mates i) (sym (h.listed g k (grouped_there m.gates g k e) e) ∙ h.listed i k (grouped_there m.gates i k f) f);
}

-- ---- the gates of an island

agree : (p q : ℕ → Bool) (xs : List ℕ) → All (λ x. p x ≡ q x) xs → filter p xs ≡ filter q xs
agree p q [] h = refl
agree p q (x ∷ xs) h =
    let here : p x ≡ q x = All-head (λ x. p x ≡ q x) x xs h in
    let rest : filter p xs ≡ filter q xs = agree p q xs (All-tail (λ x. p x ≡ q x) x xs h) in
    rw (here, rest) refl

both : (a b : Bool) → (a ≡ true → b ≡ true) → (b ≡ true → a ≡ true) → a ≡ b
both true b h k = sym (h refl)
both false true h k = k refl
both false false h k = refl

module _ (m : Market) (firsts homes : List ℕ) (v : IsValid m) (k : AreFirstZones m firsts) (h : AreHomes m homes) (f : ℕ) where
  abbrev own_orders : List Order
  own_orders = orders_in m (has_first firsts f)

  -- a gate that a zone of the island stands for has an order there, and the other way about
  used : (g : ℕ) → g < length m.gates → has_first firsts f (slice_index homes g) ≡ true → is_gate_of own_orders g ≡ true
  used g l t =
      let a = h.there g l in
      let o : Order = a.1 in
      let here : has_first firsts f o.zone ≡ true = subst (λ (z : ℕ). has_first firsts f z ≡ true) (sym a.4.0) t in
      let own : Contains own_orders o = contains_filter (is_order_in (has_first firsts f)) m.orders o (a.0, a.2, a.3) here in
      list_any-from_Any (λ (o : Order). is_gate g o.gate) own_orders (any_from_contains (λ (o : Order). is_gate g o.gate ≡ true) own_orders o own (names_gate g o.gate a.4.1))

  stood_for : (g : ℕ) → g < length m.gates → is_gate_of own_orders g ≡ true → has_first firsts f (slice_index homes g) ≡ true
  stood_for g l t =
      let a : Any (λ (o : Order). is_gate g o.gate ≡ true) own_orders = Any-from_list_any (λ (o : Order). is_gate g o.gate) own_orders t in
      let o : Order = a.1 in
      let kept = kept_contains (is_order_in (has_first firsts f)) m.orders o (a.0, a.2, a.3) in
      let own : HasGate m o.zone g = has_gate m o g kept.0 (gate_named g o.gate a.4) in
      let same : slice_index firsts (slice_index homes g) ≡ slice_index firsts o.zone = one_gate m (slice_index firsts) (islands_split m firsts v k) (slice_index homes g) o.zone g (h.there g l) own in
      eq-eqb (slice_index firsts (slice_index homes g)) f (same ∙ eqb-true (slice_index firsts o.zone) f kept.1)

  pub island_gates : filter (λ g. has_first firsts f (slice_index homes g)) (range_with_len 0 (length homes)) ≡ gates_in m (has_first firsts f)
  island_gates =
      let test : ℕ → Bool = λ g. has_first firsts f (slice_index homes g) in
      ap (λ n. filter test (range_with_len 0 n)) h.one_each
      ∙ agree test (is_gate_of own_orders) (range_with_len 0 (length m.gates)) (λ i d l.
      let g : ℕ = slice_index_or (range_with_len 0 (length m.gates)) i d in
      let below : g < length m.gates = range_below (length m.gates) i d l in
      both (test g) (is_gate_of own_orders g) (used g below) (stood_for g below))

pub gates_below : (m : Market) (inside : ℕ → Bool) → All (λ g. g < length m.gates) (gates_in m inside)
gates_below m inside = All-filter (is_gate_of (orders_in m inside)) (λ g. g < length m.gates) (range_with_len 0 (length m.gates)) (range_below (length m.gates))
