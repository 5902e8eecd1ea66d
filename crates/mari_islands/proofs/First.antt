-- First activations of the islands are together the first activation of the whole.
use Rattle.std.proofs.Common.{◌≡◌, ℕ, ◌<◌, true, false, ℤ, pos, ◌*ℤ◌, ◌≤ℤ◌, length, get_or, refl, sym, ap, ◌∙◌, subst, arith, inl, inr}
use Rattle.std.specs.List.{AllZip}
use Rattle.std.proofs.lemmas.Bool.{cases_Bool, cond-false, cond-true, eq-eqb, eqb-true}
use Rattle.std.proofs.lemmas.Int.{ints}
use Rattle.std.proofs.lemmas.List.{length-map}
use Rattle.std.proofs.lemmas.List.Elements.{All-contains}
use Rattle.std.proofs.lemmas.List.FromFn.{get_or-map-range_with_len}
use Rattle.mari_market.specs.declared.activation.Activation.{Activation}
use Rattle.mari_market.specs.declared.market.Market.{Market}
use Rattle.mari_market.specs.Activation.{HasLengths, gate_word_of, is_open}
use Rattle.mari_market.specs.First.{ComesBefore, IsFirst}
use Rattle.mari_market.specs.Market.{IsValid, IsValidOrder}
use Rattle.mari_market.specs.Optimal.{IsAdmissible, IsOptimal}
use Rattle.mari_market.specs.Prefix.{opens_in}
use Rattle.mari_market.proofs.Prefixes.{opens_within}
use Rattle.mari_market.proofs.Sizes.{as_many}
use Rattle.mari_market.proofs.Words.{length-gate_word_of}
use Rattle.mari_islands.specs.Part.{gate_among}
use Rattle.mari_islands.proofs.Consistent.{HasHeads, own_admissible, whole_admissible}
use Rattle.mari_islands.proofs.Feasible.{IsStill}
use Rattle.mari_islands.proofs.Inside.{IsGateAt, gate_at, gate_place, gates_of, gates_rise}
use Rattle.mari_islands.proofs.Bound.{Splits}
use Rattle.mari_islands.proofs.Open.{island_of, open_order, open_same, own_of}
use Rattle.mari_islands.proofs.Sums.{counts, is_head, sum_below-le, sum_below-tight, welfare_in, welfare_sum}
use Rattle.mari_islands.proofs.Whole.{InEach}

-- a gate is open in the gate word where it is open
word_opens : (m : Market) (a : Activation) (g : ℕ) → g < length m.gates → opens_in (gate_word_of m a) g ≡ is_open m a g
word_opens m a g l = get_or-map-range_with_len (is_open m a) 0 (length m.gates) g g false l (omega arith)

module _ (m : Market) (first : ℕ → ℕ) (v : IsValid m) (s : Splits m first) (heads : HasHeads m first) where
  -- ---- welfare

  abbrev Counted : Activation → ℕ → ℤ
  Counted a f = counts (is_head first) f *ℤ welfare_in m first v heads a f

  at_most : (a b : Activation) → InEach IsOptimal m first a → IsAdmissible m b → (f : ℕ) → f < m.zones → Counted b f ≤ℤ Counted a f
  at_most a b best h f l = elim (cases_Bool (is_head first f)) [
    | inl t ↦
        let one = cond-true (is_head first f) (pos 1) (pos 0) t in
        let same : first f ≡ f = eqb-true _ _ t in
        let own : IsOptimal (island_of m first f) (own_of m first f a) = subst (λ (g : ℕ). IsOptimal (island_of m first g) (own_of m first g a)) same (best f l) in
        counted_once (counts (is_head first) f) _ _ one (own.greatest (own_of m first f b) (own_admissible m first f v s b h))
    | inr t ↦ counted_none (counts (is_head first) f) _ _ (cond-false (is_head first f) (pos 1) (pos 0) t)
  ]
    where
      counted_once : (c x y : ℤ) → c ≡ pos 1 → x ≤ℤ y → (c *ℤ x) ≤ℤ (c *ℤ y)
      counted_once c x y e h = rw e (omega (arith, ints, h))

      counted_none : (c x y : ℤ) → c ≡ pos 0 → (c *ℤ x) ≤ℤ (c *ℤ y)
      counted_none c x y e = rw e (omega (arith, ints))

  pub whole_optimal : (a : Activation) → IsAdmissible m a → InEach IsOptimal m first a → IsOptimal m a
  whole_optimal a h best = record {
    admissible = h;
    greatest = λ b k. omega (
      arith,
      ints,
      welfare_sum m first v heads a (as_many m a h.feasible),
      welfare_sum m first v heads b (as_many m b k.feasible),
      sum_below-le m.zones (Counted b) (Counted a) (at_most a b best k),
    );
  }

  -- another optimal activation is optimal in each island
  same_in_each : (a b : Activation) → IsAdmissible m a → InEach IsOptimal m first a → IsOptimal m b → InEach IsOptimal m first b
  same_in_each a b h best k z l =
      let f : ℕ = first z in
      let more = k.greatest a h in
      let tight = sum_below-tight m.zones (Counted b) (Counted a) (at_most a b best k.admissible)
      (omega (arith, ints, more, welfare_sum m first v heads a (as_many m a h.feasible), welfare_sum m first v heads b (as_many m b k.admissible.feasible))) f (heads.below z l) in
      let one = cond-true (is_head first f) (pos 1) (pos 0) (eq-eqb (first f) f (heads.own z l)) in
      let reached : welfare_in m first v heads a f ≤ℤ welfare_in m first v heads b f = uncounted (counts (is_head first) f) _ _ one tight in
      record {
        admissible = own_admissible m first f v s b k.admissible;
        greatest = λ c d. omega (arith, ints, (best z l).greatest c d, reached);
      }
    where
      uncounted : (c x y : ℤ) → c ≡ pos 1 → (c *ℤ x) ≤ℤ (c *ℤ y) → x ≤ℤ y
      uncounted c x y e h = let k : (pos 1 *ℤ x) ≤ℤ (pos 1 *ℤ y) = subst (λ (d : ℤ). (d *ℤ x) ≤ℤ (d *ℤ y)) e h in omega (arith, ints, k)

  -- ---- gate words

  own_before : (a b : Activation) → length a.mw ≡ length m.orders → length b.mw ≡ length m.orders → (f j g : ℕ)
      → IsGateAt m first f j g → ((i : ℕ) → i < g → opens_in (gate_word_of m b) i ≡ opens_in (gate_word_of m a) i)
      → is_open m b g ≡ false → is_open m a g ≡ true
      → ComesBefore (gate_word_of (island_of m first f) (own_of m first f b)) (gate_word_of (island_of m first f) (own_of m first f a))
  own_before a b la lb f j g own same closed opened =
      let gs = gates_of m first f in
      let few : length (island_of m first f).gates ≡ length gs = length-map gs (gate_among m.gates gs) in
      let read : (c : Activation) → length c.mw ≡ length m.orders → (i : ℕ) → i < length gs → opens_in (gate_word_of (island_of m first f) (own_of m first f c)) i ≡ is_open m c (get_or gs i 0) =
      λ c l i less. word_opens (island_of m first f) (own_of m first f c) i (omega (arith, few, less)) ∙ open_same m first f v s c l i (get_or gs i 0) (gate_at m first f i less) in
      record {
        gate = j;
        same = λ i less.
            let there : i < length gs = omega (arith, less, own.place.there) in
            let below : get_or gs i 0 < g = let rises = gates_rise m first f i j 0 less own.place.there in omega (arith, rises, own.place.read) in
            let big : get_or gs i 0 < length m.gates = (gate_at m first f i there).there in
            read b lb i there ∙ sym (word_opens m b (get_or gs i 0) big) ∙ same (get_or gs i 0) below ∙ word_opens m a (get_or gs i 0) big ∙ sym (read a la i there);
        closed = read b lb j own.place.there ∙ ap (is_open m b) own.place.read ∙ closed;
        opened = read a la j own.place.there ∙ ap (is_open m a) own.place.read ∙ opened;
      }

  none_before : (a b : Activation) → IsAdmissible m a → InEach IsFirst m first a → IsOptimal m b → ComesBefore (gate_word_of m b) (gate_word_of m a) → ⊥
  none_before a b h firsts k before =
      let g : ℕ = before.gate in
      let there : g < length m.gates = omega (arith, opens_within (gate_word_of m a) g before.opened, length-gate_word_of m a) in
      let opened : is_open m a g ≡ true = sym (word_opens m a g there) ∙ before.opened in
      let closed : is_open m b g ≡ false = sym (word_opens m b g there) ∙ before.closed in
      let o = open_order m a g opened in
      let zone = (All-contains (IsValidOrder m.zones (length m.gates)) m.orders o.order v.orders o.of_market).zone in
      let f : ℕ = first o.order.zone in
      let j = gate_place m first f o.order g v o.of_market refl o.of_gate in
      let own : IsGateAt m first f j.0 g = subst (IsGateAt m first f j.0) j.1.read (gate_at m first f j.0 j.1.there) in
      let best = same_in_each a b h (λ z l. (firsts z l).optimal) k o.order.zone zone in
      (firsts o.order.zone zone).none_before (own_of m first f b) best (own_before a b (as_many m a h.feasible) (as_many m b k.admissible.feasible) f j.0 g own before.same closed opened)

  -- first activations of the islands are together the first activation of the whole
  pub whole_first : (a : Activation) → HasLengths m a → AllZip (IsStill first) m.borders a.flow → InEach IsFirst m first a → IsFirst m a
  whole_first a long still firsts =
      let adm = whole_admissible m first v s heads a long still (λ z l. (firsts z l).optimal.admissible) in
      record {
        optimal = whole_optimal a adm (λ z l. (firsts z l).optimal);
        none_before = λ b k before. none_before a b adm firsts k before;
      }
