-- The rise bounds what a gate word reaches in the market with a limit raised.
use Rattle.std.proofs.Common.{◌≡◌, ◌∙◌, Bool, ℕ, ◌<◌, ◌≤◌, ℤ, pos, ◌+ℤ◌, ◌≤ℤ◌, List, length, arith, refl, sym, ap, subst, if◌then◌else◌}
use mathlib.Core.Path.{fun_ext}
use Rattle.std.proofs.lemmas.Int.{ints, clamps}
use Rattle.std.specs.Int.{int_max}
use Rattle.mari_units.specs.declared.numbers.Cents.{Cents}
use Rattle.mari_market.specs.declared.market.Order.{Order}
use Rattle.mari_market.specs.declared.market.Market.{Market}
use Rattle.mari_market.specs.declared.activation.Activation.{Activation}
use Rattle.mari_market.specs.Activation.{gate_word_of, is_open, welfare_of}
use Rattle.mari_market.specs.Bounds.{Span, own_bounds, span_in}
use Rattle.mari_market.specs.Bounds.GateState.{Open, Closed}
use Rattle.mari_market.specs.Market.{IsValid}
use Rattle.mari_market.specs.Optimal.{IsConsistent, IsFeasible}
use Rattle.mari_market.specs.Prefix.{bounds_of_word, IsFeasibleWord}
use Rattle.mari_market.specs.Relaxation.{IsRelaxedWelfare, IsWithinBounds}
use Rattle.mari_market.proofs.Conflicts.{consistent_tight, within_own}
use Rattle.mari_market.proofs.Duality.{weak_duality}
use Rattle.mari_market.proofs.Search.{parents_earlier, within_word}
use Rattle.mari_market.proofs.Tight.{tight_is_equal}
use Rattle.mari_market.proofs.Words.{begins_own, length-gate_word_of, word_is_feasible}
use Rattle.mari_node.proofs.Decided.{decided_feasible, opens_as_word}
use Rattle.mari_network.specs.Network.{border_at}
use Rattle.mari_capacity.specs.declared.raising.Raise.{Raise}
use Rattle.mari_capacity.specs.Raised.{raised_market}
use Rattle.mari_capacity.specs.Rise.{rise_of}
use Rattle.mari_capacity.proofs.RaisedMarkets.{dual-raised, raised-valid, raised-within}

module _ (m : Market) (v : IsValid m) (a : Activation) (feasible : IsFeasible m a) where
  abbrev pub word : List Bool
  word = gate_word_of m a

  full : length word ≡ length m.gates
  full = length-gate_word_of m a

  own-word : IsFeasibleWord m.gates word
  own-word = word_is_feasible m.gates word (is_open m a) (parents_earlier m v) (begins_own m a) feasible.gates (omega (arith, full))

  pub within-own-word : IsWithinBounds (bounds_of_word m word) m a
  within-own-word = within_word m a word feasible (begins_own m a)

  module _ (ps : List Cents) (consistent : IsConsistent m a ps) (r : Raise) (there : r.border < length m.borders) where
    abbrev pub raised : Market
    raised = raised_market m r

    valid : IsValid raised
    valid = raised-valid m v r there

    -- what lies within the word's bounds opens the same gates
    same-opens : (b : Activation) → IsWithinBounds (bounds_of_word m word) raised b → is_open raised b ≡ is_open m a
    same-opens b w = fun_ext (λ g. opens_as_word raised b word valid full w g ∙ sym (opens_as_word m a word v full within-own-word g))

    same-bounds : (b : Activation) → IsWithinBounds (bounds_of_word m word) raised b → own_bounds raised b ≡ own_bounds m a
    same-bounds b w = ap (λ (opens : ℕ → Bool). span_in (λ g. if opens g then Open else Closed)) (same-opens b w)

    -- so it is worth no more than the activation and the rise, by weak duality at the prices
    pub at-most-rise : (b : Activation) → IsWithinBounds (bounds_of_word m word) raised b → welfare_of m b ≤ℤ (welfare_of m a +ℤ rise_of ps (border_at m.borders r.border) r.forth r.more)
    at-most-rise b w =
        let other = decided_feasible raised b word valid own-word full w in
        let P : (Order → Span) → Type 0 = λ bounds. IsWithinBounds bounds raised b in
        let within = subst P (same-bounds b w) (within_own raised b other) in
        let most = weak_duality (own_bounds m a) raised b ps valid within in
        let more = dual-raised m v r there (own_bounds m a) ps in
        let equal = tight_is_equal (own_bounds m a) m a ps v (within_own m a feasible) (consistent_tight m a ps feasible consistent) in
        omega (arith, ints, most, more, equal)

  -- where the prices allow no rise, the activation stays the best of its word
  pub nothing-gained : (ps : List Cents) → IsConsistent m a ps → (r : Raise) → r.border < length m.borders → rise_of ps (border_at m.borders r.border) r.forth r.more ≡ pos 0
      → IsRelaxedWelfare (raised_market m r) word (welfare_of m a +ℤ pos 0)
  nothing-gained ps consistent r there none = record {
    reached = (a, raised-within m v r there (bounds_of_word m word) a within-own-word, omega (arith, ints));
    greatest = λ b w. omega (arith, ints, at-most-rise ps consistent r there b w, none);
  }

  -- and before the limit is raised it is
  pub best-of-word : (ps : List Cents) → IsConsistent m a ps → IsRelaxedWelfare m word (welfare_of m a)
  best-of-word ps consistent = record { reached = (a, within-own-word, refl); greatest = λ b w. own-best b w }
    where
      own-best : (b : Activation) → IsWithinBounds (bounds_of_word m word) m b → welfare_of m b ≤ℤ welfare_of m a
      own-best b w =
          let opens : is_open m b ≡ is_open m a = fun_ext (λ g. opens_as_word m b word v full w g ∙ sym (opens_as_word m a word v full within-own-word g)) in
          let bounds : own_bounds m b ≡ own_bounds m a = ap (λ (o : ℕ → Bool). span_in (λ g. if o g then Open else Closed)) opens in
          let P : (Order → Span) → Type 0 = λ s. IsWithinBounds s m b in
          let within = subst P bounds (within_own m b (decided_feasible m b word v own-word full w)) in
          let most = weak_duality (own_bounds m a) m b ps v within in
          let equal = tight_is_equal (own_bounds m a) m a ps v (within_own m a feasible) (consistent_tight m a ps feasible consistent) in
          omega (arith, ints, most, equal)

-- ---- a word and its relaxed welfare

-- the greatest welfare is one number
pub one-relaxed : (m : Market) (w : List Bool) (x y : ℤ) → IsRelaxedWelfare m w x → IsRelaxedWelfare m w y → x ≡ y
one-relaxed m w x y g h =
    let up = h.greatest g.reached.0 g.reached.1 in
    let down = g.greatest h.reached.0 h.reached.1 in
    omega (arith, ints, up, down, g.reached.2, h.reached.2)

-- with a limit raised it is no less
pub no-less : (m : Market) → IsValid m → (r : Raise) → r.border < length m.borders → (w : List Bool) (x y : ℤ) → IsRelaxedWelfare m w x → IsRelaxedWelfare (raised_market m r) w y → x ≤ℤ y
no-less m v r there w x y before after =
    let a = before.reached.0 in
    let most = after.greatest a (raised-within m v r there (bounds_of_word m w) a before.reached.1) in
    omega (arith, ints, most, before.reached.2)

-- and at most the rise more, at prices that are consistent with an activation of the word
pub no-more : (m : Market) → IsValid m → (r : Raise) → r.border < length m.borders → (w : List Bool) (x y : ℤ) → IsRelaxedWelfare m w x → IsRelaxedWelfare (raised_market m r) w y
    → (a : Activation) (ps : List Cents) → IsFeasible m a → gate_word_of m a ≡ w → IsConsistent m a ps → y ≤ℤ (x +ℤ rise_of ps (border_at m.borders r.border) r.forth r.more)
no-more m v r there w x y before after a ps feasible e consistent =
    let own : IsRelaxedWelfare m w (welfare_of m a) = subst (λ (u : List Bool). IsRelaxedWelfare m u (welfare_of m a)) e (best-of-word m v a feasible ps consistent) in
    let same = one-relaxed m w x (welfare_of m a) before own in
    let P : List Bool → Type 0 = λ u. IsWithinBounds (bounds_of_word m u) (raised_market m r) after.reached.0 in
    let within = subst P (sym e) after.reached.1 in
    let most = at-most-rise m v a feasible ps consistent r there after.reached.0 within in
    omega (arith, ints, most, same, after.reached.2)

-- ---- an optimum with a limit raised

module _ (m : Market) (v : IsValid m) (r : Raise) (there : r.border < length m.borders) (w : List Bool) (welfare : ℕ) (before : IsRelaxedWelfare m w (pos welfare)) where
  module _ (other : Market) (is : other ≡ raised_market m r) (n : ℕ) (y : ℤ) (stated : pos n ≡ int_max (pos 0) y) (relaxed : IsRelaxedWelfare other w y) where
    own : IsRelaxedWelfare (raised_market m r) w y
    own = subst (λ (o : Market). IsRelaxedWelfare o w y) is relaxed

    -- it isn't negative, so it is stated as it is
    pub stated-is : pos n ≡ y
    stated-is = let least = no-less m v r there w (pos welfare) y before own in omega (arith, ints, clamps, least, stated)

    pub gained-relaxed : IsRelaxedWelfare (raised_market m r) w (pos n)
    gained-relaxed = subst (λ (z : ℤ). IsRelaxedWelfare (raised_market m r) w z) (sym stated-is) own

    pub gained-least : welfare ≤ n
    gained-least = let least = no-less m v r there w (pos welfare) (pos n) before gained-relaxed in omega (arith, ints, least)

    pub gained-most : (a : Activation) (ps : List Cents) → IsFeasible m a → gate_word_of m a ≡ w → IsConsistent m a ps
        → pos n ≤ℤ (pos welfare +ℤ rise_of ps (border_at m.borders r.border) r.forth r.more)
    gained-most a ps feasible e consistent = no-more m v r there w (pos welfare) (pos n) before gained-relaxed a ps feasible e consistent

  -- something lies within the word's bounds
  pub never-empty : (other : Market) → other ≡ raised_market m r → ((a : Activation) → IsWithinBounds (bounds_of_word other w) other a → ⊥) → ⊥
  never-empty other is none =
      let P : Market → Type 0 = λ o. (a : Activation) → IsWithinBounds (bounds_of_word o w) o a → ⊥ in
      subst P is none before.reached.0 (raised-within m v r there (bounds_of_word m w) before.reached.0 before.reached.1)
