-- What a raised limit is worth for what is published of a market.
use Rattle.std.proofs.Common.{◌≡◌, Bool, ℕ, ◌<◌, ◌≤◌, ℤ, pos, ◌+ℤ◌, ◌-ℤ◌, ◌≤ℤ◌, List, [], ◌∷◌, ◌++◌, ◌+◌, length, get_or, arith, sym, subst}
use Rattle.std.proofs.Math.ListN.{get_or-append}
use Rattle.std.proofs.lemmas.Bool.{cases_lt}
use Rattle.std.proofs.lemmas.List.{get_or_push}
use Rattle.std.proofs.lemmas.Int.{ints}
use Rattle.mari_units.specs.declared.numbers.Quarters.{Quarters}
use Rattle.mari_market.specs.declared.market.Market.{Market}
use Rattle.mari_market.specs.Activation.{gate_word_of, welfare_of}
use Rattle.mari_market.specs.Market.{IsValid}
use Rattle.mari_market.specs.Prefix.{word_of}
use Rattle.mari_market.specs.Relaxation.{IsRelaxedWelfare}
use Rattle.mari_network.specs.Network.{border_at}
use Rattle.mari_capacity.specs.declared.raising.Raise.{Raise}
use Rattle.mari_capacity.specs.declared.worth.Published.{Published}
use Rattle.mari_capacity.specs.Raised.{raised_market}
use Rattle.mari_capacity.specs.Rise.{rise_of}
use Rattle.mari_capacity.specs.Worth.{IsPublished, IsWorth}
use Rattle.mari_capacity.proofs.Bounding.{best-of-word, nothing-gained}

module _ (m : Market) (v : IsValid m) (p : Published) (is : IsPublished m p) where
  -- what is published is the relaxed welfare of its word
  pub published-best : IsRelaxedWelfare m (word_of p.word) (pos p.welfare)
  published-best =
      let own = best-of-word m v p.activation is.feasible p.prices.cents is.consistent in
      let stated : IsRelaxedWelfare m (gate_word_of m p.activation) (pos p.welfare) = subst (λ (w : ℤ). IsRelaxedWelfare m (gate_word_of m p.activation) w) is.welfare own in
      subst (λ (word : List Bool). IsRelaxedWelfare m word (pos p.welfare)) (sym is.word) stated

  module _ (r : Raise) (there : r.border < length m.borders) (rise : Quarters) (value : rise.0 ≡ rise_of p.prices.cents (border_at m.borders r.border) r.forth r.more) where
    -- without a rise there is no gain
    pub no-gain : rise.0 ≡ pos 0 → IsWorth m p.activation p.prices.cents r (record { gain = record { 0 = pos 0 }; rise = rise })
    no-gain none = grind (arith, nothing-gained, ints)

    -- and else the gain is counted from the published welfare
    pub some-gain : (n : ℕ) (g : ℤ) → g ≡ pos n -ℤ pos p.welfare → IsRelaxedWelfare (raised_market m r) (word_of p.word) (pos n) → p.welfare ≤ n → pos n ≤ℤ (pos p.welfare +ℤ rise.0)
        → IsWorth m p.activation p.prices.cents r (record { gain = record { 0 = g }; rise = rise })
    some-gain n g e relaxed least most =
        let sum : pos n ≡ welfare_of m p.activation +ℤ g = omega (arith, ints, e, is.welfare) in
        let own : IsRelaxedWelfare (raised_market m r) (gate_word_of m p.activation) (pos n) = subst (λ (word : List Bool). IsRelaxedWelfare (raised_market m r) word (pos n)) is.word relaxed in
        record {
          gain = subst (λ (w : ℤ). IsRelaxedWelfare (raised_market m r) (gate_word_of m p.activation) w) sum own;
          rise = value;
          at_least_0 = omega (arith, ints, e, least);
          at_most = omega (arith, ints, e, most);
        }

-- what holds of each item at its place holds of one more after them
pub each-push : {X : Type 0} (P : ℕ → X → Type 0) (xs : List X) (y d : X) (n : ℕ) → length xs ≡ n
    → ((k : ℕ) → k < n → P k (get_or xs k d)) → P n y → (k : ℕ) → k < n + 1 → P k (get_or (xs ++ y ∷ []) k d)
each-push P xs y d n long each here k l = grind (arith, cases_lt, get_or-append, get_or_push)
