-- Which optimal activation is published: the first by its gate word.
use Rattle.std.specs.Prelude.{◌≡◌, Bool, true, false, ℕ, ◌<◌, List}
use Rattle.mari_market.specs.declared.market.Market.{Market}
use Rattle.mari_market.specs.declared.activation.Activation.{Activation}
use Rattle.mari_market.specs.Activation.{gate_word_of}
use Rattle.mari_market.specs.Optimal.{IsOptimal}
use Rattle.mari_market.specs.Prefix.{opens_in}

-- a word comes before another: at the first gate that differs it is closed. A gate that a word doesn't decide counts as
-- closed, so a prefix comes before a gate word where it does when it is continued with closed gates
pub record ComesBefore (word other : List Bool) : Type 0 where
  pub gate : ℕ
  pub same : (g : ℕ) → g < gate → opens_in word g ≡ opens_in other g
  pub closed : opens_in word gate ≡ false
  pub opened : opens_in other gate ≡ true

-- optimal, and no optimal activation has a gate word that comes before its own
pub record IsFirst (m : Market) (a : Activation) : Type 0 where
  pub optimal : IsOptimal m a
  pub none_before : (b : Activation) → IsOptimal m b → ComesBefore (gate_word_of m b) (gate_word_of m a) → ⊥
