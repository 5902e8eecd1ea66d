-- What more MW on the borders of a market are worth for the gates of an activation.
use Rattle.std.specs.Prelude.{◌≡◌, ◌<◌, ℕ, Bool, true, false, ℤ, pos, ◌+ℤ◌, ◌≤ℤ◌, List, length, slice_index_or}
use Rattle.mari_units.specs.declared.numbers.Cents.{Cents}
use Rattle.mari_market.specs.declared.activation.Activation.{Activation}
use Rattle.mari_market.specs.declared.market.Market.{Market}
use Rattle.mari_market.specs.Activation.{gate_word_of, welfare_of}
use Rattle.mari_market.specs.Optimal.{IsConsistent, IsFeasible}
use Rattle.mari_market.specs.Prefix.{IsFeasiblePrefix, bounds_of_word, word_of}
use Rattle.mari_market.specs.Relaxation.{IsRelaxedWelfare, IsWithinBounds}
use Rattle.mari_network.specs.Network.{border_at}
use Rattle.mari_capacity.specs.declared.raising.Raise.{Raise}
use Rattle.mari_capacity.specs.declared.worth.BorderWorth.{BorderWorth}
use Rattle.mari_capacity.specs.declared.worth.Published.{Published}
use Rattle.mari_capacity.specs.declared.worth.Worth.{Worth}
use Rattle.mari_capacity.specs.Raised.{raised_market}
use Rattle.mari_capacity.specs.Rise.{rise_of}

-- the gain is by how much the greatest welfare of the activation's gate word, with that limit raised, is above the
-- activation's own; the rise is that of the prices; and the gain is at least 0 and at most the rise
pub record IsWorth (m : Market) (a : Activation) (ps : List Cents) (r : Raise) (w : Worth) : Type 0 where
  pub gain : IsRelaxedWelfare (raised_market m r) (gate_word_of m a) (welfare_of m a +ℤ w.gain.0)
  pub rise : w.rise.0 ≡ rise_of ps (border_at m.borders r.border) r.forth r.more
  pub at_least_0 : pos 0 ≤ℤ w.gain.0
  pub at_most : w.gain.0 ≤ℤ w.rise.0

-- the same of one border, both ways
pub record IsBorderWorth (m : Market) (a : Activation) (ps : List Cents) (more border : ℕ) (w : BorderWorth) : Type 0 where
  pub forth : IsWorth m a ps (record { border = border; forth = true; more = more }) w.forth
  pub back : IsWorth m a ps (record { border = border; forth = false; more = more }) w.back

-- what is worth nothing, either way
abbrev pub no_worth : BorderWorth
no_worth =
    record {
      forth = record { gain = record { 0 = pos 0 }; rise = record { 0 = pos 0 } };
      back = record { gain = record { 0 = pos 0 }; rise = record { 0 = pos 0 } };
    }

-- the same of each border, in their order
pub record AreWorths (m : Market) (a : Activation) (ps : List Cents) (more : ℕ) (ws : List BorderWorth) : Type 0 where
  pub one_each : length ws ≡ length m.borders
  pub each : (k : ℕ) → k < length m.borders → IsBorderWorth m a ps more k (slice_index_or ws k no_worth)

-- what more MW are worth on the one limit or on the other
abbrev pub worth_on : (forth : Bool) → BorderWorth → Worth
worth_on true w = w.forth
worth_on false w = w.back

-- with one limit raised, whatever lies within the bounds of the activation's gate word, consistent with prices or not, is
-- worth at most this welfare and the rise
abbrev pub RisesBound : Market → Activation → (welfare : ℤ) → (more : ℕ) → List BorderWorth → Type 0
RisesBound m a welfare more ws = (border : ℕ) (forth : Bool) (other : Activation) → border < length m.borders
    → IsWithinBounds (bounds_of_word m (gate_word_of m a)) (raised_market m (record { border = border; forth = forth; more = more })) other
    → welfare_of m other ≤ℤ (welfare +ℤ (worth_on forth (slice_index_or ws border no_worth)).rise.0)

-- what is published of a market: a feasible activation with its welfare, its gate word, and prices that are consistent
-- with it
pub record IsPublished (m : Market) (p : Published) : Type 0 where
  pub feasible : IsFeasible m p.activation
  pub consistent : IsConsistent m p.activation p.prices.cents
  pub welfare : welfare_of m p.activation ≡ pos p.welfare
  pub word : word_of p.word ≡ gate_word_of m p.activation
  pub prefix : IsFeasiblePrefix m p.word
  pub full : p.word.length ≡ length m.gates
