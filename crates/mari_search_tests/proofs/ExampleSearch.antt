-- The events of the example are proper.
use Rattle.std.proofs.Common.{ℕ, zero, suc, List, [], ◌∷◌, take, pos, refl, arith, subst, sym, ◌≡◌}
use Rattle.mari_market.specs.declared.market.Market.{Market}
use Rattle.mari_market.specs.declared.finding.Attained.{Attained}
use Rattle.mari_market.specs.Finding.{IsAttained}
use Rattle.mari_market.specs.Market.{IsValid}
use Rattle.mari_market.specs.Relaxation.{IsClosedWelfare}
use Rattle.mari_market.proofs.ExampleOversizedBid.{valid, closed, admissible, found_at_root, found_closed, found_open}
use Rattle.mari_core.specs.declared.event.Event.{Event}
use Rattle.mari_search_tests.specs.Example.{oversized, first, all_events, taken_twice}
use Rattle.mari_core.specs.Machine.{Machine, started, after}
use Rattle.mari_core.specs.Replay.{AreProper}

pub is_valid : IsValid oversized
is_valid = valid

pub is_closed : IsClosedWelfare oversized (pos first.welfare)
is_closed = closed

pub is_attained : IsAttained oversized first
is_attained = record { admissible = admissible; welfare = refl }

all_proper : AreProper (started oversized 2 first 3) all_events
all_proper = (
  tt,
  λ _. (
    record { finding_is = found_at_root; reached = λ e. absurd (cc) },
    λ _. (
      tt,
      λ _. (
        tt,
        λ _. (
          tt,
          λ _. (
            record { finding_is = found_closed; reached = λ e n. omega arith },
            λ _. (record { finding_is = found_open; reached = tt }, λ _. tt),
          ),
        ),
      ),
    ),
  ),
)

proper_take : (n : ℕ) (s : Machine) (events : List Event) → AreProper s events → AreProper s (take n events)
proper_take zero s events p = tt
proper_take (suc n) s [] p = tt
proper_take (suc n) s (event ∷ events) p = (p.0, λ e. proper_take n (after s event) events (p.1 e))

-- the first of these events are proper
pub some_proper : (n : ℕ) → AreProper (started oversized 2 first 3) (take n all_events)
some_proper n = proper_take n (started oversized 2 first 3) all_events all_proper

-- the first two are proper within a budget of two nodes too
pub two_proper : AreProper (started oversized 2 first 2) (take 2 all_events)
two_proper = (tt, λ _. (record { finding_is = found_at_root; reached = λ e. absurd (cc) }, λ _. tt))

pub taken_twice_proper : AreProper (started oversized 2 first 3) taken_twice
taken_twice_proper = (tt, λ _. (record { finding_is = found_at_root; reached = λ e. absurd (cc) }, λ _. (tt, λ _. (tt, λ _. (tt, λ _. tt)))))

-- ---- the same, where the market, the first activation and the events are written another way

pub market_valid : (m : Market) → m ≡ oversized → IsValid m
market_valid m e = subst IsValid (sym e) is_valid

pub market_closed : (m : Market) (a : Attained) → m ≡ oversized → a ≡ first → IsClosedWelfare m (pos a.welfare)
market_closed m a e f = subst (λ (n : Market). IsClosedWelfare n (pos a.welfare)) (sym e) (subst (λ (b : Attained). IsClosedWelfare oversized (pos b.welfare)) (sym f) is_closed)

pub first_attained : (m : Market) (a : Attained) → m ≡ oversized → a ≡ first → IsAttained m a
first_attained m a e f = subst (λ (n : Market). IsAttained n a) (sym e) (subst (IsAttained oversized) (sym f) is_attained)

pub events_proper : (m : Market) (a : Attained) (events own : List Event) (budget : ℕ) → m ≡ oversized → a ≡ first
    → events ≡ own → AreProper (started oversized 2 first budget) own → AreProper (started m 2 a budget) events
events_proper m a events own budget e f h p =
    subst (λ (n : Market). AreProper (started n 2 a budget) events) (sym e)
    (subst (λ (b : Attained). AreProper (started oversized 2 b budget) events) (sym f) (subst (λ (es : List Event). AreProper (started oversized 2 first budget) es) (sym h) p))
