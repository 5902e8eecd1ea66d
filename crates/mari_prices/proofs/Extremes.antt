-- Values that spread are the least that keep every own value and every comparison.
use Rattle.std.proofs.Common.{◌≡◌, ◌⊎◌, ℕ, ◌<◌, ◌≤◌, ℤ, ◌≤ℤ◌, List, [], ◌∷◌, Option, Some, length, zero, suc, arith, inl, inr}
use Rattle.std.proofs.lemmas.Int.{ints}
use Rattle.mari_prices.specs.declared.spread.SettledZone.{SettledZone}
use Rattle.mari_prices.specs.Spread.{entry_at, IsByItself, IsAfter, IsSpreading}

pub entry_within : (xs : List (Option SettledZone)) (z : ℕ) (s : SettledZone) → entry_at xs z ≡ Some s → z < length xs
entry_within [] z s e = absurd (cc)
entry_within (x ∷ xs) zero s e = omega arith
entry_within (x ∷ xs) (suc z) s e = omega (arith, entry_within xs z s e)

least_by : (lead : ℕ → ℕ → Type 0) (own p : ℕ → ℤ) (xs : List (Option SettledZone)) → IsSpreading lead own xs
    → ((z : ℕ) → z < length xs → own z ≤ℤ p z) → ((y z : ℕ) → lead y z → p y ≤ℤ p z) → (n z : ℕ) (s : SettledZone)
    → s.depth ≤ n → entry_at xs z ≡ Some s → s.value ≤ℤ p z
least_by lead own p xs h above rises zero z s d e = by_source (h.source z s e)
  where
    by_source : IsByItself own z s ⊎ IsAfter lead xs z s → s.value ≤ℤ p z
    by_source (inl f) = absurd (omega (arith, f.depth))
    by_source (inr a) = absurd (omega (arith, a.depth))
least_by lead own p xs h above rises (suc n) z s d e = by_source (h.source z s e) (λ y t l k. least_by lead own p xs h above rises n y t l k)
  where
    by_source : IsByItself own z s ⊎ IsAfter lead xs z s → ((y : ℕ) (t : SettledZone) → t.depth ≤ n → entry_at xs y ≡ Some t → t.value ≤ℤ p y) → s.value ≤ℤ p z
    by_source (inl f) before = omega (arith, ints, f.value, above z (entry_within xs z s e))
    by_source (inr a) before = omega (arith, ints, a.value, before a.before a.entry (omega (arith, a.depth)) a.settled, rises a.before z a.leads)

-- whatever keeps all own values and comparisons is at least as great
pub spread_least : (lead : ℕ → ℕ → Type 0) (own p : ℕ → ℤ) (xs : List (Option SettledZone)) → IsSpreading lead own xs
    → ((z : ℕ) → z < length xs → own z ≤ℤ p z) → ((y z : ℕ) → lead y z → p y ≤ℤ p z) → (z : ℕ) (s : SettledZone)
    → entry_at xs z ≡ Some s → s.value ≤ℤ p z
spread_least lead own p xs h above rises z s e = least_by lead own p xs h above rises s.depth z s (omega arith) e
