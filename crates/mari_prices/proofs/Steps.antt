-- One more zone settled.
use Rattle.std.proofs.Common.{◌≡◌, ◌⊎◌, ◌+◌, ℕ, ◌<◌, ◌≤◌, ℤ, ◌≤ℤ◌, List, [], ◌∷◌, Option, Some, None, length, get_or, set, zero, suc, arith, refl, sym, ap, ◌∙◌, subst, inl, inr, get_or-set_same, get_or-set_other, length-set}
use Rattle.std.proofs.lemmas.Int.{ints}
use Rattle.std.proofs.lemmas.Bool.{cases_eq}
use Rattle.mari_prices.specs.declared.spread.SettledZone.{SettledZone}
use Rattle.mari_prices.specs.Spread.{entry_at, IsFree, free_zones, IsByItself, IsAfter, IsSpreading, IsLed, IsStart, IsNext}

pub free_zones-set : (xs : List (Option SettledZone)) (z : ℕ) (s : SettledZone) → z < length xs → entry_at xs z ≡ None → free_zones (set xs z (Some s)) + 1 ≡ free_zones xs
free_zones-set [] z s h e = absurd (omega arith)
free_zones-set (None ∷ xs) zero s h e = refl
free_zones-set (Some t ∷ xs) zero s h e = absurd (cc)
free_zones-set (None ∷ xs) (suc z) s h e = ap (λ n. n + 1) (free_zones-set xs z s (omega arith) e)
free_zones-set (Some t ∷ xs) (suc z) s h e = free_zones-set xs z s (omega arith) e

-- an entry after zone z was settled is the new one or an old one
entry_cases : (xs : List (Option SettledZone)) (z w : ℕ) (e s : SettledZone) → z < length xs → entry_at (set xs z (Some e)) w ≡ Some s → ((w ≡ z) × (s ≡ e)) ⊎ (entry_at xs w ≡ Some s)
entry_cases xs z w e s h k = elim (cases_eq w z) [
  | inl same ↦
      let new : get_or (set xs z (Some e)) z None ≡ Some e = get_or-set_same xs z (Some e) None h in
      let at : get_or (set xs z (Some e)) z None ≡ Some s = subst (λ (x : ℕ). get_or (set xs z (Some e)) x None ≡ Some s) same k in
      inl (same, cc)
  | inr other ↦ inr (sym (get_or-set_other xs z w (Some e) None other) ∙ k)
]

-- a zone that is free then was free before
pub free_before : (xs : List (Option SettledZone)) (z u : ℕ) (e : SettledZone) → z < length xs → IsFree (set xs z (Some e)) u → IsFree xs u
free_before xs z u e h f = elim (cases_eq u z) [
  | inl same ↦
      let new : get_or (set xs z (Some e)) z None ≡ Some e = get_or-set_same xs z (Some e) None h in
      let at : get_or (set xs z (Some e)) z None ≡ None = subst (λ (x : ℕ). get_or (set xs z (Some e)) x None ≡ None) same f.1 in
      absurd (cc)
  | inr other ↦ (omega (arith, f.0, length-set xs z (Some e)), sym (get_or-set_other xs z u (Some e) None other) ∙ f.1)
]

-- an old entry stays
entry_kept : (xs : List (Option SettledZone)) (z w : ℕ) (e s : SettledZone) → entry_at xs z ≡ None → entry_at xs w ≡ Some s → entry_at (set xs z (Some e)) w ≡ Some s
entry_kept xs z w e s free k = elim (cases_eq w z) [
  | inl same ↦ let at : entry_at xs z ≡ Some s = subst (λ (x : ℕ). entry_at xs x ≡ Some s) same k in absurd (cc)
  | inr other ↦ get_or-set_other xs z w (Some e) None other ∙ k
]

free_zones-le : (xs : List (Option SettledZone)) → free_zones xs ≤ length xs
free_zones-le [] = omega arith
free_zones-le (None ∷ xs) = omega (arith, free_zones-le xs)
free_zones-le (Some t ∷ xs) = omega (arith, free_zones-le xs)

-- what the new entry has to meet
record Fits (lead : ℕ → ℕ → Type 0) (own : ℕ → ℤ) (xs : List (Option SettledZone)) (z : ℕ) (e : SettledZone) : Type 0 where
  free : IsFree xs z
  above : own z ≤ℤ e.value
  risen : (y : ℕ) (s : SettledZone) → entry_at xs y ≡ Some s → lead y z → s.value ≤ℤ e.value
  least : (w : ℕ) (s : SettledZone) → entry_at xs w ≡ Some s → e.value ≤ℤ s.value
  newest : (y u : ℕ) (s : SettledZone) → entry_at xs y ≡ Some s → IsFree xs u → lead y u → s.value ≤ℤ e.value
  rest : (u : ℕ) → IsFree xs u → own u ≤ℤ e.value
  source : IsByItself own z e ⊎ IsAfter lead xs z e
  short : e.depth + free_zones xs ≤ length xs + 1

after_kept : (lead : ℕ → ℕ → Type 0) (xs : List (Option SettledZone)) (z w : ℕ) (e s : SettledZone) → entry_at xs z ≡ None → IsAfter lead xs w s → IsAfter lead (set xs z (Some e)) w s
after_kept lead xs z w e s free a = record {
  before = a.before;
  entry = a.entry;
  settled = entry_kept xs z a.before e a.entry free a.settled;
  leads = a.leads;
  previous = a.previous;
  value = a.value;
  depth = a.depth;
}

source_kept : (lead : ℕ → ℕ → Type 0) (own : ℕ → ℤ) (xs : List (Option SettledZone)) (z w : ℕ) (e s : SettledZone)
    → entry_at xs z ≡ None → IsByItself own w s ⊎ IsAfter lead xs w s
    → IsByItself own w s ⊎ IsAfter lead (set xs z (Some e)) w s
source_kept lead own xs z w e s free (inl f) = inl f
source_kept lead own xs z w e s free (inr a) = inr (after_kept lead xs z w e s free a)

settle : (lead : ℕ → ℕ → Type 0) (own : ℕ → ℤ) (xs : List (Option SettledZone)) (z : ℕ) (e : SettledZone) → IsSpreading lead own xs → Fits lead own xs z e → IsSpreading lead own (set xs z (Some e))
settle lead own xs z e h f =
    let there : z < length xs = f.free.0 in
    let values : (w : ℕ) (s : SettledZone) → entry_at (set xs z (Some e)) w ≡ Some s → e.value ≤ℤ s.value =
    λ w s k. elim (entry_cases xs z w e s there k) [ inl new ↦ omega (arith, ints, ap (λ (t : SettledZone). t.value) new.1) | inr old ↦ f.least w s old ] in
    record {
      above = λ w s k. elim (entry_cases xs z w e s there k) [
        | inl new ↦ subst (λ (t : SettledZone). own w ≤ℤ t.value) (sym new.1) (subst (λ (x : ℕ). own x ≤ℤ e.value) (sym new.0) f.above)
        | inr old ↦ h.above w s old
      ];
      rises = λ y w s t k l r. elim (entry_cases xs z w e t there l) [
        | inl new ↦ elim (entry_cases xs z y e s there k) [
          | inl also ↦ omega (arith, ints, ap (λ (t : SettledZone). t.value) new.1, ap (λ (t : SettledZone). t.value) also.1)
          | inr old ↦ subst (λ (t : SettledZone). s.value ≤ℤ t.value) (sym new.1) (f.risen y s old (subst (lead y) new.0 r))
        ]
        | inr old ↦ elim (entry_cases xs z y e s there k) [
          | inl new ↦ subst (λ (x : SettledZone). x.value ≤ℤ t.value) (sym new.1) (f.least w t old)
          | inr older ↦ h.rises y w s t older old r
        ]
      ];
      newest = λ y w u s t k l free r. elim (entry_cases xs z y e s there k) [
        | inl new ↦ subst (λ (x : SettledZone). x.value ≤ℤ t.value) (sym new.1) (values w t l)
        | inr old ↦ elim (entry_cases xs z w e t there l) [
          | inl new ↦ subst (λ (x : SettledZone). s.value ≤ℤ x.value) (sym new.1) (f.newest y u s old (free_before xs z u e there free) r)
          | inr older ↦ h.newest y w u s t old older (free_before xs z u e there free) r
        ]
      ];
      rest = λ y u s k free. elim (entry_cases xs z y e s there k) [
        | inl new ↦ subst (λ (x : SettledZone). own u ≤ℤ x.value) (sym new.1) (f.rest u (free_before xs z u e there free))
        | inr old ↦ h.rest y u s old (free_before xs z u e there free)
      ];
      source = λ w s k. elim (entry_cases xs z w e s there k) [
        | inl new ↦ subst (λ (x : SettledZone). IsByItself own w x ⊎ IsAfter lead (set xs z (Some e)) w x) (sym new.1)
            (subst (λ (y : ℕ). IsByItself own y e ⊎ IsAfter lead (set xs z (Some e)) y e) (sym new.0) (source_kept lead own xs z z e e f.free.1 f.source))
        | inr old ↦ source_kept lead own xs z w e s f.free.1 (h.source w s old)
      ];
      short = λ w s k. elim (entry_cases xs z w e s there k) [
        | inl new ↦ omega (arith, ap (λ (t : SettledZone). t.depth) new.1, f.short, free_zones-set xs z e there f.free.1, length-set xs z (Some e))
        | inr old ↦ omega (arith, h.short w s old, free_zones-set xs z e there f.free.1, length-set xs z (Some e))
      ];
    }

led_fits : (lead : ℕ → ℕ → Type 0) (own : ℕ → ℤ) (xs : List (Option SettledZone)) (z : ℕ) (e : SettledZone) → IsSpreading lead own xs → IsLed lead xs z e → Fits lead own xs z e
led_fits lead own xs z e h n =
    let a = n.after in
    record {
      free = n.free;
      above = omega (arith, ints, a.value, h.rest a.before z a.entry a.settled n.free);
      risen = λ y s k r. omega (arith, ints, a.value, h.newest y a.before z s a.entry k a.settled n.free r);
      least = λ w s k. omega (arith, ints, a.value, h.newest a.before w z a.entry s a.settled k n.free a.leads);
      newest = λ y u s k free r. omega (arith, ints, a.value, h.newest y a.before u s a.entry k a.settled free r);
      rest = λ u free. omega (arith, ints, a.value, h.rest a.before u a.entry a.settled free);
      source = inr a;
      short = omega (arith, a.depth, h.short a.before a.entry a.settled);
    }

start_fits : (lead : ℕ → ℕ → Type 0) (own : ℕ → ℤ) (xs : List (Option SettledZone)) (z : ℕ) (e : SettledZone) → IsSpreading lead own xs → IsStart lead own xs z e → Fits lead own xs z e
start_fits lead own xs z e h n = record {
  free = n.greatest.free;
  above = omega (arith, ints, n.first.value);
  risen = λ y s k r. absurd (n.none_led y z s k n.greatest.free r);
  least = λ w s k. omega (arith, ints, n.first.value, h.rest w z s k n.greatest.free);
  newest = λ y u s k free r. absurd (n.none_led y u s k free r);
  rest = λ u free. omega (arith, ints, n.first.value, n.greatest.greatest u free.0 free);
  source = inl n.first;
  short = omega (arith, n.first.depth, free_zones-le xs);
}

-- the next zone, settled
pub settle_next : (lead : ℕ → ℕ → Type 0) (own : ℕ → ℤ) (xs : List (Option SettledZone)) (z : ℕ) (e : SettledZone)
    → IsSpreading lead own xs → IsNext lead own xs z e → IsSpreading lead own (set xs z (Some e))
settle_next lead own xs z e h (inl n) = settle lead own xs z e h (led_fits lead own xs z e h n)
settle_next lead own xs z e h (inr n) = settle lead own xs z e h (start_fits lead own xs z e h n)

pub next_free : (lead : ℕ → ℕ → Type 0) (own : ℕ → ℤ) (xs : List (Option SettledZone)) (z : ℕ) (e : SettledZone) → IsNext lead own xs z e → IsFree xs z
next_free lead own xs z e (inl n) = n.free
next_free lead own xs z e (inr n) = n.greatest.free

-- where no zone is free, all are settled
pub all_settled : (xs : List (Option SettledZone)) → ((z : ℕ) → IsFree xs z → ⊥) → (z : ℕ) → z < length xs → (s : SettledZone) × (entry_at xs z ≡ Some s)
all_settled xs none z h = by_entry (entry_at xs z) refl
  where
    by_entry : (e : Option SettledZone) → entry_at xs z ≡ e → (s : SettledZone) × (entry_at xs z ≡ Some s)
    by_entry None k = absurd (none z (h, k))
    by_entry (Some s) k = (s, k)
