-- Marks, and one more of them.
use Rattle.std.proofs.Common.{◌≡◌, ◌⊎◌, Bool, true, false, not, ℕ, zero, suc, ◌+◌, ◌<◌, ◌≤◌, List, [], ◌∷◌, length, set, arith, refl, ap, inl, inr, cond, sym, subst}
use Rattle.std.specs.Prelude.{count_by}
use Rattle.std.proofs.lemmas.List.Sums.{sum_by-set, sum_by-cons}
use Rattle.mari_network.specs.Spread.{is_marked}

pub marked_set : (marked : List Bool) (i z : ℕ) → is_marked (set marked i true) z ≡ true → (z ≡ i) ⊎ (is_marked marked z ≡ true)
marked_set (b ∷ bs) (suc i) (suc z) e = elim (marked_set bs i z e) [ inl h ↦ inl (ap suc h) | inr h ↦ inr h ]
marked_set _ _ _ e = grind arith

pub keep_mark : (marked : List Bool) (i z : ℕ) → is_marked marked z ≡ true → is_marked (set marked i true) z ≡ true
keep_mark (b ∷ bs) (suc i) (suc z) e = keep_mark bs i z e
keep_mark _ _ _ e = grind arith

pub set_mark : (marked : List Bool) (i : ℕ) → i < length marked → is_marked (set marked i true) i ≡ true
set_mark (b ∷ bs) (suc i) h = set_mark bs i (omega arith)
set_mark _ _ h = grind arith

pub count_mark : (marked : List Bool) (i : ℕ) → i < length marked → is_marked marked i ≡ false → count_by not (set marked i true) + 1 ≡ count_by not marked
count_mark marked i h e =
    let one : ◌≡◌ {A = ℕ} (cond (not (is_marked marked i)) 1 0) 1 = subst (λ (b : Bool). ◌≡◌ {A = ℕ} (cond (not b) 1 0) 1) (sym e) refl in
    omega (arith, sum_by-set (λ (x : Bool). cond (not x) 1 0) marked i true false h, one)

pub not_both : (b : Bool) → b ≡ true → b ≡ false → ⊥
not_both b e f = grind arith

pub is_false : (a b : Bool) → (a ≡ true → b ≡ true) → b ≡ false → a ≡ false
is_false a b h e = grind arith

pub marked_or : (b : Bool) → (b ≡ true) ⊎ (b ≡ false)
marked_or b = grind arith

pub marked_below : (marked : List Bool) (z : ℕ) → is_marked marked z ≡ true → z < length marked
marked_below (b ∷ bs) (suc z) e = omega (arith, marked_below bs z e)
marked_below _ _ e = grind arith

pub none_count : (marked : List Bool) → ((z : ℕ) → is_marked marked z ≡ false) → count_by not marked ≡ length marked
none_count [] n = refl
none_count (true ∷ bs) n = absurd (not_both true refl (n 0))
none_count (false ∷ bs) n = omega (arith, sum_by-cons (λ (x : Bool). cond (not x) 1 0) false bs, none_count bs (λ z. n (suc z)))

most_unmarked : (marked : List Bool) → count_by not marked ≤ length marked
most_unmarked [] = omega arith
most_unmarked (true ∷ bs) = omega (arith, sum_by-cons (λ (x : Bool). cond (not x) 1 0) true bs, most_unmarked bs)
most_unmarked (false ∷ bs) = omega (arith, sum_by-cons (λ (x : Bool). cond (not x) 1 0) false bs, most_unmarked bs)

pub none_marked : (marked : List Bool) (z : ℕ) → count_by not marked ≡ length marked → is_marked marked z ≡ false
none_marked [] z e = refl
none_marked (true ∷ bs) z e = absurd (omega (arith, sum_by-cons (λ (x : Bool). cond (not x) 1 0) true bs, most_unmarked bs, e))
none_marked (false ∷ bs) zero e = refl
none_marked (false ∷ bs) (suc z) e = none_marked bs z (omega (arith, sum_by-cons (λ (x : Bool). cond (not x) 1 0) false bs, e))

pub all_marked : (marked : List Bool) (z : ℕ) → count_by not marked ≡ 0 → z < length marked → is_marked marked z ≡ true
all_marked [] z e h = absurd (omega arith)
all_marked (true ∷ bs) zero e h = refl
all_marked (true ∷ bs) (suc z) e h = all_marked bs z (omega (arith, sum_by-cons (λ (x : Bool). cond (not x) 1 0) true bs, e)) (omega arith)
all_marked (false ∷ bs) z e h = absurd (omega (arith, sum_by-cons (λ (x : Bool). cond (not x) 1 0) false bs, e))

pub all_unmarked : (marked : List Bool) → ((k : ℕ) → k < length marked → is_marked marked k ≡ false) → (z : ℕ) → is_marked marked z ≡ false
all_unmarked (b ∷ bs) h (suc z) = all_unmarked bs (λ k l. h (suc k) (omega arith)) z
all_unmarked _ h _ = search arith
