-- What is left over in a zone, as loops over orders and borders add it up.
use Rattle.std.proofs.Common.{◌≡◌, if◌then◌else◌, Bool, true, false, ℕ, ◌+◌, ◌*◌, ◌<◌, ◌≤◌, ℤ, pos, neg_ℤ, ◌+ℤ◌, ◌-ℤ◌, List, length, take, get_or, arith, ap}
use Rattle.std.specs.Prelude.{unsigned_abs}
use Rattle.std.proofs.lemmas.Int.{ints}
use Rattle.mari_market.specs.Sums.{sum_along}
use Rattle.mari_market.proofs.Sums.{sum_along_more}

pub zero_small : (v : ℤ) (m : ℕ) → v ≡ pos 0 → unsigned_abs v ≤ m
zero_small v m e = omega (arith, ints, e)

pub same_if : (b : Bool) (v w : ℤ) → v ≡ w → (if b then v else pos 0) ≡ (if b then w else pos 0)
same_if b v w e = ap (λ (x : ℤ). if b then x else pos 0) e

-- a loop's step: one more amount, which may not count, is as small as the others
pub small_step : (b : Bool) (old v new : ℤ) (m i : ℕ) → new ≡ old +ℤ (if b then v else pos 0) → unsigned_abs old ≤ m * i → unsigned_abs v ≤ m → unsigned_abs new ≤ m * (i + 1)
small_step true old v new m i e h l = omega (arith, ints, e)
small_step false old v new m i e h l = omega (arith, ints, e)

-- a flow out of one zone and into another
pub carry_step : (b t : Bool) (old mid new f g h : ℤ) → mid ≡ old +ℤ (if b then g else pos 0)
    → new ≡ mid +ℤ (if t then h else pos 0) → g ≡ neg_ℤ f → h ≡ f
    → new ≡ old -ℤ ((if b then f else pos 0) -ℤ (if t then f else pos 0))
carry_step true true old mid new f g h k l n e = omega (arith, ints, n, e, k, l)
carry_step true false old mid new f g h k l n e = omega (arith, ints, n, e, k, l)
carry_step false true old mid new f g h k l n e = omega (arith, ints, n, e, k, l)
carry_step false false old mid new f g h k l n e = omega (arith, ints, n, e, k, l)

pub carry_small : (b t : Bool) (old new f : ℤ) (m : ℕ) → unsigned_abs f ≤ m → new ≡ old -ℤ ((if b then f else pos 0) -ℤ (if t then f else pos 0)) → unsigned_abs new ≤ unsigned_abs old + (m + m)
carry_small true true old new f m h e = omega (arith, ints, e)
carry_small true false old new f m h e = omega (arith, ints, e)
carry_small false true old new f m h e = omega (arith, ints, e)
carry_small false false old new f m h e = omega (arith, ints, e)

-- a loop's step that takes away: what is left so far, what is taken and what is left then
pub take_away_step : {X Y : Type 0} (f : X → Y → ℤ) (xs : List X) (ys : List Y) (i : ℕ) (d : X) (e : Y) (start old term new : ℤ)
    → i < length xs → i < length ys → old ≡ start -ℤ sum_along f (take i xs) (take i ys)
    → term ≡ f (get_or xs i d) (get_or ys i e) → new ≡ old -ℤ term
    → new ≡ start -ℤ sum_along f (take (i + 1) xs) (take (i + 1) ys)
take_away_step f xs ys i d e start old term new h l s t n = omega (arith, ints, sum_along_more f xs ys i d e h l)
