-- The laws of a run's ledger: no rent is negative, and the nets of the operators sum to 0.
use Rattle.std.proofs.Common.{◌≡◌, ◌==◌, if◌then◌else◌, ℕ, zero, suc, ◌+◌, ◌<◌, ℤ, pos, ◌+ℤ◌, ◌-ℤ◌, ◌*ℤ◌, ◌≤ℤ◌, List, [], ◌∷◌, length, arith, refl, sym, ap, ◌∙◌}
use Rattle.std.proofs.lemmas.Int.{ints}
use Rattle.std.proofs.lemmas.List.Elements.{All-cons}
use Rattle.std.specs.List.{All, AllZip, range_with_len}
use Rattle.mari_units.specs.declared.numbers.Cents.{Cents}
use Rattle.mari_units.specs.declared.numbers.Quarters.{Quarters}
use Rattle.mari_zones.specs.Zones.{HasOperators}
use Rattle.mari_zones.specs.declared.zones.ZoneBook.{ZoneBook}
use Rattle.mari_market.specs.declared.market.Border.{Border}
use Rattle.mari_market.specs.declared.market.Market.{Market}
use Rattle.mari_market.specs.declared.activation.Activation.{Activation}
use Rattle.mari_market.specs.Consistent.{IsConsistentBorder}
use Rattle.mari_market.specs.Market.{IsValid, IsValidBorder}
use Rattle.mari_market.specs.Price.{price_at}
use Rattle.mari_market.specs.Sums.{int_sum, sum_along}
use Rattle.mari_market.proofs.Ints.{sub-mul_z}
use Rattle.mari_market.proofs.Sums.{spread, sum_below, sum_below-+, sum_below-place, sum_below-same, int_sum-map, sum_below--}
use Rattle.mari_market.proofs.Surplus.{rent_at_least_0}
use Rattle.mari_settle.specs.Ledger.{rent_of, rents_of, half_of, operator_at, share_of, operator_rent, carried_in, net_import, payment_at, operator_payment, operator_line, operator_lines, net_of}
use Rattle.mari_settle.specs.Lines.{map_along}
use Rattle.mari_settle.proofs.Lists.{range_sum_more}

pub All-map_along : {X Y Z : Type 0} (f : X → Y → Z) (P : X → Y → Type 0) (Q : Z → Type 0)
    → ((x : X) (y : Y) → P x y → Q (f x y)) → (xs : List X) (ys : List Y) → AllZip P xs ys → All Q (map_along f xs ys)
All-map_along f P Q h [] [] a = λ k d l. absurd (omega arith)
All-map_along f P Q h (x ∷ xs) (y ∷ ys) a = All-cons Q (f x y) (map_along f xs ys) (h x y a.0) (All-map_along f P Q h xs ys a.1)
All-map_along f P Q h [] (y ∷ ys) a = absurd a
All-map_along f P Q h (x ∷ xs) [] a = absurd a

-- at consistent prices no border loses
pub no_rent_below_0 : (m : Market) (a : Activation) (ps : List Cents) → AllZip (IsConsistentBorder ps) m.borders a.flow → All (λ (rent : Quarters). pos 0 ≤ℤ rent.0) (rents_of m a ps)
no_rent_below_0 m a ps h = All-map_along (λ b f. record { 0 = rent_of ps b f }) (IsConsistentBorder ps) (λ (rent : Quarters). pos 0 ≤ℤ rent.0) (rent_at_least_0 ps) m.borders a.flow h

one_times : (v : ℤ) → pos 1 *ℤ v ≡ v
one_times v = omega (arith, ints)

sum_below-zeros : (n : ℕ) → sum_below n (λ z. pos 0) ≡ pos 0
sum_below-zeros zero = refl
sum_below-zeros (suc n) = omega (arith, ints, sum_below-zeros n)

sum_below-add : (f g : ℕ → ℤ) (n : ℕ) → sum_below n (λ z. f z +ℤ g z) ≡ sum_below n f +ℤ sum_below n g
sum_below-add f g zero = refl
sum_below-add f g (suc n) = omega (arith, ints, sum_below-add f g n)

sum_below-sub : (f g : ℕ → ℤ) (n : ℕ) → sum_below n (λ z. f z -ℤ g z) ≡ sum_below n f -ℤ sum_below n g
sum_below-sub f g zero = refl
sum_below-sub f g (suc n) = omega (arith, ints, sum_below-sub f g n)

-- two sums in either order
sum_below-swap : (g : ℕ → ℕ → ℤ) (n s : ℕ) → sum_below n (λ k. sum_below s (g k)) ≡ sum_below s (λ z. sum_below n (λ k. g k z))
sum_below-swap g n zero = sum_below-zeros n
sum_below-swap g n (suc s) = sum_below-add (λ k. sum_below s (g k)) (λ k. g k s) n ∙ ap (λ v. v +ℤ sum_below n (λ k. g k s)) (sum_below-swap g n s)

-- only the term at the place counts
sum_below-point : (k : ℕ) (v : ℤ) (n : ℕ) → k < n → sum_below n (λ z. if k == z then v else pos 0) ≡ v
sum_below-point k v n h =
    sum_below-same n (λ z. if k == z then v else pos 0) (λ z. pos 1 *ℤ (if k == z then v else pos 0)) (λ z l. sym (one_times (if k == z then v else pos 0)))
    ∙ sum_below-place (λ z. pos 1) k v n h
    ∙ one_times v

pub range_is_below : (f : ℕ → ℤ) (n : ℕ) → int_sum f (range_with_len 0 n) ≡ sum_below n f
range_is_below f zero = refl
range_is_below f (suc n) =
    let e : suc n ≡ n + 1 = omega arith in
    let k : 0 + n ≡ n = omega arith in
    ap (λ (m : ℕ). int_sum f (range_with_len 0 m)) e ∙ range_sum_more f 0 n ∙ ap (λ (m : ℕ). int_sum f (range_with_len 0 n) +ℤ f m) k ∙ ap (λ v. v +ℤ f n) (range_is_below f n)

-- a border's rent is what its flow brings to each zone at that zone's price
rent_by_zones : (ps : List Cents) (n : ℕ) (b : Border) (f : ℤ) → IsValidBorder n b → rent_of ps b f ≡ sum_below n (λ z. price_at ps z *ℤ carried_in z b f)
rent_by_zones ps n b f v =
    let p = λ (z : ℕ). price_at ps z in
    omega (
      arith,
      ints,
      sub-mul_z (p b.to) (p b.from) f,
      sum_below-- p (λ z. if b.to == z then f else pos 0) (λ z. if b.from == z then f else pos 0) n,
      sum_below-place p b.to f n v.to,
      sum_below-place p b.from f n v.from,
    )

-- so all rents are the worth of all net imports
rents_by_zones : (m : Market) (a : Activation) (ps : List Cents) → IsValid m → sum_along (rent_of ps) m.borders a.flow ≡ sum_below m.zones (λ z. price_at ps z *ℤ net_import m a z)
rents_by_zones m a ps v = spread (λ z. price_at ps z) m.zones (rent_of ps) carried_in (IsValidBorder m.zones) (λ b f k. rent_by_zones ps m.zones b f k) m.borders a.flow v.borders

operator_there : (zones : ZoneBook) → HasOperators zones → (z : ℕ) → z < length zones.zones → operator_at zones z < length zones.operators
operator_there zones h z l = h.there z 0 (omega (arith, h.one_each))

-- what all operators are paid is the worth of all net imports
payments_by_zones : (zones : ZoneBook) (m : Market) (a : Activation) (ps : List Cents) → HasOperators zones
    → m.zones ≡ length zones.zones
    → sum_below (length zones.operators) (operator_payment zones m a ps) ≡ sum_below m.zones (λ z. price_at ps z *ℤ net_import m a z)
payments_by_zones zones m a ps h e =
    let n = length zones.operators in
    sum_below-same n (operator_payment zones m a ps) (λ k. sum_below m.zones (payment_at zones m a ps k)) (λ k l. range_is_below (payment_at zones m a ps k) m.zones)
    ∙ sum_below-swap (payment_at zones m a ps) n m.zones
    ∙ sum_below-same m.zones (λ z. sum_below n (λ k. payment_at zones m a ps k z)) (λ z. price_at ps z *ℤ net_import m a z)
    (λ z l. sum_below-point (operator_at zones z) (price_at ps z *ℤ net_import m a z) n (operator_there zones h z (omega (arith, e))))

-- the shares of a rent make up the rent
shares_sum : (first second n : ℕ) (rent : ℤ) → first < n → second < n → rent ≡ sum_below n (λ k. pos 1 *ℤ share_of first second k rent)
shares_sum first second n rent h l =
    omega (
      arith,
      ints,
      sum_below-+ (λ k. pos 1) (λ k. if first == k then rent -ℤ half_of rent else pos 0) (λ k. if second == k then half_of rent else pos 0) n,
      sum_below-place (λ k. pos 1) first (rent -ℤ half_of rent) n h,
      sum_below-place (λ k. pos 1) second (half_of rent) n l,
    )

-- so all operators' rents are all rents
rents_by_operators : (zones : ZoneBook) (m : Market) (a : Activation) (ps : List Cents) → HasOperators zones
    → m.zones ≡ length zones.zones → IsValid m
    → sum_along (rent_of ps) m.borders a.flow ≡ sum_below (length zones.operators) (operator_rent zones m a ps)
rents_by_operators zones m a ps h e v =
    let n = length zones.operators in
    let share = λ (k : ℕ) (b : Border) (f : ℤ). share_of (operator_at zones b.from) (operator_at zones b.to) k (rent_of ps b f) in
    spread (λ k. pos 1) n (rent_of ps) share (IsValidBorder m.zones)
    (λ b f k. shares_sum (operator_at zones b.from) (operator_at zones b.to) n (rent_of ps b f) (operator_there zones h b.from (omega (arith, e, k.from)))
    (operator_there zones h b.to (omega (arith, e, k.to))))
    m.borders a.flow v.borders
    ∙ sum_below-same n (λ k. pos 1 *ℤ operator_rent zones m a ps k) (operator_rent zones m a ps) (λ k l. one_times (operator_rent zones m a ps k))

-- what all operators pay and get sums to 0
pub nets_sum_to_0 : (zones : ZoneBook) (m : Market) (a : Activation) (ps : List Cents) → HasOperators zones
    → m.zones ≡ length zones.zones → IsValid m → int_sum net_of (operator_lines zones m a ps) ≡ pos 0
nets_sum_to_0 zones m a ps h e v =
    let n = length zones.operators in
    let line = operator_line zones m a ps in
    int_sum-map net_of line (range_with_len 0 n)
    ∙ range_is_below (λ k. net_of (line k)) n
    ∙ sum_below-sub (operator_payment zones m a ps) (operator_rent zones m a ps) n
    ∙ omega (arith, ints, payments_by_zones zones m a ps h e, rents_by_zones m a ps v, rents_by_operators zones m a ps h e v)
