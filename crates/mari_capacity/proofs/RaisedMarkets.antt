-- A market with one limit raised: what still lies within it, and what its potentials are worth.
use Rattle.std.proofs.Common.{◌≡◌, ◌∙◌, Bool, true, false, ℕ, zero, suc, ◌+◌, ◌<◌, ◌≤◌, ℤ, pos, negsuc, ◌+ℤ◌, ◌-ℤ◌, ◌*ℤ◌, ◌≤ℤ◌, List, [], ◌∷◌, length, get_or, set, arith, refl, sym, ap}
use Rattle.std.specs.Int.{int_max}
use Rattle.std.specs.List.{AllZip}
use Rattle.std.proofs.lemmas.Int.{ints, clamps}
use Rattle.std.proofs.lemmas.List.{length-set}
use Rattle.std.proofs.lemmas.List.Elements.{All-set, All-get_or}
use Rattle.mari_units.specs.declared.numbers.Cents.{Cents}
use Rattle.mari_market.specs.declared.market.Order.{Order}
use Rattle.mari_market.specs.declared.market.Border.{Border}
use Rattle.mari_market.specs.declared.market.Market.{Market}
use Rattle.mari_market.specs.declared.activation.Activation.{Activation}
use Rattle.mari_market.specs.Activation.{IsWithinLimits, carried_out}
use Rattle.mari_market.specs.Bounds.{Span}
use Rattle.mari_market.specs.Dual.{best_border, dual_value_of}
use Rattle.mari_market.specs.Market.{IsValid, IsValidBorder}
use Rattle.mari_market.specs.Price.{price_at}
use Rattle.mari_market.specs.Relaxation.{IsWithinBounds}
use Rattle.mari_market.specs.Sums.{int_sum, sum_along}
use Rattle.mari_market.proofs.Ints.{mul-add_z, negsuc_mul_le, pos_mul_le}
use Rattle.mari_network.specs.Network.{border_at, no_border}
use Rattle.mari_capacity.specs.declared.raising.Raise.{Raise}
use Rattle.mari_capacity.specs.Raised.{raised_border, raised_limit, raised_market}
use Rattle.mari_network.specs.Chain.{head_of, tail_of}
use Rattle.mari_capacity.specs.Rise.{rise_of}

-- ---- one item of a list is another

-- the sum changes by the difference of the two
int_sum-set : {X : Type 0} (f : X → ℤ) (xs : List X) (i : ℕ) (x d : X) → i < length xs → int_sum f (set xs i x) +ℤ f (get_or xs i d) ≡ int_sum f xs +ℤ f x
int_sum-set f [] i x d h = absurd (omega arith)
int_sum-set f (y ∷ ys) zero x d h = omega (arith, ints)
int_sum-set f (y ∷ ys) (suc i) x d h = omega (arith, ints, int_sum-set f ys i x d (omega arith))

-- a sum along another list stays, where both add the same
along-set : {X Y : Type 0} (f : X → Y → ℤ) (xs : List X) (ys : List Y) (i : ℕ) (x d : X) → i < length xs → ((y : Y) → f x y ≡ f (get_or xs i d) y) → sum_along f (set xs i x) ys ≡ sum_along f xs ys
along-set f [] ys i x d h same = absurd (omega arith)
along-set f (z ∷ zs) [] zero x d h same = refl
along-set f (z ∷ zs) [] (suc i) x d h same = refl
along-set f (z ∷ zs) (y ∷ ys) zero x d h same = ap (λ (v : ℤ). v +ℤ sum_along f zs ys) (same y)
along-set f (z ∷ zs) (y ∷ ys) (suc i) x d h same = ap (λ (v : ℤ). f z y +ℤ v) (along-set f zs ys i x d (omega arith) same)

-- what holds along another list still does, where it holds of the new item too
zip-set : {X Y : Type 0} (P : X → Y → Type 0) (xs : List X) (ys : List Y) (i : ℕ) (x d : X) → i < length xs → ((y : Y) → P (get_or xs i d) y → P x y) → AllZip P xs ys → AllZip P (set xs i x) ys
zip-set P (z ∷ zs) (y ∷ ys) zero x d h more a = (more y a.0, a.1)
zip-set P (z ∷ zs) (y ∷ ys) (suc i) x d h more a = (a.0, zip-set P zs ys i x d (omega arith) more a.1)
zip-set P xs ys i x d h more a = grind arith

-- ---- one limit

pub limit-raised : (limit more : ℕ) → limit ≤ 199998 → (limit ≤ raised_limit limit more) × (raised_limit limit more ≤ limit + more) × (raised_limit limit more ≤ 199998)
limit-raised limit more small = (omega (arith, small), omega arith, omega arith)

-- the border is valid still
pub border-valid : (n : ℕ) (forth : Bool) (more : ℕ) (b : Border) → IsValidBorder n b → IsValidBorder n (raised_border forth more b)
border-valid n true more b v = record { from = v.from; to = v.to; apart = v.apart; limit = (limit-raised b.limit more v.limit).2; back = v.back }
border-valid n false more b v = record { from = v.from; to = v.to; apart = v.apart; limit = v.limit; back = (limit-raised b.back more v.back).2 }

wider : (n : ℕ) (forth : Bool) (more : ℕ) (b : Border) (f : ℤ) → IsValidBorder n b → IsWithinLimits b f → IsWithinLimits (raised_border forth more b) f
wider n true more b f v w = let l = (limit-raised b.limit more v.limit).0 in record { back = w.back; limit = omega (arith, ints, w.limit, l) }
wider n false more b f v w = let l = (limit-raised b.back more v.back).0 in record { back = omega (arith, ints, w.back, l); limit = w.limit }

same-carried : (forth : Bool) (more : ℕ) (b : Border) (z : ℕ) (f : ℤ) → carried_out z (raised_border forth more b) f ≡ carried_out z b f
same-carried true more b z f = refl
same-carried false more b z f = refl

-- ---- what a limit earns

-- a limit that is raised by at most `more` MW earns at most `more` times the difference of the prices more, and nothing
-- more where the difference is below 0
earned-more : (gap : ℤ) (limit raised more : ℕ) → limit ≤ raised → raised ≤ limit + more → (gap *ℤ pos raised) ≤ℤ ((gap *ℤ pos limit) +ℤ (pos more *ℤ int_max (pos 0) gap))
earned-more (pos n) limit raised more l h =
    let most = pos_mul_le n (pos raised) (pos (limit + more)) (omega (arith, ints, h)) in
    let both = mul-add_z (pos n) (pos limit) (pos more) in
    let own : int_max (pos 0) (pos n) ≡ pos n = omega (arith, ints, clamps) in
    let product : pos more *ℤ int_max (pos 0) (pos n) ≡ pos more *ℤ pos n = ap (λ (x : ℤ). pos more *ℤ x) own in
    omega (arith, ints, most, both, product)
earned-more (negsuc n) limit raised more l h =
    let least = negsuc_mul_le n (pos limit) (pos raised) (omega (arith, ints, l)) in
    let own : int_max (pos 0) (negsuc n) ≡ pos 0 = omega (arith, ints, clamps) in
    let product : pos more *ℤ int_max (pos 0) (negsuc n) ≡ pos more *ℤ pos 0 = ap (λ (x : ℤ). pos more *ℤ x) own in
    omega (arith, ints, least, product)

-- a rise is never negative
product-least : (more : ℕ) (gap : ℤ) → pos 0 ≤ℤ (pos more *ℤ int_max (pos 0) gap)
product-least more gap = let least = pos_mul_le more (pos 0) (int_max (pos 0) gap) (omega (arith, ints, clamps)) in omega (arith, ints, least)

pub rise-least : (ps : List Cents) (b : Border) (forth : Bool) (more : ℕ) → pos 0 ≤ℤ rise_of ps b forth more
rise-least ps b forth more = product-least more (price_at ps (head_of forth b) -ℤ price_at ps (tail_of forth b))

best-of-two : (x y z w d : ℤ) → y ≤ℤ (x +ℤ d) → w ≤ℤ (z +ℤ d) → pos 0 ≤ℤ d → int_max y w ≤ℤ (int_max x z +ℤ d)
best-of-two x y z w d h k l = omega (arith, ints, clamps, h, k, l)

best-raised : (ps : List Cents) (n : ℕ) (forth : Bool) (more : ℕ) (b : Border) → IsValidBorder n b → best_border ps (raised_border forth more b) ≤ℤ (best_border ps b +ℤ rise_of ps b forth more)
best-raised ps n true more b v =
    let r = limit-raised b.limit more v.limit in
    best-of-two ((price_at ps b.to -ℤ price_at ps b.from) *ℤ pos b.limit)
    ((price_at ps b.to -ℤ price_at ps b.from) *ℤ pos (raised_limit b.limit more)) ((price_at ps b.from -ℤ price_at ps b.to) *ℤ pos b.back)
    ((price_at ps b.from -ℤ price_at ps b.to) *ℤ pos b.back) (rise_of ps b true more)
    (earned-more (price_at ps b.to -ℤ price_at ps b.from) b.limit (raised_limit b.limit more) more r.0 r.1) (omega (arith, ints, rise-least ps b true more)) (rise-least ps b true more)
best-raised ps n false more b v =
    let r = limit-raised b.back more v.back in
    best-of-two ((price_at ps b.to -ℤ price_at ps b.from) *ℤ pos b.limit) ((price_at ps b.to -ℤ price_at ps b.from) *ℤ pos b.limit)
    ((price_at ps b.from -ℤ price_at ps b.to) *ℤ pos b.back) ((price_at ps b.from -ℤ price_at ps b.to) *ℤ pos (raised_limit b.back more))
    (rise_of ps b false more)
    (omega (arith, ints, rise-least ps b false more)) (earned-more (price_at ps b.from -ℤ price_at ps b.to) b.back (raised_limit b.back more) more r.0 r.1) (rise-least ps b false more)

-- ---- the market

module _ (m : Market) (v : IsValid m) (r : Raise) (there : r.border < length m.borders) where
  abbrev pub own : Border
  own = border_at m.borders r.border

  own-valid : IsValidBorder m.zones own
  own-valid = All-get_or (IsValidBorder m.zones) m.borders r.border no_border there v.borders

  -- it is as valid as before
  pub raised-valid : IsValid (raised_market m r)
  raised-valid =
      let as_many : length (raised_market m r).borders ≡ length m.borders = length-set m.borders r.border (raised_border r.forth r.more own) in
      record {
        zones = v.zones;
        few_borders = omega (arith, v.few_borders, as_many);
        few_orders = v.few_orders;
        few_gates = v.few_gates;
        borders = All-set (IsValidBorder m.zones) m.borders r.border (raised_border r.forth r.more own) (border-valid m.zones r.forth r.more own own-valid) v.borders;
        orders = v.orders;
        gates = λ g l. record { parent = (v.gates g l).parent; used = (v.gates g l).used };
        reference = v.reference;
      }

  -- what lay within the bounds still does
  pub raised-within : (bounds : Order → Span) (a : Activation) → IsWithinBounds bounds m a → IsWithinBounds bounds (raised_market m r) a
  raised-within bounds a w = record {
    orders = w.orders;
    borders = zip-set IsWithinLimits m.borders a.flow r.border (raised_border r.forth r.more own) no_border there (λ f h. wider m.zones r.forth r.more own f own-valid h) w.borders;
    balance = λ z l. w.balance z l ∙ sym (along-set (carried_out z) m.borders a.flow r.border (raised_border r.forth r.more own) no_border there (λ f. same-carried r.forth r.more own z f));
  }

  -- potentials are worth at most their rise more
  pub dual-raised : (bounds : Order → Span) (ps : List Cents) → dual_value_of bounds (raised_market m r) ps ≤ℤ (dual_value_of bounds m ps +ℤ rise_of ps own r.forth r.more)
  dual-raised bounds ps =
      let sums = int_sum-set (best_border ps) m.borders r.border (raised_border r.forth r.more own) no_border there in
      let best = best-raised ps m.zones r.forth r.more own own-valid in
      omega (arith, ints, sums, best)
