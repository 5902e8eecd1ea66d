-- What ladders gain is what their orders gain.
use Rattle.std.proofs.Common.{◌≡◌, if◌then◌else◌, Bool, true, false, ℕ, zero, suc, ◌+◌, ◌-◌, ◌==◌, ◌<◌, ◌≤◌, ℤ, pos, neg_ℤ, ◌+ℤ◌, ◌-ℤ◌, ◌*ℤ◌, ◌≤ℤ◌, ◌<ℤ◌, List, [], ◌∷◌, ◌++◌, Vec, Global, length, take, get_or, arith, ap, refl, sym, ◌∙◌, subst, inl, inr, nat_lt, Option, Some, None, Result}
use Rattle.std.specs.Int.{int_max}
use Rattle.std.proofs.lemmas.Int.{ints, clamps}
use Rattle.std.proofs.lemmas.Bool.{cases_lt}
use Rattle.std.proofs.lemmas.List.{length-append, length-take-le, get_or_default, get_or_push, take_more}
use Rattle.std.proofs.lemmas.List.Elements.{All-pop, All-push, All-head, All-tail}
use Rattle.std.specs.List.{All}
use Rattle.std.specs.List.Sorted.{IsPermutation}
use Rattle.std.specs.Option.{is_some}
use Rattle.std.specs.Result.{IfOk}
use lib.Signed.{lt_z}
use Rattle.mari_market.specs.declared.limits.TheConstants.{MOST_ORDERS, MOST_WORTH}
use Rattle.mari_units.specs.declared.limits.TheConstants.{MOST_MW}
use Rattle.mari_units.specs.declared.numbers.TheConstants.{CAP}
use Rattle.mari_market.specs.Price.{IsPrice}
use Rattle.mari_market.specs.declared.market.Side.{Side}
use Rattle.mari_market.specs.declared.market.Side.TheVariants.{Inject, Withdraw}
use Rattle.mari_market.specs.declared.market.Order.{Order}
use Rattle.mari_market.specs.declared.market.Market.{Market}
use Rattle.mari_market.specs.Market.{IsValidOrder}
use Rattle.mari_market.specs.Sums.{int_sum}
use Rattle.mari_market.proofs.Sums.{int_sum_more}
use Rattle.mari_market.proofs.Moved.{sum_moved, sum_push}
use Rattle.mari_market.proofs.Rising.{if_less, last_below_first, last_below_push, last_of, less, not_less, rises_on, rises_to}
use Rattle.mari_market.proofs.Ints.{mul-add_z, sub-mul_z, pos_mul_le, end_is_best}
use Rattle.mari_proofs.specs.declared.table.Offer.{Offer}
use Rattle.mari_proofs.specs.declared.table.Rung.{Rung}
use Rattle.mari_proofs.specs.Tables.{gain_at, gain_from, gain_of, ladder_at, last_rung, no_rung, of_gated, of_offer, offer_by, offer_of, rung_after, sum_below, zone_gain, AreLaddersOf, AreOffersOf, AreRising, IsLadderOf, IsOffer, IsSmallRung}

-- what is read past the end of a list of orders
abbrev pub no_order : Order
no_order = record { zone = 0; side = Inject; price = record { 0 = pos 0 }; least = 0; greatest = 0; gate = None }

-- what is read past the end of a list of offers
abbrev pub no_offer : Offer
no_offer = record { zone = 0; price = pos 0; mw = 0 }

-- the first n rungs are those that cost less than a level, which is read as another number
pub gain_first : (n : ℕ) (p q : ℤ) (rs : List Rung) → q ≡ p → n ≤ length rs
    → ((k : ℕ) (d : Rung) → k < n → (get_or rs k d).price <ℤ q)
    → ((k : ℕ) (d : Rung) → n ≤ k → k < length rs → q ≤ℤ (get_or rs k d).price)
    → last_of (gain_of p) n (pos 0) rs no_rung ≡ gain_from p (pos 0) rs
gain_first n p q rs e l below rest =
    subst (λ (x : ℤ). last_of (gain_of x) n (pos 0) rs no_rung ≡ gain_from x (pos 0) rs) e (sym (last_below_first (λ (r : Rung). r.price) (gain_of q) n q (pos 0) rs no_rung l below rest))

last_push : (rs : List Rung) (r : Rung) → last_rung (rs ++ r ∷ []) ≡ r
last_push rs r = get_or_push rs r no_rung (length (rs ++ r ∷ []) - 1) (omega (arith, length-append rs (r ∷ [])))

-- the last rung is small
pub last_small : (n : ℕ) (rs : List Rung) → All (IsSmallRung n) rs → IsSmallRung n (last_rung rs)
last_small n [] a = record { mw = omega arith; low = omega (arith, ints); high = omega (arith, ints) }
last_small n (r ∷ rs) a = a (length (r ∷ rs) - 1) no_rung (omega arith)

-- what one offer more gains
more_gain : (p worth price : ℤ) (before mw : ℕ) → p *ℤ pos (before + mw) -ℤ (worth +ℤ price *ℤ pos mw) ≡ (p *ℤ pos before -ℤ worth) +ℤ (p -ℤ price) *ℤ pos mw
more_gain p worth price before mw =
    let both : pos (before + mw) ≡ pos before +ℤ pos mw = omega (arith, ints) in
    omega (arith, ints, ap (λ (x : ℤ). p *ℤ x) both, mul-add_z p (pos before) (pos mw), sub-mul_z p price (pos mw))

gains : (gap : ℤ) (mw : ℕ) → pos 0 ≤ℤ gap → int_max (pos 0) (gap *ℤ pos mw) ≡ gap *ℤ pos mw
gains gap mw h = omega (arith, ints, clamps, end_is_best gap (pos 0) (pos mw) (pos mw) (omega (arith, ints)) (omega (arith, ints)) (λ l. h) (λ l. absurd (omega (arith, ints, l))))

loses : (gap : ℤ) (mw : ℕ) → gap ≤ℤ pos 0 → int_max (pos 0) (gap *ℤ pos mw) ≡ pos 0
loses gap mw h = omega (arith, ints, clamps, end_is_best gap (pos 0) (pos 0) (pos mw) (omega (arith, ints)) (omega (arith, ints)) (λ l. absurd (omega (arith, ints, l))) (λ l. h))

slot_more : (b : Bool) (p below whole sum : ℤ) (r : Rung) (x : Offer) → lt_z x.price p ≡ b → below ≡ sum → (b ≡ true → below ≡ whole)
    → gain_of p r ≡ whole +ℤ (p -ℤ x.price) *ℤ pos x.mw → (if b then gain_of p r else below) ≡ sum +ℤ gain_at p x
slot_more true p below whole sum r x is s w g = omega (arith, ints, s, w refl, g, gains (p -ℤ x.price) x.mw (omega (arith, ints, less x.price p is)))
slot_more false p below whole sum r x is s w g = omega (arith, ints, s, loses (p -ℤ x.price) x.mw (omega (arith, ints, not_less x.price p is)))

zone_here : (z : ℕ) (p : ℤ) (x : Offer) → x.zone ≡ z → zone_gain z p x ≡ gain_at p x
zone_here z p x e = by x.zone (gain_at p x) e
  where
    by : (y : ℕ) (v : ℤ) → y ≡ z → (if y == z then v else pos 0) ≡ v
    by y v e = grind (arith)

zone_elsewhere : (z : ℕ) (p : ℤ) (x : Offer) → (x.zone ≡ z → ⊥) → zone_gain z p x ≡ pos 0
zone_elsewhere z p x n = by x.zone (gain_at p x) n
  where
    by : (y : ℕ) (v : ℤ) → (y ≡ z → ⊥) → (if y == z then v else pos 0) ≡ pos 0
    by y v n = grind (arith)

wider : (n m : ℕ) (r : Rung) → n ≤ m → IsSmallRung n r → IsSmallRung m r
wider n m r l s = record { mw = omega (arith, l, s.mw); low = omega (arith, ints, l, s.low); high = omega (arith, ints, l, s.high) }

-- one offer more of the zone
pub ladder_take : (z : ℕ) (before : List Offer) (x : Offer) (rungs : List Rung) → x.zone ≡ z
    → All (λ (y : Offer). y.price ≤ℤ x.price) before → IsSmallRung (length before + 1) (rung_after (last_rung rungs) x)
    → IsLadderOf z before rungs → IsLadderOf z (before ++ x ∷ []) (rungs ++ rung_after (last_rung rungs) x ∷ [])
ladder_take z before x rungs e up small a =
    let new = rung_after (last_rung rungs) x in
    let long : length (before ++ x ∷ []) ≡ length before + 1 = omega (arith, length-append before (x ∷ [])) in
    record {
      rising = rises_on (λ (r : Rung). r.price) rungs new a.rising (a.cheap x.price up);
      small = subst (λ (n : ℕ). All (IsSmallRung n) (rungs ++ new ∷ [])) (sym long)
          (All-push (IsSmallRung (length before + 1)) rungs new (λ k d l. wider (length before) (length before + 1) (get_or rungs k d) (omega arith) (a.small k d l)) small);
      cheap = λ p h. All-push (λ (r : Rung). r.price ≤ℤ p) rungs new (a.cheap p (All-pop (λ (y : Offer). y.price ≤ℤ p) (before ++ x ∷ []) before (Some x) refl h).0)
          (All-pop (λ (y : Offer). y.price ≤ℤ p) (before ++ x ∷ []) before (Some x) refl h).1;
      whole = λ p h.
          last_below_push (λ (r : Rung). r.price) (gain_of p) p (pos 0) rungs new
          ∙ if_less x.price p (gain_of p new) (gain_from p (pos 0) rungs) (All-pop (λ (r : Rung). r.price <ℤ p) (rungs ++ new ∷ []) rungs (Some new) refl h).1
          ∙ ap (gain_of p) (sym (last_push rungs new));
      gain = λ p.
          last_below_push (λ (r : Rung). r.price) (gain_of p) p (pos 0) rungs new
          ∙ slot_more (lt_z x.price p) p (gain_from p (pos 0) rungs) (gain_of p (last_rung rungs)) (int_sum (zone_gain z p) before) new x refl (a.gain p)
          (λ b. a.whole p (λ k d l. omega (arith, ints, less x.price p b, a.cheap x.price up k d l)))
          (more_gain p (last_rung rungs).worth x.price (last_rung rungs).mw x.mw)
          ∙ ap (λ (v : ℤ). int_sum (zone_gain z p) before +ℤ v) (sym (zone_here z p x e))
          ∙ sym (sum_push (zone_gain z p) before x);
    }

-- or of another
pub ladder_skip : (z : ℕ) (before : List Offer) (x : Offer) (rungs : List Rung) → (x.zone ≡ z → ⊥) → IsLadderOf z before rungs → IsLadderOf z (before ++ x ∷ []) rungs
ladder_skip z before x rungs other a = record {
  rising = a.rising;
  small = λ k d l. wider (length before) (length (before ++ x ∷ [])) (get_or rungs k d) (omega (arith, length-append before (x ∷ []))) (a.small k d l);
  cheap = λ p h. a.cheap p (All-pop (λ (y : Offer). y.price ≤ℤ p) (before ++ x ∷ []) before (Some x) refl h).0;
  whole = a.whole;
  gain = λ p. a.gain p ∙ omega (arith, ints, zone_elsewhere z p x other, sum_push (zone_gain z p) before x);
}

sum_below_same : (f g : ℕ → ℤ) (n : ℕ) → ((z : ℕ) → z < n → f z ≡ g z) → sum_below f n ≡ sum_below g n
sum_below_same f g zero e = refl
sum_below_same f g (suc n) e = omega (arith, ints, sum_below_same f g n (λ z l. e z (omega (arith, l))), e n (omega arith))

sum_below_zero : (n : ℕ) → sum_below (λ z. pos 0) n ≡ pos 0
sum_below_zero zero = refl
sum_below_zero (suc n) = omega (arith, ints, sum_below_zero n)

sum_below_both : (f g : ℕ → ℤ) (n : ℕ) → sum_below (λ z. f z +ℤ g z) n ≡ sum_below f n +ℤ sum_below g n
sum_below_both f g zero = refl
sum_below_both f g (suc n) = omega (arith, ints, sum_below_both f g n)

-- an offer gains in no other zone than its own
none_past : (levels : ℕ → ℤ) (x : Offer) (n : ℕ) → n ≤ x.zone → sum_below (λ z. zone_gain z (levels z) x) n ≡ pos 0
none_past levels x zero l = refl
none_past levels x (suc n) l = omega (arith, ints, none_past levels x n (omega (arith, l)), zone_elsewhere n (levels n) x (λ e. omega (arith, l, e)))

one_zone : (levels : ℕ → ℤ) (x : Offer) (n : ℕ) → x.zone < n → sum_below (λ z. zone_gain z (levels z) x) n ≡ gain_at (levels x.zone) x
one_zone levels x zero l = absurd (omega (arith, l))
one_zone levels x (suc n) l = elim (cases_lt x.zone n) [
  | inl b ↦ omega (arith, ints, one_zone levels x n b, zone_elsewhere n (levels n) x (λ e. omega (arith, b, e)))
  | inr b ↦
      let e : x.zone ≡ n = omega (arith, l, b) in
      omega (arith, ints, none_past levels x n b, zone_here n (levels n) x e, ap (λ (z : ℕ). gain_at (levels z) x) e)
]

-- what the zones' offers gain together is what all gain
pub all_zones : (levels : ℕ → ℤ) (n : ℕ) (xs : List Offer) → All (λ (x : Offer). x.zone < n) xs
    → sum_below (λ z. int_sum (zone_gain z (levels z)) xs) n ≡ int_sum (λ (x : Offer). gain_at (levels x.zone) x) xs
all_zones levels n [] a = sum_below_zero n
all_zones levels n (x ∷ xs) a =
    omega (
      arith,
      ints,
      sum_below_both (λ z. zone_gain z (levels z) x) (λ z. int_sum (zone_gain z (levels z)) xs) n,
      one_zone levels x n (All-head (λ (y : Offer). y.zone < n) x xs a),
      all_zones levels n xs (All-tail (λ (y : Offer). y.zone < n) x xs a),
    )

pub all_ladders : (levels : ℕ → ℤ) (n : ℕ) (xs : List Offer) (ladders : ℕ → List Rung) → All (λ (x : Offer). x.zone < n) xs
    → ((z : ℕ) → z < n → IsLadderOf z xs (ladders z))
    → sum_below (λ z. gain_from (levels z) (pos 0) (ladders z)) n ≡ int_sum (λ (x : Offer). gain_at (levels x.zone) x) xs
all_ladders levels n xs ladders a each =
    sum_below_same (λ z. gain_from (levels z) (pos 0) (ladders z)) (λ z. int_sum (zone_gain z (levels z)) xs) n (λ z l. (each z l).gain (levels z))
    ∙ all_zones levels n xs a

-- the ladder of a zone, as it is read
pub ladder_read : (ladders : List (Vec Rung Global)) (z : ℕ) (d : Vec Rung Global) → z < length ladders → (get_or ladders z d).items ≡ ladder_at ladders z
ladder_read (v ∷ vs) (suc z) d l = ladder_read vs z d (omega (arith, l))
ladder_read _ _ d l = grind arith

-- a rung by its fields
pub rung_is : (x : Offer) (before last : Rung) (price worth : ℤ) → price ≡ x.price → before ≡ last → worth ≡ before.worth +ℤ x.price *ℤ pos x.mw
    → record { price = price; mw = before.mw + x.mw; worth = worth } ≡ rung_after last x
rung_is x before last price worth p same w =
    ap (λ (v : ℤ). record { price = v; mw = before.mw + x.mw; worth = worth }) p
    ∙ ap (λ (v : ℤ). record { price = x.price; mw = before.mw + x.mw; worth = v }) w
    ∙ ap (λ (r : Rung). rung_after r x) same

some_is : {X : Type 0} (P : X → Type 0) (x y : X) → Some x ≡ Some y → P x → P y
some_is P x y e p = let same : x ≡ y = cc in subst P same p

offer_by_is : (zones gates : ℕ) (gate : Option ℕ) (side own : Side) (o : Order) (x : Offer) → IsValidOrder zones gates o → offer_by gate side own o ≡ Some x → IsOffer zones x
offer_by_is zones gates None Inject Inject o x v e =
    some_is (IsOffer zones) (record { zone = o.zone; price = o.price.0; mw = o.greatest }) x e (record { zone = v.zone; price = v.price; small = v.small })
offer_by_is zones gates None Withdraw Withdraw o x v e =
    some_is (IsOffer zones) (record { zone = o.zone; price = neg_ℤ o.price.0; mw = o.greatest }) x e
    (record { zone = v.zone; price = record { low = omega (arith, ints, v.price.high); high = omega (arith, ints, v.price.low) }; small = v.small })
offer_by_is zones gates _ _ _ o x v e = grind arith

-- the offer of a valid order is one
pub is_offer : (zones gates : ℕ) (side : Side) (o : Order) (x : Offer) → IsValidOrder zones gates o → offer_of side o ≡ Some x → IsOffer zones x
is_offer zones gates side o x v e = offer_by_is zones gates o.gate side o.side o x v e

-- one order more, with an offer on the side's ladders or none
pub offers_take : (side : Side) (os : List Order) (i : ℕ) (d : Order) (xs new : List Offer) (x : Offer) → i < length os
    → offer_of side (get_or os i d) ≡ Some x → new ≡ xs ++ x ∷ [] → AreOffersOf side (take i os) xs → AreOffersOf side (take (i + 1) os) new
offers_take side os i d xs new x l e n a = λ f.
    ap (int_sum f) n ∙ sum_push f xs x ∙ ap (λ (v : ℤ). v +ℤ f x) (a f)
    ∙ ap (λ (v : Option Offer). int_sum (λ (o : Order). of_offer f (offer_of side o)) (take i os) +ℤ of_offer f v) (sym e)
    ∙ sym (int_sum_more (λ (o : Order). of_offer f (offer_of side o)) os i d l)

pub offers_skip : (side : Side) (os : List Order) (i : ℕ) (d : Order) (xs : List Offer) → i < length os
    → offer_of side (get_or os i d) ≡ None → AreOffersOf side (take i os) xs → AreOffersOf side (take (i + 1) os) xs
offers_skip side os i d xs l e a = λ f.
    omega (arith, ints, a f, ap (of_offer f) e, int_sum_more (λ (o : Order). of_offer f (offer_of side o)) os i d l)

some_gate : (f : Order → ℤ) (gate : Option ℕ) (o : Order) → is_some gate ≡ true → of_gated f gate o ≡ f o
some_gate f gate o e = grind arith

no_gate : (f : Order → ℤ) (gate : Option ℕ) (o : Order) → is_some gate ≡ false → of_gated f gate o ≡ pos 0
no_gate f gate o e = grind arith

-- one order more, of a gate or plain
pub gated_take : (os : List Order) (i : ℕ) (d : Order) (xs new : List Order) → i < length os
    → is_some (get_or os i d).gate ≡ true → new ≡ xs ++ get_or os i d ∷ []
    → ((f : Order → ℤ) → int_sum f xs ≡ int_sum (λ (q : Order). of_gated f q.gate q) (take i os))
    → (f : Order → ℤ) → int_sum f new ≡ int_sum (λ (q : Order). of_gated f q.gate q) (take (i + 1) os)
gated_take os i d xs new l s n a = λ f.
    omega (
      arith,
      ints,
      ap (int_sum f) n,
      sum_push f xs (get_or os i d),
      a f,
      some_gate f (get_or os i d).gate (get_or os i d) s,
      int_sum_more (λ (q : Order). of_gated f q.gate q) os i d l,
    )

pub gated_skip : (os : List Order) (i : ℕ) (d : Order) (xs : List Order) → i < length os → is_some (get_or os i d).gate ≡ false
    → ((f : Order → ℤ) → int_sum f xs ≡ int_sum (λ (q : Order). of_gated f q.gate q) (take i os))
    → (f : Order → ℤ) → int_sum f xs ≡ int_sum (λ (q : Order). of_gated f q.gate q) (take (i + 1) os)
gated_skip os i d xs l s a = λ f.
    omega (arith, ints, a f, no_gate f (get_or os i d).gate (get_or os i d) s, int_sum_more (λ (q : Order). of_gated f q.gate q) os i d l)

-- a sum over the offers in another order is one over the orders
pub offers_moved : (side : Side) (os : List Order) (xs ys : List Offer) → IsPermutation xs ys → AreOffersOf side os xs → AreOffersOf side os ys
offers_moved side os xs ys same a = λ f. sum_moved f xs ys same ∙ a f

vec_at : {X : Type 0} (xs : List X) (z : ℕ) → z < length xs → X
vec_at [] z l = absurd (omega (arith, l))
vec_at (x ∷ xs) z l = x

-- the ladders of all offers of a side
pub side_is : (m : Market) (side : Side) (xs : List Offer) (ladders : List (Vec Rung Global)) → length ladders ≡ m.zones → length xs ≤ MOST_ORDERS
    → All (IsOffer m.zones) xs → AreOffersOf side m.orders xs
    → ((z : ℕ) (d : Vec Rung Global) → z < m.zones → IsLadderOf z xs (get_or ladders z d).items) → AreLaddersOf m side ladders
side_is m side xs ladders long few fine once each =
    record {
      one_each = long;
      each = λ z l. record { rising = (at z l).rising; small = λ k d h. wider (length xs) MOST_ORDERS (get_or (ladder_at ladders z) k d) few ((at z l).small k d h) };
      gain = λ levels. all_ladders levels m.zones xs (ladder_at ladders) (λ k d h. (fine k d h).zone) at ∙ once (λ (x : Offer). gain_at (levels x.zone) x);
    }
  where
    at : (z : ℕ) → z < m.zones → IsLadderOf z xs (ladder_at ladders z)
    at z l = let v = vec_at ladders z (omega (arith, l, long)) in subst (IsLadderOf z xs) (ladder_read ladders z v (omega (arith, l, long))) (each z v l)

-- the worth of one offer
small_worth : (price : ℤ) (mw : ℕ) → IsPrice price → mw ≤ MOST_MW → (neg_ℤ (pos MOST_WORTH) ≤ℤ (price *ℤ pos mw)) × ((price *ℤ pos mw) ≤ℤ pos MOST_WORTH)
small_worth price mw p l =
    (omega (arith, ints, pos_mul_le mw (neg_ℤ CAP) price p.low, l), omega (arith, ints, pos_mul_le mw price CAP p.high, l))

next_small : (n : ℕ) (last : Rung) (x : Offer) (zones : ℕ) → IsSmallRung n last → IsOffer zones x → IsSmallRung (n + 1) (rung_after last x)
next_small n last x zones a f =
    let w = small_worth x.price x.mw f.price f.small in
    record { mw = omega (arith, a.mw, f.small); low = omega (arith, ints, a.low, w.0); high = omega (arith, ints, a.high, w.1) }

-- one offer more on its zone's ladder, which has a place for it
pub ladder_take_at : (offers : List Offer) (i : ℕ) (e : Offer) (rungs new : List Rung) (n : ℕ) → AreRising offers → i < length offers
    → All (IsOffer n) offers → new ≡ rungs ++ rung_after (last_rung rungs) (get_or offers i e) ∷ []
    → IsLadderOf (get_or offers i e).zone (take i offers) rungs → IsLadderOf (get_or offers i e).zone (take (i + 1) offers) new
ladder_take_at offers i e rungs new n up l fine is a =
    let x = get_or offers i e in
    let long : length (take i offers) ≡ i = length-take-le i offers (omega (arith, l)) in
    subst (IsLadderOf x.zone (take (i + 1) offers)) (sym is)
    (subst (λ (xs : List Offer). IsLadderOf x.zone xs (rungs ++ rung_after (last_rung rungs) x ∷ [])) (sym (take_more offers i e l))
    (ladder_take x.zone (take i offers) x rungs refl (rises_to (λ (y : Offer). y.price) offers i e up l)
    (next_small (length (take i offers)) (last_rung rungs) x n (last_small (length (take i offers)) rungs a.small) (fine i e l)) a))

pub ladder_skip_at : (z : ℕ) (offers : List Offer) (i : ℕ) (e : Offer) (rungs : List Rung) → i < length offers
    → ((get_or offers i e).zone ≡ z → ⊥) → IsLadderOf z (take i offers) rungs → IsLadderOf z (take (i + 1) offers) rungs
ladder_skip_at z offers i e rungs l other a =
    subst (λ (xs : List Offer). IsLadderOf z xs rungs) (sym (take_more offers i e l)) (ladder_skip z (take i offers) (get_or offers i e) rungs other a)

-- a ladder of few offers has small rungs
pub ladder_small : (z i : ℕ) (offers : List Offer) (rungs : List Rung) → i ≤ length offers → length offers ≤ MOST_ORDERS → IsLadderOf z (take i offers) rungs → All (IsSmallRung MOST_ORDERS) rungs
ladder_small z i offers rungs l few a k d h = wider (length (take i offers)) MOST_ORDERS (get_or rungs k d) (omega (arith, l, few, length-take-le i offers l)) (a.small k d h)

pub last_is : (rs : List Rung) (x : Rung) → true ≡ nat_lt 0 (length rs) → x ≡ get_or rs (length rs - 1) x → x ≡ last_rung rs
last_is [] x some e = absurd (cc some)
last_is (r ∷ rs) x some e = e ∙ get_or_default (r ∷ rs) (length (r ∷ rs) - 1) x no_rung (omega arith)

pub if_ok_both : {V E : Type 0} (r : Result V E) (P Q R : V → Type 0) → IfOk r P → IfOk r Q → ((v : V) → P v → Q v → R v) → IfOk r R
if_ok_both r P Q R p q f = grind arith

-- one term more
pub below_step : (f : ℕ → ℤ) (n : ℕ) (total term new : ℤ) → total ≡ sum_below f n → term ≡ f n → new ≡ total +ℤ term → new ≡ sum_below f (n + 1)
below_step f n total term new t e w = let next : n + 1 ≡ suc n = omega arith in omega (arith, ints, t, e, w, ap (sum_below f) next)
