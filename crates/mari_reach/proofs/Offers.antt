-- Offers of plain orders, and sums over them.
use Rattle.std.proofs.Common.{◌≡◌, if◌then◌else◌, ◌&&◌, Bool, true, false, ℕ, zero, suc, ◌+◌, ◌*◌, ◌==◌, ◌<◌, ◌≤◌, ℤ, pos, neg_ℤ, ◌+ℤ◌, ◌-ℤ◌, ◌*ℤ◌, ◌≤ℤ◌, ◌<ℤ◌, negsuc, List, [], ◌∷◌, ◌++◌, length, take, get_or, arith, ap, refl, sym, ◌∙◌, subst, inl, inr, Option, Some, None, w64, to_z, of_z, to_z-of_z, FitsSigned}
use Rattle.std.proofs.lemmas.Int.{ints}
use Rattle.std.proofs.lemmas.Bool.{cases_lt}
use Rattle.std.proofs.lemmas.List.{get_or_append_left, get_or_push, length-take-le}
use Rattle.std.proofs.lemmas.List.Elements.{All-head, All-tail, All-take, All-weaker}
use Rattle.std.specs.List.{All}
use Rattle.std.specs.List.Sorted.{IsPermutation}
use lib.Signed.{lt_z}
use Rattle.mari_units.specs.declared.limits.TheConstants.{MOST_MW, MOST_ZONES}
use Rattle.mari_units.specs.declared.numbers.TheConstants.{CAP}
use Rattle.mari_market.specs.declared.limits.TheConstants.{MOST_ORDERS, MOST_WORTH}
use Rattle.mari_market.specs.declared.market.Side.{Side}
use Rattle.mari_market.specs.declared.market.Side.TheVariants.{Inject, Withdraw}
use Rattle.mari_market.specs.declared.market.Order.{Order}
use Rattle.mari_market.specs.declared.market.Market.{Market}
use Rattle.mari_market.specs.Market.{IsValidOrder}
use Rattle.mari_market.specs.Price.{IsPrice}
use Rattle.mari_market.specs.Cut.{is_in}
use Rattle.mari_market.specs.Rising.{RisesBy}
use Rattle.mari_market.specs.Sums.{int_sum}
use Rattle.mari_market.proofs.Ints.{mul-add_z, pos_mul_le, sub-mul_z}
use Rattle.mari_market.proofs.Wide.{scaled}
use Rattle.mari_proofs.specs.Tables.{sum_below}
use Rattle.mari_market.proofs.Moved.{sum_moved, sum_push}
use Rattle.mari_market.proofs.Rising.{if_less, if_not_less, is_less, less, not_less}
use Rattle.mari_market.proofs.Sums.{int_sum_more}
use Rattle.mari_reach.proofs.Plain.{is_not_less}
use Rattle.mari_reach.specs.declared.ladders.Ladder.{Ladder}
use Rattle.mari_reach.specs.declared.ladders.Offer.{Offer}
use Rattle.mari_reach.specs.declared.ladders.Sums.{Sums}
use Rattle.mari_reach.specs.Ladders.{before, gain_at, mw_in, mw_of, of_offer, offer_at, offer_by, offer_of, place_of, up_to, worth_of, AreOffersOf, AreSmall, AreSumsBefore, AreSumsOf, AreSumsUpTo, IsLadderOf, IsOffer}

-- what is read past the end of a list of offers
abbrev pub no_offer : Offer
no_offer = record { place = pos 0; zone = 0; price = pos 0; mw = 0 }

some_is : {X : Type 0} (P : X → Type 0) (x y : X) → Some x ≡ Some y → P x → P y
some_is P x y e p = let same : x ≡ y = cc in subst P same p

offer_by_is : (zones gates : ℕ) (gate : Option ℕ) (side own : Side) (o : Order) (x : Offer) → IsValidOrder zones gates o → offer_by gate side own o ≡ Some x → IsOffer zones x
offer_by_is zones gates (Some g) side own o x v e = absurd (cc e)
offer_by_is zones gates None Inject Withdraw o x v e = absurd (cc e)
offer_by_is zones gates None Withdraw Inject o x v e = absurd (cc e)
offer_by_is zones gates None Inject Inject o x v e =
    some_is (IsOffer zones) (offer_at o.zone o.price.0 o.greatest) x e (record { zone = v.zone; price = v.price; small = v.small; placed = refl })
offer_by_is zones gates None Withdraw Withdraw o x v e =
    some_is (IsOffer zones) (offer_at o.zone (neg_ℤ o.price.0) o.greatest) x e
    (record { zone = v.zone; price = record { low = omega (arith, ints, v.price.high); high = omega (arith, ints, v.price.low) }; small = v.small; placed = refl })

-- the offer of a valid order is one
pub is_offer : (zones gates : ℕ) (side : Side) (o : Order) (x : Offer) → IsValidOrder zones gates o → offer_of side o ≡ Some x → IsOffer zones x
is_offer zones gates side o x v e = offer_by_is zones gates o.gate side o.side o x v e

-- one order more, with an offer on the side's ladder or none
pub offers_take : (side : Side) (os : List Order) (i : ℕ) (d : Order) (xs new : List Offer) (x : Offer) → i < length os
    → offer_of side (get_or os i d) ≡ Some x → new ≡ xs ++ x ∷ [] → AreOffersOf side (take i os) xs → AreOffersOf side (take (i + 1) os) new
offers_take side os i d xs new x l e n a = λ f.
    ap (int_sum f) n ∙ sum_push f xs x ∙ ap (λ (v : ℤ). v +ℤ f x) (a f)
    ∙ ap (λ (v : Option Offer). int_sum (λ (o : Order). of_offer f (offer_of side o)) (take i os) +ℤ of_offer f v) (sym e)
    ∙ sym (int_sum_more (λ (o : Order). of_offer f (offer_of side o)) os i d l)

pub offers_skip : (side : Side) (os : List Order) (i : ℕ) (d : Order) (xs : List Offer) → i < length os
    → offer_of side (get_or os i d) ≡ None → AreOffersOf side (take i os) xs → AreOffersOf side (take (i + 1) os) xs
offers_skip side os i d xs l e a = λ f.
    omega (arith, ints, a f, ap (of_offer f) e, int_sum_more (λ (o : Order). of_offer f (offer_of side o)) os i d l)

-- a sum over the offers in another order is one over the orders
pub offers_moved : (side : Side) (os : List Order) (xs ys : List Offer) → IsPermutation xs ys → AreOffersOf side os xs → AreOffersOf side os ys
offers_moved side os xs ys same a = λ f. sum_moved f xs ys same ∙ a f

-- ---- sums over offers

-- one offer more
pub sums_more : (xs : List Offer) (i : ℕ) (d : Offer) (s new : Sums) → i < length xs → AreSumsOf (take i xs) s
    → new.mw ≡ s.mw +ℤ mw_of (get_or xs i d) → new.worth ≡ s.worth +ℤ worth_of (get_or xs i d) → AreSumsOf (take (i + 1) xs) new
sums_more xs i d s new l a m w = record {
  mw = omega (arith, ints, m, a.mw, int_sum_more mw_of xs i d l);
  worth = omega (arith, ints, w, a.worth, int_sum_more worth_of xs i d l);
}

-- the worth of one offer
small_worth : (price : ℤ) (mw : ℕ) → IsPrice price → mw ≤ MOST_MW → (neg_ℤ (pos MOST_WORTH) ≤ℤ (price *ℤ pos mw)) × ((price *ℤ pos mw) ≤ℤ pos MOST_WORTH)
small_worth price mw p l =
    (omega (arith, ints, pos_mul_le mw (neg_ℤ CAP) price p.low, l), omega (arith, ints, pos_mul_le mw price CAP p.high, l))

if_between : (b : Bool) (low high v : ℤ) → low ≤ℤ pos 0 → pos 0 ≤ℤ high → low ≤ℤ v → v ≤ℤ high → (low ≤ℤ (if b then v else pos 0)) × ((if b then v else pos 0) ≤ℤ high)
if_between true low high v l h a b = (a, b)
if_between false low high v l h a b = (l, h)

-- the sums over the offers that pass a test
abbrev pub kept : (Offer → Bool) → (Offer → ℤ) → Offer → ℤ
kept t f x = if t x then f x else pos 0

mw_within : (t : Offer → Bool) (zones : ℕ) (xs : List Offer) → All (IsOffer zones) xs
    → (pos 0 ≤ℤ int_sum (kept t mw_of) xs) × (int_sum (kept t mw_of) xs ≤ℤ pos (MOST_MW * length xs))
mw_within t zones [] a = (omega (arith, ints), omega (arith, ints))
mw_within t zones (x ∷ xs) a =
    let more = mw_within t zones xs (All-tail (IsOffer zones) x xs a) in
    let own = All-head (IsOffer zones) x xs a in
    let here = if_between (t x) (pos 0) (pos MOST_MW) (mw_of x) (omega (arith, ints)) (omega (arith, ints)) (omega (arith, ints)) (omega (arith, ints, own.small)) in
    (omega (arith, ints, here.0, more.0), omega (arith, ints, here.1, more.1))

worth_within : (t : Offer → Bool) (zones : ℕ) (xs : List Offer) → All (IsOffer zones) xs
    → (neg_ℤ (pos (MOST_WORTH * length xs)) ≤ℤ int_sum (kept t worth_of) xs) × (int_sum (kept t worth_of) xs ≤ℤ pos (MOST_WORTH * length xs))
worth_within t zones [] a = (omega (arith, ints), omega (arith, ints))
worth_within t zones (x ∷ xs) a =
    let more = worth_within t zones xs (All-tail (IsOffer zones) x xs a) in
    let own = All-head (IsOffer zones) x xs a in
    let worth = small_worth x.price x.mw own.price own.small in
    let here = if_between (t x) (neg_ℤ (pos MOST_WORTH)) (pos MOST_WORTH) (worth_of x) (omega (arith, ints)) (omega (arith, ints)) worth.0 worth.1 in
    (omega (arith, ints, here.0, more.0), omega (arith, ints, here.1, more.1))

pub kept_small : (t : Offer → Bool) (zones : ℕ) (xs : List Offer) (s : Sums) → All (IsOffer zones) xs → length xs ≤ MOST_ORDERS
    → s.mw ≡ int_sum (kept t mw_of) xs → s.worth ≡ int_sum (kept t worth_of) xs → AreSmall s
kept_small t zones xs s a few m w =
    let mw = mw_within t zones xs a in
    let worth = worth_within t zones xs a in
    record {
      least = omega (arith, ints, m, mw.0);
      most = omega (arith, ints, m, mw.1, few);
      low = omega (arith, ints, w, worth.0, few);
      high = omega (arith, ints, w, worth.1, few);
    }

-- the sums over the first offers
pub first_small : (zones i : ℕ) (xs : List Offer) (s : Sums) → i ≤ length xs → All (IsOffer zones) xs → length xs ≤ MOST_ORDERS → AreSumsOf (take i xs) s → AreSmall s
first_small zones i xs s l a few are =
    kept_small (λ x. true) zones (take i xs) s (All-take (IsOffer zones) i xs a) (omega (arith, few, l, length-take-le i xs l)) are.mw are.worth

-- where the first n items are those before a place, a sum over these is one over the items before it
pub first_before : (f : Offer → ℤ) (n : ℕ) (p : ℤ) (xs : List Offer) → n ≤ length xs
    → ((k : ℕ) (e : Offer) → k < n → (get_or xs k e).place <ℤ p)
    → ((k : ℕ) (e : Offer) → n ≤ k → k < length xs → p ≤ℤ (get_or xs k e).place)
    → int_sum f (take n xs) ≡ int_sum (before f p) xs
first_before f zero p [] l below rest = refl
first_before f (suc n) p [] l below rest = absurd (omega arith)
first_before f zero p (x ∷ xs) l below rest =
    omega (
      arith,
      ints,
      if_not_less x.place p (f x) (pos 0) (rest 0 x (omega arith) (omega arith)),
      first_before f zero p xs (omega arith) (λ k e m. absurd (omega arith)) (λ k e m h. rest (suc k) e (omega arith) (omega arith)),
    )
first_before f (suc n) p (x ∷ xs) l below rest =
    omega (
      arith,
      ints,
      if_less x.place p (f x) (pos 0) (below 0 x (omega arith)),
      first_before f n p xs (omega arith) (λ k e m. below (suc k) e (omega arith)) (λ k e m h. rest (suc k) e (omega arith) (omega arith)),
    )

-- the offers of a zone that are cheaper than a level stand before its place there, and not before the zone's first
zone_by : (b : Bool) (v : ℤ) → (if b && true then v else pos 0) ≡ (if b then v else pos 0)
zone_by true v = refl
zone_by false v = refl

between_by : (a b t : Bool) (v : ℤ) → (b ≡ true → a ≡ true) → (t ≡ true → (a ≡ true) × (b ≡ false)) → (a ≡ true → b ≡ false → t ≡ true)
    → (if a then v else pos 0) -ℤ (if b then v else pos 0) ≡ (if t then v else pos 0)
between_by true true true v up here back = absurd (cc ((here refl).1))
between_by true true false v up here back = omega (arith, ints)
between_by true false true v up here back = omega (arith, ints)
between_by true false false v up here back = absurd (cc (back refl refl))
between_by false true t v up here back = absurd (cc (up refl))
between_by false false true v up here back = absurd (cc ((here refl).0))
between_by false false false v up here back = omega (arith, ints)

and_true : (a b : Bool) → (a && b) ≡ true → (a ≡ true) × (b ≡ true)
and_true true b e = (refl, e)
and_true false b e = absurd (cc e)

both_true : (a b : Bool) → a ≡ true → b ≡ true → (a && b) ≡ true
both_true a b e k = cc

same_zone : (y z : ℕ) → (y == z) ≡ true → y ≡ z
same_zone y z e = grind (arith)

is_zone : (y z : ℕ) → y ≡ z → (y == z) ≡ true
is_zone y z e = grind (arith)

pub part_of : (f : Offer → ℤ) (zones z : ℕ) (level : ℤ) (x : Offer) → neg_ℤ CAP ≤ℤ level → level ≤ℤ (CAP +ℤ pos 1) → IsOffer zones x
    → before f (place_of z level) x -ℤ before f (place_of z (neg_ℤ CAP)) x ≡ up_to f z level x
part_of f zones z level x low high a =
    between_by (lt_z x.place (place_of z level)) (lt_z x.place (place_of z (neg_ℤ CAP))) ((x.zone == z) && lt_z x.price level) (f x)
    (λ e. is_less x.place (place_of z level) (omega (arith, ints, low, less x.place (place_of z (neg_ℤ CAP)) e)))
    (λ e.
    let both = and_true (x.zone == z) (lt_z x.price level) e in
    let zone = same_zone x.zone z both.0 in
    let cheap = less x.price level both.1 in
    (is_less x.place (place_of z level) (omega (arith, ints, a.placed, zone, cheap)), is_not_less x.place (place_of z (neg_ℤ CAP)) (omega (arith, ints, a.placed, zone, a.price.low))))
    (λ e n.
    let first = less x.place (place_of z level) e in
    let last = not_less x.place (place_of z (neg_ℤ CAP)) n in
    let zone : x.zone ≡ z = omega (arith, ints, a.placed, first, last, a.price.low, a.price.high, low, high) in
    both_true (x.zone == z) (lt_z x.price level) (is_zone x.zone z zone) (is_less x.price level (omega (arith, ints, a.placed, first, zone))))

part_sum : (f : Offer → ℤ) (zones z : ℕ) (level : ℤ) (xs : List Offer) → neg_ℤ CAP ≤ℤ level → level ≤ℤ (CAP +ℤ pos 1) → All (IsOffer zones) xs
    → int_sum (before f (place_of z level)) xs -ℤ int_sum (before f (place_of z (neg_ℤ CAP))) xs ≡ int_sum (up_to f z level) xs
part_sum f zones z level [] low high a = refl
part_sum f zones z level (x ∷ xs) low high a =
    omega (arith, ints, part_of f zones z level x low high (All-head (IsOffer zones) x xs a), part_sum f zones z level xs low high (All-tail (IsOffer zones) x xs a))

-- sums up to a level
pub sums_up_to : (zones z : ℕ) (level : ℤ) (xs : List Offer) (s start new : Sums) → neg_ℤ CAP ≤ℤ level → level ≤ℤ (CAP +ℤ pos 1) → All (IsOffer zones) xs
    → AreSumsBefore xs (place_of z level) s → AreSumsBefore xs (place_of z (neg_ℤ CAP)) start → new.mw ≡ s.mw -ℤ start.mw → new.worth ≡ s.worth -ℤ start.worth → AreSumsUpTo xs z level new
sums_up_to zones z level xs s start new low high a b c m w = record {
  mw = omega (arith, ints, m, b.mw, c.mw, part_sum mw_of zones z level xs low high a);
  worth = omega (arith, ints, w, b.worth, c.worth, part_sum worth_of zones z level xs low high a);
}

-- sums by another name of the offers and of the place
pub sums_at : (xs ys : List Offer) (p q : ℤ) (s : Sums) → ys ≡ xs → p ≡ q → AreSumsBefore ys p s → AreSumsBefore xs q s
sums_at xs ys p q s e k a = subst (λ (zs : List Offer). AreSumsBefore zs q s) e (subst (λ (r : ℤ). AreSumsBefore ys r s) k a)

pub before_small : (zones : ℕ) (xs : List Offer) (p : ℤ) (s : Sums) → All (IsOffer zones) xs → length xs ≤ MOST_ORDERS → AreSumsBefore xs p s → AreSmall s
before_small zones xs p s a few are = kept_small (λ x. lt_z x.place p) zones xs s a few are.mw are.worth

pub up_to_small : (zones z : ℕ) (level : ℤ) (xs : List Offer) (s : Sums) → All (IsOffer zones) xs → length xs ≤ MOST_ORDERS → AreSumsUpTo xs z level s → AreSmall s
up_to_small zones z level xs s a few are = kept_small (λ x. (x.zone == z) && lt_z x.price level) zones xs s a few are.mw are.worth

-- one more of the sums over the first offers
pub sums_push : (xs : List Offer) (i : ℕ) (sums : List Sums) (new : Sums) → length sums ≡ i + 1 → AreSumsOf (take (i + 1) xs) new
    → ((k : ℕ) (d : Sums) → k ≤ i → AreSumsOf (take k xs) (get_or sums k d)) → (k : ℕ) (d : Sums) → k ≤ i + 1 → AreSumsOf (take k xs) (get_or (sums ++ new ∷ []) k d)
sums_push xs i sums new long a each k d l = elim (cases_lt k (i + 1)) [
  | inl b ↦ subst (AreSumsOf (take k xs)) (sym (get_or_append_left sums (new ∷ []) d k (omega (arith, b, long)))) (each k d (omega (arith, b)))
  | inr b ↦
      let e : i + 1 ≡ k = omega (arith, b, l) in
      subst (AreSumsOf (take k xs)) (sym (get_or_push sums new d k (omega (arith, e, long)))) (subst (λ (n : ℕ). AreSumsOf (take n xs) new) e a)
]

-- offers of few zones are those of as many as there may be
pub wide : (zones n : ℕ) (xs : List Offer) → zones ≤ n → All (IsOffer zones) xs → All (IsOffer n) xs
wide zones n xs l a = All-weaker (IsOffer zones) (IsOffer n) (λ x h. record { zone = omega (arith, h.zone, l); price = h.price; small = h.small; placed = h.placed }) xs a

-- a ladder of its parts
pub ladder_is : (m : Market) (side : Side) (xs ys : List Offer) (sums : List Sums) (l : Ladder) → xs ≡ l.offers.items → ys ≡ l.offers.items → sums ≡ l.sums.items
    → m.zones ≤ MOST_ZONES → length xs ≤ MOST_ORDERS
    → All (IsOffer m.zones) xs → RisesBy (λ (x : Offer). x.place) l.offers.items → length l.sums.items ≡ length xs + 1
    → ((k : ℕ) (d : Sums) → k ≤ length xs → AreSumsOf (take k xs) (get_or l.sums.items k d)) → length l.starts.items ≡ m.zones
    → ((z : ℕ) (d : Sums) → z < m.zones → AreSumsBefore ys (place_of z (neg_ℤ CAP)) (get_or l.starts.items z d)) → AreOffersOf side m.orders l.offers.items → IsLadderOf m side l
ladder_is m side xs ys sums l e f g zones few fine rising long each starts_long starts once = record {
  ladder = record {
    few = subst (λ (zs : List Offer). length zs ≤ MOST_ORDERS) e few;
    few_zones = omega (arith, zones, starts_long);
    offers = subst (λ (n : ℕ). All (IsOffer n) l.offers.items) (sym starts_long) (subst (All (IsOffer m.zones)) e fine);
    rising = rising;
    long = subst (λ (zs : List Offer). length l.sums.items ≡ length zs + 1) e long;
    sums = subst (λ (zs : List Offer). (k : ℕ) (d : Sums) → k ≤ length zs → AreSumsOf (take k zs) (get_or l.sums.items k d)) e each;
    starts = λ z d h. subst (λ (zs : List Offer). AreSumsBefore zs (place_of z (neg_ℤ CAP)) (get_or l.starts.items z d)) f (starts z d (omega (arith, h, starts_long)));
  };
  one_each = starts_long;
  once = once;
}

-- ---- gains

masked_gain : (b : Bool) (p c : ℤ) (mw : ℕ) → p *ℤ (if b then pos mw else pos 0) -ℤ (if b then c *ℤ pos mw else pos 0) ≡ (if b then (p -ℤ c) *ℤ pos mw else pos 0)
masked_gain true p c mw = omega (arith, ints, sub-mul_z p c (pos mw))
masked_gain false p c mw = omega (arith, ints)

-- what offers of a zone gain by their sums
pub gain_sum : (p : ℤ) (z : ℕ) (level : ℤ) (xs : List Offer) → p *ℤ int_sum (up_to mw_of z level) xs -ℤ int_sum (up_to worth_of z level) xs ≡ int_sum (up_to (gain_at p) z level) xs
gain_sum p z level [] = omega (arith, ints)
gain_sum p z level (x ∷ xs) =
    omega (arith, ints, mul-add_z p (up_to mw_of z level x) (int_sum (up_to mw_of z level) xs), masked_gain ((x.zone == z) && lt_z x.price level) p x.price x.mw, gain_sum p z level xs)

-- a product with a number from 0 on
pub product_small : (m n : ℕ) (k w : ℤ) → neg_ℤ (pos m) ≤ℤ k → k ≤ℤ pos m → pos 0 ≤ℤ w → w ≤ℤ pos n → (neg_ℤ (pos (m * n)) ≤ℤ (k *ℤ w)) × ((k *ℤ w) ≤ℤ pos (m * n))
product_small m n k (pos q) low high least most = scaled k q m n low high (omega (arith, ints, most))
product_small m n k (negsuc q) low high least most = absurd (omega (arith, ints, least))

sum_below_same : (f g : ℕ → ℤ) (n : ℕ) → ((z : ℕ) → z < n → f z ≡ g z) → sum_below f n ≡ sum_below g n
sum_below_same f g zero e = refl
sum_below_same f g (suc n) e = omega (arith, ints, sum_below_same f g n (λ z l. e z (omega (arith, l))), e n (omega arith))

sum_below_zero : (n : ℕ) → sum_below (λ z. pos 0) n ≡ pos 0
sum_below_zero zero = refl
sum_below_zero (suc n) = omega (arith, ints, sum_below_zero n)

sum_below_both : (f g : ℕ → ℤ) (n : ℕ) → sum_below (λ z. f z +ℤ g z) n ≡ sum_below f n +ℤ sum_below g n
sum_below_both f g zero = refl
sum_below_both f g (suc n) = omega (arith, ints, sum_below_both f g n)

-- an offer is of its own zone alone
zone_at : (y z : ℕ) (t : Bool) (v : ℤ) → y ≡ z → (if (y == z) && t then v else pos 0) ≡ (if t then v else pos 0)
zone_at y z t v e = grind (arith)

zone_past : (y z : ℕ) (t : Bool) (v : ℤ) → (y ≡ z → ⊥) → (if (y == z) && t then v else pos 0) ≡ pos 0
zone_past y z t v n = grind (arith)

none_past : (f : ℕ → Offer → ℤ) (lv : ℕ → ℤ) (x : Offer) (n : ℕ) → n ≤ x.zone → sum_below (λ z. up_to (f z) z (lv z) x) n ≡ pos 0
none_past f lv x zero l = refl
none_past f lv x (suc n) l = omega (arith, ints, none_past f lv x n (omega (arith, l)), zone_past x.zone n (lt_z x.price (lv n)) (f n x) (λ e. omega (arith, l, e)))

one_zone : (f : ℕ → Offer → ℤ) (lv : ℕ → ℤ) (x : Offer) (n : ℕ) → x.zone < n → sum_below (λ z. up_to (f z) z (lv z) x) n ≡ (if lt_z x.price (lv x.zone) then f x.zone x else pos 0)
one_zone f lv x zero l = absurd (omega (arith, l))
one_zone f lv x (suc n) l = elim (cases_lt x.zone n) [
  | inl b ↦ omega (arith, ints, one_zone f lv x n b, zone_past x.zone n (lt_z x.price (lv n)) (f n x) (λ e. omega (arith, b, e)))
  | inr b ↦
      let e : x.zone ≡ n = omega (arith, l, b) in
      omega (arith, ints, none_past f lv x n b, zone_at x.zone n (lt_z x.price (lv n)) (f n x) e, ap (λ (z : ℕ). if lt_z x.price (lv z) then f z x else pos 0) e)
]

-- the sums over the zones' offers are together one over all
pub all_zones : (f : ℕ → Offer → ℤ) (lv : ℕ → ℤ) (n : ℕ) (xs : List Offer) → All (IsOffer n) xs
    → sum_below (λ z. int_sum (up_to (f z) z (lv z)) xs) n ≡ int_sum (λ (x : Offer). if lt_z x.price (lv x.zone) then f x.zone x else pos 0) xs
all_zones f lv n [] a = sum_below_zero n
all_zones f lv n (x ∷ xs) a =
    omega (
      arith,
      ints,
      sum_below_both (λ z. up_to (f z) z (lv z) x) (λ z. int_sum (up_to (f z) z (lv z)) xs) n,
      one_zone f lv x n (All-head (IsOffer n) x xs a).zone,
      all_zones f lv n xs (All-tail (IsOffer n) x xs a),
    )

-- ---- puts

none_in : (z : ℕ) (level : ℤ) (zones : List ℕ) (k : ℕ) (xs : List Offer) → is_in zones k ≡ false → int_sum (up_to (mw_in zones k) z level) xs ≡ pos 0
none_in z level zones k [] e = refl
none_in z level zones k (x ∷ xs) e = omega (arith, ints, one ((x.zone == z) && lt_z x.price level) (is_in zones k) (pos x.mw) e, none_in z level zones k xs e)
  where
    one : (b t : Bool) (v : ℤ) → t ≡ false → (if b then (if t then v else pos 0) else pos 0) ≡ pos 0
    one true t v e = ap (λ (t : Bool). if t then v else pos 0) e
    one false t v e = refl

some_in : (z : ℕ) (level : ℤ) (zones : List ℕ) (k : ℕ) (xs : List Offer) → is_in zones k ≡ true → int_sum (up_to (mw_in zones k) z level) xs ≡ int_sum (up_to mw_of z level) xs
some_in z level zones k [] e = refl
some_in z level zones k (x ∷ xs) e = omega (arith, ints, one ((x.zone == z) && lt_z x.price level) (is_in zones k) (pos x.mw) e, some_in z level zones k xs e)
  where
    one : (b t : Bool) (v : ℤ) → t ≡ true → (if b then (if t then v else pos 0) else pos 0) ≡ (if b then v else pos 0)
    one true t v e = ap (λ (t : Bool). if t then v else pos 0) e
    one false t v e = refl

-- a zone of the set, or another
pub put_in : (z : ℕ) (level : ℤ) (zones : List ℕ) (xs : List Offer) (b : Bool) (put : ℤ) → b ≡ is_in zones z → b ≡ true → put ≡ int_sum (up_to mw_of z level) xs
    → put ≡ int_sum (up_to (mw_in zones z) z level) xs
put_in z level zones xs b put is there e = e ∙ sym (some_in z level zones z xs (sym is ∙ there))

pub put_out : (z : ℕ) (level : ℤ) (zones : List ℕ) (xs : List Offer) (b : Bool) → b ≡ is_in zones z → b ≡ false → pos 0 ≡ int_sum (up_to (mw_in zones z) z level) xs
put_out z level zones xs b is absent = sym (none_in z level zones z xs (sym is ∙ absent))

abbrev stored : ℤ → ℤ
stored x = to_z w64 (of_z w64 x)

-- what offers gain by their sums, without a loss
pub gain_read : (price mw worth : ℤ) → IsPrice price → pos 0 ≤ℤ mw → mw ≤ℤ pos (MOST_MW * MOST_ORDERS) → neg_ℤ (pos (MOST_WORTH * MOST_ORDERS)) ≤ℤ worth → worth ≤ℤ pos (MOST_WORTH * MOST_ORDERS)
    → (stored (stored (stored price *ℤ stored mw) -ℤ stored worth) ≡ price *ℤ mw -ℤ worth)
    × ((neg_ℤ (pos (2 * (MOST_WORTH * MOST_ORDERS))) ≤ℤ (price *ℤ mw -ℤ worth)) × ((price *ℤ mw -ℤ worth) ≤ℤ pos (2 * (MOST_WORTH * MOST_ORDERS))))
gain_read price mw worth p least most low high =
    let pf : FitsSigned w64 price = omega (arith, ints, p.low, p.high) in
    let mf : FitsSigned w64 mw = omega (arith, ints, least, most) in
    let wf : FitsSigned w64 worth = omega (arith, ints, low, high) in
    let bounds = product_small 9999900 (MOST_MW * MOST_ORDERS) price mw p.low p.high least most in
    let xf : FitsSigned w64 (price *ℤ mw) = omega (arith, ints, bounds.0, bounds.1) in
    let gf : FitsSigned w64 (price *ℤ mw -ℤ worth) = omega (arith, ints, bounds.0, bounds.1, low, high) in
    (rw (to_z-of_z pf, to_z-of_z mf, to_z-of_z wf, to_z-of_z xf, to_z-of_z gf) refl, (omega (arith, ints, bounds.0, high), omega (arith, ints, bounds.1, low)))
