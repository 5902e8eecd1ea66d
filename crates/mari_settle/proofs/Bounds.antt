-- How large payments and rents of a run are: each flow touches two zones, so each border counts once.
use Rattle.std.proofs.Common.{◌≡◌, ◌==◌, if◌then◌else◌, ℕ, ◌*◌, ◌<◌, ◌≤◌, ℤ, pos, Bool, true, false, ◌+ℤ◌, ◌-ℤ◌, ◌*ℤ◌, List, [], ◌∷◌, length, arith, refl, sym, ap, ◌∙◌}
use Rattle.std.specs.Prelude.{unsigned_abs}
use Rattle.std.specs.List.{All, AllZip, range_with_len}
use Rattle.std.proofs.lemmas.Int.{ints}
use Rattle.std.proofs.lemmas.List.Elements.{All-head, All-map, All-tail}
use Rattle.mari_units.specs.declared.numbers.Cents.{Cents}
use Rattle.mari_zones.specs.declared.zones.ZoneBook.{ZoneBook}
use Rattle.mari_market.specs.declared.market.Border.{Border}
use Rattle.mari_market.specs.declared.market.Market.{Market}
use Rattle.mari_market.specs.declared.activation.Activation.{Activation}
use Rattle.mari_market.specs.Activation.{IsWithinLimits}
use Rattle.mari_market.specs.Market.{IsValid, IsValidBorder}
use Rattle.mari_market.specs.Price.{IsCapped, ArePrices, price_at}
use Rattle.mari_market.specs.Sums.{sum_along}
use Rattle.mari_market.proofs.Ints.{sub-mul_z}
use Rattle.mari_market.proofs.Sums.{spread, sum_below--, sum_below-place, sum_below-same}
use Rattle.std.specs.Prelude.{int_le, slice_get, take, Option, Some, None}
use Rattle.std.proofs.Common.{get_or, inl, inr}
use Rattle.std.proofs.lemmas.Bool.{cases_lt}
use Rattle.std.proofs.lemmas.List.{get_or_past}
use Rattle.mari_bids.specs.declared.bids.Bid.{Bid}
use Rattle.mari_bids.specs.declared.bids.BidBook.{BidBook}
use Rattle.mari_settle.specs.Conditions.{MoneyIsWithin, LineIsWithin, most_of_operator, most_of_provider}
use Rattle.mari_settle.specs.Ledger.{bid_amount, carried_in, earned, paid_at, provider_amount, provider_amounts, half_of, net_import, operator_at, operator_line, operator_lines, operator_payment, operator_rent, payment_at, rent_of, share_of}
use Rattle.mari_settle.proofs.Laws.{range_is_below}
use Rattle.mari_settle.proofs.Money.{half_small, product_small}

-- a sum of small terms
sum_small : {X Y : Type 0} (f : X → Y → ℤ) (most : ℕ) (xs : List X) (ys : List Y) → AllZip (λ x y. unsigned_abs (f x y) ≤ most) xs ys → unsigned_abs (sum_along f xs ys) ≤ most * length xs
sum_small f most [] ys h = omega arith
sum_small f most (x ∷ xs) [] h = absurd h
sum_small f most (x ∷ xs) (y ∷ ys) h = omega (arith, ints, h.0, sum_small f most xs ys h.1)

-- a payment by price times import, where the zone is one's own
dear : (t : Bool) (p q : ℤ) → (if t then p *ℤ q else pos 0) ≡ (if t then p else pos 0) *ℤ q
dear true p q = refl
dear false p q = omega (arith, ints)

small_own : (t : Bool) (p : ℤ) → unsigned_abs p ≤ 9999900 → unsigned_abs (if t then p else pos 0) ≤ 9999900
small_own true p h = h
small_own false p h = omega arith

-- what a share is at most
small_share : (s t : Bool) (rent : ℤ) → unsigned_abs rent ≤ 4000000000000 → unsigned_abs ((if s then rent -ℤ half_of rent else pos 0) +ℤ (if t then half_of rent else pos 0)) ≤ 4000000000000
small_share true true rent h = omega (arith, ints, h)
small_share true false rent h = let half = half_small rent 4000000000000 h in omega (arith, ints, half.1)
small_share false true rent h = let half = half_small rent 4000000000000 h in omega (arith, ints, half.0)
small_share false false rent h = omega (arith, ints)

module _ (zones : ZoneBook) (m : Market) (a : Activation) (ps : List Cents) (v : IsValid m) (prices : ArePrices m ps) (flows : AllZip IsWithinLimits m.borders a.flow) where
  price_small : (z : ℕ) → z < m.zones → unsigned_abs (price_at ps z) ≤ 9999900
  price_small z l = let h = prices.capped z (record { 0 = pos 0 }) (omega (arith, l, prices.one_each)) in omega (arith, ints, h.low, h.high)

  each : (f : Border → ℤ → ℤ) (most : ℕ)
      → ((b : Border) (q : ℤ) → IsValidBorder m.zones b → IsWithinLimits b q → unsigned_abs (f b q) ≤ most)
      → unsigned_abs (sum_along f m.borders a.flow) ≤ most * length m.borders
  each f most small = sum_small f most m.borders a.flow (along m.borders a.flow v.borders flows)
    where
      along : (bs : List Border) (fs : List ℤ) → All (IsValidBorder m.zones) bs → AllZip IsWithinLimits bs fs → AllZip (λ b q. unsigned_abs (f b q) ≤ most) bs fs
      along [] [] all w = tt
      along (b ∷ bs) (q ∷ qs) all w = (small b q (All-head (IsValidBorder m.zones) b bs all) w.0, along bs qs (All-tail (IsValidBorder m.zones) b bs all) w.1)
      along [] (q ∷ qs) all w = absurd w
      along (b ∷ bs) [] all w = absurd w

  flow_small : (b : Border) (q : ℤ) → IsValidBorder m.zones b → IsWithinLimits b q → unsigned_abs q ≤ 199998
  flow_small b q valid within = omega (arith, ints, valid.limit, valid.back, within.back, within.limit)

  module _ (operator : ℕ) where
    abbrev own : ℕ → ℤ
    own z = if operator_at zones z == operator then price_at ps z else pos 0

    by_borders : operator_payment zones m a ps operator ≡ sum_along (λ b q. (own b.to -ℤ own b.from) *ℤ q) m.borders a.flow
    by_borders =
        range_is_below (payment_at zones m a ps operator) m.zones
        ∙ sum_below-same m.zones (payment_at zones m a ps operator) (λ z. own z *ℤ net_import m a z) (λ z l. dear (operator_at zones z == operator) (price_at ps z) (net_import m a z))
        ∙ sym (spread own m.zones (λ b q. (own b.to -ℤ own b.from) *ℤ q) carried_in (IsValidBorder m.zones)
        (λ b f k. omega (
          arith,
          ints,
          sub-mul_z (own b.to) (own b.from) f,
          sum_below-- own (λ z. if b.to == z then f else pos 0) (λ z. if b.from == z then f else pos 0) m.zones,
          sum_below-place own b.to f m.zones k.to,
          sum_below-place own b.from f m.zones k.from,
        )) m.borders a.flow v.borders)

    pub payment_small : unsigned_abs (operator_payment zones m a ps operator) ≤ most_of_operator
    payment_small =
        let one = each (λ b q. (own b.to -ℤ own b.from) *ℤ q) (19999800 * 199998) (λ b q valid within.
        let to = small_own (operator_at zones b.to == operator) (price_at ps b.to) (price_small b.to valid.to) in
        let from = small_own (operator_at zones b.from == operator) (price_at ps b.from) (price_small b.from valid.from) in
        product_small (own b.to -ℤ own b.from) q _ 19999800 199998 (omega (arith, ints, to, from)) (flow_small b q valid within) refl) in
        rw by_borders (omega (arith, one, v.few_borders))

    pub rent_small : unsigned_abs (operator_rent zones m a ps operator) ≤ most_of_operator
    rent_small =
        let one = each (λ b q. share_of (operator_at zones b.from) (operator_at zones b.to) operator (rent_of ps b q)) 4000000000000 (λ b q valid within.
        let to = price_small b.to valid.to in
        let from = price_small b.from valid.from in
        let rent = product_small (price_at ps b.to -ℤ price_at ps b.from) q (rent_of ps b q) 19999800 199998 (omega (arith, ints, to, from)) (flow_small b q valid within) refl in
        small_share (operator_at zones b.from == operator) (operator_at zones b.to == operator) (rent_of ps b q) (omega (arith, rent))) in
        omega (arith, one, v.few_borders)

  -- each operator's payment and rent
  pub lines_small : All (LineIsWithin most_of_operator) (operator_lines zones m a ps)
  lines_small = All-map (LineIsWithin most_of_operator) (operator_line zones m a ps) (range_with_len 0 (length zones.operators)) (λ k d l. record { payment = payment_small _; rent = rent_small _ })

-- any zone's price, there or not
price_any : (ps : List Cents) → All IsCapped ps → (z : ℕ) → unsigned_abs (price_at ps z) ≤ 9999900
price_any ps capped z = elim (cases_lt z (length ps)) [
  | inl l ↦ (let h = capped z (record { 0 = pos 0 }) l in omega (arith, ints, h.low, h.high))
  | inr past ↦ (let none : price_at ps z ≡ pos 0 = ap (λ (c : Cents). c.0) (get_or_past ps z (record { 0 = pos 0 }) past) in omega (arith, ints, none))
]

paid_small : (up t : Bool) (own scheduled : ℤ) → int_le own scheduled ≡ t → unsigned_abs own ≤ 9999900 → unsigned_abs scheduled ≤ 9999900 → unsigned_abs (paid_at up own scheduled) ≤ 9999900
paid_small true true own scheduled e h l = rw e l
paid_small true false own scheduled e h l = rw e h
paid_small false true own scheduled e h l = rw e h
paid_small false false own scheduled e h l = rw e l

earned_small : (up : Bool) (p : ℤ) (q : ℕ) → unsigned_abs p ≤ 9999900 → q ≤ 9999 → unsigned_abs (earned up p q) ≤ 9999900 * 9999
earned_small true p q h l = product_small p (pos q) (p *ℤ pos q) 9999900 9999 h (omega (arith, ints, l)) refl
earned_small false p q h l = let small = product_small p (pos q) (p *ℤ pos q) 9999900 9999 h (omega (arith, ints, l)) refl in omega (arith, ints, small)

module _ (bids : BidBook) (ps scheduled : List Cents) (own : All IsCapped ps) (also : All IsCapped scheduled) (provider : ℕ) where
  bid_small : (bid : Option Bid) (q : ℕ) → q ≤ 9999 → unsigned_abs (bid_amount ps scheduled provider bid q) ≤ 9999900 * 9999
  bid_small None q l = omega arith
  bid_small (Some bid) q l =
      by (bid.provider == provider) _
      (earned_small bid.up _ q (paid_small bid.up _ (price_at ps bid.zone) (price_at scheduled bid.zone) refl (price_any ps own bid.zone) (price_any scheduled also bid.zone)) l)
    where
      by : (t : Bool) (v : ℤ) → unsigned_abs v ≤ 9999900 * 9999 → unsigned_abs (if t then v else pos 0) ≤ 9999900 * 9999
      by true v h = h
      by false v h = omega arith

  amounts_along : (ns qs : List ℕ) → All (λ q. q ≤ 9999) (take (length ns) qs)
      → unsigned_abs (sum_along (λ n q. bid_amount ps scheduled provider (slice_get bids.bids n) q) ns qs) ≤ 9999900 * 9999 * length ns
  amounts_along [] qs h = omega arith
  amounts_along (n ∷ ns) [] h = omega arith
  amounts_along (n ∷ ns) (q ∷ qs) h =
      let here = bid_small (slice_get bids.bids n) q (All-head (λ q. q ≤ 9999) q (take (length ns) qs) h) in
      let more = amounts_along ns qs (All-tail (λ q. q ≤ 9999) q (take (length ns) qs) h) in
      omega (arith, ints, here, more)

-- each provider's amount, where no bid runs more than 9,999 MW
pub amounts_small : (bids : BidBook) (numbers : List ℕ) (a : Activation) (ps scheduled : List Cents) → All IsCapped ps
    → All IsCapped scheduled → length numbers ≤ 4608 → All (λ q. q ≤ 9999) (take (length numbers) a.mw)
    → All (MoneyIsWithin most_of_provider) (provider_amounts bids numbers a ps scheduled)
amounts_small bids numbers a ps scheduled mine also few h =
    All-map (MoneyIsWithin most_of_provider) (λ k. record { 0 = provider_amount bids numbers a ps scheduled k }) (range_with_len 0 (length bids.providers))
    (λ k (d : ℕ) l. let small = amounts_along bids ps scheduled mine also (get_or (range_with_len 0 (length bids.providers)) k d) numbers a.mw h in omega (arith, small, few))
