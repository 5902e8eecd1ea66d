-- A zone has one least, one greatest and one published price.
use Rattle.std.proofs.Common.{◌≡◌, ℕ, suc, ◌<◌, ℤ, pos, Bool, true, List, [], ◌∷◌, length, get_or, arith, refl, sym, ap, ◌∙◌, subst}
use Rattle.std.specs.Prelude.{◌↔◌}
use Rattle.std.specs.List.{All, AllZip}
use Rattle.std.proofs.lemmas.Int.{ints}
use Rattle.std.proofs.lemmas.List.{get_or_default, length-map, get_or-map}
use Rattle.mari_units.specs.declared.numbers.Cents.{Cents}
use Rattle.mari_market.specs.declared.activation.Activation.{Activation}
use Rattle.mari_market.specs.declared.market.Market.{Market}
use Rattle.mari_market.specs.Interval.{ArePublishedPrices, IsNearest}
use Rattle.mari_market.specs.Price.{price_at}
use Rattle.mari_market.proofs.Published.{nearest_rises, one_least, one_greatest}
use Rattle.mari_publish.specs.declared.publication.FullBlock.{FullBlock}
use Rattle.mari_lines.specs.declared.line.ZoneLine.{ZoneLine}
use Rattle.mari_check.specs.declared.ends.End.{End}
use Rattle.mari_check.specs.declared.ends.End.TheVariants.{Greatest, Least}
use Rattle.mari_check.specs.Ends.{AreEndPrices}
use Rattle.mari_check.specs.Faults.{HasIntervals}
use Rattle.mari_check.specs.Lines.{IsInOrder, IsNearestLine, IsSamePrice}
use Rattle.mari_progress.specs.Reported.{activation_of, greatest_reported, least_reported, prices_of}
use Rattle.mari_check.proofs.Zips.{same-by}

-- lists of prices are one where they have the same price for each zone
same-prices : (ps qs : List Cents) → length ps ≡ length qs → ((z : ℕ) → z < length ps → price_at ps z ≡ price_at qs z) → ps ≡ qs
same-prices [] [] e h = refl
same-prices [] (q ∷ qs) e h = absurd (omega (arith, e))
same-prices (p ∷ ps) [] e h = absurd (omega (arith, e))
same-prices (p ∷ ps) (q ∷ qs) e h =
    let first : p.0 ≡ q.0 = h 0 (omega arith) in
    ap (λ (c : ℤ). let x : Cents = record { 0 = c } in x ∷ ps) first ∙ ap (λ (cs : List Cents). q ∷ cs) (same-prices ps qs (omega (arith, e)) (λ z l. h (suc z) (omega (arith, l))))

module _ (m : Market) (a : Activation) where
  one-end : (end : End) (ps qs : List Cents) → AreEndPrices end m a ps → AreEndPrices end m a qs → ps ≡ qs
  one-end Least ps qs h k =
      same-prices ps qs (h.one_each ∙ sym k.one_each)
      (λ z l. one_least m a z (price_at ps z) (price_at qs z) (h.each z (omega (arith, l, h.one_each))) (k.each z (omega (arith, l, h.one_each))))
  one-end Greatest ps qs h k =
      same-prices ps qs (h.one_each ∙ sym k.one_each)
      (λ z l. one_greatest m a z (price_at ps z) (price_at qs z) (h.each z (omega (arith, l, h.one_each))) (k.each z (omega (arith, l, h.one_each))))

  -- prices are those of an end exactly where they are these
  pub ends-by : (end : End) (reported ps : List Cents) (b : Bool) → AreEndPrices end m a ps → (b ≡ true) ↔ AllZip IsSamePrice reported ps → (b ≡ true) ↔ AreEndPrices end m a reported
  ends-by end reported ps b is test =
      let same = same-by IsSamePrice (λ c d e. e) (λ c d e. e) reported ps b test in (
        λ t. subst (AreEndPrices end m a) (sym (same.0 t)) is,
        λ h. same.1 (one-end end reported ps h is),
      )

-- ---- the nearest price

one-nearest : (low high r c d : ℤ) → IsNearest low high r c → IsNearest low high r d → c ≡ d
one-nearest low high r c d h k =
    omega (arith, ints, nearest_rises low high low high r c d (omega (arith, ints)) (omega (arith, ints)) h k, nearest_rises low high low high r d c (omega (arith, ints)) (omega (arith, ints)) k h)

pub nearest-by : (low high r : ℤ) (c d : Cents) (b : Bool) → IsNearest low high r d.0 → (b ≡ true) ↔ (c ≡ d) → (b ≡ true) ↔ IsNearest low high r c.0
nearest-by low high r c d b is test = (
  λ t. subst (λ (x : Cents). IsNearest low high r x.0) (sym (test.0 t)) is,
  λ n. test.1 (let same : c.0 ≡ d.0 = one-nearest low high r c.0 d.0 n is in ap (λ (v : ℤ). let x : Cents = record { 0 = v } in x) same),
)

-- ---- the published prices of a block whose intervals are right

abbrev no_line : ZoneLine
no_line = record { name = []; price = record { 0 = pos 0 }; least = record { 0 = pos 0 }; greatest = record { 0 = pos 0 }; area = 0 }

module _ (m : Market) (b : FullBlock) (h : HasIntervals m b) where
  abbrev line : ℕ → ZoneLine
  line z = get_or b.zones z no_line

  many : length b.zones ≡ m.zones
  many = sym (length-map b.zones (λ (l : ZoneLine). l.least)) ∙ h.least.one_each

  least-at : (z : ℕ) → z < m.zones → (line z).least.0 ≡ price_at (least_reported b) z
  least-at z l = ap (λ (c : Cents). c.0) (sym (get_or-map (λ (x : ZoneLine). x.least) b.zones z no_line (record { 0 = pos 0 }) (omega (arith, l, many))))

  greatest-at : (z : ℕ) → z < m.zones → (line z).greatest.0 ≡ price_at (greatest_reported b) z
  greatest-at z l = ap (λ (c : Cents). c.0) (sym (get_or-map (λ (x : ZoneLine). x.greatest) b.zones z no_line (record { 0 = pos 0 }) (omega (arith, l, many))))

  price-is : (z : ℕ) → z < m.zones → (line z).price.0 ≡ price_at (prices_of b) z
  price-is z l = ap (λ (c : Cents). c.0) (sym (get_or-map (λ (x : ZoneLine). x.price) b.zones z no_line (record { 0 = pos 0 }) (omega (arith, l, many))))

  in-order-at : (z : ℕ) → z < m.zones → IsInOrder (line z)
  in-order-at z l =
      let low = h.least.each z l in
      let high = h.greatest.each z l in
      omega (arith, ints, least-at z l, greatest-at z l, high.reached.2, low.least high.reached.0 high.reached.1)

  pub in-order : All IsInOrder b.zones
  in-order z d l = subst IsInOrder (get_or_default b.zones z no_line d l) (in-order-at z (omega (arith, l, many)))

  read-nearest : (low low' high high' r c c' : ℤ) → low ≡ low' → high ≡ high' → c ≡ c' → IsNearest low high r c → IsNearest low' high' r c'
  read-nearest low low' high high' r c c' e f g n = subst (λ (x : ℤ). IsNearest x high' r c') e (subst (λ (x : ℤ). IsNearest low x r c') f (subst (IsNearest low high r) g n))

  pub nearest-published : All (IsNearestLine m.reference) b.zones → ArePublishedPrices m (activation_of b) (prices_of b)
  nearest-published all = record {
    one_each = length-map b.zones (λ (l : ZoneLine). l.price) ∙ many;
    each = λ z l. record {
      low = price_at (least_reported b) z;
      high = price_at (greatest_reported b) z;
      least = h.least.each z l;
      greatest = h.greatest.each z l;
      nearest = read-nearest _ _ _ _ m.reference.0 _ _ (least-at z l) (greatest-at z l) (price-is z l) (all z no_line (omega (arith, l, many)));
    };
  }

  pub published-nearest : ArePublishedPrices m (activation_of b) (prices_of b) → All (IsNearestLine m.reference) b.zones
  published-nearest p z d l =
      let there : z < m.zones = omega (arith, l, many) in
      let at = p.each z there in
      let low : at.low ≡ price_at (least_reported b) z = one_least m (activation_of b) z at.low (price_at (least_reported b) z) at.least (h.least.each z there) in
      let high : at.high ≡ price_at (greatest_reported b) z = one_greatest m (activation_of b) z at.high (price_at (greatest_reported b) z) at.greatest (h.greatest.each z there) in
      subst (IsNearestLine m.reference) (get_or_default b.zones z no_line d l)
      (read-nearest at.low (line z).least.0 at.high (line z).greatest.0 m.reference.0 (price_at (prices_of b) z) (line z).price.0 (low ∙ sym (least-at z there)) (high ∙ sym (greatest-at z there))
      (sym (price-is z there)) at.nearest)
