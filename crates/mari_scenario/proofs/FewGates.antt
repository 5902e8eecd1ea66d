-- No quarter has more than eight bids with a gate: every fifth is indivisible, and the links are between such bids.
use Rattle.std.proofs.Common.{◌≡◌, ◌≢◌, ◌≤◌, ◌<◌, ◌+◌, ◌-◌, ◌*◌, ◌/◌, ◌%◌, ◌∙◌, ◌==◌, ◌⊎◌, ℕ, zero, suc, Bool, true, false, List, [], ◌∷◌, Some, length, refl, sym, inl, inr, arith, true≢false, eq-eqb, if◌then◌else◌}
use Rattle.std.specs.Prelude.{◌||◌, count_by, filter}
use Rattle.std.specs.List.{list_any, range_with_len}
use Rattle.std.proofs.lemmas.Bool.Decides.{eqb_tells}
use Rattle.std.proofs.lemmas.List.FromFn.{length-map-range_with_len}
use Rattle.std.proofs.lemmas.List.Folds.{list_any-append}
use Rattle.std.proofs.lemmas.List.Sums.{sum_by-cons}
use Rattle.mari_bids.specs.declared.bids.BidBook.{BidBook}
use Rattle.mari_links.specs.Links.{bid_named, count_of, gated_in, is_gated, least_of_bid, links_of, quarter_of, said_by, Member, Said}
use Rattle.mari_links.specs.declared.lines.Link.{Link}
use Rattle.mari_links.proofs.GateLemmas.{gated-alike}
use Rattle.mari_scenario.specs.Pages.{bid}
use Rattle.mari_scenario.proofs.LinkPage.{child, children, children-said, link_rows, member, members, members-said, the_links}

-- a number of another remainder
other-number : (a k : ℕ) → (a + 1) % 5 ≡ 0 → ((k + 1) % 5 == 0) ≡ false → (a == k) ≡ false
other-number a k fifth other = by (eqb_tells a k)
  where
    by : ((a == k) ≡ true) × (a ≡ k) ⊎ ((a == k) ≡ false) × (a ≢ k) → (a == k) ≡ false
    by (inl same) =
        let equal : a ≡ k = same.1 in
        let zero-left : (k + 1) % 5 ≡ 0 = omega (arith, fifth, equal) in
        absurd (true≢false (sym (eq-eqb ((k + 1) % 5) 0 zero-left) ∙ other))
    by (inr apart) = apart.0

no-such-member : (n k : ℕ) → ((k + 1) % 5 == 0) ≡ false → list_any (λ (m : Member). m.bid == k) (members n) ≡ false
no-such-member zero k other = refl
no-such-member (suc n) k other =
    rw (
      list_any-append (λ (m : Member). m.bid == k) (members n) (member n 9 ∷ member n 14 ∷ []),
      no-such-member n k other,
      other-number (40 * n + 9) k (omega arith) other,
      other-number (40 * n + 14) k (omega arith) other,
    )
    refl

no-such-child : (n k : ℕ) → ((k + 1) % 5 == 0) ≡ false → list_any (λ (link : Link). (link.first == k) || (link.second == k)) (children n) ≡ false
no-such-child zero k other = refl
no-such-child (suc n) k other =
    rw (
      list_any-append (λ (link : Link). (link.first == k) || (link.second == k)) (children n) (child n ∷ []),
      no-such-child n k other,
      other-number (40 * n + 24) k (omega arith) other,
      other-number (40 * n + 19) k (omega arith) other,
    )
    refl

module _ (bids : BidBook) (named : (n j : ℕ) → n < 24 → j < 40 → bid_named bids (bid (n + 1) (j + 1)) ≡ Some (40 * n + j))
    (quarter : (k : ℕ) → k < 960 → quarter_of bids k ≡ k / 40 + 1) (count : length bids.ids ≡ 960)
    (divisible : (k : ℕ) → k < 960 → ((k + 1) % 5 == 0) ≡ false → least_of_bid bids k ≡ 0) where
  abbrev said : Said
  said = said_by bids (link_rows 24)

  ungated : (k : ℕ) → k < 960 → ((k + 1) % 5 == 0) ≡ false → is_gated bids said k ≡ false
  ungated k few other =
      rw
      (divisible k few other, members-said bids named quarter count 24 (omega arith), no-such-member 24 k other, children-said bids named quarter count 24 (omega arith), no-such-child 24 k other)
      refl

  abbrev in_quarter : ℕ → ℕ → Bool
  in_quarter q k = quarter_of bids k == q

  -- the gated bids from a place on, of a quarter
  abbrev counted : (q s n : ℕ) → ℕ
  counted q s n = count_by (in_quarter q) (filter (is_gated bids said) (range_with_len s n))

  abbrev AtMost : (q s : ℕ) → List ℕ → Type 0
  AtMost q s ks = (count_by (in_quarter q) ks ≤ 8) × (count_by (in_quarter q) ks ≤ 8 * q - s / 5)

  eight-at-most : (q s n : ℕ) → s + n ≤ 960 → (counted q s n ≤ 8) × (counted q s n ≤ 8 * q - s / 5)
  eight-at-most q s zero few = (omega arith, omega arith)
  eight-at-most q s (suc n) few = by-place ((s + 1) % 5 == 0) refl (eight-at-most q (s + 1) n (omega arith))
    where
      rest : List ℕ
      rest = filter (is_gated bids said) (range_with_len (s + 1) n)

      more : count_by (in_quarter q) (s ∷ rest) ≡ (if in_quarter q s then 1 else 0) + count_by (in_quarter q) rest
      more = sum_by-cons (λ k. if in_quarter q k then 1 else 0) s rest

      reported : quarter_of bids s ≡ s / 40 + 1
      reported = quarter s (omega arith)

      without : (count_by (in_quarter q) rest ≤ 8) × (count_by (in_quarter q) rest ≤ 8 * q - (s + 1) / 5) → AtMost q s rest
      without h = (h.0, omega (arith, h.1))

      with-it : (s + 1) % 5 ≡ 0 → (count_by (in_quarter q) rest ≤ 8) × (count_by (in_quarter q) rest ≤ 8 * q - (s + 1) / 5)
          → (in_quarter q s ≡ true) × (quarter_of bids s ≡ q) ⊎ (in_quarter q s ≡ false) × (quarter_of bids s ≢ q) → AtMost q s (s ∷ rest)
      with-it fifth h (inl here) =
          let one = rw here.0 at more in
          let same : s / 40 + 1 ≡ q = sym reported ∙ here.1 in
          (omega (arith, h.1, one, same, fifth), omega (arith, h.1, one, same, fifth))
      with-it fifth h (inr other) = let none = rw other.0 at more in (omega (arith, h.0, none), omega (arith, h.1, none))

      by-gate : (b : Bool) → (s + 1) % 5 ≡ 0 → (count_by (in_quarter q) rest ≤ 8) × (count_by (in_quarter q) rest ≤ 8 * q - (s + 1) / 5) → AtMost q s (if b then s ∷ rest else rest)
      by-gate true fifth h = with-it fifth h (eqb_tells (quarter_of bids s) q)
      by-gate false fifth h = without h

      fifth-by : (((s + 1) % 5 == 0) ≡ true) × ((s + 1) % 5 ≡ 0) ⊎ (((s + 1) % 5 == 0) ≡ false) × ((s + 1) % 5 ≢ 0) → ((s + 1) % 5 == 0) ≡ true → (s + 1) % 5 ≡ 0
      fifth-by (inl is) e = is.1
      fifth-by (inr other) e = absurd (true≢false (sym e ∙ other.0))

      by-place : (b : Bool) → ((s + 1) % 5 == 0) ≡ b → (count_by (in_quarter q) rest ≤ 8) × (count_by (in_quarter q) rest ≤ 8 * q - (s + 1) / 5)
          → AtMost q s (if is_gated bids said s then s ∷ rest else rest)
      by-place true e h = by-gate (is_gated bids said s) (fifth-by (eqb_tells ((s + 1) % 5) 0) e) h
      by-place false e h = rw (ungated s (omega arith) e) (without h)

  pub few-gates : (q : ℕ) → count_of bids (gated_in (the_links bids named quarter count)) q ≤ 8
  unfolding the_links
  few-gates q = rw (length-map-range_with_len (links_of bids said) 0 (length bids.ids), gated-alike bids said, count) ((eight-at-most q 0 960 (omega arith)).0)
