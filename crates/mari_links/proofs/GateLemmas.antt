-- Bids that have a gate, and how many of them a quarter has.
use Rattle.std.proofs.Common.{◌≡◌, ◌∙◌, ◌≤◌, ◌<◌, ◌+◌, ◌-◌, Some, cond, ◌==◌, ℕ, zero, suc, Bool, true, false, List, [], ◌∷◌, ◌++◌, filter, get_or, length, refl, ap, arith, zero-add, if◌then◌else◌}
use Rattle.std.specs.Prelude.{◌||◌, nat_lt, slice_get}
use Rattle.std.specs.List.{list_any, range_with_len}
use Rattle.std.proofs.lemmas.Bool.Decides.{nat_tests}
use Rattle.std.proofs.lemmas.List.{append-nil, map-id}
use Rattle.std.proofs.lemmas.List.Elements.{filter-append}
use Rattle.std.proofs.lemmas.List.Folds.{list_any-append, list_any_none}
use Rattle.std.proofs.lemmas.List.FromFn.{filter_of_map_range_with_len_more, get_or-map-range_with_len, length-map-range_with_len}
use Rattle.std.proofs.lemmas.List.Sums.{sum_by-append}
use Rattle.std.proofs.lemmas.Option.{slice_get-get_or, slice_get_read}
use Rattle.mari_rows.proofs.CountLemmas.{count_by-push}
use Rattle.mari_bids.specs.declared.bids.BidBook.{BidBook}
use Rattle.mari_links.specs.Gates.{has_gate_at}
use Rattle.mari_links.specs.Links.{count_of, entries_of, gated_bids, has_too_many, is_gated, links_of, quarter_of, Said}
use Rattle.mari_links.specs.declared.links.BidLinks.{BidLinks}
use Rattle.mari_links.proofs.EntryLemmas.{or-yes}

-- one more number that passes, or does not
pub range-more : (p : ℕ → Bool) (i : ℕ) → filter p (range_with_len 0 (i + 1)) ≡ filter p (range_with_len 0 i) ++ (if p i then i ∷ [] else [])
range-more p i = simp map-id at (filter_of_map_range_with_len_more p (λ (n : ℕ). n) 0 i i (zero-add i))

pub range-yes : (p : ℕ → Bool) (i : ℕ) → p i ≡ true → filter p (range_with_len 0 (i + 1)) ≡ filter p (range_with_len 0 i) ++ i ∷ []
range-yes p i passes = range-more p i ∙ rw passes refl

pub range-no : (p : ℕ → Bool) (i : ℕ) → p i ≡ false → filter p (range_with_len 0 (i + 1)) ≡ filter p (range_with_len 0 i)
range-no p i fails = range-more p i ∙ rw fails (simp append-nil)

-- numbers in two parts
range-split : (a m k b : ℕ) → a + m ≡ b → range_with_len a (m + k) ≡ range_with_len a m ++ range_with_len b k
range-split a zero k b from = let same : a ≡ b = omega (arith, from) in rw (zero-add k, same) refl
range-split a (suc m) k b from =
    let longer : suc m + k ≡ suc (m + k) = omega arith in
    rw longer (ap (λ xs. a ∷ xs) (range-split (a + 1) m k b (omega (arith, from))))

-- whether the entry that is read has a gate
pub gate-read : (entries : List BidLinks) (bid : ℕ) (entry : BidLinks) → bid < length entries → entry ≡ get_or entries bid entry → has_gate_at entries bid ≡ entry.gated
gate-read entries bid entry below read = rw (slice_get_read entries (length entries) bid entry refl below read) refl

module _ (bids : BidBook) where
  pub count-append : (xs ys : List ℕ) (quarter : ℕ) → count_of bids (xs ++ ys) quarter ≡ count_of bids xs quarter + count_of bids ys quarter
  count-append xs ys quarter = sum_by-append (λ bid. if quarter_of bids bid == quarter then 1 else 0) xs ys

  -- a quarter that has 512 of these bids, and one more
  pub one-too-many : (p : ℕ → Bool) (i n : ℕ) → i < n → p i ≡ true → nat_lt (count_of bids (filter p (range_with_len 0 i)) (quarter_of bids i)) 512 ≡ false
      → (quarter_of bids i == quarter_of bids i) ≡ true → has_too_many bids (filter p (range_with_len 0 n)) ≡ true
  one-too-many p i n below passes full itself =
      let most : 512 ≤ count_of bids (filter p (range_with_len 0 i)) (quarter_of bids i) = grind (arith, nat_tests, full) in
      let length-rest : (i + 1) + (n - (i + 1)) ≡ n = omega (arith, below) in
      let parts : range_with_len 0 n ≡ range_with_len 0 (i + 1) ++ range_with_len (i + 1) (n - (i + 1)) =
      rw length-rest at (range-split 0 (i + 1) (n - (i + 1)) (i + 1) (zero-add (i + 1))) in
      let whole : filter p (range_with_len 0 n) ≡ (filter p (range_with_len 0 i) ++ i ∷ []) ++ filter p (range_with_len (i + 1) (n - (i + 1))) =
      rw parts (filter-append p (range_with_len 0 (i + 1)) (range_with_len (i + 1) (n - (i + 1))) ∙ rw (range-yes p i passes) refl) in
      rw whole (found (filter p (range_with_len 0 i)) (filter p (range_with_len (i + 1) (n - (i + 1)))) most)
    where
      found : (before after : List ℕ) → 512 ≤ count_of bids before (quarter_of bids i) → has_too_many bids ((before ++ i ∷ []) ++ after) ≡ true
      found before after most =
          let all = (before ++ i ∷ []) ++ after in
          let quarter = quarter_of bids i in
          let test = λ (bid : ℕ). nat_lt 512 (count_of bids all (quarter_of bids bid)) in
          let count : count_of bids all quarter ≡ (count_of bids before quarter + 1) + count_of bids after quarter =
          count-append (before ++ i ∷ []) after quarter
          ∙ ap (λ n. n + count_of bids after quarter) (count_by-push (λ bid. quarter_of bids bid == quarter) before i ∙ rw itself refl) in
          let here : test i ≡ true = rw count (grind (arith, nat_tests, most)) in
          list_any-append test (before ++ i ∷ []) after
          ∙ ap (λ b. b || list_any test after) (list_any-append test before (i ∷ []) ∙ ap (λ b. list_any test before || (b || false)) here ∙ or-yes (list_any test before))

  -- no quarter has more than 512
  pub none-too-many : (xs : List ℕ) → ((k : ℕ) → count_of bids xs k ≤ 512) → has_too_many bids xs ≡ false
  none-too-many xs few =
      list_any_none (λ bid. nat_lt 512 (count_of bids xs (quarter_of bids bid))) xs
      (λ k d within. grind (arith, nat_tests, few (quarter_of bids (get_or xs k d))))

-- tests that agree on some numbers
filter-below : (p q : ℕ → Bool) (a n : ℕ) → ((x : ℕ) → a ≤ x → x < a + n → p x ≡ q x) → filter p (range_with_len a n) ≡ filter q (range_with_len a n)
filter-below p q a zero alike = refl
filter-below p q a (suc n) alike =
    let here = alike a (omega arith) (omega arith) in
    let rest = filter-below p q (a + 1) n (λ x low high. alike x (omega (arith, low)) (omega (arith, high))) in
    λ i. cond (here i) (a ∷ rest i) (rest i)

module _ (bids : BidBook) (said : Said) where
  -- the entry of a bid
  pub entry-there : (bid : ℕ) → bid < length bids.ids → slice_get (entries_of bids said) bid ≡ Some (links_of bids said bid)
  entry-there bid below =
      let within : bid < length (entries_of bids said) = rw (length-map-range_with_len (links_of bids said) 0 (length bids.ids)) below in
      slice_get-get_or (entries_of bids said) bid (links_of bids said bid) within
      ∙ ap Some (get_or-map-range_with_len (links_of bids said) 0 (length bids.ids) bid bid (links_of bids said bid) below (zero-add bid))

  pub gate-there : (bid : ℕ) → bid < length bids.ids → has_gate_at (entries_of bids said) bid ≡ is_gated bids said bid
  gate-there bid below = rw (entry-there bid below) refl

  -- the bids whose entries have a gate
  pub gated-alike : filter (has_gate_at (entries_of bids said)) (range_with_len 0 (length bids.ids)) ≡ gated_bids bids said
  gated-alike =
      filter-below (has_gate_at (entries_of bids said)) (is_gated bids said) 0 (length bids.ids) (λ x low high. gate-there x (omega (arith, high)))
