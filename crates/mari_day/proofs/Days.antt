-- A whole day is printed, and the numbers of its text are in range.
use Rattle.std.proofs.Common.{◌≡◌, ℕ, zero, suc, ◌*◌, ◌-◌, ◌<◌, ◌≤◌, ◌==◌, Bool, true, List, [], ◌∷◌, ◌++◌, ◌∙◌, length, map, filter, get_or, refl, sym, ap, append_assoc, append-nil, arith}
use Rattle.std.specs.Prelude.{not, count_by}
use Rattle.std.specs.List.{All, flat_map, range_with_len}
use Rattle.std.proofs.lemmas.Grind.{flat_map-append}
use Rattle.std.proofs.lemmas.Bool.Decides.{nat_tests}
use Rattle.std.proofs.lemmas.List.{length-map}
use Rattle.std.proofs.lemmas.List.FromFn.{get_or-range_with_len, length-range_with_len}
use Rattle.std.proofs.lemmas.List.Elements.{All-filter, All-map, All-weaker, filter_passes}
use Rattle.std.proofs.lemmas.List.Filters.{length-filter_both}
use Rattle.std.proofs.lemmas.List.Sums.{length-filter}
use Rattle.mari_bids.specs.declared.bids.Bid.{Bid}
use Rattle.mari_market.specs.Clearing.{ArePartsOfSearch, IsSpent}
use Rattle.mari_market.specs.declared.clearing.PartItem.{PartItem}
use Rattle.mari_market.specs.declared.clearing.Spent.{Spent}
use Rattle.mari_market.specs.declared.market.Market.{Market}
use Rattle.mari_lines.specs.Spelling.{line_text}
use Rattle.mari_lines.specs.declared.line.AmountLine.{AmountLine}
use Rattle.mari_lines.specs.declared.line.Line.TheVariants as line
use Rattle.mari_lines.specs.declared.line.MoneyLine.{MoneyLine}
use Rattle.mari_lines.specs.Ranges.{Between, IsAmountLine, IsHeading, IsMoneyLine, Listed}
use Rattle.mari_publish.specs.declared.publication.Block.{Block}
use Rattle.mari_publish.specs.declared.publication.Publication.{Publication}
use Rattle.mari_publish.specs.Lines.{block_lines, closing_lines, closing_lines_by, unpublished_in}
use Rattle.mari_publish.specs.Ranges.{BlockFits}
use Rattle.mari_publish.specs.Texts.{block_text_of, head_text_of, text_of, text_of_lines, total_text_of}
use Rattle.mari_publish.proofs.Counts.{both_kinds}
use Rattle.mari_publish.proofs.Parts.{text_of_blocks}
use Rattle.mari_remain.specs.Accepted.{IsAccepted}
use Rattle.mari_remain.specs.declared.books.Books.{Books}
use Rattle.mari_settle.specs.Lines.{nothing}
use Rattle.mari_settle.specs.declared.ledger.Ledger.{Ledger}
use Rattle.mari_day.specs.Dated.{IsDated}
use Rattle.mari_progress.specs.Money.{amount_line, money_line, money_lines_of}
use Rattle.mari_settle.specs.Conditions.{LineIsWithin, most_of_operator}
use Rattle.mari_progress.specs.Progress.{AreTotals, IsProgress}
use Rattle.mari_day.specs.Day.{IsDayPart, part_text}
use Rattle.mari_day.specs.Progress.{PrintsWhole}
use Rattle.mari_progress.specs.declared.progress.Progress.{Progress}
use Rattle.mari_progress.specs.Reported.{heading_of}
use Rattle.mari_day.proofs.BlockFits.{lines-fit, IsHalf}
use Rattle.mari_progress.proofs.Lists.{along-length}
use Rattle.mari_progress.proofs.Sums.{one-each-provider, provider-lines}
use Rattle.mari_remain.proofs.Counts.{filtered}

-- the head, the blocks and the totals are the text of a day
day-text : (p : Publication) → (head_text_of p.date p.quarters p.budget ++ flat_map block_text_of p.blocks) ++ total_text_of p ≡ text_of p
day-text p =
    let head : List ℕ = line_text (line.Head p.date p.quarters p.budget) in
    append_assoc (head ++ []) (flat_map block_text_of p.blocks) (total_text_of p)
    ∙ ap (λ (t : List ℕ). t ++ (flat_map block_text_of p.blocks ++ total_text_of p)) (append-nil head)
    ∙ ap (λ (t : List ℕ). head ++ (t ++ total_text_of p)) (sym (text_of_blocks p.blocks))
    ∙ ap (λ (t : List ℕ). head ++ t) (sym (flat_map-append line_text (flat_map block_lines p.blocks) (closing_lines p)))

-- the closing lines, by what they are made of
pub same-closing : (operators operators' : List MoneyLine) (providers providers' : List AmountLine) (published published' unpublished unpublished' : ℕ)
    → operators ≡ operators' → providers ≡ providers' → published ≡ published' → unpublished ≡ unpublished'
    → text_of_lines (closing_lines_by operators providers published unpublished) ≡ text_of_lines (closing_lines_by operators' providers' published' unpublished')
same-closing operators operators' providers providers' published published' unpublished unpublished' e f g h = rw (e, f, g, h) refl

module _ {X : Type 0} where
  -- where each item has one of n numbers, and at most c have the same, there are at most c * n
  pub at-most-each : (number : X → ℕ) (c n : ℕ) (xs : List X) → All (λ x. Between 1 n (number x)) xs → ((k : ℕ) → count_by (λ x. number x == k) xs ≤ c) → length xs ≤ c * n
  at-most-each number c zero [] all few = omega arith
  at-most-each number c zero (x ∷ xs) all few = let none = all 0 x (omega arith) in absurd (omega (arith, none.0, none.1))
  at-most-each number c (suc n) xs all few =
      let last : X → Bool = λ x. number x == suc n in
      let rest : List X = filter (λ x. not (last x)) xs in
      let both = length-filter_both last (λ x. not (last x)) (λ x. refl) xs in
      let own : length (filter last xs) ≤ c = omega (arith, length-filter last xs, few (suc n)) in
      let below : All (λ x. Between 1 n (number x)) rest = λ k d l.
      let within = All-filter (λ x. not (last x)) (λ x. Between 1 (suc n) (number x)) xs all k d l in
      let passes = filter_passes (λ x. not (last x)) xs k d l in
      (within.0, other (number _) n passes within.1) in
      let less = at-most-each number c n rest below
      (λ k. omega (arith, filtered (λ x. number x == k) (λ x. not (last x)) xs, length-filter (λ x. number x == k) rest, length-filter (λ x. number x == k) xs, few k)) in
      grind (arith, both, own, less)
    where
      other : (m n : ℕ) → not (m == suc n) ≡ true → m ≤ suc n → m ≤ n
      other m n differs l = grind (arith, nat_tests, differs, l)

module _ (books : Books) (ok : IsAccepted books) (dated : IsDated books) where
  few-bids : length books.bids.bids ≤ 1638400
  few-bids =
      let most = at-most-each (λ (b : Bid). b.quarter) 4096 books.quarters books.bids.bids (λ k d l. let b = ok.bids.bids k d l in (b.first_quarter, b.last_quarter)) ok.bids.of_quarter in
      omega (arith, most, dated.quarters.1)

  pub heading-fits : (run : ℕ) → 1 ≤ run → run ≤ length books.runs.runs → IsHeading (heading_of books run)
  heading-fits run first last =
      let own = ok.runs.runs (run - 1) _ (omega arith) in
      ((first, omega (arith, last, ok.runs.few)), (own.first_quarter, omega (arith, own.last_quarter, dated.quarters.1)))

  some-part : (m : Market) (items : List PartItem) → ArePartsOfSearch m ([] ∷ []) items → 1 ≤ length items
  some-part m [] h = absurd h
  some-part m (item ∷ items) h = omega arith

  -- what isn't published is in range
  pub spent-fits : (m : Market) (budget : ℕ) (spent : Spent) → budget ≤ 50000 → IsSpent m budget spent → Between 1 50000 (length spent.items)
  spent-fits m budget spent small is = (some-part m spent.items is.part, omega (arith, is.within_budget))

  module _ (blocks : List Block) (ledger : Ledger) (sums : AreTotals books blocks ledger) (few : length blocks ≤ 1000) where
    -- so that the lines of operators can be made
    pub sums-halves : All IsHalf ledger.operators
    sums-halves =
        All-weaker (LineIsWithin (length blocks * most_of_operator)) IsHalf
        (λ l s. record { payment = omega (arith, few, s.payment); rent = omega (arith, few, s.rent) }) ledger.operators sums.operators_within

    pub operators-fit : Listed 1 64 IsMoneyLine (money_lines_of books.zones.operators ledger.operators)
    operators-fit =
        let many = along-length money_line books.zones.operators ledger.operators sums.one_each in
        let some : 0 < length books.zones.operators = omega (arith, ok.zones.operators_there.there 0 0 (omega (arith, ok.zones.operators_there.one_each, ok.zones.some))) in
        ((omega (arith, many, some), omega (arith, many, ok.zones.few_operators)), lines-fit books.zones.operators ledger.operators ok.zones.operators sums-halves)

    abbrev lines : List AmountLine
    lines = map (amount_line books.bids.providers ledger.providers) (range_with_len 0 (length books.bids.providers))

    pub providers-fit : Listed 0 1638400 IsAmountLine lines
    providers-fit =
        let places = range_with_len 0 (length books.bids.providers) in
        let many = length-map places (amount_line books.bids.providers ledger.providers) in
        let all = length-range_with_len 0 (length books.bids.providers) in (
          (omega arith, omega (arith, many, all, ok.bids.few_providers, few-bids)),
          All-map IsAmountLine (amount_line books.bids.providers ledger.providers) places (λ k d l.
              let there : k < length books.bids.providers = omega (arith, all) in
              let place = get_or-range_with_len 0 (length books.bids.providers) k d there in
              let within = sums.providers_within (get_or places k d) nothing (omega (arith, place, one-each-provider books blocks ledger sums)) in
              (ok.bids.providers (get_or places k d) [] (omega (arith, place)), omega (arith, few, within))),
        )

  module _ (budget : ℕ) (node_range : Between 1 50000 budget) (blocks : List Block) (part : IsDayPart books budget blocks) (fits : All BlockFits blocks)
      (kept : Progress) (progress : IsProgress books blocks kept) (every : length blocks ≡ length books.runs.runs) where
    pub few-blocks : length blocks ≤ 1000
    few-blocks = omega (arith, every, ok.runs.few)

    -- the day of these blocks and these sums
    abbrev pub day-of-blocks : Publication
    day-of-blocks = record {
      date = books.date;
      quarters = books.quarters;
      budget = budget;
      blocks = blocks;
      operators = money_lines_of books.zones.operators kept.totals.operators;
      providers = lines blocks kept.totals progress.totals few-blocks;
    }

    -- how many of its blocks aren't published
    pub others : length books.runs.runs - kept.published ≡ unpublished_in blocks
    others = omega (arith, every, progress.published, both_kinds blocks)

    pub printed : PrintsWhole (books, budget) kept.published (part_text books budget blocks ++ total_text_of day-of-blocks)
    printed = record {
      publication = day-of-blocks;
      is_day = record {
        head = record { date_is = refl; quarters_is = refl };
        budget = refl;
        part = part;
        every = every;
        totals = record {
          operators = progress.totals.operators;
          providers = provider-lines books blocks kept.totals progress.totals;
        };
      };
      in_range = record {
        head = (dated.date, dated.quarters, node_range);
        blocks = fits;
        totals = record {
          runs = few-blocks;
          operators = operators-fit blocks kept.totals progress.totals few-blocks;
          providers = providers-fit blocks kept.totals progress.totals few-blocks;
        };
      };
      text = day-text day-of-blocks;
      published = progress.published;
      unpublished = others;
    }

-- of a whole day that was printed, how many blocks are published is at most the number of its runs
pub few-published : (books : Books) (budget published : ℕ) (text : List ℕ) → PrintsWhole (books, budget) published text → published ≤ length books.runs.runs
few-published books budget published text is = omega (arith, is.published, is.is_day.every, both_kinds is.publication.blocks)
