-- Books whose limits stand on a page of their own have the same day parts and days.
use Rattle.std.proofs.Common.{◌≡◌, ◌∙◌, ◌≤◌, ◌+◌, ◌+ℤ◌, ◌↔◌, ℕ, ℤ, List, [], ◌∷◌, ◌++◌, Option, Ok, length, map, take, refl, sym, ap, arith, subst}
use Rattle.std.specs.List.{range_with_len}
use Rattle.std.proofs.Math.Path.{fun_ext}
use Rattle.std.proofs.lemmas.List.{length-append, length-take-le}
use Rattle.std.proofs.lemmas.Option.{slice_get_within}
use Rattle.std.proofs.lemmas.Simd.{map-map}
use Rattle.mari_units.specs.declared.numbers.Cents.{Cents}
use Rattle.mari_rows.specs.Names.{name_at}
use Rattle.mari_zones.specs.Borders.{borders_in}
use Rattle.mari_zones.specs.declared.borders.BorderBook.{BorderBook}
use Rattle.mari_zones.specs.declared.borders.BorderEnds.{BorderEnds}
use Rattle.mari_demands.specs.declared.limits.Limits.{Limits}
use Rattle.mari_market.specs.Clearing.{IsUnpublished}
use Rattle.mari_lines.specs.declared.line.AmountLine.{AmountLine}
use Rattle.mari_publish.specs.declared.publication.Block.{Block}
use Rattle.mari_publish.specs.declared.publication.Block.TheVariants as block
use Rattle.mari_publish.specs.declared.publication.FullBlock.{FullBlock}
use Rattle.mari_publish.specs.declared.publication.Publication.{Publication}
use Rattle.mari_remain.specs.declared.books.Books.{Books}
use Rattle.mari_remain.specs.declared.market.RunMarket.{RunMarket}
use Rattle.mari_remain.specs.Accepted.{IsAccepted}
use Rattle.mari_remain.specs.Blocks.{PastBlock}
use Rattle.mari_remain.specs.Migrated.{AreRead, with_limits}
use Rattle.mari_remain.specs.RunMarket.{run_market_of}
use Rattle.mari_remain.proofs.MigratedBooks.{markets-same, same-borders}
use Rattle.mari_remain.proofs.MigratedBorders.{bare}
use Rattle.mari_progress.specs.After.{also_after, before_of, market_after, past_of, run_after}
use Rattle.mari_progress.specs.Money.{HasLedger, amount_of}
use Rattle.mari_progress.specs.Reported.{NamesLines, heading_of}
use Rattle.mari_progress.specs.Totals.{HasHead, HasTotals, amount_in, amount_over, provider_totals}
use Rattle.mari_day.specs.Day.{IsDay, IsDayPart}
use Rattle.mari_day.specs.Published.{IsBlock, IsPublishedOf}

-- the days of books are those of other books that say the same of each run
module _ (books other : Books) (count : length books.runs.runs ≡ length other.runs.runs) (heading : (run : ℕ) → heading_of books run ≡ heading_of other run)
    (names : (numbers : List ℕ) (b : FullBlock) → NamesLines books numbers b → NamesLines other numbers b)
    (ledger : (made : RunMarket) (also : Option (List Cents)) (b : FullBlock) → HasLedger books made also b → HasLedger other made also b)
    (market : (before : List Block) → length before + 1 ≤ length books.runs.runs → market_after books before ≡ market_after other before)
    (also : (before : List Block) → also_after books before ≡ also_after other before) (head : (date : List ℕ) (quarters : ℕ) → HasHead books date quarters → HasHead other date quarters)
    (totals : (p : Publication) → length p.blocks ≤ length books.runs.runs → HasTotals books p → HasTotals other p) where
  published : (budget run : ℕ) (made : RunMarket) (given : Option (List Cents)) (b : FullBlock) → IsPublishedOf books budget run made given b → IsPublishedOf other budget run made given b
  published budget run made given b h = record {
    heading = h.heading ∙ heading run;
    names = record { lines = names made.bids b h.names.lines; demands = h.names.demands };
    clearing = h.clearing;
    prices = h.prices;
    ledger = ledger made given b h.ledger;
  }

  one : (budget : ℕ) (before : List Block) (b : Block) → length before + 1 ≤ length books.runs.runs → IsBlock books budget before b → IsBlock other budget before b
  one budget before (block.Published b) l h =
      let made : (m : RunMarket) → market_after books before ≡ m → IsPublishedOf other budget (run_after before) m (also_after books before) b =
      λ m e. subst (λ n. IsPublishedOf other budget (run_after before) n (also_after books before) b) e
      (published budget (run_after before) (market_after books before) (also_after books before) b h) in
      subst (λ given. IsPublishedOf other budget (run_after before) (market_after other before) given b) (also before) (made (market_after other before) (market before l))
  one budget before (block.Unpublished reported count) l h = record {
    is_of = h.is_of ∙ heading (run_after before);
    spent = subst (λ (m : RunMarket). IsUnpublished m.market budget count) (market before l) h.spent;
  }

  pub same-part : (budget : ℕ) (blocks : List Block) → IsDayPart books budget blocks → IsDayPart other budget blocks
  same-part budget blocks h = record {
    few = omega (arith, h.few, count);
    each = λ k b e.
        let l = slice_get_within blocks k b e in
        one budget (take k blocks) b (omega (arith, l, h.few, length-take-le k blocks (omega (arith, l)))) (h.each k b e);
  }

  pub same-day : (nodes : ℕ) (p : Publication) → IsDay books nodes p → IsDay other nodes p
  same-day nodes p h = record {
    head = head p.date p.quarters h.head;
    budget = h.budget;
    part = same-part nodes p.blocks h.part;
    every = h.every ∙ count;
    totals = totals p h.part.few h.totals;
  }

module _ (books : Books) (ok : IsAccepted books) (own : List ℕ) (read : borders_in books.zones own ≡ Ok books.borders) (borders : BorderBook) (limits : List (List Limits))
    (is : AreRead books borders limits) where
  abbrev migrated : Books
  migrated = with_limits books borders limits

  -- the borders lie between the same zones
  ends-same : (end : BorderEnds → ℕ) → ((ends : BorderEnds) → end (bare ends) ≡ end ends)
      → map (λ (ends : BorderEnds). name_at books.zones.zones (end ends)) borders.borders ≡ map (λ (ends : BorderEnds). name_at books.zones.zones (end ends)) books.borders.borders
  ends-same end kept =
      ap (λ (b : BorderBook). map (λ (ends : BorderEnds). name_at books.zones.zones (end ends)) b.borders) (same-borders books ok own read borders limits is)
      ∙ map-map (λ (ends : BorderEnds). name_at books.zones.zones (end ends)) bare books.borders.borders
      ∙ ap (λ (f : BorderEnds → List ℕ). map f books.borders.borders) (fun_ext (λ ends. ap (name_at books.zones.zones) (kept ends)))

  from-same : map (λ (ends : BorderEnds). name_at books.zones.zones ends.from) borders.borders ≡ map (λ (ends : BorderEnds). name_at books.zones.zones ends.from) books.borders.borders
  from-same = ends-same (λ ends. ends.from) (λ ends. refl)

  to-same : map (λ (ends : BorderEnds). name_at books.zones.zones ends.to) borders.borders ≡ map (λ (ends : BorderEnds). name_at books.zones.zones ends.to) books.borders.borders
  to-same = ends-same (λ ends. ends.to) (λ ends. refl)

  past-same : (blocks : List Block) → before_of migrated blocks ≡ before_of books blocks
  past-same [] = refl
  past-same (b ∷ bs) = ap (λ (p : PastBlock). p ∷ before_of migrated bs) (first b) ∙ ap (λ (ps : List PastBlock). past_of books b ∷ ps) (past-same bs)
    where
      first : (b : Block) → past_of migrated b ≡ past_of books b
      first (block.Published b) = refl
      first (block.Unpublished heading count) = refl

  market-same : (before : List Block) → length before + 1 ≤ length books.runs.runs → market_after migrated before ≡ market_after books before
  market-same before l =
      ap (λ past. run_market_of migrated past (run_after before)) (past-same before)
      ∙ markets-same books ok own read borders limits is (before_of books before) (run_after before) (omega arith) l

  in-same : (before : List Block) (b : Block) (provider : ℕ) → length before + 1 ≤ length books.runs.runs → amount_in migrated before b provider ≡ amount_in books before b provider
  in-same before (block.Published b) provider l = ap (λ m. amount_of books m (also_after books before) b provider) (market-same before l)
  in-same before (block.Unpublished heading count) provider l = refl

  over-same : (before blocks : List Block) (provider : ℕ) → length before + length blocks ≤ length books.runs.runs
      → amount_over migrated before blocks provider ≡ amount_over books before blocks provider
  over-same before [] provider l = refl
  over-same before (b ∷ bs) provider l =
      let now = in-same before b provider (omega (arith, l)) in
      let later = over-same (before ++ b ∷ []) bs provider (omega (arith, l, length-append before (b ∷ []))) in
      ap (λ (z : ℤ). z +ℤ amount_over migrated (before ++ b ∷ []) bs provider) now ∙ ap (λ (z : ℤ). amount_in books before b provider +ℤ z) later

  providers-same : (blocks : List Block) → length blocks ≤ length books.runs.runs → provider_totals migrated blocks ≡ provider_totals books blocks
  providers-same blocks l =
      ap (λ (f : ℕ → AmountLine). map f (range_with_len 0 (length books.bids.providers)))
      (fun_ext (λ provider. ap (λ (z : ℤ). record { name = name_at books.bids.providers provider; amount = record { 0 = z } }) (over-same [] blocks provider (omega (arith, l)))))

  names-on : (numbers : List ℕ) (b : FullBlock) → NamesLines books numbers b → NamesLines migrated numbers b
  names-on numbers b h = record { zones = h.zones; from = h.from ∙ sym from-same; to = h.to ∙ sym to-same; bids = h.bids }

  names-back : (numbers : List ℕ) (b : FullBlock) → NamesLines migrated numbers b → NamesLines books numbers b
  names-back numbers b h = record { zones = h.zones; from = h.from ∙ from-same; to = h.to ∙ to-same; bids = h.bids }

  ledger-on : (made : RunMarket) (also : Option (List Cents)) (b : FullBlock) → HasLedger books made also b → HasLedger migrated made also b
  ledger-on made also b h = record { states = record { rents = h.states.rents; operators = h.states.operators; providers = h.states.providers } }

  ledger-back : (made : RunMarket) (also : Option (List Cents)) (b : FullBlock) → HasLedger migrated made also b → HasLedger books made also b
  ledger-back made also b h = record { states = record { rents = h.states.rents; operators = h.states.operators; providers = h.states.providers } }

  head-on : (date : List ℕ) (quarters : ℕ) → HasHead books date quarters → HasHead migrated date quarters
  head-on date quarters h = record { date_is = h.date_is; quarters_is = h.quarters_is }

  head-back : (date : List ℕ) (quarters : ℕ) → HasHead migrated date quarters → HasHead books date quarters
  head-back date quarters h = record { date_is = h.date_is; quarters_is = h.quarters_is }

  totals-on : (p : Publication) → length p.blocks ≤ length books.runs.runs → HasTotals books p → HasTotals migrated p
  totals-on p l h = record { operators = h.operators; providers = h.providers ∙ sym (providers-same p.blocks l) }

  totals-back : (p : Publication) → length p.blocks ≤ length books.runs.runs → HasTotals migrated p → HasTotals books p
  totals-back p l h = record { operators = h.operators; providers = h.providers ∙ providers-same p.blocks l }

  pub parts-same : (budget : ℕ) (blocks : List Block) → IsDayPart books budget blocks ↔ IsDayPart migrated budget blocks
  parts-same budget blocks = (
    same-part books migrated refl (λ run. refl) names-on ledger-on (λ before l. sym (market-same before l)) (λ before. refl) head-on totals-on budget blocks,
    same-part migrated books refl (λ run. refl) names-back ledger-back market-same (λ before. refl) head-back totals-back budget blocks,
  )

  pub days-same : (nodes : ℕ) (p : Publication) → IsDay books nodes p ↔ IsDay migrated nodes p
  days-same nodes p = (
    same-day books migrated refl (λ run. refl) names-on ledger-on (λ before l. sym (market-same before l)) (λ before. refl) head-on totals-on nodes p,
    same-day migrated books refl (λ run. refl) names-back ledger-back market-same (λ before. refl) head-back totals-back nodes p,
  )
