-- Books whose limits stand on a page of their own have the same markets.
use Rattle.std.proofs.Common.{◌≡◌, ◌∙◌, ◌≤◌, ◌<◌, ◌&&◌, ◌↔◌, ℕ, zero, suc, List, Option, Some, None, Ok, IfSome, length, filter, map, refl, sym, ap, arith, subst, take, []}
use Rattle.std.specs.List.{range_with_len}
use Rattle.std.proofs.Math.Path.{fun_ext}
use Rattle.std.proofs.lemmas.List.{get_or-map, length-map}
use Rattle.mari_rows.specs.Books.{book_in}
use Rattle.mari_market.specs.Optimal.{IsFeasible}
use Rattle.mari_market.specs.declared.market.Border.{Border}
use Rattle.mari_zones.specs.Borders.{borders_in, version_in}
use Rattle.mari_zones.specs.declared.borders.BorderBook.{BorderBook}
use Rattle.mari_zones.specs.declared.borders.BorderEnds.{BorderEnds}
use Rattle.mari_zones.proofs.BookFacts.{border-facts}
use Rattle.mari_links.specs.Links.{has_gate}
use Rattle.mari_demands.specs.Limits.{limit_grammar}
use Rattle.mari_demands.specs.LimitPairs.{limits_in}
use Rattle.mari_demands.specs.declared.limits.Limits.{Limits}
use Rattle.mari_demands.specs.declared.runs.Run.{Run}
use Rattle.mari_demands.proofs.LimitLemmas.{limit-facts}
use Rattle.mari_remain.specs.declared.books.Books.{Books}
use Rattle.mari_remain.specs.declared.market.RunMarket.{RunMarket}
use Rattle.mari_remain.specs.Accepted.{IsAccepted}
use Rattle.mari_remain.specs.Available.{Taken, is_available_up, may_run, parent_allows}
use Rattle.mari_remain.specs.Blocks.{PastBlock, PastRun}
use Rattle.mari_remain.specs.FirstBlocks.{AreFirstBlocks, IsNextBlock, IsPastRun}
use Rattle.mari_remain.specs.Lists.{bids_of_quarter, parent_at, run_numbered}
use Rattle.mari_remain.specs.Migrated.{AreRead, borders_page, limits_page, with_limits}
use Rattle.mari_remain.specs.RunMarket.{border_left, borders_left, demands_of_run, ends_at, gates_of, numbers_left, orders_of, run_limits, run_market_left, run_market_of, taken_before}
use Rattle.mari_remain.proofs.MigratedBorders.{NoneRepeated, bare, borders-read, none-repeated, second}
use Rattle.mari_remain.proofs.MigratedLimits.{limits-read-back, table, table-has}
use Rattle.mari_units.proofs.Lists.{same_over}
use Rattle.mari_remain.proofs.Validity.{in_range}

-- lists of blocks of first runs are the same in books whose runs have the same markets
module _ (books other : Books) (runs : (run : ℕ) → run_numbered books run ≡ run_numbered other run) (count : length books.runs.runs ≡ length other.runs.runs)
    (same : (blocks : List PastBlock) (run : ℕ) → 1 ≤ run → run ≤ length books.runs.runs → run_market_of books blocks run ≡ run_market_of other blocks run) where
  one-way : (blocks : List PastBlock) → AreFirstBlocks books blocks → AreFirstBlocks other blocks
  one-way blocks first k b there = next (take k blocks) b (first k b there)
    where
      past : (before : List PastBlock) (run : ℕ) (o : Option PastRun) → 1 ≤ run → run ≤ length books.runs.runs → IfSome o (IsPastRun books before run) → IfSome o (IsPastRun other before run)
      past before run None low high is = tt
      past before run (Some p) low high is =
          let market = same before run low high in
          record {
            bids = is.bids ∙ ap (λ (m : RunMarket). m.bids) market;
            feasible = subst (λ m. IsFeasible m p.activation) (ap (λ (m : RunMarket). m.market) market) is.feasible;
          }

      next : (before : List PastBlock) (b : PastBlock) → IsNextBlock books before b → IsNextBlock other before b
      next before b is = record {
        run = is.run;
        there = omega (arith, is.there, count);
        quarter = is.quarter ∙ ap (λ (r : Run). r.quarter) (runs b.run);
        direct = is.direct ∙ ap (λ (r : Run). r.direct) (runs b.run);
        published = past before b.run b.published (omega (arith, is.run)) is.there is.published;
      }

module _ (books : Books) (ok : IsAccepted books) (own : List ℕ) (read : borders_in books.zones own ≡ Ok books.borders) where
  abbrev pub runs : ℕ
  runs = length books.runs.runs

  abbrev pub owns : List BorderEnds
  owns = books.borders.borders

  pub none : NoneRepeated [] owns
  none = none-repeated books.zones ok.zones books.borders ok.borders.borders own read

  pub limit : (run border : ℕ) → border < length owns → (run_limits books run border).limit ≤ 99999
  limit run border within = (in_range books books.limits run border ok.limits (ok.borders.borders border _ within)).0

  pub back : (run border : ℕ) → border < length owns → (run_limits books run border).back ≤ 99999
  back run border within = (in_range books books.limits run border ok.limits (ok.borders.borders border _ within)).1

  abbrev pub bare_book : BorderBook
  bare_book = record { borders = map bare owns }

  abbrev pub limit_table : List (List Limits)
  limit_table = table books.zones ok.zones owns ok.borders.borders none runs ok.runs.few (run_limits books) limit back

  abbrev no_border : BorderEnds
  no_border = record { from = 0; to = 0; limit = 0; back = 0 }

  -- the two pages are read
  pub are-read : AreRead books bare_book limit_table
  are-read = record {
    version = second books.zones ok.zones books.borders ok.borders.borders;
    borders_read = borders-read books.zones ok.zones books.borders ok.borders.borders own read;
    limits_read = limits-read-back books.zones ok.zones owns ok.borders.borders none runs ok.runs.few (run_limits books) limit back;
  }

  module _ (borders : BorderBook) (limits : List (List Limits)) (is : AreRead books borders limits) where
    pub same-borders : borders ≡ bare_book
    same-borders = cc (sym is.borders_read ∙ are-read.borders_read)

    same-limits : limits ≡ limit_table
    same-limits = cc (sym is.limits_read ∙ ap (λ b. book_in (limit_grammar books.zones b runs) (limits_page books)) same-borders ∙ are-read.limits_read)

    abbrev pub migrated : Books
    migrated = with_limits books borders limits

    pub accepted : IsAccepted migrated
    accepted = record {
      quarters = ok.quarters;
      zones = ok.zones;
      borders = border-facts books.zones (version_in (borders_page books)) (borders_page books) (Ok borders) is.borders_read;
      bids = ok.bids;
      links = ok.links;
      runs = ok.runs;
      demands = ok.demands;
      limits = limit-facts books.zones borders runs (limits_page books) (Ok limits) is.limits_read;
    }

    -- the limits stated for a run are those that were stated
    pub limits-same : (run border : ℕ) → 1 ≤ run → run ≤ runs → border < length owns → run_limits migrated run border ≡ run_limits books run border
    limits-same run border first last within =
        ap (λ t. limits_in t run border) same-limits
        ∙ table-has books.zones ok.zones owns ok.borders.borders none runs ok.runs.few (run_limits books) limit back run border first last within

    module _ (taken : Taken) (run : ℕ) (first : 1 ≤ run) (last : run ≤ runs) where
      -- the same bids are available
      same-up : (n i : ℕ) → is_available_up migrated taken (run_numbered books run) n i ≡ is_available_up books taken (run_numbered books run) n i
      same-up zero i = refl
      same-up (suc n) i =
          ap (λ available. may_run books taken (run_numbered books run) i && parent_allows available taken (parent_at books.links.links i)) (fun_ext (same-up n))

      numbers-same : numbers_left migrated taken run ≡ numbers_left books taken run
      numbers-same = ap (λ test. filter test (bids_of_quarter books.bids.bids (run_numbered books run).quarter)) (fun_ext (λ i. same-up (suc i) i))

      -- over borders with the same limits
      borders-same : borders_left migrated taken run ≡ borders_left books taken run
      borders-same =
          (λ i. map (λ k. border_left (ends_at (same-borders i).borders k) (run_limits migrated run k) (taken.flow k)) (range_with_len 0 (length (same-borders i).borders)))
          ∙ ap (λ n. map (λ k. border_left (ends_at (map bare owns) k) (run_limits migrated run k) (taken.flow k)) (range_with_len 0 n)) (length-map owns bare)
          ∙ same_over _ _ 0 (length owns) (λ k low high. λ i. border_left (get_or-map bare owns k no_border no_border (omega (arith, high)) i)
          (limits-same run k first last (omega (arith, high)) i) (taken.flow k))

      abbrev pub market-of : List ℕ → List Border → RunMarket
      market-of numbers borders = record {
        market = record {
          zones = length books.zones.zones;
          borders = borders;
          orders = orders_of books.bids.bids taken.mw numbers (filter (has_gate books.links) numbers) (demands_of_run books.demands.demands run);
          gates = gates_of books.links.links (filter (has_gate books.links) numbers);
          reference = (run_numbered books run).reference;
        };
        bids = numbers;
        demands = length (demands_of_run books.demands.demands run);
      }

      whole-same : run_market_left migrated taken run ≡ run_market_left books taken run
      whole-same = λ i. market-of (numbers-same i) (borders-same i)

    -- so a run has the market that it had, after any blocks
    pub markets-same : (blocks : List PastBlock) (run : ℕ) → 1 ≤ run → run ≤ runs → run_market_of migrated blocks run ≡ run_market_of books blocks run
    markets-same blocks run first last = whole-same (taken_before books blocks run) run first last

    pub blocks-same : (blocks : List PastBlock) → AreFirstBlocks books blocks ↔ AreFirstBlocks migrated blocks
    blocks-same blocks = (
      one-way books migrated (λ run. refl) refl (λ before run first last. sym (markets-same before run first last)) blocks,
      one-way migrated books (λ run. refl) refl markets-same blocks,
    )
