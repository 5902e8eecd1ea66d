-- Sound blocks keep the offers, and the nets of their totals sum to 0.
use Rattle.std.proofs.Common.{◌≡◌, ◌∙◌, ℕ, zero, suc, ◌<◌, ◌≤◌, ◌≤ℤ◌, pos, ◌+ℤ◌, List, [], ◌∷◌, length, take, get_or, fold, Option, Some, false, refl, sym, ap, subst, arith}
use Rattle.std.specs.Prelude.{replicate, slice_get, ⊤}
use Rattle.std.specs.List.{All}
use Rattle.std.proofs.Math.Seq.{take-length, take-suc}
use Rattle.std.proofs.lemmas.Int.{ints}
use Rattle.std.proofs.lemmas.List.{length-replicate, length-take-le, map-append}
use Rattle.std.proofs.lemmas.List.Elements.{All-head, All-tail}
use Rattle.std.proofs.lemmas.List.FromFn.{length-map-range_with_len}
use Rattle.std.proofs.lemmas.Option.{slice_get_within, slice_get-get_or}
use Rattle.mari_units.specs.declared.numbers.Cents.{Cents}
use Rattle.mari_units.specs.declared.numbers.Quarters.{Quarters}
use Rattle.mari_market.specs.Optimal.{IsConsistent}
use Rattle.mari_market.specs.Sums.{int_sum}
use Rattle.mari_lines.specs.declared.line.MoneyLine.{MoneyLine}
use Rattle.mari_publish.specs.declared.publication.Block.{Block}
use Rattle.mari_publish.specs.declared.publication.Block.TheVariants as block
use Rattle.mari_publish.specs.declared.publication.FullBlock.{FullBlock}
use Rattle.mari_remain.specs.declared.books.Books.{Books}
use Rattle.mari_remain.specs.declared.market.RunMarket.{RunMarket}
use Rattle.mari_remain.specs.Accepted.{IsAccepted}
use Rattle.mari_remain.specs.FirstBlocks.{AreFirstBlocks}
use Rattle.mari_remain.proofs.After.{first-more}
use Rattle.mari_remain.proofs.Offers.{offers, once}
use Rattle.mari_settle.specs.Ledger.{net_of, operator_lines}
use Rattle.mari_settle.specs.Lines.{map_along, no_line}
use Rattle.mari_settle.specs.declared.ledger.OperatorLine.{OperatorLine}
use Rattle.mari_settle.proofs.Laws.{nets_sum_to_0, no_rent_below_0}
use Rattle.mari_progress.specs.After.{before_of, market_after, past_of, run_after}
use Rattle.mari_progress.specs.Keeps.{KeepsOffers, SumsToZero, net_sum}
use Rattle.mari_progress.specs.Money.{HasLedger, money_line, money_lines_of}
use Rattle.mari_progress.specs.Runs.{IsMarketOf, IsSoundBlock, IsSoundRun}
use Rattle.mari_progress.specs.Reported.{activation_of, prices_of}
use Rattle.mari_progress.specs.Totals.{money_together, operator_totals, with_operators}
use Rattle.mari_progress.proofs.Lists.{along-length}
use Rattle.mari_progress.proofs.Made.{market-of}
use Rattle.mari_progress.proofs.Past.{next-block}

-- a block, where there is none
abbrev no_block : Block
no_block = block.Unpublished (record { run = 0; quarter = 0; direct = false }) 0

-- ---- sums of nets

net-lines : (names : List (List ℕ)) (ls : List OperatorLine) → length ls ≡ length names → net_sum (money_lines_of names ls) ≡ int_sum net_of ls
net-lines [] [] e = refl
net-lines [] (l ∷ ls) e = absurd (omega (arith, e))
net-lines (name ∷ names) [] e = absurd (omega (arith, e))
net-lines (name ∷ names) (l ∷ ls) e = ap (λ v. net_of l +ℤ v) (net-lines names ls (omega (arith, e)))

nets-along : (xs ys : List MoneyLine) → length xs ≡ length ys → net_sum (map_along money_together xs ys) ≡ net_sum xs +ℤ net_sum ys
nets-along [] [] e = refl
nets-along [] (y ∷ ys) e = absurd (omega (arith, e))
nets-along (x ∷ xs) [] e = absurd (omega (arith, e))
nets-along (x ∷ xs) (y ∷ ys) e = let more = nets-along xs ys (omega (arith, e)) in omega (arith, ints, more)

pub no-nets : (n : ℕ) → int_sum net_of (replicate n no_line) ≡ pos 0
no-nets zero = refl
no-nets (suc n) = let more = no-nets n in omega (arith, ints, more)

-- a block has a line for each operator, whose nets sum to 0, and none of its rents is negative; an unpublished one has
-- no lines
pub record Balances (books : Books) (b : FullBlock) : Type 0 where
  pub one_each : length b.operators ≡ length books.zones.operators
  pub to_zero : SumsToZero b

abbrev pub BalancesIn : Books → Block → Type 0
BalancesIn books (block.Published b) = Balances books b
BalancesIn books (block.Unpublished heading count) = ⊤

module _ (books : Books) (ok : IsAccepted books) where
  -- so it is of the ledger of a run
  pub balances : (made : RunMarket) (also : Option (List Cents)) (b : FullBlock) → IsMarketOf books made
      → IsConsistent made.market (activation_of b) (prices_of b) → HasLedger books made also b → Balances books b
  balances made also b own consistent ledger =
      let names = books.zones.operators in
      let lines = operator_lines books.zones made.market (activation_of b) (prices_of b) in
      let many : length lines ≡ length names = length-map-range_with_len _ 0 (length names) in
      record {
        one_each = ap length ledger.states.operators ∙ along-length money_line names lines many;
        to_zero = record {
          nets = ap net_sum ledger.states.operators ∙ net-lines names lines many ∙ nets_sum_to_0 books.zones made.market (activation_of b) (prices_of b) ok.zones.operators_there own.zones own.valid;
          rents = subst (All (λ (rent : Quarters). pos 0 ≤ℤ rent.0)) (sym ledger.states.rents) (no_rent_below_0 made.market (activation_of b) (prices_of b) consistent.borders);
        };
      }

  sums : (lines : List MoneyLine) (bs : List Block) → length lines ≡ length books.zones.operators → net_sum lines ≡ pos 0 → All (BalancesIn books) bs → net_sum (fold with_operators lines bs) ≡ pos 0
  sums lines [] many none all = none
  sums lines (block.Published b ∷ bs) many none all =
      let own : Balances books b = All-head (BalancesIn books) (block.Published b) bs all in
      let long = along-length money_together lines b.operators (own.one_each ∙ sym many) in
      let both = nets-along lines b.operators (many ∙ sym own.one_each) in
      sums (map_along money_together lines b.operators) bs (long ∙ many) (omega (arith, ints, both, none, own.to_zero.nets)) (All-tail (BalancesIn books) (block.Published b) bs all)
  sums lines (block.Unpublished heading count ∷ bs) many none all = sums lines bs many none (All-tail (BalancesIn books) (block.Unpublished heading count) bs all)

  module _ (blocks : List Block) (few : length blocks ≤ length books.runs.runs) (sound : (k : ℕ) (b : Block) → slice_get blocks k ≡ Some b → IsSoundBlock books (take k blocks) b) where
    pub after : (k : ℕ) → k < length blocks → run_after (take k blocks) ≤ length books.runs.runs
    after k l = omega (arith, l, few, length-take-le k blocks (omega (arith, l)))

    -- the blocks before a place, as a later run reads them
    pub up : (k : ℕ) → k ≤ length blocks → AreFirstBlocks books (before_of books (take k blocks))
    up zero l = λ k b e. cc e
    up (suc k) l =
        let here : k < length blocks = omega (arith, l) in
        let b : Block = get_or blocks k no_block in
        let first = up k (omega (arith, l)) in
        let next = next-block books ok (take k blocks) first (after k here) b (sound k b (slice_get-get_or blocks k no_block here)) in
        subst (AreFirstBlocks books)
        (sym (ap (before_of books) (take-suc blocks k no_block here) ∙ map-append (past_of books) (take k blocks) (b ∷ [])))
        (first-more books ok (before_of books (take k blocks)) (past_of books b) next first)

    first-blocks : AreFirstBlocks books (before_of books blocks)
    first-blocks = let P : List Block → Type 0 = λ bs. AreFirstBlocks books (before_of books bs) in subst P (take-length blocks) (up (length blocks) (omega arith))

    -- no bid above its offer
    pub keeps-offers : KeepsOffers books blocks
    keeps-offers = record {
      offers = offers books ok (before_of books blocks) first-blocks;
      once = λ k b e bid gated.
          let l = slice_get_within blocks k b e in
          let first = up k (omega (arith, l)) in
          once books ok (before_of books (take k blocks)) (past_of books b) first (next-block books ok (take k blocks) first (after k l) b (sound k b e)) bid gated;
    }

    run-balances : (k : ℕ) (b : FullBlock) → k < length blocks → IsSoundRun books (take k blocks) b → Balances books b
    run-balances k b l is =
        let own = market-of books ok (before_of books (take k blocks)) (up k (omega (arith, l))) (run_after (take k blocks)) (omega arith) (after k l) in
        balances (market_after books (take k blocks)) _ b own is.consistent is.ledger

    balances-as : (k : ℕ) (b : Block) → k < length blocks → IsSoundBlock books (take k blocks) b → BalancesIn books b
    balances-as k (block.Published b) l is = run-balances k b l is
    balances-as k (block.Unpublished heading count) l is = tt

    pub balances-in : (k : ℕ) (b : Block) → slice_get blocks k ≡ Some b → BalancesIn books b
    balances-in k b e = balances-as k b (slice_get_within blocks k b e) (sound k b e)

    -- the nets of the sums
    pub totals-balance : net_sum (operator_totals books blocks) ≡ pos 0
    totals-balance =
        let names = books.zones.operators in
        let lines = replicate (length names) no_line in
        let none = length-replicate (length names) no_line in
        let all : All (BalancesIn books) blocks = λ k d l. balances-in k (get_or blocks k d) (slice_get-get_or blocks k d l) in
        sums (money_lines_of names lines) blocks (along-length money_line names lines none) (net-lines names lines none ∙ no-nets (length names)) all
