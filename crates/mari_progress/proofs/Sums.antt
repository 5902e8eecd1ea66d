-- Sums of lines and amounts over blocks, one block after the other.
use Rattle.std.proofs.Common.{◌≡◌, ◌∙◌, ℕ, zero, suc, ◌+◌, ◌*◌, ◌^◌, ◌≤◌, slice_index_or, ℤ, pos, ◌+ℤ◌, List, [], ◌∷◌, ◌++◌, length, map, refl, sym, ap, arith}
use Rattle.std.proofs.lemmas.Int.{ints}
use Rattle.std.specs.Prelude.{replicate}
use Rattle.std.specs.List.{range_with_len}
use Rattle.std.proofs.lemmas.List.{append_assoc, append-nil, length-append, length-replicate}
use Rattle.std.proofs.lemmas.List.FromFn.{get_or-map-range_with_len, length-map-range_with_len}
use Rattle.std.proofs.lemmas.List.Elements.{All-weaker}
use Rattle.std.proofs.lemmas.List.Sums.{fold-append}
use Rattle.mari_units.specs.declared.numbers.Quarters.{Quarters}
use Rattle.mari_market.specs.Sums.{int_sum}
use Rattle.mari_publish.specs.declared.publication.Block.{Block}
use Rattle.mari_publish.specs.declared.publication.Block.TheVariants as block
use Rattle.mari_publish.specs.declared.publication.FullBlock.{FullBlock}
use Rattle.mari_lines.specs.declared.line.Heading.{Heading}
use Rattle.mari_remain.specs.declared.books.Books.{Books}
use Rattle.mari_settle.specs.Conditions.{MoneyIsWithin, LedgerIsWithin, LedgersAddUp, LineIsWithin, most_of_operator, most_of_provider, most_of_run}
use Rattle.mari_settle.specs.Ledger.{net_of}
use Rattle.mari_settle.specs.Lines.{lines_together, map_along, no_line, nothing, together}
use Rattle.mari_settle.specs.declared.ledger.Ledger.{Ledger}
use Rattle.mari_settle.specs.declared.ledger.OperatorLine.{OperatorLine}
use Rattle.mari_settle.proofs.Sizes.{ledgers_add_up, lines_within, sum_within, sums_within}
use Rattle.mari_progress.specs.declared.progress.SettledRun.{SettledRun}
use Rattle.mari_progress.specs.Runs.{IsRunOf}
use Rattle.mari_progress.specs.After.{also_after, market_after}
use Rattle.mari_progress.specs.Money.{amount_line, money_line, money_lines_of}
use Rattle.mari_progress.specs.Progress.{AreTotals}
use Rattle.mari_progress.specs.Totals.{amount_in, amount_over, money_together, operator_totals, provider_total, provider_totals, with_operators}
use Rattle.mari_rows.specs.Names.{name_at}
use Rattle.mari_progress.proofs.Keeping.{no-nets}
use Rattle.mari_progress.proofs.Lists.{along-length}
use Rattle.mari_units.proofs.Lists.{same_over}

-- the net of two lines together is that of each, together
net-together : (name : List ℕ) (l m : OperatorLine) → money_together (money_line name l) (money_line name m) ≡ money_line name (lines_together l m)
net-together name l m =
    let net : net_of l +ℤ net_of m ≡ net_of (lines_together l m) = omega (arith, ints) in
    ap (λ (v : ℤ). record { name = name; payment = together l.payment m.payment; rent = together l.rent m.rent; net = record { 0 = v } }) net

pub lines-together : (names : List (List ℕ)) (ls ms : List OperatorLine) → length ls ≡ length names → length ms ≡ length names
    → map_along money_together (money_lines_of names ls) (money_lines_of names ms) ≡ money_lines_of names (map_along lines_together ls ms)
lines-together [] ls ms e f = refl
lines-together (name ∷ names) [] ms e f = absurd (omega (arith, e))
lines-together (name ∷ names) (l ∷ ls) [] e f = absurd (omega (arith, f))
lines-together (name ∷ names) (l ∷ ls) (m ∷ ms) e f =
    ap (λ x. x ∷ map_along money_together (money_lines_of names ls) (money_lines_of names ms)) (net-together name l m)
    ∙ ap (λ xs. money_line name (lines_together l m) ∷ xs) (lines-together names ls ms (omega (arith, e)) (omega (arith, f)))

nets-together : (ls ms : List OperatorLine) → length ls ≡ length ms → int_sum net_of (map_along lines_together ls ms) ≡ int_sum net_of ls +ℤ int_sum net_of ms
nets-together [] [] e = refl
nets-together [] (m ∷ ms) e = absurd (omega (arith, e))
nets-together (l ∷ ls) [] e = absurd (omega (arith, e))
nets-together (l ∷ ls) (m ∷ ms) e = let more = nets-together ls ms (omega (arith, e)) in omega (arith, ints, more)

-- an amount of `v` quarter-cents
abbrev money-of : ℤ → Quarters
money-of v = record { 0 = v }

-- amounts that two functions give, together
amounts-together : (f g : ℕ → ℤ) (xs : List ℕ) → map_along together (map (λ x. money-of (f x)) xs) (map (λ x. money-of (g x)) xs) ≡ map (λ x. money-of (f x +ℤ g x)) xs
amounts-together f g [] = refl
amounts-together f g (x ∷ xs) = ap (λ (qs : List Quarters). money-of (f x +ℤ g x) ∷ qs) (amounts-together f g xs)

amounts-same : (f g : ℕ → ℤ) → ((x : ℕ) → f x ≡ g x) → (xs : List ℕ) → map (λ x. money-of (f x)) xs ≡ map (λ x. money-of (g x)) xs
amounts-same f g same [] = refl
amounts-same f g same (x ∷ xs) =
    ap (λ (v : ℤ). money-of v ∷ map (λ x. money-of (f x)) xs) (same x) ∙ ap (λ (qs : List Quarters). money-of (g x) ∷ qs) (amounts-same f g same xs)

-- what a provider gets over one block more
over-more : (books : Books) (before bs : List Block) (b : Block) (provider : ℕ)
    → amount_over books before (bs ++ b ∷ []) provider ≡ amount_over books before bs provider +ℤ amount_in books (before ++ bs) b provider
over-more books before [] b provider = let e = ap (λ xs. amount_in books xs b provider) (append-nil before) in omega (arith, ints, e)
over-more books before (x ∷ bs) b provider =
    let more = over-more books (before ++ x ∷ []) bs b provider in
    let e = ap (λ xs. amount_in books xs b provider) (append_assoc before (x ∷ []) bs) in
    omega (arith, ints, more, e)

module _ (books : Books) (blocks : List Block) (sums : Ledger) (so_far : AreTotals books blocks sums) where
  many : (b : Block) → length (blocks ++ b ∷ []) ≡ length blocks + 1
  many b = length-append blocks (b ∷ [])

  -- one amount for each provider
  pub one-each-provider : length sums.providers ≡ length books.bids.providers
  one-each-provider = ap length so_far.providers ∙ length-map-range_with_len _ 0 (length books.bids.providers)

  -- whose lines are the totals
  pub provider-lines : map (amount_line books.bids.providers sums.providers) (range_with_len 0 (length books.bids.providers)) ≡ provider_totals books blocks
  provider-lines = same_over (amount_line books.bids.providers sums.providers) (provider_total books blocks) 0 (length books.bids.providers)
      (λ k from below. ap (λ (q : Quarters). record { name = name_at books.bids.providers k; amount = q })
      (ap (λ (qs : List Quarters). slice_index_or qs k nothing) so_far.providers ∙ get_or-map-range_with_len _ 0 (length books.bids.providers) k k nothing (omega (arith, below)) (omega arith)))

  -- a block that isn't published adds nothing
  pub totals-same : (heading : Heading) (count : ℕ) → AreTotals books (blocks ++ block.Unpublished heading count ∷ []) sums
  totals-same heading count =
      let b : Block = block.Unpublished heading count in
      record {
        operators = so_far.operators ∙ sym (fold-append with_operators (money_lines_of books.zones.operators _) blocks (b ∷ []));
        providers = so_far.providers ∙ amounts-same (amount_over books [] blocks) (amount_over books [] (blocks ++ b ∷ []))
            (λ provider. let more = over-more books [] blocks b provider in omega (arith, ints, more)) (range_with_len 0 (length books.bids.providers));
        one_each = so_far.one_each;
        rents = so_far.rents;
        operators_within = rw (many b) (All-weaker (LineIsWithin (length blocks * most_of_operator)) (LineIsWithin ((length blocks + 1) * most_of_operator))
            (λ l s. record { payment = omega (arith, s.payment); rent = omega (arith, s.rent) }) sums.operators so_far.operators_within);
        providers_within = rw (many b)
            (All-weaker (MoneyIsWithin (length blocks * most_of_provider)) (MoneyIsWithin ((length blocks + 1) * most_of_provider)) (λ q s. omega (arith, s)) sums.providers so_far.providers_within);
        rents_within =
            rw (many b) (All-weaker (MoneyIsWithin (length blocks * most_of_run)) (MoneyIsWithin ((length blocks + 1) * most_of_run)) (λ q s. omega (arith, s)) sums.rents so_far.rents_within);
        nets = so_far.nets;
      }

  module _ (b : FullBlock) (settled : SettledRun) (is : IsRunOf books (market_after books blocks) (also_after books blocks) b settled) where
    own-amounts : settled.ledger.providers ≡ map (λ provider. money-of (amount_in books blocks (block.Published b) provider)) (range_with_len 0 (length books.bids.providers))
    own-amounts = is.providers

    as-many-providers : length sums.providers ≡ length settled.ledger.providers
    as-many-providers =
        one-each-provider ∙ sym (ap length own-amounts ∙ length-map-range_with_len _ 0 (length books.bids.providers))

    -- the ledger of a published block can be added
    pub adds-up : length blocks ≤ 1000 → LedgersAddUp sums settled.ledger
    adds-up few =
        ledgers_add_up (10 ^ 21) most_of_run sums settled.ledger (omega arith) (so_far.one_each ∙ sym is.one_each) as-many-providers (so_far.rents ∙ sym is.rents)
        (record {
          operators = All-weaker (LineIsWithin (length blocks * most_of_operator)) (LineIsWithin (10 ^ 21))
              (λ l s. record { payment = omega (arith, few, s.payment); rent = omega (arith, few, s.rent) }) sums.operators so_far.operators_within;
          providers = All-weaker (MoneyIsWithin (length blocks * most_of_provider)) (MoneyIsWithin (10 ^ 21)) (λ q s. omega (arith, few, s)) sums.providers so_far.providers_within;
          rents = All-weaker (MoneyIsWithin (length blocks * most_of_run)) (MoneyIsWithin (10 ^ 21)) (λ q s. omega (arith, few, s)) sums.rents so_far.rents_within;
        }) is.balanced.small

    -- and its sums are those of one block more
    pub totals-more : (after : Ledger)
        → after.operators ≡ map_along lines_together sums.operators settled.ledger.operators
        → after.providers ≡ map_along together sums.providers settled.ledger.providers
        → after.rents ≡ map_along together sums.rents settled.ledger.rents → AreTotals books (blocks ++ block.Published b ∷ []) after
    totals-more after operators providers rents =
        let p : Block = block.Published b in
        let names = books.zones.operators in
        record {
          operators = ap (money_lines_of names) operators ∙ sym (lines-together names sums.operators settled.ledger.operators so_far.one_each is.one_each)
              ∙ ap (λ xs. map_along money_together xs (money_lines_of names settled.ledger.operators)) so_far.operators ∙ ap
              (map_along money_together (operator_totals books blocks)) (sym is.operators)
              ∙ sym (fold-append with_operators (money_lines_of names _) blocks (p ∷ []));
          providers =
              let all : List ℕ = range_with_len 0 (length books.bids.providers) in
              let before : List Quarters = map (λ provider. money-of (amount_over books [] blocks provider)) all in
              providers ∙ ap (λ (qs : List Quarters). map_along together qs settled.ledger.providers) so_far.providers ∙ ap (λ (qs : List Quarters). map_along together before qs) own-amounts
              ∙ amounts-together (amount_over books [] blocks) (amount_in books blocks p) all
              ∙ amounts-same (λ x. amount_over books [] blocks x +ℤ amount_in books blocks p x) (amount_over books [] (blocks ++ p ∷ [])) (λ x. sym (over-more books [] blocks p x)) all;
          one_each = ap length operators ∙ along-length lines_together sums.operators settled.ledger.operators (is.one_each ∙ sym so_far.one_each) ∙ so_far.one_each;
          rents = ap length rents ∙ along-length together sums.rents settled.ledger.rents (is.rents ∙ sym so_far.rents) ∙ so_far.rents;
          operators_within = rw (many p, operators) (All-weaker (LineIsWithin (length blocks * most_of_operator + most_of_operator)) (LineIsWithin ((length blocks + 1) * most_of_operator))
              (λ l s. record { payment = omega (arith, s.payment); rent = omega (arith, s.rent) }) _
              (sums_within lines_together (LineIsWithin (length blocks * most_of_operator)) (LineIsWithin most_of_operator)
              (LineIsWithin (length blocks * most_of_operator + most_of_operator)) (lines_within _ _)
              sums.operators settled.ledger.operators (so_far.one_each ∙ sym is.one_each) so_far.operators_within is.balanced.operators_small));
          providers_within = rw (many p, providers)
              (All-weaker (MoneyIsWithin (length blocks * most_of_provider + most_of_provider)) (MoneyIsWithin ((length blocks + 1) * most_of_provider)) (λ q s. omega (arith, s)) _
              (sums_within together (MoneyIsWithin (length blocks * most_of_provider)) (MoneyIsWithin most_of_provider)
              (MoneyIsWithin (length blocks * most_of_provider + most_of_provider)) (sum_within _ _)
              sums.providers settled.ledger.providers as-many-providers so_far.providers_within is.balanced.providers_small));
          rents_within = rw (many p, rents) (All-weaker (MoneyIsWithin (length blocks * most_of_run + most_of_run)) (MoneyIsWithin ((length blocks + 1) * most_of_run)) (λ q s. omega (arith, s)) _
              (sums_within together (MoneyIsWithin (length blocks * most_of_run)) (MoneyIsWithin most_of_run) (MoneyIsWithin (length blocks * most_of_run + most_of_run)) (sum_within _ _)
              sums.rents settled.ledger.rents (so_far.rents ∙ sym is.rents) so_far.rents_within is.balanced.small.rents));
          nets = rw operators (let both = nets-together sums.operators settled.ledger.operators (so_far.one_each ∙ sym is.one_each) in omega (arith, ints, both, so_far.nets, is.balanced.nets));
        }

-- the sums before the first run
nothing-each : (n a : ℕ) → replicate n nothing ≡ map (λ (k : ℕ). money-of (pos 0)) (range_with_len a n)
nothing-each zero a = refl
nothing-each (suc n) a = ap (λ (qs : List Quarters). nothing ∷ qs) (nothing-each n (a + 1))

pub no-totals : (books : Books) (ledger : Ledger) → ledger.operators ≡ replicate (length books.zones.operators) no_line → ledger.providers ≡ replicate (length books.bids.providers) nothing
    → ledger.rents ≡ replicate (length books.borders.borders) nothing → LedgerIsWithin 0 ledger → AreTotals books [] ledger
no-totals books ledger operators providers rents within = record {
  operators = ap (money_lines_of books.zones.operators) operators;
  providers = providers ∙ nothing-each (length books.bids.providers) 0;
  one_each = ap length operators ∙ length-replicate (length books.zones.operators) no_line;
  rents = ap length rents ∙ length-replicate (length books.borders.borders) nothing;
  operators_within =
      All-weaker (LineIsWithin 0) (LineIsWithin (0 * most_of_operator)) (λ l s. record { payment = omega (arith, s.payment); rent = omega (arith, s.rent) }) ledger.operators within.operators;
  providers_within = All-weaker (MoneyIsWithin 0) (MoneyIsWithin (0 * most_of_provider)) (λ q s. omega (arith, s)) ledger.providers within.providers;
  rents_within = All-weaker (MoneyIsWithin 0) (MoneyIsWithin (0 * most_of_run)) (λ q s. omega (arith, s)) ledger.rents within.rents;
  nets = ap (int_sum net_of) operators ∙ no-nets (length books.zones.operators);
}
