-- The money of a block: its lines of operators and providers, and its ledger.
use Rattle.std.specs.Prelude.{◌≡◌, ℕ, ◌==◌, ℤ, Bool, false, List, Option, get_or, map, slice_index_or}
use Rattle.std.specs.List.{list_any}
use Rattle.mari_units.specs.declared.numbers.Cents.{Cents}
use Rattle.mari_units.specs.declared.numbers.Quarters.{Quarters}
use Rattle.mari_bids.specs.Bids.{bid_numbered}
use Rattle.mari_bids.specs.declared.bids.Bid.{Bid}
use Rattle.mari_lines.specs.declared.line.AmountLine.{AmountLine}
use Rattle.mari_publish.specs.declared.publication.FullBlock.{FullBlock}
use Rattle.mari_lines.specs.declared.line.MoneyLine.{MoneyLine}
use Rattle.mari_remain.specs.declared.books.Books.{Books}
use Rattle.mari_remain.specs.declared.market.RunMarket.{RunMarket}
use Rattle.mari_settle.specs.declared.ledger.Ledger.{Ledger}
use Rattle.mari_settle.specs.declared.ledger.OperatorLine.{OperatorLine}
use Rattle.mari_settle.specs.Ledger.{net_of, operator_lines, provider_amount, provider_amounts, rents_of, scheduled_or}
use Rattle.mari_settle.specs.Lines.{map_along, nothing}
use Rattle.mari_progress.specs.Reported.{activation_of, prices_of, rents_reported}
use Rattle.mari_rows.specs.Names.{listed_once, listed_with, name_at}

-- an operator's line: its name, its payment, its rent, and the payment less the rent
abbrev pub money_line : List ℕ → OperatorLine → MoneyLine
money_line name l = record { name = name; payment = l.payment; rent = l.rent; net = record { 0 = net_of l } }

abbrev pub money_lines_of : List (List ℕ) → List OperatorLine → List MoneyLine
money_lines_of names lines = map_along money_line names lines

-- a provider's line, by its place: its name and its amount
abbrev pub amount_line : List (List ℕ) → List Quarters → ℕ → AmountLine
amount_line names amounts place = record { name = name_at names place; amount = slice_index_or amounts place nothing }

-- the numbers with this one, which goes last where it is new
abbrev pub with_number : List ℕ → ℕ → List ℕ
with_number = listed_with (λ n m. m == n)

-- the marks stand at these places, and at no other
abbrev pub AreMarked : List ℕ → List Bool → Type 0
AreMarked places marks = (p : ℕ) → get_or marks p false ≡ list_any (λ m. m == p) places

-- each number once, in order of first appearance
abbrev pub each_once : List ℕ → List ℕ
each_once numbers = listed_once (λ n m. m == n) numbers

-- the providers of these bids, by the first bid of each
abbrev pub providers_among : List Bid → List ℕ → List ℕ
providers_among bids numbers = each_once (map (λ i. (bid_numbered bids i).provider) numbers)

-- what a provider gets in the run, whose quarter has these scheduled prices, or none
abbrev pub amount_of : Books → RunMarket → (also : Option (List Cents)) → FullBlock → (provider : ℕ) → ℤ
amount_of books made also b provider = provider_amount books.bids made.bids (activation_of b) (prices_of b) (scheduled_or (prices_of b) also) provider

-- what each provider gets in it
abbrev pub amounts_of : Books → RunMarket → (also : Option (List Cents)) → FullBlock → List Quarters
amounts_of books made also b = provider_amounts books.bids made.bids (activation_of b) (prices_of b) (scheduled_or (prices_of b) also)

-- a block states this ledger, and of the providers those at these places
pub record StatesLedger (books : Books) (b : FullBlock) (ledger : Ledger) (places : List ℕ) : Type 0 where
  pub rents : rents_reported b ≡ ledger.rents
  pub operators : b.operators ≡ money_lines_of books.zones.operators ledger.operators
  pub providers : b.providers ≡ map (amount_line books.bids.providers ledger.providers) places

-- the run's ledger: each operator's line, what each provider gets, and each border's rent
abbrev pub run_ledger : Books → RunMarket → (also : Option (List Cents)) → FullBlock → Ledger
run_ledger books made also b = record {
  operators = operator_lines books.zones made.market (activation_of b) (prices_of b);
  providers = amounts_of books made also b;
  rents = rents_of made.market (activation_of b) (prices_of b);
}

-- the block states it, and of the providers those of the run's bids
pub record HasLedger (books : Books) (made : RunMarket) (also : Option (List Cents)) (b : FullBlock) : Type 0 where
  pub states : StatesLedger books b (run_ledger books made also b) (providers_among books.bids.bids made.bids)
