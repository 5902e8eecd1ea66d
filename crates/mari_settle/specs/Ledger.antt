-- The ledger of a run: the rents of its borders, and what operators pay and providers are paid for the energy that
-- they exchange.
use Rattle.std.specs.Prelude.{int_le, ◌==◌, if◌then◌else◌, Bool, true, false, ℕ, ℤ, pos, neg_ℤ, ◌+ℤ◌, ◌-ℤ◌, ◌*ℤ◌, List, length, map, slice_get, slice_index, Option, Some, None}
use Rattle.std.specs.Int.{int_div_euclid}
use Rattle.std.specs.List.{range_with_len}
use Rattle.mari_units.specs.declared.numbers.Cents.{Cents}
use Rattle.mari_units.specs.declared.numbers.Quarters.{Quarters}
use Rattle.mari_zones.specs.declared.zones.ZoneBook.{ZoneBook}
use Rattle.mari_bids.specs.declared.bids.Bid.{Bid}
use Rattle.mari_bids.specs.declared.bids.BidBook.{BidBook}
use Rattle.mari_market.specs.declared.market.Border.{Border}
use Rattle.mari_market.specs.declared.market.Market.{Market}
use Rattle.mari_market.specs.declared.activation.Activation.{Activation}
use Rattle.mari_market.specs.Price.{price_at}
use Rattle.mari_market.specs.Sums.{int_sum, sum_along}
use Rattle.mari_settle.specs.declared.ledger.OperatorLine.{OperatorLine}
use Rattle.mari_settle.specs.Lines.{map_along}

-- a border's rent: the price of its second zone less that of its first, times its flow
abbrev pub rent_of : List Cents → Border → ℤ → ℤ
rent_of ps b f = (price_at ps b.to -ℤ price_at ps b.from) *ℤ f

-- each border's rent
abbrev pub rents_of : Market → Activation → List Cents → List Quarters
rents_of m a ps = map_along (λ b f. record { 0 = rent_of ps b f }) m.borders a.flow

-- half of a rent, rounded down to a quarter-cent
abbrev pub half_of : ℤ → ℤ
half_of rent = int_div_euclid rent (pos 2)

-- the number of a zone's operator
abbrev pub operator_at : ZoneBook → ℕ → ℕ
operator_at zones z = slice_index zones.operator_of z

-- what one operator gets of a rent: as the operator of the border's first zone the half with an odd quarter-cent, as
-- that of its second zone the half without, as that of both the whole
abbrev pub share_of : (first second operator : ℕ) → ℤ → ℤ
share_of first second operator rent =
    (if first == operator then rent -ℤ half_of rent else pos 0) +ℤ (if second == operator then half_of rent else pos 0)

-- an operator's rent: its shares of the rents of all borders
abbrev pub operator_rent : ZoneBook → Market → Activation → List Cents → ℕ → ℤ
operator_rent zones m a ps operator =
    sum_along (λ b f. share_of (operator_at zones b.from) (operator_at zones b.to) operator (rent_of ps b f)) m.borders a.flow

-- what a flow brings into a zone
-- It is spelled out beside `carried_out` of `mari_market`: as its negative it would break the proofs that split a sum
-- over zones at the difference.
abbrev pub carried_in : ℕ → Border → ℤ → ℤ
carried_in z b f = (if b.to == z then f else pos 0) -ℤ (if b.from == z then f else pos 0)

-- a zone's net import: the flows that enter it less those that leave it
abbrev pub net_import : Market → Activation → ℕ → ℤ
net_import m a z = sum_along (carried_in z) m.borders a.flow

-- what an operator pays for the net import of a zone: price times quantity, and nothing where the zone is another's
abbrev pub payment_at : ZoneBook → Market → Activation → List Cents → (operator zone : ℕ) → ℤ
payment_at zones m a ps operator zone = if operator_at zones zone == operator then price_at ps zone *ℤ net_import m a zone else pos 0

-- an operator's payment: over all zones, what it pays for each
abbrev pub operator_payment : ZoneBook → Market → Activation → List Cents → ℕ → ℤ
operator_payment zones m a ps operator =
    int_sum (payment_at zones m a ps operator) (range_with_len 0 m.zones)

-- the line of one operator, and those of all
abbrev pub operator_line : ZoneBook → Market → Activation → List Cents → ℕ → OperatorLine
operator_line zones m a ps operator = record {
  payment = record { 0 = operator_payment zones m a ps operator };
  rent = record { 0 = operator_rent zones m a ps operator };
}

abbrev pub operator_lines : ZoneBook → Market → Activation → List Cents → List OperatorLine
operator_lines zones m a ps = map (operator_line zones m a ps) (range_with_len 0 (length zones.operators))

-- an operator's net: its payment less its rent
abbrev pub net_of : OperatorLine → ℤ
net_of line = line.payment.0 -ℤ line.rent.0

-- what q MW at a price earn the provider of an upward bid, and cost that of a downward one
abbrev pub earned : Bool → ℤ → ℕ → ℤ
earned true p q = p *ℤ pos q
earned false p q = neg_ℤ (p *ℤ pos q)

-- the price that a bid is paid at, of the run's and the scheduled one: an upward bid at the greater, a downward bid at
-- the lesser
abbrev pub paid_at : Bool → (own scheduled : ℤ) → ℤ
paid_at true own scheduled = if int_le own scheduled then scheduled else own
paid_at false own scheduled = if int_le own scheduled then own else scheduled

-- the scheduled prices of a run's quarter, or where there are none its own, so that its bids are paid at these
abbrev pub scheduled_or : List Cents → Option (List Cents) → List Cents
scheduled_or ps None = ps
scheduled_or ps (Some scheduled) = scheduled

-- what q MW of the bid earn a provider at these prices of the run and its quarter's scheduled ones: nothing where the
-- bid is another's
abbrev pub bid_amount : (ps scheduled : List Cents) → ℕ → Option Bid → ℕ → ℤ
bid_amount ps scheduled provider None q = pos 0
bid_amount ps scheduled provider (Some bid) q =
    if bid.provider == provider then earned bid.up (paid_at bid.up (price_at ps bid.zone) (price_at scheduled bid.zone)) q else pos 0

-- a provider's amount: what its bids among these earn it, which are the bids of the first orders
abbrev pub provider_amount : BidBook → List ℕ → Activation → (ps scheduled : List Cents) → ℕ → ℤ
provider_amount bids numbers a ps scheduled provider = sum_along (λ number q. bid_amount ps scheduled provider (slice_get bids.bids number) q) numbers a.mw

abbrev pub provider_amounts : BidBook → List ℕ → Activation → (ps scheduled : List Cents) → List Quarters
provider_amounts bids numbers a ps scheduled =
    map (λ provider. record { 0 = provider_amount bids numbers a ps scheduled provider }) (range_with_len 0 (length bids.providers))
