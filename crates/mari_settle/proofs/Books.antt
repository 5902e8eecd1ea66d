-- What a feasible activation and numbers of bids give to the loops of a settlement.
use Rattle.std.proofs.Common.{◌≡◌, ℕ, ◌<◌, ◌≤◌, List, [], ◌∷◌, length, take, Option, Some, None, inl, inr, arith, subst, refl}
use Rattle.std.specs.Prelude.{slice_get, IsSomeAnd}
use Rattle.std.specs.List.{All, AllZip}
use Rattle.std.proofs.lemmas.Bool.{cases_lt}
use Rattle.std.proofs.lemmas.List.{length-take}
use Rattle.std.proofs.lemmas.List.Elements.{All-cons, All-head, All-tail, All-take}
use Rattle.std.proofs.lemmas.Option.{slice_get_past, get_or_from_slice_get}
use Rattle.std.proofs.lemmas.Slice.Zip.{AllZip-long}
use Rattle.mari_bids.specs.declared.bids.Bid.{Bid}
use Rattle.mari_bids.specs.declared.bids.BidBook.{BidBook}
use Rattle.mari_market.specs.declared.market.Order.{Order}
use Rattle.mari_market.specs.declared.market.Market.{Market}
use Rattle.mari_market.specs.declared.activation.Activation.{Activation}
use Rattle.mari_market.specs.Bounds.{GateState, IsWithin, span_in}
use Rattle.mari_market.specs.Market.{IsValid, IsValidOrder}
use Rattle.mari_market.specs.Optimal.{IsFeasible}
use Rattle.mari_settle.specs.Conditions.{HasFlows, HasProviders, IsOrderOf, IsPayable, NameOrders, NamesPayable}
use Rattle.mari_market.proofs.Sizes.{high_at_most}

pub has_flows : (m : Market) (a : Activation) → IsFeasible m a → HasFlows m a
has_flows m a f = record { one_each = AllZip-long _ m.borders a.flow f.borders; within = f.borders }

small_mw : (state : ℕ → GateState) (zones gates : ℕ) (os : List Order) (qs : List ℕ) → All (IsValidOrder zones gates) os → AllZip (λ o q. IsWithin (span_in state o) q) os qs → All (λ q. q ≤ 99999) qs
small_mw state zones gates [] [] v f = λ k d h. absurd (omega arith)
small_mw state zones gates (o ∷ os) (q ∷ qs) v f =
    let here = All-head (IsValidOrder zones gates) o os v in
    All-cons (λ q. q ≤ 99999) q qs (omega (arith, f.0.most, high_at_most state o.gate o, here.small)) (small_mw state zones gates os qs (All-tail (IsValidOrder zones gates) o os v) f.1)
small_mw state zones gates [] (q ∷ qs) v f = absurd f
small_mw state zones gates (o ∷ os) [] v f = absurd f

-- no order of a feasible activation runs more than an order may
pub few_mw : (m : Market) (a : Activation) → IsValid m → IsFeasible m a → All (λ q. q ≤ 99999) a.mw
few_mw m a v f = small_mw _ m.zones (length m.gates) m.orders a.mw v.orders f.orders

-- there are no more numbers than orders
pub few_numbers : (bids : List Bid) (numbers : List ℕ) (orders : List Order) → NameOrders bids numbers orders → length numbers ≤ length orders
few_numbers bids numbers orders named = omega (arith, AllZip-long _ numbers (take (length numbers) orders) named, length-take (length numbers) orders)

provider_there : (bids : BidBook) (number : ℕ) (bid : Bid) → HasProviders bids → slice_get bids.bids number ≡ Some bid → bid.provider < length bids.providers
provider_there bids number bid h e = elim (cases_lt number (length bids.bids)) [
  | inl l ↦ subst (λ (x : Bid). x.provider < length bids.providers) (get_or_from_slice_get bids.bids number bid bid e) (h number bid l)
  | inr past ↦ let none : slice_get bids.bids number ≡ None = slice_get_past bids.bids number past in cc
]

payable_at : (bids : BidBook) (zones : ℕ) (o : Order) (bid : Option Bid)
    → ((x : Bid) → bid ≡ Some x → x.provider < length bids.providers) → o.zone < zones → IsSomeAnd bid (IsOrderOf o)
    → IsSomeAnd bid (IsPayable bids zones)
payable_at bids zones o None there z h = absurd h
payable_at bids zones o (Some bid) there z h = record { zone = omega (arith, h.zone); provider = there bid refl }

payable_all : (bids : BidBook) (zones gates : ℕ) → HasProviders bids → (numbers : List ℕ) (os : List Order)
    → All (IsValidOrder zones gates) os
    → AllZip (λ number o. IsSomeAnd (slice_get bids.bids number) (IsOrderOf o)) numbers os
    → All (NamesPayable bids zones) numbers
payable_all bids zones gates h [] [] v f = λ k d l. absurd (omega arith)
payable_all bids zones gates h (n ∷ ns) (o ∷ os) v f =
    All-cons (NamesPayable bids zones) n ns
    (payable_at bids zones o (slice_get bids.bids n) (λ bid e. provider_there bids n bid h e) (All-head (IsValidOrder zones gates) o os v).zone f.0)
    (payable_all bids zones gates h ns os (All-tail (IsValidOrder zones gates) o os v) f.1)
payable_all bids zones gates h [] (o ∷ os) v f = absurd f
payable_all bids zones gates h (n ∷ ns) [] v f = absurd f

-- each number names a bid whose provider and zone are there
pub payable : (bids : BidBook) (m : Market) (numbers : List ℕ) → HasProviders bids → IsValid m → NameOrders bids.bids numbers m.orders → All (NamesPayable bids m.zones) numbers
payable bids m numbers h v named =
    payable_all bids m.zones (length m.gates) h numbers (take (length numbers) m.orders)
    (All-take (IsValidOrder m.zones (length m.gates)) (length numbers) m.orders v.orders) named
