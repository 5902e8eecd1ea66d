-- What bids earn their providers, as a loop pays it.
use Rattle.std.proofs.Common.{◌≡◌, ◌==◌, if◌then◌else◌, Bool, true, false, inl, inr, subst, ℕ, ◌<◌, ◌≤◌, ℤ, pos, ◌+ℤ◌, List, [], ◌∷◌, length, take, get_or, map, Option, ap, sym, arith, refl, zero, suc, ◌∙◌}
use Rattle.std.specs.Prelude.{slice_get, IsSomeAnd, unsigned_abs}
use Rattle.std.proofs.lemmas.Bool.{cases_lt}
use Rattle.std.proofs.lemmas.Option.{slice_get-get_or, slice_get_past}
use Rattle.mari_units.specs.declared.numbers.Cents.{Cents}
use Rattle.std.proofs.lemmas.List.{ext_get_or}
use Rattle.std.proofs.lemmas.List.FromFn.{length-map-range_with_len, get_or-map-range_with_len}
use Rattle.std.specs.List.{range_with_len}
use Rattle.mari_units.specs.declared.numbers.Quarters.{Quarters}
use Rattle.mari_bids.specs.Bids.{no_bid}
use Rattle.mari_bids.specs.declared.bids.Bid.{Bid}
use Rattle.mari_market.specs.declared.activation.Activation.{Activation}
use Rattle.mari_market.specs.Price.{price_at}
use Rattle.mari_market.specs.Sums.{sum_along}
use Rattle.mari_settle.specs.Ledger.{bid_amount, earned, paid_at, provider_amount, provider_amounts}
use Rattle.mari_settle.specs.Lines.{amount_at, nothing}
use Rattle.mari_settle.specs.Conditions.{IsPayable, NamesPayable}
use Rattle.mari_bids.specs.declared.bids.BidBook.{BidBook}

-- a bid that is named is there
pub named_there : (bids : BidBook) (zones number : ℕ) → NamesPayable bids zones number → number < length bids.bids
named_there bids zones number named = elim (cases_lt number (length bids.bids)) [
  | inl l ↦ l
  | inr past ↦ absurd (subst (λ (bid : Option Bid). IsSomeAnd bid (IsPayable bids zones)) (slice_get_past bids.bids number past) named)
]

-- an amount that may not be due is as small as it is
pub small_if : (due : Bool) (v : ℤ) (m : ℕ) → unsigned_abs v ≤ m → unsigned_abs (if due then v else pos 0) ≤ m
small_if true v m h = h
small_if false v m h = omega arith

-- what one provider gets of what a bid earns
pub amount_here : (ps scheduled : List Cents) (bids : List Bid) (number q k : ℕ) (v : ℤ) → number < length bids
    → v ≡ earned (get_or bids number no_bid).up (paid_at (get_or bids number no_bid).up (price_at ps (get_or bids number no_bid).zone) (price_at scheduled (get_or bids number no_bid).zone)) q
    → (if (get_or bids number no_bid).provider == k then v else pos 0) ≡ bid_amount ps scheduled k (slice_get bids number) q
amount_here ps scheduled bids number q k v h e =
    ap (λ (w : ℤ). if (get_or bids number no_bid).provider == k then w else pos 0) e
    ∙ ap (λ (bid : Option Bid). bid_amount ps scheduled k bid q) (sym (slice_get-get_or bids number no_bid h))

-- the items of the longer list past the end of the other count for nothing
pub sum_along-cut : {X Y : Type 0} (f : X → Y → ℤ) (xs : List X) (ys : List Y) (i : ℕ) → length xs ≤ i → sum_along f (take i xs) (take i ys) ≡ sum_along f xs ys
sum_along-cut f [] ys zero h = refl
sum_along-cut f [] ys (suc i) h = refl
sum_along-cut f (x ∷ xs) ys zero h = absurd (omega arith)
sum_along-cut f (x ∷ xs) [] (suc i) h = refl
sum_along-cut f (x ∷ xs) (y ∷ ys) (suc i) h = ap (λ v. f x y +ℤ v) (sum_along-cut f xs ys i (omega arith))

-- a list of what each provider gets is the list of the providers' amounts
pub amounts_are : (bids : BidBook) (numbers : List ℕ) (a : Activation) (ps scheduled : List Cents) (amounts : List Quarters)
    → length amounts ≡ length bids.providers
    → ((k : ℕ) → amount_at amounts k ≡ provider_amount bids numbers a ps scheduled k)
    → amounts ≡ provider_amounts bids numbers a ps scheduled
amounts_are bids numbers a ps scheduled amounts l each =
    let n = length bids.providers in
    let amount : ℕ → Quarters = λ k. record { 0 = provider_amount bids numbers a ps scheduled k } in
    ext_get_or nothing amounts (map amount (range_with_len 0 n)) (l ∙ sym (length-map-range_with_len amount 0 n))
    (λ k h. ap (λ (v : ℤ). the_amount v) (each k) ∙ sym (get_or-map-range_with_len amount 0 n k k nothing (omega (arith, l)) (omega arith)))
  where
    the_amount : ℤ → Quarters
    the_amount v = record { 0 = v }
