-- What is found of a published block, by its other faults and by its ledger.
use Rattle.std.proofs.Common.{◌≡◌, ℕ, Bool, true, false, List, Option, Some, None, subst}
use Rattle.std.specs.Prelude.{◌↔◌}
use Rattle.std.proofs.lemmas.Bool.{both_ways}
use Rattle.mari_units.specs.declared.numbers.Cents.{Cents}
use Rattle.mari_market.specs.declared.activation.Activation.{Activation}
use Rattle.mari_market.specs.declared.activation.Prices.{Prices}
use Rattle.mari_market.specs.Optimal.{IsConsistent}
use Rattle.mari_publish.specs.declared.publication.FullBlock.{FullBlock}
use Rattle.mari_remain.specs.declared.books.Books.{Books}
use Rattle.mari_remain.specs.declared.market.RunMarket.{RunMarket}
use Rattle.mari_settle.specs.declared.ledger.Ledger.{Ledger}
use Rattle.mari_settle.specs.Ledger.{operator_lines, provider_amounts, rents_of, scheduled_or}
use Rattle.mari_progress.specs.Money.{HasLedger, StatesLedger, providers_among}
use Rattle.mari_progress.specs.Runs.{IsBalancedLedger, IsMarketOf}
use Rattle.mari_progress.specs.Reported.{activation_of, prices_of}
use Rattle.mari_check.specs.declared.block.BeforeTree.{BeforeTree}
use Rattle.mari_check.specs.declared.block.Examined.{Examined}
use Rattle.mari_check.specs.declared.block.Examined.TheVariants.{Faulty, Sound}
use Rattle.mari_check.specs.declared.fault.Fault.{Fault}
use Rattle.mari_check.specs.declared.fault.Fault.TheVariants as fault
use Rattle.mari_check.specs.Examined.{ExaminesBlock, FindsBeforeTree, IsReportedLedger}
use Rattle.mari_check.specs.Faults.{IsFreeOf, IsLeast, NoneBelow}
use Rattle.mari_check.proofs.Least.{last-passes, least-is}
use Rattle.mari_check.proofs.Providers.{run-of, states-is}

-- the ledger of the run, as it was tested
module _ (books : Books) (made : RunMarket) (also : Option (List Cents)) (b : FullBlock) (ledger : Ledger) (a : Activation) (ps : Prices) (reported : a ≡ activation_of b)
    (priced : ps.cents ≡ prices_of b)
    (rents : ledger.rents ≡ rents_of made.market a ps.cents) (operators : ledger.operators ≡ operator_lines books.zones made.market a ps.cents)
    (providers : ledger.providers ≡ provider_amounts books.bids made.bids a ps.cents (scheduled_or ps.cents also)) (places : List ℕ) (listed : places ≡ providers_among books.bids.bids made.bids)
    (held : Bool) (test : (held ≡ true) ↔ StatesLedger books b ledger places) where
  own : (held ≡ true) ↔ HasLedger books made also b
  own = states-is books made also b ledger places a ps.cents reported priced rents operators providers listed held test

  pub ledger-unreported : held ≡ false → HasLedger books made also b → ⊥
  ledger-unreported wrong h = both_ways held wrong (own.1 h)

  pub ledger-reported : held ≡ true → IsMarketOf books made → IsConsistent made.market a ps.cents → IsBalancedLedger ledger → IsReportedLedger books made also b a ps (Some ledger)
  ledger-reported right of agrees balanced =
      let h = own.0 right in
      let P : Activation → Type 0 = λ x. IsConsistent made.market x ps.cents in
      let Q : List Cents → Type 0 = λ qs. IsConsistent made.market (activation_of b) qs in
      (h, run-of books made also b ledger a ps reported priced of (subst Q priced (subst P reported agrees)) h rents operators providers balanced)

module _ (books : Books) (run : ℕ) (made : RunMarket) (also : Option (List Cents)) (budget : Option ℕ) (b : FullBlock) where
  abbrev free : Fault → Type 0
  free any = IsFreeOf books run made also budget b any

  abbrev found : Examined → Type 0
  found t = ExaminesBlock books run made also budget b t

  -- what is found before the tree is looked at
  pub before-is : (t u : BeforeTree) → t ≡ u → FindsBeforeTree books run made also budget b t → FindsBeforeTree books run made also budget b u
  before-is t u e h = subst (FindsBeforeTree books run made also budget b) e h

  -- after the other faults there is that of the ledger, or none
  pub with-ledger : NoneBelow free 11 → (a : Activation) (ps : Prices) (given : Option Ledger) (l : Ledger) → given ≡ Some l → IsReportedLedger books made also b a ps given → found (Sound a ps l)
  with-ledger none a ps None l e h = absurd (cc e)
  with-ledger none a ps (Some x) l e h =
      let same : x ≡ l = cc e in
      let whole : found (Sound a ps x) = (last-passes free none h.0 tt, h.1) in
      let P : Ledger → Type 0 = λ y. found (Sound a ps y) in
      subst P same whole

  pub without-ledger : NoneBelow free 11 → (a : Activation) (ps : Prices) (given : Option Ledger) → given ≡ None → IsReportedLedger books made also b a ps given → IsLeast free fault.Ledger
  without-ledger none a ps None e h = least-is free fault.Ledger none h
  without-ledger none a ps (Some x) e h = absurd (cc e)

  -- which of both is reported
  pub found-faulty : (t : Examined) (f : Fault) → t ≡ Faulty f → found t → IsLeast free f
  found-faulty t f e h = let is : found (Faulty f) = subst found e h in is

  pub found-sound : (t : Examined) (a : Activation) (ps : Prices) (l : Ledger) → t ≡ Sound a ps l → found t → found (Sound a ps l)
  found-sound t a ps l e h = subst found e h
