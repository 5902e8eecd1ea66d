-- What is found of a block, by what is found before its tree, of its tree and of its ledger.
use Rattle.std.proofs.Common.{◌≡◌, ◌<◌, ℕ, List, Option, Some, None, arith, refl, subst}
use Rattle.mari_units.specs.declared.numbers.Cents.{Cents}
use Rattle.mari_market.specs.declared.activation.Activation.{Activation}
use Rattle.mari_market.specs.declared.activation.Prices.{Prices}
use Rattle.mari_settle.specs.declared.ledger.Ledger.{Ledger}
use Rattle.mari_check.specs.declared.block.Examined.{Examined}
use Rattle.mari_check.specs.Examined.{IsReportedLedger}
use Rattle.mari_remain.specs.declared.books.Books.{Books}
use Rattle.mari_remain.specs.declared.market.RunMarket.{RunMarket}
use Rattle.mari_progress.specs.Money.{HasLedger}
use Rattle.mari_progress.specs.Reported.{activation_of}
use Rattle.mari_check.specs.declared.fault.Fault.{Fault}
use Rattle.mari_check.specs.declared.fault.Fault.TheVariants as fault
use Rattle.mari_check.specs.Faults.{IsFreeOf, IsLeast, NoneBelow, fault_number}
use Rattle.mari_check.proofs.Least.{last-passes, least-is, none-more}
use Rattle.mari_reach_check.specs.declared.tree.TreeFound.{TreeFound}
use Rattle.mari_reach_check.specs.declared.tree.TreeFound.TheVariants as found
use Rattle.mari_reach_check.specs.Faults.{ExaminesReach, FindsNamed, IsReachFreeOf, cutoff_of, fault_of, word_claimed}
use Rattle.mari_reach_text.specs.declared.named.NamedBlock.{NamedBlock}

module _ (books : Books) (run : ℕ) (made : RunMarket) (also : Option (List Cents)) (budget : ℕ) (b : NamedBlock) where
  abbrev free : Fault → Type 0
  free any = IsReachFreeOf books run made also budget b any

  abbrev first : Fault → Type 0
  first any = IsFreeOf books run made also None b.block any

  -- the faults before the tree's are those of the first form
  as-first : (f : Fault) → fault_number f < 9 → (first f → free f) × (free f → first f)
  as-first fault.Heading l = (λ h. h, λ h. h)
  as-first fault.Lines l = (λ h. h, λ h. h)
  as-first fault.Infeasible l = (λ h. h, λ h. h)
  as-first fault.Welfare l = (λ h. h, λ h. h)
  as-first fault.Inconsistent l = (λ h. h, λ h. h)
  as-first fault.Interval l = (λ h. h, λ h. h)
  as-first fault.Price l = (λ h. h, λ h. h)
  as-first fault.Area l = (λ h. h, λ h. h)
  as-first fault.Tree l = absurd (omega (arith, l))
  as-first fault.Leaf l = absurd (omega (arith, l))
  as-first fault.Ledger l = (λ h. h, λ h. h)
  as-first fault.Totals l = (λ h. h, λ h. h)

  pub faulty-before : (least : Fault) → IsLeast first least × (fault_number least < 9) → IsLeast free least
  faulty-before least h = record {
    there = λ is. h.0.there ((as-first least h.1).1 is);
    none_lower = λ other less. (as-first other (omega (arith, less, h.1))).0 (h.0.none_lower other less);
  }

  none-before : NoneBelow first 9 → NoneBelow free 9
  none-before none f l = (as-first f l).0 (none f l)

  -- what is found of the tree of the activation that the block states
  abbrev tree-found : Activation → TreeFound → Type 0
  tree-found a t = FindsNamed books made (cutoff_of b.block.welfare b.claim) (word_claimed made.market a b.claim) budget b.tree t

  stated : (a : Activation) (t : TreeFound) → a ≡ activation_of b.block → tree-found a t → tree-found (activation_of b.block) t
  stated a t e h = let P : Activation → Type 0 = λ x. tree-found x t in subst P e h

  pub faulty-tree : NoneBelow first 9 → (a : Activation) (t : TreeFound) (f : Fault) → a ≡ activation_of b.block → tree-found a t → fault_of t ≡ Some f → IsLeast free f
  faulty-tree none a found.Sound f e h is = absurd (cc is)
  faulty-tree none a found.BadTree f e h is =
      let same : fault.Tree ≡ f = cc is in
      subst (IsLeast free) same (least-is free fault.Tree (none-before none) h)
  faulty-tree none a found.BadLeaf f e h is =
      let same : fault.Leaf ≡ f = cc is in
      let own = stated a found.BadLeaf e h in
      subst (IsLeast free) same (least-is free fault.Leaf (none-more free fault.Tree 9 refl (none-before none) own.0) own.1)

  sound-tree : NoneBelow first 9 → (a : Activation) (t : TreeFound) → a ≡ activation_of b.block → tree-found a t → fault_of t ≡ None → NoneBelow free 11
  sound-tree none a found.Sound e h is =
      let own = stated a found.Sound e h in
      none-more free fault.Leaf 10 refl (none-more free fault.Tree 9 refl (none-before none) own.0) own.1
  sound-tree none a found.BadTree e h is = absurd (cc is)
  sound-tree none a found.BadLeaf e h is = absurd (cc is)

  pub faulty-ledger : NoneBelow first 9 → (a : Activation) (t : TreeFound) → a ≡ activation_of b.block → tree-found a t → fault_of t ≡ None → (HasLedger books made also b.block → ⊥)
      → IsLeast free fault.Ledger
  faulty-ledger none a t e h is wrong = least-is free fault.Ledger (sound-tree none a t e h is) wrong

  pub all-free : NoneBelow first 9 → (a : Activation) (t : TreeFound) → a ≡ activation_of b.block → tree-found a t → fault_of t ≡ None → HasLedger books made also b.block → (any : Fault) → free any
  all-free none a t e h is ledger = last-passes free (sound-tree none a t e h is) ledger tt

  -- a ledger that is given, or isn't
  pub reported-is : (a : Activation) (ps : Prices) (x y : Option Ledger) → x ≡ y → IsReportedLedger books made also b.block a ps x → IsReportedLedger books made also b.block a ps y
  reported-is a ps x y e h = subst (IsReportedLedger books made also b.block a ps) e h

  -- what is found
  pub examined-as : (t u : Examined) → t ≡ u → ExaminesReach books run made also budget b t → ExaminesReach books run made also budget b u
  examined-as t u e h = subst (ExaminesReach books run made also budget b) e h
