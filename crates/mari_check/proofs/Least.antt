-- Faults, one after the other.
use Rattle.std.proofs.Common.{◌≡◌, ◌==◌, ◌+◌, ◌≤◌, ℕ, if◌then◌else◌, Option, Some, None, arith, refl, sym, ap, ◌∙◌, subst}
use Rattle.std.proofs.lemmas.Bool.{cases_lt}
use Rattle.std.proofs.Common.{inl, inr}
use Rattle.mari_check.specs.declared.fault.Fault.{Fault}
use Rattle.mari_check.specs.declared.fault.Fault.TheVariants as fault
use Rattle.mari_check.specs.Faults.{Finds, FindsUpTo, IsLeast, NoneBelow, fault_number}

-- the fault of a number
fault_of : ℕ → Fault
fault_of n =
    if n == 1 then fault.Heading else
    if n == 2 then fault.Lines else
    if n == 3 then fault.Infeasible else
    if n == 4 then fault.Welfare else
    if n == 5 then fault.Inconsistent else
    if n == 6 then fault.Interval else
    if n == 7 then fault.Price else
    if n == 8 then fault.Area else
    if n == 9 then fault.Tree else
    if n == 10 then fault.Leaf else
    if n == 11 then fault.Ledger else fault.Totals

own : (f : Fault) → fault_of (fault_number f) ≡ f
unfolding fault_of
own fault.Heading = refl
own fault.Lines = refl
own fault.Infeasible = refl
own fault.Welfare = refl
own fault.Inconsistent = refl
own fault.Interval = refl
own fault.Price = refl
own fault.Area = refl
own fault.Tree = refl
own fault.Leaf = refl
own fault.Ledger = refl
own fault.Totals = refl

to_twelve : (f : Fault) → fault_number f ≤ 12
to_twelve fault.Heading = omega arith
to_twelve fault.Lines = omega arith
to_twelve fault.Infeasible = omega arith
to_twelve fault.Welfare = omega arith
to_twelve fault.Inconsistent = omega arith
to_twelve fault.Interval = omega arith
to_twelve fault.Price = omega arith
to_twelve fault.Area = omega arith
to_twelve fault.Tree = omega arith
to_twelve fault.Leaf = omega arith
to_twelve fault.Ledger = omega arith
to_twelve fault.Totals = omega arith

module _ (free_of : Fault → Type 0) where
  -- one fault more that isn't there
  pub none-more : (f : Fault) (n : ℕ) → n ≡ fault_number f → NoneBelow free_of n → free_of f → NoneBelow free_of (n + 1)
  none-more f n e before here g l = elim (cases_lt (fault_number g) n) [
    | inl less ↦ before g less
    | inr more ↦
        let same : fault_number f ≡ fault_number g = omega (arith, e, l, more) in
        subst free_of (sym (own f) ∙ ap fault_of same ∙ own g) here
  ]

  -- the least that is there
  pub least-is : (f : Fault) → NoneBelow free_of (fault_number f) → (free_of f → ⊥) → IsLeast free_of f
  least-is f before there = record { there = there; none_lower = before }

  pub none-is : NoneBelow free_of 13 → (f : Fault) → free_of f
  none-is all f = all f (omega (arith, to_twelve f))

pub found-some : (free_of : Fault → Type 0) (n : ℕ) (found : Option Fault) (f : Fault) → found ≡ Some f → FindsUpTo free_of n found → FindsUpTo free_of n (Some f)
found-some free_of n found f e h = subst (FindsUpTo free_of n) e h

pub found-none : (free_of : Fault → Type 0) (n : ℕ) (found : Option Fault) → found ≡ None → FindsUpTo free_of n found → NoneBelow free_of n
found-none free_of n None e h = h
found-none free_of n (Some g) e h = absurd (cc e)

-- after the last test of a block
pub last-passes : (free_of : Fault → Type 0) → NoneBelow free_of 11 → free_of fault.Ledger → free_of fault.Totals → (any : Fault) → free_of any
last-passes free_of none ledger totals = none-is free_of (none-more free_of fault.Totals 12 refl (none-more free_of fault.Ledger 11 refl none ledger) totals)

-- what is reported where none is
pub finds-none : (free_of : Fault → Type 0) (found : Option Fault) → found ≡ None → Finds free_of found → (any : Fault) → free_of any
finds-none free_of None e h = h
finds-none free_of (Some g) e h = absurd (cc e)
