use Rattle.std.proofs.Common.{None, arith, refl, subst, sym}
use Rattle.mari_market.specs.declared.activation.Activation.{Activation}
use Rattle.mari_market.specs.Optimal.{IsConsistent, IsFeasible}
use Rattle.mari_check.specs.declared.block.BeforeTree.TheVariants.{Faulty, Sound}
use Rattle.mari_check.specs.declared.fault.Fault.TheVariants as fault
use Rattle.mari_progress.specs.Reported.{prices_of}
use Rattle.mari_check.proofs.Examining.{before-is, with-ledger, without-ledger}
use Rattle.mari_check.proofs.Least.{found-none, found-some}
use Rattle.mari_check.proofs.block.examine_block.Goals as goal

pub returns-in-Faulty : goal.returns-in-Faulty
returns-in-Faulty c =
    (before-is c.args.books.now c.args.run c.args.made.now _ c.args.budget c.args.block.now c.in_ok-fault.field-0 (Faulty c.in-Faulty.fault) c.in-Faulty.is (c.in_ok-fault.ensures _ c.args.budget)).0

pub tree_fault-requires-clause-activation : goal.tree_fault-requires-clause-activation
tree_fault-requires-clause-activation c =
    let before = before-is c.args.books.now c.args.run c.args.made.now None None c.args.block.now c.in_ok-fault.field-0 (Sound c.in-Sound.activation c.in-Sound.prices) c.in-Sound.is
    (c.in_ok-fault.ensures None None) in
    before.1

pub tree_fault-requires-clause-feasible : goal.tree_fault-requires-clause-feasible
tree_fault-requires-clause-feasible c =
    let before = before-is c.args.books.now c.args.run c.args.made.now None None c.args.block.now c.in_ok-fault.field-0 (Sound c.in-Sound.activation c.in-Sound.prices) c.in-Sound.is
    (c.in_ok-fault.ensures None None) in
    subst (IsFeasible c.args.made.now.market) (sym before.1) (before.0 fault.Infeasible (omega arith))

pub returns-in-Some : goal.returns-in-Some
returns-in-Some c =
    let before = before-is c.args.books.now c.args.run c.args.made.now _ c.args.budget c.args.block.now c.in_ok-fault.field-0 (Sound c.in-Sound.activation c.in-Sound.prices) c.in-Sound.is
    (c.in_ok-fault.ensures _ c.args.budget) in
    (found-some _ 11 c.in_ok-fault-2.field-0 c.in-Some.fault c.in-Some.is (c.in_ok-fault-2.ensures c.args.books.now c.args.run c.args.made.now _ refl (before.0))).0

pub reported_ledger-requires-clause-activation : goal.reported_ledger-requires-clause-activation
reported_ledger-requires-clause-activation c =
    let before = before-is c.args.books.now c.args.run c.args.made.now None None c.args.block.now c.in_ok-fault.field-0 (Sound c.in-Sound.activation c.in-Sound.prices) c.in-Sound.is
    (c.in_ok-fault.ensures None None) in
    before.1

pub reported_ledger-requires-clause-prices : goal.reported_ledger-requires-clause-prices
reported_ledger-requires-clause-prices c =
    let before = before-is c.args.books.now c.args.run c.args.made.now None None c.args.block.now c.in_ok-fault.field-0 (Sound c.in-Sound.activation c.in-Sound.prices) c.in-Sound.is
    (c.in_ok-fault.ensures None None) in
    before.2

pub reported_ledger-requires-clause-feasible : goal.reported_ledger-requires-clause-feasible
reported_ledger-requires-clause-feasible c =
    let before = before-is c.args.books.now c.args.run c.args.made.now None None c.args.block.now c.in_ok-fault.field-0 (Sound c.in-Sound.activation c.in-Sound.prices) c.in-Sound.is
    (c.in_ok-fault.ensures None None) in
    subst (IsFeasible c.args.made.now.market) (sym before.1) (before.0 fault.Infeasible (omega arith))

pub reported_ledger-requires-clause-consistent : goal.reported_ledger-requires-clause-consistent
reported_ledger-requires-clause-consistent c =
    let before = before-is c.args.books.now c.args.run c.args.made.now None None c.args.block.now c.in_ok-fault.field-0 (Sound c.in-Sound.activation c.in-Sound.prices) c.in-Sound.is
    (c.in_ok-fault.ensures None None) in
    let P : Activation → Type 0 = λ a. IsConsistent c.args.made.now.market a (prices_of c.args.block.now) in
    subst (IsConsistent c.args.made.now.market c.in-Sound.activation) (sym before.2) (subst P (sym before.1) (before.0 fault.Inconsistent (omega arith)))

pub returns-in-Some-2 : goal.returns-in-Some-2
returns-in-Some-2 c =
    let before = before-is c.args.books.now c.args.run c.args.made.now _ c.args.budget c.args.block.now c.in_ok-fault.field-0 (Sound c.in-Sound.activation c.in-Sound.prices) c.in-Sound.is
    (c.in_ok-fault.ensures _ c.args.budget) in
    with-ledger c.args.books.now c.args.run c.args.made.now _ c.args.budget c.args.block.now
    (found-none _ 11 c.in_ok-fault-2.field-0 c.in_default.is (c.in_ok-fault-2.ensures c.args.books.now c.args.run c.args.made.now _ refl (before.0)))
    _ _ c.in_ok-ledger.field-0 c.in-Some-2.ledger c.in-Some-2.is c.in_ok-ledger.ensures

pub returns-in-None : goal.returns-in-None
returns-in-None c =
    let before = before-is c.args.books.now c.args.run c.args.made.now _ c.args.budget c.args.block.now c.in_ok-fault.field-0 (Sound c.in-Sound.activation c.in-Sound.prices) c.in-Sound.is
    (c.in_ok-fault.ensures _ c.args.budget) in
    without-ledger c.args.books.now c.args.run c.args.made.now _ c.args.budget c.args.block.now
    (found-none _ 11 c.in_ok-fault-2.field-0 c.in_default.is (c.in_ok-fault-2.ensures c.args.books.now c.args.run c.args.made.now _ refl (before.0)))
    _ _ c.in_ok-ledger.field-0 c.in-None.is c.in_ok-ledger.ensures
