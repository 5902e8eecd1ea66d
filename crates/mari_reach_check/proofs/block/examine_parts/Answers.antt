use Rattle.std.proofs.Common.{Some, None, ◌∙◌, arith, subst, sym}
use Rattle.mari_market.specs.declared.activation.Activation.{Activation}
use Rattle.mari_market.specs.Optimal.{IsConsistent, IsFeasible}
use Rattle.mari_progress.specs.Reported.{prices_of}
use Rattle.mari_check.specs.declared.block.BeforeTree.TheVariants.{Faulty, Sound}
use Rattle.mari_check.specs.declared.fault.Fault.TheVariants as fault
use Rattle.mari_check.proofs.Examining.{before-is}
use Rattle.mari_reach_check.proofs.Examining.{all-free, faulty-before, faulty-ledger, faulty-tree, reported-is}
use Rattle.mari_reach_check.proofs.block.examine_parts.Goals as goal

pub returns-in-Faulty : goal.returns-in-Faulty
returns-in-Faulty c =
    faulty-before c.args.books.now c.args.run c.args.made.now _ c.args.budget (record { block = c.args.block.now; claim = c.args.claim; tree = c.args.tree }) c.in-Faulty.fault
    (before-is c.args.books.now c.args.run c.args.made.now _ None c.args.block.now c.in_ok-fault.field-0 (Faulty c.in-Faulty.fault) c.in-Faulty.is (c.in_ok-fault.ensures _ None))

pub examine_named-requires-clause-feasible : goal.examine_named-requires-clause-feasible
examine_named-requires-clause-feasible c =
    let before = before-is c.args.books.now c.args.run c.args.made.now None None c.args.block.now c.in_ok-fault.field-0 (Sound c.in-Sound.activation c.in-Sound.prices) c.in-Sound.is
    (c.in_ok-fault.ensures None None) in
    subst (IsFeasible c.args.made.now.market) (sym before.1) (before.0 fault.Infeasible (omega arith))

pub returns-in-Some : goal.returns-in-Some
returns-in-Some c =
    let before = before-is c.args.books.now c.args.run c.args.made.now _ None c.args.block.now c.in_ok-fault.field-0 (Sound c.in-Sound.activation c.in-Sound.prices) c.in-Sound.is
    (c.in_ok-fault.ensures _ None) in
    faulty-tree c.args.books.now c.args.run c.args.made.now _ c.args.budget (record { block = c.args.block.now; claim = c.args.claim; tree = c.args.tree }) before.0 c.in-Sound.activation
    c.in_ok-found.found c.in-Some.fault before.1 c.in_ok-found.ensures (sym c.fault.ensures ∙ c.in-Some.is)

pub reported_ledger-requires-clause-activation : goal.reported_ledger-requires-clause-activation
reported_ledger-requires-clause-activation c =
    let before = before-is c.args.books.now c.args.run c.args.made.now None None c.args.block.now c.in_ok-fault.field-0 (Sound c.in-Sound.activation c.in-Sound.prices) c.in-Sound.is
    (c.in_ok-fault.ensures None None) in
    before.1

pub reported_ledger-requires-clause-prices : goal.reported_ledger-requires-clause-prices
reported_ledger-requires-clause-prices c =
    let before = before-is c.args.books.now c.args.run c.args.made.now None None c.args.block.now c.in_ok-fault.field-0 (Sound c.in-Sound.activation c.in-Sound.prices) c.in-Sound.is
    (c.in_ok-fault.ensures None None) in
    before.2

pub reported_ledger-requires-clause-feasible : goal.reported_ledger-requires-clause-feasible
reported_ledger-requires-clause-feasible c =
    let before = before-is c.args.books.now c.args.run c.args.made.now None None c.args.block.now c.in_ok-fault.field-0 (Sound c.in-Sound.activation c.in-Sound.prices) c.in-Sound.is
    (c.in_ok-fault.ensures None None) in
    subst (IsFeasible c.args.made.now.market) (sym before.1) (before.0 fault.Infeasible (omega arith))

pub reported_ledger-requires-clause-consistent : goal.reported_ledger-requires-clause-consistent
reported_ledger-requires-clause-consistent c =
    let before = before-is c.args.books.now c.args.run c.args.made.now None None c.args.block.now c.in_ok-fault.field-0 (Sound c.in-Sound.activation c.in-Sound.prices) c.in-Sound.is
    (c.in_ok-fault.ensures None None) in
    let P : Activation → Type 0 = λ a. IsConsistent c.args.made.now.market a (prices_of c.args.block.now) in
    subst (IsConsistent c.args.made.now.market c.in-Sound.activation) (sym before.2) (subst P (sym before.1) (before.0 fault.Inconsistent (omega arith)))

pub returns-in-Some-2 : goal.returns-in-Some-2
returns-in-Some-2 c =
    let before = before-is c.args.books.now c.args.run c.args.made.now _ None c.args.block.now c.in_ok-fault.field-0 (Sound c.in-Sound.activation c.in-Sound.prices) c.in-Sound.is
    (c.in_ok-fault.ensures _ None) in
    let reported = reported-is c.args.books.now c.args.run c.args.made.now _ c.args.budget (record { block = c.args.block.now; claim = c.args.claim; tree = c.args.tree }) c.in-Sound.activation
    c.in-Sound.prices c.in_ok-ledger.field-0 (Some c.in-Some-2.ledger) c.in-Some-2.is c.in_ok-ledger.ensures in (
      all-free c.args.books.now c.args.run c.args.made.now _ c.args.budget (record { block = c.args.block.now; claim = c.args.claim; tree = c.args.tree }) before.0 c.in-Sound.activation
          c.in_ok-found.found before.1 c.in_ok-found.ensures (sym c.fault.ensures ∙ c.in_default.is) reported.0,
      reported.1,
    )

pub returns-in-None : goal.returns-in-None
returns-in-None c =
    let before = before-is c.args.books.now c.args.run c.args.made.now _ None c.args.block.now c.in_ok-fault.field-0 (Sound c.in-Sound.activation c.in-Sound.prices) c.in-Sound.is
    (c.in_ok-fault.ensures _ None) in
    let unreported = reported-is c.args.books.now c.args.run c.args.made.now _ c.args.budget
    (record { block = c.args.block.now; claim = c.args.claim; tree = c.args.tree }) c.in-Sound.activation c.in-Sound.prices c.in_ok-ledger.field-0 None c.in-None.is c.in_ok-ledger.ensures in
    faulty-ledger c.args.books.now c.args.run c.args.made.now _ c.args.budget (record { block = c.args.block.now; claim = c.args.claim; tree = c.args.tree }) before.0 c.in-Sound.activation
    c.in_ok-found.found before.1 c.in_ok-found.ensures (sym c.fault.ensures ∙ c.in_default.is) unreported
