use Rattle.std.proofs.Common.{subst, sym, List}
use Rattle.mari_units.specs.declared.Cents.{Cents}
use Rattle.mari_proofs.specs.Conflicts.{AreTightPotentials}
use Rattle.std.proofs.lemmas.Bool.{both_ways}
use Rattle.mari_proofs.proofs.ConflictTests.{conflict_test}
use Rattle.mari_proofs.proofs.conflicts.is_conflict.Goals as goal

pub returns-then-not-has_tight_potentials : goal.returns-then-not-has_tight_potentials
returns-then-not-has_tight_potentials c = (
  λ no. absurd (cc),
  λ k. absurd (both_ways c.has_tight_potentials.result c.if-not-has_tight_potentials.true
      (c.has_tight_potentials.ensures.1
      (subst (λ (ps : List Cents). AreTightPotentials c.args.market.now c.args.conflict.now.activation ps) (sym c.as_slice-potentials.ensures) (record { prices = k.prices; tight = k.tight })))),
)

pub returns : goal.returns
returns c =
    conflict_test c.args.market.now c.args.prefix.now c.args.conflict.now _ _ c.is_contradictory_chain.result c.as_slice-potentials.ensures
    c.as_slice.ensures (c.is_of_word.ensures.0 c.if-not-is_of_word.false) (c.has_tight_potentials.ensures.0 c.if-not-has_tight_potentials.false)
    c.is_contradictory_chain.ensures
