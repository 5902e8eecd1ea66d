use Rattle.std.proofs.Common.{◌∙◌}
use Rattle.mari_merit.proofs.Clears.{IsLone, cleared, is_admissible}
use Rattle.mari_merit.proofs.plain.clear_plain.Goals as goal

pub welfare_at_least_0-welfare-requires-clause-admissible : goal.welfare_at_least_0-welfare-requires-clause-admissible
welfare_at_least_0-welfare-requires-clause-admissible c =
    let lone : IsLone c.args.market.now = record { valid = c.requires.valid; zone = c.requires.zone; borders = c.requires.borders; gates = c.requires.gates } in
    is_admissible _ _ _ _ _ _ lone c.as_slice.ensures c.in_ok-filled.ensures c.of.ensures (c.of-2.ensures ∙ c.new.ensures.items)

pub returns : goal.returns
returns c =
    let lone : IsLone c.args.market.now = record { valid = c.requires.valid; zone = c.requires.zone; borders = c.requires.borders; gates = c.requires.gates } in
    cleared _ _ _ _ _ _ _ _ lone c.as_slice.ensures c.in_ok-filled.ensures c.of.ensures (c.of-2.ensures ∙ c.new.ensures.items) c.in_ok-tree.ensures c.welfare_at_least_0-welfare.ensures
