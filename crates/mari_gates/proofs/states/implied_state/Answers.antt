use Rattle.mari_gates.specs.GateTable.{state_in}
use Rattle.mari_market.specs.Prefix.{word_of}
use Rattle.mari_gates.proofs.GateTable.{parent_small, undecided_closed, undecided_below}
use Rattle.mari_gates.proofs.states.implied_state.Goals as goal

pub state_below-requires : goal.state_below-requires
state_below-requires c = parent_small c.args.gates.now c.args.gate _ c.requires.earlier c.requires.few c.requires.gate

pub returns-then-is_group_taken : goal.returns-then-is_group_taken
returns-then-is_group_taken c =
    undecided_closed c.args.gates.now (word_of c.args.prefix.now) (state_in c.args.states.now) c.args.gate _ _ c.requires.gate
    c.is_group_taken.ensures c.if-is_group_taken.true

pub returns-else-is_group_taken : goal.returns-else-is_group_taken
returns-else-is_group_taken c =
    undecided_below c.args.gates.now (word_of c.args.prefix.now) (state_in c.args.states.now) c.args.gate _ _ _ c.requires.gate
    c.is_group_taken.ensures c.if-is_group_taken.false c.state_below.ensures
