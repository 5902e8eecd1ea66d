-- What a feed asks the shelf for.
use Rattle.std.proofs.Common.{Option, arith}
use Rattle.mari_words.specs.Asked.{Asked}
use Rattle.mari_commands.specs.Commands.{AsksForFeed}
use Rattle.mari_commands.specs.Outcome.{AreQuarters, IsOfWords}
use Rattle.mari_commands.specs.declared.outcome.Outcome.{Outcome}

-- words that ask for a feed ask for no quarters
pub feed-no-quarters : (asked : Option Asked) (o : Outcome) → AsksForFeed asked → IsOfWords asked o → AreQuarters o → ⊥
feed-no-quarters asked o f w is = grind arith
