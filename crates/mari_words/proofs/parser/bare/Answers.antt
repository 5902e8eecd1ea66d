use Rattle.std.proofs.Common.{rules}
use Rattle.mari_words.proofs.parser.bare.Goals as goal

pub returns : goal.returns
returns c = search rules
