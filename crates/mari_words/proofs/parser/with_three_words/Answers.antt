use Rattle.std.proofs.Common.{codes}
use Rattle.mari_words.specs.Line.{required_word, two_words}
use Rattle.mari_words.proofs.parser.with_three_words.Goals as goal

pub returns : goal.returns
returns c = c.with_argument.ensures (two_words c.args.name.now) (required_word (codes "third")) c.word.ensures.rule c.with_two_words.ensures
