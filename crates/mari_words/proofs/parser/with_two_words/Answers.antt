use Rattle.std.proofs.Common.{codes}
use Rattle.mari_words.specs.Line.{required_word, one_word}
use Rattle.mari_words.proofs.parser.with_two_words.Goals as goal

pub returns : goal.returns
returns c = c.with_argument.ensures (one_word c.args.name.now) (required_word (codes "second")) c.word.ensures.rule c.with_word.ensures
