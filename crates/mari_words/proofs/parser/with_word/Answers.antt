use Rattle.std.proofs.Common.{codes}
use Rattle.clap.specs.Words.{new_app}
use Rattle.mari_words.specs.Line.{required_word}
use Rattle.mari_words.proofs.parser.with_word.Goals as goal

pub returns : goal.returns
returns c = c.with_argument.ensures (new_app c.args.name.now) (required_word (codes "first")) c.word.ensures.rule c.new.ensures.app
