use Rattle.std.proofs.Common.{codes}
use Rattle.clap.specs.Words.{with_rule}
use Rattle.mari_words.specs.Line.{option_rule}
use Rattle.mari_words.proofs.parser.with_options.Goals as goal

pub returns : goal.returns
returns c = λ old is. c.with_argument.ensures (with_rule old (option_rule (codes "nodes"))) (option_rule (codes "workers")) c.option-2.ensures.rule
    (c.with_argument-command.ensures old (option_rule (codes "nodes")) c.option.ensures.rule is)
