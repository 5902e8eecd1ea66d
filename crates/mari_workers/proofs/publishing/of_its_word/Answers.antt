use Rattle.mari_market.specs.Prefix.{word_of}
use Rattle.mari_workers.proofs.FirstWord.{as_good, has_activation, not_empty}
use Rattle.mari_workers.proofs.publishing.of_its_word.Goals as goal

pub unreachable-requires : goal.unreachable-requires
unreachable-requires c =
    not_empty c.args.market.now (word_of c.args.word.now) c.args.activation c.in_ok-relaxed.field-0 c.requires.market c.requires.optimal
    c.requires.word c.in_ok-relaxed.ensures.finding c.in_default.not-Relaxed

pub unreachable-requires-in-None : goal.unreachable-requires-in-None
unreachable-requires-in-None c =
    has_activation c.args.market.now (word_of c.args.word.now) c.args.activation c.in_ok-relaxed.field-0 c.in-Relaxed.relaxed c.requires.optimal
    c.requires.word c.in-Relaxed.is c.in_ok-relaxed.ensures.finding c.in-None.is

pub returns-clause-gates : goal.returns-clause-gates
returns-clause-gates c =
    let good = as_good c.args.market.now (word_of c.args.word.now) c.args.activation c.in_ok-relaxed.field-0 c.in-Relaxed.relaxed c.in-Some.best c.requires.market c.requires.optimal c.requires.word
    c.in-Relaxed.is c.in_ok-relaxed.ensures.finding c.in-Some.is in
    good.1

pub returns-clause-welfare : goal.returns-clause-welfare
returns-clause-welfare c =
    let good = as_good c.args.market.now (word_of c.args.word.now) c.args.activation c.in_ok-relaxed.field-0 c.in-Relaxed.relaxed c.in-Some.best c.requires.market c.requires.optimal c.requires.word
    c.in-Relaxed.is c.in_ok-relaxed.ensures.finding c.in-Some.is in
    good.2
