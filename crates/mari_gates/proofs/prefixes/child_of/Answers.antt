use Rattle.std.proofs.Common.{◌≢◌, arith, ap, ◌+◌}
use Rattle.mari_gates.proofs.Decisions.{word_more}
use Rattle.mari_gates.proofs.prefixes.child_of.Goals as goal

pub returns-clause-word : goal.returns-clause-word
returns-clause-word c =
    word_more c.args.prefix.now _ c.args.opened (ap (λ n. n + 1) c.set_bit.ensures.length)
    (λ g h. let apart : g ≢ c.args.prefix.now.length = omega arith in c.set_bit.ensures.others g apart) c.set_bit.ensures.same
