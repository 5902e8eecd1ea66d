use Rattle.std.proofs.Common.{◌≢◌, arith, sym, refl, ◌-◌}
use Rattle.mari_gates.proofs.Decisions.{word_more}
use Rattle.mari_gates.proofs.prefixes.without_last.Goals as goal

pub returns-clause-word : goal.returns-clause-word
returns-clause-word c =
    word_more c.set_bit.new.prefix c.args.prefix.now _ (omega arith) (λ g h. let apart : g ≢ c.args.prefix.now.length - 1 = omega arith in sym (c.set_bit.ensures.others g apart)) refl
