use Rattle.std.proofs.Common.{◌≡◌, arith}
use Rattle.mari_lines.specs.Spelling.{keyword_text}
use Rattle.mari_lines.proofs.Keywords.{of-each}
use Rattle.mari_lines.proofs.reading.keyword.keyword_of.Goals as goal

pub returns : goal.returns
returns c = of-each (λ keyword. keyword_text keyword ≡ c.args.text.now → ⊥) (λ k d l. c.loop-keyword.invariant.none k d (omega (arith, l, c.loop-keyword-test.false)))
