use Rattle.std.proofs.Common.{arith, rules}
use Rattle.std.proofs.lemmas.List.{nil_from_length}
use Rattle.mari_lines.proofs.Leading.{word_alone, word_first}
use Rattle.mari_lines.proofs.reading.words.after_word.Goals as goal

pub returns-in-empty : goal.returns-in-empty
returns-in-empty c = λ word lack. word_alone word c.args.text.now (nil_from_length _ (omega arith)) lack

pub returns-in-32 : goal.returns-in-32
returns-in-32 c = λ word lack. word_first word c.args.text.now (omega arith) (search rules) lack
