use Rattle.std.proofs.Common.{sym, ◌∙◌}
use Rattle.mari_lines.proofs.SameLine.{line_read, no_words, no_keyword}
use Rattle.mari_lines.proofs.reading.read_line.Goals as goal

pub returns-in_default : goal.returns-in_default
returns-in_default c = λ l r e. no_words c.args.text.now (sym c.of-words.ensures ∙ c.in_default.ensures.0)

pub returns-in_default-keyword_of : goal.returns-in_default-keyword_of
returns-in_default-keyword_of c = no_keyword c.args.text.now c.in-Some.first.now c.next_word.new.self (sym c.of-words.ensures ∙ c.in-Some.ensures) c.in_default-keyword_of.ensures

pub returns : goal.returns
returns c = line_read c.in-Some-keyword_of.keyword c.args.text.now c.in-Some.first.now c.next_word.new.self c.read_fields.result
    (sym c.of-words.ensures ∙ c.in-Some.ensures) c.in-Some-keyword_of.ensures c.read_fields.ensures
