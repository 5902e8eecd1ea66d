use Rattle.std.proofs.Common.{refl, sym, ap, ◌∙◌}
use Rattle.mari_lines.specs.Reading.{words_in}
use Rattle.mari_lines.proofs.Splits.{some_words}
use Rattle.mari_lines.proofs.reading.words.Words.end.Goals as goal

pub returns-in-Some : goal.returns-in-Some
returns-in-Some c = (refl, λ e. some_words 32 c.in-Some.field-0.now (sym (ap words_in c.in-Some.is) ∙ c.self.view_is ∙ e))
