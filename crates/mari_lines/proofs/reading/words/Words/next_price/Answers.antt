use Rattle.std.proofs.Common.{refl, sym, ap, ◌∙◌}
use Rattle.mari_lines.specs.Reading.{words_in}
use Rattle.mari_lines.specs.Spelling.{price_text}
use Rattle.mari_lines.proofs.reading.words.Words.next_price.Goals as goal

pub returns-in-Some : goal.returns-in-Some
returns-in-Some c = (price_text c.in-Some.price, sym c.self.view_is ∙ ap words_in c.in_ok-text.was ∙ c.in-Some.ensures.1, (c.in-Some.ensures.0, refl))

pub returns : goal.returns
returns c = (c.in_ok-word.word.now, c.in_ok-word.ensures, c.read_price.ensures)
