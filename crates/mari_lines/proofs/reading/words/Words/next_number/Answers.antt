use Rattle.std.proofs.Common.{refl, sym, ap, ◌∙◌}
use Rattle.std.specs.Fmt.{decimal}
use Rattle.mari_lines.specs.Reading.{words_in}
use Rattle.mari_lines.proofs.Leading.{from_zero}
use Rattle.mari_lines.proofs.reading.words.Words.next_number.Goals as goal

pub returns-in-Some : goal.returns-in-Some
returns-in-Some c = (decimal c.in-Some.number, sym c.self.view_is ∙ ap words_in c.in_ok-text.was ∙ c.in-Some.ensures.1, (c.in-Some.ensures.0, refl))

pub returns : goal.returns
returns c = (c.in_ok-word.word.now, c.in_ok-word.ensures, from_zero c.args.greatest c.in_ok-word.word.now c.read_number.result c.read_number.ensures)
