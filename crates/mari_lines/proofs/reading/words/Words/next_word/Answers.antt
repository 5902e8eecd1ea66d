use Rattle.std.proofs.Common.{List, ℕ, eqb, sym, ap, ◌∙◌}
use Rattle.std.specs.List.{slice_split}
use Rattle.mari_lines.specs.Reading.{words_in}
use Rattle.mari_lines.proofs.Splits.{first_split, only_split}
use Rattle.mari_lines.proofs.reading.words.Words.next_word.Goals as goal

pub returns-in-Some : goal.returns-in-Some
returns-in-Some c =
    sym c.self.view_is ∙ ap words_in c.in_ok-text.was ∙ ap (λ (bs : List ℕ). slice_split (λ b. eqb b 32) bs) c.in-Some.ensures.1 ∙ first_split 32
    c.in-Some.word.now c.in-Some.after.now c.in-Some.ensures.0

pub returns-in-None : goal.returns-in-None
returns-in-None c = sym c.self.view_is ∙ ap words_in c.in_ok-text.was ∙ only_split 32 c.in_ok-text.text.now c.in-None.ensures
