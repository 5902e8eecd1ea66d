use Rattle.std.proofs.Common.{refl, ap, ◌∙◌}
use Rattle.mari_lines.proofs.Splits.{first_split, only_split}
use Rattle.mari_reach_lines.specs.Spelling.{words_of}
use Rattle.mari_reach_lines.proofs.reading.pieces.next_word.Goals as goal

pub returns-in-Some : goal.returns-in-Some
returns-in-Some c = let e = c.in-Some.ensures in (e.0, ap words_of e.1 ∙ first_split 32 c.in-Some.parts.0.now c.in-Some.parts.1.now e.0)

pub returns-in-None : goal.returns-in-None
returns-in-None c = (refl, only_split 32 c.args.text.now c.in-None.ensures)
