use Rattle.std.proofs.Common.{◌∙◌}
use Rattle.mari_lines.proofs.Splits.{only_split}
use Rattle.mari_reach_lines.proofs.OwnWords.{others_shared}
use Rattle.mari_reach_lines.proofs.Words.{after_word}
use Rattle.mari_reach_lines.proofs.reading.read_reach_line.Goals as goal

pub read_lone-requires : goal.read_lone-requires
read_lone-requires c = only_split 32 c.args.here.now c.in_default.ensures

pub read_shared-requires : goal.read_shared-requires
read_shared-requires c = λ y r e.
    let word = c.in-Some.word.now in
    let rest = c.in-Some.rest.now in
    let parts = c.in-Some.ensures in
    let words = after_word y word rest parts.0 r (e ∙ parts.1) in
    others_shared y word rest c.if-is_same.ensures.1 c.if-is_same-2.ensures.1 c.if-is_same-3.ensures.1 c.if-is_same-4.ensures.1 words.0 words.1
