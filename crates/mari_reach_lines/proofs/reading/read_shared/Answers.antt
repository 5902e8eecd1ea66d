use Rattle.std.proofs.Common.{◌≡◌, sym, ap, subst, ◌∙◌}
use Rattle.std.proofs.lemmas.Bool.{both_ways}
use Rattle.mari_lines.specs.declared.line.Line.{Line}
use Rattle.mari_reach_lines.specs.Ranges.{ReachInRange, is_shared}
use Rattle.mari_reach_lines.specs.Spelling.{reach_spelling}
use Rattle.mari_reach_lines.specs.declared.line.ReachLine.{ReachLine}
use Rattle.mari_reach_lines.specs.declared.line.ReachLine.TheVariants as reach
use Rattle.mari_reach_lines.proofs.Pieces.{the_line}
use Rattle.mari_reach_lines.proofs.reading.read_shared.Goals as goal

pub returns-then-not-is_shared : goal.returns-then-not-is_shared
returns-then-not-is_shared c = λ y r e.
    let is = c.requires y r e in
    let range : ReachInRange (reach.Shared is.0) = subst (λ (z : ReachLine). ReachInRange z) is.1 r in
    let read = c.in_ok-line.ensures in
    let text = sym (ap reach_spelling is.1) ∙ e in
    let same : c.in_ok-line.line ≡ is.0 = the_line c.in_ok-line.line is.0 c.args.here.now read.0 read.1 (range.0, text) in
    both_ways (is_shared c.in_ok-line.line) (sym c.if-not-is_shared.ensures) (ap (λ (l : Line). is_shared l) same ∙ range.1)
