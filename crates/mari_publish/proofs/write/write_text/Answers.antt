use Rattle.std.proofs.Common.{List, ◌++◌, ℕ, ap, ◌∙◌}
use Rattle.std.specs.List.{flat_map}
use Rattle.mari_publish.specs.declared.publication.Block.{Block}
use Rattle.mari_lines.specs.declared.line.Line.TheVariants as line
use Rattle.mari_publish.specs.Lines.{block_lines}
use Rattle.mari_lines.specs.Spelling.{line_text}
use Rattle.mari_publish.specs.Texts.{text_of_lines}
use Rattle.mari_publish.proofs.Parts.{three_texts}
use Rattle.mari_publish.proofs.write.write_text.Goals as goal

pub returns-clause-parts : goal.returns-clause-parts
returns-clause-parts c = let p = c.args.publication.now in
    let head = c.in_ok-put_head.ensures ∙ ap (λ (t : List ℕ). t ++ line_text (line.Head p.date p.quarters p.budget)) c.new-out.ensures.items in
    let blocks = c.in_ok-put_blocks.ensures ∙ ap (λ (bs : List Block). c.put_head.new.out.items ++ text_of_lines (flat_map block_lines bs)) c.as_slice.ensures in
    three_texts p _ _ _ head blocks c.in_ok-put_totals.ensures
