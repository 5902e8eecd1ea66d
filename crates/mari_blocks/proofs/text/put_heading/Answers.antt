use Rattle.std.proofs.Common.{◌∙◌, codes}
use Rattle.mari_links.proofs.GroupLemmas.{on-ok}
use Rattle.mari_lines.specs.Spelling.{line_text}
use Rattle.mari_lines.specs.declared.line.Line.TheVariants as line
use Rattle.mari_blocks.specs.Text.{opening_text}
use Rattle.mari_blocks.proofs.Pieces.{three-pieces}
use Rattle.mari_blocks.proofs.text.put_heading.Goals as goal

pub returns : goal.returns
returns c =
    let b = c.args.block.now in
    on-ok c.put_welfare.result _ _ c.put_welfare.ensures (λ e. e ∙ rw (c.in_ok-put.ensures.put, c.in_ok-put_opening.ensures)
    (three-pieces c.args.out.now.items (opening_text b.first b.last) (codes " published\n") (line_text (line.Welfare b.welfare))))
