use Rattle.std.proofs.Common.{◌∙◌, ◌∷◌, [], codes, decimal}
use Rattle.mari_links.proofs.GroupLemmas.{on-ok}
use Rattle.mari_blocks.proofs.Pieces.{three-pieces}
use Rattle.mari_blocks.proofs.text.put_count.Goals as goal

pub returns : goal.returns
returns c =
    on-ok c.put.result _ _ c.put.ensures.put (λ e. e ∙ rw (c.in_ok-put_number_field.ensures, c.in_ok-put_field.ensures, c.from.ensures)
    (three-pieces c.args.out.now.items (32 ∷ codes "unpublished") (32 ∷ decimal c.args.count) (10 ∷ [])))
