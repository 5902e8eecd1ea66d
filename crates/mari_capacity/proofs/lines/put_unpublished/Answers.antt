use Rattle.std.proofs.Common.{[], ◌∷◌}
use lib.Chars.{codes}
use Rattle.std.specs.Fmt.{decimal}
use Rattle.mari_capacity.proofs.Texts.{four-put}
use Rattle.mari_capacity.proofs.lines.put_unpublished.Goals as goal

pub returns : goal.returns
returns c =
    four-put c.put-2.result c.args.text.now.items _ _ _ c.put-2.new.text.items (codes "run") (32 ∷ decimal c.args.run) (32 ∷ codes "unpublished")
    (10 ∷ []) c.in_ok-put.ensures.put (rw c.from.ensures at c.in_ok-put_number_field.ensures)
    c.in_ok-put_field.ensures c.put-2.ensures.put
