use Rattle.std.proofs.Common.{◌∙◌, ap, sym}
use Rattle.std.specs.Prelude.{not, is_some}
use Rattle.mari_remain.proofs.Choosing.{free, no-rival}
use Rattle.mari_remain.proofs.choice.has_free_group.Goals as goal
use Rattle.mari_remain.proofs.choice.has_free_group.Goals.{then-is_some, else-is_some}

pub returns : goal.returns
returns c =
    let links = c.args.books.now.links.links in
    let number = c.args.number in
    let rivals = rw (sym c.requires.rivals) at (free c.args.books.now c.args.remaining.now c.args.quarter number c.requires.accepted) in
    elim c.if-is_some.branch [
      | then-is_some w ↦ ap not (w.rival-is ∙ (rw w.as_slice.ensures at w.has_rival-rival.ensures) ∙ rivals)
      | else-is_some w ↦ ap not
          (w.rival-is ∙ w.if-is_some.false ∙ sym (no-rival links number c.args.rivals.now (ap is_some (sym c.requires.group) ∙ sym c.is_some.ensures ∙ w.if-is_some.false)) ∙ rivals)
    ]
