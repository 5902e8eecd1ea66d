use Rattle.std.proofs.Common.{◌≡◌, ◌∙◌, ap, length}
use Rattle.mari_units.specs.Lists.{with_items}
use Rattle.mari_settle.specs.Lines.{lines_together, map_along, together}
use Rattle.mari_settle.proofs.Lists.{written_over}
use Rattle.mari_settle.proofs.Sizes.{sum_is_within}
use Rattle.mari_settle.proofs.ledger.Ledger.add.Goals as goal

pub returns-clause-within : goal.returns-clause-within
returns-clause-within c m n h l =
    let a = c.args.self.now in
    let b = c.args.other.now in
    let os : with_items a.operators c.add_lines.new.lines ≡ map_along lines_together a.operators b.operators =
    written_over _ _ _ (c.add_lines.auto.lines ∙ ap length c.as_mut_slice.ensures.value) (rw (c.as_mut_slice.ensures.value, c.as_slice.ensures) at c.add_lines.ensures) in
    let ps : with_items a.providers c.add_amounts.new.amounts ≡ map_along together a.providers b.providers =
    written_over _ _ _ (c.add_amounts.auto.amounts ∙ ap length c.as_mut_slice-2.ensures.value) (rw (c.as_mut_slice-2.ensures.value, c.as_slice-2.ensures) at c.add_amounts.ensures) in
    let rs : with_items a.rents c.add_amounts-2.new.amounts ≡ map_along together a.rents b.rents =
    written_over _ _ _ (c.add_amounts-2.auto.amounts ∙ ap length c.as_mut_slice-3.ensures.value) (rw (c.as_mut_slice-3.ensures.value, c.as_slice-3.ensures) at c.add_amounts-2.ensures) in
    sum_is_within m n a b _ c.requires os ps rs h l
