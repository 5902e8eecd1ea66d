use Rattle.std.proofs.Common.{◌≡◌, ◌<◌, ◌∙◌, true, length, get_or, sym, rules}
use Rattle.std.proofs.lemmas.List.Folds.{list_all_more}
use Rattle.mari_units.specs.Names.{is_name_byte}
use Rattle.mari_lines.proofs.reading.bids.leading_name.Goals as goal

pub loop-i-preserved : goal.loop-i-preserved
loop-i-preserved c =
    let bytes = c.in_ok-first.first.now in
    let here : is_name_byte (get_or bytes c.loop-i.i 0) ≡ true = sym c.is_name_byte.ensures ∙ c.if-not-is_name_byte.false in
    let within : c.loop-i.i < length bytes = search rules in
    list_all_more is_name_byte bytes c.loop-i.i 0 within ∙ rw c.loop-i.invariant here
