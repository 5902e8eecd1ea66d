use Rattle.std.proofs.Common.{rules, [], ◌∷◌, ◌++◌}
use Rattle.std.specs.Fmt.{decimal}
use Rattle.mari_units.specs.Appending.{AppendsPart}
use Rattle.mari_units.proofs.Appended.{begun}
use Rattle.mari_units.proofs.appending.put_number_end.Goals as goal

pub returns-in_err-put_spaced_number-clause-part : goal.returns-in_err-put_spaced_number-clause-part
returns-in_err-put_spaced_number-clause-part c =
    let begun : AppendsPart (32 ∷ decimal c.args.number ++ 10 ∷ []) c.args.text.now.items c.put_spaced_number.new.text.items =
    begun (32 ∷ decimal c.args.number) (10 ∷ []) c.args.text.now.items c.put_spaced_number.new.text.items c.in_err-put_spaced_number.ensures.part in search rules
