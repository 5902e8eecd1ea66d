use Rattle.std.proofs.Common.{◌++◌, List, ℕ}
use lib.Chars.{codes}
use Rattle.std.proofs.lemmas.Result.{err_from_is_err_and}
use Rattle.mari_units.specs.Names.{IsName}
use Rattle.mari_lines.proofs.NotRead.{handed_on}
use Rattle.mari_reach_lines.specs.Ranges.{ReachInRange}
use Rattle.mari_reach_lines.specs.Spelling.{reach_spelling}
use Rattle.mari_reach_lines.proofs.Pieces.{branch_part}
use Rattle.mari_reach_lines.proofs.reading.read_branch.Goals as goal

pub returns-in_err-read_own_name : goal.returns-in_err-read_own_name
returns-in_err-read_own_name c =
    handed_on IsName (λ (name : List ℕ). name) c.args.rest.now ReachInRange reach_spelling (codes "branch " ++ c.args.rest.now) _ c.from_residual.result
    (err_from_is_err_and c.from_residual.result c.from_residual.ensures.1) c.in_err-read_own_name.ensures
    (λ y r e. branch_part y c.args.rest.now r e)
