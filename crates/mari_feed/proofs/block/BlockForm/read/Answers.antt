use Rattle.std.proofs.Common.{arith}
use Rattle.std.proofs.lemmas.Result.{err_from_is_err_and}
use Rattle.mari_feed.proofs.ByKey.{unpublished_part}
use Rattle.mari_feed.proofs.NotRead.{handed_on}
use Rattle.mari_feed.proofs.block.BlockForm.read.Goals as goal

pub returns-in_err-heading : goal.returns-in_err-heading
returns-in_err-heading c = grind (arith, handed_on, err_from_is_err_and, unpublished_part)
