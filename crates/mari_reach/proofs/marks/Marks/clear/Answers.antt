use Rattle.std.proofs.Common.{false}
use Rattle.mari_welfare.proofs.Open.{get_or-all_same}
use Rattle.mari_reach.proofs.marks.Marks.clear.Goals as goal

pub returns : goal.returns
returns c g = get_or-all_same 512 g false
