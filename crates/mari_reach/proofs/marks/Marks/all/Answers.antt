use Rattle.std.proofs.Common.{true}
use Rattle.std.proofs.lemmas.List.{get_or-replicate}
use Rattle.mari_reach.proofs.marks.Marks.all.Goals as goal

pub returns : goal.returns
returns c = λ g l. get_or-replicate 512 g true _ l
