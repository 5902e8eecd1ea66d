-- What holds of every block of a day: what operators pay less the rents sums to 0.
use Rattle.std.specs.Prelude.{⊤}
use Rattle.mari_publish.specs.declared.publication.Block.{Block}
use Rattle.mari_publish.specs.declared.publication.Block.TheVariants as block
use Rattle.mari_progress.specs.Keeps.{SumsToZero}

-- where it is published
abbrev pub BlockSumsToZero : Block → Type 0
BlockSumsToZero (block.Published b) = SumsToZero b
BlockSumsToZero (block.Unpublished heading count) = ⊤
