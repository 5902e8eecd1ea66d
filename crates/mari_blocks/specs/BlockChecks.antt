-- The checks of blocks.csv.
use Rattle.std.specs.Prelude.{ℕ, List, codes}
use Rattle.mari_blocks.specs.declared.blocks.BlockCheck.{BlockCheck}
use Rattle.mari_blocks.specs.declared.blocks.BlockCheck.TheVariants.{BadField, Linked, Quarter, Repeated, UnknownBid}

-- their numbers
abbrev pub block_check_number : BlockCheck → ℕ
block_check_number BadField = 11
block_check_number UnknownBid = 12
block_check_number Quarter = 13
block_check_number Repeated = 14
block_check_number Linked = 15

-- and their names
unfoldable pub block_check_name : BlockCheck → List ℕ
block_check_name BadField = codes "BadField"
block_check_name UnknownBid = codes "UnknownBid"
block_check_name Quarter = codes "Quarter"
block_check_name Repeated = codes "Repeated"
block_check_name Linked = codes "Linked"
