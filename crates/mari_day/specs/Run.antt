-- What the block of a run states of its clearing.
use Rattle.mari_market.specs.declared.clearing.Clearing.{Clearing}
use Rattle.mari_publish.specs.declared.publication.FullBlock.{FullBlock}
use Rattle.mari_progress.specs.Reported.{activation_of}

-- the clearing that it states
abbrev pub clearing_of : FullBlock → Clearing
clearing_of b = record { activation = activation_of b; welfare = b.welfare; tree = b.tree }
