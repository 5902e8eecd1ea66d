-- Where the examinations of a search begin.
use Rattle.std.specs.Prelude.{◌≡◌, [], ⊤}
use Rattle.mari_market.specs.declared.market.Market.{Market}
use Rattle.mari_paths.specs.Warm.{IsWarmStart, IsWorkspaceOf}
use Rattle.mari_paths.specs.declared.warm.Workspace.{Workspace}
use Rattle.mari_workers.specs.declared.root.Ahead.{Ahead}
use Rattle.mari_workers.specs.declared.root.Ahead.TheVariants.{Known, Warm}
use Rattle.mari_workers.specs.declared.root.Root.{Root as RootRecord}
use Rattle.mari_workers.specs.Closed.{IsClosedOptimum}

-- what is known is what may be found at the one word of a market without gates; a start is made for the market, but
-- nothing is said of the activation that it is made from
abbrev pub IsAhead : Market → Ahead → Type 0
IsAhead m (Known closed) = (m.gates ≡ []) × IsClosedOptimum m closed
IsAhead m (Warm optimum start) = IsWarmStart m start

-- the slots in which a prefix is solved from what is ahead, if one is
abbrev pub IsSpaceFor : Ahead → Workspace → Type 0
IsSpaceFor (Known closed) workspace = ⊤
IsSpaceFor (Warm optimum start) workspace = IsWorkspaceOf start workspace

-- a workspace for examinations from this root
abbrev pub IsWorkspaceAt : RootRecord → Workspace → Type 0
IsWorkspaceAt r workspace = IsSpaceFor r.ahead workspace

-- what the examinations of the market's prefixes begin with
pub record IsRootOf (m : Market) (r : RootRecord) : Type 0 where
  pub ahead : IsAhead m r.ahead
