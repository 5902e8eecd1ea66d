-- The search machine: what a search keeps, and what each event changes in it. Read this file first.
--
-- Its tree is read on in `Growth` (how nodes are taken, closed, branched and given back) and `Preorder`; an event is
-- what one actor does in one step.
use Rattle.std.specs.Prelude.{◌≡◌, ℕ, ◌≤◌, ◌<◌, ◌==◌, pos, max, nat_lt, if◌then◌else◌, List, [], ◌∷◌, length, replicate, Option, Some, None, slice_get, IfSome, ⊤, All}
use Rattle.mari_units.specs.Lists.{greatest_by}
use Rattle.mari_market.specs.declared.market.Market.{Market}
use Rattle.mari_market.specs.declared.finding.Attained.{Attained}
use Rattle.mari_market.specs.Finding.{IsAttained}
use Rattle.mari_market.specs.Relaxation.{IsClosedWelfare}
use Rattle.mari_core.specs.declared.search.Actor.{Actor}
use Rattle.mari_core.specs.declared.event.Event.{Event}
use Rattle.mari_core.specs.declared.event.Event.TheVariants.{Look, Offer, Take, Settle, GiveBack}
use Rattle.mari_core.specs.declared.event.StepFault.{StepFault}
use Rattle.mari_core.specs.declared.event.StepFault.TheVariants.{NoActor}
use Rattle.mari_core.specs.Nodes.{changed, state_at}
use Rattle.mari_core.specs.Growth.{Grown, seed, grown, settling, MaySettle, take_refused, return_refused, IsGrowth, AreCutAt}
use Rattle.mari_core.specs.Growth.Entry.{Take as TakeEntry, GiveBack as GiveBackEntry}

-- a search: its tree; the incumbent, which is the greatest welfare that is known; what each actor saw, offered and has
-- as its best; and the first activation, an admissible one of the closed welfare
pub record Machine : Type 0 where
  pub tree : Grown
  pub incumbent : ℕ
  pub actors : List Actor
  pub first : Attained

-- an actor that saw and offered nothing above this welfare
abbrev pub new_actor : ℕ → Actor
new_actor welfare = record { seen = welfare; offered = welfare; best = None }

-- a search at its start
abbrev pub started : Market → ℕ → Attained → ℕ → Machine
started m actors first budget = record { tree = seed m budget; incumbent = first.welfare; actors = replicate actors (new_actor first.welfare); first = first }

-- ---- what an event changes

-- the actor sees this incumbent
abbrev pub seeing : ℕ → Actor → Actor
seeing incumbent a = record { seen = incumbent; offered = a.offered; best = a.best }

-- the actor keeps what it offers where that is more than it offered before, and sees this incumbent
abbrev pub offering : ℕ → Attained → Actor → Actor
offering incumbent attained a = if nat_lt a.offered attained.welfare
    then record { seen = incumbent; offered = attained.welfare; best = Some attained } else record { seen = incumbent; offered = a.offered; best = a.best }

-- what an actor saw, if there is one
abbrev pub seen_by : Option Actor → ℕ
seen_by None = 0
seen_by (Some a) = a.seen

-- what an actor offers: the incumbent rises to it, and the actor sees the incumbent
abbrev pub offered_to : Machine → ℕ → Attained → ℕ → Machine
offered_to s k attained incumbent = record s { incumbent = incumbent; actors = changed (offering incumbent attained) s.actors k }

-- what an event changes; all else stays
abbrev pub after : Machine → Event → Machine
after s (Look k) = record s { actors = changed (seeing s.incumbent) s.actors k }
after s (Offer k attained) = offered_to s k attained (max s.incumbent attained.welfare)
after s (Take k x) = record s { tree = grown s.tree (TakeEntry k x) }
after s (Settle k x finding) = record s { tree = grown s.tree (settling s.tree k x (seen_by (slice_get s.actors k)) finding) }
after s (GiveBack k x) = record s { tree = grown s.tree (GiveBackEntry k x) }

-- ---- when an event is refused

-- the actor whose step an event is
abbrev pub actor_of : Event → ℕ
actor_of (Look k) = k
actor_of (Offer k attained) = k
actor_of (Take k x) = k
actor_of (Settle k x finding) = k
actor_of (GiveBack k x) = k

-- where the actor isn't there that is the fault, and else the other, if there is one
abbrev pub by_actor : Option Actor → Option StepFault → Option StepFault
by_actor None fault = Some NoActor
by_actor (Some a) fault = fault

-- why an event is refused, if it is
abbrev pub refusal : Machine → Event → Option StepFault
refusal s (Look k) = by_actor (slice_get s.actors k) None
refusal s (Offer k attained) = by_actor (slice_get s.actors k) None
refusal s (Take k x) = by_actor (slice_get s.actors k) (take_refused (state_at s.tree.nodes x))
refusal s (Settle k x finding) = by_actor (slice_get s.actors k) (return_refused k (state_at s.tree.nodes x))
refusal s (GiveBack k x) = by_actor (slice_get s.actors k) (return_refused k (state_at s.tree.nodes x))

-- what may be handed in: an offer is an admissible activation with its welfare; a finding is one of that node, and
-- where the node decides every gate the actor has seen at least its bound, unless there is a conflict
abbrev pub IsProper : Machine → Event → Type 0
IsProper s (Look k) = ⊤
IsProper s (Offer k attained) = IsAttained s.tree.market attained
IsProper s (Take k x) = ⊤
IsProper s (Settle k x finding) = IfSome (slice_get s.actors k) (λ a. IfSome (slice_get s.tree.nodes x) (MaySettle s.tree.market a.seen finding))
IsProper s (GiveBack k x) = ⊤

-- ---- what every event keeps

-- the best that an actor has: none exactly where it offered no more than the first welfare, and else an admissible
-- activation of the welfare that it offered
abbrev pub IsBest : Market → ℕ → ℕ → Option Attained → Type 0
IsBest m welfare offered None = offered ≡ welfare
IsBest m welfare offered (Some best) = IsAttained m best × (best.welfare ≡ offered) × (welfare < offered)

-- what an actor saw lies between the first welfare and the incumbent, and it has its best
pub record IsActor (m : Market) (welfare incumbent : ℕ) (a : Actor) : Type 0 where
  pub above : welfare ≤ a.seen
  pub below : a.seen ≤ incumbent
  pub best : IsBest m welfare a.offered a.best

-- what every event keeps: the incumbent is at least what every actor saw, which is at least the closed welfare; it is
-- the greatest of the closed welfare and all that was offered; each actor has its best; the tree is a growth, closed at
-- cutoffs of at most the incumbent
pub record KeepsFacts (s : Machine) : Type 0 where
  pub tree : IsGrowth s.tree
  pub cutoffs : AreCutAt s.incumbent s.tree.nodes
  pub attained : IsAttained s.tree.market s.first
  pub closed : IsClosedWelfare s.tree.market (pos s.first.welfare)
  pub incumbent_is : s.incumbent ≡ greatest_by (λ (a : Actor). a.offered) s.first.welfare s.actors
  pub some_actor : 1 ≤ length s.actors
  pub actors_are : All (IsActor s.tree.market s.first.welfare s.incumbent) s.actors

-- ---- what is published in the end

-- the best of an actor, or else the first activation
abbrev pub best_or : Attained → Option Attained → Attained
best_or first None = first
best_or first (Some best) = best

-- the best of the first actor that offered the incumbent, and the first activation where none did
abbrev pub best_of : ℕ → Attained → List Actor → Attained
best_of incumbent first [] = first
best_of incumbent first (a ∷ others) = if a.offered == incumbent then best_or first a.best else best_of incumbent first others
