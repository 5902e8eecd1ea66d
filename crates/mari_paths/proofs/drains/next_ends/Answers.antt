use Rattle.std.proofs.Common.{◌≡◌, ℕ, ℤ, List, Option, Some, None, sym, subst}
use Rattle.std.specs.Prelude.{IfSome}
use Rattle.mari_market.specs.declared.market.Border.{Border}
use Rattle.mari_network.specs.declared.chain.Hop.{Hop}
use Rattle.mari_network.specs.Chain.{HasRoom}
use Rattle.mari_network.specs.Chain.HasRoom.{begins}
use Rattle.mari_paths.specs.declared.drains.Ends.{Ends}
use Rattle.mari_paths.proofs.drains.next_ends.Goals as goal

-- there is room within the first hop's zone
room_within : (bs : List Border) (fs : List ℤ) (hops : List Hop) (d : ℤ) (ends : Option Ends) → IfSome ends (λ e. e.at ≡ 0) → IfSome ends (λ e. HasRoom bs fs hops d e.at)
room_within bs fs hops d None at = tt
room_within bs fs hops d (Some ends) at = subst (λ (k : ℕ). HasRoom bs fs hops d k) (sym at) begins

pub returns-then-network-sink-clause-room : goal.returns-then-network-sink-clause-room
returns-then-network-sink-clause-room c = room_within _ _ _ _ c.own_ends.result c.own_ends.ensures.at
