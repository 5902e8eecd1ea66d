use Rattle.std.proofs.Common.{List, sym, subst}
use Rattle.mari_network.specs.declared.network.Rung.{Rung}
use Rattle.mari_network.specs.Network.{IsLadder}
use Rattle.mari_network.proofs.network.ladder_at.Goals as goal

pub returns : goal.returns
returns c =
    subst (λ (ladder : List Rung). IsLadder c.args.network.now.slots.now c.args.network.now.on_ladders c.args.zone ladder) (sym c.as_slice.ensures.value)
    (c.requires.network.ladders c.args.zone c.index-network-zone.result c.requires.zone)
