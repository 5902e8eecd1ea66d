use Rattle.std.proofs.Common.{List, sym, subst}
use Rattle.mari_network.specs.declared.network.Crossing.{Crossing}
use Rattle.mari_network.specs.Network.{AreMeeting}
use Rattle.mari_network.proofs.network.meeting_at.Goals as goal

pub returns : goal.returns
returns c =
    subst (λ (crossings : List Crossing). AreMeeting c.args.network.now.borders.now c.args.zone crossings) (sym c.as_slice.ensures.value)
    (c.requires.network.meeting c.args.zone c.index-network-zone.result c.requires.zone)
