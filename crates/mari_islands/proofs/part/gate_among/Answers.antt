use Rattle.std.proofs.Common.{refl}
use Rattle.mari_gates.proofs.Decisions.{group_at, parent_at}
use Rattle.mari_islands.proofs.Homes.{no_info}
use Rattle.mari_islands.proofs.part.gate_among.Goals as goal

pub returns : goal.returns
returns c = rw (group_at c.args.infos.now c.args.gate no_info c.requires.there, parent_at c.args.infos.now c.args.gate no_info c.requires.there, c.gate_place.ensures) refl
