use Rattle.std.proofs.Common.{◌<◌, pos, length}
use Rattle.mari_network.specs.Chain.{HasRoom}
use Rattle.mari_network.proofs.chain.has_room.Given as goal

abbrev pub invariant-loop-place : goal.invariant-loop-place
invariant-loop-place l = record {
  there : l.place < length l.hops;
  rest : HasRoom l.borders l.flows l.hops (pos 1) l.place → HasRoom l.borders l.flows l.hops (pos 1) l.at;
  back : HasRoom l.borders l.flows l.hops (pos 1) l.at → HasRoom l.borders l.flows l.hops (pos 1) l.place;
}

abbrev pub decreases-loop-place : goal.decreases-loop-place
decreases-loop-place l = l.place
