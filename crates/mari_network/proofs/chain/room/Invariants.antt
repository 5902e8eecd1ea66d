use Rattle.std.proofs.Common.{ℤ, pos, ◌≤ℤ◌, ◌<◌, length}
use Rattle.mari_network.specs.Chain.{HasRoom}
use Rattle.mari_network.proofs.chain.room.Given as goal

abbrev pub invariant-loop-place : goal.invariant-loop-place
invariant-loop-place l = record {
  there : l.place < length l.hops;
  some : pos 1 ≤ℤ l.least;
  most : l.least ≤ℤ l.most;
  has_some : HasRoom l.borders l.flows l.hops (pos 1) l.place;
  room : (d : ℤ) → d ≤ℤ l.least → HasRoom l.borders l.flows l.hops d l.place → HasRoom l.borders l.flows l.hops d l.at;
}

abbrev pub decreases-loop-place : goal.decreases-loop-place
decreases-loop-place l = l.place
