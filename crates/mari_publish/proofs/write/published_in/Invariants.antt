use Rattle.std.proofs.Common.{◌≡◌, ◌≤◌, ◌+◌, drop}
use Rattle.mari_publish.specs.Lines.{published_in}
use Rattle.mari_publish.proofs.write.published_in.Given as goal

-- with those still to come it is the whole, and no more were counted than have come
abbrev pub invariant-loop-block : goal.invariant-loop-block
invariant-loop-block l = record {
  whole : l.count + published_in (drop l.block-index l.blocks) ≡ published_in l.blocks;
  few : l.count ≤ l.block-index;
}
