use Rattle.std.proofs.Common.{◌≡◌, ◌∙◌, None, replicate, sym, arith, rules}
use Rattle.mari_remain.proofs.Beginning.{same-all}
use Rattle.mari_blocks.proofs.Families.{parent-below}
use Rattle.mari_blocks.proofs.blocks.BlocksSoFar.new.Goals as goal

pub parents_of-requires : goal.parents_of-requires
parents_of-requires c = λ child parent e.
    let below = parent-below c.args.bids.now c.args.links.now c.requires child parent (rw c.as_slice.ensures at e) in
    omega (arith, below, c.len-count.ensures.len)

pub returns-clause-none : goal.returns-clause-none
returns-clause-none c =
    let filled : c.in_ok-vec.field-0.items ≡ replicate c.len-count.result None = search rules in
    record {
      names = c.new.ensures;
      block_of = filled ∙ rw (sym c.len-count.ensures.len) (same-all None 0 c.len-count.result);
      parents = rw c.as_slice.ensures at c.in_ok-parents_of.ensures;
    }
