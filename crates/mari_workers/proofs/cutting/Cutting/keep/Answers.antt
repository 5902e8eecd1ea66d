use Rattle.std.proofs.Common.{◌∷◌, [], arith, length, length-append, ap}
use Rattle.mari_market.specs.declared.certificate.TreeItem.TheVariants.{Leaf}
use Rattle.mari_workers.proofs.Cuts.{leaf_kept}
use Rattle.mari_workers.proofs.cutting.Cutting.keep.Goals as goal

pub returns : goal.returns
returns c = record {
  goes_on = leaf_kept c.args.market.now c.args.welfare c.args.prefix.now c.args.leaf c.args.self.now.done.items c.args.self.now.left.items c.push.new.self.items c.next_after-self.result
      c.requires.walk c.in_ok-push.ensures.items c.next_after-self.ensures.left c.next_after-self.ensures.feasible;
  count = omega (arith, ap length c.in_ok-push.ensures.items, length-append c.args.self.now.done.items (Leaf c.args.leaf ∷ []));
  no_more = omega arith;
}
