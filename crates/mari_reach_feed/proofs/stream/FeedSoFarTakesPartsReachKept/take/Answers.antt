use Rattle.mari_reach_feed.proofs.Fitting.{reach_part_fits}
use Rattle.mari_reach_feed.proofs.stream.FeedSoFarTakesPartsReachKept.take.Goals as goal

pub print_part-requires : goal.print_part-requires
print_part-requires g c = let r = c.requires in reach_part_fits r.2 r.3 c.args.part r.5
