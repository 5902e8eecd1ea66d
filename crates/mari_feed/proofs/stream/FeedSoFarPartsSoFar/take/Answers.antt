use Rattle.mari_publish.proofs.FirstParts.{part_fits}
use Rattle.mari_feed.proofs.stream.FeedSoFarPartsSoFar.take.Goals as goal

pub print_part-requires : goal.print_part-requires
print_part-requires g c = let r = c.requires in part_fits r.2 r.3 c.args.part r.5
