use Rattle.mari_reach_text.proofs.Mirrors.{few_first, few_runs, has_room}
use Rattle.mari_reach_text.proofs.order.ReachKeptTextForm.take_line.Goals as goal

pub follow_both-requires-clause-first : goal.follow_both-requires-clause-first
follow_both-requires-clause-first c = let f = c.requires in few_first f.0 f.1 c.args.self.now f.2

pub follow_both-requires-clause-counts : goal.follow_both-requires-clause-counts
follow_both-requires-clause-counts c = let f = c.requires in few_runs f.0 f.1 c.args.self.now f.2

pub follow_both-requires-clause-room : goal.follow_both-requires-clause-room
follow_both-requires-clause-room c = let f = c.requires in has_room f.0 f.1 c.args.self.now f.2
