use Rattle.mari_reach_lines.proofs.Lengths.{reach_line_short}
use Rattle.mari_reach_lines.proofs.SameLine.{same_reach_line}
use Rattle.mari_reach_lines.proofs.Words.{never_empty, no_feed}
use Rattle.mari_reach_lines.proofs.laws.reach_lines_differ.Goals as goal

pub returns-clause-same : goal.returns-clause-same
returns-clause-same c = same_reach_line

pub returns-clause-no_feed : goal.returns-clause-no_feed
returns-clause-no_feed c = no_feed

pub returns-clause-short : goal.returns-clause-short
returns-clause-short c = reach_line_short

pub returns-clause-some : goal.returns-clause-some
returns-clause-some c = never_empty
