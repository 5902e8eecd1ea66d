use Rattle.mari_incumbent.proofs.Keeps.{starts, looks, offers, splits, notes, joins}
use Rattle.mari_incumbent.proofs.law.rule_is_kept.Goals as goal

pub returns : goal.returns
returns c = record { start = starts; look = looks; offer = offers; split = splits; note = notes; join = joins }
