use Rattle.mari_lines.specs.Ranges.{IsZone}
use Rattle.mari_lines.specs.Spelling.{zone_text}
use Rattle.std.proofs.lemmas.Result.{err_from_is_err_and}
use Rattle.mari_lines.proofs.Gathered.{begun_unread}
use Rattle.mari_lines.proofs.reading.lists.read_zones.Goals as goal

pub returns-in_err-zone : goal.returns-in_err-zone
returns-in_err-zone c =
    begun_unread IsZone zone_text 1 64 c.loop-word.zones.items c.in-Some.word.now c.loop-word.left c.next_word.new.self c.args.words.now _
    c.from_residual-in_err-zone.result c.loop-word.invariant c.in-Some.ensures
    c.in_err-zone.ensures (err_from_is_err_and c.from_residual-in_err-zone.result c.from_residual-in_err-zone.ensures.1)
