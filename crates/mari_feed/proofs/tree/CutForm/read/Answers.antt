use Rattle.std.proofs.Common.{codes, arith}
use Rattle.std.proofs.lemmas.Result.{err_from_is_err_and}
use Rattle.serde_json.specs.Data.{member, no_members}
use Rattle.serde_json.specs.View.{view}
use Rattle.mari_lines.proofs.Gathered.{rising_zones}
use Rattle.mari_feed.specs.Values.{side_value}
use Rattle.mari_feed.proofs.NotRead.{begins, after, member_unread, same_value}
use Rattle.mari_feed.proofs.SameValue.{same_list, same_zone_number}
use Rattle.mari_feed.proofs.tree.CutForm.read.Goals as goal

pub returns-in_err-zones : goal.returns-in_err-zones
returns-in_err-zones c =
    member_unread _ _ _ _ no_members _ _ (view c.args.value.now) _ c.from_residual-in_err-zones.result (err_from_is_err_and c.from_residual-in_err-zones.result c.from_residual-in_err-zones.ensures.1)
    c.in_err-zones.ensures (λ z r e. (z.zones, member (codes "side") (side_value z.side) no_members, (r.0, rising_zones 0 z.zones r.1), begins _ _ _ c.in_ok-members.ensures e))

pub returns-in_err-side : goal.returns-in_err-side
returns-in_err-side c = member_unread _ _ _ _ no_members _ _ (view c.args.value.now) _ c.from_residual-in_err-side.result (err_from_is_err_and c.from_residual-in_err-side.result
    c.from_residual-in_err-side.ensures.1) c.in_err-side.ensures (λ z r e. (z.side, no_members, tt, after _ _ _ _ _ _ c.in_ok-zones.ensures.1 (begins _ _ _ c.in_ok-members.ensures e)))

pub returns-then-not-are_rising : goal.returns-then-not-are_rising
returns-then-not-are_rising c = grind (arith, same_value, begins, same_list, same_zone_number)
