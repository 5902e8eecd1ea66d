use Rattle.std.proofs.Common.{◌≡◌, map, List, ℕ, sym, subst, ◌∙◌}
use Rattle.std.proofs.lemmas.Result.{err_from_is_err_and}
use Rattle.mari_market.specs.Cut.{IsRising}
use Rattle.mari_lines.specs.Ranges.{Listed, IsZone}
use Rattle.mari_lines.specs.Spelling.{zone_text}
use Rattle.mari_lines.proofs.Gathered.{rising_zones, same_list, same_zone}
use Rattle.mari_lines.proofs.NotRead.{handed_on}
use Rattle.mari_lines.proofs.reading.read_cut.Goals as goal

pub returns-in_err-zones : goal.returns-in_err-zones
returns-in_err-zones c = handed_on (Listed 1 64 IsZone) (map zone_text) c.side.new.self _ _ c.args.words.now _ c.from_residual-in_err-zones.result
    (err_from_is_err_and c.from_residual-in_err-zones.result c.from_residual-in_err-zones.ensures.1) c.in_err-zones.ensures
    (λ z r e. (z.zones, (r.0, rising_zones 0 z.zones r.1), cc (e, c.in_ok-side.ensures.1)))

pub returns-then-not-are_rising : goal.returns-then-not-are_rising
returns-then-not-are_rising c = λ z r e.
    let texts : map zone_text z.zones ≡ map zone_text c.in_ok-zones.zones = cc (e, c.in_ok-side.ensures.1, c.in_ok-zones.ensures.1) in
    let same = same_list IsZone zone_text same_zone z.zones c.in_ok-zones.zones (rising_zones 0 z.zones r.1) c.in_ok-zones.ensures.0.1 texts in
    let yes = c.if-not-are_rising.ensures.1 (subst (λ (zs : List ℕ). IsRising 0 64 zs) (same ∙ sym c.as_slice.ensures) r.1) in absurd cc
