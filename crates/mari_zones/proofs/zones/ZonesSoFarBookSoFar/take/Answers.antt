use Rattle.std.proofs.Common.{◌≡◌, ◌∙◌, false, ◌++◌, ◌∷◌, [], None, map, sym, ap, rules, arith}
use Rattle.std.specs.Prelude.{option_map}
use Rattle.std.proofs.lemmas.List.{length-map, map-append}
use Rattle.mari_rows.specs.Names.{is_among}
use Rattle.mari_rows.proofs.PlaceLemmas.{distinct-push, length-distinct, made-push}
use Rattle.mari_zones.specs.ZoneChecks.{zone_check_number}
use Rattle.mari_zones.specs.Zones.{operator_of, zone_of}
use Rattle.mari_zones.proofs.zones.ZonesSoFarBookSoFar.take.Goals as goal

pub find_or_add-requires-2-clause-room : goal.find_or_add-requires-2-clause-room
find_or_add-requires-2-clause-room c =
    let earlier = c.requires.0 in
    rw c.requires.1.operators (omega (arith, length-distinct (map operator_of earlier), length-map earlier operator_of, c.requires.2))

pub returns-clause-takes : goal.returns-clause-takes
returns-clause-takes c = λ earlier holds.
    let line = c.args.line.now in
    let found : c.failing_check.result ≡ None = search rules in
    let new : is_among c.args.self.now.zones (zone_of line) ≡ false = search rules in
    let zone = rw (c.field.ensures, new) at c.in_ok-find_or_add.ensures.names in
    let names = rw c.field-2.ensures at c.in_ok-operator.ensures.names in
    let place = rw c.field-2.ensures at c.in_ok-operator.ensures.place in
    let pushed : c.push.new.self.items ≡ c.args.self.now.operator_of.items ++ c.in_ok-operator.operator ∷ [] = search rules in (
      sym (c.failing_check.ensures.first earlier holds.zones) ∙ ap (option_map zone_check_number) found,
      record {
        zones = rw (zone, holds.zones) (sym (map-append zone_of earlier (line ∷ [])));
        operators = rw (names, holds.operators) (sym (distinct-push operator_of earlier line));
        operator_of = rw (pushed, holds.operator_of, place, names, holds.operators) (sym (made-push (λ place row. place) operator_of earlier line));
      },
    )
