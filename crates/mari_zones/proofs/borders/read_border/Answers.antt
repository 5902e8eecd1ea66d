use Rattle.std.proofs.Common.{◌≡◌, ◌<◌, ◌∙◌, ◌==◌, ◌&&◌, List, Some, false, length, map, ap, sym, subst, refl}
use Rattle.std.specs.Prelude.{nat_le, is_some}
use Rattle.std.proofs.lemmas.Bool.{lt-leb, ne_eqb}
use Rattle.std.proofs.lemmas.List.{length-map}
use Rattle.mari_units.specs.declared.limits.TheConstants.{MOST_BORDERS}
use Rattle.mari_rows.specs.Rows.{field_of}
use Rattle.mari_rows.specs.declared.rows.Row.{Row}
use Rattle.mari_zones.specs.Borders.{limit_in, zone_named}
use Rattle.mari_zones.specs.declared.borders.BorderEnds.{BorderEnds}
use Rattle.mari_zones.proofs.borders.read_border.Goals.{then-is_none-via-then-is_none, then-is_none-via-else-is_none+then-is_none-2}
use Rattle.mari_zones.proofs.borders.read_border.Goals as goal

-- there is room for one more border
room : (of : Row → BorderEnds) (lines : List Row) (earlier : List BorderEnds) → earlier ≡ map of lines → length earlier < MOST_BORDERS → nat_le MOST_BORDERS (length lines) ≡ false
room of lines earlier same few = lt-leb MOST_BORDERS (length lines) (subst (λ n. n < MOST_BORDERS) (ap length same ∙ length-map lines of) few)

pub returns-then-is_repeated : goal.returns-then-is_repeated
returns-then-is_repeated c lines same =
    let from : zone_named c.args.zones.now (field_of c.args.line.now 0) ≡ Some c.in-Some.from = sym (rw c.field.ensures at c.in-Some.ensures.place) in
    let to : zone_named c.args.zones.now (field_of c.args.line.now 1) ≡ Some c.in-Some-find.to = sym (rw c.field-2.ensures at c.in-Some-find.ensures.place) in
    let apart : (c.in-Some.from == c.in-Some-find.to) ≡ false = ne_eqb _ _ c.if-from-to.false in
    let repeated = sym c.is_repeated.ensures ∙ c.if-is_repeated.true in
    simp (room _ lines _ same c.if-earlier-ge-MOST_BORDERS.false, from, to, apart, sym same, repeated) refl

pub returns-then-is_none : goal.returns-then-is_none
returns-then-is_none c lines same =
    let from : zone_named c.args.zones.now (field_of c.args.line.now 0) ≡ Some c.in-Some.from = sym (rw c.field.ensures at c.in-Some.ensures.place) in
    let to : zone_named c.args.zones.now (field_of c.args.line.now 1) ≡ Some c.in-Some-find.to = sym (rw c.field-2.ensures at c.in-Some-find.ensures.place) in
    let limit : limit_in c.args.version (field_of c.args.line.now 2) ≡ c.limit_of-limit.result = sym (rw c.field-3.ensures at c.limit_of-limit.ensures) in
    let back : limit_in c.args.version (field_of c.args.line.now 3) ≡ c.limit_of-back.result = sym (rw c.field-4.ensures at c.limit_of-back.ensures) in
    let apart : (c.in-Some.from == c.in-Some-find.to) ≡ false = ne_eqb _ _ c.if-from-to.false in
    let new = sym c.is_repeated.ensures ∙ c.if-is_repeated.false in
    let none : (is_some c.limit_of-limit.result && is_some c.limit_of-back.result) ≡ false = elim c.then-is_none.branch [
      | then-is_none-via-then-is_none w ↦ simp (c.is_none.ensures, w.if-is_none.true) refl
      | then-is_none-via-else-is_none+then-is_none-2 w ↦ simp (c.is_none.ensures, w.if-is_none.false, w.is_none-else-is_none.ensures, w.if-is_none-2.true) refl
    ] in
    simp (room _ lines _ same c.if-earlier-ge-MOST_BORDERS.false, from, to, limit, back, apart, sym same, new, none) refl

pub returns : goal.returns
returns c lines same =
    let from : zone_named c.args.zones.now (field_of c.args.line.now 0) ≡ Some c.in-Some.from = sym (rw c.field.ensures at c.in-Some.ensures.place) in
    let to : zone_named c.args.zones.now (field_of c.args.line.now 1) ≡ Some c.in-Some-find.to = sym (rw c.field-2.ensures at c.in-Some-find.ensures.place) in
    let limit : limit_in c.args.version (field_of c.args.line.now 2) ≡ c.limit_of-limit.result = sym (rw c.field-3.ensures at c.limit_of-limit.ensures) in
    let back : limit_in c.args.version (field_of c.args.line.now 3) ≡ c.limit_of-back.result = sym (rw c.field-4.ensures at c.limit_of-back.ensures) in
    let apart : (c.in-Some.from == c.in-Some-find.to) ≡ false = ne_eqb _ _ c.if-from-to.false in
    let new = sym c.is_repeated.ensures ∙ c.if-is_repeated.false in (
      simp (
        room _ lines _ same c.if-earlier-ge-MOST_BORDERS.false,
        from,
        to,
        limit,
        back,
        apart,
        sym same,
        new,
        c.is_none.ensures,
        c.if-is_none.false,
        c.is_none-else-is_none.ensures,
        c.if-is_none-2.false,
      ) refl,
      simp (from, to, limit, back, c.unwrap_or.ensures, c.unwrap_or-2.ensures) refl,
    )
