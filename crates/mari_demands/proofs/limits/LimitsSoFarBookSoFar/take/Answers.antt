use Rattle.std.proofs.Common.{◌≡◌, ◌∙◌, Option, Some, None, true, false, length, refl, sym, ap, arith, rules}
use Rattle.std.specs.Prelude.{is_some, unwrap_or}
use Rattle.std.proofs.lemmas.List.{get_or_read_under, length-set}
use Rattle.mari_rows.proofs.BookLemmas.{first_failing-append}
use Rattle.mari_demands.specs.Limits.{limits_at, limits_of, name_checks, pair_checks}
use Rattle.mari_demands.specs.LimitPairs.{no_limits}
use Rattle.mari_demands.specs.declared.limits.Limits.{Limits}
use Rattle.mari_demands.proofs.LimitLemmas.{kept-again, keeps-more, named, place-below}
use Rattle.mari_demands.proofs.limits.LimitsSoFarBookSoFar.take.Goals as goal

pub index-requires : goal.index-requires
index-requires c =
    let s = c.args.self.now in
    let line = c.args.line.now in
    let is = named s.zones.now s.borders.now s.runs line c.in-Ok.ensures.0 in
    let below = place-below s.zones.now s.borders.now s.runs c.requires.0 s.limits.items line c.requires.1.limits is c.requires.1.sized in
    rw c.in-Ok.ensures.1 (omega (arith, below, s.limits.ok.0))

pub index_mut-requires : goal.index_mut-requires
index_mut-requires c =
    let s = c.args.self.now in
    let line = c.args.line.now in
    let is = named s.zones.now s.borders.now s.runs line c.in-Ok.ensures.0 in
    let below = place-below s.zones.now s.borders.now s.runs c.requires.0 s.limits.items line c.requires.1.limits is c.requires.1.sized in
    rw c.in-Ok.ensures.1 (omega (arith, below, s.limits.ok.0))

pub returns-in-Err-clause-takes : goal.returns-in-Err-clause-takes
returns-in-Err-clause-takes c = λ earlier holds.
    let s = c.args.self.now in
    let line = c.args.line.now in
    first_failing-append (pair_checks s.zones.now s.borders.now s.runs earlier line) (name_checks s.zones.now s.borders.now s.runs line) ∙ rw c.in-Err.ensures refl

pub returns-then-is_some-clause-takes : goal.returns-then-is_some-clause-takes
returns-then-is_some-clause-takes c = λ earlier holds.
    let s = c.args.self.now in
    let line = c.args.line.now in
    let good = c.in-Ok.ensures in
    let is = named s.zones.now s.borders.now s.runs line good.0 in
    let below = place-below s.zones.now s.borders.now s.runs earlier s.limits.items line holds.limits is holds.sized in
    let read = get_or_read_under s.limits.items c.in-Ok.place (length s.limits.items) c.index.result.now None c.index.ensures (rw good.1 below) refl in
    let yes : is_some c.index.result.now ≡ true = search rules in
    let there = rw good.1 at (sym (ap is_some read) ∙ yes) in
    let again = sym (kept-again s.zones.now s.borders.now s.runs earlier s.limits.items line holds.limits is) ∙ there in
    first_failing-append (pair_checks s.zones.now s.borders.now s.runs earlier line) (name_checks s.zones.now s.borders.now s.runs line) ∙ rw (good.0, again) refl

pub returns-in_default-clause-takes : goal.returns-in_default-clause-takes
returns-in_default-clause-takes c = λ earlier holds.
    let s = c.args.self.now in
    let line = c.args.line.now in
    let good = c.in-Ok.ensures in
    let is = named s.zones.now s.borders.now s.runs line good.0 in
    let below = place-below s.zones.now s.borders.now s.runs earlier s.limits.items line holds.limits is holds.sized in
    let read = get_or_read_under s.limits.items c.in-Ok.place (length s.limits.items) c.index.result.now None c.index.ensures (rw good.1 below) refl in
    let no : is_some c.index.result.now ≡ false = search rules in
    let absent = rw good.1 at (sym (ap is_some read) ∙ no) in
    let new = sym (kept-again s.zones.now s.borders.now s.runs earlier s.limits.items line holds.limits is) ∙ absent in
    let none : limits_of line ≡ None = search rules in
    first_failing-append (pair_checks s.zones.now s.borders.now s.runs earlier line) (name_checks s.zones.now s.borders.now s.runs line) ∙ rw (good.0, new, none) refl

pub returns-clause-takes : goal.returns-clause-takes
returns-clause-takes c = λ earlier holds.
    let s = c.args.self.now in
    let line = c.args.line.now in
    let good = c.in-Ok.ensures in
    let is = named s.zones.now s.borders.now s.runs line good.0 in
    let below = place-below s.zones.now s.borders.now s.runs earlier s.limits.items line holds.limits is holds.sized in
    let read = get_or_read_under s.limits.items c.in-Ok.place (length s.limits.items) c.index.result.now None c.index.ensures (rw good.1 below) refl in
    let no : is_some c.index.result.now ≡ false = search rules in
    let absent = rw good.1 at (sym (ap is_some read) ∙ no) in
    let new = sym (kept-again s.zones.now s.borders.now s.runs earlier s.limits.items line holds.limits is) ∙ absent in
    let some : limits_of line ≡ Some c.in-Some.limits = search rules in
    let value : limits_at line ≡ c.in-Some.limits = ap (λ (o : Option Limits). unwrap_or o no_limits) some in
    let more = keeps-more s.zones.now s.borders.now s.runs earlier s.limits.items line holds.limits is holds.sized absent in (
      first_failing-append (pair_checks s.zones.now s.borders.now s.runs earlier line) (name_checks s.zones.now s.borders.now s.runs line) ∙ rw (good.0, new, some) refl,
      record {
        few_runs = holds.few_runs;
        few_borders = holds.few_borders;
        sized = length-set s.limits.items c.in-Ok.place (Some c.in-Some.limits) ∙ holds.sized;
        limits = rw (good.1, sym value) more;
      },
    )
