use Rattle.std.proofs.Common.{◌≡◌, ◌∙◌, ◌++◌, ◌∷◌, [], get_or, false, true, refl, sym, ap, arith, length, rules}
use Rattle.std.specs.Prelude.{nat_le}
use Rattle.std.proofs.lemmas.List.{length-set, map-append}
use Rattle.mari_rows.proofs.BookLemmas.{first_failing-append}
use Rattle.mari_rows.proofs.CountLemmas.{below, counts-push, not-below, written-back}
use Rattle.mari_demands.specs.Demands.{count_of, demand_checks, demand_of, run_at}
use Rattle.mari_demands.specs.declared.demands.Demand.{Demand}
use Rattle.mari_demands.proofs.demands.DemandsSoFarBookSoFar.take.Goals as goal

pub returns-in-Err-clause-takes : goal.returns-in-Err-clause-takes
returns-in-Err-clause-takes c = λ earlier holds.
    let so_far = c.args.self.now in
    let line = c.args.line.now in
    let checks = demand_checks so_far.zones.now so_far.runs line in
    let last = (nat_le 512 (count_of so_far.runs earlier (run_at so_far.runs line)), 15) ∷ [] in
    first_failing-append last checks ∙ rw c.in-Err.ensures.demand refl

pub returns-then-not-count_one-clause-takes : goal.returns-then-not-count_one-clause-takes
returns-then-not-count_one-clause-takes c = λ earlier holds.
    let so_far = c.args.self.now in
    let runs = so_far.runs in
    let line = c.args.line.now in
    let checks = demand_checks so_far.zones.now runs line in
    let count = count_of runs earlier (run_at runs line) in
    let good = c.in-Ok.ensures.demand in
    let run : c.in-Ok.demand.run ≡ run_at runs line = ap (λ (demand : Demand). demand.run) good.1 in
    let counted : get_or so_far.counts.items (run_at runs line) 0 ≡ count = holds.counts (run_at runs line) (rw (sym run) c.in-Ok.ensures.run) in
    let no : c.count_one.result ≡ false = search rules in
    let full = rw (c.deref_mut.ensures.value, run, counted) at (sym c.count_one.ensures.room ∙ no) in
    first_failing-append ((nat_le 512 count, 15) ∷ []) checks ∙ rw (good.0, not-below 512 count full) refl

pub returns-clause-takes : goal.returns-clause-takes
returns-clause-takes c = λ earlier holds.
    let so_far = c.args.self.now in
    let zones = so_far.zones.now in
    let runs = so_far.runs in
    let line = c.args.line.now in
    let checks = demand_checks zones runs line in
    let count = count_of runs earlier (run_at runs line) in
    let good = c.in-Ok.ensures.demand in
    let run : c.in-Ok.demand.run ≡ run_at runs line = ap (λ (demand : Demand). demand.run) good.1 in
    let counted : get_or so_far.counts.items (run_at runs line) 0 ≡ count = holds.counts (run_at runs line) (rw (sym run) c.in-Ok.ensures.run) in
    let yes : c.count_one.result ≡ true = search rules in
    let room = rw (c.deref_mut.ensures.value, run, counted) at (sym c.count_one.ensures.room ∙ yes) in
    let counts = rw (c.deref_mut.ensures.value, run) at (c.count_one.ensures.counted yes) in
    let pushed : c.push.new.self.items ≡ so_far.demands.items ++ c.in-Ok.demand ∷ [] = search rules in
    let old = so_far.counts.items in
    let long : length c.count_one.new.counts ≡ length old = rw counts (length-set old (run_at runs line) _) in
    let back = written-back old c.count_one.new.counts so_far.counts.len long so_far.counts.ok.0 ∙ counts in (
      first_failing-append ((nat_le 512 count, 15) ∷ []) checks ∙ rw (good.0, below 512 count room) refl,
      record {
        demands = rw (pushed, good.1, holds.demands) (sym (map-append (demand_of zones runs) earlier (line ∷ [])));
        sized = rw back (length-set old (run_at runs line) _ ∙ holds.sized);
        counts = rw back (counts-push (run_at runs) runs earlier line old (omega (arith, holds.sized)) (rw (sym run) c.in-Ok.ensures.run) holds.counts);
      },
    )
