use Rattle.std.proofs.Common.{◌≡◌, ◌∙◌, ◌+◌, ℕ, List, ap, arith, length, map, refl}
use Rattle.std.specs.List.{range_with_len}
use Rattle.std.proofs.lemmas.List.{length-map}
use Rattle.mari_demands.specs.declared.demands.Demand.{Demand}
use Rattle.mari_demands.specs.declared.runs.Run.{Run}
use Rattle.mari_remain.specs.Lists.{numbers_of_run, places_of}
use Rattle.mari_remain.proofs.Beginning.{by-run, few-demands, runs-fit}
use Rattle.mari_remain.proofs.remaining.demands_by_run.Goals as goal

pub index_of-requires-clause-keys : goal.index_of-requires-clause-keys
index_of-requires-clause-keys c = rw (c.deref.ensures.value, c.in_ok-runs.ensures, c.as_slice.ensures, c.as_slice-2.ensures) (runs-fit c.args.books.now c.requires)

pub index_of-requires-clause-few : goal.index_of-requires-clause-few
index_of-requires-clause-few c =
    rw (c.deref.ensures.value, c.in_ok-runs.ensures, c.as_slice.ensures) (simp length-map (omega (arith, few-demands c.args.books.now c.requires)))

pub returns : goal.returns
returns c =
    let demands : List Demand = c.args.books.now.demands.demands in
    let keys : c.deref.result.now ≡ map (λ (d : Demand). d.run) demands = rw (c.deref.ensures.value, c.in_ok-runs.ensures, c.as_slice.ensures) refl in
    let count : ℕ = length c.as_slice-2.result.now + 1 in
    c.in_ok-index.ensures ∙ ap (λ (ks : List ℕ). map (places_of ks) (range_with_len 0 count)) keys ∙ by-run demands count
    ∙ ap (λ (runs : List Run). map (numbers_of_run demands) (range_with_len 0 (length runs + 1))) c.as_slice-2.ensures
