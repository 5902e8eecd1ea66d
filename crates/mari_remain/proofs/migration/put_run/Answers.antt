use Rattle.std.proofs.Common.{◌≡◌, ◌∙◌, ◌++◌, ℕ, List, ap, sym, map, rules, zero-add}
use Rattle.std.specs.List.{flat_map, range_with_len}
use Rattle.std.proofs.lemmas.List.{flat_map_more}
use Rattle.std.proofs.lemmas.List.FromFn.{map-range_with_len_more}
use Rattle.mari_rows.specs.Printed.{line_of}
use Rattle.mari_remain.specs.Migrated.{limit_record}
use Rattle.mari_remain.specs.RunMarket.{ends_at, run_limits}
use Rattle.mari_remain.proofs.migration.put_run.Goals as goal

pub loop-number-preserved : goal.loop-number-preserved
loop-number-preserved c =
    let books = c.args.books.now in
    let fields : ℕ → List (List ℕ) = λ k. limit_record books.zones c.args.run (ends_at books.borders.borders k) (run_limits books c.args.run k) in
    let k = c.loop-number.number in
    let put : c.put_line.new.text.items ≡ c.loop-number.text.items ++ line_of (fields k) = search rules in
    rw (put, c.loop-number.invariant) (flat_map_more line_of c.args.text.now.items (map fields (range_with_len 0 k)) (fields k)
    ∙ ap (λ records. c.args.text.now.items ++ flat_map line_of records) (sym (map-range_with_len_more fields 0 k k (zero-add k))))
