-- A day has none of the faults.
use Rattle.std.proofs.Common.{ℕ, ◌≤◌, length, take, sym, subst, arith}
use Rattle.std.proofs.lemmas.List.{length-take-le}
use Rattle.std.proofs.lemmas.Option.{slice_get_within}
use Rattle.mari_publish.specs.declared.publication.Publication.{Publication}
use Rattle.mari_remain.specs.declared.books.Books.{Books}
use Rattle.mari_progress.specs.After.{run_after}
use Rattle.mari_day.specs.Day.{IsDay}
use Rattle.mari_check.specs.Day.{AreFree, IsValidPublication}
use Rattle.mari_commands.proofs.valid.Blocks.{block-is-free}

pub day-is-valid : (books : Books) (nodes : ℕ) (p : Publication) → IsDay books nodes p → IsValidPublication books p
day-is-valid books nodes p is = record {
  head = is.head;
  blocks = subst (λ (budget : ℕ). AreFree books budget p.blocks) (sym is.budget) (λ k b there any.
      let within = slice_get_within p.blocks k b there in
      let before : run_after (take k p.blocks) ≤ length books.runs.runs = omega (arith, within, is.part.few, length-take-le k p.blocks (omega (arith, within))) in
      block-is-free books nodes (take k p.blocks) b before (is.part.each k b there) any);
  every = is.every;
  totals = is.totals;
}
