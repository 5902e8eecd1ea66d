-- How the valuing of a whole publication ends.
use Rattle.std.proofs.Common.{◌≡◌, ◌≤◌, ℕ, List, [], ◌++◌, length, Some, refl, sym, subst}
use Rattle.std.specs.Prelude.{is_some, true, Option}
use Rattle.std.proofs.lemmas.List.{append-nil}
use Rattle.mari_io.specs.Outside.{most_given}
use Rattle.mari_publish.specs.Pieces.{parts_of}
use Rattle.mari_publish.specs.declared.publication.Block.{Block}
use Rattle.mari_remain.specs.declared.books.Books.{Books}
use Rattle.mari_progress.specs.Totals.{HasHead}
use Rattle.mari_check.specs.declared.verdict.Verdict.{Verdict}
use Rattle.mari_check.specs.declared.verdict.Verdict.TheVariants as verdict
use Rattle.mari_check.specs.Day.{AreFree}
use Rattle.mari_check.specs.Streams.{IsVerdictSoFar, SettlesVerdict}
use Rattle.mari_check.specs.Verdicts.{IsVerdict}
use Rattle.mari_check.proofs.Streaming.{all-found}
use Rattle.mari_capacity.specs.declared.ending.ValueEnd.TheVariants.{Valid, Invalid}
use Rattle.mari_capacity.specs.declared.stream.ValuesSoFar.{ValuesSoFar}
use Rattle.mari_capacity.specs.Lines.{closing_line}
use Rattle.mari_capacity.specs.Streams.{EndsPage, LinesReport}
use Rattle.mari_capacity.specs.Taking.{TookWhole}
use Rattle.mari_capacity.specs.Values.{IsValueText}
use Rattle.mari_capacity.specs.Streams.EndsInvalid.{AtEnd}
use Rattle.mari_capacity.proofs.FirstFaults.{blocks_in-parts}

module _ (books : Books) (n : ℕ) (text : List ℕ) (s : ValuesSoFar) (a : TookWhole books n text s) where
  -- the totals have come
  pub has-verdict : is_some s.found ≡ true
  has-verdict = all-found books a.publication (parts_of a.publication) s.day s.found refl a.taken.found

  -- the verdict that they settle is that on the publication
  settled : (v : Verdict) → s.found ≡ Some v → IsVerdict books a.publication v
  settled v found =
      let own : SettlesVerdict books (parts_of a.publication) v = subst (λ (f : Option Verdict). IsVerdictSoFar books (parts_of a.publication) s.day f) found a.taken.found in
      own a.publication [] (sym (append-nil (parts_of a.publication)))

  -- and the lines state of its blocks
  lines : IsValueText books n a.publication.blocks s.lines.items
  lines = subst (λ (bs : List Block). IsValueText books n bs s.lines.items) (blocks_in-parts a.publication) a.taken.states.lines

  checked : HasHead books a.publication.date a.publication.quarters × AreFree books a.publication.budget a.publication.blocks
  checked =
      let own = a.taken.states.checked in
      (own.0, subst (λ (bs : List Block). AreFree books a.publication.budget bs) (blocks_in-parts a.publication) own.1)

  -- they show a fault
  pub ends-invalid : (run number : ℕ) → length text ≤ most_given → s.found ≡ Some (verdict.Invalid run number) → EndsPage books n text s.lines.items (Invalid run number)
  ends-invalid run number short found =
      AtEnd (record { publication = a.publication; short = short; is_text = a.is; head = checked.0; free = checked.1; first = settled (verdict.Invalid run number) found }) lines

  -- or none
  pub ends-valid : (published unpublished : ℕ) (all : List ℕ) → length text ≤ most_given
      → s.found ≡ Some (verdict.Valid published unpublished)
      → all ≡ s.lines.items ++ closing_line published unpublished
      → EndsPage books n text all (Valid published unpublished)
  ends-valid published unpublished all short found put = record {
    valid = record { publication = a.publication; short = short; is_text = a.is; valid = settled (verdict.Valid published unpublished) found };
    front = s.lines.items;
    lines = lines;
    text_is = put;
  }

  -- on any shelf
  pub states-valid : (published unpublished : ℕ) (all : List ℕ) → s.found ≡ Some (verdict.Valid published unpublished)
      → all ≡ s.lines.items ++ closing_line published unpublished
      → LinesReport books n all (Valid published unpublished)
  states-valid published unpublished all found put = record {
    publication = a.publication;
    valid = settled (verdict.Valid published unpublished) found;
    front = s.lines.items;
    lines = lines;
    text_is = put;
  }
