-- A page has one end, and the valuing of it ends so.
use Rattle.std.proofs.Common.{◌≡◌, ◌∙◌, ℕ, List, take, Option, Some, None, Result, Ok, Err, ◌⊎◌, inl, inr, refl, sym, ap, subst, arith}
use Rattle.std.specs.Prelude.{IfOk}
use Rattle.mari_io.specs.Outside.{most_given}
use Rattle.mari_io.specs.declared.shelf.Fetch.TheVariants as fetch
use Rattle.mari_publish.specs.declared.fault.TextFault.{TextFault}
use Rattle.mari_publish.specs.declared.publication.Publication.{Publication}
use Rattle.mari_publish.specs.Faults.{IsText}
use Rattle.mari_publish.specs.Paged.{IsReportedFault}
use Rattle.mari_publish.proofs.Outcomes.{one_text}
use Rattle.mari_publish.proofs.Paging.{long-none, no-fault-of-text, one-fault, reported-first}
use Rattle.mari_remain.specs.declared.books.Books.{Books}
use Rattle.mari_check.specs.declared.verdict.Verdict.TheVariants as verdict
use Rattle.mari_check.specs.Day.{IsFirstFault}
use Rattle.mari_check.specs.Verdicts.{IsVerdict}
use Rattle.mari_capacity.specs.declared.ending.ValueEnd.{ValueEnd}
use Rattle.mari_capacity.specs.declared.ending.ValueEnd.TheVariants.{Valid, Invalid, Text as OfText, Fetch as OfFetch}
use Rattle.mari_capacity.specs.declared.ending.Valued.{Valued}
use Rattle.mari_capacity.specs.Ends.{HasEndFault, HasPartFault, IsEndOf, IsValidPage}
use Rattle.mari_capacity.specs.Streams.{EndsAs, EndsPage, EndsUnheld, ValueStates}
use Rattle.mari_capacity.specs.Streams.EndsInvalid.{AtPart, AtEnd}
use Rattle.mari_capacity.proofs.FirstFaults.{given-fault, no-first-fault, one-end-fault, one-part-fault, parts-clean, text-clean}

-- ---- how it ended is how the page ends

pub is-end : (books : Books) (n : ℕ) (page text : List ℕ) (end : ValueEnd) → EndsPage books n page text end → IsEndOf books (Some page) end ⊎ (end ≡ OfFetch fetch.Failed)
is-end books n page text (Valid published unpublished) e = inl e.valid
is-end books n page text (Invalid run number) (AtPart parts x there fault states) = inl (inl (record { parts = parts; part = x; there = there; checked = states.checked; fault = fault }))
is-end books n page text (Invalid run number) (AtEnd f lines) = inl (inr f)
is-end books n page text (OfText f) e = inl (e.reported, parts-clean books page e.parts e.states.holds e.no_more e.states.states.checked)
is-end books n page text (OfFetch fetch.Failed) e = inr refl
is-end books n page text (OfFetch fetch.TooLong) e = inl (e.too_long, parts-clean books (take most_given page) e.parts e.states.holds e.no_more e.states.states.checked)
is-end books n page text _ e = absurd e

pub is-end-of : (books : Books) (n : ℕ) (page : Option (List ℕ)) (text : List ℕ) (end : ValueEnd) → ValueStates books n page text end → IsEndOf books page end ⊎ (end ≡ OfFetch fetch.Failed)
is-end-of books n (Some page) text end e = is-end books n page text end e
is-end-of books n None text (OfFetch fetch.Failed) e = inr refl
is-end-of books n None text (OfFetch fetch.Missing) e = inl tt
is-end-of books n None text _ e = absurd e

-- ---- a page has one end

same-valid : (a b c d : ℕ) → a ≡ c → b ≡ d → Valid a b ≡ Valid c d
same-valid a b c d e f = cc

same-invalid : (a b c d : ℕ) → (a ≡ c) × (b ≡ d) → Invalid a b ≡ Invalid c d
same-invalid a b c d (e, f) = cc

text-faultless : (page : List ℕ) (p : Publication) (f : TextFault) → IsText page p → IsReportedFault page f → ⊥
text-faultless page p f t h = no-fault-of-text page p f t (reported-first page f h)

module _ (books : Books) (page : List ℕ) where
  valid-invalid : (published unpublished run number : ℕ) → IsValidPage books page published unpublished → HasPartFault books (take most_given page) run number ⊎ HasEndFault books page run number → ⊥
  valid-invalid published unpublished run number v (inl f) = text-clean books page v.publication v.is_text v.valid.0.head v.valid.0.blocks run number (given-fault books page run number f)
  valid-invalid published unpublished run number v (inr f) =
      let first : IsFirstFault books v.publication run number = subst (λ (o : Publication). IsFirstFault books o run number) (one_text page f.publication v.publication f.is_text v.is_text) f.first in
      no-first-fault books v.publication v.valid.0 run number first

  both-invalid : (run number other least : ℕ)
      → HasPartFault books (take most_given page) run number ⊎ HasEndFault books page run number
      → HasPartFault books (take most_given page) other least ⊎ HasEndFault books page other least
      → (run ≡ other) × (number ≡ least)
  both-invalid run number other least (inl f) (inl g) = one-part-fault books (take most_given page) run number other least f g
  both-invalid run number other least (inr f) (inr g) = one-end-fault books page run number other least f g
  both-invalid run number other least (inl f) (inr g) = absurd (text-clean books page g.publication g.is_text g.head g.free run number (given-fault books page run number f))
  both-invalid run number other least (inr f) (inl g) = absurd (text-clean books page f.publication f.is_text f.head f.free other least (given-fault books page other least g))

  invalid-refused : (run number : ℕ) (f : TextFault) → HasPartFault books (take most_given page) run number ⊎ HasEndFault books page run number → IsEndOf books (Some page) (OfText f) → ⊥
  invalid-refused run number f (inl h) e = e.1 run number (given-fault books page run number h)
  invalid-refused run number f (inr h) e = text-faultless page h.publication f h.is_text e.0

  invalid-overlong : (run number : ℕ) → HasPartFault books (take most_given page) run number ⊎ HasEndFault books page run number → IsEndOf books (Some page) (OfFetch fetch.TooLong) → ⊥
  invalid-overlong run number (inl h) e = e.1 run number h
  invalid-overlong run number (inr h) e = omega (arith, h.short, e.0.longer)

  both-valid : (a b c d : ℕ) → IsValidPage books page a b → IsValidPage books page c d → Valid a b ≡ Valid c d
  both-valid a b c d v w =
      let own : IsVerdict books w.publication (verdict.Valid a b) =
      subst (λ (o : Publication). IsVerdict books o (verdict.Valid a b)) (one_text page v.publication w.publication v.is_text w.is_text) v.valid in
      same-valid a b c d (own.1 ∙ sym w.valid.1) (own.2 ∙ sym w.valid.2)

  pub one-end : (a b : ValueEnd) → IsEndOf books (Some page) a → IsEndOf books (Some page) b → a ≡ b
  one-end (Valid a b) (Valid c d) v w = both-valid a b c d v w
  one-end (Valid a b) (Invalid run number) v f = absurd (valid-invalid a b run number v f)
  one-end (Valid a b) (OfText f) v e = absurd (text-faultless page v.publication f v.is_text e.0)
  one-end (Valid a b) (OfFetch fetch.TooLong) v e = absurd (omega (arith, v.short, e.0.longer))
  one-end (Invalid run number) (Valid a b) f v = absurd (valid-invalid a b run number v f)
  one-end (Invalid run number) (Invalid other least) f g = same-invalid run number other least (both-invalid run number other least f g)
  one-end (Invalid run number) (OfText f) h e = absurd (invalid-refused run number f h e)
  one-end (Invalid run number) (OfFetch fetch.TooLong) h e = absurd (invalid-overlong run number h e)
  one-end (OfText f) (Valid a b) e v = absurd (text-faultless page v.publication f v.is_text e.0)
  one-end (OfText f) (Invalid run number) e h = absurd (invalid-refused run number f h e)
  one-end (OfText f) (OfText g) e h = ap (λ (t : TextFault). OfText t) (one-fault page f g (reported-first page f e.0) (reported-first page g h.0))
  one-end (OfText f) (OfFetch fetch.TooLong) h e = absurd (long-none page f e.0 h.0)
  one-end (OfFetch fetch.TooLong) (Valid a b) e v = absurd (omega (arith, v.short, e.0.longer))
  one-end (OfFetch fetch.TooLong) (Invalid run number) e h = absurd (invalid-overlong run number h e)
  one-end (OfFetch fetch.TooLong) (OfText f) e h = absurd (long-none page f e.0 h.0)
  one-end (OfFetch fetch.TooLong) (OfFetch fetch.TooLong) h e = refl
  one-end (OfFetch fetch.Failed) b e h = absurd e
  one-end (OfFetch fetch.Missing) b e h = absurd e
  one-end (OfFetch fetch.Memory) b e h = absurd e
  one-end _ _ e h = absurd h

-- ---- so it ends

ends-held : (books : Books) (n : ℕ) (page : List ℕ) (v : Valued) (end : ValueEnd) → EndsPage books n page v.text v.end → IsEndOf books (Some page) end → EndsAs end v
ends-held books n page v end states is = grind (arith, is-end, one-end)

ends-unheld : (books : Books) (text : List ℕ) (own end : ValueEnd) → EndsUnheld text own → IsEndOf books None end → (own ≡ end) ⊎ (own ≡ OfFetch fetch.Failed)
ends-unheld books text own end states is = grind arith

pub ends-exactly : {E : Type 0} (books : Books) (n : ℕ) (page : Option (List ℕ)) (r : Result Valued E) (end : ValueEnd)
    → IfOk r (λ v. ValueStates books n page v.text v.end) → IsEndOf books page end → IfOk r (EndsAs end)
ends-exactly books n None (Ok v) end states is = ends-unheld books v.text v.end end states is
ends-exactly books n (Some page) (Ok v) end states is = ends-held books n page v end states is
ends-exactly books n page (Err why) end states is = tt
