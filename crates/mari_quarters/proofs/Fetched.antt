-- How many fetches clearing the quarters of a folder takes, by how many each stage takes.
use Rattle.std.proofs.Common.{◌≡◌, ◌∙◌, inl, inr, ℕ, ◌+◌, List, Result, Ok, Err, arith, refl}
use Rattle.mari_io.specs.Outside.{counted, counted_by}
use Rattle.mari_io.specs.declared.shelf.Fetch.{Fetch}
use Rattle.mari_remain.specs.declared.books.Books.{Books}
use Rattle.mari_day.specs.Reading.{FetchesBooks, IsFetchFault, NamesAFile}
use Rattle.mari_day.specs.Refusals.{RefusesByCheck}
use Rattle.mari_day.specs.declared.reading.BooksFault.{BooksFault}
use Rattle.mari_day.specs.declared.reading.BooksFault.TheVariants as why
use Rattle.mari_day.proofs.Fetched.{one_more}
use Rattle.mari_blocks.specs.declared.clearing.JointText.{JointText}
use Rattle.mari_quarters.specs.Quarters.{FetchesText, RefusesAfterFiles}
use Rattle.mari_quarters.specs.Stages.{FetchesOne, IsOfBlocks}

-- the market files gave no books
pub files-fetched : (count before now : ℕ) (fault : BooksFault) → NamesAFile {T = Books} (Err fault) → RefusesByCheck {T = Books} (Err fault) → FetchesBooks count before now (Err fault)
    → FetchesText count before now (Err fault)
files-fetched count before now (why.Fetch number f) named check e = inl (named, e)
files-fetched count before now (why.Refused refusal) named check e = inl (check, e)
files-fetched count before now why.Memory named check some = record { count = some.count; within = omega (arith, some.within); fetched = some.fetched }

-- the page of blocks.csv can't be had
pub page-fetched : (count before mid now : ℕ) (fault : BooksFault) → mid ≡ counted_by count before → FetchesOne {T = List ℕ} mid now (Err fault) → IsOfBlocks {T = List ℕ} (Err fault)
    → FetchesText count before now (Err fault)
page-fetched count before mid now (why.Fetch number f) e one is = inr (is, one_more count before mid now e one)
page-fetched count before mid now (why.Refused refusal) e one is = absurd one
page-fetched count before mid now why.Memory e (inl same) is = record { count = count; within = omega arith; fetched = same ∙ e }
page-fetched count before mid now why.Memory e (inr one) is = record { count = count + 1; within = omega arith; fetched = one_more count before mid now e one }

-- all pages were had
pub text-fetched : (count before mid now : ℕ) (result : Result JointText BooksFault) → mid ≡ counted_by count before → now ≡ counted mid → ((f : Fetch) → IsFetchFault f result → ⊥)
    → RefusesAfterFiles result
    → FetchesText count before now result
text-fetched count before mid now (Ok printed) e one unasked late = one_more count before mid now e one
text-fetched count before mid now (Err (why.Fetch number f)) e one unasked late = absurd (unasked f refl)
text-fetched count before mid now (Err (why.Refused refusal)) e one unasked late = inr (late, one_more count before mid now e one)
text-fetched count before mid now (Err why.Memory) e one unasked late = record { count = count + 1; within = omega arith; fetched = one_more count before mid now e one }
