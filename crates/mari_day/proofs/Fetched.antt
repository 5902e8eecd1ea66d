-- Fetching one file after the other.
use Rattle.std.proofs.Common.{◌≡◌, ◌∙◌, inl, inr, ℕ, zero, suc, ◌+◌, ◌<◌, ◌≤◌, sym, ap, add-one, List, [], ◌∷◌, ◌++◌, Some, None, length, map, take, drop, slice_index_or, arith, refl, subst}
use Rattle.mari_io.specs.Outside.{Pages, counted, counted_by}
use Rattle.mari_day.specs.declared.files.File.{File}
use Rattle.mari_day.specs.declared.files.File.TheVariants.{Day}
use Rattle.mari_day.specs.declared.pages.PagesFault.{PagesFault}
use Rattle.mari_day.specs.declared.pages.PagesFault.TheVariants.{Fetch as OfFetch, Memory as NoMemory}
use Rattle.mari_day.specs.Fetching.{FetchedOne, FetchedUpTo, IsFaultOfFile, SomeFetched}
use Rattle.mari_day.specs.Files.{files, place_of, page_in, gap_of, first_gap, ArePages}

-- the file at a place has that place
place_is : (n : ℕ) → n < 7 → place_of (slice_index_or files n Day) ≡ n
place_is zero l = refl
place_is (suc zero) l = refl
place_is (suc (suc zero)) l = refl
place_is (suc (suc (suc zero))) l = refl
place_is (suc (suc (suc (suc zero)))) l = refl
place_is (suc (suc (suc (suc (suc zero))))) l = refl
place_is (suc (suc (suc (suc (suc (suc zero)))))) l = refl
place_is (suc (suc (suc (suc (suc (suc (suc n))))))) l = absurd (omega (arith, l))

-- one fetch more
pub one_more : (n before mid now : ℕ) → mid ≡ counted_by n before → now ≡ counted mid → now ≡ counted_by (n + 1) before
one_more n before mid now e f = rw add-one (f ∙ ap counted e)

-- the fetch of the file at this place gave no page
pub at_fault : (n before mid now : ℕ) (fault : PagesFault) → mid ≡ counted_by n before → n < 7
    → FetchedOne mid now fault → IsFaultOfFile (slice_index_or files n Day) fault → FetchedUpTo 7 before now fault
at_fault n before mid now NoMemory e l (inl same) is = record { count = n; within = omega (arith, l); fetched = same ∙ e }
at_fault n before mid now NoMemory e l (inr one) is = record { count = n + 1; within = omega (arith, l); fetched = one_more n before mid now e one }
at_fault n before mid now (OfFetch file why) e l one is =
    let placed : place_of file ≡ n = ap place_of is ∙ place_is n l in
    one_more n before mid now e one ∙ ap (λ (k : ℕ). counted_by (k + 1) before) (sym placed)

pub some_fetched : (n before now : ℕ) → now ≡ counted_by n before → n ≤ 7 → SomeFetched 7 before now
some_fetched n before now e l = record { count = n; within = l; fetched = e }

module _ (pages : Pages) (folder : List ℕ) where
  -- a page without a gap leaves the first gap to the files after it
  pub gap_after : (fs : List File) (i : ℕ) (d : File) → i < length fs → gap_of (page_in pages folder (slice_index_or fs i d)) ≡ None
      → first_gap pages folder (drop i fs) ≡ first_gap pages folder (drop (suc i) fs)
  gap_after [] i d l e = absurd (omega arith)
  gap_after (f ∷ fs) zero d l e = rw e refl
  gap_after (f ∷ fs) (suc i) d l e = gap_after fs i d (omega arith) e

  -- one page more is held
  pub held_more : (fs : List File) (texts : List (List ℕ)) (text : List ℕ) (i : ℕ) (d : File) → i < length fs → map (page_in pages folder) (take i fs) ≡ map Some texts
      → page_in pages folder (slice_index_or fs i d) ≡ Some text → map (page_in pages folder) (take (suc i) fs) ≡ map Some (texts ++ text ∷ [])
  held_more [] texts text i d l h e = absurd (omega arith)
  held_more (f ∷ fs) [] text zero d l h e = rw e refl
  held_more (f ∷ fs) (t ∷ ts) text zero d l h e = absurd (cc)
  held_more (f ∷ fs) [] text (suc i) d l h e = absurd (cc)
  held_more (f ∷ fs) (t ∷ ts) text (suc i) d l h e =
      let first : page_in pages folder f ≡ Some t = cc in
      let rest : map (page_in pages folder) (take i fs) ≡ map Some ts = cc in
      let more = held_more fs ts text i d (omega arith) rest e in
      rw (first, more) refl

  -- all files were fetched
  pub whole : (texts : List (List ℕ)) (i : ℕ) → i ≡ 7 → map (page_in pages folder) (take i files) ≡ map Some texts
      → first_gap pages folder files ≡ first_gap pages folder (drop i files) → ArePages pages folder files texts
  whole texts i e h g =
      let P : ℕ → Type 0 = λ n. map (page_in pages folder) (take n files) ≡ map Some texts in
      let Q : ℕ → Type 0 = λ n. first_gap pages folder files ≡ first_gap pages folder (drop n files) in
      record { held = subst P e h; no_gap = subst Q e g }
