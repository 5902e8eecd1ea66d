-- The files of a folder by its version, and fetching limits.csv after the seven.
use Rattle.std.proofs.Common.{◌≡◌, ◌∙◌, ◌⊎◌, inl, inr, ℕ, ◌+◌, ◌≤◌, ◌==◌, Bool, true, false, sym, ap, List, [], ◌∷◌, ◌++◌, Option, Some, None, length, map, arith, refl, length-append, if◌then◌else◌}
use Rattle.mari_io.specs.Outside.{Pages, counted, counted_by}
use Rattle.mari_zones.specs.Borders.{version_in}
use Rattle.mari_day.specs.declared.files.File.{File}
use Rattle.mari_day.specs.declared.files.File.TheVariants.{Borders, Limits}
use Rattle.mari_io.specs.declared.shelf.Fetch.TheVariants as fetch
use Rattle.mari_day.specs.declared.pages.PagesFault.{PagesFault}
use Rattle.mari_day.specs.declared.pages.PagesFault.TheVariants.{Fetch as OfFetch, Memory as NoMemory}
use Rattle.std.specs.Prelude.{IfErr, IfOk, Result, Ok, Err}
use Rattle.mari_day.specs.Fetching.{FetchedOne, FetchedUpTo, FetchesFolder, FetchingStates, HasFiles, IsFaultOfFile, SomeFetched}
use Rattle.mari_day.specs.Files.{files, files_in, files_of, first_gap, gap_of, gap_or, page_in, page_among, place_of, version_by, ArePages, FileGap, Gap}
use Rattle.mari_day.proofs.Fetched.{one_more}

-- a folder of any version has seven files or eight
count-of : (version : ℕ) → (length (files_of version) ≡ 7) ⊎ (length (files_of version) ≡ 8)
count-of version = by (version == 2) refl
  where
    by : (b : Bool) → (version == 2) ≡ b → (length (files_of version) ≡ 7) ⊎ (length (files_of version) ≡ 8)
    by true e = inr (rw e refl)
    by false e = inl (rw e refl)

-- the number of files that a folder has, at least 7, whether its pages are reported or not
pub files-there : (pages : Option Pages) (folder : List ℕ) → (count : ℕ) × HasFiles pages folder count × (7 ≤ count)
files-there None folder = (7, record { seven_or_eight = inl refl; reported = λ reported e. cc e }, omega arith)
files-there (Some reported) folder =
    let count = length (files_in reported folder) in
    let either = count-of (version_by (page_in reported folder Borders)) in (
      count,
      record { seven_or_eight = either; reported = λ t e. let same : reported ≡ t = cc e in rw same refl },
      by either,
    )
  where
    by : (length (files_in reported folder) ≡ 7) ⊎ (length (files_in reported folder) ≡ 8) → 7 ≤ length (files_in reported folder)
    by (inl e) = omega (arith, e)
    by (inr e) = omega (arith, e)

-- up to a fault among the first seven files no more were fetched than the folder has
pub up-to : (count before now : ℕ) (fault : PagesFault) → 7 ≤ count → FetchedUpTo 7 before now fault → FetchedUpTo count before now fault
up-to count before now NoMemory l some = record { count = some.count; within = omega (arith, l, some.within); fetched = some.fetched }
up-to count before now (OfFetch file why) l fetched = fetched

-- the fetch of limits.csv gave no page
pub at_limits : (before mid now : ℕ) (fault : PagesFault) → mid ≡ counted_by 7 before → FetchedOne mid now fault → IsFaultOfFile Limits fault → FetchedUpTo 8 before now fault
at_limits before mid now NoMemory e (inl same) is = record { count = 7; within = omega arith; fetched = same ∙ e }
at_limits before mid now NoMemory e (inr one) is = record { count = 8; within = omega arith; fetched = one_more 7 before mid now e one }
at_limits before mid now (OfFetch file why) e one is =
    let placed : place_of file ≡ 7 = ap place_of is in
    one_more 7 before mid now e one ∙ ap (λ (k : ℕ). counted_by (k + 1) before) (sym placed)

module _ (pages : Pages) (folder : List ℕ) where
  here : (file : File) (gap : Option Gap) (later more : Option FileGap) (first : FileGap) → (later ≡ Some first → more ≡ Some first)
      → gap_or file gap later ≡ Some first → gap_or file gap more ≡ Some first
  here file None later more first step e = step e
  here file (Some gap) later more first step e = e

  -- the first gap of some files is that of more
  first-here : (fs gs : List File) (first : FileGap) → first_gap pages folder fs ≡ Some first → first_gap pages folder (fs ++ gs) ≡ Some first
  first-here [] gs first e = cc e
  first-here (f ∷ fs) gs first e =
      here f (gap_of (page_in pages folder f)) (first_gap pages folder fs) (first_gap pages folder (fs ++ gs)) first (first-here fs gs first) e

  -- a gap among the seven is the first of all
  among-seven : (version : ℕ) (first : FileGap) → first_gap pages folder files ≡ Some first → first_gap pages folder (files_of version) ≡ Some first
  among-seven version first e = elim (version == 2) as (λ b. first_gap pages folder (if b then files ++ Limits ∷ [] else files) ≡ Some first) [
    | true ↦ first-here files (Limits ∷ []) first e
    | false ↦ e
  ]

  pub seven-lack : (fault : PagesFault) → FetchingStates pages folder files (Err fault) → FetchingStates pages folder (files_in pages folder) (Err fault)
  seven-lack NoMemory states = tt
  seven-lack (OfFetch file fetch.Failed) states = tt
  seven-lack (OfFetch file fetch.Missing) states = among-seven (version_by (page_in pages folder Borders)) _ states
  seven-lack (OfFetch file fetch.TooLong) states = among-seven (version_by (page_in pages folder Borders)) _ states
  seven-lack (OfFetch file fetch.Memory) states = tt

  module _ (seven : List (List ℕ)) (many : length seven ≡ 7) (are : ArePages pages folder files seven) where
    version-there : (texts : List (List ℕ)) → length texts ≡ 7 → map (page_in pages folder) files ≡ map Some texts
        → version_by (page_in pages folder Borders) ≡ version_in (page_among texts Borders)
    version-there [] l held = cc l
    version-there (a ∷ []) l held = cc l
    version-there (a ∷ b ∷ []) l held = cc l
    version-there (a ∷ b ∷ c ∷ more) l held =
        let there : page_in pages folder Borders ≡ Some c = cc held in
        rw there refl

    -- the files of the folder, by the version of the page that was fetched
    pub files-are : files_in pages folder ≡ files_of (version_in (page_among seven Borders))
    files-are = ap files_of (version-there seven many are.held)

module _ (pages : Option Pages) (folder : List ℕ) (seven : List (List ℕ)) (many : length seven ≡ 7)
    (are : (reported : Pages) → pages ≡ Some reported → ArePages reported folder files seven) where
  -- how many files the folder of these pages has
  pub has-eight : (version_in (page_among seven Borders) == 2) ≡ true → HasFiles pages folder 8
  has-eight e = record { seven_or_eight = inr refl; reported = λ reported is. rw (files-are reported folder seven many (are reported is), e) refl }

  module _ (e : (version_in (page_among seven Borders) == 2) ≡ true) (before mid now : ℕ) (limits : List ℕ) where
    -- all eight were fetched, and there may be no memory to keep the eighth
    pub all-eight : (result : Result (List (List ℕ)) PagesFault) → mid ≡ counted_by 7 before → now ≡ counted mid
        → IfOk result (λ folder. folder ≡ seven ++ limits ∷ []) → IfErr result (λ fault. fault ≡ NoMemory) → FetchesFolder pages folder before now result
    all-eight (Ok texts) first one is memory =
        let eight : length texts ≡ 8 = rw (is, length-append seven (limits ∷ []), many) refl in
        record { count = 8; files = has-eight e; fetched = (eight, one_more 7 before mid now first one) }
    all-eight (Err fault) first one is memory =
        let some : SomeFetched 8 before now = record { count = 8; within = omega arith; fetched = one_more 7 before mid now first one } in
        rw memory (record { count = 8; files = has-eight e; fetched = some })
