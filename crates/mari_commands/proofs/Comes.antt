-- What the words and the pages decide is what the outcome is, unless a fetch failed or there was no memory.
use Rattle.std.proofs.Common.{◌≡◌, ◌∙◌, ◌⊎◌, inl, inr, ℕ, List, Option, Some, None, ap, arith, refl, subst, sym}
use Rattle.std.specs.Prelude.{◌≢◌, ◌≤◌, length, ⊤}
use Rattle.mari_units.specs.declared.faults.Refusal.{Refusal}
use Rattle.mari_io.specs.declared.shelf.Fetch.TheVariants as fetch
use Rattle.mari_io.specs.Outside.{Pages, page_of, most_given}
use Rattle.mari_publish.specs.declared.fault.TextFault.{TextFault}
use Rattle.mari_publish.specs.declared.publication.Publication.{Publication}
use Rattle.mari_publish.specs.Faults.{IsText}
use Rattle.mari_remain.specs.declared.books.Books.{Books}
use Rattle.mari_day.specs.Files.{Gap}
use Rattle.mari_day.specs.Files.Gap.{NotHeld, OverLimit}
use Rattle.mari_day.specs.Reading.{HasBooks, HasGap, HasRefusal}
use Rattle.mari_day.proofs.Facts.{agree}
use Rattle.mari_day.proofs.Facts.Fact.{Gives, Refuses, Lacks}
use Rattle.mari_publish.specs.Paged.{IsReportedFault, IsTooLong}
use Rattle.mari_publish.proofs.Paging.{long-none, no-fault-of-text, one-fault, reported-first}
use Rattle.mari_words.specs.Asked.{Asked}
use Rattle.mari_capacity.specs.declared.ending.ValueEnd.TheVariants as values
use Rattle.mari_words.specs.Asked.Asked.{Check, Migrate, Feed, Value}
use Rattle.mari_words.specs.declared.command.FilePart.{FilePart}
use Rattle.mari_commands.specs.declared.outcome.Way.{Way}
use Rattle.mari_commands.specs.declared.outcome.Outcome.{Outcome}
use Rattle.mari_commands.specs.declared.outcome.Outcome.TheVariants.{Text, Invalid, NoPage, Refused, Memory as NoMemory}
use Rattle.mari_commands.specs.Commands.{EndsValues, IsMigratable, IsReadable, LacksPage, RefusesFiles, RefusesText, already_two, fetch_of, folder_of}
use Rattle.mari_answers.specs.Reports.{publication_path}
use Rattle.mari_answers.specs.Texts.{text_refusal}
use Rattle.mari_commands.specs.Commands.LacksPage.{OfBooks as lacks-book, NoPublication as lacks-publication, LongPublication as lacks-long, NoFeed as lacks-feed, LongFeed as lacks-long-feed, OfValues as lacks-values}
use Rattle.mari_commands.specs.Commands.RefusesFiles.{OfBooks as refuses-books, OfVersion as refuses-version}
use Rattle.mari_commands.specs.Outcome.{CheckStates, ComesOfBooks, IsDayOf, IsMigrated, IsReportedValues, Says, SaysOfFolder}
use Rattle.mari_commands.specs.Outcome.SaysOfFolder.{OfRefusal, OfGap, OfBooks, Fails, Starves}
use Rattle.mari_commands.specs.Splits.{command_by}
use Rattle.mari_commands.proofs.Folder.{by-way, folder_by, of-folder, reads}

-- a fetch failed, or there was no memory
abbrev pub IsExcused : Outcome → Type 0
IsExcused (NoPage k fetch.Failed) = ⊤
IsExcused (NoPage k fetch.Memory) = ⊤
IsExcused NoMemory = ⊤
IsExcused _ = ⊥

-- the outcome is as wanted, or is excused
abbrev pub Comes : (Outcome → Type 0) → Outcome → Type 0
Comes IsWanted o = IsWanted o ⊎ IsExcused o

failed : (Q : Outcome → Type 0) (o : Outcome) (k : ℕ) → o ≡ NoPage k fetch.Failed → Comes Q o
failed Q o k e = inr (subst IsExcused (sym e) tt)

starving : (Q : Outcome → Type 0) (o : Outcome) → o ≡ NoMemory → Comes Q o
starving Q o e = inr (subst IsExcused (sym e) tt)

-- a text, or a fault of a publication
abbrev pub IsAText : Outcome → Type 0
IsAText (Text t) = ⊤
IsAText _ = ⊥

abbrev pub IsAVerdict : Outcome → Type 0
IsAVerdict (Text t) = ⊤
IsAVerdict (Invalid run number) = ⊤
IsAVerdict _ = ⊥

abbrev pub IsRefusal : Refusal → Outcome → Type 0
IsRefusal refusal o = o ≡ Refused refusal

abbrev pub IsGapOf : Gap → Outcome → Type 0
IsGapOf gap o = (k : ℕ) × (o ≡ NoPage k (fetch_of gap))

-- why a publication that is printed as a feed can't be had
abbrev pub IsFeedGap : Option (List ℕ) → Gap → Type 0
IsFeedGap None NotHeld = ⊤
IsFeedGap None OverLimit = ⊥
IsFeedGap (Some page) NotHeld = ⊥
IsFeedGap (Some page) OverLimit = IsTooLong page

module _ (asked : Option Asked) (pages : Pages) where
  of-books : (o : Outcome) (refusal : Refusal) (folder : List ℕ) → HasRefusal pages folder refusal → SaysOfFolder asked pages folder o → Comes (IsRefusal refusal) o
  of-books o refusal folder h (OfRefusal other k e) = inl (e ∙ ap (λ x. Refused x) (agree pages folder (Refuses other) (Refuses refusal) k h))
  of-books o refusal folder h (OfGap n gap k e) = absurd (agree pages folder (Lacks n gap) (Refuses refusal) k h)
  of-books o refusal folder h (OfBooks books k is) = absurd (agree pages folder (Gives books) (Refuses refusal) k h)
  of-books o refusal folder h (Fails n e) = failed (IsRefusal refusal) o n e
  of-books o refusal folder h (Starves e) = starving (IsRefusal refusal) o e

  gap-of-books : (o : Outcome) (folder : List ℕ) (number : ℕ) (gap : Gap) → HasGap pages folder number gap → SaysOfFolder asked pages folder o → Comes (IsGapOf gap) o
  gap-of-books o folder number gap h k = grind arith

  -- where a folder has books, that comes which the command says of them
  pub books-come : (o : Outcome) (x : Asked) (folder : List ℕ) (books : Books) → asked ≡ Some x → folder_of x ≡ Some folder
      → HasBooks pages folder books → Says asked pages o
      → Comes (ComesOfBooks (Some x) pages folder books) o
  books-come o x folder books e f h s = by (of-folder asked pages o folder (reads asked x folder e f) s)
    where
      by : SaysOfFolder asked pages folder o → Comes (ComesOfBooks (Some x) pages folder books) o
      by (OfRefusal other k d) = absurd (agree pages folder (Refuses other) (Gives books) k h)
      by (OfGap n gap k d) = absurd (agree pages folder (Lacks n gap) (Gives books) k h)
      by (OfBooks other k is) =
          let P : Option Asked → Type 0 = λ a. ComesOfBooks a pages folder books o in
          let Q : Books → Type 0 = λ b. ComesOfBooks asked pages folder b o in
          inl (subst P e (subst Q (agree pages folder (Gives other) (Gives books) k h) is))
      by (Fails n d) = failed (ComesOfBooks (Some x) pages folder books) o n d
      by (Starves d) = starving (ComesOfBooks (Some x) pages folder books) o d

  migrated-again : (o : Outcome) (refusal : Refusal) (part : FilePart) (books : Books) → IsMigrated books part o → books.limits ≢ None → refusal ≡ already_two → Comes (IsRefusal refusal) o
  migrated-again o refusal part books is again e = grind arith

  pub refusal-comes : (o : Outcome) (refusal : Refusal) → Says asked pages o → RefusesFiles asked pages refusal → Comes (IsRefusal refusal) o
  refusal-comes o refusal s (refuses-books folder r h) = of-books o refusal folder h (of-folder asked pages o folder r s)
  refusal-comes o refusal s (refuses-version folder part books m h again same) = elim (books-come o (Migrate folder part) folder books m refl h s)
      [ inl is ↦ migrated-again o refusal part books is again same | inr e ↦ inr e ]

  -- what comes of the publication of a folder that is checked, which has these books
  checked-comes : (o : Outcome) (folder : List ℕ) (books : Books) → Says asked pages o → asked ≡ Some (Check folder) → HasBooks pages folder books
      → Comes (CheckStates books (page_of pages (publication_path folder))) o
  checked-comes o folder books s c h = books-come o (Check folder) folder books c refl h s

  -- the fault that is reported of its text
  text-refused : (o : Outcome) (books : Books) (page : List ℕ) (f : TextFault) → CheckStates books (Some page) o → IsReportedFault page f → Comes (IsRefusal (text_refusal f)) o
  text-refused (Text t) books page f (m, u, (short, (p, read, valid)), spelled) bad = absurd (no-fault-of-text page p f read (reported-first page f bad))
  text-refused (Invalid run n) books page f (short, (p, read, more)) bad = absurd (no-fault-of-text page p f read (reported-first page f bad))
  text-refused (NoPage n fetch.Failed) books page f states bad = inr tt
  text-refused (NoPage n fetch.Missing) books page f (none, number) bad = absurd none
  text-refused (NoPage n fetch.TooLong) books page f (long, number) bad = absurd (long-none page f long bad)
  text-refused (NoPage n fetch.Memory) books page f states bad = inr tt
  text-refused (Refused refusal) books page f (g, other, is) bad = inl (ap (λ x. Refused x) (is ∙ ap text_refusal (one-fault page g f (reported-first page g other) (reported-first page f bad))))
  text-refused NoMemory books page f states bad = inr tt
  text-refused _ books page f states bad = absurd states

  pub text-comes : (o : Outcome) (page : List ℕ) (f : TextFault) → Says asked pages o → RefusesText asked pages page f → Comes (IsRefusal (text_refusal f)) o
  text-comes o page f s r = elim (checked-comes o r.checked.folder r.books s r.checked.check r.checked.gives)
      [ inl states ↦ (let P : Option (List ℕ) → Type 0 = λ x. CheckStates r.books x o in text-refused o r.books page f (subst P r.checked.held states) r.reported) | inr e ↦ inr e ]

  not-held : (o : Outcome) (books : Books) → CheckStates books None o → Comes (IsGapOf NotHeld) o
  not-held o books states = grind arith

  too-long : (o : Outcome) (books : Books) (page : List ℕ) → CheckStates books (Some page) o → IsTooLong page → Comes (IsGapOf OverLimit) o
  too-long (Text t) books page (m, u, (short, (p, read, valid)), spelled) long = absurd (omega (arith, long.longer, short))
  too-long (Invalid run n) books page (short, (p, read, more)) long = absurd (omega (arith, long.longer, short))
  too-long (NoPage n fetch.Failed) books page states long = inr tt
  too-long (NoPage n fetch.Missing) books page (none, number) long = absurd none
  too-long (NoPage n fetch.TooLong) books page states long = inl (n, refl)
  too-long (NoPage n fetch.Memory) books page states long = inr tt
  too-long (Refused refusal) books page (f, bad, is) long = absurd (long-none page f long bad)
  too-long NoMemory books page states long = inr tt
  too-long _ books page states long = absurd states

  -- that isn't the publication that is printed as a feed or valued
  abbrev IsOfFiles : ℕ → Gap → Outcome → Type 0
  IsOfFiles number gap o =
      Comes (IsGapOf gap) o
      ⊎ (((folder : List ℕ) × (asked ≡ Some (Feed folder)) × IsFeedGap (page_of pages (publication_path folder)) gap) ⊎ EndsValues asked pages (values.Fetch (fetch_of gap)))

  pub gap-comes : (o : Outcome) (number : ℕ) (gap : Gap) → Says asked pages o → LacksPage asked pages number gap → IsOfFiles number gap o
  gap-comes o number gap s (lacks-book folder r h) = inl (gap-of-books o folder number gap h (of-folder asked pages o folder r s))
  gap-comes o number gap s (lacks-publication folder books c h none n is) = inl (elim (checked-comes o folder books s c h) [
    | inl states ↦ (
        let P : Option (List ℕ) → Type 0 = λ x. CheckStates books x o in
        let Q : Gap → Type 0 = λ x. Comes (IsGapOf x) o in
        subst Q (sym is) (not-held o books (subst P none states)))
    | inr e ↦ inr e
  ])
  gap-comes o number gap s (lacks-long books page has long n is) = inl (elim (checked-comes o has.folder books s has.check has.gives) [
    | inl states ↦ (
        let P : Option (List ℕ) → Type 0 = λ x. CheckStates books x o in
        let Q : Gap → Type 0 = λ x. Comes (IsGapOf x) o in
        subst Q (sym is) (too-long o books page (subst P has.held states) long))
    | inr e ↦ inr e
  ])
  gap-comes o number gap s (lacks-feed folder feed none n is) =
      let P : Option (List ℕ) → Type 0 = λ x. IsFeedGap x NotHeld in
      let Q : Gap → Type 0 = λ x. IsFeedGap (page_of pages (publication_path folder)) x in
      inr (inl (folder, feed, subst Q (sym is) (subst P (sym none) tt)))
  gap-comes o number gap s (lacks-long-feed page has long n is) = grind arith
  gap-comes o number gap s (lacks-values ends n) = inr (inr ends)

  -- a publication that is valued
  pub values-come : (o : Outcome) (folder : List ℕ) (more : ℕ) (books : Books) → Says asked pages o
      → asked ≡ Some (Value folder more) → HasBooks pages folder books
      → Comes (IsReportedValues books more (page_of pages (publication_path folder))) o
  values-come o folder more books s c h = books-come o (Value folder more) folder books c refl h s

  -- a publication that is read
  verdict-of : (o : Outcome) (books : Books) (page : List ℕ) (p : Publication) → CheckStates books (Some page) o → IsText page p → length page ≤ most_given → Comes IsAVerdict o
  verdict-of o books page p states is short = grind (arith, no-fault-of-text, reported-first)

  pub verdict-comes : (o : Outcome) → Says asked pages o → IsReadable asked pages → Comes IsAVerdict o
  verdict-comes o s r = elim (checked-comes o r.checked.folder r.books s r.checked.check r.checked.gives)
      [ inl states ↦ (let P : Option (List ℕ) → Type 0 = λ x. CheckStates r.books x o in verdict-of o r.books r.page r.publication (subst P r.checked.held states) r.read r.short) | inr e ↦ inr e ]

  -- a file that is migrated
  migrated-once : (o : Outcome) (part : FilePart) (books : Books) → IsMigrated books part o → books.limits ≡ None → Comes IsAText o
  migrated-once o part books is first = grind arith

  pub migrated-comes : (o : Outcome) → Says asked pages o → IsMigratable asked pages → Comes IsAText o
  migrated-comes o s m = elim (books-come o (Migrate m.folder m.part) m.folder m.books m.migrate refl m.gives s)
      [ inl is ↦ migrated-once o m.part m.books is m.first | inr e ↦ inr e ]

  pub day-comes : (o : Outcome) (way : Way) (folder : List ℕ) (nodes workers : ℕ) (books : Books) → Says asked pages o
      → asked ≡ Some (command_by way folder nodes workers) → HasBooks pages folder books
      → Comes (IsDayOf way books nodes workers) o
  day-comes o way folder nodes workers books s c h = elim (books-come o (command_by way folder nodes workers) folder books c (folder_by way folder nodes workers) h s)
      [ inl is ↦ inl (by-way way pages folder books nodes workers o is) | inr e ↦ inr e ]
