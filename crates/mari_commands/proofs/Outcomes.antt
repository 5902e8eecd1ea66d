-- What an outcome says of the words and of the pages, as the answers say it.
use Rattle.std.proofs.Common.{◌≡◌, ◌∙◌, ℕ, List, Option, Some, None, ap, refl, subst, sym, arith}
use Rattle.std.specs.Global.{Vec}
use Rattle.std.specs.Prelude.{◌≤◌, length, ⊤}
use Rattle.mari_units.specs.declared.faults.Refusal.{Refusal}
use Rattle.mari_io.specs.declared.shelf.Fetch.TheVariants as fetch
use Rattle.mari_io.specs.Outside.{Pages, page_of, most_given}
use Rattle.mari_publish.specs.declared.publication.Publication.{Publication}
use Rattle.mari_publish.specs.Faults.{IsText}
use Rattle.mari_publish.specs.Lines.{published_in}
use Rattle.mari_remain.specs.declared.books.Books.{Books}
use Rattle.mari_io.specs.Taken.{TookPart, then_took}
use Rattle.mari_day.specs.Files.{Gap}
use Rattle.mari_day.specs.Files.Gap.{NotHeld, OverLimit}
use Rattle.mari_day.specs.Reading.{HasBooks, HasGap}
use Rattle.mari_capacity.specs.declared.ending.ValueEnd.{ValueEnd}
use Rattle.mari_capacity.specs.declared.ending.Valued.{Valued}
use Rattle.mari_words.specs.Asked.{Asked}
use Rattle.mari_words.specs.Asked.Asked.{Check, Feed, Generate, Migrate, Value}
use Rattle.mari_commands.specs.declared.outcome.Job.{Job}
use Rattle.mari_commands.specs.declared.outcome.Way.{Way}
use Rattle.mari_commands.specs.declared.outcome.Outcome.{Outcome}
use Rattle.mari_commands.specs.declared.outcome.Outcome.TheVariants.{Day, Values, Text, Invalid, NoPage, Refused, Memory as NoMemory}
use Rattle.mari_commands.specs.Commands.{AsksForFeed, AsksForFiles, AsksForLines, AsksForValues, AsksToCheck, HasPublication, IsAlone, IsInvalid, IsReadable, IsRefused, LacksPage, Prints, ReadsFolder, StatesValues, fetch_of, folder_of}
use Rattle.mari_answers.specs.Reports.{publication_path}
use Rattle.mari_commands.specs.Commands.IsRefused.{OfFiles as refused-files, OfText as refused-text}
use Rattle.mari_commands.specs.Commands.RefusesFiles.{OfBooks as refuses-books, OfVersion as refuses-version}
use Rattle.mari_commands.specs.Commands.LacksPage.{OfBooks as lacks-book, NoPublication as lacks-publication, LongPublication as lacks-long}
use Rattle.mari_commands.specs.Commands.IsInvalid.{OfCheck as invalid-checked}
use Rattle.mari_commands.specs.Commands.Prints.{Valid as prints-valid, Migrated as prints-migrated, Generated as prints-generated}
use Rattle.mari_commands.specs.Outcome.{AsksForText, CheckStates, ComesOfBooks, Says, SaysOfFolder}
use Rattle.mari_commands.specs.Outcome.SaysOfFolder.{OfRefusal, OfGap, OfBooks, Fails, Starves}
use Rattle.mari_commands.specs.Printing.{usage_line}
use Rattle.mari_answers.specs.Lines.{valid_line}
use Rattle.mari_commands.specs.Program.{TookFirstPart, TookLine, TookSummary, TookVerdict}
use Rattle.mari_commands.specs.Program.TookAhead.{Nothing as nothing-ahead}
use Rattle.mari_commands.specs.Splits.{command_by}
use Rattle.mari_commands.proofs.Stating.{check-no-lines}
use Rattle.mari_commands.proofs.Folder.{by-way, folder_by, of-folder, one-folder, reads, reads_no_folder, reads_none}

module _ (asked : Option Asked) where
  -- what there is of the publication of a folder that is checked
  publication : (pages : Pages) (folder : List ℕ) (books : Books) (page : List ℕ) → asked ≡ Some (Check folder)
      → HasBooks pages folder books → page_of pages (publication_path folder) ≡ Some page
      → HasPublication asked pages books page
  publication pages folder books page c g h = record { folder = folder; check = c; gives = g; held = h }

  abbrev readable : (pages : Pages) (folder : List ℕ) (books : Books) (page : List ℕ) (p : Publication)
      → asked ≡ Some (Check folder) → HasBooks pages folder books
      → page_of pages (publication_path folder) ≡ Some page → length page ≤ most_given → IsText page p
      → IsReadable asked pages
  readable pages folder books page p c g h short read = record { books = books; page = page; publication = p; checked = publication pages folder books page c g h; short = short; read = read }

  -- a text that is printed where all is well
  checked-text : (pages : Pages) (folder : List ℕ) (books : Books) (t : Vec ℕ) (page : Option (List ℕ))
      → asked ≡ Some (Check folder) → HasBooks pages folder books → page_of pages (publication_path folder) ≡ page
      → CheckStates books page (Text t) → Prints asked pages t.items
  checked-text pages folder books t None c g h (n, u, states, spelled) = absurd states
  checked-text pages folder books t (Some page) c g h (n, u, (short, (p, read, (valid, published, unpublished))), spelled) =
      prints-valid (readable pages folder books page p c g h short read) valid (spelled ∙ ap (λ (m : ℕ). valid_line m u) published ∙ ap (λ (m : ℕ). valid_line (published_in p.blocks) m) unpublished)

  -- what neither a refusal nor a gap, a failure or want of memory says comes of the folder's books
  abbrev IsOfBooks : Outcome → Type 0
  IsOfBooks (NoPage k why) = ⊥
  IsOfBooks (Refused refusal) = ⊥
  IsOfBooks NoMemory = ⊥
  IsOfBooks _ = ⊤

  given : (pages : Pages) (o : Outcome) (x : Asked) (folder : List ℕ) → IsOfBooks o → asked ≡ Some x → folder_of x ≡ Some folder
      → Says asked pages o
      → (books : Books) × HasBooks pages folder books × ComesOfBooks (Some x) pages folder books o
  given pages o x folder own e f s = grind arith

  -- a fault of the publication that is checked
  checked-invalid : (pages : Pages) (folder : List ℕ) (books : Books) (run number : ℕ) (page : Option (List ℕ))
      → asked ≡ Some (Check folder) → HasBooks pages folder books → page_of pages (publication_path folder) ≡ page
      → CheckStates books page (Invalid run number) → IsInvalid asked pages run number
  checked-invalid pages folder books run number None c g h states = absurd states
  checked-invalid pages folder books run number (Some page) c g h (short, (p, read, first)) = invalid-checked (readable pages folder books page p c g h short read) first

  pub invalid-is : (pages : Pages) (run number : ℕ) → AsksToCheck asked → Says asked pages (Invalid run number) → IsInvalid asked pages run number
  invalid-is pages run number (folder, c) says =
      let g = given pages (Invalid run number) (Check folder) folder tt c refl says in
      checked-invalid pages folder g.0 run number (page_of pages (publication_path folder)) c g.1 refl g.2

  -- a refusal
  checked-refused : (pages : Pages) (folder : List ℕ) (books : Books) (refusal : Refusal) (page : Option (List ℕ))
      → asked ≡ Some (Check folder) → HasBooks pages folder books → page_of pages (publication_path folder) ≡ page
      → CheckStates books page (Refused refusal) → IsRefused asked pages refusal
  checked-refused pages folder books refusal None c g h (f, reported, is) = absurd reported
  checked-refused pages folder books refusal (Some page) c g h (f, reported, is) =
      refused-text page f (record { books = books; checked = publication pages folder books page c g h; reported = reported }) is

  -- a page that can't be had
  gap-is : (pages : Pages) (folder : List ℕ) (n k : ℕ) (g h : Gap) → ReadsFolder asked folder
      → HasGap pages folder n g → NoPage k (fetch_of h) ≡ NoPage n (fetch_of g) → fetch_of h ≡ fetch_of g
      → LacksPage asked pages k h
  gap-is pages folder n k NotHeld NotHeld r has same f =
      let number : n ≡ k = cc in
      let P : ℕ → Type 0 = λ x. LacksPage asked pages x NotHeld in
      subst P number (lacks-book folder r has)
  gap-is pages folder n k OverLimit OverLimit r has same f =
      let number : n ≡ k = cc in
      let P : ℕ → Type 0 = λ x. LacksPage asked pages x OverLimit in
      subst P number (lacks-book folder r has)
  gap-is pages folder n k g h r has same f = cc

  checked-too-long : (pages : Pages) (folder : List ℕ) (books : Books) (k : ℕ) (page : Option (List ℕ))
      → asked ≡ Some (Check folder) → HasBooks pages folder books → page_of pages (publication_path folder) ≡ page
      → CheckStates books page (NoPage k fetch.TooLong) → LacksPage asked pages k OverLimit
  checked-too-long pages folder books k None c g h (long, number) = absurd long
  checked-too-long pages folder books k (Some page) c g h (long, number) = lacks-long books page (publication pages folder books page c g h) long number refl

  checked-missing : (pages : Pages) (folder : List ℕ) (books : Books) (k : ℕ) (page : Option (List ℕ))
      → asked ≡ Some (Check folder) → HasBooks pages folder books → page_of pages (publication_path folder) ≡ page
      → CheckStates books page (NoPage k fetch.Missing) → LacksPage asked pages k NotHeld
  checked-missing pages folder books k None c g h (none, number) = lacks-publication folder books c g h number refl
  checked-missing pages folder books k (Some page) c g h (none, number) = absurd none

  -- a day to clear: its books are those of the folder that the words ask to clear so
  pub day-is : (pages : Pages) (job : Job) (folder : List ℕ) → asked ≡ Some (command_by job.way folder job.nodes job.workers)
      → Says asked pages (Day job) → HasBooks pages folder job.books
  day-is pages job folder c says =
      let g = given pages (Day job) (command_by job.way folder job.nodes job.workers) folder tt c (folder_by job.way folder job.nodes job.workers) says in
      let same = by-way job.way pages folder g.0 job.nodes job.workers (Day job) g.2 in
      subst (HasBooks pages folder) (sym (ap (λ (j : Job). j.books) same)) g.1

  -- the line of a valid publication, where one is checked
  pub verdict-is : (before after : Option (List ℕ)) (t : List ℕ) → AsksForText asked t → after ≡ then_took before t → TookVerdict asked before after
  verdict-is before after t w p folder e = let P : Option Asked → Type 0 = λ a. AsksForText a t in (t, subst P e w, p)

  pub no-verdict : (before after : Option (List ℕ)) (way : Way) (folder : List ℕ) (nodes workers : ℕ) → asked ≡ Some (command_by way folder nodes workers) → TookVerdict asked before after
  no-verdict before after way folder nodes workers c other e = grind arith

  -- of what a first part was taken
  pub part-of-usage : (before after : Option (List ℕ)) → asked ≡ None → TookPart before after usage_line → TookFirstPart asked before after
  part-of-usage before after none p = record { usage = λ e. p; summary = λ number e. absurd (cc (none, e)) }

  pub part-of-text : (before after : Option (List ℕ)) (t : List ℕ) → AsksForText asked t → TookPart before after t → TookFirstPart asked before after
  part-of-text before after t w p = record {
    usage = λ e. let P : Option Asked → Type 0 = λ a. AsksForText a t in absurd (subst P e w);
    summary = λ number e. let P : Option Asked → Type 0 = λ a. AsksForText a t in (t, subst P e w, p);
  }

  pub part-of-folder : (before after : Option (List ℕ)) → AsksForFiles asked → TookFirstPart asked before after
  part-of-folder before after (folder, reads) = record {
    usage = λ e. absurd (reads_none asked folder e reads);
    summary = λ number e. absurd (reads_no_folder asked (Generate number) folder e refl reads);
  }

  pub check-reads : AsksToCheck asked → AsksForFiles asked
  check-reads (folder, e) = (folder, reads asked (Check folder) folder e refl)

  -- the summary of a generated day, where the words ask for one
  pub summary-is : (before after : Option (List ℕ)) (t : List ℕ) → AsksForText asked t → after ≡ then_took before t → TookSummary asked before after
  summary-is before after t w p number e = let P : Option Asked → Type 0 = λ a. AsksForText a t in (t, subst P e w, p)

  pub no-summary : (before after : Option (List ℕ)) (way : Way) (folder : List ℕ) (nodes workers : ℕ) → asked ≡ Some (command_by way folder nodes workers) → TookSummary asked before after
  no-summary before after way folder nodes workers c number e = grind arith

  -- what asks for no feed
  pub none-no-feed : asked ≡ None → AsksForFeed asked → ⊥
  none-no-feed e (folder, f) = cc

  pub files-no-feed : AsksForFiles asked → AsksForFeed asked → ⊥
  files-no-feed (folder, r) (other, f) = reads_no_folder asked (Feed other) folder f refl r

  pub check-no-feed : AsksToCheck asked → AsksForFeed asked → ⊥
  check-no-feed (folder, e) (other, f) = cc

  pub text-no-feed : (t : List ℕ) → AsksForText asked t → AsksForFeed asked → ⊥
  text-no-feed t w (folder, f) = let P : Option Asked → Type 0 = λ a. AsksForText a t in subst P f w

  pub check-alone : (file : ℕ) → AsksToCheck asked → IsAlone asked file
  check-alone file (folder, e) = λ lines. let P : Option Asked → Type 0 = λ a. AsksForLines a in absurd (check-no-lines folder (subst P e lines))

  -- a line with nothing before it
  pub plain-line : (pages : Option Pages) (file : ℕ) (Took : List ℕ → Option (List ℕ) → Option (List ℕ) → Type 0) (Is : ValueEnd → Type 0) (line : List ℕ) (before after : Option (List ℕ))
      → IsAlone asked file → after ≡ then_took before line → TookLine asked pages file Took Is line before after
  plain-line pages file Took Is line before after alone p = record { between = before; ahead = nothing-ahead alone refl; took = p }

  -- the values of limits
  pub values-is : (pages : Pages) (v : Valued) → AsksForValues asked → Says asked pages (Values v) → StatesValues asked pages v.end v.text
  values-is pages v (folder, more, c) says =
      let g = given pages (Values v) (Value folder more) folder tt c refl says in
      record { folder = folder; more = more; value = c; books = g.0; gives = g.1; states = g.2.0 }

-- a text that is printed where all is well
pub text-prints : (asked : Option Asked) (pages : Pages) (t : Vec ℕ) → AsksForText asked t.items → Says asked pages (Text t) → Prints asked pages t.items
text-prints (Some (Check folder)) pages t words says =
    let g = given (Some (Check folder)) pages (Text t) (Check folder) folder tt refl refl says in
    checked-text (Some (Check folder)) pages folder g.0 t (page_of pages (publication_path folder)) refl g.1 refl g.2
text-prints (Some (Migrate folder part)) pages t words says =
    let g = given (Some (Migrate folder part)) pages (Text t) (Migrate folder part) folder tt refl refl says in
    prints-migrated (record { folder = folder; part = part; migrate = refl; books = g.0; gives = g.1; first = g.2.0 }) g.2.1
text-prints (Some (Generate number)) pages t words says = prints-generated number refl says
text-prints _ pages t words says = absurd words

-- what is refused though the folder has books
refused-by : (asked : Option Asked) (pages : Pages) (folder : List ℕ) (books : Books) (refusal : Refusal) → ReadsFolder asked folder
    → HasBooks pages folder books → ComesOfBooks asked pages folder books (Refused refusal) → IsRefused asked pages refusal
refused-by (Some (Check f)) pages folder books refusal r h is =
    let same : f ≡ folder = one-folder f folder r in
    checked-refused (Some (Check f)) pages folder books refusal (page_of pages (publication_path folder)) (ap (λ x. Some (Check x)) same) h refl is
refused-by (Some (Migrate f part)) pages folder books refusal r h (again, is) =
    let same : f ≡ folder = one-folder f folder r in
    refused-files (refuses-version folder part books (ap (λ x. Some (Migrate x part)) same) h again is)
refused-by _ pages folder books refusal r h is = absurd is

pub refused-is : (asked : Option Asked) (pages : Pages) (refusal : Refusal) → AsksForFiles asked → Says asked pages (Refused refusal) → IsRefused asked pages refusal
refused-is asked pages refusal (folder, r) says = by (of-folder asked pages (Refused refusal) folder r says)
  where
    by : SaysOfFolder asked pages folder (Refused refusal) → IsRefused asked pages refusal
    by (OfRefusal other h e) =
        let same : other ≡ refusal = cc in
        let P : Refusal → Type 0 = λ x. IsRefused asked pages x in
        subst P same (refused-files (refuses-books folder r h))
    by (OfGap n gap h e) = absurd cc
    by (OfBooks books h is) = refused-by asked pages folder books refusal r h is
    by (Fails n e) = absurd cc
    by (Starves e) = absurd cc

-- the publication that is checked can't be had though the folder has books
lacks-by : (asked : Option Asked) (pages : Pages) (folder : List ℕ) (books : Books) (k : ℕ) (gap : Gap) → ReadsFolder asked folder
    → HasBooks pages folder books → ComesOfBooks asked pages folder books (NoPage k (fetch_of gap)) → LacksPage asked pages k gap
lacks-by (Some (Check f)) pages folder books k NotHeld r h is =
    let same : f ≡ folder = one-folder f folder r in
    checked-missing (Some (Check f)) pages folder books k (page_of pages (publication_path folder)) (ap (λ x. Some (Check x)) same) h refl is
lacks-by (Some (Check f)) pages folder books k OverLimit r h is =
    let same : f ≡ folder = one-folder f folder r in
    checked-too-long (Some (Check f)) pages folder books k (page_of pages (publication_path folder)) (ap (λ x. Some (Check x)) same) h refl is
lacks-by _ pages folder books k gap r h is = absurd is

no-failure : (gap : Gap) → fetch_of gap ≡ fetch.Failed → ⊥
no-failure NotHeld e = cc
no-failure OverLimit e = cc

pub lacks-is : (asked : Option Asked) (pages : Pages) (k : ℕ) (gap : Gap) → AsksForFiles asked → Says asked pages (NoPage k (fetch_of gap)) → LacksPage asked pages k gap
lacks-is asked pages k gap (folder, r) says = by (of-folder asked pages (NoPage k (fetch_of gap)) folder r says)
  where
    by : SaysOfFolder asked pages folder (NoPage k (fetch_of gap)) → LacksPage asked pages k gap
    by (OfRefusal refusal h e) = absurd cc
    by (OfGap n g h e) = gap-is asked pages folder n k g gap r h e cc
    by (OfBooks books h is) = lacks-by asked pages folder books k gap r h is
    by (Fails n e) = absurd (no-failure gap cc)
    by (Starves e) = absurd cc
