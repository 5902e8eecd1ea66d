-- What a folder's pages give is one thing: their books, their first refusal, or the first page that can't be had.
use Rattle.std.proofs.Common.{◌≡◌, ◌∙◌, ℕ, List, [], ◌∷◌, Option, Some, None, ap, map, refl, sym}
use Rattle.mari_units.specs.declared.faults.Refusal.{Refusal}
use Rattle.mari_io.specs.Outside.{Pages}
use Rattle.mari_remain.specs.declared.books.Books.{Books}
use Rattle.mari_day.specs.declared.files.File.{File}
use Rattle.mari_day.specs.Files.{AreHeld, FileGap, Gap}
use Rattle.mari_day.specs.Files.Gap.{NotHeld}
use Rattle.mari_day.specs.Reading.{HasBooks, HasGap, HasRefusal, books_at}

-- what a folder's pages give
pub data Fact : Type 0 where
  Gives : Books → Fact
  Refuses : Refusal → Fact
  Lacks : ℕ → Gap → Fact

-- a fact holds of the pages of a folder
abbrev pub Holds : Pages → List ℕ → Fact → Type 0
Holds pages folder (Gives books) = HasBooks pages folder books
Holds pages folder (Refuses refusal) = HasRefusal pages folder refusal
Holds pages folder (Lacks file gap) = HasGap pages folder file gap

pub some_same : (xs ys : List (List ℕ)) → map {B = Option (List ℕ)} Some xs ≡ map Some ys → xs ≡ ys
some_same [] [] e = refl
some_same [] (y ∷ ys) e = absurd (cc)
some_same (x ∷ xs) [] e = absurd (cc)
some_same (x ∷ xs) (y ∷ ys) e =
    let first : x ≡ y = cc in
    let rest : map {B = Option (List ℕ)} Some xs ≡ map Some ys = cc in
    let more = some_same xs ys rest in
    cc

same_texts : (pages : Pages) (folder : List ℕ) (xs ys : List (List ℕ)) → AreHeld pages folder xs → AreHeld pages folder ys → xs ≡ ys
same_texts pages folder xs ys h k = some_same xs ys (sym h.held ∙ k.held)

abbrev gap_record : File → Gap → FileGap
gap_record f g = record { file = f; gap = g }

-- the gap of a file, or any where there is none
abbrev gap_or_held : Option FileGap → Gap
gap_or_held None = NotHeld
gap_or_held (Some x) = x.gap

same_gap : (pages : Pages) (folder : List ℕ) (n k : ℕ) (g h : Gap) → HasGap pages folder n g → HasGap pages folder k h → g ≡ h
same_gap pages folder n k g h a b =
    let same : Some (gap_record a.file g) ≡ Some (gap_record b.file h) = sym a.first ∙ b.first in
    ap gap_or_held same

held_no_gap : (pages : Pages) (folder : List ℕ) (texts : List (List ℕ)) (n : ℕ) (gap : Gap) → AreHeld pages folder texts → HasGap pages folder n gap → ⊥
held_no_gap pages folder texts n gap h g = let none = h.no_gap in let some = g.first in cc

-- two facts of one folder agree; of a gap only why there is one is reported
abbrev pub Agree : Fact → Fact → Type 0
Agree (Gives a) (Gives b) = a ≡ b
Agree (Refuses a) (Refuses b) = a ≡ b
Agree (Lacks n g) (Lacks k h) = g ≡ h
Agree _ _ = ⊥

pub agree : (pages : Pages) (folder : List ℕ) (a b : Fact) → Holds pages folder a → Holds pages folder b → Agree a b
agree pages folder (Gives a) (Gives b) h k = let e = ap books_at (same_texts pages folder h.texts k.texts h.held k.held) in let x = h.read in let y = k.read in cc
agree pages folder (Gives a) (Refuses b) h k = let e = ap books_at (same_texts pages folder h.texts k.texts h.held k.held) in let x = h.read in let y = k.read in cc
agree pages folder (Gives a) (Lacks n g) h k = held_no_gap pages folder h.texts n g h.held k
agree pages folder (Refuses a) (Gives b) h k = let e = ap books_at (same_texts pages folder h.texts k.texts h.held k.held) in let x = h.read in let y = k.read in cc
agree pages folder (Refuses a) (Refuses b) h k = let e = ap books_at (same_texts pages folder h.texts k.texts h.held k.held) in let x = h.read in let y = k.read in cc
agree pages folder (Refuses a) (Lacks n g) h k = held_no_gap pages folder h.texts n g h.held k
agree pages folder (Lacks n g) (Gives b) h k = held_no_gap pages folder k.texts n g k.held h
agree pages folder (Lacks n g) (Refuses b) h k = held_no_gap pages folder k.texts n g k.held h
agree pages folder (Lacks n g) (Lacks k i) h l = same_gap pages folder n k g i h l
