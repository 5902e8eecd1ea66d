-- The folder that a command reads, what is said of it, and the commands that clear one.
use Rattle.std.proofs.Common.{◌≡◌, ◌∙◌, ℕ, Bool, true, false, List, Option, Some, None, ap, refl, subst, sym}
use Rattle.std.specs.Prelude.{option_and_then}
use Rattle.mari_io.specs.Outside.{Pages}
use Rattle.mari_remain.specs.declared.books.Books.{Books}
use Rattle.mari_day.specs.Reading.{HasBooks}
use Rattle.mari_words.specs.Asked.{Asked}
use Rattle.mari_words.specs.Asked.Asked.{Clear, Split}
use Rattle.mari_commands.specs.declared.outcome.Way.{Way}
use Rattle.mari_commands.specs.declared.outcome.Way.TheVariants.{Whole, Islands}
use Rattle.mari_commands.specs.declared.outcome.Outcome.{Outcome}
use Rattle.mari_commands.specs.declared.outcome.Outcome.TheVariants.{Day}
use Rattle.mari_commands.specs.Commands.{AsksForFiles, ReadsFolder, folder_of}
use Rattle.mari_commands.specs.Outcome.{ComesOfBooks, IsDayOf, Says, SaysBy, SaysOfFolder}
use Rattle.mari_commands.specs.Outcome.SaysOfFolder.{OfBooks}
use Rattle.mari_commands.specs.Splits.{command_by}

-- what is said is said of the folder that the words read
pub of-folder : (asked : Option Asked) (pages : Pages) (o : Outcome) (folder : List ℕ) → ReadsFolder asked folder → Says asked pages o → SaysOfFolder asked pages folder o
of-folder asked pages o folder r s = let P : Option (List ℕ) → Type 0 = λ f. SaysBy asked pages f o in subst P r s

pub says-folder : (asked : Option Asked) (pages : Pages) (o : Outcome) (folder : List ℕ) → ReadsFolder asked folder → SaysOfFolder asked pages folder o → Says asked pages o
says-folder asked pages o folder r s = let P : Option (List ℕ) → Type 0 = λ f. SaysBy asked pages f o in subst P (sym r) s

-- what is asked for reads its folder
pub reads : (asked : Option Asked) (x : Asked) (folder : List ℕ) → asked ≡ Some x → folder_of x ≡ Some folder → ReadsFolder asked folder
reads asked x folder e h = ap (option_and_then folder_of) e ∙ h

pub one-folder : (f folder : List ℕ) → Some f ≡ Some folder → f ≡ folder
one-folder f folder e = cc

-- words that ask for nothing, or for what reads no folder, read none
pub reads_none : (asked : Option Asked) (folder : List ℕ) → asked ≡ None → ReadsFolder asked folder → ⊥
reads_none asked folder e h = let q : None ≡ Some folder = sym (ap (option_and_then folder_of) e) ∙ h in cc

pub reads_no_folder : (asked : Option Asked) (x : Asked) (folder : List ℕ) → asked ≡ Some x → folder_of x ≡ None → ReadsFolder asked folder → ⊥
reads_no_folder asked x folder e n h = let q : None ≡ Some folder = sym (ap (option_and_then folder_of) e ∙ n) ∙ h in cc

-- ---- the commands that clear a folder's runs

-- they read its files
pub folder_by : (way : Way) (folder : List ℕ) (nodes workers : ℕ) → folder_of (command_by way folder nodes workers) ≡ Some folder
folder_by Whole folder nodes workers = refl
folder_by Islands folder nodes workers = refl

pub files_by : (asked : Option Asked) (way : Way) (folder : List ℕ) (nodes workers : ℕ) → asked ≡ Some (command_by way folder nodes workers) → AsksForFiles asked
files_by asked way folder nodes workers e = (folder, reads asked (command_by way folder nodes workers) folder e (folder_by way folder nodes workers))

-- and what comes of its books is a day
pub by-way : (way : Way) (pages : Pages) (folder : List ℕ) (books : Books) (nodes workers : ℕ) (o : Outcome)
    → ComesOfBooks (Some (command_by way folder nodes workers)) pages folder books o → IsDayOf way books nodes workers o
by-way Whole pages folder books nodes workers o is = is
by-way Islands pages folder books nodes workers o is = is

pub says-day : (way : Way) (pages : Pages) (folder : List ℕ) (books : Books) (nodes workers : ℕ) → HasBooks pages folder books
    → Says (Some (command_by way folder nodes workers)) pages (Day (record { books = books; way = way; nodes = nodes; workers = workers }))
says-day Whole pages folder books nodes workers has = OfBooks books has refl
says-day Islands pages folder books nodes workers has = OfBooks books has refl

-- and are no other commands
abbrev pub clears : Asked → Bool
clears (Clear folder nodes workers) = true
clears (Split folder nodes workers) = true
clears _ = false

clears_by : (way : Way) (folder : List ℕ) (nodes workers : ℕ) → clears (command_by way folder nodes workers) ≡ true
clears_by Whole folder nodes workers = refl
clears_by Islands folder nodes workers = refl

abbrev clears_or_not : Option Asked → Bool
clears_or_not None = false
clears_or_not (Some x) = clears x

pub no_other : (asked : Option Asked) (way : Way) (folder : List ℕ) (nodes workers : ℕ) (x : Asked) → asked ≡ Some (command_by way folder nodes workers) → asked ≡ Some x → clears x ≡ false → ⊥
no_other asked way folder nodes workers x e f n =
    let both : true ≡ false = sym (clears_by way folder nodes workers) ∙ sym (ap clears_or_not e) ∙ ap clears_or_not f ∙ n in
    cc
