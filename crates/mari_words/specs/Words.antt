-- Which words are a command.
use Rattle.std.specs.Prelude.{ℕ, ◌≡◌, Bool, true, false, not, ◌&&◌, List, [], ◌∷◌, Option, Some, None, Result, Ok, Err, option_map, if◌then◌else◌, nat_le, slice_get, ⊤}
use lib.Chars.{codes}
use Rattle.std.specs.Str.{bytes_eq}
use Rattle.mari_units.specs.Numbers.{natural_of}
use Rattle.mari_units.specs.Options.{◌>>=◌}
use Rattle.mari_words.specs.declared.command.Command.{Command}
use Rattle.mari_words.specs.declared.command.FilePart.{FilePart}
use Rattle.mari_words.specs.declared.command.FilePart.TheVariants.{Borders, Limits}
use Rattle.mari_words.specs.declared.command.WordsFault.{WordsFault}
use Rattle.mari_words.specs.declared.command.WordsFault.TheVariants.{Usage, Memory}
use Rattle.mari_units.specs.declared.limits.TheConstants.{LAST_NUMBER, MOST_NODES, MOST_QUARTERS, MOST_RAISE, MOST_WORKERS}
use Rattle.mari_words.specs.declared.command.TheConstants.{USUAL_NODES, USUAL_WORKERS}
use Rattle.mari_words.specs.Asked.{Asked, asked}
use Rattle.mari_words.specs.Asked.Asked.{Clear, Check, Generate, Migrate, Feed, Split, Blocks, Value}
use Rattle.mari_words.specs.Seen.{Form, Seen, Text, nothing, seen_from, whole}

-- a folder's word: neither empty nor a dash alone
abbrev pub is_folder : Text → Bool
is_folder word = not (bytes_eq word []) && not (bytes_eq word (codes "-"))

-- the folder that a word names
abbrev pub folder_in : Text → Option Text
folder_in word = if is_folder word then Some word else None

-- the number from `low` to `high` that a text writes, by digits alone
abbrev pub natural_in : (low high : ℕ) → Text → Option ℕ
natural_in low high text = natural_of text >>= (λ n. if nat_le low n && nat_le n high then Some n else None)

-- the number of an option, or the one that stands for it where it is left out
abbrev pub number_or : (usual low high : ℕ) → Option Text → Option ℕ
number_or usual low high None = Some usual
number_or usual low high (Some text) = natural_in low high text

-- the file whose new form is asked for by this word
abbrev pub part_named : Text → Option FilePart
part_named word = if bytes_eq word (codes "borders") then Some Borders else (if bytes_eq word (codes "limits") then Some Limits else None)

-- the commands, by what they do
pub data Verb : Type 0 where
  Clears : Verb
  Checks : Verb
  Generates : Verb
  Migrates : Verb
  Feeds : Verb
  Splits : Verb
  Joins : Verb
  Values : Verb

-- the command of this name
abbrev pub verb_named : Text → Option Verb
verb_named name =
    if bytes_eq (codes "clear") name then Some Clears
    else (if bytes_eq (codes "check") name then Some Checks
    else (if bytes_eq (codes "generate") name then Some Generates
    else (if bytes_eq (codes "migrate") name then Some Migrates
    else (if bytes_eq (codes "feed") name then Some Feeds
    else (if bytes_eq (codes "split") name then Some Splits
    else (if bytes_eq (codes "blocks") name then Some Joins
    else (if bytes_eq (codes "value") name then Some Values else None)))))))

-- how many words stand after the command's name, and whether options do
abbrev pub form_of : Verb → Form
form_of Clears = record { words = 1; has_options = true }
form_of Checks = record { words = 1; has_options = false }
form_of Generates = record { words = 1; has_options = false }
form_of Migrates = record { words = 2; has_options = false }
form_of Feeds = record { words = 1; has_options = false }
form_of Splits = record { words = 1; has_options = true }
form_of Joins = record { words = 3; has_options = true }
form_of Values = record { words = 2; has_options = false }

-- the words that belong to no option, and the options' values
pub record Given : Type 0 where
  pub first : Option Text
  pub second : Option Text
  pub third : Option Text
  pub nodes : Option Text
  pub workers : Option Text

-- what has been seen of the words, as it is given
abbrev pub given_in : Seen → Given
given_in seen = record {
  first = slice_get seen.words 0;
  second = slice_get seen.words 1;
  third = slice_get seen.words 2;
  nodes = seen.nodes;
  workers = seen.workers;
}

-- the most nodes of a search, and the number of workers
abbrev pub nodes_in : Given → Option ℕ
nodes_in given = number_or USUAL_NODES 1 MOST_NODES given.nodes

abbrev pub workers_in : Given → Option ℕ
workers_in given = number_or USUAL_WORKERS 1 MOST_WORKERS given.workers

-- `clear FOLDER [--nodes N] [--workers K]`, `check FOLDER`, `generate NUMBER`, `migrate FOLDER borders`,
-- `migrate FOLDER limits`, `feed FOLDER`, `split FOLDER [--nodes N] [--workers K]`,
-- `blocks FOLDER FIRST LAST [--nodes N] [--workers K]` or `value FOLDER K`
abbrev pub asked_for : Verb → Given → Option Asked
asked_for Clears given = do
  word ← given.first
  folder ← folder_in word
  nodes ← nodes_in given
  workers ← workers_in given
  Some (Clear folder nodes workers)
asked_for Checks given = do
  word ← given.first
  folder ← folder_in word
  Some (Check folder)
asked_for Generates given = do
  word ← given.first
  number ← natural_in 0 LAST_NUMBER word
  Some (Generate number)
asked_for Migrates given = do
  word ← given.first
  folder ← folder_in word
  name ← given.second
  part ← part_named name
  Some (Migrate folder part)
asked_for Feeds given = do
  word ← given.first
  folder ← folder_in word
  Some (Feed folder)
asked_for Splits given = do
  word ← given.first
  folder ← folder_in word
  nodes ← nodes_in given
  workers ← workers_in given
  Some (Split folder nodes workers)
asked_for Joins given = do
  word ← given.first
  folder ← folder_in word
  from ← given.second
  first ← natural_in 1 MOST_QUARTERS from
  to ← given.third
  last ← natural_in first MOST_QUARTERS to
  nodes ← nodes_in given
  workers ← workers_in given
  Some (Blocks folder first last nodes workers)
asked_for Values given = do
  word ← given.first
  folder ← folder_in word
  text ← given.second
  more ← natural_in 1 MOST_RAISE text
  Some (Value folder more)

-- what the words after a command's name give, if they are of its form
abbrev pub given_by : Verb → List Text → Option Given
given_by verb words = option_map given_in (seen_from (form_of verb) nothing words >>= whole (form_of verb))

-- the command of this name, of these words
abbrev pub command_of : Verb → List Text → Option Asked
command_of verb words = given_by verb words >>= asked_for verb

-- the command that the words are, if they are one
abbrev pub command_at : List Text → Option Asked
command_at [] = None
command_at (name ∷ words) = verb_named name >>= (λ verb. command_of verb words)

-- this is the command that the words are, or they are no command, unless memory ran out
abbrev pub Reads : Result Command WordsFault → Option Asked → Type 0
Reads (Ok command) wanted = wanted ≡ Some (asked command)
Reads (Err Usage) wanted = wanted ≡ None
Reads (Err Memory) wanted = ⊤
