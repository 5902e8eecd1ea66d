-- What the words after a command's name give: words that belong to no option, and the values of options.
use Rattle.std.specs.Prelude.{ℕ, Bool, true, false, List, [], ◌∷◌, ◌++◌, Option, Some, None, option_and_then, is_some, if◌then◌else◌, ◌==◌, nat_lt, length}
use lib.Chars.{codes}
use Rattle.std.specs.List.{after_first, before_first, list_any}
use Rattle.std.specs.Str.{bytes_eq}

-- a word, as bytes
abbrev pub Text : Type 0
Text = List ℕ

-- how many words that belong to no option a command takes, and whether it has options
pub record Form : Type 0 where
  pub words : ℕ
  pub has_options : Bool

-- the options that a command may have
pub data Choice : Type 0 where
  Nodes : Choice
  Workers : Choice

-- what some words have given: those that belong to no option, the options' values, the option whose value comes next,
-- and whether `--` has come
pub record Seen : Type 0 where
  pub words : List Text
  pub nodes : Option Text
  pub workers : Option Text
  pub waiting : Option Choice
  pub ended : Bool

-- before the first word
abbrev pub nothing : Seen
nothing = record { words = []; nodes = None; workers = None; waiting = None; ended = false }

-- what stands after a first dash (45)
abbrev pub after_dash : Text → Option Text
after_dash [] = None
after_dash (x ∷ xs) = if x == 45 then Some xs else None

-- a word that begins with a dash, and is longer
abbrev pub is_dashed : Text → Bool
is_dashed [] = false
is_dashed (x ∷ []) = false
is_dashed (x ∷ y ∷ ys) = x == 45

-- the name, up to a first `=` (61), and the value after it, if there is one
abbrev pub named_value : Text → Option (Text × Option Text)
named_value [] = None
named_value (x ∷ xs) = Some (
  before_first (λ c. c == 61) (x ∷ xs),
  if list_any (λ c. c == 61) (x ∷ xs) then Some (after_first (λ c. c == 61) (x ∷ xs)) else None,
)

-- the same, of a word `--NAME` or `--NAME=VALUE`
abbrev pub option_in : Text → Option (Text × Option Text)
option_in word = option_and_then named_value (option_and_then after_dash (after_dash word))

-- the option of this name
abbrev pub choice_named : Text → Option Choice
choice_named name = if bytes_eq (codes "nodes") name then Some Nodes else (if bytes_eq (codes "workers") name then Some Workers else None)

-- the command's option of this name
abbrev pub choice_of : Form → Text → Option Choice
choice_of form name = if form.has_options then choice_named name else None

-- a word that belongs to no option
abbrev pub with_plain_word : Form → Seen → Text → Option Seen
with_plain_word form seen word = if nat_lt (length seen.words) form.words then Some (record seen { words = seen.words ++ word ∷ [] }) else None

-- an option's value; each option comes once
abbrev pub with_value : Seen → Choice → Text → Option Seen
with_value seen Nodes text = if is_some seen.nodes then None else Some (record seen { nodes = Some text; waiting = None })
with_value seen Workers text = if is_some seen.workers then None else Some (record seen { workers = Some text; waiting = None })

-- an option's name, with its value or before it
abbrev pub with_option : Seen → Option Choice → Option Text → Option Seen
with_option seen None value = None
with_option seen (Some choice) None = Some (record seen { waiting = Some choice })
with_option seen (Some choice) (Some text) = with_value seen choice text

-- what is seen after a word, by the option that it names, if it names one
abbrev pub with_named : Form → Seen → Text → Option (Text × Option Text) → Option Seen
with_named form seen word (Some p) = with_option seen (choice_of form p.0) p.1
with_named form seen word None = if is_dashed word then None else with_plain_word form seen word

-- a word where no value is waited for and `--` hasn't come
abbrev pub with_open : Form → Seen → Text → Option Seen
with_open form seen word = if bytes_eq word (codes "--") then Some (record seen { ended = true }) else with_named form seen word (option_in word)

-- what is seen after a word, by the option whose value is to come, if there is one
abbrev pub with_next : Form → Seen → Text → Option Choice → Option Seen
with_next form seen word (Some choice) = if is_dashed word then None else with_value seen choice word
with_next form seen word None = with_open form seen word

-- one more word: after `--` it belongs to no option; after an option's name it is its value
abbrev pub after : Form → Seen → Text → Option Seen
after form seen word = if seen.ended then with_plain_word form seen word else with_next form seen word seen.waiting

-- all words, one after the other
unfoldable pub seen_from : Form → Seen → List Text → Option Seen
seen_from form seen [] = Some seen
seen_from form seen (word ∷ words) = option_and_then (λ s. seen_from form s words) (after form seen word)

-- no value is waited for, and no word is missing
abbrev pub whole : Form → Seen → Option Seen
whole form seen = if is_some seen.waiting then None else (if length seen.words == form.words then Some seen else None)
