-- The whole command line: `clap` takes the words exactly where they are a command, and finds what it asks for.
use Rattle.std.proofs.Common.{◌≡◌, ◌∙◌, Bool, true, false, List, [], ◌∷◌, ◌++◌, fold, Option, Some, None, is_some, option_map, bytes_eq, codes, refl, sym, ap, ap₂, append_assoc, append-nil, arith}
use Rattle.clap.specs.Walk.{Names, Row, Walk, finished, nothing_held, rows_after, settled, subcommand_met, walk, walk_from, walked}
use Rattle.clap.specs.Walk.{Waiting as waits}
use Rattle.clap.specs.Simple.{Shape, built, entered, names_of, subcommand_of}
use Rattle.clap.specs.Kinds.{Kinds, or_else}
use Rattle.clap.specs.Faults.{check_fault, defaults_fault, entered_fault, fault_of, flags_fault, level_fault, settle_fault, turn_fault, walk_fault}
use Rattle.mari_words.specs.Given.{asked_by, asked_in, given_of}
use Rattle.mari_words.specs.Line.{line}
use Rattle.mari_words.specs.Seen.{Text}
use Rattle.mari_words.specs.Words.{Given, Verb, asked_for, command_at, given_by, verb_named}
use Rattle.mari_words.specs.Words.Verb.{Clears, Checks, Generates, Migrates, Feeds, Splits, Joins, Values}
use Rattle.mari_words.proofs.Keys.{filled_not, rules}
use Rattle.mari_words.proofs.Sorts.{Sort}
use Rattle.mari_words.proofs.Sorts.Sort.{dashes, named, plain, short}
use Rattle.mari_words.proofs.Steps.{Spelled, leaf, name_of, none_both}
use Rattle.mari_words.proofs.Ends.{LevelIs, level}

abbrev names : Names
names = names_of (built line)

abbrev top : Shape
top = (built line).top

-- a subcommand was met, and these words after its name
abbrev met : Text → List Text → Walk
met name rest = record { held = nothing_held; waiting = waits.idle; position = 1; is_trailing = false; stopped = Some (name, rest) }

rest_kept : (name : Text) (words seen : List Text) → fold (walked [] names) (met name seen) words ≡ met name (seen ++ words)
unfolding walked
rest_kept name [] seen = ap (met name) (sym (append-nil seen))
rest_kept name (word ∷ words) seen = rest_kept name words (seen ++ word ∷ []) ∙ ap (met name) (append_assoc seen (word ∷ []) words)

rest_passes : (name : Text) (words seen : List Text) → walk_fault top names (met name seen) words ≡ []
unfolding walked walk_fault
rest_passes name [] seen = refl
rest_passes name (word ∷ words) seen = rest_passes name words (seen ++ word ∷ [])

met_as : (name : Text) → subcommand_met names waits.idle name ≡ option_map name_of (verb_named name)
met_as name =
    go (bytes_eq (codes "clear") name) (bytes_eq (codes "check") name) (bytes_eq (codes "generate") name) (bytes_eq (codes "migrate") name)
    (bytes_eq (codes "feed") name) (bytes_eq (codes "split") name) (bytes_eq (codes "blocks") name) (bytes_eq (codes "value") name)
    refl refl refl refl refl refl refl refl
  where
    go : (a b c d e f g h : Bool)
        → bytes_eq (codes "clear") name ≡ a → bytes_eq (codes "check") name ≡ b → bytes_eq (codes "generate") name ≡ c → bytes_eq (codes "migrate") name ≡ d
        → bytes_eq (codes "feed") name ≡ e → bytes_eq (codes "split") name ≡ f → bytes_eq (codes "blocks") name ≡ g → bytes_eq (codes "value") name ≡ h
        → subcommand_met names waits.idle name ≡ option_map name_of (verb_named name)
    go true b c d e f g h p q r s t u v w = rw p refl
    go false true c d e f g h p q r s t u v w = rw (p, q) refl
    go false false true d e f g h p q r s t u v w = rw (p, q, r) refl
    go false false false true e f g h p q r s t u v w = rw (p, q, r, s) refl
    go false false false false true f g h p q r s t u v w = rw (p, q, r, s, t) refl
    go false false false false false true g h p q r s t u v w = rw (p, q, r, s, t, u) refl
    go false false false false false false true h p q r s t u v w = rw (p, q, r, s, t, u, v) refl
    go false false false false false false false true p q r s t u v w = rw (p, q, r, s, t, u, v, w) refl
    go false false false false false false false false p q r s t u v w = rw (p, q, r, s, t, u, v, w) refl

-- ---- a subcommand's name

first_passes : (verb : Verb) (name : Text) → subcommand_met names waits.idle name ≡ Some (name_of verb) → turn_fault top names (walk_from nothing_held) name ≡ []
first_passes verb name m = grind arith

first_met : (verb : Verb) (name : Text) → subcommand_met names waits.idle name ≡ Some (name_of verb) → walked [] names (walk_from nothing_held) name ≡ met (name_of verb) []
unfolding walked
first_met verb name m = rw m refl

-- what the top comes to, from the walk over its words and that walk's faults
abbrev total : Walk → Kinds → Kinds
total w faults =
    or_else faults
    (or_else (entered_fault (built line) w.stopped)
    (or_else (settle_fault [] false w.held)
    (or_else (defaults_fault (settled [] w.held).rows [])
    (check_fault top (finished [] w.held) (is_some (entered (built line) w.stopped))))))

or_none : (a : Kinds) → or_else a [] ≡ a
or_none a = grind arith

total_met : (verb : Verb) (rest : List Text) → total (met (name_of verb) rest) [] ≡ level_fault (leaf verb) [] nothing_held rest false []
unfolding defaults_fault
total_met Clears rest = or_none _
total_met Checks rest = or_none _
total_met Generates rest = or_none _
total_met Migrates rest = or_none _
total_met Feeds rest = or_none _
total_met Splits rest = or_none _
total_met Joins rest = or_none _
total_met Values rest = or_none _

module _ (verb : Verb) (name : Text) (rest : List Text) (is : verb_named name ≡ Some verb) where
  name_met : subcommand_met names waits.idle name ≡ Some (name_of verb)
  name_met = met_as name ∙ ap (option_map name_of) is

  walk_met : walk [] names nothing_held (name ∷ rest) ≡ met (name_of verb) rest
  walk_met = ap (λ w. fold (walked [] names) w rest) (first_met verb name name_met) ∙ rest_kept (name_of verb) rest []

  walk_passes : walk_fault top names (walk_from nothing_held) (name ∷ rest) ≡ []
  unfolding walk_fault
  walk_passes =
      none_both (turn_fault top names (walk_from nothing_held) name) (walk_fault top names (walked [] names (walk_from nothing_held) name) rest) (first_passes verb name name_met)
      (ap (λ w. walk_fault top names w rest) (first_met verb name name_met) ∙ rest_passes (name_of verb) rest [])

  fault_is : fault_of line (name ∷ rest) ≡ level_fault (leaf verb) [] nothing_held rest false []
  fault_is = ap₂ total walk_met walk_passes ∙ total_met verb rest

  found_is : subcommand_of line (name ∷ rest) ≡ Some (name_of verb, rows_after (rules verb) [] rest)
  found_is = ap (λ (w : Walk). entered (built line) w.stopped) walk_met ∙ entered_is verb
    where
      entered_is : (v : Verb) → entered (built line) (Some (name_of v, rest)) ≡ Some (name_of v, rows_after (rules v) [] rest)
      entered_is Clears = refl
      entered_is Checks = refl
      entered_is Generates = refl
      entered_is Migrates = refl
      entered_is Feeds = refl
      entered_is Splits = refl
      entered_is Joins = refl
      entered_is Values = refl

-- ---- any other first word

no_name : (name : Text) (rest : List Text) → subcommand_met names waits.idle name ≡ None → Sort name → fault_of line (name ∷ rest) ≡ [] → ⊥
unfolding walked walk_fault flags_fault defaults_fault
no_name name [] m (dashes e d) h = filled_not h (rw (m, e) refl)
no_name name (word ∷ rest) m (dashes e d) h = filled_not h (rw (m, e) refl)
no_name name rest m (named n v e l d) h = filled_not h (rw (m, e, l) refl)
no_name name rest m (short y c ys cs e l s ch d) h = filled_not h (rw (m, e, l, s, ch) refl)
no_name name rest m (plain e l s d) h = filled_not h (rw (m, e, l, s) refl)

no_words : fault_of line [] ≡ [] → ⊥
unfolding walked walk_fault defaults_fault
no_words h = filled_not h refl

-- ---- the words

pub record Agrees (words : List Text) : Type 0 where
  pub taken : fault_of line words ≡ [] → asked_in (subcommand_of line words) ≡ command_at words
  pub refused : (fault_of line words ≡ [] → ⊥) → command_at words ≡ None

named_verb : (verb : Verb) (rows : List Row) → asked_by (name_of verb) rows ≡ asked_for verb (given_of rows)
named_verb verb rows = grind arith

pub agrees : (words : List Text) → Spelled words → Agrees words
agrees [] sp = record { taken = λ h. absurd (no_words h); refused = λ h. refl }
agrees (name ∷ rest) sp = go (verb_named name) refl
  where
    of : (verb : Verb) → verb_named name ≡ Some verb → (o : Option Given) → given_by verb rest ≡ o → LevelIs verb rest o → Agrees (name ∷ rest)
    of verb e None g l = record {
      taken = λ h. absurd (l (sym (fault_is verb name rest e) ∙ h));
      refused = λ h. rw (e, g) refl;
    }
    of verb e (Some x) g l =
        let command : command_at (name ∷ rest) ≡ asked_for verb x = rw (e, g) refl in
        record {
          taken = λ h. ap asked_in (found_is verb name rest e) ∙ named_verb verb (rows_after (rules verb) [] rest) ∙ ap (asked_for verb) l.1 ∙ sym command;
          refused = λ h. absurd (h (fault_is verb name rest e ∙ l.0));
        }

    go : (o : Option Verb) → verb_named name ≡ o → Agrees (name ∷ rest)
    go None e = record {
      taken = λ h. absurd (no_name name rest (met_as name ∙ ap (option_map name_of) e) sp.0 h);
      refused = λ h. rw e refl;
    }
    go (Some verb) e = of verb e (given_by verb rest) refl (level verb rest sp.1)
