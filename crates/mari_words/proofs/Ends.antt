-- The end of a command's words: `clap` finds what the definition gives, or refuses where it gives nothing.
use Rattle.std.proofs.Common.{◌≡◌, ◌∙◌, ◌≤◌, Bool, false, List, [], ◌∷◌, map, fold, length, Option, Some, None, is_some, option_map, option_and_then, slice_get, refl, sym, ap, subst, arith}
use Rattle.clap.specs.Walk.{Row, Walk, finished, first_of, has_row, nothing_held, rows_after, settled_rows, walked, with_default}
use Rattle.clap.specs.Faults.{check_fault, default_fault, defaults_fault, level_fault, settle_fault, walk_fault}
use Rattle.clap.specs.Takes.{is_given}
use Rattle.mari_words.specs.Seen.{Choice, Seen, Text, nothing, seen_from, whole}
use Rattle.mari_words.specs.Words.{Given, Verb, form_of, given_by, given_in}
use Rattle.mari_words.specs.Words.Verb.{Clears, Checks, Generates, Migrates, Feeds, Splits, Joins, Values}
use Rattle.mari_words.specs.Given.{given_of}
use Rattle.mari_words.proofs.Keys.{Finds, Key, filled_not, held, id, key_of, keys, row, rule, rules}
use Rattle.mari_words.proofs.Keys.Key.{First, Second, Third, Nodes, Workers}
use Rattle.mari_words.proofs.Steps.{Follows, Spelled, State, at, leaf, none_both, none_first, none_second, values}
use Rattle.mari_words.proofs.Turns.{Pending, mk, no_value}
use Rattle.mari_words.proofs.Walks.{Walks, walks}

-- no argument has a default
default_passes : (k : Key) (rows : List Row) (b : Bool) → has_row (id k) rows ≡ b → (default_fault rows (rule k) ≡ []) × (with_default rows (rule k) ≡ rows)
default_passes k rows b e = grind arith

defaults_pass : (ks : List Key) (rows : List Row) → defaults_fault rows (map rule ks) ≡ []
unfolding defaults_fault
defaults_pass [] rows = refl
defaults_pass (k ∷ ks) rows =
    let one = default_passes k rows (has_row (id k) rows) refl in
    none_both (default_fault rows (rule k)) (defaults_fault (with_default rows (rule k)) (map rule ks)) one.0
    (ap (λ rs. defaults_fault rs (map rule ks)) one.1 ∙ defaults_pass ks rows)

defaults_none : (ks : List Key) (rows : List Row) → fold with_default rows (map rule ks) ≡ rows
defaults_none [] rows = refl
defaults_none (k ∷ ks) rows = ap (λ rs. fold with_default rs (map rule ks)) (default_passes k rows (has_row (id k) rows) refl).1 ∙ defaults_none ks rows

module _ (rows : List Row) (o : Key → Option Text) (f : Finds rows o) where
  given_is : (k : Key) (v : Option Text) → o k ≡ v → is_given (id k) rows ≡ is_some v
  given_is k None e = rw (f k ∙ ap (option_map (row k)) e) refl
  given_is k (Some t) e = rw (f k ∙ ap (option_map (row k)) e) refl

  reads : (k : Key) (v : Option Text) → o k ≡ v → first_of (id k) rows ≡ v
  reads k None e = rw (f k ∙ ap (option_map (row k)) e) refl
  reads k (Some t) e = rw (f k ∙ ap (option_map (row k)) e) refl

  -- no word was given
  none_given : (verb : Verb) → o First ≡ None → check_fault (leaf verb) rows false ≡ [] → ⊥
  none_given Clears e h = filled_not h (rw (given_is First None e) refl)
  none_given Checks e h = filled_not h (rw (given_is First None e) refl)
  none_given Generates e h = filled_not h (rw (given_is First None e) refl)
  none_given Migrates e h = filled_not h (rw (given_is First None e) refl)
  none_given Feeds e h = filled_not h (rw (given_is First None e) refl)
  none_given Splits e h = filled_not h (rw (given_is First None e) refl)
  none_given Joins e h = filled_not h (rw (given_is First None e) refl)
  none_given Values e h = filled_not h (rw (given_is First None e) refl)

  -- one word of more
  migrate_one : (t : Text) → o First ≡ Some t → o Second ≡ None → check_fault (leaf Migrates) rows false ≡ [] → ⊥
  migrate_one t e n h = filled_not h (rw (given_is First (Some t) e, given_is Second None n) refl)

  blocks_one : (t : Text) → o First ≡ Some t → o Second ≡ None → check_fault (leaf Joins) rows false ≡ [] → ⊥
  blocks_one t e n h = filled_not h (rw (given_is First (Some t) e, given_is Second None n) refl)

  value_one : (t : Text) → o First ≡ Some t → o Second ≡ None → check_fault (leaf Values) rows false ≡ [] → ⊥
  value_one t e n h = filled_not h (rw (given_is First (Some t) e, given_is Second None n) refl)

  -- two words of three
  blocks_two : (t u : Text) → o First ≡ Some t → o Second ≡ Some u → o Third ≡ None → check_fault (leaf Joins) rows false ≡ [] → ⊥
  blocks_two t u e n f h = filled_not h (rw (given_is First (Some t) e, given_is Second (Some u) n, given_is Third None f) refl)

  -- all words
  clear_given : (t : Text) → o First ≡ Some t → check_fault (leaf Clears) rows false ≡ []
  clear_given t e = rw (given_is First (Some t) e) refl

  check_given : (t : Text) → o First ≡ Some t → check_fault (leaf Checks) rows false ≡ []
  check_given t e = rw (given_is First (Some t) e) refl

  generate_given : (t : Text) → o First ≡ Some t → check_fault (leaf Generates) rows false ≡ []
  generate_given t e = rw (given_is First (Some t) e) refl

  feed_given : (t : Text) → o First ≡ Some t → check_fault (leaf Feeds) rows false ≡ []
  feed_given t e = rw (given_is First (Some t) e) refl

  split_given : (t : Text) → o First ≡ Some t → check_fault (leaf Splits) rows false ≡ []
  split_given t e = rw (given_is First (Some t) e) refl

  migrate_given : (t u : Text) → o First ≡ Some t → o Second ≡ Some u → check_fault (leaf Migrates) rows false ≡ []
  migrate_given t u e n = rw (given_is First (Some t) e, given_is Second (Some u) n) refl

  value_given : (t u : Text) → o First ≡ Some t → o Second ≡ Some u → check_fault (leaf Values) rows false ≡ []
  value_given t u e n = rw (given_is First (Some t) e, given_is Second (Some u) n) refl

  blocks_given : (t u v : Text) → o First ≡ Some t → o Second ≡ Some u → o Third ≡ Some v → check_fault (leaf Joins) rows false ≡ []
  blocks_given t u v e n f = rw (given_is First (Some t) e, given_is Second (Some u) n, given_is Third (Some v) f) refl

-- ---- where the walk ends

abbrev EndIs : Verb → Walk → Option Given → Type 0
EndIs verb w None = settle_fault (rules verb) false w.held ≡ [] → check_fault (leaf verb) (finished (rules verb) w.held) false ≡ [] → ⊥
EndIs verb w (Some g) = (settle_fault (rules verb) false w.held ≡ []) × (check_fault (leaf verb) (finished (rules verb) w.held) false ≡ []) × (given_of (finished (rules verb) w.held) ≡ g)

module _ (verb : Verb) (rows : List Row) (pending : Pending) (words : List Text) (nodes workers : Option Text) (end : Bool) where
  abbrev s : Seen
  s = mk words nodes workers None end

  abbrev now : List Row
  now = settled_rows (rules verb) pending rows

  last : finished (rules verb) (held rows pending) ≡ now
  last = defaults_none (keys verb) now

  same_given : Finds now (values s) → given_of now ≡ given_in s
  same_given f = λ i. record {
    first = reads now (values s) f First (slice_get words 0) refl i;
    second = reads now (values s) f Second (slice_get words 1) refl i;
    third = reads now (values s) f Third (slice_get words 2) refl i;
    nodes = reads now (values s) f Nodes nodes refl i;
    workers = reads now (values s) f Workers workers refl i;
  }

  -- too few words
  few_words : (check_fault (leaf verb) now false ≡ [] → ⊥) → EndIs verb (at rows pending s) None
  few_words bad settled check = bad (ap (λ rs. check_fault (leaf verb) rs false) (sym last) ∙ check)

  -- enough
  all_words : State verb rows pending s None → check_fault (leaf verb) now false ≡ [] → EndIs verb (at rows pending s) (Some (given_in s))
  all_words st check = (st.0, ap (λ rs. check_fault (leaf verb) rs false) last ∙ check, ap given_of last ∙ same_given st.1)

ends_open : (verb : Verb) (rows : List Row) (pending : Pending) (words : List Text) (nodes workers : Option Text) (end : Bool) → length words ≤ (form_of verb).words
    → State verb rows pending (mk words nodes workers None end) None
    → EndIs verb (at rows pending (mk words nodes workers None end)) (option_map given_in (whole (form_of verb) (mk words nodes workers None end)))
ends_open Clears rows pending [] n w end few st = few_words Clears rows pending [] n w end (none_given _ (values (mk [] n w None end)) st.1 Clears refl)
ends_open Clears rows pending (t ∷ []) n w end few st = all_words Clears rows pending (t ∷ []) n w end st (clear_given _ (values (mk (t ∷ []) n w None end)) st.1 t refl)
ends_open Checks rows pending [] n w end few st = few_words Checks rows pending [] n w end (none_given _ (values (mk [] n w None end)) st.1 Checks refl)
ends_open Checks rows pending (t ∷ []) n w end few st = all_words Checks rows pending (t ∷ []) n w end st (check_given _ (values (mk (t ∷ []) n w None end)) st.1 t refl)
ends_open Generates rows pending [] n w end few st = few_words Generates rows pending [] n w end (none_given _ (values (mk [] n w None end)) st.1 Generates refl)
ends_open Generates rows pending (t ∷ []) n w end few st = all_words Generates rows pending (t ∷ []) n w end st (generate_given _ (values (mk (t ∷ []) n w None end)) st.1 t refl)
ends_open Feeds rows pending [] n w end few st = few_words Feeds rows pending [] n w end (none_given _ (values (mk [] n w None end)) st.1 Feeds refl)
ends_open Feeds rows pending (t ∷ []) n w end few st = all_words Feeds rows pending (t ∷ []) n w end st (feed_given _ (values (mk (t ∷ []) n w None end)) st.1 t refl)
ends_open Splits rows pending [] n w end few st = few_words Splits rows pending [] n w end (none_given _ (values (mk [] n w None end)) st.1 Splits refl)
ends_open Splits rows pending (t ∷ []) n w end few st = all_words Splits rows pending (t ∷ []) n w end st (split_given _ (values (mk (t ∷ []) n w None end)) st.1 t refl)
ends_open Migrates rows pending [] n w end few st = few_words Migrates rows pending [] n w end (none_given _ (values (mk [] n w None end)) st.1 Migrates refl)
ends_open Migrates rows pending (t ∷ []) n w end few st = few_words Migrates rows pending (t ∷ []) n w end (migrate_one _ (values (mk (t ∷ []) n w None end)) st.1 t refl refl)
ends_open Migrates rows pending (t ∷ u ∷ []) n w end few st = all_words Migrates rows pending (t ∷ u ∷ []) n w end st (migrate_given _ (values (mk (t ∷ u ∷ []) n w None end)) st.1 t u refl refl)
ends_open Values rows pending [] n w end few st = few_words Values rows pending [] n w end (none_given _ (values (mk [] n w None end)) st.1 Values refl)
ends_open Values rows pending (t ∷ []) n w end few st = few_words Values rows pending (t ∷ []) n w end (value_one _ (values (mk (t ∷ []) n w None end)) st.1 t refl refl)
ends_open Values rows pending (t ∷ u ∷ []) n w end few st = all_words Values rows pending (t ∷ u ∷ []) n w end st (value_given _ (values (mk (t ∷ u ∷ []) n w None end)) st.1 t u refl refl)
ends_open Joins rows pending [] n w end few st = few_words Joins rows pending [] n w end (none_given _ (values (mk [] n w None end)) st.1 Joins refl)
ends_open Joins rows pending (t ∷ []) n w end few st = few_words Joins rows pending (t ∷ []) n w end (blocks_one _ (values (mk (t ∷ []) n w None end)) st.1 t refl refl)
ends_open Joins rows pending (t ∷ u ∷ []) n w end few st = few_words Joins rows pending (t ∷ u ∷ []) n w end (blocks_two _ (values (mk (t ∷ u ∷ []) n w None end)) st.1 t u refl refl refl)
ends_open Joins rows pending (t ∷ u ∷ v ∷ []) n w end few st =
    all_words Joins rows pending (t ∷ u ∷ v ∷ []) n w end st (blocks_given _ (values (mk (t ∷ u ∷ v ∷ []) n w None end)) st.1 t u v refl refl refl)
ends_open _ rows pending _ n w end few st = grind arith

ends_at : (verb : Verb) (rows : List Row) (pending : Pending) (words : List Text) (nodes workers : Option Text) (wait : Option Choice) (end : Bool)
    → length words ≤ (form_of verb).words → State verb rows pending (mk words nodes workers wait end) wait
    → EndIs verb (at rows pending (mk words nodes workers wait end)) (option_map given_in (whole (form_of verb) (mk words nodes workers wait end)))
ends_at verb rows pending words n w None end few st = ends_open verb rows pending words n w end few st
ends_at verb rows pending words n w (Some ch) end few st = λ settled check.
    no_value verb (key_of ch) st.2 rows (ap (λ (p : Pending). settle_fault (rules verb) false (held rows p)) (sym st.1) ∙ settled)

ends : (verb : Verb) (w : Walk) (s : Seen) → Follows verb w s → EndIs verb w (option_map given_in (whole (form_of verb) s))
ends verb w s f =
    subst (λ (x : Walk). EndIs verb x (option_map given_in (whole (form_of verb) s))) (sym f.is)
    (ends_at verb f.rows f.pending s.words s.nodes s.workers s.waiting s.ended f.few f.state)

-- ---- a subcommand's words

abbrev pub LevelIs : Verb → List Text → Option Given → Type 0
LevelIs verb words None = level_fault (leaf verb) [] nothing_held words false [] ≡ [] → ⊥
LevelIs verb words (Some g) = (level_fault (leaf verb) [] nothing_held words false [] ≡ []) × (given_of (rows_after (rules verb) [] words) ≡ g)

begins : (verb : Verb) → Follows verb (at [] None nothing) nothing
begins verb = record { rows = []; pending = None; is = refl; few = least verb; state = (refl, none) }
  where
    least : (v : Verb) → 0 ≤ (form_of v).words
    least v = omega arith

    none : Finds [] (values nothing)
    none x = grind arith

abbrev over : Verb → List Text → Walk
over verb words = fold (walked (rules verb) []) (at [] None nothing) words

finish : (verb : Verb) (words : List Text) (o : Option Given) → walk_fault (leaf verb) [] (at [] None nothing) words ≡ [] → EndIs verb (over verb words) o → LevelIs verb words o
finish verb words None walk end = λ h.
    let after = none_second (walk_fault (leaf verb) [] (at [] None nothing) words) _ h in
    end (none_first _ _ after) (none_second _ _ (none_second _ _ after))
finish verb words (Some g) walk end =
    let rows = settled_rows (rules verb) (over verb words).held.pending (over verb words).held.rows in
    let checked = none_both (defaults_fault rows (rules verb)) (check_fault (leaf verb) (finished (rules verb) (over verb words).held) false) (defaults_pass (keys verb) rows) end.1 in
    let settled = none_both (settle_fault (rules verb) false (over verb words).held) _ end.0 checked in
    (none_both (walk_fault (leaf verb) [] (at [] None nothing) words) _ walk settled, end.2)

pub level : (verb : Verb) (words : List Text) → Spelled words → LevelIs verb words (given_by verb words)
level verb words sp = go (seen_from (form_of verb) nothing words) (walks verb words sp (at [] None nothing) nothing (begins verb))
  where
    go : (o : Option Seen) → Walks verb (at [] None nothing) words o → LevelIs verb words (option_map given_in (option_and_then (whole (form_of verb)) o))
    go None fails = λ h.
        let after = none_second (walk_fault (leaf verb) [] (at [] None nothing) words) _ h in
        fails (none_first _ _ h) (none_first _ _ after)
    go (Some end) p = finish verb words (option_map given_in (whole (form_of verb) end)) p.0 (ends verb (over verb words) end p.1)
