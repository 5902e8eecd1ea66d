-- One more word where the walk stands where the definition does.
use Rattle.std.proofs.Common.{◌≡◌, ◌∙◌, ◌≤◌, ℕ, Bool, suc, true, false, List, [], ◌∷◌, length, Option, Some, None, option_map, refl, sym, ap, subst, arith}
use Rattle.clap.specs.Walk.{Row, Rule, arg_by_index, is_pending, settled, settled_rows, takes_several, to_positional, used}
use Rattle.clap.specs.Walk.{Step as step}
use Rattle.clap.specs.Faults.{settle_fault, step_fault, use_fault}
use Rattle.mari_words.specs.Seen.{Choice, Seen, Text, with_plain_word}
use Rattle.mari_words.specs.Words.{Verb, form_of}
use Rattle.mari_words.specs.Words.Verb.{Clears, Checks, Generates, Migrates, Feeds, Splits, Joins, Values}
use Rattle.mari_words.proofs.Keys.{Finds, Key, empty_use, filled_not, held, id, row, rule, rules, upd, use_passes, used_finds}
use Rattle.mari_words.proofs.Keys.Key.{First, Second, Third, Nodes, Workers}
use Rattle.mari_words.proofs.Steps.{Follows, Known, State, at, leaf, not_both, values}

abbrev pub Pending : Type 0
Pending = Option (Text × List Text)

abbrev pub mk : List Text → Option Text → Option Text → Option Choice → Bool → Seen
mk words nodes workers waiting ended = record { words = words; nodes = nodes; workers = workers; waiting = waiting; ended = ended }

-- ---- an argument with its value is pending

module _ (verb : Verb) (k : Key) (known : Known verb k) (rows : List Row) (text : Text) where
  pub pends_not : (use_fault false (rule k) (text ∷ []) rows ≡ [] → ⊥) → settle_fault (rules verb) false (held rows (Some (id k, text ∷ []))) ≡ [] → ⊥
  pends_not bad h = bad (rw known at h)

  pub state_then : (o : Key → Option Text) (s : Seen) → Finds rows o → o k ≡ None → ((j : Key) → values s j ≡ upd k text o j)
      → State verb rows (Some (id k, text ∷ [])) s None
  state_then o s f e v =
      let settled : settled_rows (rules verb) (Some (id k, text ∷ [])) rows ≡ used (rule k) (text ∷ []) rows = rw known refl in
      let passes : settle_fault (rules verb) false (held rows (Some (id k, text ∷ []))) ≡ [] = rw known (use_passes k text rows o f e) in (
        passes,
        λ j. subst (λ (rs : List Row). Finds rs (upd k text o)) (sym settled) (used_finds k text rows o f e) j ∙ ap (option_map (row j)) (sym (v j)),
      )

pub no_value : (verb : Verb) (k : Key) → Known verb k → (rows : List Row) → settle_fault (rules verb) false (held rows (Some (id k, []))) ≡ [] → ⊥
no_value verb k known rows h = empty_use k rows (rw known at h)

-- ---- a word that belongs to no option

abbrev pub Puts : Verb → List Row → Pending → Seen → Text → Option Seen → Type 0
Puts verb rows pending s word None = step_fault (leaf verb) (suc (length s.words)) (held rows pending) step.value ≡ [] → ⊥
Puts verb rows pending s word (Some t) = (step_fault (leaf verb) (suc (length s.words)) (held rows pending) step.value ≡ [])
    × Follows verb (to_positional (rules verb) (arg_by_index (rules verb) (suc (length s.words))) word (at rows pending s) (held rows pending)) t

puts_none : (verb : Verb) (rows : List Row) (pending : Pending) (i : ℕ) → arg_by_index (rules verb) i ≡ None → step_fault (leaf verb) i (held rows pending) step.value ≡ [] → ⊥
puts_none verb rows pending i e n = filled_not n (rw e refl)

module _ (verb : Verb) (rows : List Row) (pending : Pending) (nodes workers : Option Text) (ended : Bool) (word : Text) where
  abbrev now : List Row
  now = settled_rows (rules verb) pending rows

  abbrev with_words : List Text → Seen
  with_words words = mk words nodes workers None ended

  -- the argument that the word goes to, the words with it, and where the walk stands then
  put : (k : Key) (before after : List Text) → Known verb k → arg_by_index (rules verb) (suc (length before)) ≡ Some (rule k)
      → step_fault (leaf verb) (suc (length before)) (held rows pending) step.value ≡ []
      → to_positional (rules verb) (Some (rule k)) word (at rows pending (with_words before)) (held rows pending) ≡ at now (Some (id k, word ∷ [])) (with_words after)
      → length after ≤ (form_of verb).words → values (with_words before) k ≡ None → ((j : Key) → values (with_words after) j ≡ upd k word (values (with_words before)) j)
      → State verb rows pending (with_words before) None → Puts verb rows pending (with_words before) word (Some (with_words after))
  put k before after known e passes moved few free value st = (
    passes,
    record {
      rows = now;
      pending = Some (id k, word ∷ []);
      is = ap (λ (a : Option Rule). to_positional (rules verb) a word (at rows pending (with_words before)) (held rows pending)) e ∙ moved;
      few = few;
      state = state_then verb k known now word (values (with_words before)) (with_words after) st.1 free value;
    },
  )

  -- what was held is settled first
  passes_at : (k : Key) (i : ℕ) → takes_several (rule k) ≡ false → arg_by_index (rules verb) i ≡ Some (rule k) → settle_fault (rules verb) false (held rows pending) ≡ []
      → step_fault (leaf verb) i (held rows pending) step.value ≡ []
  passes_at k i single e settled = rw (e, single, not_both (is_pending (rule k) pending) [] (settle_fault (rules verb) false (held rows pending))) settled

  put_first : Known verb First → arg_by_index (rules verb) 1 ≡ Some (rule First) → 1 ≤ (form_of verb).words
      → State verb rows pending (with_words []) None → Puts verb rows pending (with_words []) word (Some (with_words (word ∷ [])))
  put_first known e few st = put First [] (word ∷ []) known e (passes_at First 1 refl e st.0) (moved ended) few refl value st
    where
      value : (j : Key) → values (with_words (word ∷ [])) j ≡ upd First word (values (with_words [])) j
      value First = refl
      value Second = refl
      value Third = refl
      value Nodes = refl
      value Workers = refl

      moved : (b : Bool) → to_positional (rules verb) (Some (rule First)) word (at rows pending (mk [] nodes workers None b)) (held rows pending)
          ≡ at now (Some (id First, word ∷ [])) (mk (word ∷ []) nodes workers None b)
      moved true = rw (not_both (is_pending (rule First) pending) (held rows pending) (settled (rules verb) (held rows pending))) refl
      moved false = rw (not_both (is_pending (rule First) pending) (held rows pending) (settled (rules verb) (held rows pending))) refl

  put_second : (one : Text) → Known verb Second → arg_by_index (rules verb) 2 ≡ Some (rule Second) → 2 ≤ (form_of verb).words
      → State verb rows pending (with_words (one ∷ [])) None → Puts verb rows pending (with_words (one ∷ [])) word (Some (with_words (one ∷ word ∷ [])))
  put_second one known e few st = put Second (one ∷ []) (one ∷ word ∷ []) known e (passes_at Second 2 refl e st.0) (moved ended) few refl value st
    where
      value : (j : Key) → values (with_words (one ∷ word ∷ [])) j ≡ upd Second word (values (with_words (one ∷ []))) j
      value First = refl
      value Second = refl
      value Third = refl
      value Nodes = refl
      value Workers = refl

      moved : (b : Bool) → to_positional (rules verb) (Some (rule Second)) word (at rows pending (mk (one ∷ []) nodes workers None b)) (held rows pending)
          ≡ at now (Some (id Second, word ∷ [])) (mk (one ∷ word ∷ []) nodes workers None b)
      moved true = rw (not_both (is_pending (rule Second) pending) (held rows pending) (settled (rules verb) (held rows pending))) refl
      moved false = rw (not_both (is_pending (rule Second) pending) (held rows pending) (settled (rules verb) (held rows pending))) refl

  put_third : (one two : Text) → Known verb Third → arg_by_index (rules verb) 3 ≡ Some (rule Third) → 3 ≤ (form_of verb).words
      → State verb rows pending (with_words (one ∷ two ∷ [])) None
      → Puts verb rows pending (with_words (one ∷ two ∷ [])) word (Some (with_words (one ∷ two ∷ word ∷ [])))
  put_third one two known e few st = put Third (one ∷ two ∷ []) (one ∷ two ∷ word ∷ []) known e (passes_at Third 3 refl e st.0) (moved ended) few refl value st
    where
      value : (j : Key) → values (with_words (one ∷ two ∷ word ∷ [])) j ≡ upd Third word (values (with_words (one ∷ two ∷ []))) j
      value First = refl
      value Second = refl
      value Third = refl
      value Nodes = refl
      value Workers = refl

      moved : (b : Bool) → to_positional (rules verb) (Some (rule Third)) word (at rows pending (mk (one ∷ two ∷ []) nodes workers None b)) (held rows pending)
          ≡ at now (Some (id Third, word ∷ [])) (mk (one ∷ two ∷ word ∷ []) nodes workers None b)
      moved true = rw (not_both (is_pending (rule Third) pending) (held rows pending) (settled (rules verb) (held rows pending))) refl
      moved false = rw (not_both (is_pending (rule Third) pending) (held rows pending) (settled (rules verb) (held rows pending))) refl

pub puts : (verb : Verb) (rows : List Row) (pending : Pending) (words : List Text) (nodes workers : Option Text) (ended : Bool) (word : Text)
    → length words ≤ (form_of verb).words → State verb rows pending (mk words nodes workers None ended) None
    → Puts verb rows pending (mk words nodes workers None ended) word (with_plain_word (form_of verb) (mk words nodes workers None ended) word)
puts Clears rows pending [] n w ended word few st = put_first Clears rows pending n w ended word refl refl (omega arith) st
puts Clears rows pending (one ∷ []) n w ended word few st = puts_none Clears rows pending 2 refl
puts Checks rows pending [] n w ended word few st = put_first Checks rows pending n w ended word refl refl (omega arith) st
puts Checks rows pending (one ∷ []) n w ended word few st = puts_none Checks rows pending 2 refl
puts Generates rows pending [] n w ended word few st = put_first Generates rows pending n w ended word refl refl (omega arith) st
puts Generates rows pending (one ∷ []) n w ended word few st = puts_none Generates rows pending 2 refl
puts Feeds rows pending [] n w ended word few st = put_first Feeds rows pending n w ended word refl refl (omega arith) st
puts Feeds rows pending (one ∷ []) n w ended word few st = puts_none Feeds rows pending 2 refl
puts Splits rows pending [] n w ended word few st = put_first Splits rows pending n w ended word refl refl (omega arith) st
puts Splits rows pending (one ∷ []) n w ended word few st = puts_none Splits rows pending 2 refl
puts Migrates rows pending [] n w ended word few st = put_first Migrates rows pending n w ended word refl refl (omega arith) st
puts Migrates rows pending (one ∷ []) n w ended word few st = put_second Migrates rows pending n w ended word one refl refl (omega arith) st
puts Migrates rows pending (one ∷ two ∷ []) n w ended word few st = puts_none Migrates rows pending 3 refl
puts Values rows pending [] n w ended word few st = put_first Values rows pending n w ended word refl refl (omega arith) st
puts Values rows pending (one ∷ []) n w ended word few st = put_second Values rows pending n w ended word one refl refl (omega arith) st
puts Values rows pending (one ∷ two ∷ []) n w ended word few st = puts_none Values rows pending 3 refl
puts Joins rows pending [] n w ended word few st = put_first Joins rows pending n w ended word refl refl (omega arith) st
puts Joins rows pending (one ∷ []) n w ended word few st = put_second Joins rows pending n w ended word one refl refl (omega arith) st
puts Joins rows pending (one ∷ two ∷ []) n w ended word few st = put_third Joins rows pending n w ended word one two refl refl (omega arith) st
puts Joins rows pending (one ∷ two ∷ three ∷ []) n w ended word few st = puts_none Joins rows pending 4 refl
puts _ rows pending _ n w ended word few st = grind arith

-- ---- an option with its value

-- the rows after `--NAME=VALUE`
pub state_now : (verb : Verb) (k : Key) (rows : List Row) (text : Text) (o : Key → Option Text) (s : Seen) → Finds rows o → o k ≡ None → ((j : Key) → values s j ≡ upd k text o j)
    → State verb (used (rule k) (text ∷ []) rows) None s None
state_now verb k rows text o s f e v = (refl, λ j. used_finds k text rows o f e j ∙ ap (option_map (row j)) (sym (v j)))

pub with_nodes : (text : Text) (words : List Text) (nodes workers : Option Text) (ended : Bool) (j : Key)
    → values (mk words (Some text) workers None ended) j ≡ upd Nodes text (values (mk words nodes workers None ended)) j
with_nodes text words nodes workers ended j = grind arith

pub with_workers : (text : Text) (words : List Text) (nodes workers : Option Text) (ended : Bool) (j : Key)
    → values (mk words nodes (Some text) None ended) j ≡ upd Workers text (values (mk words nodes workers None ended)) j
with_workers text words nodes workers ended j = grind arith
