-- The arguments of the command line, and what is found of them.
use Rattle.std.proofs.Common.{◌≡◌, ◌∙◌, ◌||◌, Bool, true, false, cond, List, [], ◌∷◌, ◌++◌, map, Option, Some, None, is_some, option_map, find, bytes_eq, codes, refl, sym, ap, true≢false, arith}
use Rattle.clap.specs.Walk.{Held, Row, Rule, at_row, more_values, has_row, reading_by, used}
use Rattle.clap.specs.Simple.{filled, with_index}
use Rattle.clap.specs.Faults.{use_fault}
use Rattle.clap.specs.declared.parser.matches.ValueSource.TheVariants.{CommandLine}
use Rattle.mari_words.specs.Line.{option_rule, required_word}
use Rattle.mari_words.specs.Seen.{Choice, Text}
use Rattle.mari_words.specs.Seen.{Choice as choice}
use Rattle.mari_words.specs.Words.{Verb}
use Rattle.mari_words.specs.Words.Verb.{Clears, Checks, Generates, Migrates, Feeds, Splits, Joins, Values}

pub data Key : Type 0 where
  First : Key
  Second : Key
  Third : Key
  Nodes : Key
  Workers : Key

abbrev pub id : Key → Text
id First = codes "first"
id Second = codes "second"
id Third = codes "third"
id Nodes = codes "nodes"
id Workers = codes "workers"

-- the argument, as the command line is built
abbrev pub rule : Key → Rule
rule First = with_index 1 (filled (required_word (codes "first")))
rule Second = with_index 2 (filled (required_word (codes "second")))
rule Third = with_index 3 (filled (required_word (codes "third")))
rule Nodes = filled (option_rule (codes "nodes"))
rule Workers = filled (option_rule (codes "workers"))

abbrev pub keys : Verb → List Key
keys Clears = First ∷ Nodes ∷ Workers ∷ []
keys Checks = First ∷ []
keys Generates = First ∷ []
keys Migrates = First ∷ Second ∷ []
keys Feeds = First ∷ []
keys Splits = First ∷ Nodes ∷ Workers ∷ []
keys Joins = First ∷ Second ∷ Third ∷ Nodes ∷ Workers ∷ []
keys Values = First ∷ Second ∷ []

abbrev pub rules : Verb → List Rule
rules verb = map rule (keys verb)

abbrev pub key_of : Choice → Key
key_of choice.Nodes = Nodes
key_of choice.Workers = Workers

-- what is found of an argument that was given once
abbrev pub row : Key → Text → Row
row k text = record { id = id k; values = text ∷ []; count = None; source = Some CommandLine; reading = reading_by (rule k) }

abbrev pub held : List Row → Option (Text × List Text) → Held
held rows pending = record { rows = rows; pending = pending; skip = 0 }

-- the rows have these values
abbrev pub Finds : List Row → (Key → Option Text) → Type 0
Finds rows o = (k : Key) → find (λ (r : Row). bytes_eq r.id (id k)) rows ≡ option_map (row k) (o k)

-- one value more
abbrev pub upd : Key → Text → (Key → Option Text) → Key → Option Text
upd k text o j = cond (bytes_eq (id k) (id j)) (Some text) (o j)

abbrev pub nil : {X : Type 0} → List X → Bool
nil [] = true
nil (x ∷ xs) = false

pub filled_not : {X : Type 0} {xs : List X} → xs ≡ [] → nil xs ≡ false → ⊥
filled_not h e = true≢false (sym (ap nil h) ∙ e)

none_not : {X : Type 0} {x : X} → Some x ≡ None → ⊥
none_not h = true≢false (ap is_some h)

-- ---- rows

abbrev found : Text → List Row → Option Row
found name rows = find (λ (r : Row). bytes_eq r.id name) rows

module _ (name : Text) where
  has_row-find : (rows : List Row) → has_row name rows ≡ is_some (found name rows)
  has_row-find [] = refl
  has_row-find (r ∷ rows) = go (bytes_eq r.id name) (has_row-find rows)
    where
      go : (b : Bool) → has_row name rows ≡ is_some (found name rows) → (b || has_row name rows) ≡ is_some (cond b (Some r) (found name rows))
      go true h = refl
      go false h = h

  at_end : (change : Row → List Row) (missing rows : List Row) → found name rows ≡ None → at_row name change missing rows ≡ rows ++ missing
  at_end change missing [] e = refl
  at_end change missing (r ∷ rows) e = go (bytes_eq r.id name) e (at_end change missing rows)
    where
      go : (b : Bool) → cond b (Some r) (found name rows) ≡ None → (found name rows ≡ None → at_row name change missing rows ≡ rows ++ missing)
          → cond b (change r ++ rows) (r ∷ at_row name change missing rows) ≡ r ∷ rows ++ missing
      go true n more = absurd (none_not n)
      go false n more = ap (λ rs. r ∷ rs) (more n)

  find-last : (rows : List Row) (last : Row) → found name rows ≡ None → found name (rows ++ last ∷ []) ≡ cond (bytes_eq last.id name) (Some last) None
  find-last [] last e = refl
  find-last (r ∷ rows) last e = go (bytes_eq r.id name) e (find-last rows last)
    where
      go : (b : Bool) → cond b (Some r) (found name rows) ≡ None → (found name rows ≡ None → found name (rows ++ last ∷ []) ≡ cond (bytes_eq last.id name) (Some last) None)
          → cond b (Some r) (found name (rows ++ last ∷ [])) ≡ cond (bytes_eq last.id name) (Some last) None
      go true n more = absurd (none_not n)
      go false n more = more n

  find-first : (rows : List Row) (last one : Row) → found name rows ≡ Some one → found name (rows ++ last ∷ []) ≡ Some one
  find-first [] last one e = absurd (none_not (sym e))
  find-first (r ∷ rows) last one e = go (bytes_eq r.id name) e (find-first rows last one)
    where
      go : (b : Bool) → cond b (Some r) (found name rows) ≡ Some one → (found name rows ≡ Some one → found name (rows ++ last ∷ []) ≡ Some one)
          → cond b (Some r) (found name (rows ++ last ∷ [])) ≡ Some one
      go true n more = n
      go false n more = more n

-- ---- one use of an argument

append_none : (rows : List Row) → rows ++ [] ≡ rows
append_none [] = refl
append_none (r ∷ rows) = ap (λ rs. r ∷ rs) (append_none rows)

placed : (name : Text) (change : Row → List Row) (last : Row) (rows : List Row) → found name rows ≡ None
    → at_row name change (last ∷ []) (at_row name (λ _. []) [] rows) ≡ rows ++ last ∷ []
placed name change last rows n =
    ap (at_row name change (last ∷ [])) (at_end name (λ _. []) [] rows n ∙ append_none rows) ∙ at_end name change (last ∷ []) rows n

used_last : (k : Key) (text : Text) (rows : List Row) → found (id k) rows ≡ None → used (rule k) (text ∷ []) rows ≡ rows ++ row k text ∷ []
used_last First text rows n = placed (codes "first") (more_values CommandLine (text ∷ [])) (row First text) rows n
used_last Second text rows n = placed (codes "second") (more_values CommandLine (text ∷ [])) (row Second text) rows n
used_last Third text rows n = placed (codes "third") (more_values CommandLine (text ∷ [])) (row Third text) rows n
used_last Nodes text rows n = placed (codes "nodes") (more_values CommandLine (text ∷ [])) (row Nodes text) rows n
used_last Workers text rows n = placed (codes "workers") (more_values CommandLine (text ∷ [])) (row Workers text) rows n

-- the first use passes
first_use : (k : Key) (text : Text) (rows : List Row) → has_row (id k) rows ≡ false → use_fault false (rule k) (text ∷ []) rows ≡ []
first_use k text rows e = grind arith

-- a second use does not
second_use : (k : Key) (text : Text) (rows : List Row) → has_row (id k) rows ≡ true → use_fault false (rule k) (text ∷ []) rows ≡ [] → ⊥
second_use k text rows y n = grind arith

-- nor does a use without a value
pub empty_use : (k : Key) (rows : List Row) → use_fault false (rule k) [] rows ≡ [] → ⊥
empty_use k rows n = grind arith

same_key : (a b : Key) → bytes_eq (id a) (id b) ≡ true → a ≡ b
same_key a b h = grind arith

pub used_finds : (k : Key) (text : Text) (rows : List Row) (o : Key → Option Text) → Finds rows o → o k ≡ None
    → Finds (used (rule k) (text ∷ []) rows) (upd k text o)
used_finds k text rows o f e j =
    ap (found (id j)) (used_last k text rows (f k ∙ ap (option_map (row k)) e)) ∙ go (o j) (bytes_eq (id k) (id j)) refl refl
  where
    go : (v : Option Text) (b : Bool) → o j ≡ v → bytes_eq (id k) (id j) ≡ b → found (id j) (rows ++ row k text ∷ []) ≡ option_map (row j) (cond b (Some text) (o j))
    go None true v b =
        find-last (id j) rows (row k text) (f j ∙ ap (option_map (row j)) v) ∙ rw b (ap (λ (x : Key). Some (row x text)) (same_key k j b))
    go None false v b = find-last (id j) rows (row k text) (f j ∙ ap (option_map (row j)) v) ∙ rw (b, v) refl
    go (Some t) true v b = absurd (none_not (sym v ∙ ap o (sym (same_key k j b)) ∙ e))
    go (Some t) false v b = find-first (id j) rows (row k text) (row j t) (f j ∙ ap (option_map (row j)) v) ∙ rw v refl

pub use_passes : (k : Key) (text : Text) (rows : List Row) (o : Key → Option Text) → Finds rows o → o k ≡ None → use_fault false (rule k) (text ∷ []) rows ≡ []
use_passes k text rows o f e = first_use k text rows (has_row-find (id k) rows ∙ ap is_some (f k ∙ ap (option_map (row k)) e))

pub use_fails : (k : Key) (text old : Text) (rows : List Row) (o : Key → Option Text) → Finds rows o → o k ≡ Some old → use_fault false (rule k) (text ∷ []) rows ≡ [] → ⊥
use_fails k text old rows o f e = second_use k text rows (has_row-find (id k) rows ∙ ap is_some (f k ∙ ap (option_map (row k)) e))
