-- One more word: what `clap` makes of it, and what the definition makes of it.
use Rattle.std.proofs.Common.{◌≡◌, ◌∙◌, ◌≤◌, ◌&&◌, ℕ, Bool, suc, true, false, not, cond, List, [], ◌∷◌, fold, length, Option, Some, None, is_some, option_map, find, slice_get, bytes_eq, chars, codes, refl, sym, ap, subst, true≢false, arith}
use Rattle.std.proofs.lemmas.Bool.{not-true}
use Rattle.std.specs.Prelude.{⊤}
use Rattle.std.specs.List.{list_all}
use Rattle.clap.specs.Walk.{Held, Row, Rule, Waiting, Walk, arg_by_id, arg_by_index, arg_by_long, arg_by_short, is_pending, settled_rows, takes_several, walked}
use Rattle.clap.specs.Walk.{Waiting as waits}
use Rattle.clap.specs.Walk.{Step as step}
use Rattle.clap.specs.Simple.{Shape, new_shape}
use Rattle.clap.specs.Kinds.{Kinds, or_else}
use Rattle.clap.specs.Faults.{bundle_fault, flags_fault, long_fault, settle_fault, step_fault, turn_fault, walk_fault}
use Rattle.mari_words.specs.Seen.{Choice, Seen, Text, choice_named, choice_of}
use Rattle.mari_words.specs.Seen.{Choice as choice}
use Rattle.mari_words.specs.Words.{Verb, form_of}
use Rattle.mari_words.specs.Words.Verb.{Clears, Checks, Generates, Migrates, Feeds, Splits, Joins, Values}
use Rattle.mari_words.proofs.Keys.{Finds, Key, filled_not, held, id, key_of, rule, rules}
use Rattle.mari_words.proofs.Keys.Key.{First, Second, Third, Nodes, Workers}
use Rattle.mari_words.proofs.Sorts.{Sort}
use Rattle.mari_words.proofs.Sorts.Sort.{dashes, named, plain, short}

abbrev pub name_of : Verb → Text
name_of Clears = codes "clear"
name_of Checks = codes "check"
name_of Generates = codes "generate"
name_of Migrates = codes "migrate"
name_of Feeds = codes "feed"
name_of Splits = codes "split"
name_of Joins = codes "blocks"
name_of Values = codes "value"

-- the subcommand, as the command line is built
abbrev pub leaf : Verb → Shape
leaf verb = record (new_shape (name_of verb)) {
  rules = rules verb;
  no_binary_name = true;
  disable_help_flag = true;
  disable_help_subcommand = true;
  disable_version_flag = true;
  is_built = true;
}

abbrev pub values : Seen → Key → Option Text
values s First = slice_get s.words 0
values s Second = slice_get s.words 1
values s Third = slice_get s.words 2
values s Nodes = s.nodes
values s Workers = s.workers

abbrev pub waiting_of : Option Choice → Waiting
waiting_of None = waits.idle
waiting_of (Some ch) = waits.option (id (key_of ch))

abbrev pub walk_at : List Row → Option (Text × List Text) → Waiting → ℕ → Bool → Walk
walk_at rows pending waiting position ended = record { held = held rows pending; waiting = waiting; position = position; is_trailing = ended; stopped = None }

abbrev pub at : List Row → Option (Text × List Text) → Seen → Walk
at rows pending s = walk_at rows pending (waiting_of s.waiting) (suc (length s.words)) s.ended

abbrev pub Known : Verb → Key → Type 0
Known verb k = arg_by_id (rules verb) (id k) ≡ Some (rule k)

abbrev pub State : Verb → List Row → Option (Text × List Text) → Seen → Option Choice → Type 0
State verb rows pending s None = (settle_fault (rules verb) false (held rows pending) ≡ []) × Finds (settled_rows (rules verb) pending rows) (values s)
State verb rows pending s (Some ch) = (s.ended ≡ false) × (pending ≡ Some (id (key_of ch), [])) × Known verb (key_of ch) × Finds rows (values s)

-- the walk stands where the definition does
pub record Follows (verb : Verb) (w : Walk) (s : Seen) : Type 0 where
  pub rows : List Row
  pub pending : Option (Text × List Text)
  pub is : w ≡ at rows pending s
  pub few : length s.words ≤ (form_of verb).words
  pub state : State verb rows pending s s.waiting

-- no further words pass
abbrev pub Fails : Verb → Walk → List Text → Type 0
Fails verb w words = walk_fault (leaf verb) [] w words ≡ [] → settle_fault (rules verb) false (fold (walked (rules verb) []) w words).held ≡ [] → ⊥

abbrev pub Spelled : List Text → Type 0
Spelled [] = ⊤
Spelled (word ∷ words) = Sort word × Spelled words

abbrev pub Turns : Verb → Walk → Text → Option Seen → Type 0
Turns verb w word None = (rest : List Text) → Spelled rest → turn_fault (leaf verb) [] w word ≡ [] → Fails verb (walked (rules verb) [] w word) rest
Turns verb w word (Some s) = (turn_fault (leaf verb) [] w word ≡ []) × Follows verb (walked (rules verb) [] w word) s

-- ---- kinds

pub none_first : (a b : Kinds) → or_else a b ≡ [] → a ≡ []
none_first a b e = grind arith

pub none_second : (a b : Kinds) → or_else a b ≡ [] → b ≡ []
none_second a b e = grind arith

pub none_both : (a b : Kinds) → a ≡ [] → b ≡ [] → or_else a b ≡ []
none_both a b e f = ap (λ x. or_else x b) e ∙ f

-- ---- arguments

abbrev pub value_or : {X : Type 0} → X → Option X → X
value_or d None = d
value_or d (Some x) = x

find_in : {X : Type 0} (p q : X → Bool) (xs : List X) (x : X) → list_all p xs ≡ true → find q xs ≡ Some x → p x ≡ true
find_in p q [] x all e = absurd (true≢false (sym (ap is_some e)))
find_in p q (y ∷ ys) x all e = go (p y) (q y) refl all e (find_in p q ys x)
  where
    go : (a b : Bool) → p y ≡ a → (a && list_all p ys) ≡ true → cond b (Some y) (find q ys) ≡ Some x → (list_all p ys ≡ true → find q ys ≡ Some x → p x ≡ true) → p x ≡ true
    go a b h l s more = grind arith

abbrev single : Rule → Bool
single a = not (takes_several a)

all_single : (verb : Verb) → list_all single (rules verb) ≡ true
all_single verb = grind arith

pub by_short : (verb : Verb) (x : ℕ) → arg_by_short (rules verb) x ≡ None
by_short verb x = grind arith

abbrev named_choice : Text → Option Rule
named_choice name = option_map (λ ch. rule (key_of ch)) (choice_named name)

options_by_long : (name : Text) → arg_by_long (rule Nodes ∷ rule Workers ∷ []) name ≡ named_choice name
options_by_long name = go (bytes_eq (codes "nodes") name) (bytes_eq (codes "workers") name) refl refl
  where
    go : (a b : Bool) → bytes_eq (codes "nodes") name ≡ a → bytes_eq (codes "workers") name ≡ b → arg_by_long (rule Nodes ∷ rule Workers ∷ []) name ≡ named_choice name
    go a b e f = grind arith

pub by_long : (verb : Verb) (name : Text) → arg_by_long (rules verb) name ≡ option_map (λ ch. rule (key_of ch)) (choice_of (form_of verb) name)
by_long Clears name = options_by_long name
by_long Checks name = refl
by_long Generates name = refl
by_long Migrates name = refl
by_long Feeds name = refl
by_long Splits name = options_by_long name
by_long Joins name = options_by_long name
by_long Values name = refl

pub known_choice : (verb : Verb) (name : Text) (ch : Choice) → choice_of (form_of verb) name ≡ Some ch → Known verb (key_of ch)
known_choice verb name ch e = grind arith

pub not_both : {X : Type 0} (b : Bool) (x y : X) → cond (b && false) x y ≡ y
not_both b x y = grind arith

-- ---- where nothing passes any more

-- the pending argument fails, so a word that goes to a positional does
pub value_bad : (verb : Verb) (rows : List Row) (pending : Option (Text × List Text)) (position : ℕ) → (settle_fault (rules verb) false (held rows pending) ≡ [] → ⊥)
    → step_fault (leaf verb) position (held rows pending) step.value ≡ [] → ⊥
value_bad verb rows pending position bad h = go (arg_by_index (rules verb) position) refl h
  where
    go : (o : Option Rule) → arg_by_index (rules verb) position ≡ o → step_fault (leaf verb) position (held rows pending) step.value ≡ [] → ⊥
    go None e n = filled_not n (rw e refl)
    go (Some a) e n =
        let one : takes_several a ≡ false = not-true (takes_several a) (find_in single _ (rules verb) a (all_single verb) e) in
        bad (sym (not_both (is_pending a pending) [] (settle_fault (rules verb) false (held rows pending))) ∙ rw (e, one) at n)

-- one dash and more is no argument
pub short_bad : (verb : Verb) (h : Held) (y c : ℕ) (ys cs : List ℕ) → h.skip ≡ 0 → chars (y ∷ ys) ≡ c ∷ cs → bundle_fault (rules verb) false (y ∷ ys) h ≡ [] → ⊥
unfolding flags_fault
short_bad verb h y c ys cs skip e n = filled_not n (rw (skip, e, by_short verb c) refl)

pub long_bad : (verb : Verb) (rows : List Row) (pending : Option (Text × List Text)) (name : Text) (value : Option Text)
    → (settle_fault (rules verb) false (held rows pending) ≡ [] → ⊥) → long_fault (rules verb) false (arg_by_long (rules verb) name) value (held rows pending) ≡ [] → ⊥
long_bad verb rows pending name value bad n = go (choice_of (form_of verb) name) value (rw (by_long verb name) at n)
  where
    go : (o : Option Choice) (v : Option Text) → long_fault (rules verb) false (option_map (λ ch. rule (key_of ch)) o) v (held rows pending) ≡ [] → ⊥
    go None v h = filled_not h refl
    go (Some choice.Nodes) None h = bad h
    go (Some choice.Nodes) (Some t) h = bad (none_first _ _ h)
    go (Some choice.Workers) None h = bad h
    go (Some choice.Workers) (Some t) h = bad (none_first _ _ h)

pub doomed_ended : (verb : Verb) (words : List Text) (rows : List Row) (pending : Option (Text × List Text)) (waiting : Waiting) (position : ℕ)
    → (settle_fault (rules verb) false (held rows pending) ≡ [] → ⊥) → Fails verb (walk_at rows pending waiting position true) words
unfolding walk_fault
doomed_ended verb [] rows pending waiting position bad walk end = bad end
doomed_ended verb (word ∷ words) rows pending waiting position bad walk end = value_bad verb rows pending position bad (none_first _ _ walk)

pub doomed : (verb : Verb) (words : List Text) (rows : List Row) (pending : Option (Text × List Text)) (position : ℕ) → Spelled words
    → (settle_fault (rules verb) false (held rows pending) ≡ [] → ⊥) → Fails verb (walk_at rows pending waits.idle position false) words
unfolding walk_fault walked
doomed verb [] rows pending position sp bad walk end = bad end
doomed verb (word ∷ words) rows pending position sp bad walk end = go sp.0
  where
    turn : turn_fault (leaf verb) [] (walk_at rows pending waits.idle position false) word ≡ []
    turn = none_first _ _ walk

    next : walk_fault (leaf verb) [] (walked (rules verb) [] (walk_at rows pending waits.idle position false) word) words ≡ []
    next = none_second (turn_fault (leaf verb) [] (walk_at rows pending waits.idle position false) word) _ walk

    moved : bytes_eq word (codes "--") ≡ true → walked (rules verb) [] (walk_at rows pending waits.idle position false) word ≡ walk_at rows pending waits.idle position true
    moved e = rw e refl

    go : Sort word → ⊥
    go (dashes e d) = subst (λ (w : Walk). Fails verb w words) (sym (moved e)) (doomed_ended verb words rows pending waits.idle position bad) next end
    go (named name value e l d) = long_bad verb rows pending name value bad (none_first _ _ (rw (e, l) at turn))
    go (short y c ys cs e l s ch d) = short_bad verb (held rows pending) y c ys cs refl ch (none_first _ _ (rw (e, l, s) at turn))
    go (plain e l s d) = value_bad verb rows pending position bad (rw (e, l, s) at turn)
