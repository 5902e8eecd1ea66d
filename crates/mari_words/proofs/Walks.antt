-- All words of a command: `clap` takes them exactly where the definition does, and finds the same.
use Rattle.std.proofs.Common.{◌≡◌, ◌≤◌, Bool, true, false, List, [], ◌∷◌, fold, length, Option, Some, None, option_and_then, refl, sym, subst, arith}
use Rattle.clap.specs.Walk.{Row, Walk, walked}
use Rattle.clap.specs.Faults.{turn_fault, walk_fault}
use Rattle.mari_words.specs.Seen.{Choice, Seen, Text, after, seen_from}
use Rattle.mari_words.specs.Words.{Verb, form_of}
use Rattle.mari_words.proofs.Keys.{rules}
use Rattle.mari_words.proofs.Sorts.{Sort}
use Rattle.mari_words.proofs.Steps.{Fails, Follows, Spelled, State, Turns, at, leaf, none_first, none_second}
use Rattle.mari_words.proofs.Turns.{Pending, mk}
use Rattle.mari_words.proofs.Open.{ended, opened}
use Rattle.mari_words.proofs.Waiting.{waiting}

-- ---- one more word

turns_at : (verb : Verb) (rows : List Row) (pending : Pending) (words : List Text) (nodes workers : Option Text) (wait : Option Choice) (end : Bool) (word : Text)
    → length words ≤ (form_of verb).words → Sort word → State verb rows pending (mk words nodes workers wait end) wait
    → Turns verb (at rows pending (mk words nodes workers wait end)) word (after (form_of verb) (mk words nodes workers wait end) word)
turns_at verb rows pending words nodes workers None true word few s st = ended verb rows pending words word few nodes workers st
turns_at verb rows pending words nodes workers None false word few s st = opened verb rows pending words word few nodes workers st s
turns_at verb rows pending words nodes workers (Some ch) end word few s st =
    subst (λ (e : Bool). Turns verb (at rows pending (mk words nodes workers (Some ch) e)) word (after (form_of verb) (mk words nodes workers (Some ch) e) word)) (sym st.0)
    (subst (λ (p : Pending). Turns verb (at rows p (mk words nodes workers (Some ch) false)) word (after (form_of verb) (mk words nodes workers (Some ch) false) word)) (sym st.1)
    (waiting verb rows words word few ch nodes workers st.2 st.3 s))

turns : (verb : Verb) (w : Walk) (s : Seen) (word : Text) → Follows verb w s → Sort word → Turns verb w word (after (form_of verb) s word)
turns verb w s word f sort =
    subst (λ (x : Walk). Turns verb x word (after (form_of verb) s word)) (sym f.is)
    (turns_at verb f.rows f.pending s.words s.nodes s.workers s.waiting s.ended word f.few sort f.state)

-- ---- all words

abbrev pub Walks : Verb → Walk → List Text → Option Seen → Type 0
Walks verb w words None = Fails verb w words
Walks verb w words (Some s) = (walk_fault (leaf verb) [] w words ≡ []) × Follows verb (fold (walked (rules verb) []) w words) s

pub walks : (verb : Verb) (words : List Text) → Spelled words → (w : Walk) (s : Seen) → Follows verb w s → Walks verb w words (seen_from (form_of verb) s words)
unfolding walk_fault seen_from
walks verb [] sp w s f = (refl, f)
walks verb (word ∷ rest) sp w s f = go (after (form_of verb) s word) (turns verb w s word f sp.0) (walks verb rest sp.1 (walked (rules verb) [] w word))
  where
    more : (t : Seen) → turn_fault (leaf verb) [] w word ≡ [] → (o : Option Seen) → Walks verb (walked (rules verb) [] w word) rest o → Walks verb w (word ∷ rest) o
    more t turn o h = grind arith

    go : (o : Option Seen) → Turns verb w word o → ((t : Seen) → Follows verb (walked (rules verb) [] w word) t → Walks verb (walked (rules verb) [] w word) rest (seen_from (form_of verb) t rest))
        → Walks verb w (word ∷ rest) (option_and_then (λ t. seen_from (form_of verb) t rest) o)
    go None t next = λ walk end. t rest sp.1 (none_first (turn_fault (leaf verb) [] w word) _ walk) (none_second (turn_fault (leaf verb) [] w word) _ walk) end
    go (Some t) p next = more t p.0 (seen_from (form_of verb) t rest) (next t p.1)
