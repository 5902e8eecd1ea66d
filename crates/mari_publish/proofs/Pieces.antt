-- A reader of pieces, line by line.
use Rattle.std.proofs.Common.{◌≡◌, ◌≤◌, ◌<◌, ℕ, ◌+◌, ◌^◌, List, [], ◌∷◌, ◌++◌, length, Option, Some, None, Result, Ok, Err, inl, inr, refl, sym, ap, subst, ◌∙◌, length-append, arith}
use Rattle.std.proofs.lemmas.List.{append-nil}
use Rattle.mari_publish.specs.declared.publication.Part.{Part}
use Rattle.mari_lines.specs.declared.line.Line.{Line}
use Rattle.mari_publish.specs.declared.held.Kept.{Kept}
use Rattle.mari_publish.specs.declared.fault.TextFault.{TextFault}
use Rattle.mari_publish.specs.declared.fault.TextFault.TheVariants as fault
use Rattle.mari_lines.specs.declared.line.TheConstants.{MOST_LINE}
use Rattle.mari_publish.specs.declared.coming.Ahead.{Ahead}
use Rattle.mari_publish.specs.declared.coming.Ahead.TheVariants as mark
use Rattle.mari_publish.specs.declared.coming.Handled.{Handled}
use Rattle.mari_publish.specs.declared.coming.Handled.TheVariants as step
use Rattle.mari_lines.specs.Ranges.{InRange}
use Rattle.mari_lines.specs.Reading.{Lacks}
use Rattle.mari_lines.specs.Spelling.{spelling, line_text}
use Rattle.mari_publish.specs.Texts.{text_of_lines}
use Rattle.mari_publish.specs.Order.{HasRoom}
use Rattle.mari_publish.specs.Faults.{Begins, BadLineAt, BadOrderAt, IsFormless}
use Rattle.mari_publish.specs.Pieces.{Gives, ComeState, IsAhead, ComesFrom, IsCome, NoLineIn, HasNoLine, HasPart, NoPart, NoFault, IsNext, with_part, SameAnswer}
use Rattle.mari_publish.specs.Handling.{IsTaken, HasBadLine, HasBadOrder, Handles}
use Rattle.mari_publish.proofs.Whole.{all_back, all_push}
use Rattle.mari_publish.proofs.Begun.{begins}
use Rattle.mari_publish.proofs.Fits.{Fit}
use Rattle.mari_publish.proofs.Follows.{not_begun}
use Rattle.mari_publish.proofs.Progress.{Progress, more_text, number_fits, counts_fit, has_room}
use Rattle.mari_publish.proofs.Outcomes.{Stop, compare, no_cut, first_text, order_text, one_stop, line_stop, order_stop, line_order, line_number, order_number}
use Rattle.mari_lines.proofs.Lengths.{line_short}
use Rattle.mari_publish.proofs.PartsGiven.{stands_of, next_gives, longer_parts, not_longer, same_last}

-- what a reader stands for is progress in the text
pub progress : (r : ComeState) (text : List ℕ) (parts : List Part) (s : ComesFrom r text parts) → Progress text s.rest (r.lines + 1) s.gives.so_far r.kept
progress r text parts s = record {
  before = s.lines;
  parts = s.is;
  number_is = ap (λ n. n + 1) s.number;
  fit = s.in_range;
  came = s.gives.follow;
  stands = stands_of s.lines s.gives.so_far r.kept s.gives.follow;
}

-- what it keeps is small
pub counts_of : (r : ComeState) → IsCome r → r.kept.counts.published + r.kept.counts.unpublished ≤ 1000
counts_of r h = counts_fit h.0 h.2.rest (r.lines + 1) h.2.gives.so_far r.kept (progress r h.0 h.1 h.2)

pub room_of : (r : ComeState) → IsCome r → HasRoom r.kept.held r.kept.counts
room_of r h = has_room h.0 h.2.rest (r.lines + 1) h.2.gives.so_far r.kept (progress r h.0 h.1 h.2)

pub lines_of_few : (r : ComeState) → IsCome r → r.lines < 2 ^ 31
lines_of_few r h = let few = number_fits h.0 h.2.rest (r.lines + 1) h.2.gives.so_far r.kept (progress r h.0 h.1 h.2) in omega (arith, few)

-- where no line goes on there is no further part
at_stop : (text : List ℕ) (A : List Line) (R : List ℕ) (parts : List Part) (k : Kept) (x : Part) → Stop text A R → Gives A parts k → (h : HasPart text parts x)
    → (C : List Line) → h.lines ≡ A ++ C → R ≡ text_of_lines C ++ h.after → ⊥
at_stop text A R parts k x s g h [] e r =
    let back : A ≡ h.lines ++ [] = sym (append-nil A) ∙ sym e ∙ sym (append-nil h.lines) in
    let m = longer_parts h.lines A [] (parts ++ x ∷ []) parts h.kept k h.gives g back in
    not_longer parts m.0 x m.1
at_stop text A R parts k x s g h (c ∷ C) e r =
    let begun : Begins h.lines = begins h.lines h.gives.so_far h.kept h.kept.held (stands_of h.lines h.gives.so_far h.kept h.gives.follow) h.in_range in
    let longer : Begins (A ++ c ∷ C) = subst Begins e begun in
    let range : InRange c = (all_back InRange A (c ∷ C) (subst Fit e h.in_range)).0 in
    s.stops c C h.after range longer r

pub no_part : (text : List ℕ) (A : List Line) (R : List ℕ) (parts : List Part) (k : Kept) → Stop text A R → Gives A parts k → Fit A → NoPart text parts
no_part text A R parts k s g fit = λ x h. elim (compare A h.lines R h.after fit h.in_range (sym s.parts ∙ h.is)) [
  | inl c ↦ at_stop text A R parts k x s g h c.0 c.1 c.2
  | inr c ↦ (let m = longer_parts h.lines A c.0 (parts ++ x ∷ []) parts h.kept k h.gives g c.1 in not_longer parts m.0 x m.1)
]

-- a text holds one next part
one_part : (text : List ℕ) (parts : List Part) (x y : Part) → HasPart text parts x → HasPart text parts y → x ≡ y
one_part text parts x y g h = elim (compare g.lines h.lines g.after h.after g.in_range h.in_range (sym g.is ∙ h.is)) [
  | inl c ↦ (let m = longer_parts g.lines h.lines c.0 (parts ++ x ∷ []) (parts ++ y ∷ []) g.kept h.kept g.gives h.gives c.1 in same_last parts x y m.0 m.1)
  | inr c ↦ (let m = longer_parts h.lines g.lines c.0 (parts ++ y ∷ []) (parts ++ x ∷ []) h.kept g.kept h.gives g.gives c.1 in sym (same_last parts y x m.0 m.1))
]

abbrev found : Part → Result (Option Part) TextFault
found x = Ok (Some x)

abbrev pub wrong : TextFault → Result (Option Part) TextFault
wrong f = Err f

-- a text and the parts given have one next answer
pub one_next : (text : List ℕ) (parts : List Part) (a b : Result (Option Part) TextFault) → IsNext text parts a → IsNext text parts b → SameAnswer a b
one_next text parts (Err fault.Memory) b s t = inr (inl refl)
one_next text parts (Err (fault.Truncated n)) b s t = absurd s
one_next text parts (Ok (Some x)) (Ok (Some y)) s t = inl (ap found (one_part text parts x y s t))
one_next text parts (Ok (Some x)) (Ok None) s t = absurd (t.0 x s)
one_next text parts (Ok (Some x)) (Err (fault.BadLine n)) s t = absurd (t.1 x s)
one_next text parts (Ok (Some x)) (Err (fault.BadOrder n)) s t = absurd (t.1 x s)
one_next text parts (Ok None) (Ok (Some y)) s t = absurd (s.0 y t)
one_next text parts (Ok None) (Ok None) s t = inl refl
one_next text parts (Ok None) (Err (fault.BadLine n)) s t = absurd ((s.1 n).0 t.0)
one_next text parts (Ok None) (Err (fault.BadOrder n)) s t = absurd ((s.1 n).1 t.0)
one_next text parts (Err (fault.BadLine m)) (Ok (Some y)) s t = absurd (s.1 y t)
one_next text parts (Err (fault.BadLine m)) (Ok None) s t = absurd ((t.1 m).0 s.0)
one_next text parts (Err (fault.BadLine m)) (Err (fault.BadLine n)) s t = inl (ap (λ i. wrong (fault.BadLine i)) (line_number text m n s.0 t.0))
one_next text parts (Err (fault.BadLine m)) (Err (fault.BadOrder n)) s t = absurd (line_order text m n s.0 t.0)
one_next text parts (Err (fault.BadOrder m)) (Ok (Some y)) s t = absurd (s.1 y t)
one_next text parts (Err (fault.BadOrder m)) (Ok None) s t = absurd ((t.1 m).1 s.0)
one_next text parts (Err (fault.BadOrder m)) (Err (fault.BadLine n)) s t = absurd (line_order text n m t.0 s.0)
one_next text parts (Err (fault.BadOrder m)) (Err (fault.BadOrder n)) s t = inl (ap (λ i. wrong (fault.BadOrder i)) (order_number text m n s.0 t.0))
one_next text parts a (Err (fault.Truncated n)) s t = absurd t
one_next text parts a (Err fault.Memory) s t = inr (inr refl)

-- where no whole line is left
no_line_in : (a : Ahead) (unread rest : List ℕ) → IsAhead a unread rest → NoLineIn a unread → Lacks 10 rest
no_line_in a unread rest e none = grind arith

pub lacks_line : (r : ComeState) (text : List ℕ) (parts : List Part) (s : ComesFrom r text parts) → HasNoLine r → Lacks 10 s.rest
lacks_line r text parts s none = no_line_in r.ahead r.unread s.rest s.ahead none

begun : (r : ComeState) (text : List ℕ) (parts : List Part) (s : ComesFrom r text parts) → Begins s.lines
begun r text parts s = begins s.lines s.gives.so_far r.kept r.kept.held (stands_of s.lines s.gives.so_far r.kept s.gives.follow) s.in_range

stop_here : (r : ComeState) (text : List ℕ) (parts : List Part) (s : ComesFrom r text parts) → Lacks 10 s.rest → Stop text s.lines s.rest
stop_here r text parts s lacks = record {
  parts = s.is;
  begins = begun r text parts s;
  stops = λ c C Y i b e. no_cut (spelling c) (text_of_lines C ++ Y) (subst (λ (w : List ℕ). Lacks 10 w) (e ∙ first_text c C Y) lacks);
}

pub nothing_next : (r : ComeState) (text : List ℕ) (parts : List Part) → ComesFrom r text parts → HasNoLine r → NoPart text parts × NoFault text
nothing_next r text parts s none =
    let lacks = lacks_line r text parts s none in
    let stop = stop_here r text parts s lacks in (
      no_part text s.lines s.rest parts r.kept stop s.gives s.in_range,
      λ n. (
        λ b. no_cut b.here b.after (subst (λ (w : List ℕ). Lacks 10 w) (sym (one_stop text _ _ _ _ (line_stop text n b) stop).1) lacks),
        λ b. no_cut (spelling b.here) b.after (subst (λ (w : List ℕ). Lacks 10 w) (sym (one_stop text _ _ _ _ (order_stop text n b) stop).1 ∙ order_text b.here b.after) lacks),
      ),
    )

-- a line of no form
all_there : (a : Ahead) (unread rest : List ℕ) → a ≡ mark.Whole → IsAhead a unread rest → rest ≡ unread
all_there a unread rest e h = subst (λ b. IsAhead b unread rest) e h

ended_there : (a : Ahead) (unread rest : List ℕ) → a ≡ mark.Ended → IsAhead a unread rest → (here : List ℕ) × (after : List ℕ) × (rest ≡ here ++ 10 ∷ after) × Lacks 10 here × (MOST_LINE < length here)
ended_there a unread rest e h = subst (λ b. IsAhead b unread rest) e h

pub too_long : (here : List ℕ) → MOST_LINE < length here → IsFormless here
too_long here long = λ l i e. let short = line_short l i in let same = ap length e in absurd (omega (arith, short, same, long))

formless_next : (r : ComeState) (text : List ℕ) (parts : List Part) (s : ComesFrom r text parts) (here following : List ℕ) → s.rest ≡ here ++ 10 ∷ following → Lacks 10 here → IsFormless here
    → BadLineAt text (r.lines + 1) × NoPart text parts
formless_next r text parts s here following is whole none =
    let a : BadLineAt text (r.lines + 1) = record {
      before = s.lines;
      here = here;
      after = following;
      parts = s.is ∙ ap (λ (xs : List ℕ). text_of_lines s.lines ++ xs) is;
      whole = whole;
      begins = begun r text parts s;
      number = ap (λ n. n + 1) s.number;
      formless = none;
    } in
    (a, no_part text s.lines (here ++ 10 ∷ following) parts r.kept (line_stop text (r.lines + 1) a) s.gives s.in_range)

bad_next : (r : ComeState) (text : List ℕ) (parts : List Part) → ComesFrom r text parts → HasBadLine r → BadLineAt text (r.lines + 1) × NoPart text parts
bad_next r text parts s (inl ended) = let h = ended_there r.ahead r.unread s.rest ended s.ahead in formless_next r text parts s h.0 h.1 h.2 h.3 (too_long h.0 h.4)
bad_next r text parts s (inr h) = formless_next r text parts s h.0 h.1 (all_there r.ahead r.unread s.rest h.2.all s.ahead ∙ h.2.is) h.2.whole h.3

-- a line that may not follow
misplaced_next : (r : ComeState) (text : List ℕ) (parts : List Part) → ComesFrom r text parts → HasBadOrder r → BadOrderAt text (r.lines + 1) × NoPart text parts
misplaced_next r text parts s b =
    let is = all_there r.ahead r.unread s.rest b.begins.all s.ahead ∙ b.begins.is in
    let a : BadOrderAt text (r.lines + 1) = record {
      before = s.lines;
      here = b.line;
      after = b.following;
      parts = s.is ∙ ap (λ (xs : List ℕ). text_of_lines s.lines ++ xs) (is ∙ ap (λ (xs : List ℕ). xs ++ 10 ∷ b.following) (sym b.spelled) ∙ sym (order_text b.line b.following));
      begins = begun r text parts s;
      number = ap (λ n. n + 1) s.number;
      in_range = b.in_range;
      misplaced = not_begun s.lines s.gives.so_far r.kept b.line s.gives.follow b.misplaced;
    } in
    (a, no_part text s.lines (line_text b.line ++ b.following) parts r.kept (order_stop text (r.lines + 1) a) s.gives s.in_range)

-- a fault is the next answer, and the reader stands for what it stood for
pub fault_next : (old new : ComeState) (e : TextFault) → Handles old new (Err e) → (text : List ℕ) (parts : List Part) → ComesFrom old text parts → IsNext text parts (Err e) × ComesFrom new text parts
fault_next old new (fault.BadLine n) h text parts s =
    (subst (λ i. BadLineAt text i × NoPart text parts) (sym h.1) (bad_next old text parts s h.0), subst (λ r. ComesFrom r text parts) (sym h.2) s)
fault_next old new (fault.BadOrder n) h text parts s =
    (subst (λ i. BadOrderAt text i × NoPart text parts) (sym h.1) (misplaced_next old text parts s h.0), subst (λ r. ComesFrom r text parts) (sym h.2) s)
fault_next old new _ h text parts s = grind arith

-- what a step states
pub line_step : (old new : ComeState) (a : Handled) (x : Option Part) → a ≡ step.Line x → Handles old new (Ok a) → IsTaken old new x
line_step old new a x e h = subst (λ b. Handles old new (Ok b)) e h

pub nothing_step : (old new : ComeState) (a : Handled) → a ≡ step.Nothing → Handles old new (Ok a) → HasNoLine old
nothing_step old new a e h = let both : HasNoLine old × (new ≡ old) = subst (λ b. Handles old new (Ok b)) e h in both.0

-- a line was taken
pub taken : (old new : ComeState) (x : Option Part) → IsTaken old new x → (text : List ℕ) (parts : List Part) → ComesFrom old text parts → ComesFrom new text (with_part parts x)
taken old new x t text parts s =
    let is = all_there old.ahead old.unread s.rest t.begins.all s.ahead ∙ t.begins.is in
    record {
      lines = s.lines ++ t.line ∷ [];
      rest = t.following;
      is = s.is ∙ ap (λ (xs : List ℕ). text_of_lines s.lines ++ xs) is ∙ more_text s.lines t.line t.here t.following t.spelled;
      in_range = all_push InRange s.lines t.line s.in_range t.in_range;
      gives = next_gives s.lines parts old.kept new.kept t.line x s.gives t.follows;
      number = t.one_more ∙ ap (λ n. n + 1) s.number ∙ sym (length-append s.lines (t.line ∷ []));
      ahead = subst (λ a. IsAhead a new.unread t.following) (sym t.all) (sym t.left);
    }

pub taken_part : (old new : ComeState) (x : Part) → IsTaken old new (Some x) → (text : List ℕ) (parts : List Part) → ComesFrom old text parts → HasPart text parts x
taken_part old new x t text parts s =
    let m = taken old new (Some x) t text parts s in
    record { lines = m.lines; after = m.rest; is = m.is; in_range = m.in_range; kept = new.kept; gives = m.gives }
