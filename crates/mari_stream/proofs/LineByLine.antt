-- What has come of a text, line by line.
use Rattle.std.proofs.Common.{◌≡◌, ◌∙◌, ◌+◌, ◌-◌, ◌<◌, ◌^◌, ℕ, true, not, eqb, List, [], ◌∷◌, ◌++◌}
use Rattle.std.proofs.Common.{length, take, drop, Option, None, Ok, Err, refl, sym, ap, subst, append_assoc, append-nil, length-append, arith}
use Rattle.std.specs.List.{list_all}
use Rattle.std.specs.Prelude.{MatchOption, is_some}
use Rattle.std.proofs.Math.Seq.{drop-append-add, take-length}
use Rattle.std.proofs.lemmas.Bool.{and_from, and_parts}
use Rattle.std.proofs.lemmas.List.{drop-drop, length-drop}
use Rattle.mari_lines.specs.Reading.{Lacks}
use Rattle.mari_lines.specs.declared.line.TheConstants.{MOST_LINE}
use Rattle.mari_publish.specs.Gathering.{text_fault}
use Rattle.mari_publish.specs.declared.taking.TakeFault.{TakeFault}
use Rattle.mari_publish.specs.declared.taking.TakeFault.TheVariants as take_fault
use Rattle.mari_stream.specs.Coming.{AllCome, ComeState, ComesFrom, Handles, HasNoLine, IsAhead, IsCome, IsFirstFault, LinesKeep, NoLineIn}
use Rattle.mari_stream.specs.Forms.{BadLineAt, BadOrderAt, Follow, Form, HoldsParts, IsFormless, IsWhole, NoPart, TookLine, TruncatedAt, text_by, with_part}
use Rattle.mari_stream.specs.declared.coming.Ahead.{Ahead}
use Rattle.mari_stream.specs.declared.coming.Ahead.TheVariants as mark
use Rattle.mari_stream.specs.declared.coming.Handled.{Handled}
use Rattle.mari_stream.specs.declared.coming.Handled.TheVariants as step
use Rattle.mari_stream.proofs.Lines.{follow-nothing, follow-push, more-text}
use Rattle.mari_stream.proofs.Stops.{end-stop, line-stop, no-cut, no-part, one-stop, order-stop}

-- ---- bytes

lacks-both : (u v : List ℕ) → Lacks 10 u → Lacks 10 v → Lacks 10 (u ++ v)
lacks-both [] v a b = b
lacks-both (c ∷ u) v a b =
    let h = and_parts (not (eqb c 10)) (list_all (λ b. not (eqb b 10)) u) a in
    and_from (not (eqb c 10)) (list_all (λ b. not (eqb b 10)) (u ++ v)) h.0 (lacks-both u v h.1 b)

-- the bytes from a place on
pub from-place : (items d : List ℕ) (n : ℕ) (xs : List ℕ) → d ≡ items → take (length d - n) (drop n d) ≡ xs → drop n items ≡ xs
from-place items d n xs e is = ap (λ (ys : List ℕ). drop n ys) (sym e) ∙ sym (ap (λ k. take k (drop n d)) (sym (length-drop n d)) ∙ take-length (drop n d)) ∙ is

-- what is left after a line
pub drop-line : (bytes here following : List ℕ) (handled : ℕ) → drop handled bytes ≡ here ++ 10 ∷ following → drop (handled + (length here + 1)) bytes ≡ following
drop-line bytes here following handled e = sym (drop-drop (length here + 1) handled bytes) ∙ ap (λ (xs : List ℕ). drop (length here + 1) xs) e ∙ drop-append-add here (10 ∷ following) 1

-- what is there where something is
pub there : {X : Type 0} (A : Type 0) (Q : X → Type 0) (o : Option X) → is_some o ≡ true → MatchOption o A Q → (x : X) × Q x
there A Q o e h = grind arith

-- ---- the bytes after the handled lines

-- a line that is too long ends
pub long-ends : (u v piece front following rest : List ℕ) → Lacks 10 front → piece ≡ front ++ 10 ∷ following → IsAhead mark.TooLong u rest → IsAhead mark.Ended v (rest ++ piece)
long-ends u v piece front following rest whole is h =
    let len = length-append rest front in
    let long = h.1 in (
      rest ++ front,
      following,
      ap (λ (xs : List ℕ). rest ++ xs) is ∙ sym (append_assoc rest front (10 ∷ following)),
      lacks-both rest front h.0 whole,
      omega (arith, len, long),
    )

-- where no whole line is left
no-line-in : (a : Ahead) (unread rest : List ℕ) → IsAhead a unread rest → NoLineIn a unread → Lacks 10 rest
no-line-in a unread rest e none = grind arith

pub all-there : (a : Ahead) (unread rest : List ℕ) → a ≡ mark.Whole → IsAhead a unread rest → rest ≡ unread
all-there a unread rest e h = subst (λ b. IsAhead b unread rest) e h

ended-there : (a : Ahead) (unread rest : List ℕ) → a ≡ mark.Ended → IsAhead a unread rest → (here : List ℕ) × (after : List ℕ) × (rest ≡ here ++ 10 ∷ after) × Lacks 10 here × (MOST_LINE < length here)
ended-there a unread rest e h = subst (λ b. IsAhead b unread rest) e h

-- nothing is left, and no mark
pub at-end : (a : Ahead) (unread rest : List ℕ) → NoLineIn a unread → IsAhead a unread rest → rest ≡ [] → (a ≡ mark.Whole) × (unread ≡ [])
at-end a unread rest none h e = grind arith

module _ {K L P : Type 0} (form : Form K L P) where
  -- other bytes ahead
  pub ahead-more : (kept : K) (lines : ℕ) (a b : Ahead) (u v piece : List ℕ) → ((rest : List ℕ) → IsAhead a u rest → IsAhead b v (rest ++ piece)) → (text : List ℕ) (parts : List P)
      → ComesFrom form (record { kept = kept; lines = lines; ahead = a; unread = u }) text parts → ComesFrom form (record { kept = kept; lines = lines; ahead = b; unread = v }) (text ++ piece) parts
  ahead-more kept lines a b u v piece more text parts s = record {
    lines = s.lines;
    rest = s.rest ++ piece;
    is = ap (λ (xs : List ℕ). xs ++ piece) s.is ∙ append_assoc (text_by form s.lines) s.rest piece;
    follow = s.follow;
    number = s.number;
    ahead = more s.rest s.ahead;
  }

  -- what has come holds the parts
  pub come-parts : (come : ComeState K) (text : List ℕ) (parts : List P) → ComesFrom form come text parts → HoldsParts form text parts
  come-parts come text parts s = record { lines = s.lines; rest = s.rest; kept = come.kept; is = s.is; follow = s.follow }

  -- no line was whole
  pub nothing-step : (come : ComeState K) (text : List ℕ) (parts : List P) (a : Handled P) → a ≡ step.Nothing → Handles form come text parts (Ok a) → AllCome form come text parts
  nothing-step come text parts a e h = subst (λ (b : Handled P). Handles form come text parts (Ok b)) e h

  module _ (law : LinesKeep form) where
    pub lines-few : (come : ComeState K) → IsCome form come → come.lines < 2 ^ 31
    lines-few come c = let few = law.few c.2.lines c.1 come.kept c.2.follow in let number = c.2.number in omega (arith, few, number)

    pub too-long : (here : List ℕ) → MOST_LINE < length here → IsFormless form here
    too-long here long = λ l i e. let short = law.short l i in let same = ap length e in absurd (omega (arith, short, same, long))

    module _ (come : ComeState K) (text : List ℕ) (parts : List P) (s : ComesFrom form come text parts) where
      -- ---- no line is whole

      pub nothing-next : HasNoLine come → AllCome form come text parts
      nothing-next none =
          let lacks = no-line-in come.ahead come.unread s.rest s.ahead none in
          let stop = end-stop form law text s.lines parts come.kept s.rest s.is s.follow lacks in
          record {
            stands = s;
            no_line = none;
            none = no-part form law text s.lines parts come.kept s.rest stop;
            no_fault = λ n. (
              λ b. no-cut b.here b.after (subst (λ (w : List ℕ). Lacks 10 w) (sym (one-stop form law text _ _ _ _ _ _ _ _ (line-stop form law text n b) stop).rest) lacks),
              λ b. no-cut (form.spelled b.here) b.after (subst (λ (w : List ℕ). Lacks 10 w) (sym (one-stop form law text _ _ _ _ _ _ _ _ (order-stop form law text n b) stop).rest) lacks),
            );
          }

      -- ---- a line has a fault

      pub formless-next : (here following : List ℕ) → s.rest ≡ here ++ 10 ∷ following → Lacks 10 here → IsFormless form here → BadLineAt form text (come.lines + 1) × NoPart form text parts
      formless-next here following is whole none =
          let a : BadLineAt form text (come.lines + 1) = record {
            before = s.lines;
            parts = parts;
            kept = come.kept;
            here = here;
            after = following;
            is = s.is ∙ ap (λ (xs : List ℕ). text_by form s.lines ++ xs) is;
            whole = whole;
            follow = s.follow;
            number = ap (λ n. n + 1) s.number;
            formless = none;
          } in
          (a, no-part form law text s.lines parts come.kept (here ++ 10 ∷ following) (line-stop form law text (come.lines + 1) a))

      pub ended-next : come.ahead ≡ mark.Ended → BadLineAt form text (come.lines + 1) × NoPart form text parts
      ended-next ended = let h = ended-there come.ahead come.unread s.rest ended s.ahead in formless-next h.0 h.1 h.2 h.3 (too-long h.0 h.4)

      misplaced-next : (here following : List ℕ) → s.rest ≡ here ++ 10 ∷ following → (l : L) → form.IsLine l → form.spelled l ≡ here → form.after come.kept l ≡ None
          → BadOrderAt form text (come.lines + 1) × NoPart form text parts
      misplaced-next here following is l range spelled none =
          let a : BadOrderAt form text (come.lines + 1) = record {
            before = s.lines;
            parts = parts;
            kept = come.kept;
            here = l;
            after = following;
            is = s.is ∙ ap (λ (xs : List ℕ). text_by form s.lines ++ xs) (is ∙ ap (λ (xs : List ℕ). xs ++ 10 ∷ following) (sym spelled));
            follow = s.follow;
            number = ap (λ n. n + 1) s.number;
            in_range = range;
            misplaced = none;
          } in
          (a, no-part form law text s.lines parts come.kept (form.spelled l ++ 10 ∷ following) (order-stop form law text (come.lines + 1) a))

      -- the line wasn't taken
      pub refused-next : (here following : List ℕ) → s.rest ≡ here ++ 10 ∷ following → Lacks 10 here → (new : K) (f : TakeFault) → TookLine form come.kept here new (Err f)
          → IsFirstFault form text parts (text_fault (come.lines + 1) f)
      refused-next here following is whole new take_fault.Formless t = formless-next here following is whole t
      refused-next here following is whole new take_fault.OutOfOrder t = misplaced-next here following is t.0 t.1 t.2 t.3
      refused-next here following is whole new take_fault.Memory t = tt

      -- ---- a line was taken

      pub taken : (here following : List ℕ) → s.rest ≡ here ++ 10 ∷ following → (new : K) (x : Option P) → TookLine form come.kept here new (Ok x)
          → (a : Ahead) (unread : List ℕ) → a ≡ mark.Whole → unread ≡ following
          → ComesFrom form (record { kept = new; lines = come.lines + 1; ahead = a; unread = unread }) text (with_part parts x)
      taken here following is new x t a unread all left = record {
        lines = s.lines ++ t.0 ∷ [];
        rest = following;
        is = s.is ∙ ap (λ (xs : List ℕ). text_by form s.lines ++ xs) is ∙ more-text form s.lines t.0 here following t.2;
        follow = follow-push form s.lines parts come.kept new t.0 x s.follow t.1 t.3;
        number = ap (λ n. n + 1) s.number ∙ sym (length-append s.lines (t.0 ∷ []));
        ahead = subst (λ b. IsAhead b unread following) (sym all) (sym left);
      }

    -- nothing has come
    pub all-of-nothing : (kept : K) (bytes : List ℕ) → kept ≡ form.start → bytes ≡ [] → AllCome form (record { kept = kept; lines = 0; ahead = mark.Whole; unread = bytes }) [] []
    all-of-nothing kept bytes start none =
        let follow = subst (λ (k : K). Follow form [] [] k) (sym start) (follow-nothing form) in
        let come : ComeState K = record { kept = kept; lines = 0; ahead = mark.Whole; unread = bytes } in
        let stands : ComesFrom form come [] [] = record { lines = []; rest = []; is = refl; follow = follow; number = refl; ahead = sym none } in
        nothing-next come [] [] stands (subst (λ (xs : List ℕ). Lacks 10 xs) (sym none) refl)

    -- ---- the end of the text

    module _ (come : ComeState K) (text : List ℕ) (parts : List P) (all : AllCome form come text parts) where
      pub whole-end : come.ahead ≡ mark.Whole → come.unread ≡ [] → form.is_done come.kept ≡ true → IsWhole form text parts
      whole-end whole none done =
          let empty : all.stands.rest ≡ [] = all-there come.ahead come.unread all.stands.rest whole all.stands.ahead ∙ none in
          record {
            lines = all.stands.lines;
            kept = come.kept;
            is = all.stands.is ∙ ap (λ (xs : List ℕ). text_by form all.stands.lines ++ xs) empty ∙ append-nil (text_by form all.stands.lines);
            follow = all.stands.follow;
            done = done;
          }

      pub cut-off : (come.ahead ≡ mark.Whole → come.unread ≡ [] → form.is_done come.kept ≡ true → ⊥) → TruncatedAt form text (come.lines + 1)
      cut-off unfinished = record {
        before = all.stands.lines;
        parts = parts;
        kept = come.kept;
        rest = all.stands.rest;
        is = all.stands.is;
        no_line = no-line-in come.ahead come.unread all.stands.rest all.stands.ahead all.no_line;
        follow = all.stands.follow;
        number = ap (λ n. n + 1) all.stands.number;
        unfinished = λ empty done. let h = at-end come.ahead come.unread all.stands.rest all.no_line all.stands.ahead empty in unfinished h.0 h.1 done;
      }
