-- More of the text, and its end.
use Rattle.std.proofs.Common.{◌≡◌, ℕ, ◌+◌, true, not, eqb, List, [], ◌∷◌, ◌++◌, length, take, drop, ◌-◌, Option, Result, Ok, Err, refl, sym, ap, subst, ◌∙◌, append_assoc, length-append, arith}
use Rattle.std.specs.Prelude.{IsOk, is_some, MatchOption}
use Rattle.std.specs.List.{list_all}
use Rattle.std.proofs.lemmas.List.{drop-drop, length-drop}
use Rattle.std.proofs.Math.Seq.{drop-append-add, take-length}
use Rattle.mari_publish.specs.declared.publication.Part.{Part}
use Rattle.mari_publish.specs.declared.publication.Publication.{Publication}
use Rattle.mari_publish.specs.declared.held.Kept.{Kept}
use Rattle.mari_publish.specs.declared.fault.TextFault.{TextFault}
use Rattle.mari_publish.specs.declared.fault.TextFault.TheVariants as fault
use Rattle.mari_publish.specs.declared.coming.Ahead.{Ahead}
use Rattle.mari_publish.specs.declared.coming.Ahead.TheVariants as mark
use Rattle.mari_lines.specs.Reading.{Lacks}
use Rattle.mari_lines.specs.Spelling.{line_text}
use Rattle.mari_publish.specs.Texts.{text_of_lines}
use Rattle.mari_publish.specs.Order.{nothing_kept}
use Rattle.mari_publish.specs.Faults.{IsText, BadLineAt, BadOrderAt, TruncatedAt}
use Rattle.mari_publish.specs.Pieces.{Gives, parts_so_far, ComeState, IsAhead, ComesFrom, NoLineIn, HasNoLine, IsWhole, HoldsParts, HasPart, IsEnd}
use Rattle.std.proofs.lemmas.Bool.{and_parts, and_from}
use Rattle.mari_publish.proofs.Progress.{whole_text, truncated}
use Rattle.mari_publish.proofs.Outcomes.{text_truncated, truncated_number}
use Rattle.mari_publish.proofs.PartsGiven.{gives_nothing}
use Rattle.mari_publish.proofs.Pieces.{progress, lacks_line}

-- a reader of which nothing has come
pub stands_for_nothing : (kept : Kept) (bytes : List ℕ) → kept ≡ nothing_kept → bytes ≡ [] → ComesFrom (record { kept = kept; lines = 0; ahead = mark.Whole; unread = bytes }) [] []
stands_for_nothing kept bytes k e = record { lines = []; rest = []; is = refl; in_range = tt; gives = subst (λ k. Gives [] [] k) (sym k) gives_nothing; number = refl; ahead = sym e }

-- a reader with other bytes ahead
pub ahead_more : (kept : Kept) (lines : ℕ) (a b : Ahead) (u v : List ℕ) (piece : List ℕ) → ((rest : List ℕ) → IsAhead a u rest → IsAhead b v (rest ++ piece)) → (text : List ℕ) (parts : List Part)
    → ComesFrom (record { kept = kept; lines = lines; ahead = a; unread = u }) text parts → ComesFrom (record { kept = kept; lines = lines; ahead = b; unread = v }) (text ++ piece) parts
ahead_more kept lines a b u v piece more text parts s = record {
  lines = s.lines;
  rest = s.rest ++ piece;
  is = ap (λ (xs : List ℕ). xs ++ piece) s.is ∙ append_assoc (text_of_lines s.lines) s.rest piece;
  in_range = s.in_range;
  gives = s.gives;
  number = s.number;
  ahead = more s.rest s.ahead;
}

lacks_both : (u v : List ℕ) → Lacks 10 u → Lacks 10 v → Lacks 10 (u ++ v)
lacks_both [] v a b = b
lacks_both (c ∷ u) v a b =
    let h = and_parts (not (eqb c 10)) (list_all (λ b. not (eqb b 10)) u) a in
    and_from (not (eqb c 10)) (list_all (λ b. not (eqb b 10)) (u ++ v)) h.0 (lacks_both u v h.1 b)

-- a line that is too long ends
pub long_ends : (u v piece front following rest : List ℕ) → Lacks 10 front → piece ≡ front ++ 10 ∷ following → IsAhead mark.TooLong u rest → IsAhead mark.Ended v (rest ++ piece)
long_ends u v piece front following rest whole is h =
    let len = length-append rest front in
    let long = h.1 in (
      rest ++ front,
      following,
      ap (λ (xs : List ℕ). rest ++ xs) is ∙ sym (append_assoc rest front (10 ∷ following)),
      lacks_both rest front h.0 whole,
      omega (arith, len, long),
    )

-- the bytes from a place on
pub from_place : (items d : List ℕ) (n : ℕ) (xs : List ℕ) → d ≡ items → take (length d - n) (drop n d) ≡ xs → drop n items ≡ xs
from_place items d n xs e is = ap (λ (ys : List ℕ). drop n ys) (sym e) ∙ sym (ap (λ k. take k (drop n d)) (sym (length-drop n d)) ∙ take-length (drop n d)) ∙ is

-- what is left after a line
pub drop_line : (bytes here following : List ℕ) (handled : ℕ) → drop handled bytes ≡ here ++ 10 ∷ following → drop (handled + (length here + 1)) bytes ≡ following
drop_line bytes here following handled e = sym (drop-drop (length here + 1) handled bytes) ∙ ap (λ (xs : List ℕ). drop (length here + 1) xs) e ∙ drop-append-add here (10 ∷ following) 1

-- what is there where something is
pub there : {X : Type 0} (A : Type 0) (P : X → Type 0) (o : Option X) → is_some o ≡ true → MatchOption o A P → (x : X) × P x
there A P o e h = grind arith

-- a fault stays where it is
pub line_stays : (text piece : List ℕ) (n : ℕ) → BadLineAt text n → BadLineAt (text ++ piece) n
line_stays text piece n a = record {
  before = a.before;
  here = a.here;
  after = a.after ++ piece;
  parts = ap (λ (xs : List ℕ). xs ++ piece) a.parts
      ∙ append_assoc (text_of_lines a.before) (a.here ++ 10 ∷ a.after) piece ∙ ap (λ (xs : List ℕ). text_of_lines a.before ++ xs) (append_assoc a.here (10 ∷ a.after) piece);
  whole = a.whole;
  begins = a.begins;
  number = a.number;
  formless = a.formless;
}

pub order_stays : (text piece : List ℕ) (n : ℕ) → BadOrderAt text n → BadOrderAt (text ++ piece) n
order_stays text piece n a = record {
  before = a.before;
  here = a.here;
  after = a.after ++ piece;
  parts = ap (λ (xs : List ℕ). xs ++ piece) a.parts
      ∙ append_assoc (text_of_lines a.before) (line_text a.here ++ a.after) piece ∙ ap (λ (xs : List ℕ). text_of_lines a.before ++ xs) (append_assoc (line_text a.here) a.after piece);
  begins = a.begins;
  number = a.number;
  in_range = a.in_range;
  misplaced = a.misplaced;
}

-- parts that are there stay there
pub parts_stay : (text piece : List ℕ) (parts : List Part) → HoldsParts text parts → HoldsParts (text ++ piece) parts
parts_stay text piece parts h = record {
  lines = h.lines;
  after = h.after ++ piece;
  is = ap (λ (xs : List ℕ). xs ++ piece) h.is ∙ append_assoc (text_of_lines h.lines) h.after piece;
  in_range = h.in_range;
  kept = h.kept;
  gives = h.gives;
}

pub part_stays : (text piece : List ℕ) (parts : List Part) (x : Part) → HasPart text parts x → HasPart (text ++ piece) parts x
part_stays text piece parts x h = parts_stay text piece (parts ++ x ∷ []) h

-- the end of the text
nothing_ahead : (a : Ahead) (unread rest : List ℕ) → a ≡ mark.Whole → unread ≡ [] → IsAhead a unread rest → rest ≡ []
nothing_ahead a unread rest all none h = let is : rest ≡ unread = subst (λ b. IsAhead b unread rest) all h in is ∙ none

pub whole_end : {T : Type 0} (done : T) (r : ComeState) (text : List ℕ) (parts : List Part) → ComesFrom r text parts → IsWhole r → IsEnd text parts (Ok done)
whole_end done r text parts s w =
    let p = s.gives.so_far in
    let empty = nothing_ahead r.ahead r.unread s.rest w.all w.none s.ahead in
    (p, whole_text text s.rest (r.lines + 1) p p r.kept (progress r text parts s) w.done empty refl, s.gives.given ∙ ap (λ h. parts_so_far p h) w.done)

at_end : (a : Ahead) (unread rest : List ℕ) → NoLineIn a unread → IsAhead a unread rest → rest ≡ [] → (a ≡ mark.Whole) × (unread ≡ [])
at_end mark.Whole unread rest none h e = (refl, sym h ∙ e)
at_end mark.TooLong unread rest none h e = let long = h.1 in let len = ap length e in absurd (omega (arith, long, len))
at_end mark.Ended unread rest none h e = absurd none

pub cut_off : (r : ComeState) (text : List ℕ) (parts : List Part) → ComesFrom r text parts → HasNoLine r → (IsWhole r → ⊥) → TruncatedAt text (r.lines + 1)
cut_off r text parts s none unfinished =
    truncated text s.rest (r.lines + 1) s.gives.so_far r.kept (progress r text parts s) (lacks_line r text parts s none)
    (λ done empty. let h = at_end r.ahead r.unread s.rest none s.ahead empty in absurd (unfinished (record { all = h.0; none = h.1; done = done })))

-- each answer at the end comes exactly where it is due
pub end_of_text : {T : Type 0} (text : List ℕ) (parts : List Part) (p : Publication) (result : Result T TextFault) → IsEnd text parts result → IsText text p → IsOk result
end_of_text text parts p result e t = grind (arith, text_truncated)

pub end_cut_off : {T : Type 0} (text : List ℕ) (parts : List Part) (n : ℕ) (result : Result T TextFault) → IsEnd text parts result → TruncatedAt text n → result ≡ Err (fault.Truncated n)
end_cut_off text parts n (Err (fault.Truncated m)) e t = ap (λ i. Err (fault.Truncated i)) (truncated_number text m n e t)
end_cut_off text parts n _ e t = search (arith, text_truncated)
