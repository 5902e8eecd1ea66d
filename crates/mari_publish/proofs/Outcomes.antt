-- A text has one outcome.
use Rattle.std.proofs.Common.{◌≡◌, ℕ, ◌+◌, Bool, true, not, eqb, List, [], ◌∷◌, ◌++◌, length, Result, Ok, Err, ◌⊎◌, inl, inr, refl, sym, ap, subst, ◌∙◌, append_assoc, arith}
use Rattle.std.specs.List.{list_all}
use Rattle.std.proofs.lemmas.Bool.{eq-eqb, and_parts}
use Rattle.std.proofs.lemmas.List.{append-nil}
use Rattle.mari_publish.specs.declared.publication.Publication.{Publication}
use Rattle.mari_lines.specs.declared.line.Line.{Line}
use Rattle.mari_publish.specs.declared.fault.TextFault.{TextFault}
use Rattle.mari_publish.specs.declared.fault.TextFault.TheVariants as fault
use Rattle.mari_publish.specs.Lines.{lines_of}
use Rattle.mari_lines.specs.Ranges.{InRange}
use Rattle.mari_lines.specs.Reading.{Lacks}
use Rattle.mari_lines.specs.Spelling.{spelling, line_text}
use Rattle.mari_publish.specs.Texts.{text_of_lines}
use Rattle.mari_publish.specs.Faults.{Begins, IsText, BadLineAt, BadOrderAt, TruncatedAt, IsOutcome, AnswersWith}
use Rattle.mari_lines.proofs.LineWords.{no_feed}
use Rattle.mari_lines.proofs.SameLine.{same_line}
use Rattle.mari_publish.proofs.Whole.{all_front, all_back}
use Rattle.mari_publish.proofs.Fits.{Fit, lines_in_range}
use Rattle.mari_publish.proofs.Follows.{one_publication}

not_feed : (b : ℕ) → not (eqb b 10) ≡ true → b ≡ 10 → ⊥
not_feed b e is = by_test (eqb b 10) (eq-eqb b 10 is) e
  where
    by_test : (t : Bool) → t ≡ true → not t ≡ true → ⊥
    by_test t a e = grind arith

-- bytes up to a line feed are those up to the first
pub line_cut : (u v x y : List ℕ) → Lacks 10 u → Lacks 10 v → u ++ 10 ∷ x ≡ v ++ 10 ∷ y → (u ≡ v) × (x ≡ y)
line_cut [] [] x y a b e = (refl, cc)
line_cut [] (c ∷ v) x y a b e = let is : 10 ≡ c = cc in absurd (not_feed c (and_parts _ (list_all (λ b. not (eqb b 10)) v) b).0 (sym is))
line_cut (c ∷ u) [] x y a b e = let is : c ≡ 10 = cc in absurd (not_feed c (and_parts _ (list_all (λ b. not (eqb b 10)) u) a).0 is)
line_cut (c ∷ u) (d ∷ v) x y a b e =
    let first : c ≡ d = cc in
    let rest : u ++ 10 ∷ x ≡ v ++ 10 ∷ y = cc in
    let more = line_cut u v x y (and_parts _ (list_all (λ b. not (eqb b 10)) u) a).1 (and_parts _ (list_all (λ b. not (eqb b 10)) v) b).1 rest in
    (ap (λ z. z ∷ u) first ∙ ap (λ (w : List ℕ). d ∷ w) more.0, more.1)

pub no_cut : (u x : List ℕ) → Lacks 10 (u ++ 10 ∷ x) → ⊥
no_cut [] x a = not_feed 10 (and_parts _ (list_all (λ b. not (eqb b 10)) x) a).0 refl
no_cut (c ∷ u) x a = no_cut u x (and_parts _ (list_all (λ b. not (eqb b 10)) (u ++ 10 ∷ x)) a).1

-- the text of a first line, and of the others
pub first_text : (l : Line) (ls : List Line) (y : List ℕ) → text_of_lines (l ∷ ls) ++ y ≡ spelling l ++ 10 ∷ (text_of_lines ls ++ y)
first_text l ls y = append_assoc (line_text l) (text_of_lines ls) y ∙ append_assoc (spelling l) (10 ∷ []) (text_of_lines ls ++ y)

abbrev pub Longer : List Line → List Line → List ℕ → List ℕ → Type 0
Longer A B X Y = (C : List Line) × (B ≡ A ++ C) × (X ≡ text_of_lines C ++ Y)

-- two ways to begin a text: one is longer
pub compare : (A B : List Line) (X Y : List ℕ) → Fit A → Fit B → text_of_lines A ++ X ≡ text_of_lines B ++ Y → Longer A B X Y ⊎ Longer B A Y X
compare (l ∷ A) (m ∷ B) X Y a b e =
    let c = line_cut (spelling l) (spelling m) (text_of_lines A ++ X) (text_of_lines B ++ Y) (no_feed l a.0) (no_feed m b.0) (sym (first_text l A X) ∙ e ∙ first_text m B Y) in
    let same : l ≡ m = same_line l m a.0 b.0 c.0 in
    elim (compare A B X Y a.1 b.1 c.1) [
      | inl h ↦ inl (h.0, ap (λ z. z ∷ B) (sym same) ∙ ap (λ (ls : List Line). l ∷ ls) h.1, h.2)
      | inr h ↦ inr (h.0, ap (λ z. z ∷ A) same ∙ ap (λ (ls : List Line). m ∷ ls) h.1, h.2)
    ]
compare _ _ X Y a b e = grind arith

pub fit_begun : (ls : List Line) → Begins ls → Fit ls
fit_begun ls b = all_front InRange ls b.1 (subst Fit b.3 (lines_in_range b.0 b.2))

-- lines that begin a text, after which no line goes on
pub record Stop (text : List ℕ) (A : List Line) (R : List ℕ) : Type 0 where
  pub parts : text ≡ text_of_lines A ++ R
  pub begins : Begins A
  pub stops : (c : Line) (C : List Line) (Y : List ℕ) → InRange c → Begins (A ++ c ∷ C) → R ≡ text_of_lines (c ∷ C) ++ Y → ⊥

no_more : (text : List ℕ) (A B : List Line) (R S : List ℕ) → Stop text A R → Begins B → (C : List Line) → B ≡ A ++ C → R ≡ text_of_lines C ++ S → (A ≡ B) × (R ≡ S)
no_more text A B R S s b [] e r = (sym (e ∙ append-nil A), r)
no_more text A B R S s b (c ∷ C) e r =
    let longer : Begins (A ++ c ∷ C) = subst Begins e b in
    let range : InRange c = (all_back InRange A (c ∷ C) (fit_begun (A ++ c ∷ C) longer)).0 in
    absurd (s.stops c C S range longer r)

-- two stops of a text are one
pub one_stop : (text : List ℕ) (A B : List Line) (R S : List ℕ) → Stop text A R → Stop text B S → (A ≡ B) × (R ≡ S)
one_stop text A B R S s t = elim (compare A B R S (fit_begun A s.begins) (fit_begun B t.begins) (sym s.parts ∙ t.parts)) [
  | inl h ↦ no_more text A B R S s t.begins h.0 h.1 h.2
  | inr h ↦ (let q = no_more text B A S R t s.begins h.0 h.1 h.2 in (sym q.0, sym q.1))
]

not_empty : (u x : List ℕ) → [] ≡ u ++ 10 ∷ x → ⊥
not_empty [] x e = absurd cc
not_empty (b ∷ u) x e = absurd cc

-- each outcome is a stop
text_stop : (text : List ℕ) (p : Publication) → IsText text p → Stop text (lines_of p) []
text_stop text p t = record {
  parts = t.is ∙ sym (append-nil (text_of_lines (lines_of p)));
  begins = (p, [], t.has, sym (append-nil (lines_of p)));
  stops = λ c C Y r b e. not_empty (spelling c) (text_of_lines C ++ Y) (e ∙ first_text c C Y);
}

pub line_stop : (text : List ℕ) (n : ℕ) (a : BadLineAt text n) → Stop text a.before (a.here ++ 10 ∷ a.after)
line_stop text n a = record {
  parts = a.parts;
  begins = a.begins;
  stops = λ c C Y r b e. a.formless c r (sym (line_cut a.here (spelling c) a.after (text_of_lines C ++ Y) a.whole (no_feed c r) (e ∙ first_text c C Y)).0);
}

pub order_text : (l : Line) (after : List ℕ) → line_text l ++ after ≡ spelling l ++ 10 ∷ after
order_text l after = append_assoc (spelling l) (10 ∷ []) after

pub order_stop : (text : List ℕ) (n : ℕ) (a : BadOrderAt text n) → Stop text a.before (line_text a.here ++ a.after)
order_stop text n a = record {
  parts = a.parts;
  begins = a.begins;
  stops = λ c C Y r b e.
      let same = (line_cut (spelling a.here) (spelling c) a.after (text_of_lines C ++ Y) (no_feed a.here a.in_range) (no_feed c r) (sym (order_text a.here a.after) ∙ e ∙ first_text c C Y)).0 in
      let is : c ≡ a.here = sym (same_line a.here c a.in_range r same) in
      a.misplaced (subst (λ z. Begins (a.before ++ z ∷ [])) is (b.0, C ++ b.1, b.2, b.3 ∙ append_assoc a.before (c ∷ C) b.1 ∙ sym (append_assoc a.before (c ∷ []) (C ++ b.1))));
}

pub truncated_stop : (text : List ℕ) (n : ℕ) (a : TruncatedAt text n) → Stop text a.before a.rest
truncated_stop text n a = record {
  parts = a.parts;
  begins = a.begins;
  stops = λ c C Y r b e. no_cut (spelling c) (text_of_lines C ++ Y) (subst (λ (w : List ℕ). Lacks 10 w) (e ∙ first_text c C Y) a.no_line);
}

pub one_text : (text : List ℕ) (p q : Publication) → IsText text p → IsText text q → p ≡ q
one_text text p q a b = one_publication p q a.has b.has (one_stop text _ _ _ _ (text_stop text p a) (text_stop text q b)).0

-- a text has no two outcomes of different kinds
text_line : (text : List ℕ) (p : Publication) (n : ℕ) → IsText text p → BadLineAt text n → ⊥
text_line text p n a b = not_empty b.here b.after (one_stop text _ _ _ _ (text_stop text p a) (line_stop text n b)).1

text_order : (text : List ℕ) (p : Publication) (n : ℕ) → IsText text p → BadOrderAt text n → ⊥
text_order text p n a b = not_empty (spelling b.here) b.after ((one_stop text _ _ _ _ (text_stop text p a) (order_stop text n b)).1 ∙ order_text b.here b.after)

pub text_truncated : (text : List ℕ) (p : Publication) (n : ℕ) → IsText text p → TruncatedAt text n → ⊥
text_truncated text p n a b = let s = one_stop text _ _ _ _ (text_stop text p a) (truncated_stop text n b) in b.unfinished (sym s.1) p a.has s.0

pub line_order : (text : List ℕ) (m n : ℕ) → BadLineAt text m → BadOrderAt text n → ⊥
line_order text m n a b =
    let s = one_stop text _ _ _ _ (line_stop text m a) (order_stop text n b) in
    a.formless b.here b.in_range (sym (line_cut a.here (spelling b.here) a.after b.after a.whole (no_feed b.here b.in_range) (s.1 ∙ order_text b.here b.after)).0)

line_truncated : (text : List ℕ) (m n : ℕ) → BadLineAt text m → TruncatedAt text n → ⊥
line_truncated text m n a b = let s = one_stop text _ _ _ _ (line_stop text m a) (truncated_stop text n b) in no_cut a.here a.after (subst (λ (w : List ℕ). Lacks 10 w) (sym s.1) b.no_line)

order_truncated : (text : List ℕ) (m n : ℕ) → BadOrderAt text m → TruncatedAt text n → ⊥
order_truncated text m n a b =
    let s = one_stop text _ _ _ _ (order_stop text m a) (truncated_stop text n b) in
    no_cut (spelling a.here) a.after (subst (λ (w : List ℕ). Lacks 10 w) (sym s.1 ∙ order_text a.here a.after) b.no_line)

number : (A B : List Line) (m n : ℕ) → A ≡ B → m ≡ length A + 1 → n ≡ length B + 1 → m ≡ n
number A B m n e em en = em ∙ ap (λ (ls : List Line). length ls + 1) e ∙ sym en

-- a fault of a kind stands at one line
pub line_number : (text : List ℕ) (m n : ℕ) → BadLineAt text m → BadLineAt text n → m ≡ n
line_number text m n a b = number _ _ m n (one_stop text _ _ _ _ (line_stop text m a) (line_stop text n b)).0 a.number b.number

pub order_number : (text : List ℕ) (m n : ℕ) → BadOrderAt text m → BadOrderAt text n → m ≡ n
order_number text m n a b = number _ _ m n (one_stop text _ _ _ _ (order_stop text m a) (order_stop text n b)).0 a.number b.number

pub truncated_number : (text : List ℕ) (m n : ℕ) → TruncatedAt text m → TruncatedAt text n → m ≡ n
truncated_number text m n a b = number _ _ m n (one_stop text _ _ _ _ (truncated_stop text m a) (truncated_stop text n b)).0 a.number b.number

abbrev bad : TextFault → Result Publication TextFault
bad f = Err f

pub text_answer : (text : List ℕ) (result : Result Publication TextFault) → IsOutcome text result → (p : Publication) → IsText text p → AnswersWith (Ok p) result
text_answer text (Ok q) o p t = inl (ap (λ (x : Publication). Ok x) (one_text text q p o t))
text_answer text (Err fault.Memory) o p t = inr refl
text_answer text _ o p t = search (arith, text_line, text_order, text_truncated)

pub line_answer : (text : List ℕ) (result : Result Publication TextFault) → IsOutcome text result → (m : ℕ) → BadLineAt text m → AnswersWith (Err (fault.BadLine m)) result
line_answer text (Err (fault.BadLine n)) o m t = inl (ap (λ k. bad (fault.BadLine k)) (line_number text n m o t))
line_answer text (Err fault.Memory) o m t = inr refl
line_answer text _ o m t = search (arith, text_line, line_order, line_truncated)

pub order_answer : (text : List ℕ) (result : Result Publication TextFault) → IsOutcome text result → (m : ℕ) → BadOrderAt text m → AnswersWith (Err (fault.BadOrder m)) result
order_answer text (Err (fault.BadOrder n)) o m t = inl (ap (λ k. bad (fault.BadOrder k)) (order_number text n m o t))
order_answer text (Err fault.Memory) o m t = inr refl
order_answer text _ o m t = search (arith, text_order, line_order, order_truncated)

pub truncated_answer : (text : List ℕ) (result : Result Publication TextFault) → IsOutcome text result → (m : ℕ) → TruncatedAt text m → AnswersWith (Err (fault.Truncated m)) result
truncated_answer text (Err (fault.Truncated n)) o m t = inl (ap (λ k. bad (fault.Truncated k)) (truncated_number text n m o t))
truncated_answer text (Err fault.Memory) o m t = inr refl
truncated_answer text _ o m t = search (arith, text_truncated, line_truncated, order_truncated)
