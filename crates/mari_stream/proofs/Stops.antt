-- Where the lines of a text stop that may follow one another: a text has one such place, and so one answer.
use Rattle.std.proofs.Common.{◌≡◌, ◌∙◌, ◌+◌, ℕ, Bool, true, not, eqb, List, [], ◌∷◌, ◌++◌, length, Option, Some, None, ◌⊎◌, inl, inr, refl, sym, ap, subst, append_assoc, length-append, arith}
use Rattle.std.specs.List.{AllByRecursion, list_all}
use Rattle.std.proofs.lemmas.Bool.{eq-eqb, and_parts}
use Rattle.std.proofs.lemmas.List.{append-nil}
use Rattle.mari_lines.specs.Reading.{Lacks}
use Rattle.mari_publish.specs.declared.fault.TextFault.{TextFault}
use Rattle.mari_publish.specs.declared.fault.TextFault.TheVariants as fault
use Rattle.mari_stream.specs.Coming.{LinesKeep}
use Rattle.mari_stream.specs.Forms.{BadLineAt, BadOrderAt, Follow, Form, HoldsParts, IsLineFault, IsTextFault, IsWhole, NoPart, TruncatedAt, text_by}
use Rattle.mari_stream.proofs.Lines.{all-back, first-text, follow-front, follow-next, not-longer, one-kept, one-parts, text-both}

not-feed : (b : ℕ) → not (eqb b 10) ≡ true → b ≡ 10 → ⊥
not-feed b e is = by-test (eqb b 10) (eq-eqb b 10 is) e
  where
    by-test : (t : Bool) → t ≡ true → not t ≡ true → ⊥
    by-test t a e = cc

-- bytes up to a line feed are those up to the first
line-cut : (u v x y : List ℕ) → Lacks 10 u → Lacks 10 v → u ++ 10 ∷ x ≡ v ++ 10 ∷ y → (u ≡ v) × (x ≡ y)
line-cut [] [] x y a b e = (refl, cc)
line-cut [] (c ∷ v) x y a b e = let is : 10 ≡ c = cc in absurd (not-feed c (and_parts _ (list_all (λ b. not (eqb b 10)) v) b).0 (sym is))
line-cut (c ∷ u) [] x y a b e = let is : c ≡ 10 = cc in absurd (not-feed c (and_parts _ (list_all (λ b. not (eqb b 10)) u) a).0 is)
line-cut (c ∷ u) (d ∷ v) x y a b e =
    let first : c ≡ d = cc in
    let rest : u ++ 10 ∷ x ≡ v ++ 10 ∷ y = cc in
    let more = line-cut u v x y (and_parts _ (list_all (λ b. not (eqb b 10)) u) a).1 (and_parts _ (list_all (λ b. not (eqb b 10)) v) b).1 rest in
    (ap (λ z. z ∷ u) first ∙ ap (λ (w : List ℕ). d ∷ w) more.0, more.1)

-- none ends in bytes without a line feed
pub no-cut : (u x : List ℕ) → Lacks 10 (u ++ 10 ∷ x) → ⊥
no-cut [] x a = not-feed 10 (and_parts _ (list_all (λ b. not (eqb b 10)) x) a).0 refl
no-cut (c ∷ u) x a = no-cut u x (and_parts _ (list_all (λ b. not (eqb b 10)) (u ++ 10 ∷ x)) a).1

-- a list that goes on after one that goes on after it is the same
no-longer : {L : Type 0} (A C D : List L) → A ≡ (A ++ C) ++ D → C ≡ []
no-longer A [] D e = refl
no-longer A (c ∷ C) D e =
    let more = length-append (A ++ c ∷ C) D in
    let one = length-append A (c ∷ C) in
    let same = ap length e in
    absurd (omega (arith, more, one, same))

module _ {K L P : Type 0} (form : Form K L P) (law : LinesKeep form) where
  abbrev Longer : List L → List L → List ℕ → List ℕ → Type 0
  Longer A B X Y = (C : List L) × (B ≡ A ++ C) × (X ≡ text_by form C ++ Y)

  -- two ways to begin a text: one is longer
  compare : (A B : List L) (X Y : List ℕ) {p q : List P} {k r : K} → Follow form A p k → Follow form B q r → text_by form A ++ X ≡ text_by form B ++ Y → Longer A B X Y ⊎ Longer B A Y X
  compare A B X Y f g e = each A B X Y f.in_range g.in_range e
    where
      each : (A B : List L) (X Y : List ℕ) → AllByRecursion form.IsLine A → AllByRecursion form.IsLine B → text_by form A ++ X ≡ text_by form B ++ Y → Longer A B X Y ⊎ Longer B A Y X
      each [] B X Y a b e = inl (B, refl, e)
      each (l ∷ A) [] X Y a b e = inr (l ∷ A, refl, sym e)
      each (l ∷ A) (m ∷ B) X Y a b e =
          let both = sym (first-text form l A X) ∙ e ∙ first-text form m B Y in
          let c = line-cut (form.spelled l) (form.spelled m) (text_by form A ++ X) (text_by form B ++ Y) (law.no_feed l a.0) (law.no_feed m b.0) both in
          let same : l ≡ m = law.same l m a.0 b.0 c.0 in
          elim (each A B X Y a.1 b.1 c.1) [
            | inl h ↦ inl (h.0, ap (λ z. z ∷ B) (sym same) ∙ ap (λ (ls : List L). l ∷ ls) h.1, h.2)
            | inr h ↦ inr (h.0, ap (λ z. z ∷ A) same ∙ ap (λ (ls : List L). m ∷ ls) h.1, h.2)
          ]

  -- lines that may follow one another, of these parts, after which no line goes on
  pub record Stop (text : List ℕ) (A : List L) (parts : List P) (kept : K) (R : List ℕ) : Type 0 where
    pub is : text ≡ text_by form A ++ R
    pub follow : Follow form A parts kept
    pub stops : (c : L) (C : List L) (Y : List ℕ) (x : K × Option P) → form.IsLine c → form.after kept c ≡ Some x → R ≡ form.spelled c ++ 10 ∷ (text_by form C ++ Y) → ⊥

  -- whatever lines it begins with stand before that place
  before-stop : (text : List ℕ) (A : List L) (p : List P) (k : K) (R : List ℕ) → Stop text A p k R → (ps : List P) (h : HoldsParts form text ps) → Longer h.lines A h.rest R
  before-stop text A p k R s ps h = elim (compare h.lines A h.rest R h.follow s.follow (sym h.is ∙ s.is)) [
    | inl c ↦ c
    | inr c ↦ same c.0 c.1 c.2
  ]
    where
      same : (C : List L) → h.lines ≡ A ++ C → R ≡ text_by form C ++ h.rest → Longer h.lines A h.rest R
      same [] e r = ([], sym (append-nil A) ∙ sym e ∙ sym (append-nil h.lines), sym r)
      same (c ∷ C) e r =
          let longer : Follow form (A ++ c ∷ C) ps h.kept = subst (λ (B : List L). Follow form B ps h.kept) e h.follow in
          let n = follow-next form A C c ps p h.kept k longer s.follow in
          absurd (s.stops c C h.rest n.0 (all-back form.IsLine A (c ∷ C) longer.in_range).0 n.1 (r ∙ first-text form c C h.rest))

  abbrev holds : (text : List ℕ) (A : List L) (p : List P) (k : K) (R : List ℕ) → Stop text A p k R → HoldsParts form text p
  holds text A p k R s = record { lines = A; rest = R; kept = k; is = s.is; follow = s.follow }

  -- two such places are one
  pub record OneStop (A B : List L) (p q : List P) (k r : K) (R S : List ℕ) : Type 0 where
    pub lines : A ≡ B
    pub parts : p ≡ q
    pub kept : k ≡ r
    pub rest : R ≡ S

  pub one-stop : (text : List ℕ) (A B : List L) (p q : List P) (k r : K) (R S : List ℕ) → Stop text A p k R → Stop text B q r S → OneStop A B p q k r R S
  one-stop text A B p q k r R S s t =
      let b = before-stop text B q r S t p (holds text A p k R s) in
      let a = before-stop text A p k R s q (holds text B q r S t) in
      let none : b.0 ≡ [] = no-longer A b.0 a.0 (a.1 ∙ ap (λ (ls : List L). ls ++ a.0) b.1) in
      let lines : A ≡ B = sym (b.1 ∙ ap (λ (C : List L). A ++ C) none ∙ append-nil A) in
      let also : Follow form A q r = subst (λ (ls : List L). Follow form ls q r) (sym lines) t.follow in
      record {
        lines = lines;
        parts = one-parts form A p q k r s.follow also;
        kept = one-kept form A p q k r s.follow also;
        rest = b.2 ∙ ap (λ (C : List L). text_by form C ++ S) none;
      }

  -- no further part comes there
  pub no-part : (text : List ℕ) (A : List L) (p : List P) (k : K) (R : List ℕ) → Stop text A p k R → NoPart form text p
  no-part text A p k R s = λ x h.
      let b = before-stop text A p k R s (p ++ x ∷ []) h in
      let f = follow-front form h.lines b.0 p k (subst (λ (ls : List L). Follow form ls p k) b.1 s.follow) in
      let same = one-parts form h.lines (p ++ x ∷ []) f.first_parts h.kept f.first_kept h.follow f.follow in
      not-longer p f.more x (f.longer ∙ ap (λ (ps : List P). ps ++ f.more) (sym same))

  -- ---- each answer is such a place

  pub line-stop : (text : List ℕ) (n : ℕ) (a : BadLineAt form text n) → Stop text a.before a.parts a.kept (a.here ++ 10 ∷ a.after)
  line-stop text n a = record {
    is = a.is;
    follow = a.follow;
    stops = λ c C Y x r next e. a.formless c r (sym (line-cut a.here (form.spelled c) a.after (text_by form C ++ Y) a.whole (law.no_feed c r) e).0);
  }

  pub order-stop : (text : List ℕ) (n : ℕ) (a : BadOrderAt form text n) → Stop text a.before a.parts a.kept (form.spelled a.here ++ 10 ∷ a.after)
  order-stop text n a = record {
    is = a.is;
    follow = a.follow;
    stops = λ c C Y x r next e.
        let cut = line-cut (form.spelled a.here) (form.spelled c) a.after (text_by form C ++ Y) (law.no_feed a.here a.in_range) (law.no_feed c r) e in
        let same : a.here ≡ c = law.same a.here c a.in_range r cut.0 in
        let none : form.after a.kept c ≡ None = ap (λ (l : L). form.after a.kept l) (sym same) ∙ a.misplaced in
        absurd cc;
  }

  -- no whole line is left
  pub end-stop : (text : List ℕ) (A : List L) (p : List P) (k : K) (R : List ℕ) → text ≡ text_by form A ++ R → Follow form A p k → Lacks 10 R → Stop text A p k R
  end-stop text A p k R is follow lacks = record {
    is = is;
    follow = follow;
    stops = λ c C Y x r next e. no-cut (form.spelled c) (text_by form C ++ Y) (subst (λ (w : List ℕ). Lacks 10 w) e lacks);
  }

  truncated-stop : (text : List ℕ) (n : ℕ) (a : TruncatedAt form text n) → Stop text a.before a.parts a.kept a.rest
  truncated-stop text n a = end-stop text a.before a.parts a.kept a.rest a.is a.follow a.no_line

  whole-stop : (text : List ℕ) (parts : List P) (w : IsWhole form text parts) → Stop text w.lines parts w.kept []
  whole-stop text parts w = end-stop text w.lines parts w.kept [] (w.is ∙ sym (append-nil (text_by form w.lines))) w.follow refl

  -- ---- a text has one answer

  pub one-whole : (text : List ℕ) (p q : List P) → IsWhole form text p → IsWhole form text q → p ≡ q
  one-whole text p q a b = (one-stop text _ _ _ _ _ _ _ _ (whole-stop text p a) (whole-stop text q b)).parts

  not-empty : (u x : List ℕ) → [] ≡ u ++ 10 ∷ x → ⊥
  not-empty [] x e = absurd cc
  not-empty (b ∷ u) x e = absurd cc

  pub whole-fault : (text : List ℕ) (p : List P) (f : TextFault) → IsWhole form text p → IsTextFault form text f → ⊥
  whole-fault text p (fault.BadLine n) w a = not-empty a.here a.after (one-stop text _ _ _ _ _ _ _ _ (whole-stop text p w) (line-stop text n a)).rest
  whole-fault text p (fault.BadOrder n) w a = not-empty (form.spelled a.here) a.after (one-stop text _ _ _ _ _ _ _ _ (whole-stop text p w) (order-stop text n a)).rest
  whole-fault text p (fault.Truncated n) w a =
      let s = one-stop text _ _ _ _ _ _ _ _ (whole-stop text p w) (truncated-stop text n a) in
      a.unfinished (sym s.rest) (ap form.is_done (sym s.kept) ∙ w.done)
  whole-fault text p fault.Memory w a = a

  line-order : (text : List ℕ) (m n : ℕ) → BadLineAt form text m → BadOrderAt form text n → ⊥
  line-order text m n a b =
      let s = one-stop text _ _ _ _ _ _ _ _ (line-stop text m a) (order-stop text n b) in
      a.formless b.here b.in_range (sym (line-cut a.here (form.spelled b.here) a.after b.after a.whole (law.no_feed b.here b.in_range) s.rest).0)

  line-truncated : (text : List ℕ) (m n : ℕ) → BadLineAt form text m → TruncatedAt form text n → ⊥
  line-truncated text m n a b =
      let s = one-stop text _ _ _ _ _ _ _ _ (line-stop text m a) (truncated-stop text n b) in
      no-cut a.here a.after (subst (λ (w : List ℕ). Lacks 10 w) (sym s.rest) b.no_line)

  order-truncated : (text : List ℕ) (m n : ℕ) → BadOrderAt form text m → TruncatedAt form text n → ⊥
  order-truncated text m n a b =
      let s = one-stop text _ _ _ _ _ _ _ _ (order-stop text m a) (truncated-stop text n b) in
      no-cut (form.spelled a.here) a.after (subst (λ (w : List ℕ). Lacks 10 w) (sym s.rest) b.no_line)

  number : (A B : List L) (m n : ℕ) → A ≡ B → m ≡ length A + 1 → n ≡ length B + 1 → m ≡ n
  number A B m n e em en = em ∙ ap (λ (ls : List L). length ls + 1) e ∙ sym en

  pub one-fault : (text : List ℕ) (f g : TextFault) → IsTextFault form text f → IsTextFault form text g → f ≡ g
  one-fault text (fault.BadLine m) (fault.BadLine n) a b =
      ap (λ i. fault.BadLine i) (number _ _ m n (one-stop text _ _ _ _ _ _ _ _ (line-stop text m a) (line-stop text n b)).lines a.number b.number)
  one-fault text (fault.BadLine m) (fault.BadOrder n) a b = absurd (line-order text m n a b)
  one-fault text (fault.BadLine m) (fault.Truncated n) a b = absurd (line-truncated text m n a b)
  one-fault text (fault.BadOrder m) (fault.BadLine n) a b = absurd (line-order text n m b a)
  one-fault text (fault.BadOrder m) (fault.BadOrder n) a b =
      ap (λ i. fault.BadOrder i) (number _ _ m n (one-stop text _ _ _ _ _ _ _ _ (order-stop text m a) (order-stop text n b)).lines a.number b.number)
  one-fault text (fault.BadOrder m) (fault.Truncated n) a b = absurd (order-truncated text m n a b)
  one-fault text (fault.Truncated m) (fault.BadLine n) a b = absurd (line-truncated text n m b a)
  one-fault text (fault.Truncated m) (fault.BadOrder n) a b = absurd (order-truncated text n m b a)
  one-fault text (fault.Truncated m) (fault.Truncated n) a b =
      ap (λ i. fault.Truncated i) (number _ _ m n (one-stop text _ _ _ _ _ _ _ _ (truncated-stop text m a) (truncated-stop text n b)).lines a.number b.number)
  one-fault text f fault.Memory a b = absurd b
  one-fault text fault.Memory g a b = absurd a

  -- ---- where the text goes on, a fault stays what it is

  further : (A : List L) (here after text more : List ℕ) → text ≡ text_by form A ++ (here ++ 10 ∷ after) → text ++ more ≡ text_by form A ++ (here ++ 10 ∷ (after ++ more))
  further A here after text more is =
      ap (λ (xs : List ℕ). xs ++ more) is ∙ append_assoc (text_by form A) (here ++ 10 ∷ after) more ∙ ap (λ (xs : List ℕ). text_by form A ++ xs) (append_assoc here (10 ∷ after) more)

  abbrev line-stays : (text more : List ℕ) (n : ℕ) → BadLineAt form text n → BadLineAt form (text ++ more) n
  line-stays text more n a = record {
    before = a.before;
    parts = a.parts;
    kept = a.kept;
    here = a.here;
    after = a.after ++ more;
    is = further a.before a.here a.after text more a.is;
    whole = a.whole;
    follow = a.follow;
    number = a.number;
    formless = a.formless;
  }

  abbrev order-stays : (text more : List ℕ) (n : ℕ) → BadOrderAt form text n → BadOrderAt form (text ++ more) n
  order-stays text more n a = record {
    before = a.before;
    parts = a.parts;
    kept = a.kept;
    here = a.here;
    after = a.after ++ more;
    is = further a.before (form.spelled a.here) a.after text more a.is;
    follow = a.follow;
    number = a.number;
    in_range = a.in_range;
    misplaced = a.misplaced;
  }

  pub fault-stays : (text more : List ℕ) (f : TextFault) → IsLineFault form text f → IsLineFault form (text ++ more) f
  fault-stays text more (fault.BadLine n) a = line-stays text more n a
  fault-stays text more (fault.BadOrder n) a = order-stays text more n a
  fault-stays text more (fault.Truncated n) a = a
  fault-stays text more fault.Memory a = a

  -- and no part comes after a fault
  none-stays : (text more : List ℕ) (parts : List P) → NoPart form text parts → (A : List L) (p : List P) (k : K) (R S : List ℕ) → text ≡ text_by form A ++ R → Stop (text ++ more) A p k S
      → NoPart form (text ++ more) parts
  none-stays text more parts none A p k R S is s = λ x h.
      let b = before-stop (text ++ more) A p k S s (parts ++ x ∷ []) h in
      none x (record {
        lines = h.lines;
        rest = text_by form b.0 ++ R;
        kept = h.kept;
        is = is ∙ ap (λ (ls : List L). text_by form ls ++ R) b.1 ∙ text-both form h.lines b.0 R;
        follow = h.follow;
      })

  pub no-more : (text more : List ℕ) (parts : List P) (f : TextFault) → IsLineFault form text f → NoPart form text parts → NoPart form (text ++ more) parts
  no-more text more parts (fault.BadLine n) a none =
      none-stays text more parts none a.before a.parts a.kept (a.here ++ 10 ∷ a.after) (a.here ++ 10 ∷ (a.after ++ more)) a.is
      (line-stop (text ++ more) n (line-stays text more n a))
  no-more text more parts (fault.BadOrder n) a none =
      none-stays text more parts none a.before a.parts a.kept (form.spelled a.here ++ 10 ∷ a.after) (form.spelled a.here ++ 10 ∷ (a.after ++ more)) a.is
      (order-stop (text ++ more) n (order-stays text more n a))
  no-more text more parts f a none = grind arith

  -- the fault of a whole line is the first of the text
  pub fault-first : (text : List ℕ) (f : TextFault) → IsLineFault form text f → IsTextFault form text f
  fault-first text f a = grind arith
