-- What lines give, one after the other, and their text.
use Rattle.std.proofs.Common.{◌≡◌, ◌∙◌, ℕ, List, [], ◌∷◌, ◌++◌, length, Option, Some, None, refl, sym, ap, append_assoc, length-append, arith}
use Rattle.std.specs.Prelude.{option_and_then}
use Rattle.std.specs.List.{AllByRecursion}
use Rattle.std.proofs.lemmas.List.{append-nil}
use Rattle.std.proofs.lemmas.Grind.{flat_map-append}
use Rattle.mari_stream.specs.Forms.{Follow, Form, HoldsParts, after_lines, text_by, with_part}

some-is : {T : Type 0} (x y : T) → Some x ≡ Some y → x ≡ y
some-is x y e = cc

-- a list isn't longer than itself
pub not-longer : {P : Type 0} (ps xs : List P) (x : P) → ps ≡ (ps ++ x ∷ []) ++ xs → ⊥
not-longer ps xs x e =
    let len = length-append (ps ++ x ∷ []) xs in
    let one = length-append ps (x ∷ []) in
    let same = ap length e in
    absurd (omega (arith, len, one, same))

all-front : {L : Type 0} (R : L → Type 0) (A C : List L) → AllByRecursion R (A ++ C) → AllByRecursion R A
all-front R [] C a = tt
all-front R (l ∷ A) C a = (a.0, all-front R A C a.1)

pub all-back : {L : Type 0} (R : L → Type 0) (A C : List L) → AllByRecursion R (A ++ C) → AllByRecursion R C
all-back R [] C a = a
all-back R (l ∷ A) C a = all-back R A C a.1

all-push : {L : Type 0} (R : L → Type 0) (A : List L) (l : L) → AllByRecursion R A → R l → AllByRecursion R (A ++ l ∷ [])
all-push R [] l a r = (r, tt)
all-push R (m ∷ A) l a r = (a.0, all-push R A l a.1 r)

module _ {K L P : Type 0} (form : Form K L P) where
  -- ---- what is kept, and the parts

  -- lines, and others after them
  after-both : (parts : List P) (kept : K) (A C : List L) → after_lines form parts kept (A ++ C) ≡ option_and_then (λ (x : List P × K). after_lines form x.0 x.1 C) (after_lines form parts kept A)
  after-both parts kept [] C = refl
  after-both parts kept (l ∷ A) C = at (λ (x : K × Option P). after-both (with_part parts x.1) x.0 A C) (form.after kept l)
    where
      at : ((x : K × Option P) → after_lines form (with_part parts x.1) x.0 (A ++ C) ≡ option_and_then (λ (y : List P × K). after_lines form y.0 y.1 C) (after_lines form (with_part parts x.1) x.0 A))
          → (o : Option (K × Option P)) → option_and_then (λ (x : K × Option P). after_lines form (with_part parts x.1) x.0 (A ++ C)) o
          ≡ option_and_then (λ (x : List P × K). after_lines form x.0 x.1 C) (option_and_then (λ (x : K × Option P). after_lines form (with_part parts x.1) x.0 A) o)
      at more None = refl
      at more (Some x) = more x

  -- the first lines give something
  split-at : (C : List L) (o : Option (List P × K)) (x : List P × K) → option_and_then (λ (y : List P × K). after_lines form y.0 y.1 C) o ≡ Some x
      → (y : List P × K) × (o ≡ Some y) × (after_lines form y.0 y.1 C ≡ Some x)
  split-at C None x e = absurd cc
  split-at C (Some y) x e = (y, refl, e)

  -- a line goes on
  first-at : (parts : List P) (ls : List L) (o : Option (K × Option P)) (x : List P × K) → option_and_then (λ (y : K × Option P). after_lines form (with_part parts y.1) y.0 ls) o ≡ Some x
      → (y : K × Option P) × (o ≡ Some y) × (after_lines form (with_part parts y.1) y.0 ls ≡ Some x)
  first-at parts ls None x e = absurd cc
  first-at parts ls (Some y) x e = (y, refl, e)

  -- further lines give further parts
  more-parts : (parts : List P) (kept : K) (ls : List L) (x : List P × K) → after_lines form parts kept ls ≡ Some x → (xs : List P) × (x.0 ≡ parts ++ xs)
  more-parts parts kept [] x e = let is : (parts, kept) ≡ x = some-is (parts, kept) x e in ([], sym (ap (λ (y : List P × K). y.0) is) ∙ sym (append-nil parts))
  more-parts parts kept (l ∷ ls) x e =
      let f = first-at parts ls (form.after kept l) x e in
      joined f.0.1 (more-parts (with_part parts f.0.1) f.0.0 ls x f.2)
    where
      joined : (o : Option P) → (xs : List P) × (x.0 ≡ with_part parts o ++ xs) → (xs : List P) × (x.0 ≡ parts ++ xs)
      joined None m = m
      joined (Some p) m = (p ∷ m.0, m.1 ∙ append_assoc parts (p ∷ []) m.0)

  pub follow-nothing : Follow form [] [] form.start
  follow-nothing = record { in_range = tt; gives = refl }

  -- one line more
  pub follow-push : (lines : List L) (parts : List P) (old new : K) (l : L) (x : Option P) → Follow form lines parts old → form.IsLine l → form.after old l ≡ Some (new, x)
      → Follow form (lines ++ l ∷ []) (with_part parts x) new
  follow-push lines parts old new l x f range e =
      let one : after_lines form parts old (l ∷ []) ≡ Some (with_part parts x, new) = ap (option_and_then (λ (y : K × Option P). after_lines form (with_part parts y.1) y.0 [])) e in
      record {
        in_range = all-push form.IsLine lines l f.in_range range;
        gives = after-both [] form.start lines (l ∷ []) ∙ ap (option_and_then (λ (y : List P × K). after_lines form y.0 y.1 (l ∷ []))) f.gives ∙ one;
      }

  -- the lines at the front, and what those after them do
  pub record Front (A C : List L) (parts : List P) (kept : K) : Type 0 where
    pub first_parts : List P
    pub first_kept : K
    pub follow : Follow form A first_parts first_kept
    pub more : List P
    pub longer : parts ≡ first_parts ++ more
    pub gives : after_lines form first_parts first_kept C ≡ Some (parts, kept)

  pub follow-front : (A C : List L) (parts : List P) (kept : K) → Follow form (A ++ C) parts kept → Front A C parts kept
  follow-front A C parts kept f =
      let s = split-at C (after_lines form [] form.start A) (parts, kept) (sym (after-both [] form.start A C) ∙ f.gives) in
      let m = more-parts s.0.0 s.0.1 C (parts, kept) s.2 in
      record { first_parts = s.0.0; first_kept = s.0.1; follow = record { in_range = all-front form.IsLine A C f.in_range; gives = s.1 }; more = m.0; longer = m.1; gives = s.2 }

  -- lines give one thing
  one-follow : (A : List L) (x y : List P × K) → Follow form A x.0 x.1 → Follow form A y.0 y.1 → x ≡ y
  one-follow A x y f g = some-is x y (sym f.gives ∙ g.gives)

  pub one-parts : (A : List L) (p q : List P) (k r : K) → Follow form A p k → Follow form A q r → p ≡ q
  one-parts A p q k r f g = ap (λ (x : List P × K). x.0) (one-follow A (p, k) (q, r) f g)

  pub one-kept : (A : List L) (p q : List P) (k r : K) → Follow form A p k → Follow form A q r → k ≡ r
  one-kept A p q k r f g = ap (λ (x : List P × K). x.1) (one-follow A (p, k) (q, r) f g)

  -- after these lines the next one may follow
  pub follow-next : (A C : List L) (c : L) (parts first : List P) (kept k : K) → Follow form (A ++ c ∷ C) parts kept → Follow form A first k → (x : K × Option P) × (form.after k c ≡ Some x)
  follow-next A C c parts first kept k f g =
      let front = follow-front A (c ∷ C) parts kept f in
      let n = first-at front.first_parts C (form.after front.first_kept c) (parts, kept) front.gives in
      (n.0, ap (λ (r : K). form.after r c) (one-kept A first front.first_parts k front.first_kept g front.follow) ∙ n.1)

  -- ---- their text

  pub text-both : (A C : List L) (rest : List ℕ) → text_by form (A ++ C) ++ rest ≡ text_by form A ++ (text_by form C ++ rest)
  text-both A C rest = ap (λ (xs : List ℕ). xs ++ rest) (flat_map-append (λ (l : L). form.spelled l ++ 10 ∷ []) A C) ∙ append_assoc (text_by form A) (text_by form C) rest

  -- the first line, and the others
  pub first-text : (l : L) (ls : List L) (rest : List ℕ) → text_by form (l ∷ ls) ++ rest ≡ form.spelled l ++ 10 ∷ (text_by form ls ++ rest)
  first-text l ls rest = append_assoc (form.spelled l ++ 10 ∷ []) (text_by form ls) rest ∙ append_assoc (form.spelled l) (10 ∷ []) (text_by form ls ++ rest)

  -- one line more
  pub more-text : (lines : List L) (l : L) (here rest : List ℕ) → form.spelled l ≡ here → text_by form lines ++ (here ++ 10 ∷ rest) ≡ text_by form (lines ++ l ∷ []) ++ rest
  more-text lines l here rest e = sym (text-both lines (l ∷ []) rest ∙ ap (λ (xs : List ℕ). text_by form lines ++ xs) (first-text l [] rest ∙ ap (λ (xs : List ℕ). xs ++ 10 ∷ rest) e))

  -- where the text goes on its parts stay
  pub parts-stay : (text more : List ℕ) (parts : List P) → HoldsParts form text parts → HoldsParts form (text ++ more) parts
  parts-stay text more parts h = record {
    lines = h.lines;
    rest = h.rest ++ more;
    kept = h.kept;
    is = ap (λ (xs : List ℕ). xs ++ more) h.is ∙ append_assoc (text_by form h.lines) h.rest more;
    follow = h.follow;
  }
