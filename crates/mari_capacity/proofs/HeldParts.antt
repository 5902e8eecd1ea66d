-- The parts that a text holds: one list of them begins the other, and the longest is that after which none comes.
use Rattle.std.proofs.Common.{◌≡◌, ◌∙◌, ℕ, List, [], ◌∷◌, ◌++◌, length, take, drop, Option, Some, None, ◌⊎◌, inl, inr, refl, sym, ap, subst, arith, append_assoc, length-append}
use Rattle.std.specs.Prelude.{option_and_then}
use Rattle.std.proofs.lemmas.Grind.{flat_map-append}
use Rattle.std.proofs.lemmas.List.{append-nil, nil_from_length, take-append-drop}
use Rattle.mari_io.specs.Outside.{most_given}
use Rattle.mari_lines.specs.Spelling.{spelling}
use Rattle.mari_lines.specs.declared.line.Line.{Line}
use Rattle.mari_publish.specs.Faults.{IsText}
use Rattle.mari_publish.specs.Lines.{lines_of, published_in, unpublished_in}
use Rattle.mari_publish.specs.Order.{after, after_all, grown, nothing_kept, nothing_read}
use Rattle.mari_publish.specs.Pieces.{Gives, HoldsParts, NoPart, parts_of}
use Rattle.mari_publish.specs.Texts.{text_of_lines}
use Rattle.mari_publish.specs.declared.held.Held.TheVariants as held
use Rattle.mari_publish.specs.declared.held.Kept.{Kept}
use Rattle.mari_publish.specs.declared.publication.Part.{Part}
use Rattle.mari_publish.specs.declared.publication.Publication.{Publication}
use Rattle.mari_publish.proofs.Fits.{lines_in_range}
use Rattle.mari_publish.proofs.Follows.{accepted, in_parts}
use Rattle.mari_publish.proofs.MoreText.{parts_stay}
use Rattle.mari_publish.proofs.Outcomes.{compare, first_text}
use Rattle.mari_publish.proofs.PartsGiven.{longer_parts, next_gives}
use Rattle.mari_publish.proofs.Whole.{all_front}

-- what is held of a page as far as it is given, the page holds
pub given-parts : (page : List ℕ) (parts : List Part) → HoldsParts (take most_given page) parts → HoldsParts page parts
given-parts page parts h = subst (λ (t : List ℕ). HoldsParts t parts) (take-append-drop most_given page) (parts_stay (take most_given page) (drop most_given page) parts h)

-- ---- lines that give more parts give the next part first

record NextPart (A C : List Line) (P Q : List Part) : Type 0 where
  pub next : Part
  pub others : List Part
  pub is : Q ≡ (P ++ next ∷ []) ++ others
  pub lines : List Line
  pub rest : List Line
  pub apart : A ++ C ≡ lines ++ rest
  pub kept : Kept
  pub gives : Gives lines (P ++ next ∷ []) kept

no-more : (P Q xs ys : List Part) → Q ≡ P ++ xs → P ≡ Q ++ ys → Q ≡ P
no-more P Q xs ys e f =
    let a = ap length e in
    let b = ap length f in
    let c = length-append P xs in
    let d = length-append Q ys in
    let none : xs ≡ [] = nil_from_length xs (omega (arith, a, b, c, d)) in
    e ∙ ap (λ (zs : List Part). P ++ zs) none ∙ append-nil P

next-of : (C A : List Line) (P Q : List Part) (k r : Kept) → Gives A P k → Gives (A ++ C) Q r → (Q ≡ P) ⊎ NextPart A C P Q
next-of [] A P Q k r g h = grind (arith, longer_parts, append-nil, no-more)
next-of (l ∷ C) A P Q k r g h =
    by (λ m own. next-of C (A ++ l ∷ []) P Q m r own (subst (λ (ls : List Line). Gives ls Q r) (sym (append_assoc A (l ∷ []) C)) h)) (after k k.held l) refl apart
  where
    longer : A ++ l ∷ C ≡ (A ++ l ∷ []) ++ C
    longer = sym (append_assoc A (l ∷ []) C)

    apart : option_and_then (λ (x : Kept × Option Part). after_all (grown g.so_far x.1) x.0 C) (after k k.held l) ≡ Some (h.so_far, r)
    apart = sym (in_parts nothing_read nothing_kept A (l ∷ C) ∙ ap (option_and_then (λ (s : Publication × Kept). after_all s.0 s.1 (l ∷ C))) g.follow) ∙ h.follow

    by : ((m : Kept) → Gives (A ++ l ∷ []) P m → (Q ≡ P) ⊎ NextPart (A ++ l ∷ []) C P Q)
        → (o : Option (Kept × Option Part)) → after k k.held l ≡ o
        → option_and_then (λ (x : Kept × Option Part). after_all (grown g.so_far x.1) x.0 C) o ≡ Some (h.so_far, r)
        → (Q ≡ P) ⊎ NextPart A (l ∷ C) P Q
    by rest None e f = absurd cc
    by rest (Some (m, None)) e f =
        let own : Gives (A ++ l ∷ []) P m = next_gives A P k m l None g e in
        elim (rest m own) [
          | inl same ↦ inl same
          | inr n ↦ inr (record { next = n.next; others = n.others; is = n.is; lines = n.lines; rest = n.rest; apart = longer ∙ n.apart; kept = n.kept; gives = n.gives })
        ]
    by rest (Some (m, Some x)) e f =
        let own : Gives (A ++ l ∷ []) (P ++ x ∷ []) m = next_gives A P k m l (Some x) g e in
        let more = longer_parts (A ++ l ∷ []) (A ++ l ∷ C) C (P ++ x ∷ []) Q m r own h longer in
        inr (record { next = x; others = more.0; is = more.1; lines = A ++ l ∷ []; rest = C; apart = longer; kept = m; gives = own })

-- a text holds of lines the first ones too
front-held : (text : List ℕ) (Q : List Part) (h : HoldsParts text Q) (P : List Part) (A C : List Line) (k : Kept) → h.lines ≡ A ++ C → Gives A P k → HoldsParts text P
front-held text Q h P A C k e g = grind (arith, flat_map-append, append_assoc, all_front)

-- a text that holds these parts, and none after them, holds no others
pub all-parts : (text : List ℕ) (P Q : List Part) → HoldsParts text P → NoPart text P → HoldsParts text Q → (xs : List Part) × (P ≡ Q ++ xs)
all-parts text P Q g none h = elim (compare h.lines g.lines h.after g.after h.in_range g.in_range (sym h.is ∙ g.is)) [
  | inl c ↦ longer_parts h.lines g.lines c.0 Q P h.kept g.kept h.gives g.gives c.1
  | inr c ↦ elim (next-of c.0 g.lines P Q g.kept h.kept g.gives (subst (λ (ls : List Line). Gives ls Q h.kept) c.1 h.gives)) [
    | inl same ↦ ([], sym same ∙ sym (append-nil Q))
    | inr n ↦ absurd (none n.next (front-held text Q h (P ++ n.next ∷ []) n.lines n.rest n.kept (c.1 ∙ n.apart) n.gives))
  ]
]

-- of the parts that a text holds one list begins the other
pub one-longer : (text : List ℕ) (P Q : List Part) → HoldsParts text P → HoldsParts text Q → ((xs : List Part) × (Q ≡ P ++ xs)) ⊎ ((xs : List Part) × (P ≡ Q ++ xs))
one-longer text P Q g h = elim (compare g.lines h.lines g.after h.after g.in_range h.in_range (sym g.is ∙ h.is)) [
  | inl c ↦ inl (longer_parts g.lines h.lines c.0 P Q g.kept h.kept g.gives h.gives c.1)
  | inr c ↦ inr (longer_parts h.lines g.lines c.0 Q P h.kept g.kept h.gives g.gives c.1)
]

-- ---- nothing holds no line

nothing-left : (ls : List Line) (after : List ℕ) → [] ≡ text_of_lines ls ++ after → ls ≡ []
nothing-left [] after e = refl
nothing-left (l ∷ ls) after e =
    let whole : 0 ≡ length (spelling l ++ 10 ∷ (text_of_lines ls ++ after)) = ap length (e ∙ first_text l ls after) in
    let some = length-append (spelling l) (10 ∷ (text_of_lines ls ++ after)) in
    absurd (omega (arith, whole, some))

-- ---- the parts of a page are those of its publication

whole-gives : (p : Publication) (page : List ℕ) → IsText page p → (k : Kept) × Gives (lines_of p) (parts_of p) k
whole-gives p page t = (
  record { held = held.Done; counts = record { published = published_in p.blocks; unpublished = unpublished_in p.blocks } },
  record { so_far = p; follow = accepted p t.has; are = refl; given = refl; published = refl; unpublished = refl },
)

pub parts-begin : (p : Publication) (page : List ℕ) (parts : List Part) → IsText page p → HoldsParts page parts → (xs : List Part) × (parts_of p ≡ parts ++ xs)
parts-begin p page parts t h =
    let g = whole-gives p page t in
    elim (compare h.lines (lines_of p) h.after [] h.in_range (lines_in_range p t.has) (sym h.is ∙ t.is ∙ sym (append-nil (text_of_lines (lines_of p))))) [
      | inl c ↦ longer_parts h.lines (lines_of p) c.0 parts (parts_of p) h.kept g.0 h.gives g.1 c.1
      | inr c ↦ (
          let none : c.0 ≡ [] = nothing-left c.0 h.after c.2 in
          let same : lines_of p ≡ h.lines ++ [] = sym (append-nil (lines_of p)) ∙ ap (λ (ls : List Line). lines_of p ++ ls) (sym none) ∙ sym c.1 ∙ sym (append-nil h.lines) in
          longer_parts h.lines (lines_of p) [] parts (parts_of p) h.kept g.0 h.gives g.1 same)
    ]
