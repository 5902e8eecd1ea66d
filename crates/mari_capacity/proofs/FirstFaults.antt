-- The first fault of the check in a text.
use Rattle.std.proofs.Common.{◌≡◌, ◌∙◌, ℕ, List, [], ◌∷◌, ◌++◌, map, length, take, ◌⊎◌, inl, inr, refl, sym, ap, subst, arith, append_assoc}
use Rattle.std.proofs.Math.Seq.{take-append_seam}
use Rattle.std.proofs.lemmas.List.{append-nil}
use Rattle.mari_units.proofs.Lists.{get_seam}
use Rattle.mari_lines.specs.declared.line.AmountLine.{AmountLine}
use Rattle.mari_lines.specs.declared.line.MoneyLine.{MoneyLine}
use Rattle.mari_io.specs.Outside.{most_given}
use Rattle.mari_publish.specs.Faults.{IsText}
use Rattle.mari_publish.specs.Pieces.{HoldsParts, NoPart, parts_of}
use Rattle.mari_publish.specs.declared.publication.Block.{Block}
use Rattle.mari_publish.specs.declared.publication.Part.{Part}
use Rattle.mari_publish.specs.declared.publication.Part.TheVariants as part
use Rattle.mari_publish.specs.declared.publication.Publication.{Publication}
use Rattle.mari_publish.proofs.Outcomes.{one_text}
use Rattle.mari_remain.specs.declared.books.Books.{Books}
use Rattle.mari_progress.specs.Totals.{HasHead}
use Rattle.mari_check.specs.Day.{AreFree, IsFirstFault, IsFreeIn, IsMissing, IsTotalsFault, IsValidPublication}
use Rattle.mari_capacity.specs.Ends.{AreChecked, HasEndFault, HasFault, HasPartFault, NoPartFault, blocks_in}
use Rattle.mari_capacity.proofs.HeldParts.{all-parts, given-parts, one-longer, parts-begin}

-- ---- blocks among parts

pub blocks_in-append : (ps qs : List Part) → blocks_in (ps ++ qs) ≡ blocks_in ps ++ blocks_in qs
blocks_in-append [] qs = refl
blocks_in-append (part.Head date quarters budget ∷ ps) qs = blocks_in-append ps qs
blocks_in-append (part.Block b ∷ ps) qs = ap (λ (bs : List Block). b ∷ bs) (blocks_in-append ps qs)
blocks_in-append (part.Totals os providers ∷ ps) qs = blocks_in-append ps qs

pub blocks_in-blocks : (bs : List Block) → blocks_in (map part.Block bs) ≡ bs
blocks_in-blocks [] = refl
blocks_in-blocks (b ∷ bs) = ap (λ (xs : List Block). b ∷ xs) (blocks_in-blocks bs)

pub blocks_in-rest : (bs : List Block) (os : List MoneyLine) (ps : List AmountLine) → blocks_in (map part.Block bs ++ part.Totals os ps ∷ []) ≡ bs
blocks_in-rest bs os ps = blocks_in-append (map part.Block bs) (part.Totals os ps ∷ []) ∙ append-nil (blocks_in (map part.Block bs)) ∙ blocks_in-blocks bs

pub blocks_in-parts : (p : Publication) → blocks_in (parts_of p) ≡ p.blocks
blocks_in-parts p = blocks_in-rest p.blocks p.operators p.providers

-- ---- parts that were checked have no fault

pub checked-free : (books : Books) (P : List Part) (x : Part) (ys : List Part) (run number : ℕ) → AreChecked books (P ++ x ∷ ys) → HasFault books P x run number → ⊥
checked-free books [] (part.Head date quarters budget) ys run number checked f = f.1 checked.0
checked-free books [] (part.Block b) ys run number checked f = checked
checked-free books [] (part.Totals os ps) ys run number checked f = f
checked-free books (part.Head d q n ∷ P) (part.Head date quarters budget) ys run number checked f = let none : part.Head d q n ∷ P ≡ [] = f.0 in absurd (cc none)
checked-free books (part.Head d q n ∷ P) (part.Block b) ys run number checked f =
    let before = blocks_in P in
    let after = blocks_in ys in
    let free : AreFree books n (before ++ b ∷ after) = subst (λ (bs : List Block). AreFree books n bs) (blocks_in-append P (part.Block b ∷ ys)) checked.1 in
    let own = free (length before) b (get_seam before after b) f.1.0 in
    f.1.1.there (subst (λ (bs : List Block). IsFreeIn books n bs b f.1.0) (take-append_seam before (b ∷ after)) own)
checked-free books (part.Head d q n ∷ P) (part.Totals os ps) ys run number checked f = f
checked-free books (part.Block c ∷ P) x ys run number checked f = checked
checked-free books (part.Totals os ps ∷ P) x ys run number checked f = checked

-- nor have those of a publication whose head and blocks have none
publication-checked : (books : Books) (p : Publication) → HasHead books p.date p.quarters → AreFree books p.budget p.blocks → AreChecked books (parts_of p)
publication-checked books p head free = (head, subst (λ (bs : List Block). AreFree books p.budget bs) (sym (blocks_in-parts p)) free)

pub text-clean : (books : Books) (page : List ℕ) (p : Publication) → IsText page p → HasHead books p.date p.quarters → AreFree books p.budget p.blocks → NoPartFault books page
text-clean books page p t head free = λ run number f.
    let b = parts-begin p page (f.parts ++ f.part ∷ []) t f.there in
    let checked = subst (λ (ps : List Part). AreChecked books ps) (b.1 ∙ append_assoc f.parts (f.part ∷ []) b.0) (publication-checked books p head free) in
    checked-free books f.parts f.part b.0 run number checked f.fault

-- nor those of a text that holds no others
pub parts-clean : (books : Books) (text : List ℕ) (parts : List Part) → HoldsParts text parts → NoPart text parts → AreChecked books parts → NoPartFault books text
parts-clean books text parts holds none checked = λ run number f.
    let m = all-parts text parts (f.parts ++ f.part ∷ []) holds none f.there in
    checked-free books f.parts f.part m.0 run number (subst (λ (ps : List Part). AreChecked books ps) (m.1 ∙ append_assoc f.parts (f.part ∷ []) m.0) checked) f.fault

pub given-fault : (books : Books) (page : List ℕ) (run number : ℕ) → HasPartFault books (take most_given page) run number → HasPartFault books page run number
given-fault books page run number f = record { parts = f.parts; part = f.part; there = given-parts page (f.parts ++ f.part ∷ []) f.there; checked = f.checked; fault = f.fault }

-- ---- one part has the first fault

at-one-part : (books : Books) (P : List Part) (x : Part) (run number other least : ℕ) → HasFault books P x run number → HasFault books P x other least → (run ≡ other) × (number ≡ least)
at-one-part books P x run number other least f g = grind arith

-- where one item more begins a longer list with one item more, that item is among the others
inside : (A Q zs : List Part) (y z : Part) → Q ++ y ∷ [] ≡ A ++ z ∷ zs → (ys : List Part) × (Q ≡ A ++ ys)
inside [] Q zs y z e = (Q, refl)
inside (a ∷ []) [] zs y z e = let rest : [] ≡ z ∷ zs = cc e in absurd (cc rest)
inside (a ∷ b ∷ A) [] zs y z e = let rest : [] ≡ b ∷ (A ++ z ∷ zs) = cc e in absurd (cc rest)
inside (a ∷ A) (q ∷ Q) zs y z e =
    let same : q ≡ a = cc e in
    let rest : Q ++ y ∷ [] ≡ A ++ z ∷ zs = cc e in
    let own = inside A Q zs y z rest in
    (own.0, ap (λ (x : Part). x ∷ Q) same ∙ ap (λ (xs : List Part). a ∷ xs) own.1)

same-ends : (P Q : List Part) (x y : Part) → Q ++ y ∷ [] ≡ P ++ x ∷ [] → (Q ≡ P) × (y ≡ x)
same-ends [] [] x y e = (refl, cc e)
same-ends [] (q ∷ []) x y e = let rest : y ∷ [] ≡ [] = cc e in absurd (cc rest)
same-ends [] (q ∷ r ∷ Q) x y e = let rest : r ∷ (Q ++ y ∷ []) ≡ [] = cc e in absurd (cc rest)
same-ends (p ∷ []) [] x y e = let rest : [] ≡ x ∷ [] = cc e in absurd (cc rest)
same-ends (p ∷ r ∷ P) [] x y e = let rest : [] ≡ r ∷ (P ++ x ∷ []) = cc e in absurd (cc rest)
same-ends (p ∷ P) (q ∷ Q) x y e =
    let same : q ≡ p = cc e in
    let rest : Q ++ y ∷ [] ≡ P ++ x ∷ [] = cc e in
    let own = same-ends P Q x y rest in
    (ap (λ (z : Part). z ∷ Q) same ∙ ap (λ (zs : List Part). p ∷ zs) own.0, own.1)

in-order : (books : Books) (P Q xs : List Part) (x y : Part) (run number other least : ℕ)
    → Q ++ y ∷ [] ≡ (P ++ x ∷ []) ++ xs → AreChecked books Q → HasFault books P x run number
    → HasFault books Q y other least → (run ≡ other) × (number ≡ least)
in-order books P Q [] x y run number other least e checked f g = grind (arith, same-ends, append-nil, at-one-part)
in-order books P Q (z ∷ zs) x y run number other least e checked f g =
    let own = inside (P ++ x ∷ []) Q zs y z e in
    absurd (checked-free books P x own.0 run number (subst (λ (ps : List Part). AreChecked books ps) (own.1 ∙ append_assoc P (x ∷ []) own.0) checked) f)

pub one-part-fault : (books : Books) (text : List ℕ) (run number other least : ℕ) → HasPartFault books text run number → HasPartFault books text other least → (run ≡ other) × (number ≡ least)
one-part-fault books text run number other least f g = elim (one-longer text (f.parts ++ f.part ∷ []) (g.parts ++ g.part ∷ []) f.there g.there) [
  | inl m ↦ in-order books f.parts g.parts m.0 f.part g.part run number other least m.1 g.checked f.fault g.fault
  | inr m ↦ (let own = in-order books g.parts f.parts m.0 g.part f.part other least run number m.1 f.checked g.fault f.fault in (sym own.0, sym own.1))
]

-- ---- the end of a publication shows one fault

end-kinds : (books : Books) (p : Publication) (run number : ℕ) → HasHead books p.date p.quarters
    → AreFree books p.budget p.blocks → IsFirstFault books p run number
    → IsMissing books p run number ⊎ IsTotalsFault books p run number
end-kinds books p run number head free h = grind arith

both-ends : (books : Books) (p : Publication) (run number other least : ℕ)
    → IsMissing books p run number ⊎ IsTotalsFault books p run number
    → IsMissing books p other least ⊎ IsTotalsFault books p other least → (run ≡ other) × (number ≡ least)
both-ends books p run number other least h k = grind arith

pub one-end-fault : (books : Books) (page : List ℕ) (run number other least : ℕ) → HasEndFault books page run number → HasEndFault books page other least → (run ≡ other) × (number ≡ least)
one-end-fault books page run number other least f g =
    let same = one_text page f.publication g.publication f.is_text g.is_text in
    let p = g.publication in
    let first : IsFirstFault books p run number = subst (λ (o : Publication). IsFirstFault books o run number) same f.first in
    both-ends books p run number other least (end-kinds books p run number g.head g.free first) (end-kinds books p other least g.head g.free g.first)

pub no-first-fault : (books : Books) (p : Publication) → IsValidPublication books p → (run number : ℕ) → IsFirstFault books p run number → ⊥
no-first-fault books p valid run number f = grind (arith, end-kinds)
