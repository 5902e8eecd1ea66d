-- The text of a publication is that of its parts.
use Rattle.std.proofs.Common.{◌≡◌, ◌<◌, ◌≤◌, ◌+◌, List, [], ◌∷◌, ◌++◌, length, get_or, drop, refl, sym, ap, subst, ◌∙◌, append_assoc, ℕ, Result, Ok, Err}
use Rattle.std.specs.Result.{OnOk}
use Rattle.std.proofs.lemmas.List.{append-nil, at_drop_more, at_drop_all}
use Rattle.std.proofs.lemmas.List.Elements.{All-get_or}
use Rattle.std.specs.List.{All, flat_map}
use Rattle.std.proofs.lemmas.Grind.{flat_map-append}
use Rattle.mari_publish.specs.declared.publication.Block.{Block}
use Rattle.mari_publish.specs.declared.publication.Publication.{Publication}
use Rattle.mari_lines.specs.declared.line.Line.{Line}
use Rattle.mari_lines.specs.declared.line.Line.TheVariants as line
use Rattle.mari_publish.specs.Lines.{block_lines}
use Rattle.mari_lines.specs.Spelling.{line_text}
use Rattle.mari_publish.specs.Texts.{text_of_lines, head_text_of, block_text_of, total_text_of}

-- the text of the blocks' lines is the blocks' texts
pub text_of_blocks : (bs : List Block) → text_of_lines (flat_map block_lines bs) ≡ flat_map block_text_of bs
text_of_blocks [] = refl
text_of_blocks (b ∷ bs) = flat_map-append line_text (block_lines b) (flat_map block_lines bs) ∙ ap (λ (t : List ℕ). block_text_of b ++ t) (text_of_blocks bs)

-- after the texts of four lists of lines
pub after_four : {R E : Type 0} (r : Result R E) (x y z v w : List ℕ) (a b c d : List Line) → y ≡ x ++ text_of_lines a → z ≡ y ++ text_of_lines b → v ≡ z ++ text_of_lines c
    → OnOk r (w ≡ v ++ text_of_lines d) → OnOk r (w ≡ x ++ text_of_lines (a ++ (b ++ (c ++ d))))
after_four (Ok u) x y z v w a b c d ea eb ec ed =
    ed ∙ ap (λ (t : List ℕ). t ++ text_of_lines d) (ec ∙ ap (λ (t : List ℕ). t ++ text_of_lines c) (eb ∙ ap (λ (t : List ℕ). t ++ text_of_lines b) ea))
    ∙ regroup (text_of_lines a) (text_of_lines b) (text_of_lines c) (text_of_lines d)
    ∙ ap (λ (t : List ℕ). x ++ t) (sym together)
  where
    regroup : (p q s t : List ℕ) → (((x ++ p) ++ q) ++ s) ++ t ≡ x ++ (p ++ (q ++ (s ++ t)))
    regroup p q s t = simp append_assoc

    together : text_of_lines (a ++ (b ++ (c ++ d))) ≡ text_of_lines a ++ (text_of_lines b ++ (text_of_lines c ++ text_of_lines d))
    together =
        flat_map-append line_text a (b ++ (c ++ d)) ∙ ap (λ (t : List ℕ). text_of_lines a ++ t)
        (flat_map-append line_text b (c ++ d) ∙ ap (λ (t : List ℕ). text_of_lines b ++ t) (flat_map-append line_text c d))
after_four (Err e) x y z v w a b c d ea eb ec ed = tt

-- the head, the blocks and the totals
pub three_texts : (p : Publication) (y z w : List ℕ) → y ≡ [] ++ line_text (line.Head p.date p.quarters p.budget) → z ≡ y ++ text_of_lines (flat_map block_lines p.blocks) → w ≡ z ++ total_text_of p
    → w ≡ head_text_of p.date p.quarters p.budget ++ (flat_map block_text_of p.blocks ++ total_text_of p)
three_texts p y z w ey ez ew =
    ew ∙ ap (λ (t : List ℕ). t ++ total_text_of p)
    (ez ∙ ap (λ (t : List ℕ). t ++ text_of_lines (flat_map block_lines p.blocks)) ey ∙ ap (λ (t : List ℕ). line_text (line.Head p.date p.quarters p.budget) ++ t) (text_of_blocks p.blocks))
    ∙ append_assoc (line_text (line.Head p.date p.quarters p.budget)) (flat_map block_text_of p.blocks) (total_text_of p)
    ∙ ap (λ (t : List ℕ). t ++ (flat_map block_text_of p.blocks ++ total_text_of p)) (sym (append-nil (line_text (line.Head p.date p.quarters p.budget))))

-- a loop writes the lines of a list's items: one more is written, so that those still to come are one less
pub one_put : {X : Type 0} (F : List X → List Line) (g : X → List ℕ) → ((y : X) (ys : List X) → text_of_lines (F (y ∷ ys)) ≡ g y ++ text_of_lines (F ys))
    → (xs : List X) (i : ℕ) (x : X) (a b whole : List ℕ) → i < length xs → x ≡ get_or xs i x → b ≡ a ++ g x → a ++ text_of_lines (F (drop i xs))
    ≡ whole → b ++ text_of_lines (F (drop (i + 1) xs)) ≡ whole
one_put F g first xs i x a b whole lt is put e =
    let rest = drop (i + 1) xs in
    ap (λ (t : List ℕ). t ++ text_of_lines (F rest)) put ∙ append_assoc a (g x) (text_of_lines (F rest))
    ∙ ap (λ (t : List ℕ). a ++ t) (sym (first x rest) ∙ ap (λ y. text_of_lines (F (y ∷ rest))) is ∙ sym (at_drop_more (λ ys. text_of_lines (F ys)) xs i x lt)) ∙ e

-- none is still to come
pub all_put : {X : Type 0} (F : List X → List Line) → text_of_lines (F []) ≡ [] → (xs : List X) (i : ℕ) (a whole : List ℕ) → length xs ≤ i → a ++ text_of_lines (F (drop i xs)) ≡ whole → a ≡ whole
all_put F nothing xs i a whole le e = sym (append-nil a) ∙ ap (λ (t : List ℕ). a ++ t) (sym (at_drop_all (λ ys. text_of_lines (F ys)) xs i le ∙ nothing)) ∙ e

pub at_place : {X : Type 0} (P : X → Type 0) (xs : List X) (i : ℕ) (x : X) → i < length xs → x ≡ get_or xs i x → All P xs → P x
at_place P xs i x lt is all = subst P (sym is) (All-get_or P xs i x lt all)
