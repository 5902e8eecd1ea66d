-- The parts of lines that may follow one another are the first of some publication.
use Rattle.std.proofs.Common.{◌≡◌, ◌∙◌, true, List, [], ◌∷◌, ◌++◌, map, refl, sym, ap, arith}
use Rattle.std.proofs.lemmas.List.{append-nil}
use Rattle.mari_lines.specs.declared.line.AmountLine.{AmountLine}
use Rattle.mari_lines.specs.declared.line.MoneyLine.{MoneyLine}
use Rattle.mari_publish.specs.Pieces.{front_parts, parts_of, parts_so_far}
use Rattle.mari_publish.specs.declared.held.Held.{Held}
use Rattle.mari_publish.specs.declared.held.Held.TheVariants as held
use Rattle.mari_publish.specs.declared.publication.Block.{Block}
use Rattle.mari_publish.specs.declared.publication.Block.TheVariants as block
use Rattle.mari_publish.specs.declared.publication.Part.{Part}
use Rattle.mari_publish.specs.declared.publication.Part.TheVariants as part
use Rattle.mari_publish.specs.declared.publication.Publication.{Publication}
use Rattle.mari_reach_text.specs.Order.{is_done}
use Rattle.mari_reach_text.specs.Texts.{ReachPublication, reach_parts_of}
use Rattle.mari_reach_text.specs.declared.kept.ReachPart.{ReachPart}
use Rattle.mari_reach_text.specs.declared.kept.ReachPart.TheVariants as parts
use Rattle.mari_reach_text.specs.declared.named.NamedBlock.{NamedBlock}
use Rattle.mari_reach_text.proofs.Mirrors.{first_block, first_part}

-- the block of the first form for which a block stands
abbrev pub shown : NamedBlock → Block
shown n = block.Published (first_block n)

-- a publication with these blocks
abbrev pub made : Publication → List NamedBlock → ReachPublication
made p blocks = record { date = p.date; quarters = p.quarters; budget = p.budget; blocks = blocks; operators = p.operators; providers = p.providers }

-- the blocks at the front of parts, and the other parts
pub record Split (given : List ReachPart) (bs : List Block) (tail : List Part) : Type 0 where
  pub blocks : List NamedBlock
  pub others : List ReachPart
  pub are : given ≡ map parts.Block blocks ++ others
  pub stand : map first_part others ≡ tail
  pub shown_are : bs ≡ map shown blocks

one_more : (g : ReachPart) (gs : List ReachPart) (b : Block) (bs : List Block) (tail : List Part) → first_part g ≡ part.Block b → Split gs bs tail → Split (g ∷ gs) (b ∷ bs) tail
one_more (parts.Block n) gs b bs tail e s =
    let same : b ≡ shown n = cc in
    record {
      blocks = n ∷ s.blocks;
      others = s.others;
      are = ap (λ (xs : List ReachPart). parts.Block n ∷ xs) s.are;
      stand = s.stand;
      shown_are = ap (λ x. x ∷ bs) same ∙ ap (λ (xs : List Block). shown n ∷ xs) s.shown_are;
    }
one_more g gs b bs tail e s = cc

split : (given : List ReachPart) (bs : List Block) (tail : List Part) → map first_part given ≡ map part.Block bs ++ tail → Split given bs tail
split given [] tail e = record { blocks = []; others = given; are = refl; stand = e; shown_are = refl }
split [] (b ∷ bs) tail e = absurd cc
split (g ∷ gs) (b ∷ bs) tail e =
    let first : first_part g ≡ part.Block b = cc in
    let rest : map first_part gs ≡ map part.Block bs ++ tail = cc in
    one_more g gs b bs tail first (split gs bs tail rest)

no_parts : (given : List ReachPart) → map first_part given ≡ [] → given ≡ []
no_parts [] e = refl
no_parts (g ∷ gs) e = absurd cc

a_totals : (g : ReachPart) (os : List MoneyLine) (ps : List AmountLine) → first_part g ≡ part.Totals os ps → g ≡ parts.Totals os ps
a_totals g os ps e = grind arith

totals_alone : (given : List ReachPart) (os : List MoneyLine) (ps : List AmountLine) → map first_part given ≡ part.Totals os ps ∷ [] → given ≡ parts.Totals os ps ∷ []
totals_alone [] os ps e = absurd cc
totals_alone (g ∷ gs) os ps e = grind (arith, first_part, a_totals, no_parts)

a_head : (g : ReachPart) (p : Publication) → first_part g ≡ part.Head p.date p.quarters p.budget → g ≡ parts.Head p.date p.quarters p.budget
a_head g p e = grind arith

-- parts of a head, blocks and others
pub record Front (given : List ReachPart) (p : Publication) (tail : List Part) : Type 0 where
  pub blocks : List NamedBlock
  pub others : List ReachPart
  pub are : given ≡ (parts.Head p.date p.quarters p.budget ∷ map parts.Block blocks) ++ others
  pub stand : map first_part others ≡ tail
  pub shown_are : p.blocks ≡ map shown blocks

with_head : (g : ReachPart) (gs : List ReachPart) (p : Publication) (tail : List Part) → g ≡ parts.Head p.date p.quarters p.budget → Split gs p.blocks tail → Front (g ∷ gs) p tail
with_head g gs p tail e s = grind arith

pub front : (given : List ReachPart) (p : Publication) (tail : List Part) → map first_part given ≡ front_parts p ++ tail → Front given p tail
front [] p tail e = absurd cc
front (g ∷ gs) p tail e = grind (arith, first_part, with_head, a_head, split)

-- all parts of a publication
pub record All (given : List ReachPart) (p : Publication) : Type 0 where
  pub blocks : List NamedBlock
  pub are : given ≡ reach_parts_of (made p blocks)
  pub shown_are : p.blocks ≡ map shown blocks

pub all : (given : List ReachPart) (p : Publication) → map first_part given ≡ parts_of p → All given p
all given p e =
    let f = front given p (part.Totals p.operators p.providers ∷ []) e in
    let last = totals_alone f.others p.operators p.providers f.stand in
    record {
      blocks = f.blocks;
      are = f.are ∙ ap (λ (xs : List ReachPart). (parts.Head p.date p.quarters p.budget ∷ map parts.Block f.blocks) ++ xs) last;
      shown_are = f.shown_are;
    }

-- the first parts of one
abbrev pub AreFirst : List ReachPart → Type 0
AreFirst given = (p : ReachPublication) × (more : List ReachPart) × (reach_parts_of p ≡ given ++ more)

in_front : (given : List ReachPart) (p : Publication) → map first_part given ≡ front_parts p → AreFirst given
in_front given p e =
    let f = front given p [] (e ∙ sym (append-nil (front_parts p))) in
    let none = no_parts f.others f.stand in
    let heads = parts.Head p.date p.quarters p.budget ∷ map parts.Block f.blocks in
    let are : given ≡ heads = f.are ∙ ap (λ (xs : List ReachPart). heads ++ xs) none ∙ append-nil heads in
    (made p f.blocks, parts.Totals p.operators p.providers ∷ [], ap (λ (xs : List ReachPart). xs ++ parts.Totals p.operators p.providers ∷ []) (sym are))

pub first_parts : (given : List ReachPart) (p : Publication) (h : Held) → map first_part given ≡ parts_so_far p h → AreFirst given
first_parts given p held.Start e = (made p [], reach_parts_of (made p []), ap (λ (xs : List ReachPart). xs ++ reach_parts_of (made p [])) (sym (no_parts given e)))
first_parts given p held.Done e = let a = all given p e in (made p a.blocks, [], sym a.are ∙ sym (append-nil given))
first_parts given p _ e = in_front given p e

pub done_parts : (given : List ReachPart) (p : Publication) (h : Held) → map first_part given ≡ parts_so_far p h → is_done h ≡ true → All given p
done_parts given p h e d = grind (arith, all)
