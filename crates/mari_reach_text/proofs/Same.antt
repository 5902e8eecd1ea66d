-- Lines that may follow one another, with the last one, are those of the publication whose parts they give; and it has a text.
use Rattle.std.proofs.Common.{◌≡◌, ◌∙◌, ◌+◌, ◌-◌, ℕ, true, List, [], ◌∷◌, ◌++◌, map, refl, sym, ap, subst, arith}
use Rattle.std.specs.List.{All, AllByRecursion, flat_map}
use Rattle.std.proofs.lemmas.List.{length-map}
use Rattle.std.proofs.lemmas.List.Elements.{All-nil}
use Rattle.mari_lines.specs.declared.line.AmountLine.{AmountLine}
use Rattle.mari_lines.specs.declared.line.Line.{Line}
use Rattle.mari_lines.specs.declared.line.Line.TheVariants as line
use Rattle.mari_lines.specs.declared.line.MoneyLine.{MoneyLine}
use Rattle.mari_lines.proofs.Gathered.{cons_all, head_of, tail_of}
use Rattle.mari_publish.specs.Lines.{lines_of}
use Rattle.mari_publish.specs.Order.{lines_so_far}
use Rattle.mari_publish.specs.Ranges.{BlockFits, FullFits, HasText}
use Rattle.mari_publish.specs.declared.held.Held.{Held}
use Rattle.mari_publish.specs.declared.held.Held.TheVariants as held
use Rattle.mari_publish.specs.declared.publication.Block.{Block}
use Rattle.mari_publish.specs.declared.publication.Publication.{Publication}
use Rattle.mari_publish.proofs.Fits.{has_text}
use Rattle.mari_publish.proofs.PartsGiven.{stands_of}
use Rattle.mari_publish.proofs.Whole.{all_front}
use Rattle.mari_reach_lines.specs.Ranges.{IsClaim, ReachInRange}
use Rattle.mari_reach_lines.specs.declared.line.ReachLine.{ReachLine}
use Rattle.mari_reach_lines.specs.declared.line.ReachLine.TheVariants as reach
use Rattle.mari_stream.specs.Forms.{Follow}
use Rattle.mari_reach_text.specs.Order.{ClaimFits, is_done, line_of, reach_form}
use Rattle.mari_reach_text.specs.Texts.{NamedFits, ReachHasText, ReachPublication, named_line, reach_lines_of, reach_parts_of}
use Rattle.mari_reach_text.specs.declared.kept.ReachKept.{ReachKept}
use Rattle.mari_reach_text.specs.declared.kept.ReachPart.{ReachPart}
use Rattle.mari_reach_text.specs.declared.kept.ReachPart.TheVariants as parts
use Rattle.mari_reach_text.specs.declared.kept.Said.{Said}
use Rattle.mari_reach_text.specs.declared.kept.Said.TheVariants as says
use Rattle.mari_reach_text.specs.declared.named.NamedBlock.{NamedBlock}
use Rattle.mari_reach_text.specs.declared.named.NamedItem.{NamedItem}
use Rattle.mari_reach_text.proofs.Accepted.{accepted, first_of}
use Rattle.mari_reach_text.proofs.Mirrors.{Mirrors, first_block, mirrors}
use Rattle.mari_reach_text.proofs.Parts.{done_parts, made, shown}
use Rattle.mari_reach_text.proofs.Stepped.{in_block, not_both}
use Rattle.mari_reach_text.proofs.Told.{ItemFits, PartFits, Tells, at_end, begun_outside, first_in, part_saids, saids, tells_of}

-- the lines that stand for these and say this besides
abbrev restored : List Line → List Said → List ReachLine
restored [] xs = []
restored (line.Head date quarters budget ∷ ls) xs = reach.Head date quarters budget ∷ restored ls xs
restored (line.Run heading ∷ ls) (says.Claim claim ∷ xs) = reach.Run heading claim ∷ restored ls xs
restored (line.Branch ∷ ls) (says.Item item ∷ xs) = named_line item ∷ restored ls xs
restored (line.Done count none ∷ ls) (says.First first ∷ xs) = reach.Shared (line.Done first (count - first)) ∷ restored ls xs
restored (l ∷ ls) xs = reach.Shared l ∷ restored ls xs

the_others : (first within : ℕ) → (first + within) - first ≡ within
the_others first within = omega arith

restores : (ls : List ReachLine) → AllByRecursion ReachInRange ls → restored (map line_of ls) (saids ls) ≡ ls
restores [] r = refl
restores (reach.Head date quarters budget ∷ ls) r = ap (λ (xs : List ReachLine). reach.Head date quarters budget ∷ xs) (restores ls r.1)
restores (reach.Run heading claim ∷ ls) r = ap (λ (xs : List ReachLine). reach.Run heading claim ∷ xs) (restores ls r.1)
restores (reach.Branch bid ∷ ls) r = ap (λ (xs : List ReachLine). reach.Branch bid ∷ xs) (restores ls r.1)
restores (reach.Price zone price ∷ ls) r = ap (λ (xs : List ReachLine). reach.Price zone price ∷ xs) (restores ls r.1)
restores (reach.Void ∷ ls) r = ap (λ (xs : List ReachLine). reach.Void ∷ xs) (restores ls r.1)
restores (reach.Shared (line.Bound potentials) ∷ ls) r = ap (λ (xs : List ReachLine). reach.Shared (line.Bound potentials) ∷ xs) (restores ls r.1)
restores (reach.Shared (line.Cut cut) ∷ ls) r = ap (λ (xs : List ReachLine). reach.Shared (line.Cut cut) ∷ xs) (restores ls r.1)
restores (reach.Shared (line.Done first within) ∷ ls) r = grind (arith, saids, the_others, restores ls r.1)
restores (reach.Shared (line.Head date quarters budget) ∷ ls) r = absurd (not_both (sym r.0.1))
restores (reach.Shared (line.Run heading) ∷ ls) r = absurd (not_both (sym r.0.1))
restores (reach.Shared line.Branch ∷ ls) r = absurd (not_both (sym r.0.1))
restores (reach.Shared l ∷ ls) r = ap (λ (xs : List ReachLine). reach.Shared l ∷ xs) (restores ls r.1)

-- a publication by its parts
same_blocks : (xs ys : List NamedBlock) (os qs : List MoneyLine) (ps rs : List AmountLine) → map parts.Block xs ++ parts.Totals os ps ∷ [] ≡ map parts.Block ys ++ parts.Totals qs rs ∷ []
    → (xs ≡ ys) × (os ≡ qs) × (ps ≡ rs)
same_blocks [] [] os qs ps rs e = (refl, cc, cc)
same_blocks (x ∷ xs) (y ∷ ys) os qs ps rs e =
    let one : x ≡ y = cc in
    let rest : map parts.Block xs ++ parts.Totals os ps ∷ [] ≡ map parts.Block ys ++ parts.Totals qs rs ∷ [] = cc in
    let more = same_blocks xs ys os qs ps rs rest in
    (ap (λ z. z ∷ xs) one ∙ ap (λ (zs : List NamedBlock). y ∷ zs) more.0, more.1, more.2)
same_blocks xs ys os qs ps rs e = cc

same_publication : (p q : ReachPublication) → reach_parts_of p ≡ reach_parts_of q → p ≡ q
same_publication p q e = grind (arith, same_blocks)

-- with the last line the lines stand for those of the publication of the first form
is_the_last : (h : Held) → is_done h ≡ true → h ≡ held.Done
is_the_last h e = grind arith

pub record Whole (lines : List ReachLine) (p : ReachPublication) (s : ReachKept) : Type 0 where
  pub mirrors : Mirrors lines (reach_parts_of p) s
  pub tells : Tells lines (reach_parts_of p) s
  pub done : s.kept.held ≡ held.Done
  pub stands : mirrors.gives.so_far ≡ first_of p

pub whole : (lines : List ReachLine) (p : ReachPublication) (s : ReachKept) → Follow reach_form lines (reach_parts_of p) s → is_done s.kept.held ≡ true → Whole lines p s
whole lines p s f d =
    let m = mirrors lines (reach_parts_of p) s f in
    let P = m.gives.so_far in
    let a = done_parts (reach_parts_of p) P s.kept.held m.gives.given d in
    let same : p ≡ made P a.blocks = same_publication p (made P a.blocks) a.are in
    let is : P ≡ first_of (made P a.blocks) = ap (λ (bs : List Block). with_blocks P bs) a.shown_are in
    record { mirrors = m; tells = tells_of lines (reach_parts_of p) s f; done = is_the_last s.kept.held d; stands = is ∙ ap first_of (sym same) }
  where
    with_blocks : Publication → List Block → Publication
    with_blocks P bs = record { date = P.date; quarters = P.quarters; budget = P.budget; blocks = bs; operators = P.operators; providers = P.providers }

stand_for : (lines : List ReachLine) (p : ReachPublication) (s : ReachKept) → Whole lines p s → map line_of lines ≡ lines_of (first_of p)
stand_for lines p s w = w.mirrors.gives.are ∙ ap (λ (h : Held). lines_so_far w.mirrors.gives.so_far h) w.done ∙ ap lines_of w.stands

say : (lines : List ReachLine) (p : ReachPublication) (s : ReachKept) → Whole lines p s → saids lines ≡ flat_map part_saids (reach_parts_of p) ++ says.First (first_in (reach_parts_of p)) ∷ []
say lines p s w = grind (arith, in_block, part_saids, begun_outside, first_in, at_end)

pub same_lines : (xs ys : List ReachLine) (p : ReachPublication) (s t : ReachKept) → Whole xs p s → Whole ys p t → AllByRecursion ReachInRange xs → AllByRecursion ReachInRange ys → xs ≡ ys
same_lines xs ys p s t v w a b =
    sym (restores xs a) ∙ ap (λ (ls : List Line). restored ls (saids xs)) (stand_for xs p s v ∙ sym (stand_for ys p t w))
    ∙ ap (λ (us : List Said). restored (map line_of ys) us) (say xs p s v ∙ sym (say ys p t w)) ∙ restores ys b

-- the publication has a text
first_fits : (lines : List ReachLine) (p : ReachPublication) (s : ReachKept) → Whole lines p s → HasText (first_of p)
first_fits lines p s w = grind (arith, stands_of, has_text)

each_item : (tree : List NamedItem) → AllByRecursion ItemFits tree → All ItemFits tree
each_item [] a = All-nil ItemFits
each_item (i ∷ is) a = cons_all ItemFits i is a.0 (each_item is a.1)

pub block_fits : (b : NamedBlock) → FullFits (first_block b) → IsClaim b.claim → (b.block.tree ≡ []) × AllByRecursion ItemFits b.tree → NamedFits b
block_fits b f c t = grind (arith, length-map, each_item)

blocks_fit : (bs : List NamedBlock) → All BlockFits (map shown bs) → AllByRecursion ClaimFits (map parts.Block bs) → AllByRecursion PartFits (map parts.Block bs) → All NamedFits bs
blocks_fit [] a c t = All-nil NamedFits
blocks_fit (b ∷ bs) a c t =
    cons_all NamedFits b bs (block_fits b (head_of BlockFits (shown b) (map shown bs) a) c.0 t.0) (blocks_fit bs (tail_of BlockFits (shown b) (map shown bs) a) c.1 t.1)

pub reach_has_text : (lines : List ReachLine) (p : ReachPublication) (s : ReachKept) → Whole lines p s → ReachHasText p
reach_has_text lines p s w =
    let h = first_fits lines p s w in
    let last = parts.Totals p.operators p.providers ∷ [] in
    let runs = h.totals.runs in
    let len = length-map p.blocks shown in
    record {
      head = h.head;
      blocks = blocks_fit p.blocks h.blocks (all_front ClaimFits (map parts.Block p.blocks) last w.mirrors.claims.1) (all_front PartFits (map parts.Block p.blocks) last w.tells.fit.1);
      runs = omega (arith, runs, len);
      totals = (h.totals.operators, h.totals.providers);
    }

pub text_of_parts : (lines : List ReachLine) (ps : List ReachPart) (s : ReachKept) (p : ReachPublication) → Follow reach_form lines ps s → is_done s.kept.held ≡ true → ps ≡ reach_parts_of p
    → (lines ≡ reach_lines_of p) × ReachHasText p
text_of_parts lines ps s p f d e =
    let own = subst (λ (qs : List ReachPart). Follow reach_form lines qs s) e f in
    let w = whole lines p s own d in
    let has = reach_has_text lines p s w in
    let a = accepted p has in
    (same_lines lines (reach_lines_of p) p s a.0 w (whole (reach_lines_of p) p a.0 a.1 a.2) f.in_range a.1.in_range, has)
