-- The lines of a publication that has a text may follow one another.
use Rattle.std.proofs.Common.{◌≡◌, ◌∙◌, ◌≤◌, ◌+◌, ℕ, true, List, [], ◌∷◌, ◌++◌, Some, length, map, refl, sym, ap, subst, append_assoc, arith}
use Rattle.std.specs.List.{All, AllByRecursion, flat_map}
use Rattle.std.proofs.lemmas.List.{append-nil, length-map}
use Rattle.std.proofs.lemmas.List.Elements.{All-nil}
use Rattle.mari_market.specs.declared.certificate.TreeItem.TheVariants as items
use Rattle.mari_lines.specs.Ranges.{InRange}
use Rattle.mari_lines.specs.declared.line.Line.{Line}
use Rattle.mari_lines.specs.declared.line.Line.TheVariants as line
use Rattle.mari_lines.proofs.Gathered.{cons_all, head_of, tail_of}
use Rattle.mari_publish.specs.Lines.{block_lines, closing_lines, full_lines, lines_of, published_in, unpublished_in}
use Rattle.mari_publish.specs.Order.{kept_at}
use Rattle.mari_publish.specs.Ranges.{BlockFits, FullFits, HasText, ItemFits}
use Rattle.mari_publish.specs.declared.held.Held.TheVariants as held
use Rattle.mari_publish.specs.declared.publication.Publication.{Publication}
use Rattle.mari_publish.proofs.Fits.{lines_in_range}
use Rattle.mari_publish.proofs.Whole.{all_back, all_front}
use Rattle.mari_reach_lines.specs.Ranges.{ReachInRange}
use Rattle.mari_reach_lines.specs.declared.line.Claim.{Claim}
use Rattle.mari_reach_lines.specs.declared.line.Claim.TheVariants as claims
use Rattle.mari_reach_lines.specs.declared.line.ReachLine.{ReachLine}
use Rattle.mari_reach_lines.specs.declared.line.ReachLine.TheVariants as reach
use Rattle.mari_stream.specs.Forms.{Follow, after_lines}
use Rattle.mari_reach_text.specs.Claims.{first_among, one_if_first, one_if_within, within_among}
use Rattle.mari_reach_text.specs.Order.{nothing_reached, reach_form}
use Rattle.mari_reach_text.specs.Texts.{NamedFits, ReachHasText, ReachPublication, named_block_lines, reach_closing_lines, reach_lines_of, reach_parts_of}
use Rattle.mari_reach_text.specs.declared.kept.ReachKept.{ReachKept}
use Rattle.mari_reach_text.specs.declared.kept.ReachPart.{ReachPart}
use Rattle.mari_reach_text.specs.declared.kept.ReachPart.TheVariants as parts
use Rattle.mari_reach_text.specs.declared.named.NamedBlock.{NamedBlock}
use Rattle.mari_reach_text.specs.declared.named.NamedItem.{NamedItem}
use Rattle.mari_reach_text.proofs.Gives.{block_gives, block_range, closing_apart, closing_gives, state}
use Rattle.mari_reach_text.proofs.Mirrors.{branches, first_block}
use Rattle.mari_reach_text.proofs.Own.{all_join, own_range, totals_own}
use Rattle.mari_reach_text.proofs.Parts.{shown}

-- the publication of the first form for which one stands
abbrev pub first_of : ReachPublication → Publication
first_of p = record { date = p.date; quarters = p.quarters; budget = p.budget; blocks = map shown p.blocks; operators = p.operators; providers = p.providers }

branches_fit : (tree : List NamedItem) → All ItemFits (branches tree)
branches_fit [] = All-nil ItemFits
branches_fit (i ∷ is) = cons_all ItemFits items.Branch (branches is) (tt, tt) (branches_fit is)

block_fits : (b : NamedBlock) → NamedFits b → FullFits (first_block b)
block_fits b f = grind (arith, length-map, branches_fit)

blocks_fit : (bs : List NamedBlock) → All NamedFits bs → All BlockFits (map shown bs)
blocks_fit [] a = All-nil BlockFits
blocks_fit (b ∷ bs) a = cons_all BlockFits (shown b) (map shown bs) (block_fits b (head_of NamedFits b bs a)) (blocks_fit bs (tail_of NamedFits b bs a))

pub first_has_text : (p : ReachPublication) → ReachHasText p → HasText (first_of p)
first_has_text p h = grind (arith, length-map, shown, blocks_fit)

-- each block states the first activation or one within a gap
pub one_of_both : (c : Claim) → one_if_first c + one_if_within c ≡ 1
one_of_both claims.First = refl
one_of_both (claims.Within gap) = refl

pub at_most_one : (c : Claim) → one_if_first c ≤ 1
at_most_one c = omega (arith, one_of_both c)

pub both_claims : (bs : List NamedBlock) → first_among bs + within_among bs ≡ length bs
both_claims [] = refl
both_claims (b ∷ bs) = let one = one_of_both b.claim in let more = both_claims bs in omega (arith, one, more)

-- the claim that is kept after blocks
abbrev last_claim : Claim → List NamedBlock → Claim
last_claim c [] = c
last_claim c (b ∷ bs) = last_claim b.claim bs

abbrev BlocksFit : List NamedBlock → Type 0
BlocksFit bs = AllByRecursion InRange (flat_map block_lines (map shown bs))

blocks_range : (bs : List NamedBlock) → BlocksFit bs → All NamedFits bs → AllByRecursion ReachInRange (flat_map named_block_lines bs)
blocks_range [] r a = tt
blocks_range (b ∷ bs) r a =
    let here = all_front InRange (full_lines (first_block b)) (flat_map block_lines (map shown bs)) r in
    let there = all_back InRange (full_lines (first_block b)) (flat_map block_lines (map shown bs)) r in
    all_join ReachInRange (named_block_lines b) (flat_map named_block_lines bs) (block_range b here (head_of NamedFits b bs a)) (blocks_range bs there (tail_of NamedFits b bs a))

blocks_give : (bs : List NamedBlock) (rest : List ReachLine) (ps : List ReachPart) (m n : ℕ) (c : Claim) → BlocksFit bs → All NamedFits bs → m + length bs ≤ 1000
    → after_lines reach_form ps (state (kept_at held.Between m 0) c [] n) (flat_map named_block_lines bs ++ rest)
    ≡ after_lines reach_form (ps ++ map parts.Block bs) (state (kept_at held.Between (m + length bs) 0) (last_claim c bs) [] (n + first_among bs)) rest
blocks_give [] rest ps m n c r a few = grind (arith, state, append-nil)
blocks_give (b ∷ bs) rest ps m n c r a few =
    let here = all_front InRange (full_lines (first_block b)) (flat_map block_lines (map shown bs)) r in
    let there = all_back InRange (full_lines (first_block b)) (flat_map block_lines (map shown bs)) r in
    let one = one_if_first b.claim in
    let last = last_claim b.claim bs in
    let qs = ps ++ map parts.Block (b ∷ bs) in
    ap (λ (ls : List ReachLine). after_lines reach_form ps (state (kept_at held.Between m 0) c [] n) ls) (append_assoc (named_block_lines b) (flat_map named_block_lines bs) rest)
    ∙ block_gives b (flat_map named_block_lines bs ++ rest) ps m n c here (head_of NamedFits b bs a) (omega (arith, few))
    ∙ blocks_give bs rest (ps ++ parts.Block b ∷ []) (m + 1) (n + one) b.claim there (tail_of NamedFits b bs a) (omega (arith, few))
    ∙ ap (λ (xs : List ReachPart). after_lines reach_form xs (state (kept_at held.Between ((m + 1) + length bs) 0) last [] ((n + one) + first_among bs)) rest)
    (append_assoc ps (parts.Block b ∷ []) (map parts.Block bs))
    ∙ ap (λ (x : ℕ). after_lines reach_form qs (state (kept_at held.Between x 0) last [] ((n + one) + first_among bs)) rest) (omega arith)
    ∙ ap (λ (x : ℕ). after_lines reach_form qs (state (kept_at held.Between (m + length (b ∷ bs)) 0) last [] x) rest) (omega arith)

-- a publication that has a text
pub accepted : (p : ReachPublication) → ReachHasText p → (kept : ReachKept) × Follow reach_form (reach_lines_of p) (reach_parts_of p) kept × (reach_form.is_done kept ≡ true)
accepted p h =
    let P = first_of p in
    let range : AllByRecursion InRange (lines_of P) = lines_in_range P (first_has_text p h) in
    let blocks = all_front InRange (flat_map block_lines (map shown p.blocks)) (closing_lines P) range.1 in
    let closing = all_back InRange (flat_map block_lines (map shown p.blocks)) (closing_lines P) range.1 in
    let count = line.Done (published_in P.blocks) (unpublished_in P.blocks) in
    let totals = map line.TotalOperator p.operators ++ map line.TotalProvider p.providers in
    let both = subst (λ (ls : List Line). AllByRecursion InRange ls) (sym (append_assoc (map line.TotalOperator p.operators) (map line.TotalProvider p.providers) (count ∷ []))) closing in
    let sums = all_front InRange totals (count ∷ []) both in
    let first = first_among p.blocks in
    let within = within_among p.blocks in
    let kinds = both_claims p.blocks in
    let runs = h.runs in
    let done : ReachInRange (reach.Shared (line.Done first within)) = ((omega (arith, kinds, runs), omega (arith, kinds, runs)), refl) in
    let last : AllByRecursion ReachInRange (reach_closing_lines p)
    = subst (λ (ls : List ReachLine). AllByRecursion ReachInRange ls) (sym (closing_apart p.operators p.providers first within))
    (all_join ReachInRange (map reach.Shared totals) (reach.Shared (line.Done first within) ∷ []) (own_range totals (totals_own p.operators p.providers) sums) (done, tt)) in
    let claim = last_claim claims.First p.blocks in
    let heads = parts.Head p.date p.quarters p.budget ∷ map parts.Block p.blocks in
    let kept = state (kept_at held.Done (first + within) 0) claim [] first in
    let gives : after_lines reach_form [] nothing_reached (reach_lines_of p) ≡ Some (reach_parts_of p, kept)
    = blocks_give p.blocks (reach_closing_lines p) (parts.Head p.date p.quarters p.budget ∷ []) 0 0 claims.First blocks h.blocks (omega (arith, runs))
    ∙ ap (λ (x : ℕ). after_lines reach_form heads (state (kept_at held.Between x 0) claim [] (0 + first)) (reach_closing_lines p)) (omega (arith, kinds))
    ∙ ap (λ (x : ℕ). after_lines reach_form heads (state (kept_at held.Between (first + within) 0) claim [] x) (reach_closing_lines p)) (omega arith)
    ∙ closing_gives p.operators p.providers first within heads claim sums h.totals in
    (kept, record { in_range = (h.head, all_join ReachInRange (flat_map named_block_lines p.blocks) (reach_closing_lines p) (blocks_range p.blocks blocks h.blocks) last); gives = gives }, refl)
