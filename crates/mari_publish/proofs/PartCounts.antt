-- How many parts have come, and that each further one leaves room for one less.
use Rattle.std.proofs.Common.{◌≡◌, ◌∙◌, ◌+◌, ◌<◌, ◌≤◌, ◌-◌, ℕ, List, [], ◌∷◌, ◌++◌, length, ap, arith, length-append}
use Rattle.std.proofs.lemmas.List.{length-map}
use Rattle.mari_lines.specs.declared.line.Line.{Line}
use Rattle.mari_publish.specs.Pieces.{ComeState, ComesFrom, Gives, front_parts, parts_of, parts_so_far}
use Rattle.mari_publish.specs.declared.held.Held.{Held}
use Rattle.mari_publish.specs.declared.held.Held.TheVariants as held
use Rattle.mari_publish.specs.declared.held.Kept.{Kept}
use Rattle.mari_publish.specs.declared.publication.Part.{Part}
use Rattle.mari_publish.specs.declared.publication.Part.TheVariants as part
use Rattle.mari_publish.specs.declared.publication.Publication.{Publication}
use Rattle.mari_publish.proofs.Counts.{both_kinds}
use Rattle.mari_publish.proofs.Pieces.{counts_of}

abbrev pub count_in : Held → ℕ → ℕ
count_in held.Start n = 0
count_in held.Done n = n + 2
count_in _ n = n + 1

abbrev pub count_of : Kept → ℕ
count_of k = count_in k.held (k.counts.published + k.counts.unpublished)

front-count : (p : Publication) → length (front_parts p) ≡ length p.blocks + 1
front-count p = let n = length-map p.blocks part.Block in omega (arith, n)

whole-count : (p : Publication) → length (parts_of p) ≡ length p.blocks + 2
whole-count p =
    let n = front-count p in
    let m = length-append (front_parts p) (part.Totals p.operators p.providers ∷ []) in
    omega (arith, n, m)

so-many : (p : Publication) (h : Held) → length (parts_so_far p h) ≡ count_in h (length p.blocks)
so-many p h = grind (arith, whole-count, front-count)

at-most : (h : Held) (n : ℕ) → n ≤ 1000 → count_in h n ≤ 1002
at-most h n l = grind arith

counts : (lines : List Line) (parts : List Part) (k : Kept) → Gives lines parts k → length parts ≡ count_of k
counts lines parts k g =
    let both : length g.so_far.blocks ≡ k.counts.published + k.counts.unpublished = omega (arith, both_kinds g.so_far.blocks, g.published, g.unpublished) in
    ap length g.given ∙ so-many g.so_far k.held ∙ ap (count_in k.held) both

-- each part leaves room for one less
pub fewer-left : (old new : ComeState) (text : List ℕ) (parts : List Part) (x : Part) → ComesFrom old text parts
    → ComesFrom new text (parts ++ x ∷ []) → 1002 - count_of new.kept < 1002 - count_of old.kept
fewer-left old new text parts x s t =
    let before = counts s.lines parts old.kept s.gives in
    let after = counts t.lines (parts ++ x ∷ []) new.kept t.gives in
    let one = length-append parts (x ∷ []) in
    let few = at-most new.kept.held (new.kept.counts.published + new.kept.counts.unpublished) (counts_of new (text, parts ++ x ∷ [], t)) in
    omega (arith, before, after, one, few)
