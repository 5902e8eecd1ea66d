-- The parts that lines give, one after the other.
use Rattle.std.proofs.Common.{◌≡◌, ◌+◌, ◌&&◌, List, [], ◌∷◌, ◌++◌, length, Option, Some, None, refl, sym, ap, subst, ◌∙◌, append_assoc, length-append, arith, ltb, eqb}
use Rattle.std.specs.Prelude.{option_and_then}
use Rattle.std.proofs.lemmas.List.{append-nil, map_push}
use Rattle.std.proofs.lemmas.Option.{cond_some}
use Rattle.mari_publish.specs.declared.publication.Part.{Part}
use Rattle.mari_publish.specs.declared.publication.Part.TheVariants as part
use Rattle.mari_publish.specs.declared.publication.Block.{Block}
use Rattle.mari_publish.specs.declared.publication.Block.TheVariants as block
use Rattle.mari_publish.specs.declared.publication.Publication.{Publication}
use Rattle.mari_lines.specs.declared.line.MoneyLine.{MoneyLine}
use Rattle.mari_lines.specs.declared.line.AmountLine.{AmountLine}
use Rattle.mari_lines.specs.declared.line.Line.{Line}
use Rattle.mari_lines.specs.declared.line.Line.TheVariants as line
use Rattle.mari_publish.specs.declared.held.Ending.{Ending}
use Rattle.mari_publish.specs.declared.held.Growing.{Growing}
use Rattle.mari_publish.specs.declared.held.Listing.{Listing}
use Rattle.mari_publish.specs.declared.held.Pending.{Pending}
use Rattle.mari_publish.specs.declared.held.Held.{Held}
use Rattle.mari_publish.specs.declared.held.Held.TheVariants as held
use Rattle.mari_publish.specs.declared.held.Kept.{Kept}
use Rattle.mari_publish.specs.Order.{kept_with, one_published, one_unpublished, keeps, starts_block, after_listing, after_growing, after_ending, after_totals, full_block, after, grown, nothing_read, nothing_kept, after_all}
use Rattle.mari_publish.specs.Pieces.{front_parts, parts_so_far, with_part, Gives}
use Rattle.mari_publish.proofs.Steps.{some_is}
use Rattle.mari_publish.proofs.Whole.{Stands, next}
use Rattle.mari_publish.proofs.Follows.{Came, came_more, in_parts, stands_first}

-- after the first line and before the last one the whole parts are the head and the blocks
abbrev Inner : Held → Type 0
Inner h = (p : Publication) → parts_so_far p h ≡ front_parts p

listing_inner : (b : Listing) (l : Line) (h : Held) → after_listing b l ≡ Some h → Inner h
listing_inner b l h e = grind arith

growing_inner : (g : Growing) (pending : Pending) (l : Line) (h : Held) → after_growing g pending l ≡ Some h → Inner h
growing_inner g pending l h e = grind arith

ending_inner : (n : Ending) (l : Line) (h : Held) → after_ending n l ≡ Some h → Inner h
ending_inner n l h e = grind arith

totals_inner : (os : List MoneyLine) (ps : List AmountLine) (l : Line) (h : Held) → after_totals os ps l ≡ Some h → Inner h
totals_inner os ps l h e = grind arith

abbrev StepParts : Publication → Held → Kept × Option Part → Type 0
StepParts p h x = parts_so_far (grown p x.1) x.0.held ≡ with_part (parts_so_far p h) x.1

kept_parts : (p : Publication) (k : Kept) (h : Held) (o : Option Held) (x : Kept × Option Part) → Inner h → ((new : Held) → o ≡ Some new → Inner new) → keeps k o ≡ Some x → StepParts p h x
kept_parts p k h None x i more e = absurd cc
kept_parts p k h (Some new) x i more e = subst (λ y. StepParts p h y) (some_is (kept_with k new, None) x e) (more new refl p ∙ sym (i p))

block_parts : (p : Publication) (b : Block) → front_parts (grown p (Some (part.Block b))) ≡ front_parts p ++ part.Block b ∷ []
block_parts p b = ap (λ (xs : List Part). part.Head p.date p.quarters p.budget ∷ xs) (map_push (λ x. part.Block x) p.blocks b)

between_parts : (p : Publication) (k : Kept) (l : Line) (x : Kept × Option Part) → starts_block k l ≡ Some x → StepParts p held.Between x
between_parts p k (line.Run h) x e = subst (λ y. StepParts p held.Between y) (cond_some (ltb (k.counts.published + k.counts.unpublished) 1000) (kept_with k (held.Run h), None) x e).1 refl
between_parts p k (line.Unpublished h count) x e =
    let new : Kept = record { held = held.Between; counts = one_unpublished k.counts } in
    let t = cond_some (ltb (k.counts.published + k.counts.unpublished) 1000) (new, Some (part.Block (block.Unpublished h count))) x e in
    subst (λ y. StepParts p held.Between y) t.1 (block_parts p (block.Unpublished h count))
between_parts p k (line.TotalOperator t) x e = subst (λ y. StepParts p held.Between y) (some_is (kept_with k (held.Totals (t ∷ []) []), None) x e) refl
between_parts p k _ x e = absurd cc

-- a line that may follow gives its part, if there is one
step_parts : (p : Publication) (k : Kept) (h : Held) (l : Line) (x : Kept × Option Part) → after k h l ≡ Some x → StepParts p h x
step_parts p k held.Start (line.Head date quarters budget) x e = subst (λ y. StepParts p held.Start y) (some_is (kept_with k held.Between, Some (part.Head date quarters budget)) x e) refl
step_parts p k (held.Run h) (line.Welfare n) x e =
    let new = held.Listing (record { heading = h; welfare = n; zones = []; borders = []; bids = []; demands = [] }) in
    subst (λ y. StepParts p (held.Run h) y) (some_is (kept_with k new, None) x e) refl
step_parts p k (held.Listing b) l x e = kept_parts p k (held.Listing b) (after_listing b l) x (λ q. refl) (λ new o. listing_inner b l new o) e
step_parts p k (held.Growing g) l x e = kept_parts p k (held.Growing g) (after_growing g g.pending l) x (λ q. refl) (λ new o. growing_inner g g.pending l new o) e
step_parts p k (held.Ending g) (line.End run) x e =
    let new : Kept = record { held = held.Between; counts = one_published k.counts } in
    let t = cond_some (eqb run g.listing.heading.run) (new, Some (part.Block (full_block g))) x e in
    subst (λ y. StepParts p (held.Ending g) y) t.1 (block_parts p (full_block g))
step_parts p k (held.Ending g) l x e = kept_parts p k (held.Ending g) (after_ending g l) x (λ q. refl) (λ new o. ending_inner g l new o) e
step_parts p k (held.Totals os ps) (line.Done m n) x e =
    let t = cond_some (eqb m k.counts.published && eqb n k.counts.unpublished) (kept_with k held.Done, Some (part.Totals os ps)) x e in
    subst (λ y. StepParts p (held.Totals os ps) y) t.1 refl
step_parts p k (held.Totals os ps) l x e = kept_parts p k (held.Totals os ps) (after_totals os ps l) x (λ q. refl) (λ new o. totals_inner os ps l new o) e
step_parts p k _ l x e = grind (arith, between_parts)

-- lines that may follow one another are those of what has come
on_stands : (done : List Line) (p : Publication) (k : Kept) (l : Line) (ls : List Line) (q : Publication) (r : Kept) (o : Option (Kept × Option Part)) → Stands done p k k.held → after k k.held l ≡ o
    → ((x : Kept × Option Part) → Stands (done ++ l ∷ []) (grown p x.1) x.0 x.0.held → after_all (grown p x.1) x.0 ls ≡ Some (q, r) → Stands ((done ++ l ∷ []) ++ ls) q r r.held)
    → option_and_then (λ (x : Kept × Option Part). after_all (grown p x.1) x.0 ls) o ≡ Some (q, r) → Stands (done ++ l ∷ ls) q r r.held
on_stands done p k l ls q r None s is more e = absurd cc
on_stands done p k l ls q r (Some x) s is more e = subst (λ z. Stands z q r r.held) (append_assoc done (l ∷ []) ls) (more x (next done p k k.held l x s is) e)

all_stand : (done ls : List Line) (p : Publication) (k : Kept) (q : Publication) (r : Kept) → Stands done p k k.held → after_all p k ls ≡ Some (q, r) → Stands (done ++ ls) q r r.held
all_stand done [] p k q r s e =
    let pair = some_is (p, k) (q, r) e in
    subst (λ z. Stands z q r r.held) (sym (append-nil done)) (subst (λ (x : Publication × Kept). Stands done x.0 x.1 x.1.held) pair s)
all_stand done (l ∷ ls) p k q r s e = on_stands done p k l ls q r (after k k.held l) s refl (λ x st e2. all_stand (done ++ l ∷ []) ls (grown p x.1) x.0 q r st e2) e

pub stands_of : (ls : List Line) (p : Publication) (k : Kept) → Came ls p k → Stands ls p k k.held
stands_of ls p k e = all_stand [] ls nothing_read nothing_kept p k stands_first e

-- what has come of lines gives their parts
gives_of : (ls : List Line) (parts : List Part) (p : Publication) (k : Kept) → Came ls p k → parts ≡ parts_so_far p k.held → Gives ls parts k
gives_of ls parts p k came given =
    let s = stands_of ls p k came in
    record { so_far = p; follow = came; are = s.lines; given = given; published = s.published; unpublished = s.unpublished }

pub gives_nothing : Gives [] [] nothing_kept
gives_nothing = gives_of [] [] nothing_read nothing_kept refl refl

pub next_gives : (ls : List Line) (parts : List Part) (k r : Kept) (l : Line) (x : Option Part) → Gives ls parts k → after k k.held l ≡ Some (r, x) → Gives (ls ++ l ∷ []) (with_part parts x) r
next_gives ls parts k r l x g e =
    gives_of (ls ++ l ∷ []) (with_part parts x) (grown g.so_far x) r (came_more ls g.so_far k l (r, x) g.follow e)
    (ap (λ (ps : List Part). with_part ps x) g.given ∙ sym (step_parts g.so_far k k.held l (r, x) e))

-- further lines give further parts
abbrev More : List Part → List Part → Type 0
More P Q = (xs : List Part) × (Q ≡ P ++ xs)

joined : (P Q : List Part) (o : Option Part) → More (with_part P o) Q → More P Q
joined P Q None m = m
joined P Q (Some x) m = (x ∷ m.0, m.1 ∙ append_assoc P (x ∷ []) m.0)

on_parts : (p : Publication) (k : Kept) (l : Line) (ls : List Line) (q : Publication) (r : Kept) (o : Option (Kept × Option Part)) → after k k.held l ≡ o
    → ((x : Kept × Option Part) → after_all (grown p x.1) x.0 ls ≡ Some (q, r) → More (parts_so_far (grown p x.1) x.0.held) (parts_so_far q r.held))
    → option_and_then (λ (x : Kept × Option Part). after_all (grown p x.1) x.0 ls) o ≡ Some (q, r) → More (parts_so_far p k.held) (parts_so_far q r.held)
on_parts p k l ls q r None is more e = absurd cc
on_parts p k l ls q r (Some x) is more e =
    joined (parts_so_far p k.held) (parts_so_far q r.held) x.1
    (subst (λ (P : List Part). More P (parts_so_far q r.held)) (step_parts p k k.held l x is) (more x e))

more_parts : (ls : List Line) (p : Publication) (k : Kept) (q : Publication) (r : Kept) → after_all p k ls ≡ Some (q, r) → More (parts_so_far p k.held) (parts_so_far q r.held)
more_parts [] p k q r e =
    let pair = some_is (p, k) (q, r) e in
    subst (λ (s : Publication × Kept). More (parts_so_far p k.held) (parts_so_far s.0 s.1.held)) pair ([], sym (append-nil (parts_so_far p k.held)))
more_parts (l ∷ ls) p k q r e = on_parts p k l ls q r (after k k.held l) refl (λ x f. more_parts ls (grown p x.1) x.0 q r f) e

pub longer_parts : (A B C : List Line) (P Q : List Part) (k r : Kept) → Gives A P k → Gives B Q r → B ≡ A ++ C → (xs : List Part) × (Q ≡ P ++ xs)
longer_parts A B C P Q k r g h is =
    let e : after_all nothing_read nothing_kept (A ++ C) ≡ Some (h.so_far, r) = ap (λ (ls : List Line). after_all nothing_read nothing_kept ls) (sym is) ∙ h.follow in
    let apart = sym (in_parts nothing_read nothing_kept A C ∙ ap (option_and_then (λ (s : Publication × Kept). after_all s.0 s.1 C)) g.follow) ∙ e in
    let m = more_parts C g.so_far k h.so_far r apart in
    (m.0, h.given ∙ m.1 ∙ ap (λ (ps : List Part). ps ++ m.0) (sym g.given))

-- a list isn't longer than itself
pub not_longer : (P xs : List Part) (x : Part) → P ≡ (P ++ x ∷ []) ++ xs → ⊥
not_longer P xs x e =
    let len = length-append (P ++ x ∷ []) xs in
    let one = length-append P (x ∷ []) in
    let same = ap length e in
    absurd (omega (arith, len, one, same))

-- of two lists with one item more neither goes on after the other
pub same_last : (ps : List Part) (x y : Part) (xs : List Part) → ps ++ y ∷ [] ≡ (ps ++ x ∷ []) ++ xs → x ≡ y
same_last [] x y xs e = cc
same_last (p ∷ ps) x y xs e = let rest : ps ++ y ∷ [] ≡ (ps ++ x ∷ []) ++ xs = cc in same_last ps x y xs rest
