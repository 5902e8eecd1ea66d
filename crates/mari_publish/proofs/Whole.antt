-- What has come stands for the lines read, at each moment.
use Rattle.std.proofs.Common.{◌≡◌, ◌≤◌, ◌<◌, ℕ, ◌+◌, true, ◌&&◌, List, [], ◌∷◌, ◌++◌, map, length, Option, Some, None, refl, sym, ap, subst, ◌∙◌, append_assoc, length-append, arith, ltb, eqb}
use Rattle.std.specs.List.{flat_map, AllByRecursion}
use Rattle.std.proofs.lemmas.Bool.{eqb-true, ltb-true, and_parts}
use Rattle.std.proofs.lemmas.List.{append-nil}
use Rattle.std.proofs.lemmas.Grind.{flat_map-append}
use Rattle.std.proofs.lemmas.Option.{cond_some}
use Rattle.mari_publish.specs.declared.publication.Block.{Block}
use Rattle.mari_publish.specs.declared.publication.Block.TheVariants as block
use Rattle.mari_publish.specs.declared.publication.Publication.{Publication}
use Rattle.mari_lines.specs.declared.line.Line.{Line}
use Rattle.mari_lines.specs.declared.line.Line.TheVariants as line
use Rattle.mari_publish.specs.declared.held.Ending.{Ending}
use Rattle.mari_publish.specs.declared.held.Held.{Held}
use Rattle.mari_publish.specs.declared.held.Held.TheVariants as held
use Rattle.mari_publish.specs.declared.publication.Part.{Part}
use Rattle.mari_publish.specs.declared.publication.Part.TheVariants as part
use Rattle.mari_publish.specs.declared.held.Kept.{Kept}
use Rattle.mari_publish.specs.Lines.{item_lines, demand_lines, block_lines, published_in, unpublished_in, front_lines}
use Rattle.mari_lines.specs.Ranges.{Between}
use Rattle.mari_publish.specs.Order.{ending_part, after_listing, after_growing, after_ending, after_totals, full_block, keeps, kept_with, one_published, one_unpublished, starts_block, after, grown, lines_so_far}
use Rattle.mari_publish.proofs.Counts.{both_kinds}
use Rattle.mari_publish.proofs.Steps.{some_is, ListingFits, HeldFits, Moves, listing_step, growing_step, ending_step, totals_step}

pub all_front : {X : Type 0} (P : X → Type 0) (xs ys : List X) → AllByRecursion P (xs ++ ys) → AllByRecursion P xs
all_front P [] ys a = tt
all_front P (x ∷ xs) ys a = (a.0, all_front P xs ys a.1)

pub all_back : {X : Type 0} (P : X → Type 0) (xs ys : List X) → AllByRecursion P (xs ++ ys) → AllByRecursion P ys
all_back P [] ys a = a
all_back P (x ∷ xs) ys a = all_back P xs ys a.1

pub all_push : {X : Type 0} (P : X → Type 0) (xs : List X) (y : X) → AllByRecursion P xs → P y → AllByRecursion P (xs ++ y ∷ [])
all_push P [] y a h = (h, tt)
all_push P (x ∷ xs) y a h = (a.0, all_push P xs y a.1 h)

swap_one : (a b : ℕ) → (a + b) + 1 ≡ (a + 1) + b
swap_one a b = omega arith

abbrev pub ones : Block → ℕ
ones (block.Published b) = 1
ones (block.Unpublished heading count) = 0

abbrev pub others : Block → ℕ
others (block.Published b) = 0
others (block.Unpublished heading count) = 1

published_push : (bs : List Block) (b : Block) → published_in (bs ++ b ∷ []) ≡ published_in bs + ones b
published_push (block.Published c ∷ bs) b = ap (λ n. n + 1) (published_push bs b) ∙ swap_one (published_in bs) (ones b)
published_push (block.Unpublished heading count ∷ bs) b = published_push bs b
published_push _ _ = grind arith

unpublished_push : (bs : List Block) (b : Block) → unpublished_in (bs ++ b ∷ []) ≡ unpublished_in bs + others b
unpublished_push (block.Published c ∷ bs) b = unpublished_push bs b
unpublished_push (block.Unpublished heading count ∷ bs) b = ap (λ n. n + 1) (unpublished_push bs b) ∙ swap_one (unpublished_in bs) (others b)
unpublished_push _ _ = grind arith

-- how many lines of a kind a block may have, but for those whose numbers say so
abbrev pub IsWithinLimits : Block → Type 0
IsWithinLimits (block.Unpublished heading count) = Unit {0}
IsWithinLimits (block.Published b) = Between 1 64 (length b.zones) × (length b.borders ≤ 256) × (length b.bids ≤ 4096) × Between 1 64 (length b.operators) × (length b.providers ≤ 4096)

-- the lines read are those of the publication so far and of what is held
pub record Stands (ls : List Line) (p : Publication) (k : Kept) (h : Held) : Type 0 where
  pub lines : ls ≡ lines_so_far p h
  pub fits : HeldFits p h
  pub published : k.counts.published ≡ published_in p.blocks
  pub unpublished : k.counts.unpublished ≡ unpublished_in p.blocks
  pub blocks : AllByRecursion IsWithinLimits p.blocks
  pub runs : length p.blocks ≤ 1000

moved : (ls : List Line) (p : Publication) (k : Kept) (h new : Held) (l : Line) → Stands ls p k h → Moves p h l new → Stands (ls ++ l ∷ []) p (kept_with k new) new
moved ls p k h new l s m = record {
  lines = ap (λ (xs : List Line). xs ++ l ∷ []) s.lines ∙ sym m.0;
  fits = m.1;
  published = s.published;
  unpublished = s.unpublished;
  blocks = s.blocks;
  runs = s.runs;
}

abbrev pub Next : List Line → Publication → Line → Kept × Option Part → Type 0
Next ls p l x = Stands (ls ++ l ∷ []) (grown p x.1) x.0 x.0.held

kept_step : (ls : List Line) (p : Publication) (k : Kept) (h : Held) (l : Line) (o : Option Held) (x : Kept × Option Part) → Stands ls p k h
    → ((new : Held) → o ≡ Some new → Moves p h l new) → keeps k o ≡ Some x → Next ls p l x
kept_step ls p k h l None x s m e = absurd cc
kept_step ls p k h l (Some new) x s m e = subst (λ y. Next ls p l y) (some_is (kept_with k new, None) x e) (moved ls p k h new l s (m new refl))

-- a block that is whole
block_push : (p : Publication) (b : Block) → front_lines (grown p (Some (part.Block b))) ++ [] ≡ front_lines p ++ block_lines b
block_push p b =
    append-nil _ ∙ ap (λ (xs : List Line). line.Head p.date p.quarters p.budget ∷ xs)
    (flat_map-append block_lines p.blocks (b ∷ []) ∙ ap (λ (xs : List Line). flat_map block_lines p.blocks ++ xs) (append-nil (block_lines b)))

ended : (F m is os ps : List Line) (a b t e : Line)
    → (F ++ ((a ∷ b ∷ m) ++ t ∷ (is ++ (os ++ ps)))) ++ e ∷ [] ≡ F ++ (a ∷ b ∷ (m ++ (t ∷ is ++ (os ++ (ps ++ e ∷ [])))))
ended F m is os ps a b t e =
    rw
    (append_assoc F ((a ∷ b ∷ m) ++ t ∷ (is ++ (os ++ ps))) (e ∷ []), append_assoc m (t ∷ (is ++ (os ++ ps))) (e ∷ []), append_assoc is (os ++ ps) (e ∷ []), append_assoc os ps (e ∷ []))
    refl

first : (F : List Line) (l : Line) → F ++ l ∷ [] ≡ (F ++ []) ++ l ∷ []
first F l = ap (λ (xs : List Line). xs ++ l ∷ []) (sym (append-nil F))

block_next : (ls : List Line) (p : Publication) (k new : Kept) (h : Held) (l : Line) (b : Block) → Stands ls p k h → IsWithinLimits b → length p.blocks < 1000
    → lines_so_far p h ++ l ∷ [] ≡ front_lines p ++ block_lines b
    → new.counts.published ≡ k.counts.published + ones b → new.counts.unpublished ≡ k.counts.unpublished + others b
    → Stands (ls ++ l ∷ []) (grown p (Some (part.Block b))) new held.Between
block_next ls p k new h l b s within room e ep eu = record {
  lines = ap (λ (xs : List Line). xs ++ l ∷ []) s.lines ∙ e ∙ sym (block_push p b);
  fits = tt;
  published = ep ∙ ap (λ n. n + ones b) s.published ∙ sym (published_push p.blocks b);
  unpublished = eu ∙ ap (λ n. n + others b) s.unpublished ∙ sym (unpublished_push p.blocks b);
  blocks = all_push IsWithinLimits p.blocks b s.blocks within;
  runs = let len : length (p.blocks ++ b ∷ []) ≡ length p.blocks + 1 = simp (length-append) in omega (arith, len, room);
}

room_of : (ls : List Line) (p : Publication) (k : Kept) (h : Held) → Stands ls p k h → ltb (k.counts.published + k.counts.unpublished) 1000 ≡ true → length p.blocks < 1000
room_of ls p k h s e = let c = both_kinds p.blocks in let lt = ltb-true (k.counts.published + k.counts.unpublished) 1000 e in omega (arith, c, lt, s.published, s.unpublished)

between_step : (ls : List Line) (p : Publication) (k : Kept) (l : Line) (x : Kept × Option Part) → Stands ls p k held.Between → starts_block k l ≡ Some x → Next ls p l x
between_step ls p k (line.Run h) x s e =
    let t = cond_some (ltb (k.counts.published + k.counts.unpublished) 1000) (kept_with k (held.Run h), None) x e in
    subst (λ y. Next ls p (line.Run h) y) t.1 (moved ls p k held.Between (held.Run h) (line.Run h) s (first (front_lines p) (line.Run h), room_of ls p k held.Between s t.0))
between_step ls p k (line.Unpublished h count) x s e =
    let new : Kept = record { held = held.Between; counts = one_unpublished k.counts } in
    let t = cond_some (ltb (k.counts.published + k.counts.unpublished) 1000) (new, Some (part.Block (block.Unpublished h count))) x e in
    subst (λ y. Next ls p (line.Unpublished h count) y) t.1
    (block_next ls p k new held.Between (line.Unpublished h count) (block.Unpublished h count) s tt (room_of ls p k held.Between s t.0)
    (sym (first (front_lines p) (line.Unpublished h count))) (omega arith) refl)
between_step ls p k (line.TotalOperator t) x s e =
    subst (λ y. Next ls p (line.TotalOperator t) y) (some_is (kept_with k (held.Totals (t ∷ []) []), None) x e)
    (moved ls p k held.Between (held.Totals (t ∷ []) []) (line.TotalOperator t) s (first (front_lines p) (line.TotalOperator t), ((omega arith, omega arith), omega arith)))
between_step ls p k _ x s e = absurd cc

end_step : (ls : List Line) (p : Publication) (k : Kept) (g : Ending) (run : ℕ) (x : Kept × Option Part)
    → Stands ls p k (held.Ending g) → after k (held.Ending g) (line.End run) ≡ Some x → Next ls p (line.End run) x
end_step ls p k g run x s e =
    let new : Kept = record { held = held.Between; counts = one_published k.counts } in
    let t = cond_some (eqb run g.listing.heading.run) (new, Some (part.Block (full_block g))) x e in
    let same_run : run ≡ g.listing.heading.run = eqb-true _ _ t.0 in
    let b = g.listing in
    let goal1 = ended (front_lines p) (map line.Zone b.zones ++ (map line.Border b.borders ++ (map line.Bid b.bids ++ demand_lines 1 b.demands))) (flat_map item_lines g.tree)
    (map line.Operator g.operators) (map line.Provider g.providers)
    (line.Run b.heading) (line.Welfare b.welfare) (line.Tree (length g.tree)) (line.End b.heading.run) in
    let goal2 = subst (λ n. (front_lines p ++ ending_part g) ++ line.End n ∷ [] ≡ front_lines p ++ block_lines (full_block g)) (sym same_run) goal1 in
    let f = s.fits.1 in
    let few : length g.listing.zones ≤ 64 = f.listing.zones in
    let within : IsWithinLimits (full_block g) = ((f.some, few), f.listing.borders, f.listing.bids, f.operators, f.providers) in
    subst (λ y. Next ls p (line.End run) y) t.1
    (block_next ls p k new (held.Ending g) (line.End run) (full_block g) s within s.fits.0 goal2 refl (omega arith))

one_more_line : (F : List Line) (a b : Line) → F ++ (a ∷ b ∷ []) ≡ (F ++ a ∷ []) ++ b ∷ []
one_more_line F a b = sym (append_assoc F (a ∷ []) (b ∷ []))

no_lists : (h : _) (w : ℕ) → ListingFits (record { heading = h; welfare = w; zones = []; borders = []; bids = []; demands = [] })
no_lists h w = record {
  zones = omega arith;
  borders = omega arith;
  bids = omega arith;
  border_later = λ no. absurd (omega arith);
  bid_later = λ no. absurd (omega arith);
  demand_later = λ no. absurd (omega arith);
}

-- a line that may follow is the next line of what has come
pub next : (ls : List Line) (p : Publication) (k : Kept) (h : Held) (l : Line) (x : Kept × Option Part) → Stands ls p k h → after k h l ≡ Some x → Next ls p l x
next ls p k held.Start (line.Head date quarters budget) x s e =
    subst (λ y. Next ls p (line.Head date quarters budget) y) (some_is (kept_with k held.Between, Some (part.Head date quarters budget)) x e) (record {
      lines = ap (λ (xs : List Line). xs ++ line.Head date quarters budget ∷ []) s.lines;
      fits = tt;
      published = s.published ∙ ap published_in s.fits;
      unpublished = s.unpublished ∙ ap unpublished_in s.fits;
      blocks = tt;
      runs = omega arith;
    })
next ls p k held.Between l x s e = between_step ls p k l x s e
next ls p k (held.Run h) (line.Welfare n) x s e =
    let new = held.Listing (record { heading = h; welfare = n; zones = []; borders = []; bids = []; demands = [] }) in
    subst (λ y. Next ls p (line.Welfare n) y) (some_is (kept_with k new, None) x e) (moved ls p k (held.Run h) new (line.Welfare n) s
    (one_more_line (front_lines p) (line.Run h) (line.Welfare n), (s.fits, no_lists h n)))
next ls p k (held.Listing b) l x s e = kept_step ls p k (held.Listing b) l (after_listing b l) x s (λ new o. listing_step p b l new s.fits o) e
next ls p k (held.Growing g) l x s e = kept_step ls p k (held.Growing g) l (after_growing g g.pending l) x s (λ new o. growing_step p g g.pending l new refl s.fits o) e
next ls p k (held.Ending g) (line.End run) x s e = end_step ls p k g run x s e
next ls p k (held.Ending g) l x s e = kept_step ls p k (held.Ending g) l (after_ending g l) x s (λ new o. ending_step p g l new s.fits o) e
next ls p k (held.Totals os ps) (line.Done m n) x s e =
    let new : Kept = kept_with k held.Done in
    let c = cond_some (eqb m k.counts.published && eqb n k.counts.unpublished) (new, Some (part.Totals os ps)) x e in
    let bs = and_parts (eqb m k.counts.published) (eqb n k.counts.unpublished) c.0 in
    let em : m ≡ published_in p.blocks = eqb-true _ _ bs.0 ∙ s.published in
    let en : n ≡ unpublished_in p.blocks = eqb-true _ _ bs.1 ∙ s.unpublished in
    let last : line.Done m n ≡ line.Done (published_in p.blocks) (unpublished_in p.blocks) = ap (λ a. line.Done a n) em ∙ ap (λ b. line.Done (published_in p.blocks) b) en in
    subst (λ y. Next ls p (line.Done m n) y) c.1 (record {
      lines = ap (λ (xs : List Line). xs ++ line.Done m n ∷ []) s.lines ∙ append_assoc (front_lines p) (map line.TotalOperator os ++ map line.TotalProvider ps) (line.Done m n ∷ [])
          ∙ ap (λ (xs : List Line). front_lines p ++ xs) (append_assoc (map line.TotalOperator os) (map line.TotalProvider ps) (line.Done m n ∷ []))
          ∙ ap (λ (z : Line). front_lines p ++ (map line.TotalOperator os ++ (map line.TotalProvider ps ++ z ∷ []))) last;
      fits = s.fits;
      published = s.published;
      unpublished = s.unpublished;
      blocks = s.blocks;
      runs = s.runs;
    })
next ls p k (held.Totals os ps) l x s e = kept_step ls p k (held.Totals os ps) l (after_totals os ps l) x s (λ new o. totals_step p os ps l new s.fits o) e
next ls p k _ _ x s e = absurd cc
