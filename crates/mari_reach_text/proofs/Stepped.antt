-- What a line of the first form does to the tree that has come.
use Rattle.std.proofs.Common.{◌≡◌, Bool, true, false, cond, ◌&&◌, List, [], ◌∷◌, ◌++◌, Option, Some, None, refl, sym, subst, eqb, arith}
use Rattle.std.proofs.lemmas.Bool.{and_parts, eqb-true}
use Rattle.std.proofs.lemmas.List.{append-nil}
use Rattle.std.proofs.lemmas.Option.{cond_some}
use Rattle.mari_market.specs.declared.certificate.TreeItem.{TreeItem}
use Rattle.mari_market.specs.declared.certificate.TreeItem.TheVariants as items
use Rattle.mari_lines.specs.declared.line.Line.{Line}
use Rattle.mari_lines.specs.declared.line.Line.TheVariants as line
use Rattle.mari_publish.specs.Order.{after, after_ending, after_growing, after_listing, after_totals, full_block, keeps, kept_with, one_published, starts_block}
use Rattle.mari_publish.specs.declared.held.Ending.{Ending}
use Rattle.mari_publish.specs.declared.held.Growing.{Growing}
use Rattle.mari_publish.specs.declared.held.Held.{Held}
use Rattle.mari_publish.specs.declared.held.Held.TheVariants as held
use Rattle.mari_publish.specs.declared.held.Kept.{Kept}
use Rattle.mari_publish.specs.declared.held.Listing.{Listing}
use Rattle.mari_publish.specs.declared.held.Pending.{Pending}
use Rattle.mari_publish.specs.declared.held.Pending.TheVariants.{Nothing}
use Rattle.mari_publish.specs.declared.publication.Block.TheVariants as block
use Rattle.mari_publish.specs.declared.publication.Part.{Part}
use Rattle.mari_publish.specs.declared.publication.Part.TheVariants as part
use Rattle.mari_reach_text.specs.Order.{is_done}
use Rattle.mari_publish.proofs.Steps.{some_is}

pub not_both : true ≡ false → ⊥
not_both e = grind arith

-- the items of a tree so far, and whether a block is open
abbrev pub tree_of : Held → List TreeItem
tree_of (held.Growing g) = g.tree
tree_of (held.Ending e) = e.tree
tree_of _ = []

abbrev pub in_block : Held → Bool
in_block (held.Run h) = true
in_block (held.Listing b) = true
in_block (held.Growing g) = true
in_block (held.Ending e) = true
in_block _ = false

-- the lines of the first form for which a line of the second stands
abbrev pub is_plain : Line → Bool
is_plain (line.Unpublished heading count) = false
is_plain (line.Bound potentials) = false
is_plain (line.Cut cut) = false
is_plain (line.Conflict zones) = false
is_plain (line.At prices) = false
is_plain (line.Flows flows) = false
is_plain (line.Mws mws) = false
is_plain _ = true

-- the last line, and those with which the head or a block is whole
abbrev pub is_last : Line → Bool
is_last (line.Done published unpublished) = true
is_last _ = false

abbrev pub is_ending : Line → Bool
is_ending (line.Head date quarters budget) = true
is_ending (line.End run) = true
is_ending _ = false

-- those with which no part is whole
abbrev pub is_quiet : Line → Bool
is_quiet (line.Head date quarters budget) = false
is_quiet (line.Run heading) = false
is_quiet (line.End run) = false
is_quiet (line.Done published unpublished) = false
is_quiet _ = true

-- the item of a line
abbrev pub branch_in : Line → List TreeItem
branch_in line.Branch = items.Branch ∷ []
branch_in _ = []

-- the last line counts the published blocks
abbrev pub Counted : Kept → Line → Type 0
Counted k (line.Done published unpublished) = published ≡ k.counts.published
Counted k _ = Unit {0}

-- a run's line opens a block, and no other does; a branch stands in a block, and with the last line a part is whole
abbrev pub Opens : Line → Held → Held → Type 0
Opens (line.Run heading) h new = (in_block h ≡ false) × (in_block new ≡ true)
Opens line.Branch h new = (in_block h ≡ true) × (in_block new ≡ true)
Opens (line.Done published unpublished) h new = ⊥
Opens _ h new = in_block new ≡ in_block h

-- a line of this kind outside of a block
abbrev pub EndsNone : (kind : Bool) → Line → Held → Held → Type 0
EndsNone kind l h new = (tree_of h ≡ []) × (tree_of new ≡ []) × (is_quiet l ≡ false) × (in_block h ≡ false) × (in_block new ≡ false) × (kind ≡ true)

-- what a line does, by the part that is whole with it
abbrev pub Ended : Held → Line → Held → Option Part → Type 0
Ended h l new None = (tree_of new ≡ tree_of h ++ branch_in l) × Opens l h new
Ended h l new (Some (part.Head date quarters budget)) = EndsNone (is_ending l) l h new
Ended h l new (Some (part.Block (block.Published b))) =
    (b.tree ≡ tree_of h) × (tree_of new ≡ []) × (is_quiet l ≡ false) × (in_block h ≡ true) × (in_block new ≡ false) × (is_ending l ≡ true)
Ended h l new (Some (part.Block (block.Unpublished heading count))) = ⊥
Ended h l new (Some (part.Totals operators providers)) = EndsNone (is_last l) l h new

abbrev pub Stepped : Kept → Held → Line → Kept × Option Part → Type 0
Stepped k h l y = Counted k l × Ended h l y.0.held y.1 × (is_done h ≡ false) × (is_done y.0.held ≡ is_last l)

-- the same where no part is whole
abbrev HeldStep : Kept → Held → Line → Held → Type 0
HeldStep k h l new = Counted k l × Ended h l new None × (is_done h ≡ false) × (is_done new ≡ is_last l)

if_held : (k : Kept) (h : Held) (l : Line) (b : Bool) (x new : Held) → cond b (Some x) None ≡ Some new → HeldStep k h l x → HeldStep k h l new
if_held k h l b x new e s = subst (HeldStep k h l) (cond_some b x new e).1 s

if_step : (k : Kept) (h : Held) (l : Line) (b : Bool) (x y : Kept × Option Part) → cond b (Some x) None ≡ Some y → Stepped k h l x → Stepped k h l y
if_step k h l b x y e s = subst (Stepped k h l) (cond_some b x y e).1 s

kept_step : (k : Kept) (h : Held) (l : Line) (o : Option Held) (y : Kept × Option Part) → ((new : Held) → o ≡ Some new → HeldStep k h l new) → keeps k o ≡ Some y → Stepped k h l y
kept_step k h l None y s e = absurd cc
kept_step k h l (Some new) y s e = subst (Stepped k h l) (some_is (kept_with k new, None) y e) (s new refl)

listing_step : (k : Kept) (b : Listing) (l : Line) (new : Held) → after_listing b l ≡ Some new → HeldStep k (held.Listing b) l new
listing_step k b (line.Zone z) new e = if_held k (held.Listing b) (line.Zone z) _ _ new e (tt, (refl, refl), refl, refl)
listing_step k b (line.Border x) new e = if_held k (held.Listing b) (line.Border x) _ _ new e (tt, (refl, refl), refl, refl)
listing_step k b (line.Bid x) new e = if_held k (held.Listing b) (line.Bid x) _ _ new e (tt, (refl, refl), refl, refl)
listing_step k b (line.Demand place mw) new e = if_held k (held.Listing b) (line.Demand place mw) _ _ new e (tt, (refl, refl), refl, refl)
listing_step k b (line.Tree n) new e = if_held k (held.Listing b) (line.Tree n) _ _ new e (tt, (refl, refl), refl, refl)
listing_step k b _ new e = absurd cc

growing_step : (k : Kept) (g : Growing) (pending : Pending) (l : Line) (new : Held) → is_plain l ≡ true → after_growing g pending l ≡ Some new → HeldStep k (held.Growing g) l new
growing_step k g Nothing line.Branch new plain e = if_held k (held.Growing g) line.Branch _ _ new e (tt, (refl, (refl, refl)), refl, refl)
growing_step k g Nothing (line.Operator o) new plain e = if_held k (held.Growing g) (line.Operator o) _ _ new e (tt, (sym (append-nil g.tree), refl), refl, refl)
growing_step k g pending l new plain e = grind arith

ending_step : (k : Kept) (n : Ending) (l : Line) (new : Held) → after_ending n l ≡ Some new → HeldStep k (held.Ending n) l new
ending_step k n (line.Operator o) new e = if_held k (held.Ending n) (line.Operator o) _ _ new e (tt, (sym (append-nil n.tree), refl), refl, refl)
ending_step k n (line.Provider a) new e = if_held k (held.Ending n) (line.Provider a) _ _ new e (tt, (sym (append-nil n.tree), refl), refl, refl)
ending_step k n _ new e = absurd cc

totals_step : (k : Kept) (os : _) (ps : _) (l : Line) (new : Held) → after_totals os ps l ≡ Some new → HeldStep k (held.Totals os ps) l new
totals_step k os ps (line.TotalOperator o) new e = if_held k (held.Totals os ps) (line.TotalOperator o) _ _ new e (tt, (refl, refl), refl, refl)
totals_step k os ps (line.TotalProvider a) new e = if_held k (held.Totals os ps) (line.TotalProvider a) _ _ new e (tt, (refl, refl), refl, refl)
totals_step k os ps _ new e = absurd cc

between_step : (k : Kept) (l : Line) (y : Kept × Option Part) → is_plain l ≡ true → starts_block k l ≡ Some y → Stepped k held.Between l y
between_step k l y plain e = grind arith

-- each line for which one of the second form stands
pub stepped : (k : Kept) (h : Held) (l : Line) (y : Kept × Option Part) → is_plain l ≡ true → after k h l ≡ Some y → Stepped k h l y
stepped k held.Start (line.Head date quarters budget) y plain e =
    subst (Stepped k held.Start (line.Head date quarters budget)) (some_is (kept_with k held.Between, Some (part.Head date quarters budget)) y e) (tt, (refl, refl, refl, refl, refl, refl), refl, refl)
stepped k held.Between l y plain e = between_step k l y plain e
stepped k (held.Run h) (line.Welfare n) y plain e =
    let new = held.Listing (record { heading = h; welfare = n; zones = []; borders = []; bids = []; demands = [] }) in
    subst (Stepped k (held.Run h) (line.Welfare n)) (some_is (kept_with k new, None) y e) (tt, (refl, refl), refl, refl)
stepped k (held.Listing b) l y plain e = kept_step k (held.Listing b) l (after_listing b l) y (λ new o. listing_step k b l new o) e
stepped k (held.Growing g) l y plain e = kept_step k (held.Growing g) l (after_growing g g.pending l) y (λ new o. growing_step k g g.pending l new plain o) e
stepped k (held.Ending n) (line.End run) y plain e =
    let new : Kept = record { held = held.Between; counts = one_published k.counts } in
    if_step k (held.Ending n) (line.End run) (eqb run n.listing.heading.run) (new, Some (part.Block (full_block n))) y e (tt, (refl, refl, refl, refl, refl, refl), refl, refl)
stepped k (held.Ending n) l y plain e = kept_step k (held.Ending n) l (after_ending n l) y (λ new o. ending_step k n l new o) e
stepped k (held.Totals os ps) (line.Done m n) y plain e =
    let done : Kept × Option Part = (kept_with k held.Done, Some (part.Totals os ps)) in
    let t = cond_some (eqb m k.counts.published && eqb n k.counts.unpublished) done y e in
    let counts = and_parts (eqb m k.counts.published) (eqb n k.counts.unpublished) t.0 in
    subst (Stepped k (held.Totals os ps) (line.Done m n)) t.1 (eqb-true _ _ counts.0, (refl, refl, refl, refl, refl, refl), refl, refl)
stepped k (held.Totals os ps) l y plain e = kept_step k (held.Totals os ps) l (after_totals os ps l) y (λ new o. totals_step k os ps l new o) e
stepped k _ _ y plain e = absurd cc
