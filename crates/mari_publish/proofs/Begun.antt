-- What has come can always become a publication.
use Rattle.std.proofs.Common.{◌≡◌, ◌<◌, ℕ, suc, zero, ◌+◌, ◌-◌, List, [], ◌∷◌, ◌++◌, length, Option, Some, None, ℤ, pos, refl, sym, ap, subst, ◌∙◌, append_assoc, length-append, arith}
use Rattle.std.proofs.lemmas.Bool.{lt-ltb, eq-eqb, and_from}
use Rattle.std.proofs.lemmas.Int.{ints}
use Rattle.std.proofs.lemmas.List.{append-nil}
use Rattle.std.proofs.lemmas.List.Elements.{All-nil}
use Rattle.mari_units.specs.declared.numbers.Cents.{Cents}
use Rattle.mari_market.specs.Price.{IsCapped, IsPrice}
use Rattle.mari_market.specs.declared.certificate.TreeItem.TheVariants as items
use Rattle.mari_publish.specs.declared.publication.Publication.{Publication}
use Rattle.mari_lines.specs.declared.line.Heading.{Heading}
use Rattle.mari_lines.specs.declared.line.ZoneLine.{ZoneLine}
use Rattle.mari_lines.specs.declared.line.MoneyLine.{MoneyLine}
use Rattle.mari_lines.specs.declared.line.AmountLine.{AmountLine}
use Rattle.mari_lines.specs.declared.line.Line.{Line}
use Rattle.mari_lines.specs.declared.line.Line.TheVariants as line
use Rattle.mari_publish.specs.declared.held.Pending.{Pending}
use Rattle.mari_publish.specs.declared.held.Pending.TheVariants.{Nothing, Zones, At, Flows}
use Rattle.mari_publish.specs.declared.held.Listing.{Listing}
use Rattle.mari_publish.specs.declared.held.Growing.{Growing}
use Rattle.mari_publish.specs.declared.held.Ending.{Ending}
use Rattle.mari_publish.specs.declared.held.Held.{Held}
use Rattle.mari_publish.specs.declared.held.Held.TheVariants as held
use Rattle.mari_publish.specs.declared.publication.Part.{Part}
use Rattle.mari_publish.specs.declared.publication.Part.TheVariants as part
use Rattle.mari_publish.specs.declared.held.Kept.{Kept}
use Rattle.mari_publish.specs.Faults.{Begins}
use Rattle.mari_lines.specs.Ranges.{InRange, IsMoneyLine, Listed}
use Rattle.mari_publish.specs.Ranges.{HasText}
use Rattle.mari_publish.specs.Lines.{front_lines}
use Rattle.mari_publish.specs.Order.{kept_with, one_published, with_item, conflict_item, after_listing, after_growing, full_block, after, grown}
use Rattle.mari_publish.proofs.Counts.{both_kinds}
use Rattle.mari_lines.proofs.Gathered.{cons_all}
use Rattle.mari_publish.proofs.Fits.{Fit, has_text}
use Rattle.mari_publish.proofs.Follows.{if_true, kept_some, same}
use Rattle.mari_publish.proofs.Whole.{all_back, all_push, Stands, next}

shorter : (ls : List Line) (l : Line) → Begins (ls ++ l ∷ []) → Begins ls
shorter ls l b = (b.0, l ∷ b.1, b.2, b.3 ∙ append_assoc ls (l ∷ []) b.1)

abbrev Goes : List Line → Publication → Kept × Option Part → Type 0
Goes ls p x = Stands ls (grown p x.1) x.0 x.0.held → Fit ls → Begins ls

-- one line more, and then as follows
then_line : (ls : List Line) (p : Publication) (k : Kept) (h : Held) (l : Line) (x : Kept × Option Part) → Stands ls p k h → Fit ls → InRange l
    → after k h l ≡ Some x → Goes (ls ++ l ∷ []) p x → Begins ls
then_line ls p k h l x s fit range e more = shorter ls l (more (next ls p k h l x s e) (all_push InRange ls l fit range))

-- the lines read are a publication's
pub whole_has_text : (ls : List Line) (p : Publication) (k : Kept) → Stands ls p k held.Done → Fit ls → HasText p
whole_has_text ls p k s fit = has_text p (subst Fit s.lines fit) s.blocks s.runs s.fits.0 s.fits.1

from_done : (ls : List Line) (p : Publication) (k : Kept) → Stands ls p k held.Done → Fit ls → Begins ls
from_done ls p k s fit = (p, [], whole_has_text ls p k s fit, sym s.lines ∙ sym (append-nil ls))

from_totals : (ls : List Line) (p : Publication) (k : Kept) (os : List MoneyLine) (ps : List AmountLine) → Stands ls p k (held.Totals os ps) → Fit ls → Begins ls
from_totals ls p k os ps s fit =
    let new : Kept = kept_with k held.Done in
    let c = both_kinds p.blocks in
    let range : InRange (line.Done k.counts.published k.counts.unpublished) = (omega (arith, c, s.published, s.runs), omega (arith, c, s.unpublished, s.runs)) in
    then_line ls p k (held.Totals os ps) (line.Done k.counts.published k.counts.unpublished) (new, Some (part.Totals os ps)) s fit range
    (if_true _ (new, Some (part.Totals os ps)) (and_from _ _ (same k.counts.published) (same k.counts.unpublished)))
    (from_done (ls ++ line.Done k.counts.published k.counts.unpublished ∷ []) (grown p (Some (part.Totals os ps))) new)

free : Cents
free = record { 0 = pos 0 }

free_price : IsPrice (pos 0)
free_price = record { low = omega (arith, ints); high = omega (arith, ints) }

-- an operator of nothing
abbrev an_operator : MoneyLine
an_operator = record { name = 65 ∷ []; payment = record { 0 = pos 0 }; rent = record { 0 = pos 0 }; net = record { 0 = pos 0 } }

operator_fits : IsMoneyLine an_operator
operator_fits = (refl, omega arith, omega arith, omega arith)

abbrev a_zone : ZoneLine
a_zone = record { name = 65 ∷ []; price = record { 0 = pos 0 }; least = record { 0 = pos 0 }; greatest = record { 0 = pos 0 }; area = 1 }

from_between : (ls : List Line) (p : Publication) (k : Kept) → Stands ls p k held.Between → Fit ls → Begins ls
from_between ls p k s fit =
    let new : Kept = kept_with k (held.Totals (an_operator ∷ []) []) in
    then_line ls p k held.Between (line.TotalOperator an_operator) (new, None) s fit operator_fits refl
    (from_totals (ls ++ line.TotalOperator an_operator ∷ []) p new (an_operator ∷ []) [])

-- the run of a block that is being read is in range
run_in_range : (ls F more : List Line) (h : Heading) → ls ≡ F ++ line.Run h ∷ more → Fit ls → InRange (line.End h.run)
run_in_range ls F more h e fit = (all_back InRange F (line.Run h ∷ more) (subst Fit e fit)).0.0

from_ending : (ls : List Line) (p : Publication) (k : Kept) (e : Ending) → Stands ls p k (held.Ending e) → Fit ls → Begins ls
from_ending ls p k e s fit =
    let new : Kept = record { held = held.Between; counts = one_published k.counts } in
    let run = e.listing.heading.run in
    then_line ls p k (held.Ending e) (line.End run) (new, Some (part.Block (full_block e))) s fit
    (run_in_range ls (front_lines p) _ e.listing.heading s.lines fit)
    (if_true _ (new, Some (part.Block (full_block e))) (same run))
    (from_between (ls ++ line.End run ∷ []) (grown p (Some (part.Block (full_block e)))) new)

from_full : (ls : List Line) (p : Publication) (k : Kept) (g : Growing) → Stands ls p k (held.Growing g) → Fit ls → g.pending ≡ Nothing → length g.tree ≡ g.count → Begins ls
from_full ls p k g s fit none full =
    let e : Ending = record { listing = g.listing; tree = g.tree; operators = an_operator ∷ []; providers = [] } in
    let o : after_growing g g.pending (line.Operator an_operator) ≡ Some (held.Ending e) = rw none (if_true _ (held.Ending e) (eq-eqb _ _ full)) in
    then_line ls p k (held.Growing g) (line.Operator an_operator) (kept_with k (held.Ending e), None) s fit operator_fits (kept_some k _ (held.Ending e) o)
    (from_ending (ls ++ line.Operator an_operator ∷ []) p (kept_with k (held.Ending e)) e)

from_free : (n : ℕ) (ls : List Line) (p : Publication) (k : Kept) (g : Growing) → Stands ls p k (held.Growing g) → Fit ls → g.pending ≡ Nothing → length g.tree + n ≡ g.count → Begins ls
from_free zero ls p k g s fit none e = from_full ls p k g s fit none (omega arith)
from_free (suc n) ls p k g s fit none e =
    let room : length g.tree < g.count = omega arith in
    let o : after_growing g g.pending line.Branch ≡ Some (with_item g items.Branch) = rw none (if_true _ (with_item g items.Branch) (lt-ltb _ _ room)) in
    let grown_g : Growing = record { listing = g.listing; count = g.count; tree = g.tree ++ items.Branch ∷ []; pending = Nothing } in
    let len : length (g.tree ++ items.Branch ∷ []) ≡ length g.tree + 1 = simp (length-append) in
    then_line ls p k (held.Growing g) line.Branch (kept_with k (with_item g items.Branch), None) s fit tt (kept_some k _ (with_item g items.Branch) o)
    (λ s2 fit2. from_free n (ls ++ line.Branch ∷ []) p (kept_with k (with_item g items.Branch)) grown_g s2 fit2 refl (omega (arith, len, e)))

from_nothing : (ls : List Line) (p : Publication) (k : Kept) (g : Growing) → Stands ls p k (held.Growing g) → Fit ls → g.pending ≡ Nothing → Begins ls
from_nothing ls p k g s fit none = let le = s.fits.1.items in from_free (g.count - length g.tree) ls p k g s fit none (omega (arith, le))

no_list : {X : Type 0} (P : X → Type 0) (most : ℕ) → Listed 0 most P []
no_list P most = ((omega arith, omega arith), All-nil P)

from_flows : (zones : List ℕ) (prices : List Cents) (flows : List ℤ) (ls : List Line) (p : Publication) (k : Kept) (g : Growing)
    → g.pending ≡ Flows zones prices flows → Stands ls p k (held.Growing g) → Fit ls → Begins ls
from_flows zones prices flows ls p k g is s fit =
    let i = conflict_item zones prices flows [] in
    let new : Growing = record { listing = g.listing; count = g.count; tree = g.tree ++ i ∷ []; pending = Nothing } in
    let o : after_growing g g.pending (line.Mws []) ≡ Some (with_item g i) = rw is refl in
    then_line ls p k (held.Growing g) (line.Mws []) (kept_with k (with_item g i), None) s fit (no_list _ 4608) (kept_some k _ (with_item g i) o)
    (λ s2 fit2. from_nothing (ls ++ line.Mws [] ∷ []) p (kept_with k (with_item g i)) new s2 fit2 refl)

from_at : (zones : List ℕ) (prices : List Cents) (ls : List Line) (p : Publication) (k : Kept) (g : Growing) → g.pending ≡ At zones prices → Stands ls p k (held.Growing g) → Fit ls → Begins ls
from_at zones prices ls p k g is s fit =
    let new : Growing = record { listing = g.listing; count = g.count; tree = g.tree; pending = Flows zones prices [] } in
    let o : after_growing g g.pending (line.Flows []) ≡ Some (held.Growing new) = rw is refl in
    then_line ls p k (held.Growing g) (line.Flows []) (kept_with k (held.Growing new), None) s fit (no_list _ 256) (kept_some k _ (held.Growing new) o)
    (λ s2 fit2. from_flows zones prices [] (ls ++ line.Flows [] ∷ []) p (kept_with k (held.Growing new)) new refl s2 fit2)

from_pending : (pending : Pending) (ls : List Line) (p : Publication) (k : Kept) (g : Growing) → g.pending ≡ pending → Stands ls p k (held.Growing g) → Fit ls → Begins ls
from_pending Nothing ls p k g is s fit = from_nothing ls p k g s fit is
from_pending (Flows zones prices flows) ls p k g is s fit = from_flows zones prices flows ls p k g is s fit
from_pending (At zones prices) ls p k g is s fit = from_at zones prices ls p k g is s fit
from_pending (Zones zones) ls p k g is s fit =
    let prices : List Cents = record { 0 = pos 0 } ∷ [] in
    let new : Growing = record { listing = g.listing; count = g.count; tree = g.tree; pending = At zones prices } in
    let o : after_growing g g.pending (line.At prices) ≡ Some (held.Growing new) = rw is refl in
    then_line ls p k (held.Growing g) (line.At prices) (kept_with k (held.Growing new), None) s fit
    ((omega arith, omega arith), cons_all IsCapped (record { 0 = pos 0 }) [] free_price (All-nil IsCapped)) (kept_some k _ (held.Growing new) o)
    (λ s2 fit2. from_at zones prices (ls ++ line.At prices ∷ []) p (kept_with k (held.Growing new)) new refl s2 fit2)

from_growing : (ls : List Line) (p : Publication) (k : Kept) (g : Growing) → Stands ls p k (held.Growing g) → Fit ls → Begins ls
from_growing ls p k g s fit = from_pending g.pending ls p k g refl s fit

from_zones : (ls : List Line) (p : Publication) (k : Kept) (b : Listing) → Stands ls p k (held.Listing b) → Fit ls → 0 < length b.zones → Begins ls
from_zones ls p k b s fit some =
    let new : Growing = record { listing = b; count = 1; tree = []; pending = Nothing } in
    let o : after_listing b (line.Tree 1) ≡ Some (held.Growing new) = if_true _ (held.Growing new) (lt-ltb _ _ some) in
    then_line ls p k (held.Listing b) (line.Tree 1) (kept_with k (held.Growing new), None) s fit (omega arith, omega arith) (kept_some k _ (held.Growing new) o)
    (λ s2 fit2. from_growing (ls ++ line.Tree 1 ∷ []) p (kept_with k (held.Growing new)) new s2 fit2)

none_of : (n m : ℕ) → (0 < n → 0 < m) → m ≡ 0 → n ≡ 0
none_of zero m implied e = refl
none_of (suc n) m implied e = let h = implied (omega arith) in absurd (omega (arith, h, e))

from_listing : (ls : List Line) (p : Publication) (k : Kept) (b : Listing) (zones : List ZoneLine) → b.zones ≡ zones → Stands ls p k (held.Listing b) → Fit ls → Begins ls
from_listing ls p k b (z ∷ zs) is s fit = from_zones ls p k b s fit (rw is (omega arith))
from_listing ls p k b [] is s fit =
    let no_zones : length b.zones ≡ 0 = ap length is in
    let f = s.fits.1 in
    let no_borders : length b.borders ≡ 0 = none_of _ _ f.border_later no_zones in
    let no_bids : length b.bids ≡ 0 = none_of _ _ f.bid_later no_zones in
    let no_demands : length b.demands ≡ 0 = none_of _ _ f.demand_later no_zones in
    let new : Listing = record { heading = b.heading; welfare = b.welfare; zones = b.zones ++ a_zone ∷ []; borders = b.borders; bids = b.bids; demands = b.demands } in
    let o : after_listing b (line.Zone a_zone) ≡ Some (held.Listing new) = if_true _ (held.Listing new)
    (and_from _ _ (and_from _ _ (and_from _ _ (eq-eqb _ _ no_borders) (eq-eqb _ _ no_bids)) (eq-eqb _ _ no_demands)) (lt-ltb _ _ (omega (arith, no_zones)))) in
    let len : length (b.zones ++ a_zone ∷ []) ≡ length b.zones + 1 = simp (length-append) in
    then_line ls p k (held.Listing b) (line.Zone a_zone) (kept_with k (held.Listing new), None) s fit
    (refl, free_price, free_price, free_price, (omega arith, omega arith)) (kept_some k _ (held.Listing new) o)
    (λ s2 fit2. from_zones (ls ++ line.Zone a_zone ∷ []) p (kept_with k (held.Listing new)) new s2 fit2 (omega (arith, len)))

from_run : (ls : List Line) (p : Publication) (k : Kept) (h : Heading) → Stands ls p k (held.Run h) → Fit ls → Begins ls
from_run ls p k h s fit =
    let new : Listing = record { heading = h; welfare = 0; zones = []; borders = []; bids = []; demands = [] } in
    then_line ls p k (held.Run h) (line.Welfare 0) (kept_with k (held.Listing new), None) s fit (omega arith) refl
    (λ s2 fit2. from_listing (ls ++ line.Welfare 0 ∷ []) p (kept_with k (held.Listing new)) new [] refl s2 fit2)

abbrev a_date : List ℕ
a_date = 50 ∷ 48 ∷ 50 ∷ 53 ∷ 45 ∷ 48 ∷ 51 ∷ 45 ∷ 49 ∷ 50 ∷ []

-- no line that may follow leads nowhere
pub begins : (ls : List Line) (p : Publication) (k : Kept) (h : Held) → Stands ls p k h → Fit ls → Begins ls
begins ls p k held.Start s fit =
    then_line ls p k held.Start (line.Head a_date 1 1) (kept_with k held.Between, Some (part.Head a_date 1 1)) s fit ((refl, refl), (omega arith, omega arith), (omega arith, omega arith)) refl
    (λ s2 fit2. from_between (ls ++ line.Head a_date 1 1 ∷ []) (grown p (Some (part.Head a_date 1 1))) (kept_with k held.Between) s2 fit2)
begins ls p k held.Between s fit = from_between ls p k s fit
begins ls p k (held.Run h) s fit = from_run ls p k h s fit
begins ls p k (held.Listing b) s fit = from_listing ls p k b b.zones refl s fit
begins ls p k (held.Growing g) s fit = from_growing ls p k g s fit
begins ls p k (held.Ending e) s fit = from_ending ls p k e s fit
begins ls p k (held.Totals os ps) s fit = from_totals ls p k os ps s fit
begins ls p k held.Done s fit = from_done ls p k s fit
