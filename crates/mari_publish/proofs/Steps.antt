-- A line that may follow is the next line of what has come.
use Rattle.std.proofs.Common.{◌≡◌, ◌≤◌, ◌<◌, ◌+◌, ℕ, true, false, ◌&&◌, List, [], ◌∷◌, ◌++◌, map, length, Option, Some, refl, sym, ap, subst, ◌∙◌, append_assoc, arith, ltb, eqb}
use Rattle.std.specs.List.{flat_map}
use Rattle.std.proofs.lemmas.Bool.{eqb-true, ltb-true, and_parts}
use Rattle.std.proofs.lemmas.List.{append-nil, nil_from_length, map_push, length_push}
use Rattle.std.proofs.lemmas.Grind.{flat_map-append}
use Rattle.std.proofs.lemmas.Option.{cond_some}
use Rattle.mari_market.specs.declared.certificate.Leaf.TheVariants as leaves
use Rattle.mari_market.specs.declared.certificate.TreeItem.{TreeItem}
use Rattle.mari_market.specs.declared.certificate.TreeItem.TheVariants as items
use Rattle.mari_lines.specs.declared.line.Heading.{Heading}
use Rattle.mari_lines.specs.declared.line.ZoneLine.{ZoneLine}
use Rattle.mari_lines.specs.declared.line.BorderLine.{BorderLine}
use Rattle.mari_lines.specs.declared.line.BidLine.{BidLine}
use Rattle.mari_lines.specs.declared.line.MoneyLine.{MoneyLine}
use Rattle.mari_lines.specs.declared.line.AmountLine.{AmountLine}
use Rattle.mari_publish.specs.declared.publication.Publication.{Publication}
use Rattle.mari_lines.specs.declared.line.Line.{Line}
use Rattle.mari_lines.specs.declared.line.Line.TheVariants as line
use Rattle.mari_publish.specs.declared.held.Pending.{Pending}
use Rattle.mari_publish.specs.declared.held.Pending.TheVariants.{Nothing, Zones, At, Flows}
use Rattle.mari_publish.specs.declared.held.Listing.{Listing}
use Rattle.mari_publish.specs.declared.held.Growing.{Growing}
use Rattle.mari_publish.specs.declared.held.Ending.{Ending}
use Rattle.mari_publish.specs.declared.held.Held.{Held}
use Rattle.mari_publish.specs.declared.held.Held.TheVariants as held
use Rattle.mari_publish.specs.Lines.{item_lines, demand_lines, front_lines}
use Rattle.mari_lines.specs.Ranges.{Between}
use Rattle.mari_publish.specs.Order.{pending_lines, listing_lines, growing_lines, ending_part, held_lines, is_nothing, is_empty, with_item, with_pending, conflict_item, after_listing, after_growing, after_ending, after_totals, lines_so_far}

abbrev pub some : {A : Type 0} → A → Option A
some x = Some x

pub some_is : {A : Type 0} (x y : A) → some x ≡ some y → x ≡ y
some_is x y e = cc

-- a block's lists keep to the limits, and none begins before there is a zone
pub record ListingFits (b : Listing) : Type 0 where
  pub zones : length b.zones ≤ 64
  pub borders : length b.borders ≤ 256
  pub bids : length b.bids ≤ 4096
  pub border_later : 0 < length b.borders → 0 < length b.zones
  pub bid_later : 0 < length b.bids → 0 < length b.zones
  pub demand_later : 0 < length b.demands → 0 < length b.zones

pub record GrowingFits (g : Growing) : Type 0 where
  pub listing : ListingFits g.listing
  pub some : 0 < length g.listing.zones
  pub items : length g.tree ≤ g.count
  pub due : is_nothing g.pending ≡ false → length g.tree < g.count

pub record EndingFits (e : Ending) : Type 0 where
  pub listing : ListingFits e.listing
  pub some : 0 < length e.listing.zones
  pub operators : Between 1 64 (length e.operators)
  pub providers : length e.providers ≤ 4096

-- what is held keeps to the limits
abbrev pub HeldFits : Publication → Held → Type 0
HeldFits p held.Start = p.blocks ≡ []
HeldFits p held.Between = Unit {0}
HeldFits p (held.Run h) = length p.blocks < 1000
HeldFits p (held.Listing b) = (length p.blocks < 1000) × ListingFits b
HeldFits p (held.Growing g) = (length p.blocks < 1000) × GrowingFits g
HeldFits p (held.Ending e) = (length p.blocks < 1000) × EndingFits e
HeldFits p (held.Totals os ps) = Between 1 64 (length os) × (length ps ≤ 1638400)
HeldFits p held.Done = Between 1 64 (length p.operators) × (length p.providers ≤ 1638400)

-- one line more of what is held
abbrev pub Moves : Publication → Held → Line → Held → Type 0
Moves p old l new = (lines_so_far p new ≡ lines_so_far p old ++ l ∷ []) × HeldFits p new

one_more : (F new old : List Line) (l : Line) → new ≡ old ++ l ∷ [] → F ++ new ≡ (F ++ old) ++ l ∷ []
one_more F new old l e = ap (λ (xs : List Line). F ++ xs) e ∙ sym (append_assoc F old (l ∷ []))

none : {X : Type 0} (xs : List X) → is_empty xs ≡ true → xs ≡ []
none xs e = nil_from_length xs (eqb-true (length xs) 0 e)

-- lists with one more at the end
push_nil : {Z : Type 0} (f : Z → Line) (zs : List Z) (z : Z) → map f (zs ++ z ∷ []) ++ [] ≡ (map f zs ++ []) ++ f z ∷ []
push_nil f zs z = append-nil (map f (zs ++ z ∷ [])) ∙ map_push f zs z ∙ ap (λ (xs : List Line). xs ++ f z ∷ []) (sym (append-nil (map f zs)))

abbrev listed : Heading → ℕ → List ZoneLine → List BorderLine → List BidLine → List ℕ → List Line
listed h w zs bs ds ms = line.Run h ∷ line.Welfare w ∷ (map line.Zone zs ++ (map line.Border bs ++ (map line.Bid ds ++ demand_lines 1 ms)))

zone_more : (h : Heading) (w : ℕ) (zs : List ZoneLine) (z : ZoneLine) (bs : List BorderLine) (ds : List BidLine) (ms : List ℕ) → bs ≡ [] → ds ≡ [] → ms ≡ []
    → listed h w (zs ++ z ∷ []) bs ds ms ≡ listed h w zs bs ds ms ++ line.Zone z ∷ []
zone_more h w zs z bs ds ms eb ed em =
    subst (λ (bs : List BorderLine). listed h w (zs ++ z ∷ []) bs ds ms ≡ listed h w zs bs ds ms ++ line.Zone z ∷ []) (sym eb)
    (subst (λ (ds : List BidLine). listed h w (zs ++ z ∷ []) [] ds ms ≡ listed h w zs [] ds ms ++ line.Zone z ∷ []) (sym ed)
    (subst (λ (ms : List ℕ). listed h w (zs ++ z ∷ []) [] [] ms ≡ listed h w zs [] [] ms ++ line.Zone z ∷ []) (sym em)
    (ap (λ (xs : List Line). line.Run h ∷ line.Welfare w ∷ xs) (push_nil (λ x. line.Zone x) zs z))))

border_more : (h : Heading) (w : ℕ) (zs : List ZoneLine) (bs : List BorderLine) (b : BorderLine) (ds : List BidLine) (ms : List ℕ) → ds ≡ [] → ms ≡ []
    → listed h w zs (bs ++ b ∷ []) ds ms ≡ listed h w zs bs ds ms ++ line.Border b ∷ []
border_more h w zs bs b ds ms ed em =
    subst (λ (ds : List BidLine). listed h w zs (bs ++ b ∷ []) ds ms ≡ listed h w zs bs ds ms ++ line.Border b ∷ []) (sym ed)
    (subst (λ (ms : List ℕ). listed h w zs (bs ++ b ∷ []) [] ms ≡ listed h w zs bs [] ms ++ line.Border b ∷ []) (sym em)
    (ap (λ (xs : List Line). line.Run h ∷ line.Welfare w ∷ xs) (one_more (map line.Zone zs) _ (map line.Border bs ++ []) (line.Border b) (push_nil (λ x. line.Border x) bs b))))

bid_more : (h : Heading) (w : ℕ) (zs : List ZoneLine) (bs : List BorderLine) (ds : List BidLine) (d : BidLine) (ms : List ℕ) → ms ≡ []
    → listed h w zs bs (ds ++ d ∷ []) ms ≡ listed h w zs bs ds ms ++ line.Bid d ∷ []
bid_more h w zs bs ds d ms em =
    subst (λ (ms : List ℕ). listed h w zs bs (ds ++ d ∷ []) ms ≡ listed h w zs bs ds ms ++ line.Bid d ∷ []) (sym em)
    (ap (λ (xs : List Line). line.Run h ∷ line.Welfare w ∷ xs) (one_more (map line.Zone zs) _ (map line.Border bs ++ (map line.Bid ds ++ [])) (line.Bid d)
    (one_more (map line.Border bs) _ (map line.Bid ds ++ []) (line.Bid d) (push_nil (λ x. line.Bid x) ds d))))

demand_push : (k : ℕ) (ms : List ℕ) (m : ℕ) → demand_lines k (ms ++ m ∷ []) ≡ demand_lines k ms ++ line.Demand (k + length ms) m ∷ []
demand_push k [] m = ap (λ n. line.Demand n m ∷ []) (omega arith)
demand_push k (x ∷ ms) m = ap (λ (xs : List Line). line.Demand k x ∷ xs) (demand_push (k + 1) ms m ∙ ap (λ n. demand_lines (k + 1) ms ++ line.Demand n m ∷ []) (omega arith))

demand_more : (h : Heading) (w : ℕ) (zs : List ZoneLine) (bs : List BorderLine) (ds : List BidLine) (ms : List ℕ) (place m : ℕ) → place ≡ length ms + 1
    → listed h w zs bs ds (ms ++ m ∷ []) ≡ listed h w zs bs ds ms ++ line.Demand place m ∷ []
demand_more h w zs bs ds ms place m e =
    let at : 1 + length ms ≡ place = omega arith in
    ap (λ (xs : List Line). line.Run h ∷ line.Welfare w ∷ xs) (one_more (map line.Zone zs) _ (map line.Border bs ++ (map line.Bid ds ++ demand_lines 1 ms)) (line.Demand place m)
    (one_more (map line.Border bs) _ (map line.Bid ds ++ demand_lines 1 ms) (line.Demand place m)
    (one_more (map line.Bid ds) _ (demand_lines 1 ms) (line.Demand place m) (demand_push 1 ms m ∙ ap (λ n. demand_lines 1 ms ++ line.Demand n m ∷ []) at))))

-- a line of a block before its tree
pub listing_step : (p : Publication) (b : Listing) (l : Line) (h : Held) → HeldFits p (held.Listing b) → after_listing b l ≡ Some h → Moves p (held.Listing b) l h
listing_step p b (line.Zone z) h fits e =
    let made = held.Listing (record { heading = b.heading; welfare = b.welfare; zones = b.zones ++ z ∷ []; borders = b.borders; bids = b.bids; demands = b.demands }) in
    let t = cond_some (is_empty b.borders && is_empty b.bids && is_empty b.demands && ltb (length b.zones) 64) made h e in
    let s1 = and_parts (is_empty b.borders && is_empty b.bids && is_empty b.demands) (ltb (length b.zones) 64) t.0 in
    let s2 = and_parts (is_empty b.borders && is_empty b.bids) (is_empty b.demands) s1.0 in
    let s3 = and_parts (is_empty b.borders) (is_empty b.bids) s2.0 in
    let room : length b.zones < 64 = ltb-true _ _ s1.1 in
    let len = length_push b.zones z in
    let f = fits.1 in
    let new : HeldFits p made = (
      fits.0,
      record {
        zones = omega (arith, len, room);
        borders = f.borders;
        bids = f.bids;
        border_later = λ _. omega (arith, len);
        bid_later = λ _. omega (arith, len);
        demand_later = λ _. omega (arith, len);
      },
    ) in
    subst (λ x. Moves p (held.Listing b) (line.Zone z) x) t.1 (
      one_more (front_lines p) _ (listing_lines b) (line.Zone z) (zone_more b.heading b.welfare b.zones z b.borders b.bids b.demands (none b.borders s3.0) (none b.bids s3.1) (none b.demands s2.1)),
      new,
    )
listing_step p b (line.Border x) h fits e =
    let made = held.Listing (record { heading = b.heading; welfare = b.welfare; zones = b.zones; borders = b.borders ++ x ∷ []; bids = b.bids; demands = b.demands }) in
    let t = cond_some (ltb 0 (length b.zones) && is_empty b.bids && is_empty b.demands && ltb (length b.borders) 256) made h e in
    let s1 = and_parts (ltb 0 (length b.zones) && is_empty b.bids && is_empty b.demands) (ltb (length b.borders) 256) t.0 in
    let s2 = and_parts (ltb 0 (length b.zones) && is_empty b.bids) (is_empty b.demands) s1.0 in
    let s3 = and_parts (ltb 0 (length b.zones)) (is_empty b.bids) s2.0 in
    let some : 0 < length b.zones = ltb-true _ _ s3.0 in
    let room : length b.borders < 256 = ltb-true _ _ s1.1 in
    let len = length_push b.borders x in
    let f = fits.1 in
    let new : HeldFits p made = (fits.0, record { zones = f.zones; borders = omega (arith, len, room); bids = f.bids; border_later = λ _. some; bid_later = λ _. some; demand_later = λ _. some }) in
    subst (λ y. Moves p (held.Listing b) (line.Border x) y) t.1
    (one_more (front_lines p) _ (listing_lines b) (line.Border x) (border_more b.heading b.welfare b.zones b.borders x b.bids b.demands (none b.bids s3.1) (none b.demands s2.1)), new)
listing_step p b (line.Bid d) h fits e =
    let made = held.Listing (record { heading = b.heading; welfare = b.welfare; zones = b.zones; borders = b.borders; bids = b.bids ++ d ∷ []; demands = b.demands }) in
    let t = cond_some (ltb 0 (length b.zones) && is_empty b.demands && ltb (length b.bids) 4096) made h e in
    let s1 = and_parts (ltb 0 (length b.zones) && is_empty b.demands) (ltb (length b.bids) 4096) t.0 in
    let s2 = and_parts (ltb 0 (length b.zones)) (is_empty b.demands) s1.0 in
    let some : 0 < length b.zones = ltb-true _ _ s2.0 in
    let room : length b.bids < 4096 = ltb-true _ _ s1.1 in
    let len = length_push b.bids d in
    let f = fits.1 in
    let new : HeldFits p made = (fits.0, record { zones = f.zones; borders = f.borders; bids = omega (arith, len, room); border_later = λ _. some; bid_later = λ _. some; demand_later = λ _. some }) in
    subst (λ y. Moves p (held.Listing b) (line.Bid d) y) t.1
    (one_more (front_lines p) _ (listing_lines b) (line.Bid d) (bid_more b.heading b.welfare b.zones b.borders b.bids d b.demands (none b.demands s2.1)), new)
listing_step p b (line.Demand place m) h fits e =
    let made = held.Listing (record { heading = b.heading; welfare = b.welfare; zones = b.zones; borders = b.borders; bids = b.bids; demands = b.demands ++ m ∷ [] }) in
    let t = cond_some (ltb 0 (length b.zones) && eqb place (length b.demands + 1)) made h e in
    let s1 = and_parts (ltb 0 (length b.zones)) (eqb place (length b.demands + 1)) t.0 in
    let some : 0 < length b.zones = ltb-true _ _ s1.0 in
    let f = fits.1 in
    let new : HeldFits p made = (fits.0, record { zones = f.zones; borders = f.borders; bids = f.bids; border_later = λ _. some; bid_later = λ _. some; demand_later = λ _. some }) in
    subst (λ y. Moves p (held.Listing b) (line.Demand place m) y) t.1
    (one_more (front_lines p) _ (listing_lines b) (line.Demand place m) (demand_more b.heading b.welfare b.zones b.borders b.bids b.demands place m (eqb-true _ _ s1.1)), new)
listing_step p b (line.Tree n) h fits e =
    let made = held.Growing (record { listing = b; count = n; tree = []; pending = Nothing }) in
    let t = cond_some (ltb 0 (length b.zones)) made h e in
    let new : HeldFits p made = (fits.0, record { listing = fits.1; some = ltb-true _ _ t.0; items = omega arith; due = λ no. absurd cc }) in
    subst (λ x. Moves p (held.Listing b) (line.Tree n) x) t.1 (one_more (front_lines p) _ (listing_lines b) (line.Tree n) refl, new)
listing_step p b _ h fits e = absurd cc

-- the lines of a tree, with an item whose last line comes now
more_items : (xs : List Line) (t : Line) (is : List TreeItem) (i : TreeItem) (ps : List Line) (l : Line) → item_lines i ≡ ps ++ l ∷ []
    → xs ++ t ∷ (flat_map item_lines (is ++ i ∷ []) ++ []) ≡ (xs ++ t ∷ (flat_map item_lines is ++ ps)) ++ l ∷ []
more_items xs t is i ps l e =
    let m : flat_map item_lines (is ++ i ∷ []) ≡ flat_map item_lines is ++ (ps ++ l ∷ []) =
    flat_map-append item_lines is (i ∷ []) ∙ ap (λ (x : List Line). flat_map item_lines is ++ x) (append-nil (item_lines i) ∙ e) in
    one_more xs _ (t ∷ (flat_map item_lines is ++ ps)) l
    (ap (λ (ys : List Line). t ∷ ys) (append-nil (flat_map item_lines (is ++ i ∷ [])) ∙ m ∙ sym (append_assoc (flat_map item_lines is) ps (l ∷ []))))

more_pending : (xs : List Line) (t : Line) (is ps : List Line) (l : Line) → xs ++ t ∷ (is ++ (ps ++ l ∷ [])) ≡ (xs ++ t ∷ (is ++ ps)) ++ l ∷ []
more_pending xs t is ps l = one_more xs _ (t ∷ (is ++ ps)) l (ap (λ (ys : List Line). t ∷ ys) (sym (append_assoc is ps (l ∷ []))))

with_item_step : (p : Publication) (g : Growing) (i : TreeItem) (l : Line) → HeldFits p (held.Growing g) → length g.tree < g.count
    → item_lines i ≡ pending_lines g.pending ++ l ∷ [] → Moves p (held.Growing g) l (with_item g i)
with_item_step p g i l fits room e =
    let len = length_push g.tree i in (
      one_more (front_lines p) _ (growing_lines g) l (more_items (listing_lines g.listing) (line.Tree g.count) g.tree i (pending_lines g.pending) l e),
      (fits.0, record { listing = fits.1.listing; some = fits.1.some; items = omega (arith, len, room); due = λ no. absurd cc }),
    )

with_pending_step : (p : Publication) (g : Growing) (new : Pending) (l : Line) → HeldFits p (held.Growing g) → length g.tree < g.count
    → pending_lines new ≡ pending_lines g.pending ++ l ∷ [] → Moves p (held.Growing g) l (with_pending g new)
with_pending_step p g new l fits room e = (
  one_more (front_lines p) _ (growing_lines g) l (ap (λ (x : List Line). listing_lines g.listing ++ line.Tree g.count ∷ (flat_map item_lines g.tree ++ x)) e
      ∙ more_pending (listing_lines g.listing) (line.Tree g.count) (flat_map item_lines g.tree) (pending_lines g.pending) l),
  (fits.0, record { listing = fits.1.listing; some = fits.1.some; items = fits.1.items; due = λ _. room }),
)

-- the first operator after a tree
operator_step : (p : Publication) (g : Growing) (o : MoneyLine) → HeldFits p (held.Growing g) → length g.tree ≡ g.count → pending_lines g.pending ≡ []
    → Moves p (held.Growing g) (line.Operator o) (held.Ending (record { listing = g.listing; tree = g.tree; operators = o ∷ []; providers = [] }))
operator_step p g o fits full nothing = (
  one_more (front_lines p) _ (growing_lines g) (line.Operator o)
      (ap (λ n. listing_lines g.listing ++ line.Tree n ∷ (flat_map item_lines g.tree ++ line.Operator o ∷ [])) full
      ∙ more_pending (listing_lines g.listing) (line.Tree g.count) (flat_map item_lines g.tree) [] (line.Operator o)
      ∙ ap (λ (ps : List Line). (listing_lines g.listing ++ line.Tree g.count ∷ (flat_map item_lines g.tree ++ ps)) ++ line.Operator o ∷ []) (sym nothing)),
  (fits.0, record { listing = fits.1.listing; some = fits.1.some; operators = (omega arith, omega arith); providers = omega arith }),
)

-- a line of a tree, by the lines that are pending
pub growing_step : (p : Publication) (g : Growing) (pending : Pending) (l : Line) (h : Held) → g.pending ≡ pending → HeldFits p (held.Growing g)
    → after_growing g pending l ≡ Some h → Moves p (held.Growing g) l h
growing_step p g Nothing line.Branch h is fits e =
    let t = cond_some (ltb (length g.tree) g.count) (with_item g items.Branch) h e in
    subst (λ x. Moves p (held.Growing g) line.Branch x) t.1 (with_item_step p g items.Branch line.Branch fits (ltb-true _ _ t.0) (ap (λ x. pending_lines x ++ line.Branch ∷ []) (sym is)))
growing_step p g Nothing (line.Bound prices) h is fits e =
    let i = items.Leaf (leaves.Bound (record { cents = prices })) in
    let t = cond_some (ltb (length g.tree) g.count) (with_item g i) h e in
    subst (λ x. Moves p (held.Growing g) (line.Bound prices) x) t.1 (with_item_step p g i (line.Bound prices) fits (ltb-true _ _ t.0) (ap (λ x. pending_lines x ++ line.Bound prices ∷ []) (sym is)))
growing_step p g Nothing (line.Cut cut) h is fits e =
    let i = items.Leaf (leaves.Cut cut) in
    let t = cond_some (ltb (length g.tree) g.count) (with_item g i) h e in
    subst (λ x. Moves p (held.Growing g) (line.Cut cut) x) t.1 (with_item_step p g i (line.Cut cut) fits (ltb-true _ _ t.0) (ap (λ x. pending_lines x ++ line.Cut cut ∷ []) (sym is)))
growing_step p g Nothing (line.Conflict zones) h is fits e =
    let t = cond_some (ltb (length g.tree) g.count) (with_pending g (Zones zones)) h e in
    subst (λ x. Moves p (held.Growing g) (line.Conflict zones) x) t.1
    (with_pending_step p g (Zones zones) (line.Conflict zones) fits (ltb-true _ _ t.0) (ap (λ x. pending_lines x ++ line.Conflict zones ∷ []) (sym is)))
growing_step p g Nothing (line.Operator o) h is fits e =
    let t = cond_some (eqb (length g.tree) g.count) (held.Ending (record { listing = g.listing; tree = g.tree; operators = o ∷ []; providers = [] })) h e in
    subst (λ x. Moves p (held.Growing g) (line.Operator o) x) t.1 (operator_step p g o fits (eqb-true _ _ t.0) (ap pending_lines is))
growing_step p g (Zones zones) (line.At prices) h is fits e =
    subst (λ x. Moves p (held.Growing g) (line.At prices) x) (some_is _ _ e)
    (with_pending_step p g (At zones prices) (line.At prices) fits (fits.1.due (ap is_nothing is)) (ap (λ x. pending_lines x ++ line.At prices ∷ []) (sym is)))
growing_step p g (At zones prices) (line.Flows flows) h is fits e =
    subst (λ x. Moves p (held.Growing g) (line.Flows flows) x) (some_is _ _ e)
    (with_pending_step p g (Flows zones prices flows) (line.Flows flows) fits (fits.1.due (ap is_nothing is)) (ap (λ x. pending_lines x ++ line.Flows flows ∷ []) (sym is)))
growing_step p g (Flows zones prices flows) (line.Mws mws) h is fits e =
    let i = conflict_item zones prices flows mws in
    subst (λ x. Moves p (held.Growing g) (line.Mws mws) x) (some_is (with_item g i) h e)
    (with_item_step p g i (line.Mws mws) fits (fits.1.due (ap is_nothing is)) (ap (λ x. pending_lines x ++ line.Mws mws ∷ []) (sym is)))
growing_step p g _ _ h is fits e = absurd cc

-- a line after a tree
pub ending_step : (p : Publication) (n : Ending) (l : Line) (h : Held) → HeldFits p (held.Ending n) → after_ending n l ≡ Some h → Moves p (held.Ending n) l h
ending_step p n (line.Operator o) h fits e =
    let made = held.Ending (record { listing = n.listing; tree = n.tree; operators = n.operators ++ o ∷ []; providers = n.providers }) in
    let t = cond_some (is_empty n.providers && ltb (length n.operators) 64) made h e in
    let s = and_parts (is_empty n.providers) (ltb (length n.operators) 64) t.0 in
    let room : length n.operators < 64 = ltb-true _ _ s.1 in
    let len = length_push n.operators o in
    let lines : (ps : List AmountLine) → ps ≡ []
    → listing_lines n.listing ++ line.Tree (length n.tree) ∷ (flat_map item_lines n.tree ++ (map line.Operator (n.operators ++ o ∷ []) ++ map line.Provider ps))
    ≡ (listing_lines n.listing ++ line.Tree (length n.tree) ∷ (flat_map item_lines n.tree ++ (map line.Operator n.operators ++ map line.Provider ps))) ++ line.Operator o ∷ []
    = λ ps none. subst
    (λ (qs : List AmountLine). listing_lines n.listing ++ line.Tree (length n.tree) ∷ (flat_map item_lines n.tree ++ (map line.Operator (n.operators ++ o ∷ []) ++ map line.Provider qs))
    ≡ (listing_lines n.listing ++ line.Tree (length n.tree) ∷ (flat_map item_lines n.tree ++ (map line.Operator n.operators ++ map line.Provider qs))) ++ line.Operator o ∷ []) (sym none)
    (ap (λ (xs : List Line). listing_lines n.listing ++ line.Tree (length n.tree) ∷ (flat_map item_lines n.tree ++ xs)) (push_nil (λ x. line.Operator x) n.operators o)
    ∙ more_pending (listing_lines n.listing) (line.Tree (length n.tree)) (flat_map item_lines n.tree) (map line.Operator n.operators ++ []) (line.Operator o)) in
    let f = fits.1 in
    let few = f.operators.0 in
    subst (λ x. Moves p (held.Ending n) (line.Operator o) x) t.1 (
      one_more (front_lines p) _ (ending_part n) (line.Operator o) (lines n.providers (none n.providers s.0)),
      (fits.0, record { listing = f.listing; some = f.some; operators = (omega (arith, len, few), omega (arith, len, room)); providers = f.providers }),
    )
ending_step p n (line.Provider a) h fits e =
    let made = held.Ending (record { listing = n.listing; tree = n.tree; operators = n.operators; providers = n.providers ++ a ∷ [] }) in
    let t = cond_some (ltb (length n.providers) 4096) made h e in
    let room : length n.providers < 4096 = ltb-true _ _ t.0 in
    let len = length_push n.providers a in
    let f = fits.1 in
    subst (λ x. Moves p (held.Ending n) (line.Provider a) x) t.1 (
      one_more (front_lines p) _ (ending_part n) (line.Provider a)
          (ap (λ (xs : List Line). listing_lines n.listing ++ line.Tree (length n.tree) ∷ (flat_map item_lines n.tree ++ xs))
          (one_more (map line.Operator n.operators) _ (map line.Provider n.providers) (line.Provider a) (map_push (λ x. line.Provider x) n.providers a))
          ∙ more_pending (listing_lines n.listing) (line.Tree (length n.tree)) (flat_map item_lines n.tree) (map line.Operator n.operators ++ map line.Provider n.providers) (line.Provider a)),
      (fits.0, record { listing = f.listing; some = f.some; operators = f.operators; providers = omega (arith, len, room) }),
    )
ending_step p n _ h fits e = absurd cc

-- a line of the totals
pub totals_step : (p : Publication) (os : List MoneyLine) (ps : List AmountLine) (l : Line) (h : Held)
    → HeldFits p (held.Totals os ps) → after_totals os ps l ≡ Some h → Moves p (held.Totals os ps) l h
totals_step p os ps (line.TotalOperator o) h fits e =
    let t = cond_some (is_empty ps && ltb (length os) 64) (held.Totals (os ++ o ∷ []) ps) h e in
    let s = and_parts (is_empty ps) (ltb (length os) 64) t.0 in
    let room : length os < 64 = ltb-true _ _ s.1 in
    let len = length_push os o in
    let lines : (qs : List AmountLine) → qs ≡ []
    → map line.TotalOperator (os ++ o ∷ []) ++ map line.TotalProvider qs ≡ (map line.TotalOperator os ++ map line.TotalProvider qs) ++ line.TotalOperator o ∷ []
    = λ qs none.
    subst
    (λ (qs : List AmountLine). map line.TotalOperator (os ++ o ∷ []) ++ map line.TotalProvider qs ≡ (map line.TotalOperator os ++ map line.TotalProvider qs) ++ line.TotalOperator o ∷ [])
    (sym none)
    (push_nil (λ x. line.TotalOperator x) os o) in
    let few = fits.0.0 in
    subst (λ x. Moves p (held.Totals os ps) (line.TotalOperator o) x) t.1
    (one_more (front_lines p) _ (held_lines (held.Totals os ps)) (line.TotalOperator o) (lines ps (none ps s.0)), ((omega (arith, len, few), omega (arith, len, room)), fits.1))
totals_step p os ps (line.TotalProvider a) h fits e =
    let t = cond_some (ltb (length ps) 1638400) (held.Totals os (ps ++ a ∷ [])) h e in
    let room : length ps < 1638400 = ltb-true _ _ t.0 in
    let len = length_push ps a in
    subst (λ x. Moves p (held.Totals os ps) (line.TotalProvider a) x) t.1 (
      one_more (front_lines p) _ (held_lines (held.Totals os ps)) (line.TotalProvider a)
          (one_more (map line.TotalOperator os) _ (map line.TotalProvider ps) (line.TotalProvider a) (map_push (λ x. line.TotalProvider x) ps a)),
      (fits.0, omega (arith, len, room)),
    )
totals_step p os ps _ h fits e = absurd cc
