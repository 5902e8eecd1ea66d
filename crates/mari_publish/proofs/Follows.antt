-- The lines of a publication may follow one another, and give that publication.
use Rattle.std.proofs.Common.{◌≡◌, ◌≤◌, ◌<◌, ℕ, ◌+◌, Bool, true, cond, List, [], ◌∷◌, ◌++◌, map, length, Option, Some, None, refl, sym, ap, ◌∙◌, append_assoc, arith, eqb}
use Rattle.std.specs.List.{flat_map, AllByRecursion}
use Rattle.std.specs.Prelude.{option_and_then}
use Rattle.std.proofs.lemmas.Bool.{lt-ltb, eq-eqb, and_from}
use Rattle.std.proofs.lemmas.List.{append-nil, length_push}
use Rattle.mari_market.specs.declared.certificate.Leaf.TheVariants as leaves
use Rattle.mari_market.specs.declared.certificate.TreeItem.{TreeItem}
use Rattle.mari_market.specs.declared.certificate.TreeItem.TheVariants as items
use Rattle.mari_publish.specs.declared.publication.Block.{Block}
use Rattle.mari_publish.specs.declared.publication.Block.TheVariants as block
use Rattle.mari_publish.specs.declared.publication.FullBlock.{FullBlock}
use Rattle.mari_publish.specs.declared.publication.Publication.{Publication}
use Rattle.mari_lines.specs.declared.line.Heading.{Heading}
use Rattle.mari_lines.specs.declared.line.ZoneLine.{ZoneLine}
use Rattle.mari_lines.specs.declared.line.BorderLine.{BorderLine}
use Rattle.mari_lines.specs.declared.line.BidLine.{BidLine}
use Rattle.mari_lines.specs.declared.line.MoneyLine.{MoneyLine}
use Rattle.mari_lines.specs.declared.line.AmountLine.{AmountLine}
use Rattle.mari_lines.specs.declared.line.Line.{Line}
use Rattle.mari_lines.specs.declared.line.Line.TheVariants as line
use Rattle.mari_publish.specs.declared.held.Pending.TheVariants.{Nothing}
use Rattle.mari_publish.specs.declared.held.Listing.{Listing}
use Rattle.mari_publish.specs.declared.held.Growing.{Growing}
use Rattle.mari_publish.specs.declared.held.Ending.{Ending}
use Rattle.mari_publish.specs.declared.held.Held.{Held}
use Rattle.mari_publish.specs.declared.held.Held.TheVariants as held
use Rattle.mari_publish.specs.declared.publication.Part.{Part}
use Rattle.mari_publish.specs.declared.publication.Part.TheVariants as part
use Rattle.mari_publish.specs.declared.held.Kept.{Kept}
use Rattle.mari_publish.specs.Lines.{item_lines, demand_lines, market_lines, tree_lines, ending_lines, block_lines, closing_lines, published_in, unpublished_in, lines_of}
use Rattle.mari_lines.specs.Ranges.{Between}
use Rattle.mari_publish.specs.Ranges.{HasText}
use Rattle.mari_publish.specs.Faults.{Begins}
use Rattle.mari_publish.specs.Order.{kept_with, after_listing, after_ending, after_totals, keeps, after, grown, nothing_read, nothing_kept, after_all}
use Rattle.mari_publish.proofs.Fits.{blocks_within}
use Rattle.mari_publish.proofs.Steps.{some}
use Rattle.mari_publish.proofs.Whole.{Stands, ones, others, IsWithinLimits}

abbrev So : Type 0
So = Option (Publication × Kept)

abbrev pub at : ℕ → ℕ → Held → Kept
at m n h = record { held = h; counts = record { published = m; unpublished = n } }

step : (p : Publication) (k : Kept) (l : Line) (ls : List Line) (x : Kept × Option Part) → after k k.held l ≡ Some x
    → after_all p k (l ∷ ls) ≡ after_all (grown p x.1) x.0 ls
step p k l ls x e = ap (option_and_then (λ (y : Kept × Option Part). after_all (grown p y.1) y.0 ls)) e

through : (p : Publication) (xs ys : List Line) (o : Option (Kept × Option Part))
    → ((q : Publication) (k : Kept) → after_all q k (xs ++ ys) ≡ option_and_then (λ (s : Publication × Kept). after_all s.0 s.1 ys) (after_all q k xs))
    → option_and_then (λ (y : Kept × Option Part). after_all (grown p y.1) y.0 (xs ++ ys)) o ≡ option_and_then
    (λ (s : Publication × Kept). after_all s.0 s.1 ys) (option_and_then (λ (y : Kept × Option Part). after_all (grown p y.1) y.0 xs) o)
through p xs ys o h = grind arith

pub in_parts : (p : Publication) (k : Kept) (xs ys : List Line) → after_all p k (xs ++ ys) ≡ option_and_then (λ (s : Publication × Kept). after_all s.0 s.1 ys) (after_all p k xs)
in_parts p k [] ys = refl
in_parts p k (x ∷ xs) ys = through p xs ys (after k k.held x) (λ q r. in_parts q r xs ys)

pub if_true : {A : Type 0} (b : Bool) (x : A) → b ≡ true → cond b (Some x) None ≡ Some x
if_true b x e = rw e refl

pub kept_some : (k : Kept) (o : Option Held) (new : Held) → o ≡ Some new → keeps k o ≡ Some (kept_with k new, None)
kept_some k o new e = rw e refl

pub same : (n : ℕ) → eqb n n ≡ true
same n = eq-eqb n n refl

abbrev listing : Heading → ℕ → List ZoneLine → List BorderLine → List BidLine → List ℕ → Listing
listing h w zs bs ds ms = record { heading = h; welfare = w; zones = zs; borders = bs; bids = ds; demands = ms }

abbrev growing : Listing → ℕ → List TreeItem → Growing
growing b n is = record { listing = b; count = n; tree = is; pending = Nothing }

abbrev ending : Listing → List TreeItem → List MoneyLine → List AmountLine → Ending
ending b is os ps = record { listing = b; tree = is; operators = os; providers = ps }

zones_follow : (p : Publication) (m n : ℕ) (h : Heading) (w : ℕ) (before zs : List ZoneLine) (rest : List Line) → length before + length zs ≤ 64
    → after_all p (at m n (held.Listing (listing h w before [] [] []))) (map line.Zone zs ++ rest) ≡ after_all p (at m n (held.Listing (listing h w (before ++ zs) [] [] []))) rest
zones_follow p m n h w before [] rest le = ap (λ (zs : List ZoneLine). after_all p (at m n (held.Listing (listing h w zs [] [] []))) rest) (sym (append-nil before))
zones_follow p m n h w before (z ∷ zs) rest le =
    let old = listing h w before [] [] [] in
    let new = held.Listing (listing h w (before ++ z ∷ []) [] [] []) in
    let len = length_push before z in
    let o : after_listing old (line.Zone z) ≡ Some new = if_true _ new (lt-ltb _ _ (omega (arith, le))) in
    step p (at m n (held.Listing old)) (line.Zone z) (map line.Zone zs ++ rest) (at m n new, None) (kept_some (at m n (held.Listing old)) _ new o)
    ∙ zones_follow p m n h w (before ++ z ∷ []) zs rest (omega (arith, len, le))
    ∙ ap (λ (xs : List ZoneLine). after_all p (at m n (held.Listing (listing h w xs [] [] []))) rest) (append_assoc before (z ∷ []) zs)

borders_follow : (p : Publication) (m n : ℕ) (h : Heading) (w : ℕ) (zs : List ZoneLine) (before bs : List BorderLine) (rest : List Line) → 0 < length zs → length before + length bs ≤ 256
    → after_all p (at m n (held.Listing (listing h w zs before [] []))) (map line.Border bs ++ rest) ≡ after_all p (at m n (held.Listing (listing h w zs (before ++ bs) [] []))) rest
borders_follow p m n h w zs before [] rest some le = ap (λ (bs : List BorderLine). after_all p (at m n (held.Listing (listing h w zs bs [] []))) rest) (sym (append-nil before))
borders_follow p m n h w zs before (b ∷ bs) rest some le =
    let old = listing h w zs before [] [] in
    let new = held.Listing (listing h w zs (before ++ b ∷ []) [] []) in
    let len = length_push before b in
    let o : after_listing old (line.Border b) ≡ Some new = if_true _ new (and_from _ _ (and_from _ _ (and_from _ _ (lt-ltb _ _ some) refl) refl) (lt-ltb _ _ (omega (arith, le)))) in
    step p (at m n (held.Listing old)) (line.Border b) (map line.Border bs ++ rest) (at m n new, None) (kept_some (at m n (held.Listing old)) _ new o)
    ∙ borders_follow p m n h w zs (before ++ b ∷ []) bs rest some (omega (arith, len, le))
    ∙ ap (λ (xs : List BorderLine). after_all p (at m n (held.Listing (listing h w zs xs [] []))) rest) (append_assoc before (b ∷ []) bs)

bids_follow : (p : Publication) (m n : ℕ) (h : Heading) (w : ℕ) (zs : List ZoneLine) (bs : List BorderLine) (before ds : List BidLine) (rest : List Line)
    → 0 < length zs → length before + length ds ≤ 4096
    → after_all p (at m n (held.Listing (listing h w zs bs before []))) (map line.Bid ds ++ rest) ≡ after_all p (at m n (held.Listing (listing h w zs bs (before ++ ds) []))) rest
bids_follow p m n h w zs bs before [] rest some le = ap (λ (ds : List BidLine). after_all p (at m n (held.Listing (listing h w zs bs ds []))) rest) (sym (append-nil before))
bids_follow p m n h w zs bs before (d ∷ ds) rest some le =
    let old = listing h w zs bs before [] in
    let new = held.Listing (listing h w zs bs (before ++ d ∷ []) []) in
    let len = length_push before d in
    let o : after_listing old (line.Bid d) ≡ Some new = if_true _ new (and_from _ _ (and_from _ _ (lt-ltb _ _ some) refl) (lt-ltb _ _ (omega (arith, le)))) in
    step p (at m n (held.Listing old)) (line.Bid d) (map line.Bid ds ++ rest) (at m n new, None) (kept_some (at m n (held.Listing old)) _ new o)
    ∙ bids_follow p m n h w zs bs (before ++ d ∷ []) ds rest some (omega (arith, len, le))
    ∙ ap (λ (xs : List BidLine). after_all p (at m n (held.Listing (listing h w zs bs xs []))) rest) (append_assoc before (d ∷ []) ds)

demands_follow : (p : Publication) (m n : ℕ) (h : Heading) (w : ℕ) (zs : List ZoneLine) (bs : List BorderLine) (ds : List BidLine) (k : ℕ) (before ms : List ℕ) (rest : List Line)
    → 0 < length zs → k ≡ length before + 1
    → after_all p (at m n (held.Listing (listing h w zs bs ds before))) (demand_lines k ms ++ rest) ≡ after_all p (at m n (held.Listing (listing h w zs bs ds (before ++ ms)))) rest
demands_follow p m n h w zs bs ds k before [] rest some e = ap (λ (ms : List ℕ). after_all p (at m n (held.Listing (listing h w zs bs ds ms))) rest) (sym (append-nil before))
demands_follow p m n h w zs bs ds k before (x ∷ ms) rest some e =
    let old = listing h w zs bs ds before in
    let new = held.Listing (listing h w zs bs ds (before ++ x ∷ [])) in
    let len = length_push before x in
    let o : after_listing old (line.Demand k x) ≡ Some new = if_true _ new (and_from _ _ (lt-ltb _ _ some) (eq-eqb _ _ e)) in
    step p (at m n (held.Listing old)) (line.Demand k x) (demand_lines (k + 1) ms ++ rest) (at m n new, None) (kept_some (at m n (held.Listing old)) _ new o)
    ∙ demands_follow p m n h w zs bs ds (k + 1) (before ++ x ∷ []) ms rest some (omega (arith, len, e))
    ∙ ap (λ (xs : List ℕ). after_all p (at m n (held.Listing (listing h w zs bs ds xs))) rest) (append_assoc before (x ∷ []) ms)

-- an item's lines
item_follows : (p : Publication) (m n : ℕ) (b : Listing) (count : ℕ) (before : List TreeItem) (i : TreeItem) (rest : List Line) → length before < count
    → after_all p (at m n (held.Growing (growing b count before))) (item_lines i ++ rest) ≡ after_all p (at m n (held.Growing (growing b count (before ++ i ∷ [])))) rest
item_follows p m n b count before i rest lt = grind arith

items_follow : (p : Publication) (m n : ℕ) (b : Listing) (count : ℕ) (before is : List TreeItem) (rest : List Line) → length before + length is ≤ count
    → after_all p (at m n (held.Growing (growing b count before))) (flat_map item_lines is ++ rest) ≡ after_all p (at m n (held.Growing (growing b count (before ++ is)))) rest
items_follow p m n b count before [] rest le = ap (λ (is : List TreeItem). after_all p (at m n (held.Growing (growing b count is))) rest) (sym (append-nil before))
items_follow p m n b count before (i ∷ is) rest le =
    let len = length_push before i in
    ap (λ (ls : List Line). after_all p (at m n (held.Growing (growing b count before))) ls) (append_assoc (item_lines i) (flat_map item_lines is) rest)
    ∙ item_follows p m n b count before i (flat_map item_lines is ++ rest) (omega (arith, le))
    ∙ items_follow p m n b count (before ++ i ∷ []) is rest (omega (arith, len, le))
    ∙ ap (λ (xs : List TreeItem). after_all p (at m n (held.Growing (growing b count xs))) rest) (append_assoc before (i ∷ []) is)

operators_follow : (p : Publication) (m n : ℕ) (b : Listing) (is : List TreeItem) (before os : List MoneyLine) (rest : List Line) → length before + length os ≤ 64
    → after_all p (at m n (held.Ending (ending b is before []))) (map line.Operator os ++ rest) ≡ after_all p (at m n (held.Ending (ending b is (before ++ os) []))) rest
operators_follow p m n b is before [] rest le = ap (λ (os : List MoneyLine). after_all p (at m n (held.Ending (ending b is os []))) rest) (sym (append-nil before))
operators_follow p m n b is before (o ∷ os) rest le =
    let old = ending b is before [] in
    let new = held.Ending (ending b is (before ++ o ∷ []) []) in
    let len = length_push before o in
    let e : after_ending old (line.Operator o) ≡ Some new = if_true _ new (lt-ltb _ _ (omega (arith, le))) in
    step p (at m n (held.Ending old)) (line.Operator o) (map line.Operator os ++ rest) (at m n new, None) (kept_some (at m n (held.Ending old)) _ new e)
    ∙ operators_follow p m n b is (before ++ o ∷ []) os rest (omega (arith, len, le))
    ∙ ap (λ (xs : List MoneyLine). after_all p (at m n (held.Ending (ending b is xs []))) rest) (append_assoc before (o ∷ []) os)

providers_follow : (p : Publication) (m n : ℕ) (b : Listing) (is : List TreeItem) (os : List MoneyLine) (before ps : List AmountLine) (rest : List Line) → length before + length ps ≤ 4096
    → after_all p (at m n (held.Ending (ending b is os before))) (map line.Provider ps ++ rest) ≡ after_all p (at m n (held.Ending (ending b is os (before ++ ps)))) rest
providers_follow p m n b is os before [] rest le = ap (λ (ps : List AmountLine). after_all p (at m n (held.Ending (ending b is os ps))) rest) (sym (append-nil before))
providers_follow p m n b is os before (a ∷ ps) rest le =
    let old = ending b is os before in
    let new = held.Ending (ending b is os (before ++ a ∷ [])) in
    let len = length_push before a in
    let e : after_ending old (line.Provider a) ≡ Some new = if_true _ new (lt-ltb _ _ (omega (arith, le))) in
    step p (at m n (held.Ending old)) (line.Provider a) (map line.Provider ps ++ rest) (at m n new, None) (kept_some (at m n (held.Ending old)) _ new e)
    ∙ providers_follow p m n b is os (before ++ a ∷ []) ps rest (omega (arith, len, le))
    ∙ ap (λ (xs : List AmountLine). after_all p (at m n (held.Ending (ending b is os xs))) rest) (append_assoc before (a ∷ []) ps)

-- the operators and providers of a block whose tree is whole, and its end
ending_follows : (p : Publication) (m n : ℕ) (b : FullBlock) (lb : Listing) (os : List MoneyLine) (rest : List Line)
    → lb ≡ listing b.heading b.welfare b.zones b.borders b.bids b.demands → os ≡ b.operators
    → Between 1 64 (length os) → length b.providers ≤ 4096
    → after_all p (at m n (held.Growing (growing lb (length b.tree) b.tree))) (map line.Operator os ++ (map line.Provider b.providers ++ line.End b.heading.run ∷ rest))
    ≡ after_all (grown p (Some (part.Block (block.Published b)))) (at (m + 1) n held.Between) rest
ending_follows p m n b lb [] rest el eo some few = absurd (omega (arith, some.0))
ending_follows p m n b lb (o ∷ os) rest el eo some few =
    let g = growing lb (length b.tree) b.tree in
    let e0 = held.Ending (ending lb b.tree (o ∷ []) []) in
    let tail = map line.Provider b.providers ++ line.End b.heading.run ∷ rest in
    let start = step p (at m n (held.Growing g)) (line.Operator o) (map line.Operator os ++ tail) (at m n e0, None) (kept_some (at m n (held.Growing g)) _ e0 (if_true _ e0 (same (length b.tree)))) in
    let ops = operators_follow p m n lb b.tree (o ∷ []) os tail (omega (arith, some.1)) in
    let provs = providers_follow p m n lb b.tree (o ∷ os) [] b.providers (line.End b.heading.run ∷ rest) (omega (arith, few)) in
    let is_b : ending lb b.tree (o ∷ os) b.providers ≡ ending (listing b.heading b.welfare b.zones b.borders b.bids b.demands) b.tree b.operators b.providers
    = ap (λ x. ending x b.tree (o ∷ os) b.providers) el ∙ ap (λ (xs : List MoneyLine). ending (listing b.heading b.welfare b.zones b.borders b.bids b.demands) b.tree xs b.providers) eo in
    let made = ending (listing b.heading b.welfare b.zones b.borders b.bids b.demands) b.tree b.operators b.providers in
    let end = step p (at m n (held.Ending made)) (line.End b.heading.run) rest (at (m + 1) n held.Between, Some (part.Block (block.Published b)))
    (if_true _ (at (m + 1) n held.Between, Some (part.Block (block.Published b))) (same b.heading.run)) in
    start ∙ ops ∙ provs ∙ ap (λ x. after_all p (at m n (held.Ending x)) (line.End b.heading.run ∷ rest)) is_b ∙ end

regrouped : (zs bs ds ms is os ps rest : List Line) (t e : Line)
    → ((zs ++ (bs ++ (ds ++ ms))) ++ ((t ∷ is) ++ (os ++ (ps ++ e ∷ [])))) ++ rest ≡ zs ++ (bs ++ (ds ++ (ms ++ t ∷ (is ++ (os ++ (ps ++ e ∷ rest))))))
regrouped zs bs ds ms is os ps rest t e =
    rw (append_assoc (zs ++ (bs ++ (ds ++ ms))) ((t ∷ is) ++ (os ++ (ps ++ e ∷ []))) rest, append_assoc zs (bs ++ (ds ++ ms)) ((t ∷ (is ++ (os ++ (ps ++ e ∷ [])))) ++ rest))
    (ap (λ (x : List Line). zs ++ x) (inner1 ((t ∷ (is ++ (os ++ (ps ++ e ∷ [])))) ++ rest) ∙ ap (λ (x : List Line). bs ++ (ds ++ (ms ++ t ∷ x))) inner2))
  where
    inner1 : (x : List Line) → (bs ++ (ds ++ ms)) ++ x ≡ bs ++ (ds ++ (ms ++ x))
    inner1 x = append_assoc bs (ds ++ ms) x ∙ ap (λ (y : List Line). bs ++ y) (append_assoc ds ms x)

    inner2 : (is ++ (os ++ (ps ++ e ∷ []))) ++ rest ≡ is ++ (os ++ (ps ++ e ∷ rest))
    inner2 = append_assoc is (os ++ (ps ++ e ∷ [])) rest ∙ ap (λ (y : List Line). is ++ y) (append_assoc os (ps ++ e ∷ []) rest ∙ ap (λ (y : List Line). os ++ y) (append_assoc ps (e ∷ []) rest))

pub block_follows : (p : Publication) (m n : ℕ) (b : Block) (rest : List Line) → IsWithinLimits b → m + n < 1000
    → after_all p (at m n held.Between) (block_lines b ++ rest) ≡ after_all (grown p (Some (part.Block b))) (at (m + ones b) (n + others b) held.Between) rest
block_follows p m n (block.Unpublished h count) rest within lt =
    rw (lt-ltb _ _ lt) (ap (λ x. after_all (grown p (Some (part.Block (block.Unpublished h count)))) (at x (n + 1) held.Between) rest) (omega arith))
block_follows p m n (block.Published b) rest within lt =
    let zs = map line.Zone b.zones in
    let bs = map line.Border b.borders in
    let ds = map line.Bid b.bids in
    let ms = demand_lines 1 b.demands in
    let is = flat_map item_lines b.tree in
    let os = map line.Operator b.operators in
    let ps = map line.Provider b.providers in
    let k0 = at m n held.Between in
    let b0 = listing b.heading b.welfare [] [] [] [] in
    let b4 = listing b.heading b.welfare b.zones b.borders b.bids b.demands in
    let t5 = os ++ (ps ++ line.End b.heading.run ∷ rest) in
    let t4 = line.Tree (length b.tree) ∷ (is ++ t5) in
    let g0 = growing b4 (length b.tree) [] in
    let all = market_lines b ++ (tree_lines b.tree ++ ending_lines b) in
    let some : 0 < length b.zones = omega (arith, within.0.0) in
    let run = step p k0 (line.Run b.heading) ((line.Welfare b.welfare ∷ all) ++ rest) (at m n (held.Run b.heading), None) (if_true _ (at m n (held.Run b.heading), None) (lt-ltb _ _ lt)) in
    let zones = zones_follow p m n b.heading b.welfare [] b.zones (bs ++ (ds ++ (ms ++ t4))) (omega (arith, within.0.1)) in
    let borders = borders_follow p m n b.heading b.welfare b.zones [] b.borders (ds ++ (ms ++ t4)) some (omega (arith, within.1)) in
    let bids = bids_follow p m n b.heading b.welfare b.zones b.borders [] b.bids (ms ++ t4) some (omega (arith, within.2)) in
    let demands = demands_follow p m n b.heading b.welfare b.zones b.borders b.bids 1 [] b.demands t4 some (omega arith) in
    let tree = step p (at m n (held.Listing b4)) (line.Tree (length b.tree)) (is ++ t5) (at m n (held.Growing g0), None)
    (kept_some (at m n (held.Listing b4)) _ (held.Growing g0) (if_true _ (held.Growing g0) (lt-ltb _ _ some))) in
    let items = items_follow p m n b4 (length b.tree) [] b.tree t5 (omega arith) in
    let end = ending_follows p m n b b4 b.operators rest refl refl within.3 within.4 in
    run ∙ ap (λ (ls : List Line). after_all p (at m n (held.Listing b0)) ls) (regrouped zs bs ds ms is os ps rest (line.Tree (length b.tree)) (line.End b.heading.run))
    ∙ zones ∙ borders ∙ bids ∙ demands ∙ tree ∙ items ∙ end
    ∙ ap (λ x. after_all (grown p (Some (part.Block (block.Published b)))) (at (m + 1) x held.Between) rest) (omega arith)

abbrev with_blocks : Publication → List Block → Publication
with_blocks p bs = record { date = p.date; quarters = p.quarters; budget = p.budget; blocks = bs; operators = p.operators; providers = p.providers }

blocks_follow : (p : Publication) (m n : ℕ) (before bs : List Block) (rest : List Line) → AllByRecursion IsWithinLimits bs → m + n + length bs ≤ 1000
    → after_all (with_blocks p before) (at m n held.Between) (flat_map block_lines bs ++ rest) ≡ after_all (with_blocks p (before ++ bs))
    (at (m + published_in bs) (n + unpublished_in bs) held.Between) rest
blocks_follow p m n before [] rest within le =
    ap (λ (bs : List Block). after_all (with_blocks p bs) (at m n held.Between) rest) (sym (append-nil before))
    ∙ plus_none (λ a b. after_all (with_blocks p (before ++ [])) (at a b held.Between) rest) m n
  where
    plus_none : (f : ℕ → ℕ → So) (m n : ℕ) → f m n ≡ f (m + 0) (n + 0)
    plus_none f m n = ap (λ a. f a n) (omega arith) ∙ ap (λ b. f (m + 0) b) (omega arith)
blocks_follow p m n before (b ∷ bs) rest within le =
    let room : m + n < 1000 = omega (arith, le) in
    let few : (m + ones b) + (n + others b) + length bs ≤ 1000 = counts_few b le in
    ap (λ (ls : List Line). after_all (with_blocks p before) (at m n held.Between) ls) (append_assoc (block_lines b) (flat_map block_lines bs) rest)
    ∙ block_follows (with_blocks p before) m n b (flat_map block_lines bs ++ rest) within.0 room
    ∙ blocks_follow p (m + ones b) (n + others b) (before ++ b ∷ []) bs rest within.1 few
    ∙ ap (λ (xs : List Block). after_all (with_blocks p xs) (at ((m + ones b) + published_in bs) ((n + others b) + unpublished_in bs) held.Between) rest) (append_assoc before (b ∷ []) bs)
    ∙ counts_more b (λ x y. after_all (with_blocks p (before ++ b ∷ bs)) (at x y held.Between) rest)
  where
    counts_few : (c : Block) → m + n + length (b ∷ bs) ≤ 1000 → (m + ones c) + (n + others c) + length bs ≤ 1000
    counts_few c e = grind arith

    sum_one : (a b : ℕ) → (a + 1) + b ≡ a + (b + 1)
    sum_one a b = omega arith

    sum_none : (a b : ℕ) → (a + 0) + b ≡ a + b
    sum_none a b = omega arith

    counts_more : (c : Block) (f : ℕ → ℕ → So) → f ((m + ones c) + published_in bs) ((n + others c) + unpublished_in bs) ≡ f (m + published_in (c ∷ bs)) (n + unpublished_in (c ∷ bs))
    counts_more (block.Published c) f = ap (λ a. f a ((n + 0) + unpublished_in bs)) (sum_one m (published_in bs)) ∙ ap (λ b. f (m + (published_in bs + 1)) b) (sum_none n (unpublished_in bs))
    counts_more (block.Unpublished h count) f = ap (λ a. f a ((n + 1) + unpublished_in bs)) (sum_none m (published_in bs)) ∙ ap (λ b. f (m + published_in bs) b) (sum_one n (unpublished_in bs))

total_operators_follow : (p : Publication) (m n : ℕ) (before os : List MoneyLine) (rest : List Line) → length before + length os ≤ 64
    → after_all p (at m n (held.Totals before [])) (map line.TotalOperator os ++ rest) ≡ after_all p (at m n (held.Totals (before ++ os) [])) rest
total_operators_follow p m n before [] rest le = ap (λ (os : List MoneyLine). after_all p (at m n (held.Totals os [])) rest) (sym (append-nil before))
total_operators_follow p m n before (o ∷ os) rest le =
    let new = held.Totals (before ++ o ∷ []) [] in
    let len = length_push before o in
    let e : after_totals before [] (line.TotalOperator o) ≡ Some new = if_true _ new (lt-ltb _ _ (omega (arith, le))) in
    step p (at m n (held.Totals before [])) (line.TotalOperator o) (map line.TotalOperator os ++ rest) (at m n new, None) (kept_some (at m n (held.Totals before [])) _ new e)
    ∙ total_operators_follow p m n (before ++ o ∷ []) os rest (omega (arith, len, le))
    ∙ ap (λ (xs : List MoneyLine). after_all p (at m n (held.Totals xs [])) rest) (append_assoc before (o ∷ []) os)

total_providers_follow : (p : Publication) (m n : ℕ) (os : List MoneyLine) (before ps : List AmountLine) (rest : List Line) → length before + length ps ≤ 1638400
    → after_all p (at m n (held.Totals os before)) (map line.TotalProvider ps ++ rest) ≡ after_all p (at m n (held.Totals os (before ++ ps))) rest
total_providers_follow p m n os before [] rest le = ap (λ (ps : List AmountLine). after_all p (at m n (held.Totals os ps)) rest) (sym (append-nil before))
total_providers_follow p m n os before (a ∷ ps) rest le =
    let new = held.Totals os (before ++ a ∷ []) in
    let len = length_push before a in
    let e : after_totals os before (line.TotalProvider a) ≡ Some new = if_true _ new (lt-ltb _ _ (omega (arith, le))) in
    step p (at m n (held.Totals os before)) (line.TotalProvider a) (map line.TotalProvider ps ++ rest) (at m n new, None) (kept_some (at m n (held.Totals os before)) _ new e)
    ∙ total_providers_follow p m n os (before ++ a ∷ []) ps rest (omega (arith, len, le))
    ∙ ap (λ (xs : List AmountLine). after_all p (at m n (held.Totals os xs)) rest) (append_assoc before (a ∷ []) ps)

pub last_follows : (p : Publication) (m n : ℕ) (os : List MoneyLine) (ps : List AmountLine) → Between 1 64 (length os) → length ps ≤ 1638400
    → after_all p (at m n held.Between) (map line.TotalOperator os ++ (map line.TotalProvider ps ++ line.Done m n ∷ [])) ≡ Some (grown p (Some (part.Totals os ps)), at m n held.Done)
last_follows p m n [] ps some few = absurd (omega (arith, some.0))
last_follows p m n (o ∷ os) ps some few =
    total_operators_follow p m n (o ∷ []) os (map line.TotalProvider ps ++ line.Done m n ∷ []) (omega (arith, some.1))
    ∙ total_providers_follow p m n (o ∷ os) [] ps (line.Done m n ∷ []) (omega (arith, few))
    ∙ step p (at m n (held.Totals (o ∷ os) ps)) (line.Done m n) [] (at m n held.Done, Some (part.Totals (o ∷ os) ps))
    (if_true _ (at m n held.Done, Some (part.Totals (o ∷ os) ps)) (and_from _ _ (same m) (same n)))

-- the lines of a publication may follow one another, and give it
pub accepted : (p : Publication) → HasText p → after_all nothing_read nothing_kept (lines_of p) ≡ Some (p, at (published_in p.blocks) (unpublished_in p.blocks) held.Done)
accepted p has =
    let q : Publication = record { date = p.date; quarters = p.quarters; budget = p.budget; blocks = []; operators = []; providers = [] } in
    let tail = closing_lines p in
    blocks_follow q 0 0 [] p.blocks tail (blocks_within p.blocks has.blocks) (omega (arith, has.totals.runs))
    ∙ plain (λ a b. after_all (with_blocks q p.blocks) (at a b held.Between) tail) (published_in p.blocks) (unpublished_in p.blocks)
    ∙ last_follows (with_blocks q p.blocks) (published_in p.blocks) (unpublished_in p.blocks) p.operators p.providers has.totals.operators.0 has.totals.providers.0.1
  where
    plain : (f : ℕ → ℕ → So) (a b : ℕ) → f (0 + a) (0 + b) ≡ f a b
    plain f a b = ap (λ x. f x (0 + b)) (omega arith) ∙ ap (λ x. f a x) (omega arith)

some_out : {A : Type 0} (x y : A) → some x ≡ some y → x ≡ y
some_out x y e = cc

-- lines have one publication
pub one_publication : (p q : Publication) → HasText p → HasText q → lines_of p ≡ lines_of q → p ≡ q
one_publication p q hp hq e =
    let both_ways = sym (accepted p hp) ∙ ap (λ (ls : List Line). after_all nothing_read nothing_kept ls) e ∙ accepted q hq in
    ap (λ (s : Publication × Kept). s.0) (some_out (p, at (published_in p.blocks) (unpublished_in p.blocks) held.Done) (q, at (published_in q.blocks) (unpublished_in q.blocks) held.Done) both_ways)

-- these lines were read, and this is what came of them
abbrev pub Came : List Line → Publication → Kept → Type 0
Came ls p k = after_all nothing_read nothing_kept ls ≡ Some (p, k)

pub came_more : (ls : List Line) (p : Publication) (k : Kept) (l : Line) (x : Kept × Option Part) → Came ls p k → after k k.held l ≡ Some x → Came (ls ++ l ∷ []) (grown p x.1) x.0
came_more ls p k l x r e = in_parts nothing_read nothing_kept ls (l ∷ []) ∙ ap (option_and_then (λ (s : Publication × Kept). after_all s.0 s.1 (l ∷ []))) r ∙ step p k l [] x e

came_none : (ls : List Line) (p : Publication) (k : Kept) (l : Line) (more : List Line) → Came ls p k → after k k.held l ≡ None → after_all nothing_read nothing_kept (ls ++ l ∷ more) ≡ None
came_none ls p k l more r e =
    in_parts nothing_read nothing_kept ls (l ∷ more) ∙ ap (option_and_then (λ (s : Publication × Kept). after_all s.0 s.1 (l ∷ more))) r ∙ ap
    (option_and_then (λ (y : Kept × Option Part). after_all (grown p y.1) y.0 more)) e

-- a line that may not follow begins no publication
pub not_begun : (ls : List Line) (p : Publication) (k : Kept) (l : Line) → Came ls p k → after k k.held l ≡ None → Begins (ls ++ l ∷ []) → ⊥
not_begun ls p k l r e b =
    let none = came_none ls p k l b.1 r e in
    let e2 : after_all nothing_read nothing_kept (lines_of b.0) ≡ None = ap (λ (xs : List Line). after_all nothing_read nothing_kept xs) (b.3 ∙ append_assoc ls (l ∷ []) b.1) ∙ none in
    differ (b.0, at (published_in b.0.blocks) (unpublished_in b.0.blocks) held.Done) (sym (accepted b.0 b.2) ∙ e2)
  where
    differ : (s : Publication × Kept) → some s ≡ None → ⊥
    differ s e = absurd cc

-- lines that give no whole publication are no publication's
pub not_whole : (ls : List Line) (p q : Publication) (k : Kept) → Came ls p k → HasText q → lines_of q ≡ ls → (q ≡ p) × (k.held ≡ held.Done)
not_whole ls p q k r has e =
    let both_ways = sym (accepted q has) ∙ ap (λ (xs : List Line). after_all nothing_read nothing_kept xs) e ∙ r in
    let pair = some_out (q, at (published_in q.blocks) (unpublished_in q.blocks) held.Done) (p, k) both_ways in
    (ap (λ (s : Publication × Kept). s.0) pair, sym (ap (λ (s : Publication × Kept). s.1.held) pair))

pub stands_first : Stands [] nothing_read nothing_kept held.Start
stands_first = record { lines = refl; fits = refl; published = refl; unpublished = refl; blocks = tt; runs = omega arith }
