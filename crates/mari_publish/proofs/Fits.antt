-- A publication has a text where its lines are in range and none comes too often.
use Rattle.std.proofs.Common.{◌≡◌, ◌≤◌, ◌<◌, ℕ, suc, ◌+◌, List, [], ◌∷◌, ◌++◌, map, length, refl, ap, ◌*◌, ◌^◌, length-append, arith}
use Rattle.std.specs.List.{flat_map, AllByRecursion, All}
use Rattle.std.proofs.lemmas.List.Elements.{All-nil}
use Rattle.std.proofs.lemmas.List.{length-map}
use Rattle.mari_market.specs.declared.certificate.Leaf.TheVariants as leaves
use Rattle.mari_market.specs.declared.certificate.TreeItem.{TreeItem}
use Rattle.mari_market.specs.declared.certificate.TreeItem.TheVariants as items
use Rattle.mari_publish.specs.declared.publication.FullBlock.{FullBlock}
use Rattle.mari_publish.specs.declared.publication.Block.{Block}
use Rattle.mari_publish.specs.declared.publication.Block.TheVariants as block
use Rattle.mari_publish.specs.declared.publication.Publication.{Publication}
use Rattle.mari_lines.specs.declared.line.Line.{Line}
use Rattle.mari_lines.specs.declared.line.Line.TheVariants as line
use Rattle.mari_publish.specs.Lines.{item_lines, demand_lines, market_lines, tree_lines, ending_lines, full_lines, block_lines, closing_lines, published_in, unpublished_in, lines_of}
use Rattle.mari_lines.specs.Ranges.{Between, InRange}
use Rattle.mari_publish.specs.Ranges.{ItemFits, FullFits, BlockFits, HasText}
use Rattle.mari_publish.proofs.Counts.{both_kinds}
use Rattle.mari_lines.proofs.Gathered.{head_of, tail_of, cons_all}
use Rattle.mari_publish.proofs.Whole.{all_front, all_back, IsWithinLimits}

abbrev pub Fit : List Line → Type 0
Fit ls = AllByRecursion InRange ls

all_join : {X : Type 0} (P : X → Type 0) (xs ys : List X) → AllByRecursion P xs → AllByRecursion P ys → AllByRecursion P (xs ++ ys)
all_join P [] ys a b = b
all_join P (x ∷ xs) ys a b = (a.0, all_join P xs ys a.1 b)

-- each of a list's lines
from_map : {X : Type 0} (f : X → Line) (xs : List X) → Fit (map f xs) → All (λ x. InRange (f x)) xs
from_map f [] a = All-nil (λ x. InRange (f x))
from_map f (x ∷ xs) a = cons_all (λ x. InRange (f x)) x xs a.0 (from_map f xs a.1)

to_map : {X : Type 0} (f : X → Line) (xs : List X) → All (λ x. InRange (f x)) xs → Fit (map f xs)
to_map f [] a = tt
to_map f (x ∷ xs) a = (head_of (λ x. InRange (f x)) x xs a, to_map f xs (tail_of (λ x. InRange (f x)) x xs a))

from_items : (is : List TreeItem) → Fit (flat_map item_lines is) → All ItemFits is
from_items [] a = All-nil ItemFits
from_items (i ∷ is) a = cons_all ItemFits i is (all_front InRange (item_lines i) (flat_map item_lines is) a) (from_items is (all_back InRange (item_lines i) (flat_map item_lines is) a))

to_items : (is : List TreeItem) → All ItemFits is → Fit (flat_map item_lines is)
to_items [] a = tt
to_items (i ∷ is) a = all_join InRange (item_lines i) (flat_map item_lines is) (head_of ItemFits i is a) (to_items is (tail_of ItemFits i is a))

abbrev IsMw : ℕ → Type 0
IsMw mw = mw ≤ 99999

from_demands : (k : ℕ) (ms : List ℕ) → Fit (demand_lines k ms) → All IsMw ms
from_demands k [] a = All-nil IsMw
from_demands k (m ∷ ms) a = cons_all IsMw m ms a.0.1 (from_demands (k + 1) ms a.1)

demand_count : (k : ℕ) (ms : List ℕ) → k ≤ 513 → Fit (demand_lines k ms) → k + length ms ≤ 513
demand_count k [] le a = omega arith
demand_count k (m ∷ ms) le a = let place = a.0.0.1 in let more = demand_count (k + 1) ms (omega (arith, place)) a.1 in omega (arith, more)

to_demands : (k : ℕ) (ms : List ℕ) → 1 ≤ k → k + length ms ≤ 513 → All IsMw ms → Fit (demand_lines k ms)
to_demands k [] some le a = tt
to_demands k (m ∷ ms) some le a = (((some, omega (arith, le)), head_of IsMw m ms a), to_demands (k + 1) ms (omega arith) (omega (arith, le)) (tail_of IsMw m ms a))

full_fits : (b : FullBlock) → Fit (full_lines b) → IsWithinLimits (block.Published b) → FullFits b
full_fits b a w =
    let zs = map line.Zone b.zones in
    let bs = map line.Border b.borders in
    let ds = map line.Bid b.bids in
    let os = map line.Operator b.operators in
    let ps = map line.Provider b.providers in
    let market = all_front InRange (market_lines b) (tree_lines b.tree ++ ending_lines b) a.1.1 in
    let following = all_back InRange (market_lines b) (tree_lines b.tree ++ ending_lines b) a.1.1 in
    let tree = all_front InRange (tree_lines b.tree) (ending_lines b) following in
    let ending = all_back InRange (tree_lines b.tree) (ending_lines b) following in
    let m1 = all_back InRange zs (bs ++ (ds ++ demand_lines 1 b.demands)) market in
    let m2 = all_back InRange bs (ds ++ demand_lines 1 b.demands) m1 in
    let m3 = all_back InRange ds (demand_lines 1 b.demands) m2 in
    let e1 = all_back InRange os (ps ++ line.End b.heading.run ∷ []) ending in
    let few = demand_count 1 b.demands (omega arith) m3 in
    record {
      heading = a.0;
      welfare = a.1.0;
      zones = (w.0, from_map line.Zone b.zones (all_front InRange zs (bs ++ (ds ++ demand_lines 1 b.demands)) market));
      borders = ((omega arith, w.1), from_map line.Border b.borders (all_front InRange bs (ds ++ demand_lines 1 b.demands) m1));
      bids = ((omega arith, w.2), from_map line.Bid b.bids (all_front InRange ds (demand_lines 1 b.demands) m2));
      demands = ((omega arith, omega (arith, few)), from_demands 1 b.demands m3);
      tree = (tree.0, from_items b.tree tree.1);
      operators = (w.3, from_map line.Operator b.operators (all_front InRange os (ps ++ line.End b.heading.run ∷ []) ending));
      providers = ((omega arith, w.4), from_map line.Provider b.providers (all_front InRange ps (line.End b.heading.run ∷ []) e1));
    }

block_fits : (b : Block) → Fit (block_lines b) → IsWithinLimits b → BlockFits b
block_fits b a w = grind (arith, full_fits)

from_blocks : (bs : List Block) → Fit (flat_map block_lines bs) → AllByRecursion IsWithinLimits bs → All BlockFits bs
from_blocks [] a w = All-nil BlockFits
from_blocks (b ∷ bs) a w =
    cons_all BlockFits b bs (block_fits b (all_front InRange (block_lines b) (flat_map block_lines bs) a) w.0)
    (from_blocks bs (all_back InRange (block_lines b) (flat_map block_lines bs) a) w.1)

-- lines in range that don't come too often
pub has_text : (p : Publication) → Fit (lines_of p) → AllByRecursion IsWithinLimits p.blocks → length p.blocks ≤ 1000 → Between 1 64 (length p.operators) → length p.providers ≤ 1638400 → HasText p
has_text p a w runs os ps =
    let blocks = all_front InRange (flat_map block_lines p.blocks) (closing_lines p) a.1 in
    let closing = all_back InRange (flat_map block_lines p.blocks) (closing_lines p) a.1 in
    let done = line.Done (published_in p.blocks) (unpublished_in p.blocks) ∷ [] in
    let following = all_back InRange (map line.TotalOperator p.operators) (map line.TotalProvider p.providers ++ done) closing in
    record {
      head = a.0;
      blocks = from_blocks p.blocks blocks w;
      totals = record {
        runs = runs;
        operators = (os, from_map line.TotalOperator p.operators (all_front InRange (map line.TotalOperator p.operators) (map line.TotalProvider p.providers ++ done) closing));
        providers = ((omega arith, ps), from_map line.TotalProvider p.providers (all_front InRange (map line.TotalProvider p.providers) done following));
      };
    }

-- and back
full_in_range : (b : FullBlock) → FullFits b → Fit (full_lines b)
full_in_range b f =
    let few = f.demands.0.1 in
    let market = all_join InRange (map line.Zone b.zones) _ (to_map line.Zone b.zones f.zones.1) (all_join InRange (map line.Border b.borders) _ (to_map line.Border b.borders f.borders.1)
    (all_join InRange (map line.Bid b.bids) (demand_lines 1 b.demands) (to_map line.Bid b.bids f.bids.1) (to_demands 1 b.demands (omega arith) (omega (arith, few)) f.demands.1))) in
    let run : Between 1 1000 b.heading.run = f.heading.0 in
    let ending = all_join InRange (map line.Operator b.operators) _ (to_map line.Operator b.operators f.operators.1)
    (all_join InRange (map line.Provider b.providers) (line.End b.heading.run ∷ []) (to_map line.Provider b.providers f.providers.1) (run, tt)) in (
      f.heading,
      (f.welfare, all_join InRange (market_lines b) (tree_lines b.tree ++ ending_lines b) market (all_join InRange (tree_lines b.tree) (ending_lines b) (f.tree.0, to_items b.tree f.tree.1) ending)),
    )

block_in_range : (b : Block) → BlockFits b → Fit (block_lines b)
block_in_range b f = grind (arith, full_in_range)

blocks_in_range : (bs : List Block) → All BlockFits bs → Fit (flat_map block_lines bs)
blocks_in_range [] a = tt
blocks_in_range (b ∷ bs) a = all_join InRange (block_lines b) (flat_map block_lines bs) (block_in_range b (head_of BlockFits b bs a)) (blocks_in_range bs (tail_of BlockFits b bs a))

pub lines_in_range : (p : Publication) → HasText p → Fit (lines_of p)
lines_in_range p h =
    let c = both_kinds p.blocks in
    let runs = h.totals.runs in
    let done : InRange (line.Done (published_in p.blocks) (unpublished_in p.blocks)) = (omega (arith, c, runs), omega (arith, c, runs)) in (
      h.head,
      all_join InRange (flat_map block_lines p.blocks) (closing_lines p) (blocks_in_range p.blocks h.blocks)
          (all_join InRange (map line.TotalOperator p.operators) _ (to_map line.TotalOperator p.operators h.totals.operators.1)
          (all_join InRange (map line.TotalProvider p.providers) _ (to_map line.TotalProvider p.providers h.totals.providers.1) (done, tt))),
    )

pub block_within : (b : Block) → BlockFits b → IsWithinLimits b
block_within b f = grind arith

pub blocks_within : (bs : List Block) → All BlockFits bs → AllByRecursion IsWithinLimits bs
blocks_within [] a = tt
blocks_within (b ∷ bs) a = (block_within b (head_of BlockFits b bs a), blocks_within bs (tail_of BlockFits b bs a))

-- how many lines a publication may have
items_few : (is : List TreeItem) → length (flat_map item_lines is) ≤ 4 * length is
items_few [] = omega arith
items_few (i ∷ is) = let n = length-append (item_lines i) (flat_map item_lines is) in let m = items_few is in let f = four i in omega (arith, n, m, f)
  where
    four : (i : TreeItem) → length (item_lines i) ≤ 4
    four i = grind arith

demands_few : (k : ℕ) (ms : List ℕ) → length (demand_lines k ms) ≡ length ms
demands_few k [] = refl
demands_few k (m ∷ ms) = ap suc (demands_few (k + 1) ms)

two : (xs ys : List Line) (a b : ℕ) → length xs ≤ a → length ys ≤ b → length (xs ++ ys) ≤ a + b
two xs ys a b la lb = let n = length-append xs ys in omega (arith, n)

abbrev most_block : ℕ
most_block = 2 + ((64 + (256 + (4096 + 512))) + ((1 + 200000) + (64 + (4096 + 1))))

block_few : (b : Block) → BlockFits b → length (block_lines b) ≤ most_block
block_few (block.Unpublished heading count) f = omega arith
block_few (block.Published b) f =
    let fz = f.zones.0.1 in
    let fb = f.borders.0.1 in
    let fd = f.bids.0.1 in
    let fm = f.demands.0.1 in
    let ft = f.tree.0.1 in
    let fo = f.operators.0.1 in
    let fp = f.providers.0.1 in
    let z : length (map line.Zone b.zones) ≤ 64 = let n = length-map b.zones line.Zone in omega (arith, n, fz) in
    let x : length (map line.Border b.borders) ≤ 256 = let n = length-map b.borders line.Border in omega (arith, n, fb) in
    let d : length (map line.Bid b.bids) ≤ 4096 = let n = length-map b.bids line.Bid in omega (arith, n, fd) in
    let m : length (demand_lines 1 b.demands) ≤ 512 = let n = demands_few 1 b.demands in omega (arith, n, fm) in
    let t : length (tree_lines b.tree) ≤ 1 + 200000 = let n = items_few b.tree in omega (arith, n, ft) in
    let o : length (map line.Operator b.operators) ≤ 64 = let n = length-map b.operators line.Operator in omega (arith, n, fo) in
    let p : length (map line.Provider b.providers) ≤ 4096 = let n = length-map b.providers line.Provider in omega (arith, n, fp) in
    let market = two _ _ 64 (256 + (4096 + 512)) z (two _ _ 256 (4096 + 512) x (two _ _ 4096 512 d m)) in
    let ending : length (ending_lines b) ≤ 64 + (4096 + 1) = two _ _ 64 (4096 + 1) o (two _ (line.End b.heading.run ∷ []) 4096 1 p (omega arith)) in
    let following = two (market_lines b) (tree_lines b.tree ++ ending_lines b) (64 + (256 + (4096 + 512))) ((1 + 200000) + (64 + (4096 + 1))) market
    (two (tree_lines b.tree) (ending_lines b) (1 + 200000) (64 + (4096 + 1)) t ending) in
    omega (arith, following)

blocks_few : (bs : List Block) → All BlockFits bs → length (flat_map block_lines bs) ≤ most_block * length bs
blocks_few [] a = omega arith
blocks_few (b ∷ bs) a =
    let n = length-append (block_lines b) (flat_map block_lines bs) in
    let h = block_few b (head_of BlockFits b bs a) in
    let m = blocks_few bs (tail_of BlockFits b bs a) in
    omega (arith, n, h, m)

pub lines_few : (p : Publication) → HasText p → length (lines_of p) < 2 ^ 31
lines_few p h =
    let runs = h.totals.runs in
    let fo = h.totals.operators.0.1 in
    let fp = h.totals.providers.0.1 in
    let done = line.Done (published_in p.blocks) (unpublished_in p.blocks) ∷ [] in
    let b : length (flat_map block_lines p.blocks) ≤ 300000000 = let m = blocks_few p.blocks h.blocks in omega (arith, m, runs) in
    let o : length (map line.TotalOperator p.operators) ≤ 64 = let n = length-map p.operators line.TotalOperator in omega (arith, n, fo) in
    let q : length (map line.TotalProvider p.providers) ≤ 1638400 = let n = length-map p.providers line.TotalProvider in omega (arith, n, fp) in
    let all = two (flat_map block_lines p.blocks) (closing_lines p) 300000000 (64 + (1638400 + 1)) b
    (two (map line.TotalOperator p.operators) _ 64 (1638400 + 1) o (two (map line.TotalProvider p.providers) done 1638400 1 q (omega arith))) in
    omega (arith, all)
