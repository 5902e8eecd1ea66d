-- Parts with the same value are the same.
use Rattle.std.proofs.Common.{◌≡◌, ℕ, ◌+◌, Bool, List, [], ◌∷◌, map, ℤ, refl, ap, ◌∙◌, arith}
use Rattle.serde_json.specs.Data.{Data, Members, member, object}
use Rattle.serde_json.specs.View.{items_of}
use Rattle.mari_units.specs.declared.numbers.Cents.{Cents}
use Rattle.mari_units.specs.declared.numbers.Quarters.{Quarters}
use Rattle.mari_market.specs.declared.activation.Activation.{Activation}
use Rattle.mari_market.specs.declared.activation.Prices.{Prices}
use Rattle.mari_market.specs.declared.certificate.Conflict.{Conflict}
use Rattle.mari_market.specs.declared.certificate.Cut.{Cut}
use Rattle.mari_market.specs.declared.certificate.CutSide.{CutSide}
use Rattle.mari_market.specs.declared.certificate.Leaf.TheVariants as leaf
use Rattle.mari_market.specs.declared.certificate.TreeItem.{TreeItem}
use Rattle.mari_market.specs.declared.certificate.TreeItem.TheVariants as item
use Rattle.mari_lines.specs.declared.line.AmountLine.{AmountLine}
use Rattle.mari_lines.specs.declared.line.BidLine.{BidLine}
use Rattle.mari_lines.specs.declared.line.BorderLine.{BorderLine}
use Rattle.mari_lines.specs.declared.line.Heading.{Heading}
use Rattle.mari_lines.specs.declared.line.MoneyLine.{MoneyLine}
use Rattle.mari_lines.specs.declared.line.ZoneLine.{ZoneLine}
use Rattle.mari_publish.specs.declared.publication.Block.{Block}
use Rattle.mari_publish.specs.declared.publication.Block.TheVariants as block
use Rattle.mari_publish.specs.declared.publication.FullBlock.{FullBlock}
use Rattle.mari_publish.specs.declared.publication.Part.{Part}
use Rattle.mari_publish.specs.declared.publication.Part.TheVariants as part
use Rattle.mari_feed.specs.Values.{natural, whole, price_value, money_value, kind_value, side_value, zone_number, list_of, zone_value, border_value, bid_value, operator_value, provider_value, bound_value, cut_value, conflict_value, item_value, full_value, part_value}
use Rattle.mari_feed.proofs.Gathered.{same_items}

-- ---- numbers and words

same_natural : (m n : ℕ) → natural m ≡ natural n → m ≡ n
same_natural m n e = cc

same_whole : (y z : ℤ) → whole y ≡ whole z → y ≡ z
same_whole y z e = grind arith

same_price : (p q : Cents) → price_value p ≡ price_value q → p ≡ q
same_price p q e = ap (λ z. record { 0 = z }) (same_whole p.0 q.0 e)

same_money : (p q : Quarters) → money_value p ≡ money_value q → p ≡ q
same_money p q e = ap (λ z. record { 0 = z }) (same_whole p.0 q.0 e)

pub same_zone_number : (m n : ℕ) → zone_number m ≡ zone_number n → m ≡ n
same_zone_number m n e = let more : m + 1 ≡ n + 1 = same_natural (m + 1) (n + 1) e in omega arith

same_kind : (a b : Bool) → kind_value a ≡ kind_value b → a ≡ b
same_kind a b e = grind arith

same_side : (a b : CutSide) → side_value a ≡ side_value b → a ≡ b
same_side a b e = grind arith

-- ---- lists

same_map : {X : Type 0} (f : X → Data) → ((x y : X) → f x ≡ f y → x ≡ y) → (xs ys : List X) → map f xs ≡ map f ys → xs ≡ ys
same_map f same [] [] e = refl
same_map f same (x ∷ xs) (y ∷ ys) e =
    let first : f x ≡ f y = cc in
    let rest : map f xs ≡ map f ys = cc in
    let one = same x y first in
    let more = same_map f same xs ys rest in
    cc
same_map f same xs ys e = cc

pub same_list : {X : Type 0} (f : X → Data) → ((x y : X) → f x ≡ f y → x ≡ y) → (xs ys : List X) → list_of f xs ≡ list_of f ys → xs ≡ ys
same_list f same xs ys e = let items : items_of (map f xs) ≡ items_of (map f ys) = cc in same_map f same xs ys (same_items (map f xs) (map f ys) items)

-- ---- records with the same fields are the same

abbrev made_heading : ℕ → ℕ → Bool → Heading
made_heading x0 x1 x2 = record { run = x0; quarter = x1; direct = x2 }

alike_heading : (g h : Heading) → g.run ≡ h.run → g.quarter ≡ h.quarter → g.direct ≡ h.direct → g ≡ h
alike_heading g h e0 e1 e2 = ap (λ (x : ℕ). made_heading x g.quarter g.direct) e0 ∙ ap (λ (x : ℕ). made_heading h.run x g.direct) e1 ∙ ap (λ (x : Bool). made_heading h.run h.quarter x) e2

alike_zone : (g h : ZoneLine) → g.name ≡ h.name → g.price ≡ h.price → g.least ≡ h.least → g.greatest ≡ h.greatest → g.area ≡ h.area → g ≡ h
alike_zone g h e0 e1 e2 e3 e4 = grind arith

alike_border : (g h : BorderLine) → g.from ≡ h.from → g.to ≡ h.to → g.flow ≡ h.flow → g.rent ≡ h.rent → g ≡ h
alike_border g h e0 e1 e2 e3 = grind arith

abbrev made_bid : List ℕ → ℕ → BidLine
made_bid x0 x1 = record { id = x0; mw = x1 }

alike_bid : (g h : BidLine) → g.id ≡ h.id → g.mw ≡ h.mw → g ≡ h
alike_bid g h e0 e1 = ap (λ (x : List ℕ). made_bid x g.mw) e0 ∙ ap (λ (x : ℕ). made_bid h.id x) e1

alike_operator : (g h : MoneyLine) → g.name ≡ h.name → g.payment ≡ h.payment → g.rent ≡ h.rent → g.net ≡ h.net → g ≡ h
alike_operator g h e0 e1 e2 e3 = grind arith

abbrev made_provider : List ℕ → Quarters → AmountLine
made_provider x0 x1 = record { name = x0; amount = x1 }

alike_provider : (g h : AmountLine) → g.name ≡ h.name → g.amount ≡ h.amount → g ≡ h
alike_provider g h e0 e1 = ap (λ (x : List ℕ). made_provider x g.amount) e0 ∙ ap (λ (x : Quarters). made_provider h.name x) e1

abbrev made_cut : CutSide → List ℕ → Cut
made_cut x0 x1 = record { side = x0; zones = x1 }

alike_cut : (g h : Cut) → g.side ≡ h.side → g.zones ≡ h.zones → g ≡ h
alike_cut g h e0 e1 = ap (λ (x : CutSide). made_cut x g.zones) e0 ∙ ap (λ (x : List ℕ). made_cut h.side x) e1

abbrev made_activation : List ℕ → List ℤ → Activation
made_activation x0 x1 = record { mw = x0; flow = x1 }

alike_activation : (g h : Activation) → g.mw ≡ h.mw → g.flow ≡ h.flow → g ≡ h
alike_activation g h e0 e1 = ap (λ (x : List ℕ). made_activation x g.flow) e0 ∙ ap (λ (x : List ℤ). made_activation h.mw x) e1

alike_conflict : (g h : Conflict) → g.chain ≡ h.chain → g.potentials ≡ h.potentials → g.activation ≡ h.activation → g ≡ h
alike_conflict g h e0 e1 e2 = grind arith

alike_full : (g h : FullBlock) → g.heading ≡ h.heading → g.welfare ≡ h.welfare → g.zones ≡ h.zones
    → g.borders ≡ h.borders → g.bids ≡ h.bids → g.demands ≡ h.demands → g.tree ≡ h.tree → g.operators ≡ h.operators
    → g.providers ≡ h.providers → g ≡ h
alike_full g h e0 e1 e2 e3 e4 e5 e6 e7 e8 = grind arith

-- ---- members

same_object : (ms ns : Members) → object ms ≡ object ns → ms ≡ ns
same_object ms ns e = cc

peel : (k : List ℕ) (d e : Data) (ms ns : Members) → member k d ms ≡ member k e ns → (d ≡ e) × (ms ≡ ns)
peel k d e ms ns h = (cc, cc)

-- ---- what stands in lists

same_zone : (g h : ZoneLine) → zone_value g ≡ zone_value h → g ≡ h
same_zone g h e = grind (arith, alike_zone, same_price)

same_border : (g h : BorderLine) → border_value g ≡ border_value h → g ≡ h
same_border g h e = grind (arith, alike_border, same_whole, same_money)

same_bid : (g h : BidLine) → bid_value g ≡ bid_value h → g ≡ h
same_bid g h e = grind (arith, alike_bid)

same_operator : (g h : MoneyLine) → operator_value g ≡ operator_value h → g ≡ h
same_operator g h e = grind (arith, alike_operator, same_money)

same_provider : (g h : AmountLine) → provider_value g ≡ provider_value h → g ≡ h
same_provider g h e = grind (arith, alike_provider, same_money)

same_bound : (p q : Prices) → bound_value p ≡ bound_value q → p ≡ q
same_bound p q e = grind (arith, same_list, same_price)

same_cut : (g h : Cut) → cut_value g ≡ cut_value h → g ≡ h
same_cut g h e = grind (arith, alike_cut, same_side, same_list, same_zone_number)

same_conflict : (g h : Conflict) → conflict_value g ≡ conflict_value h → g ≡ h
same_conflict g h e = grind (arith, alike_conflict, same_list, same_zone_number, same_price, alike_activation, same_natural, same_whole)

same_item : (x y : TreeItem) → item_value x ≡ item_value y → x ≡ y
same_item item.Branch item.Branch e = refl
same_item (item.Leaf (leaf.Bound p)) (item.Leaf (leaf.Bound q)) e = ap (λ x. item.Leaf (leaf.Bound x)) (same_bound p q e)
same_item (item.Leaf (leaf.Cut g)) (item.Leaf (leaf.Cut h)) e = ap (λ x. item.Leaf (leaf.Cut x)) (same_cut g h e)
same_item (item.Leaf (leaf.Conflict g)) (item.Leaf (leaf.Conflict h)) e = ap (λ x. item.Leaf (leaf.Conflict x)) (same_conflict g h e)
same_item x y e = grind arith

-- ---- parts

same_full : (g h : FullBlock) → full_value g ≡ full_value h → g ≡ h
same_full g h e =
    let bids = peel _ _ _ _ _ (same_object _ _ e) in
    let borders = peel _ _ _ _ _ bids.1 in
    let demands = peel _ _ _ _ _ borders.1 in
    let kind = peel _ _ _ _ _ demands.1 in
    let operators = peel _ _ _ _ _ kind.1 in
    let providers = peel _ _ _ _ _ operators.1 in
    let quarter = peel _ _ _ _ _ providers.1 in
    let run = peel _ _ _ _ _ quarter.1 in
    let tree = peel _ _ _ _ _ run.1 in
    let welfare = peel _ _ _ _ _ tree.1 in
    let zones = peel _ _ _ _ _ welfare.1 in
    let heading = alike_heading g.heading h.heading (same_natural g.heading.run h.heading.run run.0) (same_natural g.heading.quarter h.heading.quarter quarter.0)
    (same_kind g.heading.direct h.heading.direct kind.0) in
    alike_full g h heading (same_natural g.welfare h.welfare welfare.0)
    (same_list zone_value same_zone g.zones h.zones zones.0) (same_list border_value same_border g.borders h.borders borders.0)
    (same_list bid_value same_bid g.bids h.bids bids.0) (same_list natural same_natural g.demands h.demands demands.0)
    (same_list item_value same_item g.tree h.tree tree.0) (same_list operator_value same_operator g.operators h.operators operators.0)
    (same_list provider_value same_provider g.providers h.providers providers.0)

same_block : (b d : Block) → part_value (part.Block b) ≡ part_value (part.Block d) → b ≡ d
same_block (block.Published g) (block.Published h) e = ap (λ x. block.Published x) (same_full g h e)
same_block (block.Published g) (block.Unpublished h n) e = absurd cc
same_block (block.Unpublished g m) (block.Published h) e = absurd cc
same_block (block.Unpublished g m) (block.Unpublished h n) e = grind (arith, alike_heading, same_kind)

pub same_part : (p q : Part) → part_value p ≡ part_value q → p ≡ q
same_part (part.Head d q b) (part.Head d2 q2 b2) e =
    let date : d ≡ d2 = cc in
    let quarters : q ≡ q2 = cc in
    let budget : b ≡ b2 = cc in
    cc
same_part (part.Block b) (part.Block d) e = ap (λ x. part.Block x) (same_block b d e)
same_part (part.Totals o p) (part.Totals o2 p2) e =
    let operators : list_of operator_value o ≡ list_of operator_value o2 = cc in
    let providers : list_of provider_value p ≡ list_of provider_value p2 = cc in
    ap (λ x. part.Totals x p) (same_list operator_value same_operator o o2 operators) ∙ ap (λ x. part.Totals o2 x) (same_list provider_value same_provider p p2 providers)
same_part p q e = grind arith
