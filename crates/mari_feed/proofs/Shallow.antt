-- The value of a part nests four levels at most.
use Rattle.std.proofs.Common.{◌≡◌, ◌≤◌, ◌+◌, ℕ, List, [], ◌∷◌, refl, arith}
use Rattle.serde_json.specs.Data.{Data, depth}
use Rattle.serde_json.specs.Read.{max_depth}
use Rattle.mari_market.specs.declared.certificate.TreeItem.{TreeItem}
use Rattle.mari_publish.specs.declared.publication.FullBlock.{FullBlock}
use Rattle.mari_publish.specs.declared.publication.Part.{Part}
use Rattle.mari_feed.specs.Values.{natural, list_of, zone_value, border_value, bid_value, operator_value, provider_value, item_value, full_value, part_value}

pub shallow_list : {X : Type 0} (f : X → Data) (n : ℕ) → ((x : X) → depth (f x) ≤ n) → (xs : List X) → depth (list_of f xs) ≤ n + 1
shallow_list f n each [] = omega arith
shallow_list f n each (x ∷ xs) = omega (arith, each x, shallow_list f n each xs)

pub numbers : {X : Type 0} (f : X → Data) → ((x : X) → depth (f x) ≡ 0) → (xs : List X) → depth (list_of f xs) ≤ 1
numbers f flat xs = shallow_list f 0 (λ x. omega (arith, flat x)) xs

pub lines : {X : Type 0} (f : X → Data) → ((x : X) → depth (f x) ≡ 1) → (xs : List X) → depth (list_of f xs) ≤ 2
lines f flat xs = shallow_list f 1 (λ x. omega (arith, flat x)) xs

pub shallow_item : (x : TreeItem) → depth (item_value x) ≤ 2
shallow_item x = grind (arith, numbers)

shallow_full : (b : FullBlock) → depth (full_value b) ≤ max_depth
shallow_full b = omega (
  arith,
  lines bid_value (λ _. refl) b.bids,
  lines border_value (λ _. refl) b.borders,
  numbers natural (λ _. refl) b.demands,
  lines operator_value (λ _. refl) b.operators,
  lines provider_value (λ _. refl) b.providers,
  shallow_list item_value 2 shallow_item b.tree,
  lines zone_value (λ _. refl) b.zones,
)

pub shallow_part : (p : Part) → depth (part_value p) ≤ max_depth
shallow_part p = grind (arith, shallow_full, lines)
