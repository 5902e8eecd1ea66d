-- A part of the search tree has a node for each item, and these are distinct.
use Rattle.std.proofs.Common.{◌≡◌, ◌≢◌, ◌⊎◌, inl, inr, if◌then◌else◌, Bool, true, false, ℕ, suc, ◌<◌, List, [], ◌∷◌, ◌++◌, length, arith, ap, ◌∙◌, length-append}
use Rattle.mari_market.specs.declared.clearing.PartItem.{PartItem}
use Rattle.mari_market.specs.declared.clearing.PartItem.TheVariants.{Branch, Closed, Pending}
use Rattle.mari_market.specs.declared.market.Market.{Market}
use Rattle.mari_market.specs.Clearing.{ArePartsOfSearch}
use Rattle.mari_market.specs.Prefix.{children, may_open, opens_in}
use Rattle.mari_market.specs.SearchTree.{IsNode, AreNodes}
use Rattle.mari_market.proofs.Examples.{Each, EachApart, all_apart, all_of}
use Rattle.mari_market.proofs.Prefixes.{opens_front, opens_longer, opens_past}

-- the words of the items, in preorder
abbrev pub visited : Market → List (List Bool) → List PartItem → List (List Bool)
visited m [] items = []
visited m (word ∷ words) [] = []
visited m (word ∷ words) (Branch ∷ items) = word ∷ visited m (children m.gates word ++ words) items
visited m (word ∷ words) (Closed ∷ items) = word ∷ visited m words items
visited m (word ∷ words) (Pending ∷ items) = word ∷ visited m words items

visited_count : (m : Market) (words : List (List Bool)) (items : List PartItem) → ArePartsOfSearch m words items → length (visited m words items) ≡ length items
visited_count m (word ∷ words) (Branch ∷ items) p = ap suc (visited_count m (children m.gates word ++ words) items p.2)
visited_count m (word ∷ words) (Closed ∷ items) p = ap suc (visited_count m words items p.1)
visited_count m (word ∷ words) (Pending ∷ items) p = ap suc (visited_count m words items p.1)
visited_count m _ _ p = grind arith

visited_nodes : (m : Market) (words : List (List Bool)) (items : List PartItem) → ArePartsOfSearch m words items → Each (IsNode m) (visited m words items)
visited_nodes m (word ∷ words) (Branch ∷ items) p = (p.0, visited_nodes m (children m.gates word ++ words) items p.2)
visited_nodes m (word ∷ words) (Closed ∷ items) p = (p.0, visited_nodes m words items p.1)
visited_nodes m (word ∷ words) (Pending ∷ items) p = (p.0, visited_nodes m words items p.1)
visited_nodes m _ _ p = omega arith

-- ---- what holds of each of them

pub each_append : {X : Type 0} (P : X → Type 0) (xs ys : List X) → Each P xs → Each P ys → Each P (xs ++ ys)
each_append P [] ys a b = b
each_append P (x ∷ xs) ys a b = (a.0, each_append P xs ys a.1 b)

pub each_map : {X : Type 0} (P Q : X → Type 0) → ((x : X) → P x → Q x) → (xs : List X) → Each P xs → Each Q xs
each_map P Q h [] a = tt
each_map P Q h (x ∷ xs) a = (h x a.0, each_map P Q h xs a.1)

-- what holds of a word and of each that is one gate longer holds of a word's children
pub each_child : (Q : List Bool → Type 0) (word : List Bool) (may : Bool) → Q (word ++ false ∷ [])
    → Q (word ++ true ∷ []) → Each Q ((word ++ false ∷ []) ∷ (if may then (word ++ true ∷ []) ∷ [] else []))
each_child Q word may f t = grind arith

-- what holds of words, and passes on to words one gate longer, holds of all that are visited
each_visited : (m : Market) (Q : List Bool → Type 0) → ((word : List Bool) (b : Bool) → Q word → Q (word ++ b ∷ []))
    → (words : List (List Bool)) (items : List PartItem) → Each Q words → Each Q (visited m words items)
each_visited m Q h [] items a = tt
each_visited m Q h (word ∷ words) [] a = tt
each_visited m Q h (word ∷ words) (Branch ∷ items) a = (
  a.0,
  each_visited m Q h (children m.gates word ++ words) items
      (each_append Q (children m.gates word) words (each_child Q word (may_open m.gates word (length word)) (h word false a.0) (h word true a.0)) a.1),
)
each_visited m Q h (word ∷ words) (Closed ∷ items) a = (a.0, each_visited m Q h words items a.1)
each_visited m Q h (word ∷ words) (Pending ∷ items) a = (a.0, each_visited m Q h words items a.1)

-- ---- they are distinct

-- at some gate that it decides the first word is closed, and the other is open
record IsApart (word other : List Bool) : Type 0 where
  gate : ℕ
  decided : gate < length word
  closed : opens_in word gate ≡ false
  opened : opens_in other gate ≡ true

apart_longer : (word other : List Bool) (b : Bool) → IsApart word other → IsApart word (other ++ b ∷ [])
apart_longer word other b h = record { gate = h.gate; decided = h.decided; closed = h.closed; opened = opens_longer other b h.gate h.opened }

longer_apart : (word other : List Bool) (b : Bool) → IsApart word other → IsApart (word ++ b ∷ []) other
longer_apart word other b h = record {
  gate = h.gate;
  decided = omega (arith, h.decided, length-append word (b ∷ []));
  closed = opens_front word (b ∷ []) h.gate h.decided ∙ h.closed;
  opened = h.opened;
}

children_are_apart : (word : List Bool) → IsApart (word ++ false ∷ []) (word ++ true ∷ [])
children_are_apart word = record { gate = length word; decided = omega (arith, length-append word (false ∷ [])); closed = opens_past word false; opened = opens_past word true }

apart_differ : (word other : List Bool) → IsApart word other → word ≢ other
apart_differ word other h = λ e. absurd (cc (ap (λ (w : List Bool). opens_in w h.gate) e, h.closed, h.opened))

abbrev AllApart : List (List Bool) → Type 0
AllApart [] = Unit {0}
AllApart (word ∷ words) = Each (IsApart word) words × AllApart words

with_children_apart : (word : List Bool) (words : List (List Bool)) (may : Bool) → Each (IsApart word) words
    → AllApart words → AllApart (((word ++ false ∷ []) ∷ (if may then (word ++ true ∷ []) ∷ [] else [])) ++ words)
with_children_apart word words true a h =
    let one = each_map (IsApart word) (IsApart (word ++ false ∷ [])) (λ u. longer_apart word u false) words a in
    let two = each_map (IsApart word) (IsApart (word ++ true ∷ [])) (λ u. longer_apart word u true) words a in
    ((children_are_apart word, one), (two, h))
with_children_apart word words false a h = (each_map (IsApart word) (IsApart (word ++ false ∷ [])) (λ u. longer_apart word u false) words a, h)

-- longer than the word, or apart from it
abbrev IsPast : List Bool → List Bool → Type 0
IsPast word other = (length word < length other) ⊎ IsApart word other

after_longer : (word other : List Bool) (b : Bool) → IsPast word other → IsPast word (other ++ b ∷ [])
after_longer word other b (inl l) = inl (omega (arith, l, length-append other (b ∷ [])))
after_longer word other b (inr h) = inr (apart_longer word other b h)

after_differ : (word other : List Bool) → IsPast word other → word ≢ other
after_differ word other x = grind arith

visited_distinct : (m : Market) (words : List (List Bool)) (items : List PartItem) → AllApart words → EachApart (visited m words items)
visited_distinct m (word ∷ words) (Branch ∷ items) a = (
  each_map (IsPast word) (λ u. word ≢ u) (after_differ word) (visited m (children m.gates word ++ words) items)
      (each_visited m (IsPast word) (λ u b. after_longer word u b) (children m.gates word ++ words) items
      (each_append (IsPast word) (children m.gates word) words
      (each_child (IsPast word) word (may_open m.gates word (length word)) (inl (omega (arith, length-append word (false ∷ [])))) (inl (omega (arith, length-append word (true ∷ [])))))
      (each_map (IsApart word) (IsPast word) (λ u h. inr h) words a.0))),
  visited_distinct m (children m.gates word ++ words) items (with_children_apart word words (may_open m.gates word (length word)) a.0 a.1),
)
visited_distinct m (word ∷ words) (Closed ∷ items) a = (
  each_map (IsApart word) (λ u. word ≢ u) (apart_differ word) (visited m words items) (each_visited m (IsApart word) (λ u b. apart_longer word u b) words items a.0),
  visited_distinct m words items a.1,
)
visited_distinct m (word ∷ words) (Pending ∷ items) a = (
  each_map (IsApart word) (λ u. word ≢ u) (apart_differ word) (visited m words items) (each_visited m (IsApart word) (λ u b. apart_longer word u b) words items a.0),
  visited_distinct m words items a.1,
)
visited_distinct m _ _ a = tt

-- the words of a part of the search tree are distinct nodes
pub part_is_nodes : (m : Market) (items : List PartItem) → ArePartsOfSearch m ([] ∷ []) items → AreNodes m (visited m ([] ∷ []) items) × (length (visited m ([] ∷ []) items) ≡ length items)
part_is_nodes m items p = (
  record {
    nodes = all_of (IsNode m) (visited m ([] ∷ []) items) (visited_nodes m ([] ∷ []) items p);
    distinct = all_apart (visited m ([] ∷ []) items) (visited_distinct m ([] ∷ []) items (tt, tt));
  },
  visited_count m ([] ∷ []) items p,
)
