-- The gates and the zones that the names of a printed tree stand for are those that it decides.
use Rattle.std.proofs.Common.{◌≡◌, ◌≢◌, ◌∙◌, ◌<◌, ℕ, Bool, true, List, [], ◌∷◌, ◌++◌, Some, length, map, refl, ap, nat_lt, slice_index_or}
use Rattle.std.specs.Prelude.{option_map, ⊤}
use Rattle.std.specs.List.{AllByRecursion, AllPairs, All, position, position_or_len}
use Rattle.std.specs.Option.{option_and_then}
use Rattle.std.specs.Str.{bytes_eq}
use Rattle.std.proofs.lemmas.Bool.{lt-ltb}
use Rattle.mari_rows.specs.Names.{name_at}
use Rattle.mari_rows.proofs.NameLemmas.{place-of-name}
use Rattle.mari_market.specs.declared.market.Market.{Market}
use Rattle.mari_remain.specs.RunMarket.{gate_of}
use Rattle.mari_remain.specs.declared.books.Books.{Books}
use Rattle.mari_remain.proofs.Gates.{gate-is}
use Rattle.mari_reach.specs.State.{IsLeft, children_at}
use Rattle.mari_reach.specs.Tree.{AnyLeaf, ArePartsOf}
use Rattle.mari_reach.specs.declared.decisions.Choice.{Choice}
use Rattle.mari_reach.specs.declared.decisions.Choice.TheVariants.{OfGate, OfPrice}
use Rattle.mari_reach.specs.declared.decisions.Decision.{Decision}
use Rattle.mari_reach.specs.declared.decisions.ReachItem.{ReachItem}
use Rattle.mari_reach.specs.declared.decisions.ReachItem.TheVariants.{Branch, Leaf}
use Rattle.mari_reach.specs.declared.decisions.ReachLeaf.{ReachLeaf}
use Rattle.mari_reach.specs.declared.decisions.ReachLeaf.TheVariants as leaf
use Rattle.mari_reach_text.specs.Numbers.{IsNumbered, gate_of_name, item_of}
use Rattle.mari_reach_accept.specs.Named.{named_item}

-- the first place that passes is found
found_at : {X : Type 0} (test : X → Bool) (xs : List X) (i : ℕ) → i < length xs → position_or_len test xs ≡ i → position test xs ≡ Some i
found_at test xs i l e = rw e (let here : nat_lt i (length xs) ≡ true = lt-ltb i (length xs) l in rw here refl)

-- names of which no two are the same give back the place
place_back : (names : List (List ℕ)) → AllPairs (λ a b. a ≢ b) names → (i : ℕ) → i < length names → position (bytes_eq (name_at names i)) names ≡ Some i
place_back names apart i l = found_at (bytes_eq (name_at names i)) names i l (place-of-name names apart i l)

-- a choice decides a gate or a zone that is there
abbrev ChoosesAmong : (gates zones : ℕ) → Choice → Type 0
ChoosesAmong gates zones (OfGate gate) = gate < gates
ChoosesAmong gates zones (OfPrice zone price) = zone < zones

abbrev pub IsItemAmong : (gates zones : ℕ) → ReachItem → Type 0
IsItemAmong gates zones (Branch choice) = ChoosesAmong gates zones choice
IsItemAmong gates zones (Leaf leaf) = ⊤

chosen : (m : Market) (ds : List Decision) (choice : Choice) → IsLeft m ds choice → ChoosesAmong (length m.gates) m.zones choice
chosen m ds (OfGate gate) is = is.there
chosen m ds (OfPrice zone price) is = is.there

-- so does each item of a tree of states
pub items_among : (m : Market) (holds : List Decision → ReachLeaf → Type 0) (states : List (List Decision)) (items : List ReachItem) → ArePartsOf m holds states items
    → AllByRecursion (IsItemAmong (length m.gates) m.zones) items
items_among m holds [] [] h = tt
items_among m holds [] (item ∷ items) h = absurd h
items_among m holds (ds ∷ states) [] h = absurd h
items_among m holds (ds ∷ states) (Leaf leaf ∷ items) h = (tt, items_among m holds states items h.1)
items_among m holds (ds ∷ states) (Branch choice ∷ items) h = (chosen m ds choice h.0.left, items_among m holds (children_at ds choice ++ states) items h.1)

-- parts whose leaves hold have the shape of a tree
pub any_parts : (m : Market) (holds : List Decision → ReachLeaf → Type 0) (states : List (List Decision)) (items : List ReachItem) → ArePartsOf m holds states items → ArePartsOf m AnyLeaf states items
any_parts m holds [] [] h = tt
any_parts m holds [] (item ∷ items) h = absurd h
any_parts m holds (ds ∷ states) [] h = absurd h
any_parts m holds (ds ∷ states) (Leaf leaf ∷ items) h = (tt, any_parts m holds states items h.1)
any_parts m holds (ds ∷ states) (Branch choice ∷ items) h = (h.0, any_parts m holds (children_at ds choice ++ states) items h.1)

module _ (books : Books) (gated : List ℕ) (ids : AllPairs (λ a b. a ≢ b) books.bids.ids) (zones : AllPairs (λ a b. a ≢ b) books.zones.zones)
    (rise : AllPairs (λ i j. i < j) gated) (there : All (λ i. i < length books.bids.ids) gated) where
  -- the name of the bid of a gate gives back the gate
  gate_back : (gate : ℕ) → gate < length gated → gate_of_name books gated (name_at books.bids.ids (slice_index_or gated gate 0)) ≡ Some gate
  gate_back gate l = ap (option_and_then (gate_of gated)) (place_back books.bids.ids ids (slice_index_or gated gate 0) (there gate 0 l)) ∙ gate-is gated gate rise l

  item_back : (item : ReachItem) → IsItemAmong (length gated) (length books.zones.zones) item → item_of books gated (named_item books gated item) ≡ Some item
  item_back (Branch (OfGate gate)) l = ap (option_map (λ g. Branch (OfGate g))) (gate_back gate l)
  item_back (Branch (OfPrice zone price)) l = ap (option_map (λ z. Branch (OfPrice z price))) (place_back books.zones.zones zones zone l)
  item_back (Leaf leaf.Void) l = refl
  item_back (Leaf (leaf.Bound potentials)) l = refl
  item_back (Leaf (leaf.Cut cut)) l = refl

  -- the names of a tree stand for it
  pub numbered : (tree : List ReachItem) → AllByRecursion (IsItemAmong (length gated) (length books.zones.zones)) tree → IsNumbered books gated (map (named_item books gated) tree) tree
  numbered [] h = refl
  numbered (item ∷ items) h = rw (item_back item h.0, numbered items h.1) refl
