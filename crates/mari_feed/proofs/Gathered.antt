-- A list that is read item by item.
use Rattle.std.proofs.Common.{◌≡◌, ◌≤◌, ◌<◌, ℕ, zero, suc, ◌+◌, List, [], ◌∷◌, ◌++◌, map, length, take, get_or, Some, Result, Err, refl, sym, ap, ◌∙◌, arith}
use Rattle.std.specs.List.{All}
use Rattle.std.proofs.lemmas.List.{take_more, take_all, map-append, length-map}
use Rattle.std.proofs.lemmas.List.Elements.{All-nil, All-push}
use Rattle.serde_json.specs.Data.{Data, Items, array}
use Rattle.serde_json.specs.Find.{as_array}
use Rattle.serde_json.specs.View.{view, items_of, items_view}
use Rattle.serde_json.specs.declared.value.Value.{Value}
use Rattle.mari_lines.specs.Ranges.{Listed}
use Rattle.mari_feed.specs.declared.fault.FeedFault.{FeedFault}
use Rattle.mari_feed.specs.Reading.{Reads}
use Rattle.mari_feed.specs.Values.{list_of}
use Rattle.mari_feed.proofs.NotRead.{HandedOn, handed_on}

-- lists of values with the same items are the same
pub same_items : (ds es : List Data) → items_of ds ≡ items_of es → ds ≡ es
same_items [] [] e = refl
same_items (d ∷ ds) (x ∷ es) e =
    let rest : items_of ds ≡ items_of es = cc in
    let more = same_items ds es rest in
    cc
same_items ds es e = cc

-- the value whose items these are
pub array_is : (d : Data) (ds : Items) → Some ds ≡ as_array d → d ≡ array ds
array_is d ds e = grind arith

-- these were read from these values, one from each
pub record Begun {X : Type 0} (R : X → Type 0) (f : X → Data) (xs : List X) (vs : List Value) : Type 0 where
  pub whole : map f xs ≡ map view vs
  pub ranges : All R xs

module _ {X : Type 0} (R : X → Type 0) (f : X → Data) where
  pub begun : Begun R f [] []
  begun = record { whole = refl; ranges = All-nil R }

  pub begun_more : (xs : List X) (vs : List Value) (i : ℕ) (v : Value) (x : X) → i < length vs → v ≡ get_or vs i v
      → Begun R f xs (take i vs) → R x × (f x ≡ view v) → Begun R f (xs ++ x ∷ []) (take (i + 1) vs)
  begun_more xs vs i v x lt at b r = record {
    whole = map-append f xs (x ∷ []) ∙ ap (λ ds. ds ++ f x ∷ []) b.whole ∙ ap (λ d. map view (take i vs) ++ d ∷ []) (r.1 ∙ ap view at)
        ∙ sym (ap (map view) (take_more vs i v lt) ∙ map-append view (take i vs) (get_or vs i v ∷ []));
    ranges = All-push R xs x b.ranges r.0;
  }

  -- what was read of an item that has the value at a place
  head_of : (x : X) (xs : List X) → All R (x ∷ xs) → R x
  head_of x xs a = a 0 x (omega arith)

  tail_of : (x : X) (xs : List X) → All R (x ∷ xs) → All R xs
  tail_of x xs a k d lt = a (suc k) d (omega arith)

  pub at_value : (vs : List Value) (i : ℕ) (v : Value) (ys : List X) → i < length vs → v ≡ get_or vs i v → All R ys → map f ys ≡ map view vs → (x : X) × R x × (f x ≡ view v)
  at_value (w ∷ vs) zero v (y ∷ ys) lt at a e = let first : f y ≡ view w = cc in (y, head_of y ys a, first ∙ ap view (sym at))
  at_value (w ∷ vs) (suc i) v (y ∷ ys) lt at a e =
      let rest : map f ys ≡ map view vs = cc in
      at_value vs i v ys (omega arith) at (tail_of y ys a) rest
  at_value vs i v ys lt at a e = grind arith

  -- the values of a list, in an array
  pub same_values : (vs : List Value) (d : Data) (ys : List X) → Some (items_view vs) ≡ as_array d → list_of f ys ≡ d → map f ys ≡ map view vs
  same_values vs d ys is e = let whole = e ∙ array_is d (items_view vs) is in let items : items_of (map f ys) ≡ items_of (map view vs) = cc in same_items (map f ys) (map view vs) items

  pub same_length : (vs : List Value) (d : Data) (ys : List X) → Some (items_view vs) ≡ as_array d → list_of f ys ≡ d → length ys ≡ length vs
  same_length vs d ys is e = sym (length-map ys f) ∙ ap length (same_values vs d ys is e) ∙ length-map vs view

  -- a value of no item, in the list of these values
  pub item_unread : (least most : ℕ) (vs : List Value) (i : ℕ) (v : Value) (d : Data) (e : FeedFault) (result : Result (List X) FeedFault)
      → i < length vs → v ≡ get_or vs i v → Some (items_view vs) ≡ as_array d
      → HandedOn e result → Reads R f (view v) (Err e) → Reads (Listed least most R) (list_of f) d result
  item_unread least most vs i v d e result lt at is handed none = grind (arith, handed_on, at_value, same_values)

  -- all were read
  pub all_read : (least most : ℕ) (xs : List X) (vs : List Value) (i : ℕ) (d : Data) → length vs ≤ i
      → Some (items_view vs) ≡ as_array d → least ≤ length vs → length vs ≤ most → Begun R f xs (take i vs)
      → Listed least most R xs × (list_of f xs ≡ d)
  all_read least most xs vs i d le is low high b = grind (arith, take_all, length-map, array_is)
