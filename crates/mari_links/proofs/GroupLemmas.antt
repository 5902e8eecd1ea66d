-- Groups, their first members and one more member.
use Rattle.std.proofs.Common.{◌≡◌, ◌∙◌, ◌<◌, ◌≤◌, Bor, IfOk, OnOk, Result, Ok, Err, ℕ, Bool, true, false, List, [], ◌∷◌, ◌++◌, Option, Some, None, get_or, length, map, fold, refl, sym, ap, if◌then◌else◌, slice_get, position}
use Rattle.std.specs.Prelude.{◌||◌, is_some, unwrap_or, option_map, MatchOption}
use Rattle.std.specs.List.{All, find, HoldsAt}
use Rattle.std.specs.Option.{option_copied, option_or}
use Rattle.std.specs.Str.{bytes_eq}
use Rattle.std.proofs.lemmas.List.{get_or_default}
use Rattle.std.proofs.lemmas.List.Elements.{All-head, All-tail}
use Rattle.std.proofs.lemmas.List.Folds.{find-append, list_any-from_Any}
use Rattle.std.proofs.lemmas.List.Quantifiers.{position-Some}
use Rattle.std.proofs.lemmas.Option.{slice_get-get_or, slice_get-map, slice_get_past}
use Rattle.std.proofs.lemmas.Slice.Eq.{bytes_eq-Decides}
use Rattle.mari_rows.specs.Names.{is_among, with_name}
use Rattle.mari_rows.proofs.FindLemmas.{find-some, map-some}
use Rattle.mari_rows.proofs.NameLemmas.{bytes_eq-same, list_any-map}
use Rattle.mari_rows.proofs.PlaceLemmas.{among-push}
use Rattle.mari_bids.specs.declared.bids.BidBook.{BidBook}
use Rattle.mari_links.specs.Links.{groups_of, quarter_of, quarter_of_group, Member}

-- a name is among others and one more where it is among them or is that one
among-with_name : (names : List (List ℕ)) (other name : List ℕ) → is_among (with_name names other) name ≡ (is_among names name || bytes_eq name other)
among-with_name names other name = by (is_among names other) refl
  where
    same : (b : Bool) → bytes_eq name other ≡ b → is_among names other ≡ true → is_among names name ≡ (is_among names name || b)
    same true e there = rw ((bytes_eq-Decides name other).0 e, there) refl
    same false e there = or-no (is_among names name)
      where
        or-no : (a : Bool) → a ≡ (a || false)
        or-no true = refl
        or-no false = refl

    by : (b : Bool) → is_among names other ≡ b → is_among (if b then names else names ++ other ∷ []) name ≡ (is_among names name || bytes_eq name other)
    by true there = same (bytes_eq name other) refl there
    by false new = among-push names name other

-- the distinct ones of some names are those names
pub among-fold : (names xs : List (List ℕ)) (name : List ℕ) → is_among (fold with_name names xs) name ≡ (is_among names name || is_among xs name)
among-fold names [] name = or-no (is_among names name)
  where
    or-no : (a : Bool) → a ≡ (a || false)
    or-no true = refl
    or-no false = refl
among-fold names (x ∷ xs) name = among-fold (with_name names x) xs name ∙ rw (among-with_name names x name) (regroup (is_among names name) (bytes_eq name x) (is_among xs name))
  where
    regroup : (a b c : Bool) → ((a || b) || c) ≡ (a || (b || c))
    regroup true b c = refl
    regroup false b c = refl

-- a value that is there, and one that is not
pub kept-some : (o : Option ℕ) → is_some o ≡ true → Some (unwrap_or o 0) ≡ o
kept-some None there = cc there
kept-some (Some x) there = refl

-- what is lent of a list at a place
pub lent : (xs : List ℕ) (place : ℕ) (r : Option (Bor ℕ))
    → MatchOption r (length xs ≤ place) (λ x. (place < length xs) × HoldsAt (λ y. x.now ≡ y) xs place) → option_copied r ≡ slice_get xs place
lent xs place None past = sym (slice_get_past xs place past)
lent xs place (Some x) at = ap Some (at.1 0) ∙ sym (slice_get-get_or xs place 0 at.0)

-- what follows from what an answer says of success
pub on-ok : {T E : Type 0} (r : Result T E) (P Q : Type 0) → IfOk r (λ _. P) → (P → Q) → OnOk r Q
on-ok (Ok x) P Q p step = step p
on-ok (Err e) P Q p step = tt

-- what two functions make alike of each item
pub map-alike : {X Y : Type 0} (f g : X → Y) (xs : List X) → All (λ x. f x ≡ g x) xs → map f xs ≡ map g xs
map-alike f g [] alike = refl
map-alike f g (x ∷ xs) alike =
    λ i. All-head (λ y. f y ≡ g y) x xs alike i ∷ map-alike f g xs (All-tail (λ y. f y ≡ g y) x xs alike) i

-- each name is among the names
names-among : (names : List (List ℕ)) → All (λ name. is_among names name ≡ true) names
names-among names k d within = list_any-from_Any (bytes_eq (get_or names k d)) names (k, get_or names k d, within, get_or_default names k (get_or names k d) d within, bytes_eq-same (get_or names k d))

-- what is made of the name at the place that is found
pub made-at-place : {Y : Type 0} (f : List ℕ → Y) (names : List (List ℕ)) (name : List ℕ) (place : ℕ) → position (bytes_eq name) names ≡ Some place
    → slice_get (map f names) place ≡ Some (f name)
made-at-place f names name place found =
    let is = position-Some (bytes_eq name) names place [] found in
    let same : name ≡ get_or names place [] = (bytes_eq-Decides name (get_or names place [])).0 is.1 in
    slice_get-map f names place ∙ rw (slice_get-get_or names place [] is.0, sym same) refl

module _ (bids : BidBook) (members : List Member) where
  -- a group is there where it has a first member
  pub group-there : (name : List ℕ) → is_among (groups_of members) name ≡ is_some (quarter_of_group bids members name)
  group-there name =
      let names : List (List ℕ) = map (λ (member : Member). member.group) members in
      among-fold [] names name
      ∙ list_any-map (λ (member : Member). member.group) (bytes_eq name) members
      ∙ sym (find-some (λ (member : Member). bytes_eq name member.group) members)
      ∙ sym (map-some (λ (member : Member). quarter_of bids member.bid) (find (λ (member : Member). bytes_eq name member.group) members))

  -- its quarter stays with one more member
  pub quarter-stays : (member : Member) (name : List ℕ) → is_some (quarter_of_group bids members name) ≡ true
      → quarter_of_group bids (members ++ member ∷ []) name ≡ quarter_of_group bids members name
  quarter-stays member name there =
      rw (find-append (λ (m : Member). bytes_eq name m.group) members (member ∷ [])) (by (find (λ (m : Member). bytes_eq name m.group) members) there)
    where
      by : (o : Option Member) → is_some (option_map (λ (m : Member). quarter_of bids m.bid) o) ≡ true
          → option_map (λ (m : Member). quarter_of bids m.bid) (option_or o (find (λ (m : Member). bytes_eq name m.group) (member ∷ [])))
          ≡ option_map (λ (m : Member). quarter_of bids m.bid) o
      by None t = cc t
      by (Some m) t = refl

  -- and is that of the first member, where the group is new
  pub quarter-new : (member : Member) → is_some (quarter_of_group bids members member.group) ≡ false
      → quarter_of_group bids (members ++ member ∷ []) member.group ≡ Some (quarter_of bids member.bid)
  quarter-new member new =
      rw (find-append (λ (m : Member). bytes_eq member.group m.group) members (member ∷ [])) (by (find (λ (m : Member). bytes_eq member.group m.group) members) new)
    where
      by : (o : Option Member) → is_some (option_map (λ (m : Member). quarter_of bids m.bid) o) ≡ false
          → option_map (λ (m : Member). quarter_of bids m.bid) (option_or o (find (λ (m : Member). bytes_eq member.group m.group) (member ∷ [])))
          ≡ Some (quarter_of bids member.bid)
      by None n = rw (bytes_eq-same member.group) refl
      by (Some m) n = cc n

  -- the quarters of the groups that are there
  pub quarters-stay : (member : Member)
      → map (λ name. unwrap_or (quarter_of_group bids (members ++ member ∷ []) name) 0) (groups_of members)
      ≡ map (λ name. unwrap_or (quarter_of_group bids members name) 0) (groups_of members)
  quarters-stay member =
      map-alike (λ name. unwrap_or (quarter_of_group bids (members ++ member ∷ []) name) 0) (λ name. unwrap_or (quarter_of_group bids members name) 0) (groups_of members)
      (λ k d within.
      let name : List ℕ = get_or (groups_of members) k d in
      ap (λ o. unwrap_or o 0) (quarter-stays member name (sym (group-there name) ∙ names-among (groups_of members) k d within)))
