-- Lists of names, and of items each once.
use Rattle.std.specs.Prelude.{◌≢◌, ◌<◌, ◌^◌, ℕ, Bool, List, [], ◌∷◌, ◌++◌, length, fold, slice_index_or, if◌then◌else◌}
use Rattle.std.specs.List.{list_any, position_or_len, AllPairs}
use Rattle.std.specs.Str.{bytes_eq}

-- whether a name is one of these
abbrev pub is_among : List (List ℕ) → List ℕ → Bool
is_among names name = list_any (bytes_eq name) names

-- the items with this one, which goes last where it is the same as none of them
abbrev pub listed_with : {X : Type 0} → (X → X → Bool) → List X → X → List X
listed_with same items item = if list_any (same item) items then items else items ++ item ∷ []

-- each item once, in order of first appearance
abbrev pub listed_once : {X : Type 0} → (X → X → Bool) → List X → List X
listed_once same items = fold (listed_with same) [] items

-- the names with this one, which goes last where it is new
abbrev pub with_name : List (List ℕ) → List ℕ → List (List ℕ)
with_name = listed_with bytes_eq

-- each name once, in order of first appearance
abbrev pub distinct : List (List ℕ) → List (List ℕ)
distinct names = listed_once bytes_eq names

-- the place of a name, and the length where it is not there
abbrev pub place_in : List (List ℕ) → List ℕ → ℕ
place_in names name = position_or_len (bytes_eq name) names

-- the name at a place, or nothing where there is none
abbrev pub name_at : List (List ℕ) → ℕ → List ℕ
name_at names place = slice_index_or names place []

-- so few that a place fits 32 bits, and no two of them are equal
pub record AreNames (names : List (List ℕ)) : Type 0 where
  pub few : length names < 2 ^ 32
  pub distinct : AllPairs (λ a b. a ≢ b) names
