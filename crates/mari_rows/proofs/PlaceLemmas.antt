-- Places of names, while names are added.
use Rattle.std.proofs.Common.{◌≡◌, ◌∙◌, ℕ, Bool, true, false, List, [], ◌∷◌, ◌++◌, refl, ap, length, arith, ◌+◌, ◌≤◌, if◌then◌else◌, map, fold}
use Rattle.std.proofs.lemmas.List.Sums.{fold-append}
use Rattle.std.proofs.lemmas.List.{length-append, map-append}
use Rattle.std.specs.Prelude.{◌||◌, ◌&&◌}
use Rattle.std.specs.List.{list_all}
use Rattle.std.specs.Str.{bytes_eq}
use Rattle.mari_rows.specs.Names.{distinct, is_among, place_in, with_name}
use Rattle.mari_rows.proofs.NameLemmas.{bytes_eq-same}

-- a new name, put last, has the length as its place
pub place-new : (names : List (List ℕ)) (name : List ℕ) → is_among names name ≡ false → place_in (names ++ name ∷ []) name ≡ length names
place-new [] name new = rw (bytes_eq-same name) refl
place-new (n ∷ ns) name new = by (bytes_eq name n) refl new (place-new ns name)
  where
    by : (b : Bool) → bytes_eq name n ≡ b → (bytes_eq name n || is_among ns name) ≡ false
        → (is_among ns name ≡ false → place_in (ns ++ name ∷ []) name ≡ length ns) → place_in (n ∷ (ns ++ name ∷ [])) name ≡ length (n ∷ ns)
    by true e h more = cc (rw e at h)
    by false e h more = rw (e, more (rw e at h)) (grind arith)

-- a name that is there keeps its place
pub place-stays : (names : List (List ℕ)) (name other : List ℕ) → is_among names name ≡ true → place_in (names ++ other ∷ []) name ≡ place_in names name
place-stays [] name other there = cc there
place-stays (n ∷ ns) name other there = by (bytes_eq name n) refl there (place-stays ns name other)
  where
    by : (b : Bool) → bytes_eq name n ≡ b → (bytes_eq name n || is_among ns name) ≡ true
        → (is_among ns name ≡ true → place_in (ns ++ other ∷ []) name ≡ place_in ns name) → place_in (n ∷ (ns ++ other ∷ [])) name ≡ place_in (n ∷ ns) name
    by true e h more = rw e refl
    by false e h more = rw (e, more (rw e at h)) refl

-- also where the other name is there already
pub place-with : (names : List (List ℕ)) (name other : List ℕ) → is_among names name ≡ true → place_in (with_name names other) name ≡ place_in names name
place-with names name other there = by (is_among names other)
  where
    by : (b : Bool) → place_in (if b then names else names ++ other ∷ []) name ≡ place_in names name
    by true = refl
    by false = place-stays names name other there

-- a name is among others with one put last
pub among-push : (names : List (List ℕ)) (name other : List ℕ) → is_among (names ++ other ∷ []) name ≡ (is_among names name || bytes_eq name other)
among-push [] name other = by (bytes_eq name other)
  where
    by : (b : Bool) → (b || false) ≡ (false || b)
    by true = refl
    by false = refl
among-push (n ∷ ns) name other = rw (among-push ns name other) (by (bytes_eq name n))
  where
    by : (b : Bool) → (b || (is_among ns name || bytes_eq name other)) ≡ ((b || is_among ns name) || bytes_eq name other)
    by true = refl
    by false = refl

-- a name that is there stays there
pub among-with : (names : List (List ℕ)) (name other : List ℕ) → is_among names name ≡ true → is_among (with_name names other) name ≡ true
among-with names name other there = by (is_among names other)
  where
    by : (b : Bool) → is_among (if b then names else names ++ other ∷ []) name ≡ true
    by true = there
    by false = rw (among-push names name other, there) refl

-- an added name is there
pub among-new : (names : List (List ℕ)) (name : List ℕ) → is_among (with_name names name) name ≡ true
among-new names name = by (is_among names name) refl
  where
    by : (b : Bool) → is_among names name ≡ b → is_among (if b then names else names ++ name ∷ []) name ≡ true
    by true e = e
    by false e = rw (among-push names name name, e, bytes_eq-same name) refl

kept : (names xs : List (List ℕ)) (name : List ℕ) → is_among names name ≡ true → is_among (fold with_name names xs) name ≡ true
kept names [] name there = there
kept names (x ∷ xs) name there = kept (with_name names x) xs name (among-with names name x there)

-- each name is among the distinct ones
pub all-among : (names xs : List (List ℕ)) → list_all (is_among (fold with_name names xs)) xs ≡ true
all-among names [] = refl
all-among names (x ∷ xs) = rw (kept (with_name names x) xs x (among-new names x)) (all-among (with_name names x) xs)

-- what is made of places that are there stays as it is with one more name
module _ {X Y : Type 0} (make : ℕ → X → Y) (name_of : X → List ℕ) where
  -- what is made of each item and the place of its name
  abbrev pub made : List (List ℕ) → List X → List Y
  made names xs = map (λ x. make (place_in names (name_of x)) x) xs

  made-with : (names : List (List ℕ)) (other : List ℕ) (xs : List X) → list_all (is_among names) (map name_of xs) ≡ true → made (with_name names other) xs ≡ made names xs
  made-with names other [] all = refl
  made-with names other (x ∷ xs) all = by (is_among names (name_of x)) refl all (made-with names other xs)
    where
      by : (b : Bool) → is_among names (name_of x) ≡ b → (is_among names (name_of x) && list_all (is_among names) (map name_of xs)) ≡ true
          → (list_all (is_among names) (map name_of xs) ≡ true → made (with_name names other) xs ≡ made names xs)
          → made (with_name names other) (x ∷ xs) ≡ made names (x ∷ xs)
      by true e h more = λ i. make (place-with names (name_of x) other e i) x ∷ more (rw e at h) i
      by false e h more = cc (rw e at h)

  -- and one more item goes last
  pub made-push : (xs : List X) (x : X) → made (with_name (distinct (map name_of xs)) (name_of x)) (xs ++ x ∷ [])
      ≡ made (distinct (map name_of xs)) xs ++ make (place_in (with_name (distinct (map name_of xs)) (name_of x)) (name_of x)) x ∷ []
  made-push xs x =
      let names = with_name (distinct (map name_of xs)) (name_of x) in
      map-append (λ y. make (place_in names (name_of y)) y) xs (x ∷ [])
      ∙ ap (λ ys. ys ++ make (place_in names (name_of x)) x ∷ []) (made-with (distinct (map name_of xs)) (name_of x) xs (all-among [] (map name_of xs)))

-- one more name
pub distinct-push : {X : Type 0} (name_of : X → List ℕ) (xs : List X) (x : X)
    → distinct (map name_of (xs ++ x ∷ [])) ≡ with_name (distinct (map name_of xs)) (name_of x)
distinct-push name_of xs x = rw (map-append name_of xs (x ∷ [])) (fold-append with_name [] (map name_of xs) (name_of x ∷ []))

pub length-with_name : (names : List (List ℕ)) (name : List ℕ) → length (with_name names name) ≤ length names + 1
length-with_name names name = by (is_among names name)
  where
    by : (b : Bool) → length (if b then names else names ++ name ∷ []) ≤ length names + 1
    by true = omega arith
    by false = grind (arith, length-append)

-- there are no more names than were given
pub length-distinct : (xs : List (List ℕ)) → length (distinct xs) ≤ length xs
length-distinct xs =
    let all : length (fold with_name [] xs) ≤ 0 + length xs = from [] xs in
    omega (arith, all)
  where
    from : (names xs : List (List ℕ)) → length (fold with_name names xs) ≤ length names + length xs
    from names [] = omega arith
    from names (x ∷ xs) =
        let more = from (with_name names x) xs in
        omega (arith, more, length-with_name names x)
