-- What a shelf gives and what a sink takes, and the counts that show why one of them failed.
use Rattle.std.specs.Prelude.{ℕ, zero, suc, ◌+◌, ◌-◌, ◌^◌, ◌≤◌, ◌<◌, ◌≡◌, ◌≢◌, ◌↔◌, Bool, true, false, ◌&&◌, nat_eq, nat_lt, min, List, [], ◌∷◌, ◌++◌, length, take, drop, Option, Some, None, Result, Ok, Err, if◌then◌else◌, IsSomeAnd, IsSome, ⊤}
use Rattle.std.specs.Str.{bytes_eq}
use Rattle.std.specs.Option.{option_map}
use Rattle.mari_units.specs.declared.limits.TheConstants.{MOST_PAGE}
use Rattle.mari_io.specs.declared.shelf.Fetch.{Fetch}
use Rattle.mari_io.specs.declared.shelf.Fetch.TheVariants.{Failed, Missing, TooLong, Memory}

-- a count of 64 bits after one event more: it stays at its last value
abbrev pub counted : ℕ → ℕ
counted n = min (n + 1) (2 ^ 64 - 1)

-- a count after `more` further events
abbrev pub counted_by : ℕ → ℕ → ℕ
counted_by zero n = n
counted_by (suc more) n = counted (counted_by more n)

-- a count after an event that may be of its kind
abbrev pub counted_if : Bool → ℕ → ℕ
counted_if happened n = if happened then counted n else n

-- a count went up, or stands at its last value
abbrev pub Rose : ℕ → ℕ → Type 0
Rose before now = counted before ≤ now

-- a count that doesn't fall, and has risen where this happened
pub record Counts (happened : Type 0) (before now : ℕ) : Type 0 where
  pub later : before ≤ now
  pub rose : happened → Rose before now

-- whether a fetch gave this answer
abbrev pub is_failed : {T : Type 0} → Result T Fetch → Bool
is_failed (Err Failed) = true
is_failed _ = false

abbrev pub is_missing : {T : Type 0} → Result T Fetch → Bool
is_missing (Err Missing) = true
is_missing _ = false

abbrev pub is_too_long : {T : Type 0} → Result T Fetch → Bool
is_too_long (Err TooLong) = true
is_too_long _ = false

-- pages, each by its name
abbrev pub Pages : Type 0
Pages = List (List ℕ × List ℕ)

-- the page of a name: the first of that name
abbrev pub page_of : Pages → List ℕ → Option (List ℕ)
page_of [] name = None
page_of (page ∷ pages) name = if bytes_eq page.0 name then Some page.1 else page_of pages name

-- what a fetch answers where the page of that name is known
abbrev pub FetchStates : {T : Type 0} → Option (List ℕ) → List ℕ → List ℕ → Result T Fetch → Type 0
FetchStates page old new (Ok done) = page ≡ Some (drop (length old) new)
FetchStates page old new (Err Missing) = page ≡ None
FetchStates page old new (Err TooLong) = IsSomeAnd page (λ bytes. MOST_PAGE < length bytes)
FetchStates page old new (Err Failed) = ⊤
FetchStates page old new (Err Memory) = ⊤

-- new is old with at most `most` bytes more
pub record AppendsAtMost (most : ℕ) (old new : List ℕ) : Type 0 where
  pub front : take (length old) new ≡ old
  pub more : length new ≤ length old + most

-- how many bytes of a piece were taken
abbrev pub taken_count : {E : Type 0} → Result ℕ E → ℕ
taken_count (Ok n) = n
taken_count (Err e) = 0

-- what opening a page answers where the page of that name is known: all of it is left. Out of memory it may be at any
-- name
abbrev pub OpenStates : {T : Type 0} → Option (List ℕ) → Option (List ℕ) → Result T Fetch → Type 0
OpenStates page rest (Ok done) = IsSome page × (rest ≡ page)
OpenStates page rest (Err Missing) = page ≡ None
OpenStates page rest (Err TooLong) = ⊥
OpenStates page rest (Err Failed) = ⊤
OpenStates page rest (Err Memory) = ⊤

-- new is old with exactly `count` bytes more
pub record AppendsExactly (count : ℕ) (old new : List ℕ) : Type 0 where
  pub front : take (length old) new ≡ old
  pub more : length new ≡ length old + count

-- the piece is the first bytes of what is left of the page, and is empty exactly at its end
pub record IsPiece (left old new : List ℕ) (count : ℕ) : Type 0 where
  pub bytes : new ≡ old ++ take count left
  pub fits : count ≤ length left
  pub at_end : (count ≡ 0) ↔ (left ≡ [])

-- what is left of the page, where that is reported, after a piece was given or not
abbrev pub rest_after : {E : Type 0} → Option (List ℕ) → Result ℕ E → Option (List ℕ)
rest_after rest result = option_map (λ left. drop (taken_count result) left) rest

-- the most bytes that are given of a page in pieces: a tebibyte
abbrev pub most_given : ℕ
most_given = 2 ^ 40

-- a page is too long to be given in pieces: `most_given` bytes were given, and where it is known what is left, some are
abbrev pub IsOverlong : Option (List ℕ) → ℕ → Type 0
IsOverlong None given = given ≡ most_given
IsOverlong (Some left) given = (given ≡ most_given) × (left ≢ [])

-- what was taken, where it is reported
abbrev pub taken_after : {E : Type 0} → Option (List ℕ) → List ℕ → Result ℕ E → Option (List ℕ)
taken_after taken piece result = option_map (λ t. t ++ take (taken_count result) piece) taken

-- whether `count` bytes, taken of a piece, are none, though the piece isn't empty
-- A test; `TookNothing` is the same as facts, in clauses.
abbrev pub took_none : ℕ → List ℕ → Bool
took_none count piece = nat_eq count 0 && nat_lt 0 (length piece)

-- nothing was taken though something was there
abbrev pub TookNothing : {E : Type 0} → List ℕ → Result ℕ E → Type 0
TookNothing piece result = (taken_count result ≡ 0) × (0 < length piece)

-- the call gave an error
abbrev pub GaveError : {T E : Type 0} → Result T E → Type 0
GaveError (Ok x) = ⊥
GaveError (Err e) = ⊤
