-- The shelf and the sink in memory, as contracts see them.
use Rattle.std.specs.Prelude.{◌==◌, ◌||◌, ℕ, zero, suc, ◌+◌, ◌-◌, ◌++◌, Bool, true, false, min, List, [], ◌∷◌, length, map, take, drop, unwrap_or, Option, Some, None, Result, Ok, Err}
use Rattle.std.specs.List.{list_any}
use Rattle.mari_io.specs.Outside.{Pages, page_of, counted, counted_if, is_failed, is_missing, is_too_long, taken_count, took_none, most_given}
use Rattle.mari_io.specs.declared.page.Page.{Page}
use Rattle.mari_io.specs.declared.plan.FaultPlan.{FaultPlan}
use Rattle.mari_io.specs.declared.shelf.Fetch.{Fetch}

-- each page by its name
abbrev pub pages_of : List Page → Pages
pages_of pages = map (λ p. (p.name, p.bytes)) pages

-- whether a plan names this call
abbrev pub is_planned : FaultPlan → ℕ → Bool
is_planned plan call = list_any (λ n. n == call) plan.calls

-- the bytes of the page at this place
abbrev pub bytes_of : List Page → ℕ → List ℕ
bytes_of [] place = []
bytes_of (page ∷ pages) zero = page.bytes
bytes_of (page ∷ pages) (suc place) = bytes_of pages place

-- what is left of the page at this place after its first `given` bytes; nothing where no page was opened
abbrev pub left_of : List Page → Option ℕ → ℕ → List ℕ
left_of pages None given = []
left_of pages (Some place) given = drop given (bytes_of pages place)

-- a shelf in memory: its pages, its plan, how many calls were made and how many of them named a page, and its counts;
-- the most bytes of a piece, whether a page was opened, what is left of it, and how many bytes of it were given
pub record ShelfState : Type 0 where
  pub pages : Pages
  pub plan : FaultPlan
  pub calls : ℕ
  pub named : ℕ
  pub faults : ℕ
  pub misses : ℕ
  pub overs : ℕ
  pub piece : ℕ
  pub is_open : Bool
  pub left : List ℕ
  pub given : ℕ

-- a shelf of which nothing was asked yet
abbrev pub new_shelf : Pages → FaultPlan → ℕ → ShelfState
new_shelf pages plan piece = record {
  pages = pages;
  plan = plan;
  calls = 0;
  named = 0;
  faults = 0;
  misses = 0;
  overs = 0;
  piece = piece;
  is_open = false;
  left = [];
  given = 0;
}

-- whether the plan names the next call
abbrev pub fetch_fails : ShelfState → Bool
fetch_fails s = is_planned s.plan (counted s.calls)

-- a call that gave this fault
abbrev pub refusal : Fetch → Result ℕ Fetch
refusal fault = Err fault

-- the shelf after a call that names no page
abbrev pub after_call : {T : Type 0} → ShelfState → Result T Fetch → ShelfState
after_call s result = record s {
  calls = counted s.calls;
  faults = counted_if (is_failed result) s.faults;
  misses = counted_if (is_missing result) s.misses;
  overs = counted_if (is_too_long result) s.overs;
}

-- the shelf after a fetch
abbrev pub after_fetch : {T : Type 0} → ShelfState → Result T Fetch → ShelfState
after_fetch s result = record (after_call s result) { named = counted s.named }

-- the shelf after a page was opened or not
abbrev pub after_open : {T : Type 0} → ShelfState → List ℕ → Result T Fetch → ShelfState
after_open s name (Ok done) = record s {
  calls = counted s.calls;
  named = counted s.named;
  is_open = true;
  left = unwrap_or (page_of s.pages name) [];
  given = 0;
}
after_open s name (Err fault) = after_fetch s (refusal fault)

-- how many bytes the next piece has: the least of what a piece may have, what is left, and what may still be given
abbrev pub piece_length : ShelfState → ℕ
piece_length s = min s.piece (min (length s.left) (most_given - s.given))

-- the shelf after a piece was given or not
abbrev pub after_piece : ShelfState → Result ℕ Fetch → ShelfState
after_piece s (Ok count) = record s { calls = counted s.calls; left = drop count s.left; given = s.given + count }
after_piece s (Err fault) = after_call s (refusal fault)

-- a sink in memory: what it took, how much it takes in a call and in all, its plan, how many writes were made, and its
-- count
pub record SinkState : Type 0 where
  pub bytes : List ℕ
  pub most : ℕ
  pub room : ℕ
  pub plan : FaultPlan
  pub calls : ℕ
  pub faults : ℕ

-- whether the plan names the next write
abbrev pub write_fails : SinkState → Bool
write_fails s = is_planned s.plan (counted s.calls)

-- how much of a piece the sink takes
abbrev pub takes : SinkState → List ℕ → ℕ
takes s piece = min (length piece) (min s.most (s.room - length s.bytes))

-- whether a write counts as failed: it is planned to fail, or takes nothing of a piece that isn't empty
abbrev pub counts_as_failed : SinkState → List ℕ → Bool
counts_as_failed s piece = write_fails s || took_none (takes s piece) piece

-- the sink after a write
abbrev pub after_write : {E : Type 0} → SinkState → List ℕ → Result ℕ E → SinkState
after_write s piece result = record s {
  bytes = s.bytes ++ take (taken_count result) piece;
  calls = counted s.calls;
  faults = counted_if (counts_as_failed s piece) s.faults;
}
