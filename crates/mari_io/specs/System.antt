-- Real files and the real standard output: why the system's errors are reported as they are, and what is counted.
use Rattle.std.specs.Prelude.{ℕ, ◌+◌, Bool, true, false, List, Result, Ok, Err}
use Rattle.std.specs.declared.io.ErrorKind.{ErrorKind}
use Rattle.mari_io.specs.Outside.{counted, counted_if, is_failed, is_missing, is_too_long, taken_count, took_none}
use Rattle.mari_io.specs.declared.shelf.Fetch.{Fetch}
use Rattle.mari_io.specs.declared.shelf.Fetch.TheVariants.{Failed, Missing, Memory}

-- why a file isn't opened, by the kind of the system's error: it isn't there, memory ran out, or else the fetch failed
abbrev pub fault_of_opening : ErrorKind → Fetch
fault_of_opening ErrorKind.NotFound = Missing
fault_of_opening ErrorKind.OutOfMemory = Memory
fault_of_opening _ = Failed

-- why an open file isn't read, by the kind of the system's error: memory ran out, or else the fetch failed
abbrev pub fault_of_reading : ErrorKind → Fetch
fault_of_reading ErrorKind.OutOfMemory = Memory
fault_of_reading _ = Failed

-- what a shelf of real files counted: its calls, those that named a page, and those that failed, found no file, or found
-- one that is too long; whether a file was opened to be given in pieces, and how many bytes of it were given
-- It counts as a shelf in memory does, whose record (`ShelfState`) has its pages and plan beside the counts.
pub record DiskCounts : Type 0 where
  pub calls : ℕ
  pub named : ℕ
  pub faults : ℕ
  pub misses : ℕ
  pub overs : ℕ
  pub is_open : Bool
  pub given : ℕ

-- a shelf of which nothing was asked yet
abbrev pub new_disk : DiskCounts
new_disk = record { calls = 0; named = 0; faults = 0; misses = 0; overs = 0; is_open = false; given = 0 }

-- the counts after a call: that of calls goes up, and that of its answer, if it has one
abbrev pub after_disk_call : {T : Type 0} → DiskCounts → Result T Fetch → DiskCounts
after_disk_call s result = record s {
  calls = counted s.calls;
  faults = counted_if (is_failed result) s.faults;
  misses = counted_if (is_missing result) s.misses;
  overs = counted_if (is_too_long result) s.overs;
}

-- a call named a page
abbrev pub page_named : DiskCounts → DiskCounts
page_named s = record s { named = counted s.named }

-- a file was opened, of which nothing was given yet, or none was
abbrev pub opened : {T : Type 0} → DiskCounts → Result T Fetch → DiskCounts
opened s (Ok done) = record s { is_open = true; given = 0 }
opened s (Err fault) = s

-- a piece was given, or none was
abbrev pub more_given : DiskCounts → Result ℕ Fetch → DiskCounts
more_given s result = record s { given = s.given + taken_count result }

-- what the standard output counted
pub record PrintCount : Type 0 where
  pub faults : ℕ

-- whether a write counts as failed: it failed, or took nothing of a piece that isn't empty
abbrev pub is_print_fault : {E : Type 0} → List ℕ → Result ℕ E → Bool
is_print_fault piece (Ok n) = took_none n piece
is_print_fault piece (Err e) = true

-- the count after a write
abbrev pub after_print : {E : Type 0} → PrintCount → List ℕ → Result ℕ E → PrintCount
after_print s piece result = record { faults = counted_if (is_print_fault piece result) s.faults }
