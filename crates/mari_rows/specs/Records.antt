-- The records of a page.
use Rattle.std.specs.Prelude.{◌≡◌, ◌+◌, ◌∷◌, ℕ, Bool, true, false, List, [], Option, Some, None, IsSome, length}
use Rattle.std.specs.Borrow.{Bor}
use Rattle.csv.specs.Machine.{ends_at_end}
use Rattle.csv.specs.Reading.{Ready, default_config, is_flexible, reader_config, reader_state, reader_trim, records, records_from, source_of, strip_bom}
use Rattle.csv.specs.declared.parser.State.{State}
use Rattle.csv.specs.declared.reader.Reader.{Reader}
use Rattle.csv.specs.declared.reader.Trim.TheVariants as trim

-- the records of a page as csv reads it, with no byte order mark at its head
abbrev pub records_in : List ℕ → List (List (List ℕ))
records_in page = records default_config (strip_bom page)

-- the bytes that a reader of a page has left
abbrev pub bytes_left : Reader (Bor (List ℕ)) → Option (List ℕ)
bytes_left reader = source_of (λ page. Some page.now) reader

-- the records of these bytes, after others
abbrev pub records_after : State → Option (List ℕ) → List (List (List ℕ))
records_after state None = []
records_after state (Some bytes) = records_from default_config (length bytes + 1) state bytes

-- the records that a reader of a page has left
abbrev pub records_left : Reader (Bor (List ℕ)) → List (List (List ℕ))
records_left reader = records_after (reader_state reader) (bytes_left reader)

-- a reader that takes records of any number of fields as they stand, and is between two records
pub record IsBetweenRecords (reader : Reader (Bor (List ℕ))) : Type 0 where
  pub config : reader_config reader ≡ default_config
  pub trim : reader_trim reader ≡ trim.None
  pub flexible : is_flexible reader ≡ true
  pub ready : Ready reader
  pub known : IsSome (bytes_left reader)
  pub between : ends_at_end (reader_state reader) ≡ false

-- the read of a record: whether there is one, and its fields
abbrev pub ReadsRecord : Reader (Bor (List ℕ)) → Reader (Bor (List ℕ)) → List (List ℕ) → Bool → Type 0
ReadsRecord old new fields true = (records_left old ≡ fields ∷ records_left new) × IsBetweenRecords new
ReadsRecord old new fields false = records_left old ≡ []
