-- blocks.csv is refused only by the number of one of its checks, and a joint market only by one of its own.
use Rattle.std.proofs.Common.{◌≡◌, inl, inr, ℕ, Bool, true, false, List, [], ◌∷◌, ◌++◌, Option, Some, None, Result, Ok, Err, refl, sym, subst, arith, if◌then◌else◌}
use Rattle.std.specs.Prelude.{IfErr, IfSome, option_map}
use Rattle.std.specs.Option.{option_or}
use Rattle.mari_units.specs.declared.faults.Refusal.{Refusal}
use Rattle.mari_rows.specs.Books.{Checks, book_of_read, first_failing, first_refusal, line_refusal, refusal_of}
use Rattle.mari_rows.specs.Checks.{row_check_number}
use Rattle.mari_rows.specs.First.{first_fault_after, unless_fault}
use Rattle.mari_rows.specs.Rows.{rows_in}
use Rattle.mari_rows.specs.declared.checks.RowCheck.{RowCheck}
use Rattle.mari_rows.specs.declared.checks.RowCheck.TheVariants as row_check
use Rattle.mari_rows.specs.declared.faults.BookFault.{BookFault}
use Rattle.mari_rows.specs.declared.faults.BookFault.TheVariants as refused
use Rattle.mari_rows.specs.declared.faults.RowFault.{RowFault}
use Rattle.mari_rows.specs.declared.faults.RowFault.TheVariants as unread
use Rattle.mari_rows.specs.declared.rows.Row.{Row}
use Rattle.mari_remain.specs.declared.books.Books.{Books}
use Rattle.mari_blocks.specs.BlockChecks.{block_check_number}
use Rattle.mari_blocks.specs.Blocks.{block_columns, block_grammar, line_checks}
use Rattle.mari_blocks.specs.Joint.{is_too_large, joint_in, joint_of, lacks_run, links_across}
use Rattle.mari_blocks.specs.JointChecks.{file_of, refusal_by}
use Rattle.mari_blocks.specs.declared.blocks.BlockBook.{BlockBook}
use Rattle.mari_blocks.specs.declared.blocks.BlockCheck.{BlockCheck}
use Rattle.mari_blocks.specs.declared.blocks.BlockCheck.TheVariants.{BadField, Linked, Quarter, Repeated, UnknownBid}
use Rattle.mari_blocks.specs.declared.checks.JointCheck.{JointCheck}
use Rattle.mari_blocks.specs.declared.checks.JointCheck.TheVariants.{AcrossQuarters, NoScheduled, TooLarge}
use Rattle.mari_blocks.specs.declared.joint.Joint.{Joint}
use Rattle.mari_day.specs.declared.files.TheConstants.{BLOCKS}
use Rattle.mari_quarters.specs.Quarters.{IsQuartersCheck, IsQuartersFile, blocks_in}
use Rattle.mari_quarters.specs.Quarters.IsQuartersCheck.{OfBlocks, OfMarket, OfRows}

-- ---- a line of blocks.csv

-- a refusal of blocks.csv at any line by this number is by one of its checks
abbrev IsNumber : ℕ → Type 0
IsNumber number = (refusal : Refusal) → refusal.file ≡ BLOCKS → refusal.number ≡ number → IsQuartersCheck refusal

abbrev pub IsOfCheck : BookFault → Type 0
IsOfCheck (refused.At line number) = IsNumber number
IsOfCheck refused.Memory = Unit {0}

of-row : (check : RowCheck) → IsNumber (row_check_number check)
of-row check refusal file number = OfRows file check number

of-block : (check : BlockCheck) → IsNumber (block_check_number check)
of-block check refusal file number = OfBlocks file check number

-- rows that aren't read
of-unread : (fault : RowFault) → IsOfCheck (refusal_of fault)
of-unread unread.BadHeader = of-row row_check.BadHeader
of-unread (unread.BadRow line) = of-row row_check.BadRow
of-unread (unread.NotUtf8 line) = of-row row_check.NotUtf8
of-unread unread.Memory = tt

-- checks that all have such numbers
abbrev AreNumbers : Checks → Type 0
AreNumbers [] = Unit {0}
AreNumbers (check ∷ checks) = IsNumber check.1 × AreNumbers checks

failing-at : (line : ℕ) (checks : Checks) → AreNumbers checks → IfSome (option_map (λ number. refused.At line number) (first_failing checks)) IsOfCheck
failing-at line [] are = tt
failing-at line (check ∷ checks) are = by check.0 (failing-at line checks are.1)
  where
    by : (b : Bool) → IfSome (option_map (λ number. refused.At line number) (first_failing checks)) IsOfCheck
        → IfSome (option_map (λ number. refused.At line number) (if b then Some check.1 else first_failing checks)) IsOfCheck
    by true more = are.0
    by false more = more

or-either : (o p : Option BookFault) → IfSome o IsOfCheck → IfSome p IsOfCheck → IfSome (option_or o p) IsOfCheck
or-either None p here later = later
or-either (Some fault) p here later = here

unless-first : (o : Option BookFault) (blocks : BlockBook) → IfSome o IsOfCheck → IfErr (unless_fault o blocks) IsOfCheck
unless-first None blocks h = tt
unless-first (Some fault) blocks h = h

module _ (books : Books) (first last : ℕ) where
  line-states : (earlier : List Row) (row : Row) → IfSome (line_refusal (block_grammar books.bids books.links first last) earlier row) IsOfCheck
  line-states earlier row = failing-at row.line (line_checks books.bids books.links first last earlier row)
      (of-block BadField, (of-block UnknownBid, (of-block Quarter, (of-block Repeated, (of-block Linked, tt)))))

  lines-report : (earlier rows : List Row) → IfSome (first_fault_after (line_refusal (block_grammar books.bids books.links first last)) earlier rows) IsOfCheck
  lines-report earlier [] = tt
  lines-report earlier (row ∷ rows) =
      or-either (line_refusal (block_grammar books.bids books.links first last) earlier row) _ (line-states earlier row) (lines-report (earlier ++ row ∷ []) rows)

  blocks-report : (page : List ℕ) → IfErr (blocks_in books first last page) IsOfCheck
  blocks-report page = by (rows_in block_columns page)
    where
      by : (read : Result (List Row) RowFault) → IfErr (book_of_read (block_grammar books.bids books.links first last) read) IsOfCheck
      by (Err fault) = of-unread fault
      by (Ok rows) = unless-first (first_refusal (block_grammar books.bids books.links first last) rows) _ (or-either _ None (lines-report [] rows) tt)

  pub of-page : (page : List ℕ) (refusal : Refusal) → refusal.file ≡ BLOCKS → blocks_in books first last page ≡ Err (refused.At refusal.line refusal.number) → IsQuartersCheck refusal
  of-page page refusal file read = subst (λ (r : Result BlockBook BookFault). IfErr r IsOfCheck) read (blocks-report page) refusal file refl

-- ---- what can't be one market

-- a refusal by one of a joint market's checks
abbrev pub IsOfMarket : Refusal → Type 0
IsOfMarket refusal = (check : JointCheck) × (refusal ≡ refusal_by check)

either : (b : Bool) (check : JointCheck) (rest : Result Joint Refusal) → IfErr rest IsOfMarket → IfErr (if b then Err (refusal_by check) else rest) IsOfMarket
either true check rest h = (check, refl)
either false check rest h = h

joint-states : (books : Books) (blocks : BlockBook) (first last : ℕ) → IfErr (joint_in books blocks first last) IsOfMarket
joint-states books blocks first last =
    either (lacks_run books first last) NoScheduled _
    (either (links_across books first last) AcrossQuarters _
    (either (is_too_large books blocks first last) TooLarge (Ok (joint_of books blocks first last)) tt))

pub of-market : (books : Books) (blocks : BlockBook) (first last : ℕ) (refusal : Refusal) → joint_in books blocks first last ≡ Err refusal → IsOfMarket refusal
of-market books blocks first last refusal made = subst (λ (r : Result Joint Refusal). IfErr r IsOfMarket) made (joint-states books blocks first last)

file-of : (check : JointCheck) → IsQuartersFile (file_of check)
file-of NoScheduled = inl (record { from_one = omega arith; to_last = omega arith; other = λ e. absurd (omega (arith, e)) })
file-of AcrossQuarters = inl (record { from_one = omega arith; to_last = omega arith; other = λ e. absurd (omega (arith, e)) })
file-of TooLarge = inr refl

pub market-file : (refusal : Refusal) → IsOfMarket refusal → IsQuartersFile refusal.file
market-file refusal by = subst (λ (r : Refusal). IsQuartersFile r.file) (sym by.1) (file-of by.0)

pub market-check : (refusal : Refusal) → IsOfMarket refusal → IsQuartersCheck refusal
market-check refusal by = OfMarket by.0 by.1
