-- What the pages of quarters decide is what the answer is, unless a fetch or a write failed or there was no memory.
use Rattle.std.proofs.Common.{◌≡◌, inl, inr, ℕ, Bool, true, List, Option, Some, Result, Ok, Err, if◌then◌else◌, ap, arith, refl, subst}
use Rattle.std.specs.Prelude.{◌≤◌}
use lib.Chars.{codes}
use Rattle.mari_units.specs.declared.faults.Refusal.{Refusal}
use Rattle.mari_io.specs.Outside.{Pages}
use Rattle.mari_io.specs.declared.shelf.Fetch.TheVariants as fetch
use Rattle.mari_market.specs.SearchTree.{HasSize}
use Rattle.mari_market.proofs.SearchTrees.{larger_than_budget}
use Rattle.mari_remain.specs.declared.books.Books.{Books}
use Rattle.mari_day.specs.Files.{Gap}
use Rattle.mari_day.specs.Files.Gap.{NotHeld, OverLimit}
use Rattle.mari_day.specs.declared.reading.BooksFault.{BooksFault}
use Rattle.mari_day.specs.declared.reading.BooksFault.TheVariants as why
use Rattle.mari_blocks.specs.Joint.{joint_in}
use Rattle.mari_blocks.specs.Printed.{IsTextOf}
use Rattle.mari_blocks.specs.Printed.IsTextOf.{Published, Unpublished as Spent}
use Rattle.mari_blocks.specs.declared.blocks.BlockBook.{BlockBook}
use Rattle.mari_blocks.specs.declared.clearing.JointText.{JointText}
use Rattle.mari_blocks.specs.declared.joint.Joint.{Joint}
use Rattle.mari_quarters.specs.Quarters.{HasBlocks, HasQuartersGap, HasQuartersRefusal, QuartersReport}
use Rattle.mari_quarters.proofs.Facts.{made_accepted, made_held, one_gap, one_joint, one_refusal, refused_held}
use Rattle.mari_words.specs.Asked.{Asked}
use Rattle.mari_words.specs.Asked.Asked.{Blocks}
use Rattle.mari_commands.specs.declared.outcome.Outcome.{Outcome}
use Rattle.mari_answers.specs.declared.status.Status.{Status}
use Rattle.mari_answers.specs.declared.status.Status.TheVariants as status
use Rattle.mari_commands.specs.Joint.{Decides, IsJoinable}
use Rattle.mari_commands.specs.Outcome.{Reported, ReportsQuarters, Says}
use Rattle.mari_answers.specs.Reports.{Reports}
use Rattle.mari_answers.specs.Lines.{file_line, refused_line}
use Rattle.mari_commands.specs.Program.{IsDayStatus, IsStatus, OrFault, gap_status}
use Rattle.mari_commands.proofs.Complete.{day-end}
use Rattle.mari_commands.proofs.Reporting.{or-fault}

-- within a budget that holds its search tree the joint market is published
is-published : (books : Books) (first last budget : ℕ) (joint : Joint) (published : Bool) (text : List ℕ)
    → IsTextOf books first last budget joint published text → (size : ℕ) → HasSize joint.market size → size ≤ budget
    → published ≡ true
is-published books first last budget joint _ _ (Published b is) size sized enough = refl
is-published books first last budget joint _ _ (Spent count is) size sized enough = absurd (omega (arith, enough, larger_than_budget joint.market size budget sized is.is_spent.larger))

module _ (before after : Option (List ℕ)) (result : Status) where
  -- the line of a fetch that failed
  of-fault : (Q : Status → Type 0) (n : ℕ) → Reports (file_line (codes "readfault") n) status.ReadFault before after result → OrFault Q result
  of-fault Q n r = or-fault before after result Q (file_line (codes "readfault") n) status.ReadFault r (inr (inl refl))

  module _ (pages : Pages) (folder : List ℕ) (first last nodes : ℕ) where
    by-refusal : (refusal : Refusal) → HasQuartersRefusal pages folder first last refusal
        → (given : Result JointText BooksFault) → QuartersReport pages folder first last nodes given
        → ReportsQuarters given before after result
        → OrFault (IsStatus (status.Refused refusal)) result
    by-refusal refusal h (Ok printed) t r = absurd (made_accepted pages folder first last t.books t.blocks t.is_text.joint refusal t.has t.is_text.made h)
    by-refusal refusal h (Err (why.Fetch n fetch.Failed)) t r = of-fault (IsStatus (status.Refused refusal)) n r
    by-refusal refusal h (Err (why.Fetch n fetch.Missing)) t r = absurd (refused_held pages folder first last refusal n NotHeld h t)
    by-refusal refusal h (Err (why.Fetch n fetch.TooLong)) t r = absurd (refused_held pages folder first last refusal n OverLimit h t)
    by-refusal refusal h (Err (why.Fetch n fetch.Memory)) t r = absurd t
    by-refusal refusal h (Err (why.Refused other)) t r =
        let same : other ≡ refusal = one_refusal pages folder first last other refusal t h in
        or-fault before after result (IsStatus (status.Refused refusal)) (refused_line other) (status.Refused other) r (inl (ap (λ (x : Refusal). status.Refused x) same))
    by-refusal refusal h (Err why.Memory) t r = inr (inr (inr r.0))

    by-gap : (k : ℕ) (gap : Gap) → HasQuartersGap pages folder k gap → (given : Result JointText BooksFault)
        → QuartersReport pages folder first last nodes given → ReportsQuarters given before after result
        → OrFault (IsStatus (gap_status gap)) result
    by-gap k gap h (Ok printed) t r = absurd (made_held pages folder first last t.books t.blocks k gap t.has h)
    by-gap k gap h (Err (why.Fetch n fetch.Failed)) t r = of-fault (IsStatus (gap_status gap)) n r
    by-gap k gap h (Err (why.Fetch n fetch.Missing)) t r =
        or-fault before after result (IsStatus (gap_status gap)) (file_line (codes "missing") n) status.Missing r (inl (ap gap_status (one_gap pages folder first last n k NotHeld gap t h)))
    by-gap k gap h (Err (why.Fetch n fetch.TooLong)) t r =
        or-fault before after result (IsStatus (gap_status gap)) (file_line (codes "toolong") n) status.TooLong r (inl (ap gap_status (one_gap pages folder first last n k OverLimit gap t h)))
    by-gap k gap h (Err (why.Fetch n fetch.Memory)) t r = absurd t
    by-gap k gap h (Err (why.Refused refusal)) t r = absurd (refused_held pages folder first last refusal k gap t h)
    by-gap k gap h (Err why.Memory) t r = inr (inr (inr r.0))

    module _ (books : Books) (blocks : BlockBook) (joint : Joint) (has : HasBlocks pages folder first last books blocks) (made : joint_in books blocks first last ≡ Ok joint) where
      by-market : (Q : Status → Type 0)
          → ((printed : JointText) → QuartersReport pages folder first last nodes (Ok printed) → OrFault Q (if printed.published then status.Done else status.Unpublished))
          → (given : Result JointText BooksFault) → QuartersReport pages folder first last nodes given → ReportsQuarters given before after result → OrFault Q result
      by-market Q ends (Ok printed) t r = or-fault before after result Q printed.text (if printed.published then status.Done else status.Unpublished) r (ends printed t)
      by-market Q ends (Err (why.Fetch n fetch.Failed)) t r = of-fault Q n r
      by-market Q ends (Err (why.Fetch n fetch.Missing)) t r = absurd (made_held pages folder first last books blocks n NotHeld has t)
      by-market Q ends (Err (why.Fetch n fetch.TooLong)) t r = absurd (made_held pages folder first last books blocks n OverLimit has t)
      by-market Q ends (Err (why.Fetch n fetch.Memory)) t r = absurd t
      by-market Q ends (Err (why.Refused refusal)) t r = absurd (made_accepted pages folder first last books blocks joint refusal has made t)
      by-market Q ends (Err why.Memory) t r = inr (inr (inr r.0))

      whole : (size : ℕ) → HasSize joint.market size → size ≤ nodes → (printed : JointText)
          → QuartersReport pages folder first last nodes (Ok printed)
          → OrFault (IsStatus status.Done) (if printed.published then status.Done else status.Unpublished)
      whole size sized enough printed t =
          let one : joint ≡ t.is_text.joint = one_joint pages folder first last books t.books blocks t.blocks joint t.is_text.joint has t.has made t.is_text.made in
          let fits : HasSize t.is_text.joint.market size = subst (λ (j : Joint). HasSize j.market size) one sized in
          let out : printed.published ≡ true = is-published t.books first last nodes t.is_text.joint printed.published printed.text t.is_text.is_text size fits enough in
          inl (ap (λ (b : Bool). if b then status.Done else status.Unpublished) out)

module _ (shown : Option Pages) (late : Type 0) (before after : Option (List ℕ)) (result : Status) (asked : Option Asked) (pages : Pages) (is_shown : shown ≡ Some pages) (o : Outcome)
    (says : Says asked pages o) (reported : Reported shown late o before after result) where
  by-quarters : (Q : Status → Type 0) (folder : List ℕ) (first last nodes workers : ℕ) → asked ≡ Some (Blocks folder first last nodes workers)
      → ((given : Result JointText BooksFault) → QuartersReport pages folder first last nodes given → ReportsQuarters given before after result → OrFault Q result) → OrFault Q result
  by-quarters Q folder first last nodes workers words ends = grind arith

  pub joined-answer : IsJoinable asked pages → OrFault IsDayStatus result
  joined-answer h = by-quarters IsDayStatus h.folder h.first h.last h.nodes h.workers h.words
      (by-market before after result pages h.folder h.first h.last h.nodes h.books h.blocks h.joint h.has h.made IsDayStatus (λ printed t. day-end shown late before after result printed.published))

  pub decided-answer : (wanted : Status) → Decides asked pages wanted → OrFault (IsStatus wanted) result
  decided-answer status.Done h = let j = h.joinable in by-quarters (IsStatus status.Done) j.folder j.first j.last j.nodes j.workers j.words
      (by-market before after result pages j.folder j.first j.last j.nodes j.books j.blocks j.joint j.has j.made (IsStatus status.Done)
      (whole before after result pages j.folder j.first j.last j.nodes j.books j.blocks j.joint j.has j.made h.size h.sized h.enough))
  decided-answer (status.Refused refusal) h =
      by-quarters (IsStatus (status.Refused refusal)) h.folder h.first h.last h.nodes h.workers h.words
      (by-refusal before after result pages h.folder h.first h.last h.nodes refusal h.is)
  decided-answer status.Missing h =
      by-quarters (IsStatus status.Missing) h.folder h.first h.last h.nodes h.workers h.words
      (by-gap before after result pages h.folder h.first h.last h.nodes h.is.0 NotHeld h.is.1)
  decided-answer status.TooLong h =
      by-quarters (IsStatus status.TooLong) h.folder h.first h.last h.nodes h.workers h.words
      (by-gap before after result pages h.folder h.first h.last h.nodes h.is.0 OverLimit h.is.1)
  decided-answer _ h = absurd h
