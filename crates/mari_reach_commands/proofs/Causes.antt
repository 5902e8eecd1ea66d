-- Why a folder is reported as it is: which statuses a day and a folder without books may have.
use Rattle.std.proofs.Common.{◌≡◌, ◌∙◌, ℕ, Bool, true, false, List, Option, refl, sym}
use Rattle.std.specs.Prelude.{◌≢◌, ◌==◌, if◌then◌else◌}
use Rattle.mari_io.specs.declared.shelf.Fetch.TheVariants as fetch
use Rattle.mari_day.specs.declared.reading.BooksFault.{BooksFault}
use Rattle.mari_day.specs.declared.reading.BooksFault.TheVariants as why
use Rattle.mari_reach_day.specs.declared.writing.ReachEnd.{ReachEnd}
use Rattle.mari_reach_day.specs.declared.writing.ReachEnd.TheVariants as end
use Rattle.mari_answers.specs.Reports.{Reports, ReportsNoBooks}
use Rattle.mari_answers.specs.Reports.Reports.{Printed, CutOff, Starved}
use Rattle.mari_answers.specs.declared.status.Status.{Status}
use Rattle.mari_answers.specs.declared.status.Status.TheVariants as status
use Rattle.mari_reach_commands.specs.Answers.{status_of}

-- neither a write fault nor out of memory
abbrev IsSaid : Status → Type 0
IsSaid s = (s ≢ status.WriteFault) × (s ≢ status.Memory)

-- a text that is reported so was to be
said : (text : List ℕ) (wanted : Status) (before after : Option (List ℕ)) (result s : Status) → IsSaid s → Reports text wanted before after result → result ≡ s → wanted ≡ s
said text wanted before after result s is (Printed e took) f = sym e ∙ f
said text wanted before after result s is (CutOff e took) f = absurd (is.0 (sym f ∙ e))
said text wanted before after result s is (Starved e took) f = absurd (is.1 (sym f ∙ e))

read-said : IsSaid status.ReadFault
read-said = (λ e. cc, λ e. cc)

missing-said : IsSaid status.Missing
missing-said = (λ e. cc, λ e. cc)

long-said : IsSaid status.TooLong
long-said = (λ e. cc, λ e. cc)

done-said : IsSaid status.Done
done-said = (λ e. cc, λ e. cc)

unpublished-said : IsSaid status.Unpublished
unpublished-said = (λ e. cc, λ e. cc)

-- the usage line is reported with no status of a page
pub no-page-of-usage : (text : List ℕ) (before after : Option (List ℕ)) (result : Status) → Reports text status.Usage before after result
    → (result ≡ status.ReadFault → ⊥) × (result ≡ status.Missing → ⊥) × (result ≡ status.TooLong → ⊥)
no-page-of-usage text before after result r = (
  λ e. let same = said text status.Usage before after result status.ReadFault read-said r e in cc,
  λ e. let same = said text status.Usage before after result status.Missing missing-said r e in cc,
  λ e. let same = said text status.Usage before after result status.TooLong long-said r e in cc,
)

module _ (before after : Option (List ℕ)) (result : Status) where
  -- a folder without books is never reported as a day that is written
  pub no-done : (fault : BooksFault) → ReportsNoBooks fault before after result → result ≡ status.Done → ⊥
  no-done (why.Fetch file fetch.Failed) r e = let same = said _ _ _ _ _ _ done-said r e in cc
  no-done (why.Fetch file fetch.Missing) r e = let same = said _ _ _ _ _ _ done-said r e in cc
  no-done (why.Fetch file fetch.TooLong) r e = let same = said _ _ _ _ _ _ done-said r e in cc
  no-done (why.Fetch file fetch.Memory) r e = done-said.1 (sym e ∙ r.0)
  no-done (why.Refused refusal) r e = let same = said _ _ _ _ _ _ done-said r e in cc
  no-done why.Memory r e = done-said.1 (sym e ∙ r.0)

  pub no-unpublished : (fault : BooksFault) → ReportsNoBooks fault before after result → result ≡ status.Unpublished → ⊥
  no-unpublished (why.Fetch file fetch.Failed) r e = let same = said _ _ _ _ _ _ unpublished-said r e in cc
  no-unpublished (why.Fetch file fetch.Missing) r e = let same = said _ _ _ _ _ _ unpublished-said r e in cc
  no-unpublished (why.Fetch file fetch.TooLong) r e = let same = said _ _ _ _ _ _ unpublished-said r e in cc
  no-unpublished (why.Fetch file fetch.Memory) r e = unpublished-said.1 (sym e ∙ r.0)
  no-unpublished (why.Refused refusal) r e = let same = said _ _ _ _ _ _ unpublished-said r e in cc
  no-unpublished why.Memory r e = unpublished-said.1 (sym e ∙ r.0)

-- the status of a day is that of a write fault only where its writing ended so, and never that of a page
-- What a whole day has: one of two.
either : (P : Status → Type 0) (b : Bool) → P status.Done → P status.Unpublished → P (if b then status.Done else status.Unpublished)
either P true d u = d
either P false d u = u

pub write-end : (ended : ReachEnd) → status_of ended ≡ status.WriteFault → ended ≡ end.WriteFault
write-end (end.Done first within) e = absurd (either (λ s. s ≡ status.WriteFault → ⊥) (within == 0) (λ f. cc) (λ f. cc) e)
write-end end.WriteFault e = refl
write-end end.Memory e = absurd cc

pub no-read : (ended : ReachEnd) → status_of ended ≡ status.ReadFault → ⊥
no-read (end.Done first within) e = either (λ s. s ≡ status.ReadFault → ⊥) (within == 0) (λ f. cc) (λ f. cc) e
no-read end.WriteFault e = cc
no-read end.Memory e = cc

pub no-missing : (ended : ReachEnd) → status_of ended ≡ status.Missing → ⊥
no-missing (end.Done first within) e = either (λ s. s ≡ status.Missing → ⊥) (within == 0) (λ f. cc) (λ f. cc) e
no-missing end.WriteFault e = cc
no-missing end.Memory e = cc

pub no-long : (ended : ReachEnd) → status_of ended ≡ status.TooLong → ⊥
no-long (end.Done first within) e = either (λ s. s ≡ status.TooLong → ⊥) (within == 0) (λ f. cc) (λ f. cc) e
no-long end.WriteFault e = cc
no-long end.Memory e = cc
