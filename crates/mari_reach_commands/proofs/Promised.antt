-- The promise of a day, by how its writing ended.
use Rattle.std.proofs.Common.{◌≡◌, ℕ, Bool, true, false, List, Option, Some, refl, subst, sym}
use Rattle.std.specs.Prelude.{◌==◌, pos, if◌then◌else◌, slice_get}
use Rattle.mari_io.specs.Outside.{Pages}
use Rattle.mari_publish.specs.declared.publication.Block.{Block}
use Rattle.mari_remain.specs.declared.books.Books.{Books}
use Rattle.mari_progress.specs.Keeps.{KeepsOffers, net_sum}
use Rattle.mari_progress.specs.Totals.{operator_totals}
use Rattle.mari_day.specs.Keeps.{BlockSumsToZero}
use Rattle.mari_day.specs.Reading.{HasBooks}
use Rattle.mari_day.specs.declared.reading.BooksFault.{BooksFault}
use Rattle.mari_reach_day.specs.Days.{EndsReach, IsReachDayText, WroteReachDay}
use Rattle.mari_reach_day.specs.Reach.{IsReachPart, blocks_of}
use Rattle.mari_reach_day.specs.declared.block.ReachBlock.{ReachBlock}
use Rattle.mari_reach_day.specs.declared.writing.ReachEnd.{ReachEnd}
use Rattle.mari_reach_day.specs.declared.writing.ReachEnd.TheVariants as end
use Rattle.mari_answers.specs.Reports.{ReportsNoBooks}
use Rattle.mari_answers.specs.declared.status.Status.{Status}
use Rattle.mari_answers.specs.declared.status.Status.TheVariants as status
use Rattle.mari_reach_commands.specs.Answers.{status_of}
use Rattle.mari_reach_commands.specs.Promise.{AcceptsText, KeepsPromise, WroteReach}
use Rattle.mari_reach_commands.specs.Words.{Job}
use Rattle.mari_reach_commands.proofs.Causes.{no-done, no-unpublished}

-- another answer than that of a day promises nothing
others : (job : Job) (pages : Pages) (before after : Option (List ℕ)) (s : Status) → (s ≡ status.Done → ⊥) → (s ≡ status.Unpublished → ⊥) → KeepsPromise job pages before after s
others job pages before after status.Done d u = absurd (d refl)
others job pages before after status.Unpublished d u = absurd (u refl)
others job pages before after status.Usage d u = tt
others job pages before after (status.Refused refusal) d u = tt
others job pages before after status.ReadFault d u = tt
others job pages before after status.WriteFault d u = tt
others job pages before after status.Memory d u = tt
others job pages before after (status.Invalid run fault) d u = tt
others job pages before after status.Missing d u = tt
others job pages before after status.TooLong d u = tt

pub of-no-books : (job : Job) (pages : Pages) (before after : Option (List ℕ)) (result : Status) (fault : BooksFault) → ReportsNoBooks fault before after result
    → KeepsPromise job pages before after result
of-no-books job pages before after result fault reports = others job pages before after result (no-done before after result fault reports) (no-unpublished before after result fault reports)

module _ (job : Job) (pages : Pages) (books : Books) (gives : HasBooks pages job.folder books) (before after : Option (List ℕ))
    (offers : (budget : ℕ) (blocks : List ReachBlock) → IsReachPart books budget blocks → KeepsOffers books (blocks_of blocks))
    (sums : (budget : ℕ) (blocks : List ReachBlock) → IsReachPart books budget blocks → (k : ℕ) (b : Block) → slice_get (blocks_of blocks) k ≡ Some b → BlockSumsToZero b)
    (totals : (budget : ℕ) (blocks : List ReachBlock) → IsReachPart books budget blocks → net_sum (operator_totals books (blocks_of blocks)) ≡ pos 0)
    (accepted : (first within : ℕ) (text : List ℕ) → IsReachDayText books job.nodes first within text → AcceptsText books text first within) where
  wrote : (first within : ℕ) (whole : Bool) → (within == 0) ≡ whole → WroteReachDay books job.nodes first within before after → WroteReach job pages whole before after
  wrote first within whole all day = record {
    text = day.text;
    day = record {
      books = books;
      gives = gives;
      first = first;
      within = within;
      is_text = day.is_text;
      offers = offers job.nodes day.is_text.blocks day.is_text.day.part;
      sums = sums job.nodes day.is_text.blocks day.is_text.day.part;
      totals = totals job.nodes day.is_text.blocks day.is_text.day.part;
      accepted = accepted first within day.text day.is_text;
      all = all;
    };
    taken = day.taken;
  }

  whole-or-not : (first within : ℕ) → WroteReachDay books job.nodes first within before after → (b : Bool) → (within == 0) ≡ b
      → KeepsPromise job pages before after (if b then status.Done else status.Unpublished)
  whole-or-not first within day true e = wrote first within true e day
  whole-or-not first within day false e = wrote first within false e day

  of-end : (ended : ReachEnd) → EndsReach books job.nodes before after ended → KeepsPromise job pages before after (status_of ended)
  of-end (end.Done first within) day = whole-or-not first within day (within == 0) refl
  of-end end.WriteFault day = tt
  of-end end.Memory day = tt

  pub of-day : (ended : ReachEnd) (result : Status) → EndsReach books job.nodes before after ended → result ≡ status_of ended → KeepsPromise job pages before after result
  of-day ended result day e = subst (KeepsPromise job pages before after) (sym e) (of-end ended day)
