-- The promise of each day that the program prints. Read this file first; it stands on `Reach` of `mari_reach_day`, which says
-- what a block is, on `Answer` of `mari_reached`, which says what an answer is, and on `Verdict` of `mari_reach_check`, which
-- says what the check finds.
use Rattle.std.specs.Prelude.{ℕ, pos, ◌≡◌, ◌==◌, Bool, true, false, List, Option, Some, slice_get, ⊤}
use Rattle.mari_io.specs.Outside.{Pages}
use Rattle.mari_io.specs.Taken.{then_took}
use Rattle.mari_publish.specs.declared.publication.Block.{Block}
use Rattle.mari_remain.specs.declared.books.Books.{Books}
use Rattle.mari_progress.specs.Keeps.{KeepsOffers, net_sum}
use Rattle.mari_progress.specs.Totals.{operator_totals}
use Rattle.mari_day.specs.Keeps.{BlockSumsToZero}
use Rattle.mari_day.specs.Reading.{HasBooks}
use Rattle.mari_reach_text.specs.Texts.{IsReachText, ReachPublication}
use Rattle.mari_reach_check.specs.Verdict.{IsReachValid, IsReachVerdict}
use Rattle.mari_reach_check.specs.declared.verdict.ReachVerdict.{ReachVerdict}
use Rattle.mari_reach_check.specs.declared.verdict.ReachVerdict.TheVariants.{Valid}
use Rattle.mari_reach_day.specs.Days.{IsReachDayText}
use Rattle.mari_reach_day.specs.Reach.{blocks_of}
use Rattle.mari_answers.specs.declared.status.Status.{Status}
use Rattle.mari_answers.specs.declared.status.Status.TheVariants.{Done, Unpublished}
use Rattle.mari_reach_commands.specs.Words.{Job}

-- the check accepts the text: it is that of a publication of the second form with its numbers in range. By the books the
-- publication is valid: it has their first line and a block for each run, no block has a fault, and the totals are the sums of
-- the blocks. And whoever judges it rightly finds it valid, with so many runs that have the first activation, and so many that
-- have one within a gap
pub record AcceptsText (books : Books) (text : List ℕ) (first within : ℕ) : Type 0 where
  pub publication : ReachPublication
  pub spelled : IsReachText text publication
  pub valid : IsReachValid books publication
  pub verdict : (v : ReachVerdict) → IsReachVerdict books publication v → v ≡ Valid first within

-- the text of a day of the folder: its pages are held and give books, and the text is that of their day in the second form
-- within the budget of nodes, with a block for each run, in order. Each block has an admissible activation of its run's
-- market after the blocks printed before, with its welfare, the prices of its zones, and its ledger: it is the first one, or
-- no admissible activation is better by more than the gap that is printed; and a tree shows it. Over the day no bid runs
-- above its offer, and a gated one in at most one block; the operators' nets sum to 0 in each block and in the totals, and no
-- rent is negative. The check accepts the text, with the numbers of runs that its last line states. `whole` says whether each
-- run has the first activation
pub record HasReachDay (job : Job) (pages : Pages) (whole : Bool) (text : List ℕ) : Type 0 where
  pub books : Books
  pub gives : HasBooks pages job.folder books
  pub first : ℕ
  pub within : ℕ
  pub is_text : IsReachDayText books job.nodes first within text
  pub offers : KeepsOffers books (blocks_of is_text.blocks)
  pub sums : (k : ℕ) (b : Block) → slice_get (blocks_of is_text.blocks) k ≡ Some b → BlockSumsToZero b
  pub totals : net_sum (operator_totals books (blocks_of is_text.blocks)) ≡ pos 0
  pub accepted : AcceptsText books text first within
  pub all : (within == 0) ≡ whole

-- the sink has taken the text of such a day
pub record WroteReach (job : Job) (pages : Pages) (whole : Bool) (before after : Option (List ℕ)) : Type 0 where
  pub text : List ℕ
  pub day : HasReachDay job pages whole text
  pub taken : after ≡ then_took before text

-- with these answers it has
abbrev pub KeepsPromise : Job → Pages → (before after : Option (List ℕ)) → Status → Type 0
KeepsPromise job pages before after Done = WroteReach job pages true before after
KeepsPromise job pages before after Unpublished = WroteReach job pages false before after
KeepsPromise job pages before after _ = ⊤
