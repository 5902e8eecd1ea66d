-- Days whose runs are cleared island by island: what the words ask for, and what is promised of each day that is printed.
-- What such a day is stands in `Split` of `mari_split`, and its text in `Lines` there.
use Rattle.std.specs.Prelude.{ℕ, ◌≡◌, ◌==◌, Bool, List, Option, Some, slice_get}
use Rattle.mari_io.specs.Outside.{Pages}
use Rattle.mari_io.specs.Taken.{then_took}
use Rattle.mari_day.specs.Day.{EndsDay}
use Rattle.mari_day.specs.Keeps.{BlockSumsToZero}
use Rattle.mari_day.specs.Reading.{HasBooks}
use Rattle.mari_day.specs.declared.day.DayEnd.{DayEnd}
use Rattle.mari_progress.specs.Keeps.{KeepsOffers}
use Rattle.mari_publish.specs.declared.publication.Block.{Block}
use Rattle.mari_remain.specs.declared.books.Books.{Books}
use Rattle.mari_split.specs.Days.{EndsSplit, IsSplitDayText}
use Rattle.mari_split.specs.Split.{HoldsIslands, blocks_of}
use Rattle.mari_words.specs.Asked.{Asked}
use Rattle.mari_words.specs.Asked.Asked.{Clear, Split}
use Rattle.mari_commands.specs.declared.outcome.Way.{Way}
use Rattle.mari_commands.specs.declared.outcome.Way.TheVariants.{Whole, Islands}

-- the command that clears the runs of a folder in this way
abbrev pub command_by : Way → (folder : List ℕ) → (nodes workers : ℕ) → Asked
command_by Whole folder nodes workers = Clear folder nodes workers
command_by Islands folder nodes workers = Split folder nodes workers

-- what a sink has taken of a day whose runs are cleared in this way, by how it ended
abbrev pub EndsBy : Way → Books → (budget : ℕ) → (before after : Option (List ℕ)) → DayEnd → Type 0
EndsBy Whole books budget before after ended = EndsDay books budget before after ended
EndsBy Islands books budget before after ended = EndsSplit books budget before after ended

-- the words ask to clear the runs of a folder island by island
abbrev pub AsksToSplit : Option Asked → Type 0
AsksToSplit asked = (folder : List ℕ) × (nodes : ℕ) × (workers : ℕ) × (asked ≡ Some (Split folder nodes workers))

-- the books of that folder, and its budget of nodes
pub record AreSplit (asked : Option Asked) (pages : Pages) (books : Books) (nodes : ℕ) : Type 0 where
  pub folder : List ℕ
  pub workers : ℕ
  pub split : asked ≡ Some (Split folder nodes workers)
  pub gives : HasBooks pages folder books

-- its pages give books, whose runs may be cleared island by island within this budget of nodes
pub record IsSplittable (asked : Option Asked) (pages : Pages) : Type 0 where
  pub books : Books
  pub nodes : ℕ
  pub split : AreSplit asked pages books nodes

-- the text of a day of that folder within the budget of nodes, with a block for each run, in order. Each published run
-- has the first activation of its market after the blocks that are printed before, with its welfare, the prices of its
-- zones, its rents, and for each island its welfare and a certificate tree that holds at it; a run that isn't published
-- has an island whose search tree is larger than the budget. Over the day no bid runs above its offer, and a gated one in
-- at most one block; no rent is negative. All of its runs are published, or not
pub record HasSplitDay (asked : Option Asked) (pages : Pages) (whole : Bool) (text : List ℕ) : Type 0 where
  pub books : Books
  pub nodes : ℕ
  pub split : AreSplit asked pages books nodes
  pub published : ℕ
  pub unpublished : ℕ
  pub is_text : IsSplitDayText books nodes published unpublished text
  pub offers : KeepsOffers books (blocks_of is_text.blocks)
  pub sums : (k : ℕ) (b : Block) → slice_get (blocks_of is_text.blocks) k ≡ Some b → BlockSumsToZero b
  pub all : (unpublished == 0) ≡ whole

-- the sink has taken the text of such a day
pub record WroteSplit (asked : Option Asked) (pages : Pages) (whole : Bool) (before after : Option (List ℕ)) : Type 0 where
  pub text : List ℕ
  pub day : HasSplitDay asked pages whole text
  pub taken : after ≡ then_took before text

-- the budget holds the search tree of each island of each run's market, whatever blocks are printed before it
pub record HasIslandBudget (asked : Option Asked) (pages : Pages) : Type 0 where
  pub splittable : IsSplittable asked pages
  pub enough : HoldsIslands splittable.books splittable.nodes
