use Rattle.std.proofs.Common.{◌≡◌, take}
use Rattle.mari_check.specs.Checked.{IsChecked}
use Rattle.mari_check.proofs.day.DayCheck.all_blocks.Given as goal

-- what is kept stands for the blocks so far
abbrev pub invariant-loop-block : goal.invariant-loop-block
invariant-loop-block l = record {
  stands : IsChecked l.books (take l.block-index l.blocks) l.self;
  budget : l.self.budget ≡ l.fn.self.budget;
}
