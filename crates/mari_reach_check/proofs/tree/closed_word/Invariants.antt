use Rattle.std.proofs.Common.{◌≡◌, false, replicate}
use Rattle.mari_market.specs.Prefix.{IsCleared, word_of}
use Rattle.mari_reach_check.proofs.tree.closed_word.Given as goal

-- as many gates are decided as were passed, each closed
abbrev pub invariant-loop-gate : goal.invariant-loop-gate
invariant-loop-gate l = (l.word.length ≡ l._gate-index) × (word_of l.word ≡ replicate l._gate-index false) × IsCleared l.word
