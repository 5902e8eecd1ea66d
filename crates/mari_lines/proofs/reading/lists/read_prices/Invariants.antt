use Rattle.std.proofs.Common.{length}
use Rattle.mari_market.specs.Price.{IsCapped}
use Rattle.mari_lines.specs.Spelling.{price_text}
use Rattle.mari_lines.proofs.Gathered.{Begun}
use Rattle.mari_lines.proofs.reading.lists.read_prices.Given as goal

-- those so far were gathered from the words so far
abbrev pub invariant-loop-price : goal.invariant-loop-price
invariant-loop-price l = Begun IsCapped price_text 64 l.prices.items l.left l.fn.words

abbrev pub decreases-loop-price : goal.decreases-loop-price
decreases-loop-price l = length l.left
