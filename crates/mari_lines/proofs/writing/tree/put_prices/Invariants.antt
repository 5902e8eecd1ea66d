use Rattle.std.proofs.Common.{◌≡◌, ◌++◌, drop, map}
use Rattle.mari_lines.specs.Spelling.{spaced, price_text}
use Rattle.mari_lines.proofs.writing.tree.put_prices.Given as goal

-- with the texts of those still to come it is the whole
abbrev pub invariant-loop-price : goal.invariant-loop-price
invariant-loop-price l = l.out.items ++ spaced (map price_text (drop l.price-index l.prices)) ≡ l.fn.out.items ++ spaced (map price_text l.prices)
