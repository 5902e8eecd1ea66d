use Rattle.std.proofs.Common.{◌<◌, ℕ, length, arith}
use Rattle.std.specs.List.{All, range_with_len}
use Rattle.std.proofs.lemmas.List.FromFn.{get_or-range_with_len, length-range_with_len}
use Rattle.mari_day.proofs.day.total_lines.Goals as goal

below : (n : ℕ) → All (λ place. place < n) (range_with_len 0 n)
below n = λ k d l. let there : k < n = omega (arith, length-range_with_len 0 n) in omega (arith, get_or-range_with_len 0 n k d there)

pub amount_lines-requires-clause-there : goal.amount_lines-requires-clause-there
amount_lines-requires-clause-there c = rw (c.deref.ensures.value, c.in_ok-places.ensures, c.len.ensures.len) (below (length c.args.bids.now.providers))
