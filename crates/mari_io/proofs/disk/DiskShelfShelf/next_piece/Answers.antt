use Rattle.std.proofs.Common.{ap, arith}
use Rattle.mari_io.specs.System.{DiskCounts}
use Rattle.mari_io.proofs.disk.DiskShelfShelf.next_piece.Goals as goal

pub returns-clause-limit : goal.returns-clause-limit
returns-clause-limit g c = let e = ap (λ (s : DiskCounts). s.given) c.count.ensures.counts in omega (arith, e, c.read_on-answer.ensures.limit)
