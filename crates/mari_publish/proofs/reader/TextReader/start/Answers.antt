use Rattle.std.proofs.Common.{[], arith}
use Rattle.mari_publish.proofs.MoreText.{stands_for_nothing}
use Rattle.mari_publish.proofs.reader.TextReader.start.Goals as goal

pub invariant_of-result : goal.invariant_of-result
invariant_of-result c = (omega arith, ([], [], stands_for_nothing c.start.result c.new.result.items c.start.ensures c.new.ensures.items), λ no. absurd cc, λ no. absurd cc)

pub returns-clause-stands : goal.returns-clause-stands
returns-clause-stands c = stands_for_nothing c.start.result c.new.result.items c.start.ensures c.new.ensures.items
