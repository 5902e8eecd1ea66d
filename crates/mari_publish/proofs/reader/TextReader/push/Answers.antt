use Rattle.std.proofs.Common.{◌++◌}
use Rattle.mari_publish.proofs.reader.TextReader.push.Goals as goal

pub invariant_of-self-2 : goal.invariant_of-self-2
invariant_of-self-2 c =
    let h = c.self.invariant.1 in
    (c.append.ensures.handled, (h.0 ++ c.args.piece.now, h.1, c.in_ok-append.ensures.appended h.0 h.1 h.2), λ no. absurd cc, λ no. absurd cc)
