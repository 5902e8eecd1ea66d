use Rattle.std.proofs.Common.{◌≡◌, ◌+◌, ◌++◌, ◌∷◌, [], arith, length, length-append}
use Rattle.mari_remain.specs.Blocks.{PastBlock}
use Rattle.mari_day_tests.proofs.remain.publish.Goals as goal

pub after-requires-clause-stands : goal.after-requires-clause-stands
after-requires-clause-stands c =
    let past = c.requires.stands in
    (past.0, past.1, past.2, c.in_ok-made.ensures.market past.0 past.1 past.2)

pub returns : goal.returns
returns c =
    let past = c.requires.stands in
    let longer : (b : PastBlock) → c.args.run + 1 ≡ length (past.0 ++ b ∷ []) + 1 = λ b. simp length-append (omega (arith, past.2)) in
    (_, c.after.ensures past.0 past.1 past.2 (c.in_ok-made.ensures.market past.0 past.1 past.2), longer _)
