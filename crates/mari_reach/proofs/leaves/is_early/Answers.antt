use Rattle.std.proofs.Common.{◌∙◌, ◌||◌, ◌<◌, ℤ, pos, ap, sym, refl, arith}
use lib.Signed.{lt_z}
use Rattle.mari_market.specs.Prefix.{opens_in, word_of}
use Rattle.mari_reach.specs.Values.{needed_in}
use Rattle.mari_reach.proofs.LeafTables.{differs_at, length_of_prefix, none_differs, prefix_at, table_at}
use Rattle.mari_reach.proofs.leaves.is_early.Goals as goal

pub returns-then-needed-opens : goal.returns-then-needed-opens
returns-then-needed-opens c =
    let m = c.args.market.now in
    let x = c.args.word.now in
    let r = c.args.state.now in
    let ps = c.args.potentials.now.cents in
    let here : c.loop-gate.gate < x.length = c.loop-gate-test.true in
    differs_at (needed_in m r ps) (word_of x) c.loop-gate.gate c.is_needed-needed.result c.opens.result _
    (λ g l. table_at m r ps g (omega (arith, c.requires.full)) ∙ c.loop-gate.invariant g l ∙ sym (prefix_at x x.length g refl (omega arith)))
    (table_at m r ps c.loop-gate.gate (omega (arith, c.requires.full))
    ∙ sym (c.is_needed-needed.ensures ∙ ap (λ (x : ℤ). opens_in r.opened c.loop-gate.gate || lt_z (pos 0) x) (c.of-gains.ensures c.loop-gate.gate)))
    (prefix_at x x.length c.loop-gate.gate refl here ∙ sym c.opens.ensures) c.if-needed-opens.true refl

pub returns : goal.returns
returns c =
    let m = c.args.market.now in
    let x = c.args.word.now in
    let r = c.args.state.now in
    let ps = c.args.potentials.now.cents in
    none_differs (needed_in m r ps) (word_of x) x.length (length_of_prefix x x.length refl)
    (λ g l. table_at m r ps g (omega (arith, c.requires.full)) ∙ c.loop-gate.invariant g (omega arith) ∙ sym (prefix_at x x.length g refl l))
