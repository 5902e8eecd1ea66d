use Rattle.std.proofs.Common.{◌+◌, ◌∷◌, [], length, length-append, arith, ap, ◌∙◌}
use Rattle.mari_core.specs.declared.node.NodeState.TheVariants.{Untaken}
use Rattle.mari_core.specs.Growth.{in_journal}
use Rattle.mari_core.specs.Growth.Entry.{GiveBack}
use Rattle.mari_core.proofs.Changes.{length-with_state}
use Rattle.mari_pool.specs.Pooled.{Pooled, put_back_from}
use Rattle.mari_pool.proofs.Rooms.{taken_after}
use Rattle.mari_pool.proofs.Keeps.{back_owed}
use Rattle.mari_pool.proofs.Returns.{left_taken, left_other}
use Rattle.mari_pool.proofs.pool.Pool.put_back_at.Goals as goal

pub put_back-requires-clause-room : goal.put_back-requires-clause-room
put_back-requires-clause-room g c =
    omega (arith, c.requires.room, taken_after c.args.self.now.tree (GiveBack c.in-Some.worker c.args.node) c.in-Some.ensures.taker)

pub returns-in-Some-clause-left : goal.returns-in-Some-clause-left
returns-in-Some-clause-left g c =
    ap (λ (q : Pooled). put_back_from q (c.args.node + 1)) c.put_back.ensures ∙ left_taken c.args.self.now c.in-Some.worker c.args.node c.in-Some.ensures.taker

pub returns-in-Some-clause-many : goal.returns-in-Some-clause-many
returns-in-Some-clause-many g c =
    ap (λ (q : Pooled). length q.tree.nodes) c.put_back.ensures ∙ length-with_state Untaken c.args.self.now.tree.nodes c.args.node

pub returns-in-Some-clause-room : goal.returns-in-Some-clause-room
returns-in-Some-clause-room g c =
    let p = c.args.self.now in
    let e = GiveBack c.in-Some.worker c.args.node in
    rw c.put_back.ensures
    (omega (
      arith,
      c.requires.room,
      taken_after p.tree e c.in-Some.ensures.taker,
      back_owed p.tree c.in-Some.worker c.args.node p.returned c.taker.ensures.facts c.in-Some.ensures.taker,
      length-append p.journal (in_journal e ∷ []),
    ))

pub returns-in_default-clause-left : goal.returns-in_default-clause-left
returns-in_default-clause-left g c = left_other c.args.self.now c.args.node c.requires.there c.in_default.ensures.taker
