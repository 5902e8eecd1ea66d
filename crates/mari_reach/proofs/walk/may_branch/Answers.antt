use Rattle.std.proofs.Common.{◌∙◌, sym}
use Rattle.mari_reach.proofs.StateTables.{live_by, void_by}
use Rattle.mari_reach.proofs.walk.may_branch.Goals as goal

pub returns-then-not-is_void : goal.returns-then-not-is_void
returns-then-not-is_void c = (
  λ yes. record {
    live = (live_by c.args.market.now c.args.decisions.now c.args.state.now c.requires.state).0
        (sym c.is_void.ensures.by_tables ∙ c.if-not-is_void.true);
    left = c.is_left.ensures.0 yes;
  },
  λ b. c.is_left.ensures.1 b.left,
)

pub returns-else-not-is_void : goal.returns-else-not-is_void
returns-else-not-is_void c = (
  λ yes. absurd (cc (yes, c.if-not-is_void.false)),
  λ b. absurd (b.live ((void_by c.args.market.now c.args.decisions.now c.args.state.now c.requires.state).0 (sym c.is_void.ensures.by_tables ∙ c.if-not-is_void.false))),
)
