use Rattle.std.proofs.Common.{Bool, List, [], ◌∷◌, ◌++◌, arith, ap, refl, sym, ◌∙◌, length, subst}
use Rattle.std.proofs.lemmas.Bool.{false≢true}
use Rattle.mari_market.specs.Prefix.{word_of, IsFeasibleWord, opens_in}
use Rattle.mari_market.proofs.Prefixes.{closed_child}
use Rattle.mari_market.proofs.Words.{Begins, begins_push}
use Rattle.mari_node.proofs.Running.{decided_length, keeps_by_word, no_more}
use Rattle.mari_node.proofs.gates.keep_rules.Goals as goal
use Rattle.mari_node.proofs.gates.keep_rules.Goals.{else-runs_here-via-then-runs_here+else-not-may_branch_up, else-runs_here-via-else-runs_here}

pub returns-then-not-may_branch_up : goal.returns-then-not-may_branch_up
returns-then-not-may_branch_up c = (
  λ t. absurd (false≢true t),
  λ keeps.
      let at = c.loop-gate.invariant.decided in
      absurd (no_more c.args.market.now c.loop-gate.word (opens_in c.args.runs.now) _ c.requires.valid c.loop-gate.invariant.begun (omega (arith, ap length c.as_slice-gate-end.ensures))
      (ap (opens_in c.args.runs.now) at ∙ sym c.has-runs_here.ensures ∙ c.if-runs_here.true) c.may_branch_up.ensures.may_open c.if-not-may_branch_up.true keeps),
)

pub loop-gate-preserved : goal.loop-gate-preserved
loop-gate-preserved c =
    let m = c.args.market.now in
    let x = c.loop-gate.word in
    let at = c.loop-gate.invariant.decided in
    let long = decided_length x in
    let feasible : IsFeasibleWord m.gates (word_of x ++ c.has-runs_here.result ∷ []) = elim c.else-runs_here.branch [
      | else-runs_here-via-then-runs_here+else-not-may_branch_up w ↦ subst (λ (b : Bool). IsFeasibleWord m.gates (word_of x ++ b ∷ [])) (sym w.if-runs_here.true)
          (w.may_branch_up.ensures.may_open.0 w.if-not-may_branch_up.false)
      | else-runs_here-via-else-runs_here w ↦ subst (λ (b : Bool). IsFeasibleWord m.gates (word_of x ++ b ∷ [])) (sym w.if-runs_here.false)
          (closed_child m.gates (word_of x) c.loop-gate.invariant.feasible.word (omega (arith, ap length c.as_slice-gate-end.ensures)))
    ] in
    record {
      decided = omega (arith, c.child_of-word.ensures.length);
      feasible = record { word = subst (IsFeasibleWord m.gates) (sym c.child_of-word.ensures.word) feasible; rest = c.child_of-word.ensures.cleared };
      begun = subst (λ (word : List Bool). Begins word (opens_in c.args.runs.now)) (sym c.child_of-word.ensures.word)
          (begins_push 0 (word_of x) (opens_in c.args.runs.now) _ c.loop-gate.invariant.begun (ap (opens_in c.args.runs.now) (omega arith) ∙ sym c.has-runs_here.ensures));
    }

pub returns : goal.returns
returns c =
    let long = decided_length c.loop-gate.word in
    let at = c.loop-gate.invariant.decided in (
      λ t. keeps_by_word c.args.market.now.gates (word_of c.loop-gate.word) (opens_in c.args.runs.now)
          (omega (arith, ap length c.as_slice-gate-end.ensures)) c.loop-gate.invariant.begun c.loop-gate.invariant.feasible.word,
      λ h. refl,
    )
