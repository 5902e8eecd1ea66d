use Rattle.std.proofs.Common.{◌≡◌, ◌++◌, ◌∷◌, [], ℕ, List, map, take, ap, sym, subst, ◌∙◌}
use Rattle.std.proofs.lemmas.List.{map_more, take_all}
use Rattle.std.proofs.lemmas.Result.{IfOk-from_err}
use Rattle.mari_pool.specs.Queued.{key_of}
use Rattle.mari_pool.proofs.queue.Queue.keys_of.Goals as goal

pub returns-in_err-push : goal.returns-in_err-push
returns-in_err-push c = IfOk-from_err c.from_residual-in_err-push.result _ c.from_residual-in_err-push.ensures.0

pub loop-node-preserved : goal.loop-node-preserved
loop-node-preserved c =
    let keys = c.args.self.now.keys in
    let nodes = c.args.nodes.now in
    let i = c.loop-node.node-index in
    c.in_ok-push.ensures.items
    ∙ ap (λ (ks : List ℕ). ks ++ c.key.result ∷ []) c.loop-node.invariant
    ∙ ap (λ (k : ℕ). map (key_of keys) (take i nodes) ++ k ∷ []) c.key.ensures
    ∙ sym (map_more (key_of keys) nodes i 0 c.loop-node-test.true)

pub returns : goal.returns
returns c =
    subst (λ (nodes : List ℕ). c.loop-node.keys.items ≡ map (key_of c.args.self.now.keys) nodes) (take_all c.loop-node.node-index c.args.nodes.now c.loop-node-test.false)
    c.loop-node.invariant
