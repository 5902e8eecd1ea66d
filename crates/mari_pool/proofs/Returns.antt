-- How every taken node is put back, one after the other.
use Rattle.std.proofs.Common.{◌≡◌, ℕ, zero, suc, ◌+◌, ◌<◌, ◌≤◌, List, [], ◌∷◌, ◌++◌, length, map, drop, Option, Some, None, arith, refl, sym, ap, subst, ◌∙◌, append_assoc, append-nil}
use Rattle.std.specs.Prelude.{slice_get}
use Rattle.std.proofs.Math.ListN.{drop_of_length-le}
use Rattle.mari_core.specs.declared.node.NodeState.{NodeState}
use Rattle.mari_core.specs.declared.node.NodeState.TheVariants.{Untaken, Taken, Branched, Closed}
use Rattle.mari_core.specs.declared.journal.JournalEntry.{JournalEntry}
use Rattle.mari_core.specs.Nodes.{TreeNode, in_state, changed, state_at}
use Rattle.mari_core.specs.Growth.{Entry, grown_by, in_journal, with_state}
use Rattle.mari_core.specs.Growth.Entry.{GiveBack}
use Rattle.mari_core.proofs.Changes.{IsAt, node_at, state_of_node}
use Rattle.mari_pool.specs.Pooled.{Pooled, entered, entered_by, returning, returns_of, put_back_from}

pub entered_first : (p : Pooled) (e : Entry) (es : List Entry) → entered_by p (e ∷ es) ≡ entered_by (entered p e) es
entered_first p e es = ap (λ (j : List JournalEntry). record p { tree = grown_by p.tree (e ∷ es); journal = j }) (sym (append_assoc p.journal (in_journal e ∷ []) (map in_journal es)))

drop_changed : {X : Type 0} (f : X → X) (xs : List X) (k : ℕ) → drop (suc k) (changed f xs k) ≡ drop (suc k) xs
drop_changed f [] k = refl
drop_changed f (x ∷ xs) zero = refl
drop_changed f (x ∷ xs) (suc k) = drop_changed f xs k

drop_at : {X : Type 0} (xs : List X) (k : ℕ) (x : X) → slice_get xs k ≡ Some x → drop k xs ≡ x ∷ drop (suc k) xs
drop_at [] k x e = absurd (cc)
drop_at (y ∷ ys) zero x e = let same : y ≡ x = cc in ap (λ (z : _). z ∷ ys) same
drop_at (y ∷ ys) (suc k) x e = drop_at ys k x e

at_next : {X : Type 0} (xs : List X) (k : ℕ) (x : X) → slice_get xs k ≡ Some x → drop k xs ≡ x ∷ drop (k + 1) xs
at_next xs k x e = let next : suc k ≡ k + 1 = omega arith in drop_at xs k x e ∙ ap (λ (j : ℕ). x ∷ drop j xs) next

-- a taken node is put back
pub left_taken : (p : Pooled) (k x : ℕ) → state_at p.tree.nodes x ≡ Some (Taken k) → put_back_from (entered p (GiveBack k x)) (x + 1) ≡ put_back_from p x
left_taken p k x e =
    let at : IsAt p.tree.nodes x (Taken k) = node_at p.tree.nodes x (Taken k) e in
    let next : suc x ≡ x + 1 = omega arith in
    let rest : drop (x + 1) (with_state Untaken p.tree.nodes x) ≡ drop (x + 1) p.tree.nodes =
    subst (λ (j : ℕ). drop j (with_state Untaken p.tree.nodes x) ≡ drop j p.tree.nodes) next (drop_changed (in_state Untaken) p.tree.nodes x) in
    let here : returns_of x (drop x p.tree.nodes) ≡ GiveBack k x ∷ returns_of (x + 1) (drop (x + 1) p.tree.nodes) =
    ap (returns_of x) (at_next p.tree.nodes x at.node at.there) ∙ ap (λ (s : NodeState). returning x s ++ returns_of (x + 1) (drop (x + 1) p.tree.nodes)) at.state_is in
    ap (λ (ns : List TreeNode). entered_by (entered p (GiveBack k x)) (returns_of (x + 1) ns)) rest ∙ sym
    (entered_first p (GiveBack k x) (returns_of (x + 1) (drop (x + 1) p.tree.nodes))) ∙ ap (entered_by p) (sym here)

returns_none : (x : ℕ) (s : NodeState) → ((k : ℕ) → s ≡ Taken k → ⊥) → returning x s ≡ []
returns_none x Untaken h = refl
returns_none x (Taken k) h = absurd (h k refl)
returns_none x (Branched closed opened) h = refl
returns_none x (Closed leaf cutoff) h = refl

-- another one stays
pub left_other : (p : Pooled) (x : ℕ) → x < length p.tree.nodes → ((k : ℕ) → state_at p.tree.nodes x ≡ Some (Taken k) → ⊥) → put_back_from p (x + 1) ≡ put_back_from p x
left_other p x l h = by_node (slice_get p.tree.nodes x) refl
  where
    by_node : (o : Option TreeNode) → slice_get p.tree.nodes x ≡ o → put_back_from p (x + 1) ≡ put_back_from p x
    by_node None e = absurd (past p.tree.nodes x l e)
      where
        past : (ns : List TreeNode) (y : ℕ) → y < length ns → slice_get ns y ≡ None → ⊥
        past [] y l e = omega arith
        past (n ∷ ns) zero l e = absurd (cc)
        past (n ∷ ns) (suc y) l e = past ns y (omega arith) e
    by_node (Some n) e =
        let none : returning x n.state ≡ [] = returns_none x n.state (λ k s. h k (state_of_node p.tree.nodes x n e ∙ ap (λ (t : NodeState). Some t) s)) in
        let here : returns_of x (drop x p.tree.nodes) ≡ returns_of (x + 1) (drop (x + 1) p.tree.nodes) =
        ap (returns_of x) (at_next p.tree.nodes x n e) ∙ ap (λ (es : List Entry). es ++ returns_of (x + 1) (drop (x + 1) p.tree.nodes)) none in
        ap (entered_by p) (sym here)

-- none is left
pub left_done : (p : Pooled) (x : ℕ) → length p.tree.nodes ≤ x → put_back_from p x ≡ p
left_done p x l = ap (λ (ns : List TreeNode). entered_by p (returns_of x ns)) (drop_of_length-le p.tree.nodes l) ∙ ap (λ (j : List JournalEntry). record p { journal = j }) (append-nil p.journal)
