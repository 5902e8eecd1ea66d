-- The end of a search of several workers.
use Rattle.std.proofs.Common.{◌≡◌, ℕ, zero, suc, ◌<◌, ◌≤◌, ℤ, pos, true, List, [], ◌∷◌, length, map, inl, inr, Option, Some, None, arith, refl, sym, ap, subst, ◌∙◌}
use Rattle.mari_market.specs.declared.market.Market.{Market}
use Rattle.mari_market.specs.declared.finding.Attained.{Attained}
use Rattle.std.specs.Option.{unwrap_or}
use Rattle.mari_market.specs.declared.clearing.Clearing.{Clearing}
use Rattle.mari_market.specs.Activation.{gate_word_of, welfare_of}
use Rattle.mari_market.specs.Clearing.{ArePartsOfSearch, IsOptimalClearing}
use Rattle.mari_market.specs.Finding.{IsAttained}
use Rattle.mari_market.specs.Market.{IsValid}
use Rattle.mari_market.specs.Optimal.{IsAdmissible}
use Rattle.mari_market.specs.Relaxation.{all_closed, IsClosedWelfare}
use Rattle.mari_market.specs.Tree.{TreeHolds}
use Rattle.mari_market.proofs.Search.{optimal_by_tree}
use Rattle.mari_core.specs.declared.node.NodeState.{NodeState}
use Rattle.mari_core.specs.declared.node.NodeState.TheVariants.{Untaken, Taken, Branched, Closed}
use Rattle.mari_core.specs.Nodes.{TreeNode, state_at}
use Rattle.mari_core.specs.Growth.{NoneWaits}
use Rattle.mari_core.specs.Machine.{IsBest}
use Rattle.mari_core.specs.Preorder.{shape_of, IsFirstOpen, is_done}
use Rattle.mari_core.proofs.Walks.{number_within}
use Rattle.mari_pool.specs.Pooled.{taken_among}
use Rattle.mari_pool.proofs.Rooms.{taken_state}
use Rattle.mari_workers.specs.Refine.{MayRefine}

no_state : (nodes : List TreeNode) (x : ℕ) → x < length nodes → state_at nodes x ≡ None → ⊥
no_state [] x l e = omega arith
no_state (n ∷ ns) zero l e = absurd (cc)
no_state (n ∷ ns) (suc x) l e = no_state ns x (omega arith) e

-- where no node waits and none is taken, each is done
pub all_done : (nodes : List TreeNode) (x : ℕ) → IsFirstOpen nodes x → NoneWaits nodes → taken_among nodes ≡ 0 → ⊥
all_done nodes x first none_waits none_taken = by_state (state_at nodes x) refl
  where
    by_state : (o : Option NodeState) → state_at nodes x ≡ o → ⊥
    by_state None e = no_state nodes x (number_within nodes first.before first.rest x first.preorder) e
    by_state (Some Untaken) e = none_waits x e
    by_state (Some (Taken k)) e = omega (arith, taken_state Untaken (Taken k) nodes x e, none_taken)
    by_state (Some (Branched closed opened)) e = let done : is_done (state_at nodes x) ≡ true = ap is_done e in absurd (cc (first.waits))
    by_state (Some (Closed leaf cutoff)) e = let done : is_done (state_at nodes x) ≡ true = ap is_done e in absurd (cc (first.waits))

-- ---- what is published

-- the best of all that was offered, or the first activation where nothing was
pub best_of_all : (m : Market) (first offered : ℕ) (best : Option Attained) (a : Attained)
    → IsBest m first offered best → IsAttained m a → a.welfare ≡ first
    → IsAttained m (unwrap_or best a) × ((unwrap_or best a).welfare ≡ offered) × (first ≤ offered)
best_of_all m first offered None a h at w = (at, w ∙ sym h, omega arith)
best_of_all m first offered (Some b) a h at w = (h.0, h.1, omega (arith, h.2))

-- an admissible activation with a tree that holds at its welfare
pub clearing_by_tree : (m : Market) (budget : ℕ) (c : Clearing) (a : Attained) → IsValid m → IsAttained m a
    → c.activation ≡ a.activation → c.welfare ≡ a.welfare → TreeHolds m (pos c.welfare) c.tree
    → length c.tree ≤ budget → IsOptimalClearing m budget c
clearing_by_tree m budget c a valid at same w holds within =
    let welfare : welfare_of m c.activation ≡ pos c.welfare = ap (welfare_of m) same ∙ at.welfare ∙ ap pos (sym w) in
    record {
      optimal = optimal_by_tree m c.activation c.tree valid (subst (IsAdmissible m) (sym same) at.admissible) (subst (λ (v : ℤ). TreeHolds m v c.tree) (sym welfare) holds);
      welfare = welfare;
      tree = holds;
      within_budget = within;
    }

-- the optimal clearing may be refined: it is that of the first activation, which opens no gate, or has more than its
-- welfare
pub refinable : (m : Market) (budget first offered : ℕ) (best : Option Attained) (a : Attained) (c : Clearing)
    → IsOptimalClearing m budget c → ArePartsOfSearch m ([] ∷ []) (map shape_of c.tree)
    → IsClosedWelfare m (pos first) → gate_word_of m a.activation ≡ all_closed m → IsBest m first offered best
    → c.activation ≡ (unwrap_or best a).activation → c.welfare ≡ (unwrap_or best a).welfare → MayRefine m budget c
refinable m budget first offered None a c clearing parts closed gates h same w = record {
  clearing = clearing;
  nodes = parts;
  opens = record { closed = first; is_closed = closed; above = inl (ap (gate_word_of m) same ∙ gates) };
}
refinable m budget first offered (Some b) a c clearing parts closed gates h same w = record {
  clearing = clearing;
  nodes = parts;
  opens = record { closed = first; is_closed = closed; above = inr (omega (arith, w, h.1, h.2)) };
}
