-- What each event of the search machine keeps.
use Rattle.std.proofs.Common.{◌≡◌, Bool, true, false, ℕ, zero, suc, ◌<◌, ◌≤◌, ◌==◌, ℤ, pos, max, if◌then◌else◌, nat_lt, List, [], ◌∷◌, length, map, get_or, replicate, Option, Some, Result, Ok, Err, arith, refl, sym, ap, subst, ◌∙◌}
use Rattle.std.specs.Prelude.{slice_get, IfOk, IfErr, IfSome, MatchOption}
use Rattle.std.specs.List.{All}
use Rattle.std.proofs.lemmas.Int.{ints}
use Rattle.std.proofs.lemmas.Bool.Decides.{nat_tests}
use Rattle.std.proofs.lemmas.List.Elements.{All-append, All-cons, All-nil, All-head, All-tail}
use Rattle.std.proofs.lemmas.Option.{slice_get-get_or, slice_get_read}
use Rattle.mari_units.specs.Lists.{greatest_by}
use Rattle.mari_market.specs.declared.market.Market.{Market}
use Rattle.mari_market.specs.declared.certificate.Leaf.{Leaf}
use Rattle.mari_market.specs.declared.finding.Attained.{Attained}
use Rattle.mari_market.specs.declared.finding.Finding.{Finding}
use Rattle.mari_market.specs.Finding.{IsAttained}
use Rattle.mari_market.specs.Market.{IsValid}
use Rattle.mari_market.specs.Relaxation.{IsClosedWelfare}
use Rattle.mari_core.specs.declared.search.Actor.{Actor}
use Rattle.mari_core.specs.declared.event.StepFault.{StepFault}
use Rattle.mari_core.specs.declared.event.StepFault.TheVariants.{Memory}
use Rattle.mari_core.specs.declared.node.NodeState.{NodeState}
use Rattle.mari_core.specs.Nodes.{TreeNode, new_node, in_state, changed, branch_of}
use Rattle.mari_core.specs.Growth.{Grown, Entry, MaySettle, grown, settling, settling_by, closing_leaf, children_at, IsGrowth, AreCutAt, IsCutAt, IsEntryCutAt, IsCutoff, IsRefusal}
use Rattle.mari_core.specs.Growth.Entry.{Branch, Full}
use Rattle.mari_core.specs.Machine.{Machine, started, new_actor, seeing, offering, by_actor, seen_by, after, IsProper, KeepsFacts, IsActor, IsBest, best_or, best_of}
use Rattle.mari_market.specs.declared.clearing.Clearing.{Clearing}
use Rattle.mari_market.specs.Activation.{welfare_of}
use Rattle.mari_market.specs.Clearing.{IsBudget, IsOptimalClearing}
use Rattle.mari_market.specs.Optimal.{IsAdmissible}
use Rattle.mari_market.specs.Tree.{TreeHolds}
use Rattle.mari_market.proofs.Search.{optimal_by_tree}
use Rattle.mari_core.specs.declared.event.Event.TheVariants.{Settle}
use Rattle.mari_core.proofs.Lists.{length-changed, all_changed, all_get}
use Rattle.mari_core.proofs.Seeds.{seed_grows}
use Rattle.std.proofs.lemmas.Bool.{eqb-true}
use Rattle.std.proofs.lemmas.List.{length-replicate}

-- ---- the actors

-- the actor of a number
pub record IsSomeActor (actors : List Actor) (k : ℕ) : Type 0 where
  pub actor : Actor
  pub there : slice_get actors k ≡ Some actor

-- what a change leaves of the offers, it leaves of the greatest
greatest_same : (f : Actor → Actor) → ((a : Actor) → (f a).offered ≡ a.offered)
    → (w : ℕ) (actors : List Actor) (k : ℕ)
    → greatest_by (λ (x : Actor). x.offered) w (changed f actors k) ≡ greatest_by (λ (x : Actor). x.offered) w actors
greatest_same f h w (a ∷ others) (suc k) = ap (λ (g : ℕ). max a.offered g) (greatest_same f h w others k)
greatest_same f h w _ _ = omega arith

pub greatest_above : (w : ℕ) (actors : List Actor) → w ≤ greatest_by (λ (x : Actor). x.offered) w actors
greatest_above w [] = omega arith
greatest_above w (a ∷ others) = omega (arith, greatest_above w others)

abbrev chosen : Bool → ℕ → Attained → Actor → Actor
chosen b incumbent attained a = if b then record { seen = incumbent; offered = attained.welfare; best = Some attained } else record { seen = incumbent; offered = a.offered; best = a.best }

greatest_offered : (incumbent : ℕ) (attained : Attained) (w : ℕ) (actors : List Actor) (k : ℕ) → k < length actors
    → greatest_by (λ (x : Actor). x.offered) w (changed (offering incumbent attained) actors k) ≡ max (greatest_by (λ (x : Actor). x.offered) w actors) attained.welfare
greatest_offered incumbent attained w (a ∷ others) (suc k) l = omega (arith, greatest_offered incumbent attained w others k (omega arith))
greatest_offered incumbent attained w _ _ l = grind arith

-- an actor looks
pub look_kept : (s : Machine) (k : ℕ) (actors : List Actor) → KeepsFacts s → actors ≡ changed (seeing s.incumbent) s.actors k → KeepsFacts (record s { actors = actors })
look_kept s k actors h e = subst (λ (others : List Actor). KeepsFacts (record s { actors = others })) (sym e) (record {
  tree = h.tree;
  cutoffs = h.cutoffs;
  attained = h.attained;
  closed = h.closed;
  incumbent_is = h.incumbent_is ∙ sym (greatest_same (seeing s.incumbent) (λ a. refl) s.first.welfare s.actors k);
  some_actor = omega (arith, length-changed (seeing s.incumbent) s.actors k, h.some_actor);
  actors_are = all_changed (IsActor s.tree.market s.first.welfare s.incumbent) (IsActor s.tree.market s.first.welfare s.incumbent) (seeing s.incumbent) s.actors k h.actors_are
      (λ j a n there i. i)
      (λ a there i. record { above = omega (arith, i.above, i.below); below = omega arith; best = i.best });
})

-- cutoffs of at most a number are at most every greater one
cut_rises : (w v : ℕ) → w ≤ v → (s : NodeState) → IsCutAt w s → IsCutAt v s
cut_rises w v l s c = grind arith

pub cuts_rise : (w v : ℕ) → w ≤ v → (nodes : List TreeNode) → AreCutAt w nodes → AreCutAt v nodes
cuts_rise w v l nodes a = λ i d h. cut_rises w v l (get_or nodes i d).state (a i d h)

best_above : (m : Market) (w offered : ℕ) (best : Option Attained) → IsBest m w offered best → w ≤ offered
best_above m w offered best h = grind arith

-- what an actor has after an offer
offered_actor : (m : Market) (w incumbent incumbent' : ℕ) (attained : Attained) (a : Actor) → w ≤ incumbent'
    → IsAttained m attained → IsActor m w incumbent a → IsActor m w incumbent' (offering incumbent' attained a)
offered_actor m w incumbent incumbent' attained a l at i = by_test (nat_lt a.offered attained.welfare) refl
  where
    by_test : (b : Bool) → nat_lt a.offered attained.welfare ≡ b → IsActor m w incumbent' (chosen b incumbent' attained a)
    by_test true e = record { above = l; below = omega arith; best = (at, refl, more) }
      where
        more : w < attained.welfare
        more = let less : a.offered < attained.welfare = grind (arith, nat_tests) in omega (arith, less, best_above m w a.offered a.best i.best)
    by_test false e = record { above = l; below = omega arith; best = i.best }

-- an actor offers
pub offer_kept : (s : Machine) (k incumbent : ℕ) (attained : Attained) (actors : List Actor) → KeepsFacts s
    → IsAttained s.tree.market attained → k < length s.actors → incumbent ≡ max s.incumbent attained.welfare
    → actors ≡ changed (offering incumbent attained) s.actors k
    → KeepsFacts (record s { incumbent = incumbent; actors = actors })
offer_kept s k incumbent attained actors h at l w e = subst (λ (others : List Actor). KeepsFacts (record s { incumbent = incumbent; actors = others })) (sym e) (record {
  tree = h.tree;
  cutoffs = cuts_rise s.incumbent incumbent (omega (arith, w)) s.tree.nodes h.cutoffs;
  attained = h.attained;
  closed = h.closed;
  incumbent_is = omega (arith, w, h.incumbent_is, greatest_offered incumbent attained s.first.welfare s.actors k l);
  some_actor = omega (arith, length-changed (offering incumbent attained) s.actors k, h.some_actor);
  actors_are = all_changed (IsActor s.tree.market s.first.welfare s.incumbent) (IsActor s.tree.market s.first.welfare incumbent) (offering incumbent attained) s.actors k h.actors_are
      (λ j a n there i. record { above = i.above; below = omega (arith, i.below, w); best = i.best })
      (λ a there i. offered_actor s.tree.market s.first.welfare s.incumbent incumbent attained a (omega (arith, w, h.incumbent_is, greatest_above s.first.welfare s.actors)) at i);
})

-- ---- the tree

cut_changed : (w : ℕ) (s : NodeState) (nodes : List TreeNode) (x : ℕ) → IsCutAt w s → AreCutAt w nodes → AreCutAt w (changed (in_state s) nodes x)
cut_changed w s nodes x c a = all_changed (λ (n : TreeNode). IsCutAt w n.state) (λ (n : TreeNode). IsCutAt w n.state) (in_state s) nodes x a (λ j n d there i. i) (λ n there i. c)

branch_cut : (w first : ℕ) (kids : List (List Bool)) → IsCutAt w (branch_of first kids)
branch_cut w first kids = grind arith

new_cut : (w : ℕ) (kids : List (List Bool)) → AreCutAt w (map new_node kids)
new_cut w [] = All-nil (λ (n : TreeNode). IsCutAt w n.state)
new_cut w (v ∷ kids) = All-cons (λ (n : TreeNode). IsCutAt w n.state) (new_node v) (map new_node kids) tt (new_cut w kids)

pub entry_cut : (g : Grown) (e : Entry) (w : ℕ) → IsEntryCutAt w e → AreCutAt w g.nodes → AreCutAt w (grown g e).nodes
entry_cut g (Branch k x cutoff) w c a = All-append (λ (n : TreeNode). IsCutAt w n.state) (changed (in_state (branch_of (length g.nodes) (children_at g x))) g.nodes x) (map new_node (children_at g x))
    (cut_changed w (branch_of (length g.nodes) (children_at g x)) g.nodes x (branch_cut w (length g.nodes) (children_at g x)) a) (new_cut w (children_at g x))
entry_cut g _ w c a = grind (arith, cut_changed)

pub grown_market : (g : Grown) (e : Entry) → (grown g e).market ≡ g.market
grown_market g e = grind arith

-- a settle closes at its own cutoff
pub settling_cut : (g : Grown) (k x cutoff w : ℕ) (finding : Finding) → cutoff ≤ w → IsEntryCutAt w (settling g k x cutoff finding)
settling_cut g k x cutoff w finding l = by_leaf (closing_leaf cutoff finding)
  where
    by_test : (b : Bool) → IsEntryCutAt w (if b then Branch k x cutoff else Full k x cutoff)
    by_test b = grind arith

    by_leaf : (o : Option Leaf) → IsEntryCutAt w (settling_by g k x cutoff o)
    by_leaf o = grind arith

tree_kept : (s : Machine) (tree : Grown) → KeepsFacts s → IsGrowth tree → tree.market ≡ s.tree.market → AreCutAt s.incumbent tree.nodes → KeepsFacts (record s { tree = tree })
tree_kept s tree h grows m cut = record {
  tree = grows;
  cutoffs = cut;
  attained = subst (λ (n : Market). IsAttained n s.first) (sym m) h.attained;
  closed = subst (λ (n : Market). IsClosedWelfare n (pos s.first.welfare)) (sym m) h.closed;
  incumbent_is = h.incumbent_is;
  some_actor = h.some_actor;
  actors_are = subst (λ (n : Market). All (IsActor n s.first.welfare s.incumbent) s.actors) (sym m) h.actors_are;
}

-- an entry of the tree, or none
pub entry_step_kept : {X : Type 0} (s : Machine) (e : Entry) (tree : Grown) (r : Result X StepFault) → KeepsFacts s
    → IsGrowth tree → IsEntryCutAt s.incumbent e → IfOk r (λ _. tree ≡ grown s.tree e) → IfErr r (λ _. tree ≡ s.tree)
    → KeepsFacts (record s { tree = tree })
entry_step_kept s e tree (Ok u) h grows c change same =
    tree_kept s tree h grows (ap (λ (g : Grown). g.market) change ∙ grown_market s.tree e)
    (subst (λ (g : Grown). AreCutAt s.incumbent g.nodes) (sym change) (entry_cut s.tree e s.incumbent c h.cutoffs))
entry_step_kept s e tree (Err f) h grows c change same =
    tree_kept s tree h grows (ap (λ (g : Grown). g.market) same) (subst (λ (g : Grown). AreCutAt s.incumbent g.nodes) (sym same) h.cutoffs)

-- ---- the start

replicated : (m : Market) (w : ℕ) (n : ℕ) → All (IsActor m w w) (replicate n (new_actor w))
replicated m w zero = All-nil (IsActor m w w)
replicated m w (suc n) = All-cons (IsActor m w w) (new_actor w) (replicate n (new_actor w)) (record { above = omega arith; below = omega arith; best = refl }) (replicated m w n)

greatest_new : (w n : ℕ) → w ≡ greatest_by (λ (x : Actor). x.offered) w (replicate n (new_actor w))
greatest_new w zero = refl
greatest_new w (suc n) = omega (arith, greatest_new w n)

pub start_keeps : (m : Market) (n budget : ℕ) (first : Attained) → IsValid m → 1 ≤ n → IsAttained m first
    → IsClosedWelfare m (pos first.welfare) → IsBudget budget → KeepsFacts (started m n first budget)
start_keeps m n budget first v l a c b = record {
  tree = seed_grows m budget v b;
  cutoffs = All-cons (λ (x : TreeNode). IsCutAt first.welfare x.state) (new_node []) [] tt (All-nil (λ (x : TreeNode). IsCutAt first.welfare x.state));
  attained = a;
  closed = c;
  incumbent_is = greatest_new first.welfare n;
  some_actor = omega (arith, l, length-replicate n (new_actor first.welfare));
  actors_are = replicated m first.welfare n;
}

pub actor_there : (actors : List Actor) (k : ℕ) → k < length actors → IsSomeActor actors k
actor_there actors k l = record { actor = get_or actors k (new_actor 0); there = slice_get-get_or actors k (new_actor 0) l }

pub by_actor_there : (actors : List Actor) (k : ℕ) (refused : Option StepFault) → k < length actors → by_actor (slice_get actors k) refused ≡ refused
by_actor_there actors k refused l = ap (λ (o : Option Actor). by_actor o refused) (slice_get-get_or actors k (new_actor 0) l)

pub answer_there : {X : Type 0} (actors : List Actor) (k : ℕ) (refused : Option StepFault) (r : Result X StepFault)
    → k < length actors → IsRefusal refused r → IsRefusal (by_actor (slice_get actors k) refused) r
answer_there actors k refused r l h = subst (λ (o : Option StepFault). IsRefusal o r) (sym (by_actor_there actors k refused l)) h

-- what an actor that is there saw
pub actor_at : (s : Machine) (k : ℕ) (a : Actor) → KeepsFacts s → slice_get s.actors k ≡ Some a → IsActor s.tree.market s.first.welfare s.incumbent a
actor_at s k a h e = all_get (IsActor s.tree.market s.first.welfare s.incumbent) s.actors k a h.actors_are e

-- it is a cutoff
pub seen_is_cutoff : (s : Machine) (k : ℕ) (a : Actor) → KeepsFacts s → slice_get s.actors k ≡ Some a → IsCutoff s.tree.market a.seen
seen_is_cutoff s k a h e = record { closed = pos s.first.welfare; is_closed = h.closed; above = omega (arith, ints, (actor_at s k a h e).above) }

pub settle_change : (s now : Machine) (k x cutoff : ℕ) (finding : Finding) (tree : Grown) (r : Result (Unit {0}) StepFault)
    → s ≡ now → seen_by (slice_get s.actors k) ≡ cutoff
    → IfOk r (λ _. tree ≡ grown s.tree (settling s.tree k x cutoff finding))
    → IfOk r (λ _. record s { tree = tree } ≡ after now (Settle k x finding))
settle_change s now k x cutoff finding tree (Ok u) same seen change =
    ap (λ (t : Grown). record s { tree = t }) (change ∙ ap (λ (c : ℕ). grown s.tree (settling s.tree k x c finding)) (sym seen)) ∙ ap (λ (t : Machine). after t (Settle k x finding)) same
settle_change s now k x cutoff finding tree (Err f) same seen change = tt

pub may_settle_by : (s : Machine) (k x : ℕ) (a : Actor) (finding : Finding) → slice_get s.actors k ≡ Some a
    → IsProper s (Settle k x finding) → IfSome (slice_get s.tree.nodes x) (MaySettle s.tree.market a.seen finding)
may_settle_by s k x a finding there h = subst (λ (o : Option Actor). IfSome o (λ (b : Actor). IfSome (slice_get s.tree.nodes x) (MaySettle s.tree.market b.seen finding))) there h

pub actor_there_by : (actors : List Actor) (k : ℕ) (a : Actor) → k < length actors → a ≡ get_or actors k a → slice_get actors k ≡ Some a
actor_there_by actors k a l e = slice_get_read actors (length actors) k a refl l e

-- ---- the end

-- an admissible activation with the incumbent as its welfare
pub record IsBestOf (m : Market) (incumbent : ℕ) (a : Attained) : Type 0 where
  pub attained : IsAttained m a
  pub welfare_is : a.welfare ≡ incumbent

best_of_actor : (m : Market) (incumbent : ℕ) (first : Attained) (offered : ℕ) (best : Option Attained)
    → IsBestOf m first.welfare first → offered ≡ incumbent → IsBest m first.welfare offered best
    → IsBestOf m incumbent (best_or first best)
best_of_actor m incumbent first offered best f e h = grind arith

other_by_test : (a b : ℕ) → (a == b) ≡ false → a ≡ b → ⊥
other_by_test a b e h = grind (arith, nat_tests)

rest_is_greatest : (incumbent offered g : ℕ) → incumbent ≡ max offered g → (offered ≡ incumbent → ⊥) → incumbent ≡ g
rest_is_greatest incumbent offered g e n = omega (arith, e, n)

best_among : (m : Market) (incumbent seen : ℕ) (first : Attained) (actors : List Actor)
    → IsBestOf m first.welfare first → All (IsActor m first.welfare seen) actors
    → incumbent ≡ greatest_by (λ (x : Actor). x.offered) first.welfare actors
    → IsBestOf m incumbent (best_of incumbent first actors)
best_among m incumbent seen first [] f h e = record { attained = f.attained; welfare_is = sym e }
best_among m incumbent seen first (a ∷ others) f h e = by_test (a.offered == incumbent) refl (best_among m incumbent seen first others f (All-tail (IsActor m first.welfare seen) a others h))
  where
    by_test : (b : Bool) → (a.offered == incumbent) ≡ b
        → (incumbent ≡ greatest_by (λ (x : Actor). x.offered) first.welfare others → IsBestOf m incumbent (best_of incumbent first others))
        → IsBestOf m incumbent (if b then best_or first a.best else best_of incumbent first others)
    by_test true is rest = best_of_actor m incumbent first a.offered a.best f (eqb-true a.offered incumbent is) (All-head (IsActor m first.welfare seen) a others h).best
    by_test false is rest = rest (rest_is_greatest incumbent a.offered (greatest_by (λ (x : Actor). x.offered) first.welfare others) e (other_by_test a.offered incumbent is))

pub best_is : (s : Machine) → KeepsFacts s → IsBestOf s.tree.market s.incumbent (best_of s.incumbent s.first s.actors)
best_is s h = best_among s.tree.market s.incumbent s.incumbent s.first s.actors (record { attained = h.attained; welfare_is = refl }) h.actors_are h.incumbent_is

first_of_actor : (m : Market) (incumbent : ℕ) (first : Attained) (offered : ℕ) (best : Option Attained)
    → incumbent ≡ first.welfare → offered ≡ incumbent → IsBest m first.welfare offered best
    → best_or first best ≡ first
first_of_actor m incumbent first offered best e o h = grind arith

first_among : (m : Market) (incumbent seen : ℕ) (first : Attained) (actors : List Actor) → incumbent ≡ first.welfare
    → All (IsActor m first.welfare seen) actors → best_of incumbent first actors ≡ first
first_among m incumbent seen first [] e h = refl
first_among m incumbent seen first (a ∷ others) e h = by_test (a.offered == incumbent) refl (first_among m incumbent seen first others e (All-tail (IsActor m first.welfare seen) a others h))
  where
    by_test : (b : Bool) → (a.offered == incumbent) ≡ b → best_of incumbent first others ≡ first → (if b then best_or first a.best else best_of incumbent first others) ≡ first
    by_test true is rest = first_of_actor m incumbent first a.offered a.best e (eqb-true a.offered incumbent is) (All-head (IsActor m first.welfare seen) a others h).best
    by_test false is rest = rest

-- where nothing better than the first was offered, it is the best
pub first_is_best : (s : Machine) → KeepsFacts s → s.incumbent ≡ s.first.welfare → best_of s.incumbent s.first s.actors ≡ s.first
first_is_best s h e = first_among s.tree.market s.incumbent s.incumbent s.first s.actors e h.actors_are

-- with a tree that holds at the incumbent, the best is optimal
pub clearing_by : (s : Machine) (c : Clearing) → KeepsFacts s
    → c.activation ≡ (best_of s.incumbent s.first s.actors).activation → c.welfare ≡ s.incumbent
    → TreeHolds s.tree.market (pos s.incumbent) c.tree → length c.tree ≤ s.tree.budget
    → IsOptimalClearing s.tree.market s.tree.budget c
clearing_by s c h a w t l =
    let best : IsBestOf s.tree.market s.incumbent (best_of s.incumbent s.first s.actors) = best_is s h in
    let welfare : welfare_of s.tree.market c.activation ≡ pos c.welfare = ap (welfare_of s.tree.market) a ∙ best.attained.welfare ∙ ap pos best.welfare_is ∙ ap pos (sym w) in
    let holds : TreeHolds s.tree.market (pos c.welfare) c.tree = subst (λ (v : ℕ). TreeHolds s.tree.market (pos v) c.tree) (sym w) t in
    record {
      optimal = optimal_by_tree s.tree.market c.activation c.tree h.tree.valid (subst (IsAdmissible s.tree.market) (sym a) best.attained.admissible)
          (subst (λ (v : ℤ). TreeHolds s.tree.market v c.tree) (sym welfare) holds);
      welfare = welfare;
      tree = holds;
      within_budget = l;
    }
