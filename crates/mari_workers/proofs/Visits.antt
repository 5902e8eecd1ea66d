-- What a visit keeps, and what is so in the end.
use Rattle.std.proofs.Common.{◌≡◌, ◌∙◌, inl, inr, if◌then◌else◌, Bool, true, false, ℕ, ◌+◌, ◌-◌, ◌*◌, ◌<◌, ◌≤◌, max, List, [], ◌∷◌, append-nil, length, map, get_or, is_some, true≢false, Option, Some, None, arith, refl, sym, ap, subst}
use Rattle.std.specs.Prelude.{nat_le, nat_lt, slice_get, IfSome, IsSomeAnd, MatchOption}
use Rattle.std.specs.Option.{option_map}
use Rattle.std.proofs.lemmas.Bool.{cases_eq, cases_lt}
use Rattle.std.proofs.lemmas.Int.{ints, clamps}
use Rattle.std.proofs.lemmas.List.{length-map}
use Rattle.std.proofs.lemmas.Option.{slice_get-get_or, slice_get-map, slice_get_within}
use Rattle.std.proofs.lemmas.List.Sorted.{length_permutation}
use Rattle.mari_market.specs.declared.certificate.Leaf.{Leaf}
use Rattle.mari_market.specs.declared.certificate.Conflict.{Conflict as ConflictRecord}
use Rattle.mari_market.specs.declared.finding.Attained.{Attained}
use Rattle.mari_market.specs.declared.finding.Finding.{Finding}
use Rattle.mari_market.specs.declared.finding.Finding.TheVariants.{Empty, Relaxed}
use Rattle.mari_market.specs.declared.finding.Relaxed.{Relaxed as RelaxedRecord}
use Rattle.mari_market.specs.declared.market.Market.{Market}
use Rattle.mari_market.specs.declared.prefix.Prefix.{Prefix}
use Rattle.mari_market.specs.declared.clearing.Clearing.{Clearing}
use Rattle.mari_market.specs.Activation.{gate_word_of}
use Rattle.mari_market.specs.Clearing.{ArePartsOfSearch, IsOptimalClearing}
use Rattle.mari_market.specs.Relaxation.{all_closed}
use Rattle.mari_market.specs.Conflict.{IsConflict}
use Rattle.mari_market.specs.Prefix.{word_of}
use Rattle.mari_market.specs.Finding.{IsAttained, IsFinding, IsRefuted, IsRelaxedFinding, IsSettled}
use Rattle.mari_core.specs.declared.event.Event.TheVariants.{Offer, Take as TakeEvent, Settle}
use Rattle.mari_core.specs.declared.event.StepFault.{StepFault}
use Rattle.mari_core.specs.declared.node.NodeState.TheVariants.{Untaken, Taken, Closed}
use Rattle.mari_core.specs.declared.search.Actor.{Actor}
use Rattle.mari_core.specs.Growth.{Entry, Grown, MaySettle, IsReached, children_at, closing_leaf, grown, settling_by, return_refused, seed, with_state}
use Rattle.mari_core.specs.Growth.Entry.{Take, Close, Branch, Full, GiveBack}
use Rattle.mari_core.specs.Machine.{Machine, after, by_actor, offering, refusal, seen_by, IsProper, KeepsFacts}
use Rattle.mari_core.specs.Nodes.{TreeNode, branch_of, in_state, new_node, state_at, words_of}
use Rattle.mari_core.specs.Preorder.{shape_of}
use Rattle.mari_core.proofs.Changes.{IsAt, length-with_state, node_at, state_same}
use Rattle.mari_core.proofs.Lists.{changed_same}
use Rattle.mari_core.proofs.Machines.{actor_there, by_actor_there, greatest_above}
use Rattle.mari_pool.specs.Pooled.{taken_among}
use Rattle.mari_pool.specs.Queued.{Queued, no_nodes, first_key, LeavesFirst, IsIdleQueue, IsMore, IsQueueOf}
use Rattle.mari_pool.proofs.Keeps.{grown_longer}
use Rattle.mari_pool.proofs.Queues.{first_waits, length_waiting, made, none_waits, queue_done, queue_more, queue_start, queue_taken, state_same_as, untaken_few, branch_done}
use Rattle.mari_pool.proofs.Rooms.{branch_untaken, taken-append, taken_new, taken_state}
use Rattle.mari_workers.specs.Alone.{after_offer, best_in, IsAtNode, IsFinished, IsUnderWay, IsVisited}
use Rattle.mari_workers.specs.Refine.{MayRefine}

-- ---- the tree

-- a node is taken and then settled by this certificate, or without one
abbrev taken_and : Grown → ℕ → ℕ → Option Leaf → Grown
taken_and g x cutoff o = grown (grown g (Take 0 x)) (settling_by (grown g (Take 0 x)) 0 x cutoff o)

-- what a queue is of the nodes after one that was taken is settled, where those that were made wait
record IsSettledBy (old new : Grown) (r s : Queued) : Type 0 where
  queue : IsQueueOf new.nodes s
  taken : taken_among new.nodes + 1 ≡ taken_among old.nodes
  longer : length old.nodes ≤ length new.nodes

settled_by_close : (g : Grown) (x cutoff key : ℕ) (leaf : Leaf) (r s : Queued) → IsQueueOf g.nodes r
    → state_at g.nodes x ≡ Some (Taken 0)
    → IsMore key (length (grown g (Close 0 x leaf cutoff)).nodes - length r.keys) r s
    → IsSettledBy g (grown g (Close 0 x leaf cutoff)) r s
settled_by_close g x cutoff key leaf r s h taken more =
    let nodes = with_state (Closed leaf cutoff) g.nodes x in
    let none : length nodes - length r.keys ≡ 0 = omega (arith, length-with_state (Closed leaf cutoff) g.nodes x, h.keys) in
    record {
      queue = subst (λ (ns : List TreeNode). IsQueueOf ns s) (append-nil nodes)
          (queue_more nodes [] r s key (queue_done g.nodes r (Closed leaf cutoff) x 0 h taken refl) (subst (λ (n : ℕ). IsMore key n r s) none more));
      taken = omega (arith, taken_state (Closed leaf cutoff) (Taken 0) g.nodes x taken);
      longer = omega (arith, length-with_state (Closed leaf cutoff) g.nodes x);
    }

settled_by_branch : (g : Grown) (x cutoff key : ℕ) (r s : Queued) → IsQueueOf g.nodes r
    → state_at g.nodes x ≡ Some (Taken 0)
    → IsMore key (length (grown g (Branch 0 x cutoff)).nodes - length r.keys) r s
    → IsSettledBy g (grown g (Branch 0 x cutoff)) r s
settled_by_branch g x cutoff key r s h taken more =
    let kids = children_at g x in
    let state = branch_of (length g.nodes) kids in
    let nodes = with_state state g.nodes x in
    let many : length (grown g (Branch 0 x cutoff)).nodes - length r.keys ≡ length kids = omega (arith, made g 0 x cutoff, h.keys) in
    record {
      queue = queue_more nodes kids r s key (queue_done g.nodes r state x 0 h taken (branch_done (length g.nodes) kids)) (subst (λ (n : ℕ). IsMore key n r s) many more);
      taken = omega (arith, taken-append nodes (map new_node kids), taken_new kids, branch_untaken (length g.nodes) kids, taken_state state (Taken 0) g.nodes x taken);
      longer = omega (arith, made g 0 x cutoff);
    }

settled_by : (g : Grown) (x cutoff key : ℕ) (o : Option Leaf) (r s : Queued) → IsQueueOf g.nodes r
    → state_at g.nodes x ≡ Some (Taken 0) → ((grown g (settling_by g 0 x cutoff o)).full ≡ true → ⊥)
    → IsMore key (length (grown g (settling_by g 0 x cutoff o)).nodes - length r.keys) r s
    → IsSettledBy g (grown g (settling_by g 0 x cutoff o)) r s
settled_by g x cutoff key (Some leaf) r s h taken not_full more = settled_by_close g x cutoff key leaf r s h taken more
settled_by g x cutoff key None r s h taken not_full more = by_test (nat_le (length g.nodes + length (children_at g x)) g.budget) not_full more
  where
    by_test : (b : Bool) → ((grown g (if b then Branch 0 x cutoff else Full 0 x cutoff)).full ≡ true → ⊥)
        → IsMore key (length (grown g (if b then Branch 0 x cutoff else Full 0 x cutoff)).nodes - length r.keys) r s
        → IsSettledBy g (grown g (if b then Branch 0 x cutoff else Full 0 x cutoff)) r s
    by_test true not_full more = settled_by_branch g x cutoff key r s h taken more
    by_test false not_full more = absurd (not_full refl)

-- no entry changes the market or the budget
record IsSameMarket (g h : Grown) : Type 0 where
  market : h.market ≡ g.market
  budget : h.budget ≡ g.budget

same_by_entry : (g : Grown) (e : Entry) → IsSameMarket g (grown g e)
same_by_entry g (Take k x) = record { market = refl; budget = refl }
same_by_entry g (Close k x leaf cutoff) = record { market = refl; budget = refl }
same_by_entry g (Branch k x cutoff) = record { market = refl; budget = refl }
same_by_entry g (Full k x cutoff) = record { market = refl; budget = refl }
same_by_entry g (GiveBack k x) = record { market = refl; budget = refl }

-- ---- the search

-- a search after a visit with this offer
abbrev visited_with : Machine → ℕ → Finding → Option Attained → Machine
visited_with s x finding o = after (after_offer (after s (TakeEvent 0 x)) o) (Settle 0 x finding)

-- the tree after a visit: the node is taken, and settled
record IsVisitedTree (old new : Grown) (x : ℕ) : Type 0 where
  cutoff : ℕ
  leaf : Option Leaf
  is : new ≡ taken_and old x cutoff leaf

tree_by_offer : (s : Machine) (x : ℕ) (finding : Finding) (o : Option Attained) → IsVisitedTree s.tree (visited_with s x finding o).tree x
tree_by_offer s x finding None = let cutoff = seen_by (slice_get (after s (TakeEvent 0 x)).actors 0) in record { cutoff = cutoff; leaf = closing_leaf cutoff finding; is = refl }
tree_by_offer s x finding (Some best) =
    let cutoff = seen_by (slice_get (after_offer (after s (TakeEvent 0 x)) (Some best)).actors 0) in record { cutoff = cutoff; leaf = closing_leaf cutoff finding; is = refl }

visited_tree : (m : Market) (old new : Machine) (x : ℕ) (word : List Bool) (key : ℕ) → IsVisited m old new x word key → IsVisitedTree old.tree new.tree x
visited_tree m old new x word key v = subst (λ (s : Machine). IsVisitedTree old.tree s.tree x) (sym v.change) (tree_by_offer old x v.finding (best_in v.finding))

-- a visit keeps the first activation
first_stays : (s : Machine) (x : ℕ) (finding : Finding) (o : Option Attained) → (visited_with s x finding o).first ≡ s.first
first_stays s x finding None = refl
first_stays s x finding (Some best) = refl

pub visit_same : (m : Market) (old new : Machine) (x : ℕ) (word : List Bool) (key : ℕ) → IsVisited m old new x word key → (new.tree.market ≡ old.tree.market) × (new.tree.budget ≡ old.tree.budget)
visit_same m old new x word key v =
    let t = visited_tree m old new x word key v in
    let same = same_by_entry (grown old.tree (Take 0 x)) (settling_by (grown old.tree (Take 0 x)) 0 x t.cutoff t.leaf) in
    (ap (λ (g : Grown). g.market) t.is ∙ same.market, ap (λ (g : Grown). g.budget) t.is ∙ same.budget)

-- what a visit makes of the queue, once the nodes that were made wait
visit_settles : (m : Market) (old new : Machine) (x : ℕ) (word : List Bool) (key : ℕ) (q r s : Queued)
    → IsUnderWay m old q → LeavesFirst q r x → IsVisited m old new x word key → (new.tree.full ≡ true → ⊥)
    → IsMore key (length new.tree.nodes - length r.keys) r s → IsSettledBy (grown old.tree (Take 0 x)) new.tree r s
visit_settles m old new x word key q r s u f v not_full more =
    let t = visited_tree m old new x word key v in
    let waits : state_at old.tree.nodes x ≡ Some Untaken = first_waits old.tree.nodes q r x u.queue f in
    subst (λ (g : Grown). IsSettledBy (grown old.tree (Take 0 x)) g r s) (sym t.is)
    (settled_by (grown old.tree (Take 0 x)) x t.cutoff key t.leaf r s (queue_taken old.tree.nodes q r x 0 u.queue f) (state_same_as (Taken 0) Untaken old.tree.nodes x waits)
    (λ full. not_full (ap (λ (g : Grown). g.full) t.is ∙ full)) (subst (λ (g : Grown). IsMore key (length g.nodes - length r.keys) r s) t.is more))

-- after a visit the search is under way again, unless the mark is on
visit_keeps : (m : Market) (old new : Machine) (x : ℕ) (word : List Bool) (key : ℕ) (q r s : Queued)
    → IsUnderWay m old q → LeavesFirst q r x → IsVisited m old new x word key → KeepsFacts new
    → (new.tree.full ≡ true → ⊥) → IsMore key (length new.tree.nodes - length r.keys) r s → IsUnderWay m new s
visit_keeps m old new x word key q r s u f v facts not_full more =
    let settled = visit_settles m old new x word key q r s u f v not_full more in
    let same = visit_same m old new x word key v in
    let waits : state_at old.tree.nodes x ≡ Some Untaken = first_waits old.tree.nodes q r x u.queue f in
    record {
      market = same.0 ∙ u.market;
      facts = facts;
      queue = settled.queue;
      room = more.room ∙ f.room ∙ u.room ∙ sym same.1;
      none_taken = omega (arith, settled.taken, taken_state (Taken 0) Untaken old.tree.nodes x waits, u.none_taken);
      from_closed =
          ap (λ (k : Machine). gate_word_of m k.first.activation) v.change ∙ ap (λ (a : Attained). gate_word_of m a.activation) (first_stays old x v.finding (best_in v.finding)) ∙ u.from_closed;
    }

-- the node that comes first waits in the search
pub at_node : (m : Market) (s : Machine) (q r : Queued) (x : ℕ) → IsUnderWay m s q → LeavesFirst q r x → IsAtNode m s x
at_node m s q r x u f = record { market = u.market; facts = u.facts; waits = first_waits s.tree.nodes q r x u.queue f }

-- ---- what each step asks for

by_actor_none : (actors : List Actor) (refused : Option StepFault) → 1 ≤ length actors → refused ≡ None → by_actor (slice_get actors 0) refused ≡ None
by_actor_none actors refused l e = by_actor_there actors 0 refused l ∙ e

-- what is offered is a copy of the finding's best
pub offered_as : (s new : Machine) (copy best : Attained) (o : Option Attained) → copy ≡ best → Some best ≡ o → new ≡ after s (Offer 0 copy) → new ≡ after_offer s o
offered_as s new copy best o same is h =
    subst (λ (p : Option Attained). new ≡ after_offer s p) is (subst (λ (a : Attained). new ≡ after s (Offer 0 a)) same h)

pub copy_attained : (m : Market) (copy best : Attained) (o : Option Attained) → copy ≡ best → Some best ≡ o → IfSome o (IsAttained m) → IsAttained m copy
copy_attained m copy best o same is h = subst (IsAttained m) (sym same) (subst (λ (p : Option Attained). IfSome p (IsAttained m)) (sym is) h)

pub offer_accepted : (s : Machine) (best : Attained) → KeepsFacts s → refusal s (Offer 0 best) ≡ None
offer_accepted s best facts = by_actor_none s.actors None facts.some_actor refl

-- what the actor has seen is at least what it offers
abbrev seen_either : Bool → Actor → Actor → ℕ
seen_either b one other = (if◌then◌else◌ {A = Actor} b one other).seen

seen_of_offer : (incumbent : ℕ) (best : Attained) (a : Actor) → (offering incumbent best a).seen ≡ incumbent
seen_of_offer incumbent best a = by_test (nat_lt a.offered best.welfare)
  where
    by_test : (b : Bool) → seen_either b (record { seen = incumbent; offered = best.welfare; best = Some best }) (record { seen = incumbent; offered = a.offered; best = a.best }) ≡ incumbent
    by_test true = refl
    by_test false = refl

offer_seen : (s : Machine) (best : Attained) → 1 ≤ length s.actors → best.welfare ≤ seen_by (slice_get (after_offer s (Some best)).actors 0)
offer_seen s best l =
    let first = actor_there s.actors 0 l in
    let incumbent = max s.incumbent best.welfare in
    let same : slice_get (after_offer s (Some best)).actors 0 ≡ Some (offering incumbent best first.actor) = changed_same (offering incumbent best) s.actors 0 first.actor first.there in
    let seen : seen_by (slice_get (after_offer s (Some best)).actors 0) ≡ max s.incumbent best.welfare = ap seen_by same ∙ seen_of_offer incumbent best first.actor in
    omega (arith, seen)

settled_bound : (m : Market) (word : List Bool) (r : RelaxedRecord) (best : Attained) → IsRelaxedFinding m word r → IsSettled m word r best → r.bound ≡ best.welfare
settled_bound m word r best f s = omega (arith, ints, clamps, f.bound, s.value)

pub reached_by : (m : Market) (word : List Bool) (r : RelaxedRecord) (cutoff : ℕ) → IsRelaxedFinding m word r
    → ((best : Attained) → r.best ≡ Some best → best.welfare ≤ cutoff) → IsReached m word cutoff (Relaxed r)
reached_by m word r cutoff f seen full none = by_best r.best refl (f.at_the_end full)
  where
    by_best : (o : Option Attained) → r.best ≡ o → MatchOption o (IsRefuted m word r) (IsSettled m word r) → r.bound ≤ cutoff
    by_best None e h = absurd (subst (λ (c : Option ConflictRecord). IsSomeAnd c (IsConflict m word)) none h.conflict)
    by_best (Some best) e h = omega (arith, settled_bound m word r best f h, seen best e)

-- where a gate is left to decide, nothing has to be reached
pub open_reached : (m : Market) (word : List Bool) (cutoff : ℕ) (finding : Finding) → length word < length m.gates → IsReached m word cutoff finding
open_reached m word cutoff (Empty cut) l = tt
open_reached m word cutoff (Relaxed r) l = λ full none. absurd (omega (arith, l, full))

-- what was offered of a finding is reached
reached : (m : Market) (s : Machine) (word : List Bool) (finding : Finding) → 1 ≤ length s.actors
    → IsFinding m word finding
    → IsReached m word (seen_by (slice_get (after_offer s (best_in finding)).actors 0)) finding
reached m s word (Empty cut) l f = tt
reached m s word (Relaxed r) l f = reached_by m word r (seen_by (slice_get (after_offer s r.best).actors 0)) f
    (λ best e. subst (λ (o : Option Attained). best.welfare ≤ seen_by (slice_get (after_offer s o).actors 0)) (sym e) (offer_seen s best l))

offer_tree : (s : Machine) (o : Option Attained) → (after_offer s o).tree ≡ s.tree
offer_tree s None = refl
offer_tree s (Some best) = refl

-- a node that is taken, where what is found there was offered, may be settled with it
pub record MayVisit (s : Machine) (x : ℕ) (finding : Finding) : Type 0 where
  pub proper : IsProper s (Settle 0 x finding)
  pub accepted : refusal s (Settle 0 x finding) ≡ None

node_of_word : (nodes : List TreeNode) (x : ℕ) (word : List Bool) → slice_get (words_of nodes) x ≡ Some word → (n : TreeNode) × (slice_get nodes x ≡ Some n) × (n.word ≡ word)
node_of_word nodes x word e = by_node (slice_get nodes x) refl (sym (slice_get-map (λ (n : TreeNode). n.word) nodes x) ∙ e)
  where
    by_node : (o : Option TreeNode) → slice_get nodes x ≡ o → option_map (λ (n : TreeNode). n.word) o ≡ Some word → (n : TreeNode) × (slice_get nodes x ≡ Some n) × (n.word ≡ word)
    by_node None same h = absurd (cc)
    by_node (Some n) same h = (n, same, cc)

settle_by_offer : (m : Market) (s : Machine) (x : ℕ) (word : List Bool) (finding : Finding) (o : Option Attained)
    → IsAtNode m s x → slice_get (words_of s.tree.nodes) x ≡ Some word → IsFinding m word finding
    → IsReached m word (seen_by (slice_get (after_offer (after s (TakeEvent 0 x)) o).actors 0)) finding
    → 1 ≤ length (after_offer (after s (TakeEvent 0 x)) o).actors
    → MayVisit (after_offer (after s (TakeEvent 0 x)) o) x finding
settle_by_offer m s x word finding o u e f within some =
    let t = after_offer (after s (TakeEvent 0 x)) o in
    let n = node_of_word s.tree.nodes x word e in
    let tree : t.tree ≡ grown s.tree (Take 0 x) = offer_tree (after s (TakeEvent 0 x)) o in
    let there : slice_get (with_state (Taken 0) s.tree.nodes x) x ≡ Some (in_state (Taken 0) n.0) = changed_same (in_state (Taken 0)) s.tree.nodes x n.0 n.1 in
    let first = actor_there t.actors 0 some in
    let cutoff = first.actor.seen in
    let reached_by_it : IsReached m word cutoff finding = subst (λ (c : ℕ). IsReached m word c finding) (ap seen_by first.there) within in
    let may : MaySettle m cutoff finding (in_state (Taken 0) n.0) = record {
      finding_is = subst (λ (w : List Bool). IsFinding m w finding) (sym n.2) f;
      reached = subst (λ (w : List Bool). IsReached m w cutoff finding) (sym n.2) reached_by_it;
    } in
    record {
      proper =
          subst (λ (o : Option Actor). IfSome o (λ (a : Actor). IfSome (slice_get t.tree.nodes x) (MaySettle t.tree.market a.seen finding))) (sym first.there)
          (subst (λ (g : Grown). IfSome (slice_get g.nodes x) (MaySettle g.market cutoff finding)) (sym tree)
          (subst (λ (k : Market). IfSome (slice_get (with_state (Taken 0) s.tree.nodes x) x) (MaySettle k cutoff finding)) (sym u.market)
          (subst (λ (p : Option TreeNode). IfSome p (MaySettle m cutoff finding)) (sym there) may)));
      accepted = by_actor_none t.actors (return_refused 0 (state_at t.tree.nodes x)) some
          (ap (λ (g : Grown). return_refused 0 (state_at g.nodes x)) tree ∙ ap (return_refused 0) (state_same (Taken 0) s.tree.nodes x n.0 n.1));
    }

pub settle_allowed : (m : Market) (old t : Machine) (x : ℕ) (word : List Bool) (finding : Finding) → IsAtNode m old x
    → slice_get (words_of old.tree.nodes) x ≡ Some word → IsFinding m word finding
    → t ≡ after_offer (after old (TakeEvent 0 x)) (best_in finding) → KeepsFacts t → MayVisit t x finding
settle_allowed m old t x word finding u e f is facts =
    subst (λ (s : Machine). MayVisit s x finding) (sym is)
    (settle_by_offer m old x word finding (best_in finding) u e f (reached m (after old (TakeEvent 0 x)) word finding u.facts.some_actor f)
    (subst (λ (s : Machine). 1 ≤ length s.actors) is facts.some_actor))

-- ---- the end

-- where the queue is empty, no node waits and none is taken
pub done_by : (m : Market) (s : Machine) (q r : Queued) → IsUnderWay m s q → IsIdleQueue q r → IsFinished s
done_by m s q r u idle = record {
  facts = u.facts;
  none_waits = none_waits s.tree.nodes q u.queue idle.0;
  none_taken = u.none_taken;
  from_closed = subst (λ (k : Market). gate_word_of k s.first.activation ≡ all_closed k) (sym u.market) u.from_closed;
}

-- the node that comes first has a word
pub has_word : (m : Market) (s : Machine) (q r : Queued) (x : ℕ) → IsUnderWay m s q → LeavesFirst q r x → slice_get (words_of s.tree.nodes) x ≡ None → ⊥
has_word m s q r x u f e =
    let at : IsAt s.tree.nodes x Untaken = node_at s.tree.nodes x Untaken (first_waits s.tree.nodes q r x u.queue f) in
    let there : slice_get (words_of s.tree.nodes) x ≡ Some at.node.word = slice_get-map (λ (n : TreeNode). n.word) s.tree.nodes x ∙ ap (option_map (λ (n : TreeNode). n.word)) at.there in
    absurd (cc)

-- ---- the walk through all nodes

-- the search is under way, with the budget that it had
pub record IsStill (m : Market) (budget : ℕ) (s : Machine) (q : Queued) : Type 0 where
  pub under_way : IsUnderWay m s q
  pub budget_is : s.tree.budget ≡ budget

pub still_next : (m : Market) (budget : ℕ) (old new : Machine) (x : ℕ) (word : List Bool) (key : ℕ) (q r s : Queued)
    → IsStill m budget old q → LeavesFirst q r x → IsVisited m old new x word key → KeepsFacts new
    → (new.tree.full ≡ true → ⊥) → IsMore key (length new.tree.nodes - length r.keys) r s → IsStill m budget new s
still_next m budget old new x word key q r s h f v facts not_full more = record {
  under_way = visit_keeps m old new x word key q r s h.under_way f v facts not_full more;
  budget_is = (visit_same m old new x word key v).1 ∙ h.budget_is;
}

-- a mark that is read as off isn't on
pub not_marked : {read mark : Bool} → read ≡ mark → read ≡ false → mark ≡ true → ⊥
not_marked is off on = absurd (true≢false (sym on ∙ sym is ∙ off))

-- how far the search may still go
abbrev pub still_left : ℕ → Machine → Queued → ℕ
still_left budget s q = 2 * (budget - length s.tree.nodes) + length q.waiting

pub fewer_left : (m : Market) (budget : ℕ) (old new : Machine) (x : ℕ) (word : List Bool) (key : ℕ) (q r s : Queued)
    → IsStill m budget old q → LeavesFirst q r x → IsVisited m old new x word key → KeepsFacts new
    → (new.tree.full ≡ true → ⊥) → IsMore key (length new.tree.nodes - length r.keys) r s
    → still_left budget new s < still_left budget old q
fewer_left m budget old new x word key q r s h f v facts not_full more =
    let settled = visit_settles m old new x word key q r s h.under_way f v not_full more in
    let same = visit_same m old new x word key v in
    omega (
      arith,
      settled.longer,
      length-with_state (Taken 0) old.tree.nodes x,
      facts.tree.within_budget,
      same.1,
      h.budget_is,
      h.under_way.queue.keys,
      ap length f.keys,
      length_permutation q.waiting (x ∷ r.waiting) f.leaves,
      length_waiting key (length new.tree.nodes - length r.keys) r s more,
    )

-- an offer changes neither the tree nor the activation that the search began with
pub still_after : (m : Market) (budget : ℕ) (s new : Machine) (q : Queued) → IsStill m budget s q → new.tree ≡ s.tree → new.first ≡ s.first → KeepsFacts new → IsStill m budget new q
still_after m budget s new q h tree first facts = record {
  under_way = record {
    market = ap (λ (g : Grown). g.market) tree ∙ h.under_way.market;
    facts = facts;
    queue = subst (λ (g : Grown). IsQueueOf g.nodes q) (sym tree) h.under_way.queue;
    room = h.under_way.room ∙ sym (ap (λ (g : Grown). g.budget) tree);
    none_taken = ap (λ (g : Grown). taken_among g.nodes) tree ∙ h.under_way.none_taken;
    from_closed = ap (λ (a : Attained). gate_word_of m a.activation) first ∙ h.under_way.from_closed;
  };
  budget_is = ap (λ (g : Grown). g.budget) tree ∙ h.budget_is;
}

pub as_far : (budget : ℕ) (s new : Machine) (q : Queued) → new.tree ≡ s.tree → still_left budget new q ≡ still_left budget s q
as_far budget s new q tree = ap (λ (g : Grown). 2 * (budget - length g.nodes) + length q.waiting) tree

-- what there is to admit after a visit
pub record MayAdmit (s : Machine) (r : Queued) : Type 0 where
  pub room : r.room ≡ s.tree.budget
  pub made : length r.keys ≤ length s.tree.nodes
  pub waiting : length r.waiting ≤ length r.keys

pub may_admit : (m : Market) (old new : Machine) (x : ℕ) (word : List Bool) (key : ℕ) (q r : Queued) → IsUnderWay m old q → LeavesFirst q r x → IsVisited m old new x word key → MayAdmit new r
may_admit m old new x word key q r u f v =
    let t = visited_tree m old new x word key v in
    let longer = grown_longer (grown old.tree (Take 0 x)) (settling_by (grown old.tree (Take 0 x)) 0 x t.cutoff t.leaf) in
    record {
      room = f.room ∙ u.room ∙ sym (visit_same m old new x word key v).1;
      made = omega (arith, ap length f.keys, u.queue.keys, ap (λ (g : Grown). length g.nodes) t.is, longer, length-with_state (Taken 0) old.tree.nodes x);
      waiting = omega (arith, ap length f.keys, u.queue.keys, u.queue.many, untaken_few old.tree.nodes, length_permutation q.waiting (x ∷ r.waiting) f.leaves);
    }

-- there is a node of this number exactly where it has a prefix
pub node_there : (nodes : List TreeNode) (n : ℕ) (o : Option Prefix) → option_map (λ (p : Prefix). word_of p) o ≡ slice_get (words_of nodes) n → is_some o ≡ true → n < length nodes
node_there nodes n None e some = absurd (true≢false (sym some))
node_there nodes n (Some p) e some = omega (arith, slice_get_within (words_of nodes) n (word_of p) (sym e), length-map nodes (λ (k : TreeNode). k.word))

pub node_past : (nodes : List TreeNode) (n : ℕ) (o : Option Prefix) → option_map (λ (p : Prefix). word_of p) o ≡ slice_get (words_of nodes) n → is_some o ≡ false → length nodes ≤ n
node_past nodes n (Some p) e none = absurd (true≢false none)
node_past nodes n None e none = elim (cases_lt n (length nodes)) [
  | inl l ↦ let there : slice_get (words_of nodes) n ≡ Some (get_or (words_of nodes) n []) =
      slice_get-get_or (words_of nodes) n [] (omega (arith, l, length-map nodes (λ (k : TreeNode). k.word))) in absurd (cc)
  | inr l ↦ l
]

-- ---- the start

pub start_under_way : (m : Market) (s : Machine) (q : Queued) (budget : ℕ) → s.tree ≡ seed m budget → KeepsFacts s
    → gate_word_of m s.first.activation ≡ all_closed m → IsMore first_key 1 (no_nodes budget) q → IsUnderWay m s q
start_under_way m s q budget e facts closed more =
    let start = queue_start q budget more in
    record {
      market = ap (λ (g : Grown). g.market) e;
      facts = facts;
      queue = subst (λ (g : Grown). IsQueueOf g.nodes q) (sym e) start.0;
      room = start.2 ∙ sym (ap (λ (g : Grown). g.budget) e);
      none_taken = ap (λ (g : Grown). taken_among g.nodes) e;
      from_closed = closed;
    }

-- ---- the end of a search

-- what a search comes to may be refined
pub may_refine : (s : Machine) (c : Clearing) → IsFinished s → IsOptimalClearing s.tree.market s.tree.budget c
    → c.welfare ≡ s.incumbent → (s.incumbent ≡ s.first.welfare → c.activation ≡ s.first.activation)
    → ArePartsOfSearch s.tree.market ([] ∷ []) (map shape_of c.tree) → MayRefine s.tree.market s.tree.budget c
may_refine s c done clearing w first parts = record {
  clearing = clearing;
  nodes = parts;
  opens = record {
    closed = s.first.welfare;
    is_closed = done.facts.closed;
    above = elim (cases_eq s.incumbent s.first.welfare) [
      | inl e ↦ inl (ap (gate_word_of s.tree.market) (first e) ∙ done.from_closed)
      | inr other ↦ inr (omega (arith, other, w, done.facts.incumbent_is, greatest_above s.first.welfare s.actors))
    ];
  };
}
