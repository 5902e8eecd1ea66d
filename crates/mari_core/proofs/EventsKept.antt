-- What every event and every entry keeps, for all of them at once.
use Rattle.std.proofs.Common.{◌≡◌, Bool, true, ℕ, ◌+◌, ◌<◌, ◌≤◌, max, if◌then◌else◌, List, [], ◌∷◌, length, Option, Some, None, Ok, arith, refl, sym, ap, subst}
use Rattle.std.specs.Prelude.{slice_get, nat_le, IfSome}
use Rattle.std.proofs.lemmas.Bool.Decides.{nat_tests}
use Rattle.std.proofs.lemmas.Option.{slice_get_within}
use Rattle.mari_market.specs.declared.certificate.Leaf.{Leaf}
use Rattle.mari_market.specs.declared.finding.Finding.{Finding}
use Rattle.mari_market.specs.SearchTree.{IsLarger}
use Rattle.mari_core.specs.declared.search.Actor.{Actor}
use Rattle.mari_core.specs.declared.event.Event.{Event}
use Rattle.mari_core.specs.declared.event.Event.TheVariants.{Look, Offer, Take, Settle, GiveBack}
use Rattle.mari_core.specs.declared.event.StepFault.{StepFault}
use Rattle.mari_core.specs.declared.event.ReplayFault.{ReplayFault}
use Rattle.mari_core.specs.declared.node.NodeState.TheVariants.{Taken}
use Rattle.mari_core.specs.Nodes.{changed, state_at}
use Rattle.mari_core.specs.Growth.{Grown, Entry, grown, grown_by, AreAllowed, IsEntryCutAt, settling, settling_by, closing_leaf, children_at, take_refused, return_refused, IsAllowed, IsCutoff, IsGrowth, MayBranch, MaySettle}
use Rattle.mari_core.specs.Growth.Entry.{Take as TakeEntry, Branch, Full, GiveBack as GiveBackEntry}
use Rattle.mari_core.specs.Machine.{Machine, seeing, offering, seen_by, by_actor, after, refusal, IsProper, KeepsFacts}
use Rattle.mari_core.specs.Replay.{after_all, first_refusal, refused_or, AreProper}
use Rattle.mari_core.proofs.Seeds.{crowded_is_larger}
use Rattle.mari_core.proofs.Entries.{take_passes, return_passes, entry_kept}
use Rattle.mari_core.proofs.Settling.{gt_by_test, le_by_test, may_close, may_branch}
use Rattle.mari_core.proofs.Machines.{may_settle_by, look_kept, offer_kept, settling_cut, entry_step_kept, actor_at, seen_is_cutoff}

-- ---- entries

-- each entry of a list keeps the facts of a growth
pub entries_kept : (g : Grown) (es : List Entry) → IsGrowth g → AreAllowed g es → IsGrowth (grown_by g es)
entries_kept g [] grows h = grows
entries_kept g (e ∷ es) grows h = entries_kept (grown g e) es (entry_kept g e grows h.0) h.1

-- to settle a taken node with a finding is allowed
pub settle_allowed : (g : Grown) (k x cutoff : ℕ) (finding : Finding) → IsGrowth g → IsCutoff g.market cutoff
    → IfSome (slice_get g.nodes x) (MaySettle g.market cutoff finding) → state_at g.nodes x ≡ Some (Taken k)
    → IsAllowed g (settling g k x cutoff finding)
settle_allowed g k x cutoff finding grows above h taken = by_leaf (closing_leaf cutoff finding) refl
  where
    by_test : (b : Bool) → nat_le (length g.nodes + length (children_at g x)) g.budget ≡ b → MayBranch g k x cutoff → IsAllowed g (if b then Branch k x cutoff else Full k x cutoff)
    by_test b e may = grind (arith, le_by_test, gt_by_test)

    by_leaf : (o : Option Leaf) → closing_leaf cutoff finding ≡ o → IsAllowed g (settling_by g k x cutoff o)
    by_leaf (Some leaf) e = may_close g k x cutoff finding leaf grows above h taken e
    by_leaf None e = by_test (nat_le (length g.nodes + length (children_at g x)) g.budget) refl (may_branch g k x cutoff finding grows above h taken e)

-- where the mark is on, the search tree is larger than the budget
pub full_is_larger : (g : Grown) → IsGrowth g → g.full ≡ true → IsLarger g.market g.budget
full_is_larger g grows full = crowded_is_larger g grows (grows.crowded full)

-- ---- events

-- an actor that is there, and a fault that isn't
record Passes (o : Option Actor) (fault : Option StepFault) : Type 0 where
  pub actor : Actor
  pub there : o ≡ Some actor
  pub none : fault ≡ None

passes : (o : Option Actor) (fault : Option StepFault) → by_actor o fault ≡ None → Passes o fault
passes o fault e = grind arith

-- an event that is an entry of the tree
entry_event : (s : Machine) (e : Entry) → KeepsFacts s → IsAllowed s.tree e → IsEntryCutAt s.incumbent e → KeepsFacts (record s { tree = grown s.tree e })
entry_event s e h allowed cut = entry_step_kept {X = Unit {0}} s e (grown s.tree e) (Ok tt) h (entry_kept s.tree e h.tree allowed) cut refl tt

settle_event : (s : Machine) (k x : ℕ) (finding : Finding) → KeepsFacts s → IsProper s (Settle k x finding)
    → Passes (slice_get s.actors k) (return_refused k (state_at s.tree.nodes x))
    → KeepsFacts (after s (Settle k x finding))
settle_event s k x finding h proper p =
    let seen : seen_by (slice_get s.actors k) ≡ p.actor.seen = ap seen_by p.there in
    let above : IsCutoff s.tree.market (seen_by (slice_get s.actors k)) = subst (IsCutoff s.tree.market) (sym seen) (seen_is_cutoff s k p.actor h p.there) in
    let may : IfSome (slice_get s.tree.nodes x) (MaySettle s.tree.market (seen_by (slice_get s.actors k)) finding) =
    subst (λ (w : ℕ). IfSome (slice_get s.tree.nodes x) (MaySettle s.tree.market w finding)) (sym seen) (may_settle_by s k x p.actor finding p.there proper) in
    let below : seen_by (slice_get s.actors k) ≤ s.incumbent = subst (λ (w : ℕ). w ≤ s.incumbent) (sym seen) (actor_at s k p.actor h p.there).below in
    entry_event s (settling s.tree k x (seen_by (slice_get s.actors k)) finding) h
    (settle_allowed s.tree k x (seen_by (slice_get s.actors k)) finding h.tree above may (return_passes k (state_at s.tree.nodes x) p.none))
    (settling_cut s.tree k x (seen_by (slice_get s.actors k)) s.incumbent finding below)

-- each event that is proper and isn't refused keeps all
pub event_kept : (s : Machine) (e : Event) → KeepsFacts s → IsProper s e → refusal s e ≡ None → KeepsFacts (after s e)
event_kept s (Look k) h proper r = look_kept s k (changed (seeing s.incumbent) s.actors k) h refl
event_kept s (Offer k attained) h proper r =
    let p = passes (slice_get s.actors k) None r in
    offer_kept s k (max s.incumbent attained.welfare) attained (changed (offering (max s.incumbent attained.welfare) attained) s.actors k) h proper
    (slice_get_within s.actors k p.actor p.there) refl refl
event_kept s (Take k x) h proper r =
    let p = passes (slice_get s.actors k) (take_refused (state_at s.tree.nodes x)) r in
    entry_event s (TakeEntry k x) h (take_passes (state_at s.tree.nodes x) p.none) tt
event_kept s (Settle k x finding) h proper r =
    settle_event s k x finding h proper (passes (slice_get s.actors k) (return_refused k (state_at s.tree.nodes x)) r)
event_kept s (GiveBack k x) h proper r =
    let p = passes (slice_get s.actors k) (return_refused k (state_at s.tree.nodes x)) r in
    entry_event s (GiveBackEntry k x) h (return_passes k (state_at s.tree.nodes x) p.none) tt

-- ---- lists of events

here_none : (place : ℕ) (o : Option StepFault) (later : Option ReplayFault) → refused_or place o later ≡ None → o ≡ None
here_none place o later e = grind arith

later_none : (place : ℕ) (o : Option StepFault) (later : Option ReplayFault) → refused_or place o later ≡ None → later ≡ None
later_none place o later e = grind arith

-- and so does each list of them
pub events_kept : (n : ℕ) (s : Machine) (events : List Event) → KeepsFacts s → AreProper s events → first_refusal n s events ≡ None → KeepsFacts (after_all s events)
events_kept n s [] h proper r = h
events_kept n s (e ∷ events) h proper r =
    let none : refusal s e ≡ None = here_none (n + 1) (refusal s e) (first_refusal (n + 1) (after s e) events) r in
    events_kept (n + 1) (after s e) events (event_kept s e h proper.0 none) (proper.1 none) (later_none (n + 1) (refusal s e) (first_refusal (n + 1) (after s e) events) r)
