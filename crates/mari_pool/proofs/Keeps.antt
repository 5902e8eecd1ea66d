-- What always holds of a pool is kept by an entry, and where seats meet.
use Rattle.std.proofs.Common.{◌≡◌, Bool, true, false, ℕ, ◌+◌, ◌*◌, ◌-◌, ◌<◌, ◌≤◌, max, pos, List, [], ◌∷◌, ◌++◌, length, nat_le, Option, Some, arith, refl, sym, ap, subst, ◌∙◌, length-append, zero, suc, replicate, get_or}
use Rattle.std.specs.Prelude.{slice_get, IfSome}
use Rattle.std.proofs.lemmas.Int.{ints}
use Rattle.std.proofs.lemmas.List.{length-replicate}
use Rattle.std.proofs.lemmas.Option.{slice_get-get_or, get_or_from_slice_get}
use Rattle.mari_market.specs.declared.certificate.Leaf.{Leaf}
use Rattle.mari_market.specs.declared.market.Market.{Market}
use Rattle.mari_market.specs.declared.finding.Finding.{Finding}
use Rattle.mari_core.specs.declared.node.NodeState.TheVariants.{Untaken, Taken, Closed}
use Rattle.mari_core.specs.declared.journal.JournalEntry.{JournalEntry}
use Rattle.mari_core.specs.Nodes.{TreeNode, new_node, words_of, state_at}
use Rattle.mari_core.specs.Growth.{Grown, Entry, seed, grown, settling, settling_by, in_journal, IsAllowed, IsCutoff, IsGrowth, IsEntryCutAt, closing_leaf, MaySettle}
use Rattle.mari_core.specs.Growth.Entry.{Take, Close, Branch, Full, GiveBack}
use Rattle.mari_core.specs.declared.journal.JournalEntry.TheVariants as journal
use Rattle.mari_pool.specs.declared.ticket.Settled.TheVariants as settled
use Rattle.mari_core.proofs.Entries.{entry_kept}
use Rattle.mari_core.proofs.EventsKept.{settle_allowed}
use Rattle.mari_core.proofs.Machines.{grown_market, settling_cut}
use Rattle.mari_core.proofs.Changes.{length-with_state}
use Rattle.mari_core.proofs.Journals.{grown_budget, leads_on, leads_above, leads_nowhere}
use Rattle.mari_core.proofs.Seeds.{seed_by}
use Rattle.mari_market.specs.Clearing.{IsBudget}
use Rattle.mari_market.specs.Market.{IsValid}
use Rattle.mari_market.specs.Relaxation.{IsClosedWelfare}
use Rattle.mari_incumbent.specs.Incumbent.{IncumbentId, SeatView, IsFresh}
use Rattle.mari_pool.specs.Pooled.{Pooled, AreTurns, IsPool, unreturned, owed, keys_after, meeting, settled_with, answer_of}
use Rattle.mari_pool.specs.Queued.{first_key, child_key}
use Rattle.mari_pool.proofs.Queues.{made}
use Rattle.mari_pool.proofs.Turns.{turns_branch, turns_close, turns_full, turns_start}
use Rattle.mari_pool.proofs.Rooms.{IsPaid, entry_paid, settling_paid, unreturned_all, owed_more}

-- the journal has room for an entry that is paid
pub has_room : (m : Market) (budget workers : ℕ) (incumbent : IncumbentId) (p : Pooled) (e : Entry) (after : ℕ)
    → IsPool m budget workers incumbent p → IsAllowed p.tree e → IsPaid p.tree e (unreturned p.returned) after
    → length p.journal < p.room
has_room m budget workers incumbent p e after h may paid = omega (arith, entry_paid p.tree e (unreturned p.returned) after h.grows.within_budget may paid, h.room_is)

-- a pool of these parts
abbrev pub pool_of : Grown → List ℕ → List JournalEntry → ℕ → List ℕ → List Bool → SeatView → Pooled
pool_of tree keys journal room turns returned seat = record { tree = tree; keys = keys; journal = journal; room = room; turns = turns; returned = returned; seat = seat }

-- an entry for which there is room keeps what holds
pub entry_keeps_by : (m : Market) (budget workers : ℕ) (incumbent : IncumbentId) (p : Pooled) (e : Entry) (keys turns : List ℕ) (returned : List Bool)
    → IsPool m budget workers incumbent p → IsAllowed p.tree e
    → length p.journal + 1 + owed (grown p.tree e) returned ≤ p.room → IsEntryCutAt p.seat.seen e
    → length keys ≡ length (grown p.tree e).nodes → length turns ≡ length p.turns
    → length returned ≡ length p.returned → AreTurns (grown p.tree e).nodes turns (p.journal ++ in_journal e ∷ [])
    → IsPool m budget workers incumbent (pool_of (grown p.tree e) keys (p.journal ++ in_journal e ∷ []) p.room turns returned p.seat)
entry_keeps_by m budget workers incumbent p e keys turns returned h may room cut ks t r report = grind (arith, grown_market, grown_budget, entry_kept, leads_on, length-append)

-- a paid entry keeps what holds
pub entry_keeps : (m : Market) (budget workers : ℕ) (incumbent : IncumbentId) (p : Pooled) (e : Entry) (keys turns : List ℕ) (returned : List Bool)
    → IsPool m budget workers incumbent p → IsAllowed p.tree e
    → IsPaid p.tree e (unreturned p.returned) (unreturned returned) → IsEntryCutAt p.seat.seen e
    → length keys ≡ length (grown p.tree e).nodes → length turns ≡ length p.turns
    → length returned ≡ length p.returned → AreTurns (grown p.tree e).nodes turns (p.journal ++ in_journal e ∷ [])
    → IsPool m budget workers incumbent (pool_of (grown p.tree e) keys (p.journal ++ in_journal e ∷ []) p.room turns returned p.seat)
entry_keeps m budget workers incumbent p e keys turns returned h may paid cut ks t r report =
    entry_keeps_by m budget workers incumbent p e keys turns returned h may
    (omega (arith, entry_paid p.tree e (unreturned p.returned) (unreturned returned) h.grows.within_budget may paid, h.room_is)) cut ks t r report

-- how much is owed once a taken node is put back
pub back_owed : (g : Grown) (k x : ℕ) (returned : List Bool) → IsGrowth g → state_at g.nodes x ≡ Some (Taken k) → owed (grown g (GiveBack k x)) returned ≤ owed g returned + 1
back_owed g k x returned grows taken = omega (arith, entry_paid g (GiveBack k x) (unreturned returned + 1) (unreturned returned) grows.within_budget taken refl, owed_more g (unreturned returned))

-- where the pool's seat sees more
pub meeting_keeps : (m : Market) (budget workers : ℕ) (incumbent : IncumbentId) (p : Pooled) (seen : ℕ) → IsPool m budget workers incumbent p → IsPool m budget workers incumbent (meeting p seen)
meeting_keeps m budget workers incumbent p seen h = grind (arith, leads_above)

pub may_settle_node : (m : Market) (seen : ℕ) (f : Finding) (word : List Bool) (nodes : List TreeNode) (x : ℕ)
    → slice_get (words_of nodes) x ≡ Some word → MaySettle m seen f (new_node word)
    → IfSome (slice_get nodes x) (MaySettle m seen f)
may_settle_node m seen f word [] x e may = absurd (cc)
may_settle_node m seen f word (n ∷ ns) zero e may = grind arith
may_settle_node m seen f word (n ∷ ns) (suc x) e may = may_settle_node m seen f word ns x e may

-- a seat of the incumbent has seen a cutoff
pub seat_cutoff : (m : Market) (budget workers : ℕ) (incumbent : IncumbentId) (p : Pooled) (seen : ℕ) → IsPool m budget workers incumbent p → incumbent.first ≤ seen → IsCutoff p.tree.market seen
seat_cutoff m budget workers incumbent p seen h l = subst (λ (n : Market). IsCutoff n seen) (sym h.market_is) record {
  closed = pos incumbent.first;
  is_closed = h.closed;
  above = omega (arith, ints, l);
}

-- to settle a taken node is allowed
pub may_settle : (m : Market) (budget workers : ℕ) (incumbent : IncumbentId) (p : Pooled) (k x seen : ℕ) (f : Finding) (gates : List Bool)
    → IsPool m budget workers incumbent p → incumbent.first ≤ seen → state_at p.tree.nodes x ≡ Some (Taken k)
    → slice_get (words_of p.tree.nodes) x ≡ Some gates → MaySettle m seen f (new_node gates)
    → IsAllowed p.tree (settling p.tree k x seen f)
may_settle m budget workers incumbent p k x seen f gates h l taken at may =
    settle_allowed p.tree k x seen f h.grows (seat_cutoff m budget workers incumbent p seen h l)
    (may_settle_node p.tree.market seen f gates p.tree.nodes x at (subst (λ (n : Market). MaySettle n seen f (new_node gates)) (sym h.market_is) may)) taken

-- a pool of the same parts
pub pool_same : (m : Market) (budget workers : ℕ) (incumbent : IncumbentId) (t t' : Grown) (ks ks' : List ℕ) (j j' : List JournalEntry) (r r' : ℕ) (turns : List ℕ)
    (returned : List Bool) (s s' : SeatView)
    → t' ≡ t → ks' ≡ ks → j' ≡ j → r' ≡ r → s' ≡ s
    → IsPool m budget workers incumbent (pool_of t ks j r turns returned s)
    → IsPool m budget workers incumbent (pool_of t' ks' j' r' turns returned s')
pool_same m budget workers incumbent t t' ks ks' j j' r r' turns returned s s' et ek ej er es h = rw (et, ek, ej, er, es) h

pub pool_parts : (t t' : Grown) (ks ks' : List ℕ) (j j' : List JournalEntry) (r r' : ℕ) (turns : List ℕ) (returned : List Bool) (s s' : SeatView)
    → t' ≡ t → ks' ≡ ks → j' ≡ j → r' ≡ r → s' ≡ s
    → pool_of t' ks' j' r' turns returned s' ≡ pool_of t ks j r turns returned s
pool_parts t t' ks ks' j j' r r' turns returned s s' et ek ej er es = rw (et, ek, ej, er, es) refl

-- no entry makes nodes fewer
pub grown_longer : (g : Grown) (e : Entry) → length g.nodes ≤ length (grown g e).nodes
grown_longer g (Take k x) = omega (arith, length-with_state (Taken k) g.nodes x)
grown_longer g (Close k x leaf cutoff) = omega (arith, length-with_state (Closed leaf cutoff) g.nodes x)
grown_longer g (Branch k x cutoff) = omega (arith, made g k x cutoff)
grown_longer g (Full k x cutoff) = omega (arith, length-with_state Untaken g.nodes x)
grown_longer g (GiveBack k x) = omega (arith, length-with_state Untaken g.nodes x)

-- each node has a key after an entry
keys_enough : (g : Grown) (e : Entry) (keys : List ℕ) (key : ℕ) → length keys ≡ length g.nodes → length (keys_after g e keys key) ≡ length (grown g e).nodes
keys_enough g e keys key h = grind (arith, length-append, length-replicate, grown_longer)

-- a node that is settled leaves the turns of all others
settling_turns : (g : Grown) (k x cutoff : ℕ) (turns : List ℕ) (entries : List JournalEntry) (o : Option Leaf)
    → AreTurns g.nodes turns entries
    → AreTurns (grown g (settling_by g k x cutoff o)).nodes turns (entries ++ in_journal (settling_by g k x cutoff o) ∷ [])
settling_turns g k x cutoff turns entries o h = grind (arith, turns_close, nat_le, turns_branch, turns_full)

-- the seats meet, and a taken node is settled
pub settle_keeps : (m : Market) (budget workers : ℕ) (incumbent : IncumbentId) (p : Pooled) (k x seen : ℕ) (f : Finding)
    → IsPool m budget workers incumbent p → IsAllowed p.tree (settling p.tree k x seen f)
    → IsPool m budget workers incumbent (settled_with p k x seen f)
settle_keeps m budget workers incumbent p k x seen f h may =
    let e = settling p.tree k x seen f in
    entry_keeps m budget workers incumbent (meeting p seen) e (keys_after p.tree e p.keys (child_key f)) p.turns p.returned
    (meeting_keeps m budget workers incumbent p seen h) may (settling_paid p.tree k x seen (unreturned p.returned) (closing_leaf seen f))
    (settling_cut p.tree k x seen (max p.seat.seen seen) f (omega arith)) (keys_enough p.tree e p.keys (child_key f) h.keys_are) refl refl
    (settling_turns p.tree k x seen p.turns p.journal (closing_leaf seen f) h.turns_report)

-- ---- what became of a node

pub answer_close : (g : Grown) (e : Entry) (a b c : ℕ) → in_journal e ≡ journal.Close a b c → answer_of g e ≡ settled.Closed
answer_close g e a b c h = grind arith

pub answer_branch : (g : Grown) (e : Entry) (a b c : ℕ) → in_journal e ≡ journal.Branch a b c → answer_of g e ≡ settled.Branched
answer_branch g e a b c h = grind arith

pub answer_full : (g : Grown) (e : Entry) (a b c : ℕ) → in_journal e ≡ journal.Full a b c → answer_of g e ≡ settled.Full (length (grown g e).nodes)
answer_full g e a b c h = grind (arith, length-with_state)

-- ---- the start

pub start_keeps : (m n : Market) (b budget w workers : ℕ) (incumbent : IncumbentId) (t : Grown) (ks : List ℕ) (j : List JournalEntry) (room : ℕ) (turns : List ℕ)
    (returned : List Bool) (seat : SeatView)
    → m ≡ n → b ≡ budget → w ≡ workers → IsValid m → IsBudget b → IsFresh incumbent seat
    → IsClosedWelfare m (pos incumbent.first) → t ≡ seed m b → ks ≡ first_key ∷ [] → j ≡ [] → 2 * b + 2 * w + 2 ≤ room
    → turns ≡ replicate b 0 → returned ≡ replicate (w + 1) false
    → IsPool n budget workers incumbent (pool_of t ks j room turns returned seat)
start_keeps m n b budget w workers incumbent t ks j room turns returned seat em eb ew valid few fresh closed et ek ej er eturns ereturned =
    subst (λ (k : Market). IsPool k budget workers incumbent (pool_of t ks j room turns returned seat)) em (rw (et, ek, ej, eturns, ereturned) (record {
      market_is = refl;
      budget_is = eb;
      grows = (seed_by m b [] refl valid few).0;
      leads = leads_nowhere seat.seen m b;
      keys_are = refl;
      closed = closed;
      fresh = fresh;
      room_is = omega (arith, unreturned_all (w + 1), er, few.0);
      turns_are = length-replicate b 0 ∙ eb;
      turns_report = turns_start m b (replicate b 0);
      returned_are = length-replicate (w + 1) false ∙ ap (λ (k : ℕ). k + 1) ew;
    }))

-- ---- worker numbers

pub not_returned : (bs : List Bool) (k : ℕ) (b : Bool) → k < length bs → b ≡ get_or bs k b → b ≡ false → slice_get bs k ≡ Some false
not_returned bs k b l e f = slice_get-get_or bs k b l ∙ ap (λ (c : Bool). Some c) (sym e ∙ f)

pub not_again : (bs : List Bool) (k : ℕ) (b : Bool) → b ≡ get_or bs k b → b ≡ false → slice_get bs k ≡ Some true → ⊥
not_again bs k b e f g = let t : get_or bs k b ≡ true = get_or_from_slice_get bs k true b g in absurd (cc)
