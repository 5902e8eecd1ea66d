-- Pushing along chains.
use Rattle.std.proofs.Common.{◌≡◌, ◌==◌, ◌≢◌, if◌then◌else◌, Bool, true, false, ℕ, suc, ◌<◌, ◌≤◌, ℤ, pos, ◌+ℤ◌, ◌-ℤ◌, ◌*ℤ◌, neg_ℤ, ◌≤ℤ◌, ◌<ℤ◌, List, length, get_or, set, arith, sym, ap, subst, get_or-set_other}
use Rattle.std.proofs.lemmas.Int.{ints}
use Rattle.std.specs.List.{AllZip}
use Rattle.mari_market.specs.declared.market.Border.{Border}
use Rattle.mari_market.specs.Sums.{sum_along, int_at}
use Rattle.mari_market.specs.Activation.{IsWithinLimits, carried_out}
use Rattle.mari_market.proofs.Sums.{sum_along-set, AllZip-set, AllZip-at}
use Rattle.mari_market.proofs.Ints.{mul-add_z, mul-neg_z, pos_mul_lt, sub-mul_z}
use Rattle.mari_market.proofs.Duality.{pushed, if_sum}
use Rattle.mari_network.specs.declared.slots.Slot.{Slot}
use Rattle.mari_network.specs.declared.chain.Hop.{Hop}
use Rattle.mari_network.specs.Slots.{slot_at, no_slot, at_zone, slot_into, slot_gain, IsWithinSlot}
use Rattle.mari_network.specs.Network.{no_border, border_at}
use Rattle.mari_network.specs.Chain.{hop_at, tail_of, head_of, room_of, more_flow, hop_room, IsHop, HasRoom}
use Rattle.mari_network.specs.Chain.HasRoom.{begins, goes_on}

pub if_neg : (b : Bool) (d : ℤ) → (if b then neg_ℤ d else pos 0) ≡ neg_ℤ (if b then d else pos 0)
if_neg b d = grind arith

pub if_none : (b : Bool) (f : ℤ) → f ≡ pos 0 → (if b then f else pos 0) ≡ pos 0
if_none b f e = grind arith

-- ---- an amount

pub moved_within : (slots : List Slot) (xs : List ℤ) (i : ℕ) (d : ℤ) → i < length slots
    → IsWithinSlot (slot_at slots i) (int_at xs i +ℤ d) → AllZip IsWithinSlot slots xs
    → AllZip IsWithinSlot slots (set xs i (int_at xs i +ℤ d))
moved_within slots xs i d h w a = AllZip-set IsWithinSlot slots xs i (int_at xs i +ℤ d) no_slot h w a

pub moved_into : (z : ℕ) (slots : List Slot) (xs : List ℤ) (i : ℕ) (d : ℤ) → i < length slots → i < length xs
    → sum_along (slot_into z) slots (set xs i (int_at xs i +ℤ d)) ≡ sum_along (slot_into z) slots xs +ℤ at_zone z (slot_at slots i).zone d
moved_into z slots xs i d h l = omega (arith, ints, sum_along-set (slot_into z) slots xs i (int_at xs i +ℤ d) no_slot (pos 0) h l, if_sum ((slot_at slots i).zone == z) (int_at xs i) d)

pub moved_worth : (slots : List Slot) (xs : List ℤ) (i : ℕ) (d : ℤ) → i < length slots → i < length xs
    → sum_along slot_gain slots (set xs i (int_at xs i +ℤ d)) ≡ sum_along slot_gain slots xs -ℤ ((slot_at slots i).price *ℤ d)
moved_worth slots xs i d h l = omega (arith, ints, sum_along-set slot_gain slots xs i (int_at xs i +ℤ d) no_slot (pos 0) h l, mul-add_z (slot_at slots i).price (int_at xs i) d)

-- ---- a flow

pub flow_within : (forth : Bool) (b : Border) (f d : ℤ) → IsWithinLimits b f → pos 0 ≤ℤ d → d ≤ℤ room_of forth b f → IsWithinLimits b (f +ℤ more_flow forth d)
flow_within true b f d w n r = record { back = omega (arith, ints, w.back, w.limit); limit = omega (arith, ints, w.back, w.limit) }
flow_within false b f d w n r = record { back = omega (arith, ints, w.back, w.limit); limit = omega (arith, ints, w.back, w.limit) }

pub hop_carries : (z : ℕ) (forth : Bool) (b : Border) (d : ℤ) → carried_out z b (more_flow forth d) ≡ at_zone z (tail_of forth b) d -ℤ at_zone z (head_of forth b) d
hop_carries z forth b d = grind (arith, ints)

pub hop_carried : (z : ℕ) (bs : List Border) (fs : List ℤ) (h : Hop) (d : ℤ) → h.border < length bs
    → h.border < length fs
    → sum_along (carried_out z) bs (set fs h.border (get_or fs h.border (pos 0) +ℤ more_flow h.forth d))
    ≡ (sum_along (carried_out z) bs fs +ℤ at_zone z (tail_of h.forth (border_at bs h.border)) d) -ℤ at_zone z
    (head_of h.forth (border_at bs h.border)) d
hop_carried z bs fs h d there l = omega (arith, ints, pushed z bs fs h.border (more_flow h.forth d) no_border there l, hop_carries z h.forth (border_at bs h.border) d)

pub hop_within : (bs : List Border) (fs : List ℤ) (h : Hop) (d : ℤ) → h.border < length bs
    → AllZip IsWithinLimits bs fs → pos 0 ≤ℤ d → d ≤ℤ hop_room bs fs h
    → IsWithinLimits (border_at bs h.border) (get_or fs h.border (pos 0) +ℤ more_flow h.forth d)
hop_within bs fs h d there a n r = flow_within h.forth (border_at bs h.border) (get_or fs h.border (pos 0)) d (AllZip-at IsWithinLimits bs fs h.border no_border (pos 0) there a) n r

pub hop_all_within : (bs : List Border) (fs : List ℤ) (h : Hop) (d : ℤ) → h.border < length bs
    → AllZip IsWithinLimits bs fs → pos 0 ≤ℤ d → d ≤ℤ hop_room bs fs h
    → AllZip IsWithinLimits bs (set fs h.border (get_or fs h.border (pos 0) +ℤ more_flow h.forth d))
hop_all_within bs fs h d there a n r = AllZip-set IsWithinLimits bs fs h.border (get_or fs h.border (pos 0) +ℤ more_flow h.forth d) no_border there (hop_within bs fs h d there a n r) a

-- ---- room

-- what is known of a hop with room
pub record HopHas (bs : List Border) (fs : List ℤ) (hops : List Hop) (d : ℤ) (k : ℕ) : Type 0 where
  pub here : d ≤ℤ hop_room bs fs (hop_at hops k)
  pub rest : HasRoom bs fs hops d (hop_at hops k).before

pub hop_has : (bs : List Border) (fs : List ℤ) (hops : List Hop) (d : ℤ) (k : ℕ) → 0 < k → HasRoom bs fs hops d k → HopHas bs fs hops d k
hop_has bs fs hops d k h x = grind arith

-- a flow over a border that no hop up to a place uses changes no room there
pub room_stays : (bs : List Border) (fs : List ℤ) (hops : List Hop) (d : ℤ) (e : ℕ) (v : ℤ) (m k : ℕ) → k < m
    → m ≤ length hops → ((j : ℕ) → 0 < j → j < length hops → IsHop bs hops j)
    → ((j : ℕ) → 0 < j → j < m → (hop_at hops j).border ≢ e) → HasRoom bs fs hops d k
    → HasRoom bs (set fs e v) hops d k
room_stays bs fs hops d e v m _ h l each other (begins) = begins
room_stays bs fs hops d e v m _ h l each other (goes_on k p r rest) =
    let ne : (hop_at hops k).border ≢ e = other k p h in
    goes_on k p (subst (λ (f : ℤ). d ≤ℤ room_of (hop_at hops k).forth (border_at bs (hop_at hops k).border) f) (sym (get_or-set_other fs e (hop_at hops k).border v (pos 0) ne)) r)
    (room_stays bs fs hops d e v m (hop_at hops k).before (omega (arith, (each k p (omega arith)).earlier)) l each other rest)

-- one hop further back
pub one_hop : (z : ℕ) (bs : List Border) (hops : List Hop) (k at : ℕ) (d new now old : ℤ) → IsHop bs hops k
    → new ≡ (now +ℤ at_zone z (tail_of (hop_at hops k).forth (border_at bs (hop_at hops k).border)) d) -ℤ at_zone z (head_of (hop_at hops k).forth (border_at bs (hop_at hops k).border)) d
    → (now +ℤ at_zone z (hop_at hops k).zone d) ≡ old +ℤ at_zone z (hop_at hops at).zone d
    → (new +ℤ at_zone z (hop_at hops (hop_at hops k).before).zone d) ≡ old +ℤ at_zone z (hop_at hops at).zone d
one_hop z bs hops k at d new now old hop e f =
    let t = ap (λ (y : ℕ). at_zone z y d) hop.tail in
    let h = ap (λ (y : ℕ). at_zone z y d) hop.head in
    omega (arith, ints, e, f, t, h)

pub dearer_rises : (a b d : ℤ) → a <ℤ b → pos 1 ≤ℤ d → (a *ℤ d) <ℤ (b *ℤ d)
dearer_rises a b (pos (suc n)) h l = omega (arith, ints, pos_mul_lt n a b h)
dearer_rises a b _ h l = grind arith

-- what a move from one slot to another does to the worth
pub move_worth : (a b d old mid new : ℤ) → mid ≡ old -ℤ (b *ℤ neg_ℤ d) → new ≡ mid -ℤ (a *ℤ d) → new ≡ old +ℤ ((b -ℤ a) *ℤ d)
move_worth a b d old mid new e f = omega (arith, ints, sub-mul_z b a d, mul-neg_z b d, e, f)

-- from a cheaper slot to a dearer one it rises
pub move_rises : (a b d old mid new : ℤ) → a <ℤ b → pos 1 ≤ℤ d → mid ≡ old -ℤ (b *ℤ neg_ℤ d) → new ≡ mid -ℤ (a *ℤ d) → old <ℤ new
move_rises a b d old mid new h l e f = omega (arith, ints, dearer_rises a b d h l, mul-neg_z b d, e, f)

-- and to the balance of a zone
pub move_balances : (z sink source first last : ℕ) (d into mid after out carried : ℤ) → sink ≡ first → source ≡ last
    → mid ≡ into +ℤ at_zone z sink (neg_ℤ d) → after ≡ mid +ℤ at_zone z source d
    → (carried +ℤ at_zone z first d) ≡ out +ℤ at_zone z last d → into ≡ out → after ≡ carried
move_balances z sink source first last d into mid after out carried s t e f g h =
    let a = ap (λ (y : ℕ). at_zone z y d) s in
    let b = ap (λ (y : ℕ). at_zone z y d) t in
    omega (arith, ints, if_neg (sink == z) d, a, b, e, f, g, h)

-- two slots of other prices are two
pub other_slot : (slots : List Slot) (i j : ℕ) → (slot_at slots j).price <ℤ (slot_at slots i).price → i ≢ j
other_slot slots i j h e = let same = ap (λ (k : ℕ). (slot_at slots k).price) e in absurd (omega (arith, ints, same, h))
