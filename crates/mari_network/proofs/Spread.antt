-- One zone more that is reached.
use Rattle.std.proofs.Common.{◌≡◌, ◌≢◌, ◌⊎◌, Bool, true, false, ℕ, ◌+◌, ◌<◌, ℤ, pos, ◌≤ℤ◌, ◌<ℤ◌, List, [], ◌∷◌, ◌++◌, length, set, arith, refl, sym, ap, subst, ◌∙◌, inl, inr, length-set}
use Rattle.std.proofs.lemmas.List.{get_or_append_left, get_or_push, length_push}
use Rattle.std.proofs.lemmas.Bool.{cases_lt}
use Rattle.std.specs.List.{All, AllZip}
use Rattle.std.proofs.lemmas.List.Elements.{All-contains}
use Rattle.mari_market.specs.declared.market.Border.{Border}
use Rattle.mari_network.specs.declared.chain.Hop.{Hop}
use Rattle.mari_network.specs.declared.network.Crossing.{Crossing}
use Rattle.mari_network.specs.Network.{no_border, border_at, crossing_of, AreMeeting}
use Rattle.mari_market.specs.Sums.{int_at}
use Rattle.mari_network.proofs.Lists.{zip_of}
use Rattle.mari_network.specs.Chain.{no_hop, hop_at, tail_of, head_of, hop_room, room_of, IsHop, HasRoom}
use Rattle.mari_network.specs.Chain.HasRoom.{begins, goes_on}
use Rattle.mari_network.specs.Spread.{is_marked, AreClosed, MarkedInto, Keeps, IsSpread}
use Rattle.mari_network.proofs.Marks.{marked_set, keep_mark, set_mark, count_mark, not_both, is_false}

-- the hops before are as they were
before_push : (hops : List Hop) (h : Hop) (k : ℕ) → k < length hops → hop_at (hops ++ h ∷ []) k ≡ hop_at hops k
before_push hops h k l = get_or_append_left hops (h ∷ []) no_hop k l

last_push : (hops : List Hop) (h : Hop) (k : ℕ) → length hops ≡ k → hop_at (hops ++ h ∷ []) k ≡ h
last_push hops h k e = get_or_push hops h no_hop k e

-- a place in the longer list is one of before, or the last
data Place (n k : ℕ) : Type 0 where
  early : k < n → Place n k
  last : n ≡ k → Place n k

place : (n k : ℕ) → k < n + 1 → Place n k
place n k h = elim (cases_lt k n) [ inl l ↦ early l | inr l ↦ last (omega arith) ]

-- a fact of each hop of before and of the new one
each_push : (P : ℕ → Hop → Type 0) (hops : List Hop) (h : Hop) → ((k : ℕ) → k < length hops → P k (hop_at hops k)) → P (length hops) h → (k : ℕ) → k < length hops + 1 → P k (hop_at (hops ++ h ∷ []) k)
each_push P hops h old new k l = elim (place (length hops) k l) [
  | early e ↦ subst (λ (x : Hop). P k x) (sym (before_push hops h k e)) (old k e)
  | last e ↦ subst (λ (x : Hop). P k x) (sym (last_push hops h k e)) (subst (λ (n : ℕ). P n h) e new)
]

pub room_push : (bs : List Border) (fs : List ℤ) (hops : List Hop) (h : Hop) (d : ℤ) (k : ℕ) → k < length hops
    → ((j : ℕ) → 0 < j → j < length hops → IsHop bs hops j) → HasRoom bs fs hops d k
    → HasRoom bs fs (hops ++ h ∷ []) d k
room_push bs fs hops h d _ l each (begins) = begins
room_push bs fs hops h d _ l each (goes_on k p r rest) =
    let e = before_push hops h k l in
    goes_on k p (subst (λ (x : Hop). d ≤ℤ hop_room bs fs x) (sym e) r)
    (subst (λ (x : Hop). HasRoom bs fs (hops ++ h ∷ []) d x.before) (sym e) (room_push bs fs hops h d (hop_at hops k).before (omega (arith, (each k p l).earlier)) each rest))

-- both ends of a border, from the one where energy leaves and the one where it comes in
both_ends : (P : ℕ → Type 0) (forth : Bool) (b : Border) → P (tail_of forth b) → P (head_of forth b) → P b.from × P b.to
both_ends P forth b t h = grind arith

tail_end : (P : ℕ → Type 0) (forth : Bool) (b : Border) → P b.from → P b.to → P (tail_of forth b)
tail_end P forth b f t = grind arith

-- what a new hop must meet
pub record IsNext (bs : List Border) (fs : List ℤ) (marked : List Bool) (hops : List Hop) (h : Hop) : Type 0 where
  pub at : h.before < length hops
  pub there : h.border < length bs
  pub tail : h.zone ≡ tail_of h.forth (border_at bs h.border)
  pub head : (hop_at hops h.before).zone ≡ head_of h.forth (border_at bs h.border)
  pub room : pos 1 ≤ℤ hop_room bs fs h
  pub fresh : is_marked marked h.zone ≡ false
  pub long : h.zone < length marked

next_hop : (bs : List Border) (fs : List ℤ) (marked : List Bool) (hops : List Hop) (h : Hop)
    → IsNext bs fs marked hops h → ((j : ℕ) → 0 < j → j < length hops → IsHop bs hops j) → (k : ℕ) → 0 < k
    → k < length hops + 1 → IsHop bs (hops ++ h ∷ []) k
next_hop bs fs marked hops h n each k p l = elim (place (length hops) k l) [
  | early e ↦
      let was = each k p e in
      let same = before_push hops h k e in
      let prior = before_push hops h (hop_at hops k).before (omega (arith, was.earlier)) in
      record {
        earlier = subst (λ (x : Hop). x.before < k) (sym same) was.earlier;
        there = subst (λ (x : Hop). x.border < length bs) (sym same) was.there;
        tail = subst (λ (x : Hop). x.zone ≡ tail_of x.forth (border_at bs x.border)) (sym same) was.tail;
        head = subst (λ (x : Hop). (hop_at (hops ++ h ∷ []) x.before).zone ≡ head_of x.forth (border_at bs x.border)) (sym same)
            (subst (λ (x : Hop). x.zone ≡ head_of (hop_at hops k).forth (border_at bs (hop_at hops k).border)) (sym prior) was.head);
      }
  | last e ↦
      let same = last_push hops h k e in
      let prior = before_push hops h h.before n.at in
      record {
        earlier = subst (λ (x : Hop). x.before < k) (sym same) (omega (arith, n.at));
        there = subst (λ (x : Hop). x.border < length bs) (sym same) n.there;
        tail = subst (λ (x : Hop). x.zone ≡ tail_of x.forth (border_at bs x.border)) (sym same) n.tail;
        head = subst (λ (x : Hop). (hop_at (hops ++ h ∷ []) x.before).zone ≡ head_of x.forth (border_at bs x.border)) (sym same)
            (subst (λ (x : Hop). x.zone ≡ head_of h.forth (border_at bs h.border)) (sym prior) n.head);
      }
]

-- no border of before leads from an unmarked zone
other_border : (bs : List Border) (fs : List ℤ) (old : List Bool) (start : ℕ) (marked : List Bool) (hops : List Hop) (h : Hop)
    → IsSpread bs fs old start marked hops → IsNext bs fs marked hops h → (j : ℕ) → 0 < j → j < length hops
    → (hop_at hops j).border ≢ h.border
other_border bs fs old start marked hops h s n j p l e =
    let ends = s.ends j p l in
    let tail = tail_end (λ z. is_marked marked z ≡ true) h.forth (border_at bs (hop_at hops j).border) ends.0 ends.1 in
    let here = subst (λ (i : ℕ). is_marked marked (tail_of h.forth (border_at bs i)) ≡ true) e tail in
    not_both (is_marked marked h.zone) (subst (λ (z : ℕ). is_marked marked z ≡ true) (sym n.tail) here) n.fresh

next_apart : (bs : List Border) (fs : List ℤ) (old : List Bool) (start : ℕ) (marked : List Bool) (hops : List Hop) (h : Hop)
    → IsSpread bs fs old start marked hops → IsNext bs fs marked hops h → (j k : ℕ) → 0 < j → j < k
    → k < length hops + 1 → (hop_at (hops ++ h ∷ []) j).border ≢ (hop_at (hops ++ h ∷ []) k).border
next_apart bs fs old start marked hops h s n j k p q l = elim (place (length hops) k l) [
  | early e ↦ λ same. s.trace.apart j k p q e (ap (λ (x : Hop). x.border) (sym (before_push hops h j (omega arith))) ∙ same ∙ ap (λ (x : Hop). x.border) (before_push hops h k e))
  | last e ↦ λ same. other_border bs fs old start marked hops h s n j p (omega arith)
      (ap (λ (x : Hop). x.border) (sym (before_push hops h j (omega arith))) ∙ same ∙ ap (λ (x : Hop). x.border) (last_push hops h k e))
]

-- one zone more
pub spread_more : (bs : List Border) (fs : List ℤ) (old : List Bool) (start : ℕ) (marked : List Bool) (hops : List Hop) (h : Hop)
    → IsSpread bs fs old start marked hops → IsNext bs fs marked hops h
    → IsSpread bs fs old start (set marked h.zone true) (hops ++ h ∷ [])
spread_more bs fs old start marked hops h s n =
    let new = set marked h.zone true in
    let more = hops ++ h ∷ [] in
    let len : length (hops ++ h ∷ []) ≡ length hops + 1 = length_push hops h in
    let here : is_marked (set marked h.zone true) h.zone ≡ true = set_mark marked h.zone n.long in
    let keep : (z : ℕ) → is_marked marked z ≡ true → is_marked (set marked h.zone true) z ≡ true = λ z e. keep_mark marked h.zone z e in
    let each : (k : ℕ) → 0 < k → k < length hops + 1 → IsHop bs (hops ++ h ∷ []) k = next_hop bs fs marked hops h n s.trace.each in
    record {
      some = omega (arith, len);
      first = ap (λ (x : Hop). x.zone) (before_push hops h 0 s.some) ∙ s.first;
      trace = record {
        each = λ k p l. each k p (omega (arith, len));
        apart = λ j k p q l. next_apart bs fs old start marked hops h s n j k p q (omega (arith, len));
      };
      room = λ k l. elim (place (length hops) k (omega (arith, len))) [
        | early e ↦ room_push bs fs hops h (pos 1) k e s.trace.each (s.room k e)
        | last e ↦
            let same = last_push hops h k e in
            goes_on k (omega (arith, s.some)) (subst (λ (x : Hop). pos 1 ≤ℤ hop_room bs fs x) (sym same) n.room)
            (subst (λ (x : Hop). HasRoom bs fs (hops ++ h ∷ []) (pos 1) x.before) (sym same) (room_push bs fs hops h (pos 1) h.before n.at s.trace.each (s.room h.before n.at)))
      ];
      ends = λ k p l.
          each_push
          (λ k x. 0 < k → (is_marked (set marked h.zone true) (border_at bs x.border).from ≡ true) × (is_marked (set marked h.zone true) (border_at bs x.border).to ≡ true))
          hops h
          (λ k l p. (keep _ (s.ends k p l).0, keep _ (s.ends k p l).1))
          (λ _. both_ends (λ z. is_marked (set marked h.zone true) z ≡ true) h.forth (border_at bs h.border) (subst (λ (z : ℕ). is_marked (set marked h.zone true) z ≡ true) n.tail here)
          (subst (λ (z : ℕ). is_marked (set marked h.zone true) z ≡ true) n.head (keep _ (s.zones h.before n.at).0)))
          k (omega (arith, len)) p;
      zones = λ k l. each_push (λ k x. (is_marked (set marked h.zone true) x.zone ≡ true) × (is_marked old x.zone ≡ false)) hops h
          (λ k l. (keep _ (s.zones k l).0, (s.zones k l).1))
          (here, is_false (is_marked old h.zone) (is_marked marked h.zone) (s.keeps h.zone) n.fresh)
          k (omega (arith, len));
      news = λ z e. elim (marked_set marked h.zone z e) [
        | inl same ↦ inr (length hops, omega (arith, len), ap (λ (x : Hop). x.zone) (last_push hops h (length hops) refl) ∙ sym same)
        | inr was ↦ elim (s.news z was) [
          | inl o ↦ inl o
          | inr k ↦ inr (k.0, omega (arith, len, k.1), ap (λ (x : Hop). x.zone) (before_push hops h k.0 k.1) ∙ k.2)
        ]
      ];
      keeps = λ z e. keep z (s.keeps z e);
      count = omega (arith, len, s.count, count_mark marked h.zone n.long n.fresh);
      long = length-set marked h.zone true ∙ s.long;
    }

-- the first zone alone
pub spread_first : (bs : List Border) (fs : List ℤ) (old : List Bool) (h : Hop) → h.zone < length old → is_marked old h.zone ≡ false → IsSpread bs fs old h.zone (set old h.zone true) (h ∷ [])
spread_first bs fs old h l e = record {
  some = omega arith;
  first = refl;
  trace = record { each = λ k p l. absurd (omega arith); apart = λ j k p q l. absurd (omega arith) };
  room = λ k l. let z : 0 ≡ k = omega arith in subst (λ (n : ℕ). HasRoom bs fs (h ∷ []) (pos 1) n) z begins;
  ends = λ k p l. absurd (omega arith);
  zones = λ k m. let z : 0 ≡ k =
      omega arith in subst (λ (n : ℕ). (is_marked (set old h.zone true) (hop_at (h ∷ []) n).zone ≡ true) × (is_marked old (hop_at (h ∷ []) n).zone ≡ false)) z (set_mark old h.zone l, e);
  news = λ z m. elim (marked_set old h.zone z m) [ inl same ↦ inr (0, omega arith, sym same) | inr was ↦ inl was ];
  keeps = λ z m. keep_mark old h.zone z m;
  count = omega (arith, count_mark old h.zone l e);
  long = length-set old h.zone true;
}

-- marks that only grow
pub into_keeps : (marked new : List Bool) (y : ℕ) (bs : List Border) (fs : List ℤ) → Keeps marked new → AllZip (MarkedInto marked y) bs fs → AllZip (MarkedInto new y) bs fs
into_keeps marked new y (b ∷ bs) (f ∷ fs) k a = (λ forth r e. k _ (a.0 forth r e), into_keeps marked new y bs fs k a.1)
into_keeps marked new y _ _ k a = grind arith

-- what each new zone is led to from is marked, and so is all that old ones are
pub closed_more : (old marked : List Bool) (hops : List Hop) (bs : List Border) (fs : List ℤ)
    → ((z : ℕ) → is_marked marked z ≡ true → (is_marked old z ≡ true) ⊎ ((k : ℕ) × (k < length hops) × ((hop_at hops k).zone ≡ z)))
    → Keeps old marked → ((k : ℕ) → k < length hops → AllZip (MarkedInto marked (hop_at hops k).zone) bs fs)
    → AreClosed bs fs old → AreClosed bs fs marked
closed_more old marked hops (b ∷ bs) (f ∷ fs) news k into a = (
  λ forth r m. elim (news (head_of forth b) m) [
    | inl o ↦ k _ (a.0 forth r o)
    | inr i ↦ (into i.0 i.1).0 forth r (sym i.2)
  ],
  closed_more old marked hops bs fs news k (λ i l. (into i l).1) a.1,
)
closed_more old marked hops _ _ news k into a = grind arith

-- where all zones are marked, all that is led to is
pub closed_all : (marked : List Bool) (bs : List Border) (fs : List ℤ) → AllZip (λ b f. (b.from < length marked) × (b.to < length marked)) bs fs
    → ((z : ℕ) → z < length marked → is_marked marked z ≡ true) → AreClosed bs fs marked
closed_all marked (b ∷ bs) (f ∷ fs) ends all = (
  λ forth r m. all (tail_of forth b) (tail_end (λ z. z < length marked) forth b ends.0.0 ends.0.1),
  closed_all marked bs fs ends.1 all,
)
closed_all marked _ _ ends all = grind arith

-- where energy can come over the crossing, the zone that it comes from is marked
abbrev pub Leads : List Border → List ℤ → List Bool → Crossing → Type 0
Leads bs fs marked w = pos 0 <ℤ room_of w.forth (border_at bs w.border) (int_at fs w.border) → is_marked marked w.from ≡ true

-- it is enough to look along the crossings into a zone
pub all_into : (bs : List Border) (fs : List ℤ) (marked : List Bool) (y : ℕ) (crossings : List Crossing) → length bs ≡ length fs
    → AreMeeting bs y crossings → All (Leads bs fs marked) crossings → AllZip (MarkedInto marked y) bs fs
all_into bs fs marked y crossings e m a = zip_of (MarkedInto marked y) bs fs no_border (pos 0) e
    (λ k l forth r h. All-contains (Leads bs fs marked) crossings (crossing_of bs k forth) a (m.all k forth l h) r)
