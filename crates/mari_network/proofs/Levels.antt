-- One level of prices more, and the last.
use Rattle.std.proofs.Common.{◌≡◌, ◌≢◌, ◌∙◌, Bool, true, false, ℕ, ◌+◌, ◌<◌, ℤ, pos, neg_ℤ, ◌≤ℤ◌, ◌<ℤ◌, List, [], ◌∷◌, length, get_or, set, arith, inl, inr, ap, sym, subst}
use Rattle.std.proofs.lemmas.List.{get_or-set_same, get_or-set_other}
use Rattle.std.proofs.lemmas.Bool.{cases_lt, cases_eq}
use Rattle.std.proofs.lemmas.Int.{ints}
use Rattle.std.specs.List.{AllZip}
use Rattle.mari_market.specs.declared.market.Border.{Border}
use Rattle.mari_network.specs.declared.slots.Slot.{Slot}
use Rattle.mari_network.specs.declared.chain.Hop.{Hop}
use Rattle.mari_network.specs.declared.slots.TheConstants.{BEYOND}
use Rattle.mari_market.specs.Sums.{int_at}
use Rattle.mari_network.specs.Slots.{zone_of, price_of}
use Rattle.mari_network.specs.Chain.{tail_of, head_of, room_of, hop_at}
use Rattle.mari_network.specs.Spread.{is_marked, AreClosed, Keeps, IsSpread}
use Rattle.mari_network.specs.Margins.{IsDearest, NoneLess, NoneCheaper}
use Rattle.mari_network.specs.Levels.{OrderedOver, AreLevels, AreTight}
use Rattle.mari_market.specs.Consistent.{IsConsistentFlow}
use Rattle.mari_network.proofs.Marks.{is_false, not_both, marked_or}

-- the prices of a stage: those marked before keep theirs, and those marked in it have the level
pub record IsLevel (old marked : List Bool) (p q : ℕ → ℤ) (v : ℤ) : Type 0 where
  pub keep : (z : ℕ) → is_marked old z ≡ true → q z ≡ p z
  pub level : (z : ℕ) → is_marked old z ≡ false → is_marked marked z ≡ true → q z ≡ v

-- the prices of the last: those marked before keep theirs, and all others have the level
pub record IsLast (old : List Bool) (p q : ℕ → ℤ) (v : ℤ) : Type 0 where
  pub keep : (z : ℕ) → is_marked old z ≡ true → q z ≡ p z
  pub level : (z : ℕ) → is_marked old z ≡ false → z < length old → q z ≡ v

-- the zones of the first n hops have the value, and others keep theirs
pub record AreGiven {X : Type 0} (d : X) (hops : List Hop) (old : List X) (v : X) (n : ℕ) (new : List X) : Type 0 where
  pub here : (k : ℕ) → k < n → get_or new (hop_at hops k).zone d ≡ v
  pub others : (z : ℕ) → ((k : ℕ) → k < n → (hop_at hops k).zone ≡ z → ⊥) → get_or new z d ≡ get_or old z d

-- one zone more
pub given_more : {X : Type 0} (d : X) (hops : List Hop) (old new : List X) (v : X) (n : ℕ) → (hop_at hops n).zone < length new
    → AreGiven d hops old v n new → AreGiven d hops old v (n + 1) (set new (hop_at hops n).zone v)
given_more {X = X} d hops old new v n there a = record {
  here = λ k l. elim (cases_eq (hop_at hops k).zone (hop_at hops n).zone) [
    | inl same ↦ subst (λ (z : ℕ). get_or (set new (hop_at hops n).zone v) z d ≡ v) (sym same) (get_or-set_same new (hop_at hops n).zone v d there)
    | inr apart ↦ elim (cases_lt k n) [
      | inl b ↦ get_or-set_other new (hop_at hops n).zone (hop_at hops k).zone v d apart ∙ a.here k b
      | inr b ↦ let is : k ≡ n = omega arith in absurd (apart (ap (λ (j : ℕ). (hop_at hops j).zone) is))
    ]
  ];
  others = λ z none.
      let apart : z ≢ (hop_at hops n).zone = λ e. none n (omega arith) (sym e) in
      get_or-set_other new (hop_at hops n).zone z v d apart ∙ a.others z (λ k l e. none k (omega arith) e);
}

-- the prices of the zones that a stage marked
pub level_of : (bs : List Border) (fs : List ℤ) (old marked : List Bool) (hops : List Hop) (start : ℕ) (ps qs : List ℤ) (v : ℤ)
    → IsSpread bs fs old start marked hops → ((k : ℕ) → k < length hops → int_at qs (hop_at hops k).zone ≡ v)
    → ((z : ℕ) → ((k : ℕ) → k < length hops → (hop_at hops k).zone ≡ z → ⊥) → int_at qs z ≡ int_at ps z)
    → IsLevel old marked (int_at ps) (int_at qs) v
level_of bs fs old marked hops start ps qs v s here others = record {
  keep = λ z m. others z (λ k l e. not_both (is_marked old z) m (subst (λ (y : ℕ). is_marked old y ≡ false) e (s.zones k l).1));
  level = λ z u m. elim (s.news z m) [
    | inl o ↦ absurd (not_both (is_marked old z) o u)
    | inr k ↦ subst (λ (y : ℕ). int_at qs y ≡ v) k.2 (here k.0 k.1)
  ];
}

ordered_more : (bs : List Border) (fs : List ℤ) (old marked : List Bool) (p q : ℕ → ℤ) (v : ℤ) → IsLevel old marked p q v
    → ((z : ℕ) → is_marked old z ≡ true → v ≤ℤ p z) → AreClosed bs fs old
    → AreClosed bs fs marked → AllZip (OrderedOver (is_marked old) p) bs fs
    → AllZip (OrderedOver (is_marked marked) q) bs fs
ordered_more (b ∷ bs) (f ∷ fs) old marked p q v l top was now o = (
  λ forth r m. elim (marked_or (is_marked old (head_of forth b))) [
    | inl h ↦ omega (arith, ints, l.keep (head_of forth b) h, l.keep (tail_of forth b) (was.0 forth r h), o.0 forth r h)
    | inr h ↦
        let t = now.0 forth r m in
        let level = l.level (head_of forth b) h m in
        elim (marked_or (is_marked old (tail_of forth b))) [
          | inl i ↦ omega (arith, ints, level, l.keep (tail_of forth b) i, top (tail_of forth b) i)
          | inr i ↦ omega (arith, ints, level, l.level (tail_of forth b) i t)
        ]
  ],
  ordered_more bs fs old marked p q v l top was.1 now.1 o.1,
)
ordered_more _ _ old marked p q v l top a b o = grind arith

-- a stage that finds no cheaper slot
pub levels_more : (slots : List Slot) (bs : List Border) (xs fs : List ℤ) (old marked : List Bool) (p q : ℕ → ℤ) (i : ℕ)
    → AreLevels slots bs xs fs old p → IsDearest slots xs old i → neg_ℤ BEYOND ≤ℤ price_of slots i
    → IsLevel old marked p q (price_of slots i) → Keeps old marked → AreClosed bs fs marked
    → NoneCheaper slots xs marked (price_of slots i) → AreLevels slots bs xs fs marked q
levels_more slots bs xs fs old marked p q i a d low l keeps closed none = record {
  closed = closed;
  ordered = ordered_more bs fs old marked p q (price_of slots i) l (λ z m. a.later z i m d.less d.unmarked) a.closed closed a.ordered;
  floored = λ z m. elim (marked_or (is_marked old z)) [
    | inl h ↦ omega (arith, ints, l.keep z h, a.floored z h)
    | inr h ↦ omega (arith, ints, l.level z h m, low)
  ];
  sinks = λ k can m. elim (marked_or (is_marked old (zone_of slots k))) [
    | inl h ↦ omega (arith, ints, l.keep (zone_of slots k) h, a.sinks k can h)
    | inr h ↦ omega (arith, ints, l.level (zone_of slots k) h m, d.top k can h)
  ];
  sources = λ k can m. elim (marked_or (is_marked old (zone_of slots k))) [
    | inl h ↦ omega (arith, ints, l.keep (zone_of slots k) h, a.sources k can h)
    | inr h ↦ omega (arith, ints, l.level (zone_of slots k) h m, none k can m)
  ];
  later = λ z k m can n.
      let was = is_false (is_marked old (zone_of slots k)) (is_marked marked (zone_of slots k)) (keeps (zone_of slots k)) n in
      elim (marked_or (is_marked old z)) [
        | inl h ↦ omega (arith, ints, l.keep z h, a.later z k h can was)
        | inr h ↦ omega (arith, ints, l.level z h m, d.top k can was)
      ];
}

tight_over : (bs : List Border) (fs : List ℤ) (old : List Bool) (p q : ℕ → ℤ) (floor : ℤ) → IsLast old p q floor
    → ((z : ℕ) → z < length old → floor ≤ℤ q z) → AllZip (λ b f. (b.from < length old) × (b.to < length old)) bs fs
    → AreClosed bs fs old → AllZip (OrderedOver (is_marked old) p) bs fs → AllZip (IsConsistentFlow q) bs fs
tight_over [] [] old p q floor l low ends was o = tt
tight_over (b ∷ bs) (f ∷ fs) old p q floor l low ends was o =
    let one : (forth : Bool) → head_of forth b < length old → tail_of forth b < length old → pos 0 <ℤ room_of forth b f → q (head_of forth b) ≤ℤ q (tail_of forth b) =
    λ forth h t r. elim (marked_or (is_marked old (head_of forth b))) [
      | inl m ↦ omega (arith, ints, l.keep (head_of forth b) m, l.keep (tail_of forth b) (was.0 forth r m), o.0 forth r m)
      | inr m ↦ omega (arith, ints, l.level (head_of forth b) m h, low (tail_of forth b) t)
    ] in (
      record {
        more = λ r. one true ends.0.1 ends.0.0 (omega (arith, ints, r));
        less = λ r. one false ends.0.0 ends.0.1 (omega (arith, ints, r));
      },
      tight_over bs fs old p q floor l low ends.1 was.1 o.1,
    )
tight_over [] (f ∷ fs) old p q floor l low ends was o = absurd was
tight_over (b ∷ bs) [] old p q floor l low ends was o = absurd was

pub low_at : (old : List Bool) (p q : ℕ → ℤ) (floor : ℤ) → IsLast old p q floor → ((z : ℕ) → is_marked old z ≡ true → floor ≤ℤ p z) → (z : ℕ) → z < length old → floor ≤ℤ q z
low_at old p q floor l low z h = elim (marked_or (is_marked old z)) [
  | inl m ↦ omega (arith, ints, l.keep z m, low z m)
  | inr m ↦ omega (arith, ints, l.level z m h)
]

-- where no slot is left, all is tight
pub levels_tight : (slots : List Slot) (bs : List Border) (xs fs : List ℤ) (old : List Bool) (p q : ℕ → ℤ)
    → AreLevels slots bs xs fs old p → IsLast old p q (neg_ℤ BEYOND) → NoneLess slots xs old
    → ((k : ℕ) → k < length slots → zone_of slots k < length old)
    → ((k : ℕ) → k < length slots → neg_ℤ BEYOND ≤ℤ price_of slots k)
    → AllZip (λ b f. (b.from < length old) × (b.to < length old)) bs fs → AreTight slots bs xs fs q
levels_tight slots bs xs fs old p q a l none zones prices ends = record {
  slots_tight = λ k h. record {
    less = λ r. elim (marked_or (is_marked old (zone_of slots k))) [
      | inl m ↦ omega (arith, ints, l.keep (zone_of slots k) m, a.sinks k (h, r) m)
      | inr m ↦ absurd (none k (h, r) m)
    ];
    more = λ r. elim (marked_or (is_marked old (zone_of slots k))) [
      | inl m ↦ omega (arith, ints, l.keep (zone_of slots k) m, a.sources k (h, r) m)
      | inr m ↦ omega (arith, ints, l.level (zone_of slots k) m (zones k h), prices k h)
    ];
  };
  flows_tight = tight_over bs fs old p q (neg_ℤ BEYOND) l (λ z h. low_at old p q (neg_ℤ BEYOND) l a.floored z h) ends a.closed a.ordered;
}

closed_none : (bs : List Border) (fs : List ℤ) (marked : List Bool) → length bs ≡ length fs → ((z : ℕ) → is_marked marked z ≡ false) → AreClosed bs fs marked
closed_none (b ∷ bs) (f ∷ fs) marked e n = (λ forth r m. absurd (not_both (is_marked marked (head_of forth b)) m (n (head_of forth b))), closed_none bs fs marked (omega arith) n)
closed_none _ _ marked e n = grind arith

ordered_none : (bs : List Border) (fs : List ℤ) (marked : List Bool) (p : ℕ → ℤ) → length bs ≡ length fs → ((z : ℕ) → is_marked marked z ≡ false) → AllZip (OrderedOver (is_marked marked) p) bs fs
ordered_none (b ∷ bs) (f ∷ fs) marked p e n = (λ forth r m. absurd (not_both (is_marked marked (head_of forth b)) m (n (head_of forth b))), ordered_none bs fs marked p (omega arith) n)
ordered_none _ _ marked p e n = grind arith

-- nothing is marked at first
pub levels_none : (slots : List Slot) (bs : List Border) (xs fs : List ℤ) (marked : List Bool) (p : ℕ → ℤ)
    → length bs ≡ length fs → ((z : ℕ) → is_marked marked z ≡ false) → AreLevels slots bs xs fs marked p
levels_none slots bs xs fs marked p e n = record {
  closed = closed_none bs fs marked e n;
  ordered = ordered_none bs fs marked p e n;
  floored = λ z m. absurd (not_both (is_marked marked z) m (n z));
  sinks = λ k can m. absurd (not_both (is_marked marked (zone_of slots k)) m (n (zone_of slots k)));
  sources = λ k can m. absurd (not_both (is_marked marked (zone_of slots k)) m (n (zone_of slots k)));
  later = λ z k m can u. absurd (not_both (is_marked marked z) m (n z));
}
