-- The order of gate words, and which activation is the first.
use Rattle.std.proofs.Common.{◌≡◌, ◌⊎◌, Bool, true, false, ℕ, zero, suc, ◌+◌, ◌<◌, ◌≤◌, ℤ, pos, ◌-ℤ◌, ◌≤ℤ◌, List, [], ◌∷◌, ◌++◌, length, replicate, arith, refl, sym, ap, ◌∙◌, subst, inl, inr, add-zero}
use Rattle.std.specs.Prelude.{◌↔◌}
use Rattle.std.proofs.lemmas.Bool.{cases_lt}
use Rattle.std.proofs.lemmas.Int.{ints}
use Rattle.mari_units.specs.declared.Cents.{Cents}
use Rattle.mari_market.specs.declared.market.Market.{Market}
use Rattle.mari_market.specs.declared.activation.Activation.{Activation}
use Rattle.mari_market.specs.declared.certificate.TreeItem.{TreeItem}
use Rattle.mari_market.specs.Activation.{welfare_of, is_open, gate_word_of}
use Rattle.mari_market.specs.First.{ComesBefore, IsFirst}
use Rattle.mari_market.specs.Interval.{ArePublishedPrices, IsLeastPrice, IsGreatestPrice}
use Rattle.mari_market.specs.Market.{IsValid}
use Rattle.mari_market.specs.Optimal.{IsAdmissible, IsConsistent, IsOptimal}
use Rattle.mari_market.specs.Prefix.{opens_in}
use Rattle.mari_market.specs.Price.{price_at}
use Rattle.mari_market.specs.Relaxation.{all_closed}
use Rattle.mari_market.specs.Tree.{LeafHolds, LeafHoldsFor, TreeHolds, TreeHoldsFor, IsEarly}
use Rattle.mari_market.proofs.Words.{Begins, BeginsFrom, begins_own, length-gate_word_of}
use Rattle.mari_market.proofs.Prefixes.{opens_within}
use Rattle.mari_market.proofs.Conflicts.{one_word}
use Rattle.mari_market.proofs.Published.{one_price}
use Rattle.mari_market.proofs.Search.{AreParts-map, leaf_sound, optimal_by_tree, one_welfare, parts_reach}

-- ---- the order of words

pub before_cons : (b : Bool) (xs ys : List Bool) → ComesBefore xs ys → ComesBefore (b ∷ xs) (b ∷ ys)
before_cons b xs ys h = record { gate = suc h.gate; same = same; closed = h.closed; opened = h.opened }
  where
    same : (g : ℕ) → g < suc h.gate → opens_in (b ∷ xs) g ≡ opens_in (b ∷ ys) g
    same g l = grind arith

pub before_here : (xs ys : List Bool) → ComesBefore (false ∷ xs) (true ∷ ys)
before_here xs ys = record { gate = 0; same = λ g l. absurd (omega arith); closed = refl; opened = refl }

-- a word doesn't come before itself
pub not_before_itself : (word : List Bool) → ComesBefore word word → ⊥
not_before_itself word h = absurd (cc (h.closed, h.opened))

-- what comes before a word comes before all that the word comes before
pub before_both : (x y z : List Bool) → ComesBefore x y → ComesBefore y z → ComesBefore x z
before_both x y z h k = elim (cases_lt h.gate k.gate) [
  | inl l ↦ record { gate = h.gate; same = λ g lt. h.same g lt ∙ k.same g (omega arith); closed = h.closed; opened = sym (k.same h.gate l) ∙ h.opened }
  | inr l ↦ later l
]
  where
    later : k.gate ≤ h.gate → ComesBefore x z
    later l = elim (cases_lt k.gate h.gate) [
      | inl lt ↦ record { gate = k.gate; same = λ g below. h.same g (omega arith) ∙ k.same g below; closed = h.same k.gate lt ∙ k.closed; opened = k.opened }
      | inr ge ↦ let one : k.gate ≡ h.gate = omega arith in absurd (cc (ap (opens_in y) one, h.opened, k.closed))
    ]

-- of two words of one length that differ, one comes before the other
pub same_or_before : (x y : List Bool) → length x ≡ length y → (x ≡ y) ⊎ (ComesBefore x y ⊎ ComesBefore y x)
same_or_before [] [] e = inl refl
same_or_before (false ∷ bs) (true ∷ cs) e = inr (inl (before_here bs cs))
same_or_before (true ∷ bs) (false ∷ cs) e = inr (inr (before_here cs bs))
same_or_before (true ∷ bs) (true ∷ cs) e = elim (same_or_before bs cs (omega (arith, e))) [
  | inl s ↦ inl (ap (λ (w : List Bool). true ∷ w) s)
  | inr s ↦ elim s [ inl h ↦ inr (inl (before_cons true bs cs h)) | inr h ↦ inr (inr (before_cons true cs bs h)) ]
]
same_or_before (false ∷ bs) (false ∷ cs) e = elim (same_or_before bs cs (omega (arith, e))) [
  | inl s ↦ inl (ap (λ (w : List Bool). false ∷ w) s)
  | inr s ↦ elim s [ inl h ↦ inr (inl (before_cons false bs cs h)) | inr h ↦ inr (inr (before_cons false cs bs h)) ]
]
same_or_before _ _ e = grind arith

pub closed_opens : (n g : ℕ) → opens_in (replicate n false) g ≡ false
closed_opens (suc n) (suc g) = closed_opens n g
closed_opens _ _ = refl

-- nothing comes before a word that opens no gate
pub none_before_closed : (n : ℕ) (word : List Bool) → ComesBefore word (replicate n false) → ⊥
none_before_closed n word h = absurd (cc (closed_opens n h.gate, h.opened))

-- ---- early words

-- open gates come before a word from gate k on
record ComeBefore (k : ℕ) (opens : ℕ → Bool) (word : List Bool) : Type 0 where
  gate : ℕ
  same : (g : ℕ) → g < gate → opens (k + g) ≡ opens_in word g
  closed : opens (k + gate) ≡ false
  opened : opens_in word gate ≡ true

-- the empty word comes before each word that opens a gate
empty_before : (word : List Bool) (g : ℕ) → opens_in word g ≡ true → ComesBefore [] word
empty_before (false ∷ bs) (suc g) e = later (empty_before bs g e)
  where
    later : ComesBefore [] bs → ComesBefore [] (false ∷ bs)
    later h = record { gate = suc h.gate; same = same; closed = refl; opened = h.opened }
      where
        same : (i : ℕ) → i < suc h.gate → opens_in [] i ≡ opens_in (false ∷ bs) i
        same i l = grind arith
empty_before _ _ e = grind arith

-- what open gates begin with comes before each word that they come before
front_before : (k : ℕ) (opens : ℕ → Bool) (front word : List Bool) → BeginsFrom k front opens → ComeBefore k opens word → ComesBefore front word
front_before k opens [] word b h = empty_before word h.gate h.opened
front_before k opens (c ∷ cs) [] b h = absurd (cc (h.opened))
front_before k opens (c ∷ cs) (d ∷ ds) b h = by_gate (λ (rest : ComeBefore (suc k) opens ds). front_before (suc k) opens cs ds b.1 rest) h.gate h.same h.closed h.opened
  where
    by_gate : (ComeBefore (suc k) opens ds → ComesBefore cs ds) → (gate : ℕ)
        → ((g : ℕ) → g < gate → opens (k + g) ≡ opens_in (d ∷ ds) g) → opens (k + gate) ≡ false
        → opens_in (d ∷ ds) gate ≡ true → ComesBefore (c ∷ cs) (d ∷ ds)
    by_gate next zero same closed opened = record { gate = 0; same = λ g l. absurd (omega arith); closed = sym b.0 ∙ ap opens (sym (add-zero k)) ∙ closed; opened = opened }
    by_gate next (suc i) same closed opened =
        let first : c ≡ d = sym b.0 ∙ ap opens (sym (add-zero k)) ∙ same 0 (omega arith) in
        let rest : ComesBefore cs ds = next (record {
          gate = i;
          same = λ g l. ap opens (omega arith) ∙ same (suc g) (omega arith);
          closed = ap opens (omega arith) ∙ closed;
          opened = opened;
        }) in
        subst (λ (x : Bool). ComesBefore (c ∷ cs) (x ∷ ds)) first (before_cons c cs ds rest)

opened_as : (k : ℕ) (word : List Bool) (opens : ℕ → Bool) (g : ℕ) → BeginsFrom k word opens → g < length word → opens (k + g) ≡ opens_in word g
opened_as k (c ∷ cs) opens (suc g) b l = ap opens (omega arith) ∙ opened_as (suc k) cs opens g b.1 (omega arith)
opened_as k _ opens _ b l = grind arith

-- where the gate word of an activation comes before another gate word, whatever the activation begins with is early for
-- that
pub front_is_early : (m : Market) (a : Activation) (word gates : List Bool) → length gates ≡ length m.gates → Begins word (is_open m a) → ComesBefore (gate_word_of m a) gates → IsEarly gates word
front_is_early m a word gates full b h =
    let own = gate_word_of m a in
    let here : h.gate < length gates = opens_within gates h.gate h.opened in
    let long : length own ≡ length m.gates = length-gate_word_of m a in
    front_before 0 (is_open m a) word gates b (record {
      gate = h.gate;
      same = λ g l. opened_as 0 own (is_open m a) g (begins_own m a) (omega (arith, long, full)) ∙ h.same g l;
      closed = opened_as 0 own (is_open m a) h.gate (begins_own m a) (omega (arith, long, full)) ∙ h.closed;
      opened = h.opened;
    })

-- ---- trees

-- a tree that holds for a gate word holds
pub tree_holds_plain : (m : Market) (w : ℤ) (gates : List Bool) (items : List TreeItem) → TreeHoldsFor m w gates items → TreeHolds m w items
tree_holds_plain m w gates items h = AreParts-map m (LeafHoldsFor m w gates) (LeafHolds m w) (λ word leaf k. k.holds) ([] ∷ []) items h

-- and a tree that holds does so for the word with every gate closed
pub tree_holds_closed : (m : Market) (w : ℤ) (items : List TreeItem) → TreeHolds m w items → TreeHoldsFor m w (all_closed m) items
tree_holds_closed m w items h =
    AreParts-map m (LeafHolds m w) (LeafHoldsFor m w (all_closed m))
    (λ word leaf k. record { holds = k; early = λ e. absurd (none_before_closed (length m.gates) word e) }) ([] ∷ []) items h

-- and without gates for the gate word of each activation
pub tree_holds_without_gates : (m : Market) (a : Activation) (w : ℤ) (items : List TreeItem) → length m.gates ≡ 0 → TreeHolds m w items → TreeHoldsFor m w (gate_word_of m a) items
tree_holds_without_gates m a w items none h =
    AreParts-map m (LeafHolds m w) (LeafHoldsFor m w (gate_word_of m a))
    (λ word leaf k. record { holds = k; early = λ e. absurd (omega (arith, opens_within (gate_word_of m a) e.gate e.opened, length-gate_word_of m a, none)) })
    ([] ∷ []) items h

below_less : (v w : ℤ) → v ≡ w → v ≤ℤ (w -ℤ pos 1) → ⊥
below_less v w e l = omega (arith, ints, e, l)

-- a tree that holds for a gate word at the welfare of an admissible activation leaves no activation of that welfare
-- whose gate word comes before
pub earlier_is_worse : (m : Market) (w : ℤ) (gates : List Bool) (items : List TreeItem) (b : Activation) → IsValid m
    → length gates ≡ length m.gates → TreeHoldsFor m w gates items → IsAdmissible m b
    → ComesBefore (gate_word_of m b) gates → welfare_of m b ≤ℤ (w -ℤ pos 1)
earlier_is_worse m w gates items b v full h adm before =
    (parts_reach m (LeafHoldsFor m w gates) (welfare_of m b ≤ℤ (w -ℤ pos 1)) b v adm.feasible
    (λ word leaf k begun. leaf_sound m (w -ℤ pos 1) word leaf b v (k.early (front_is_early m b word gates full begun before)) adm begun)
    ([] ∷ []) items h).0 tt

-- a tree that holds for the gate word of an admissible activation at its welfare shows it to be the first
pub first_by_tree : (m : Market) (a : Activation) (items : List TreeItem) → IsValid m → IsAdmissible m a → TreeHoldsFor m (welfare_of m a) (gate_word_of m a) items → IsFirst m a
first_by_tree m a items v adm h = record { optimal = best; none_before = none }
  where
    best : IsOptimal m a
    best = optimal_by_tree m a items v adm (tree_holds_plain m (welfare_of m a) (gate_word_of m a) items h)

    none : (b : Activation) → IsOptimal m b → ComesBefore (gate_word_of m b) (gate_word_of m a) → ⊥
    none b k before =
        below_less (welfare_of m b) (welfare_of m a) (one_welfare m b a k best)
        (earlier_is_worse m (welfare_of m a) (gate_word_of m a) items b v (length-gate_word_of m a) h k.admissible before)

-- an optimal activation that opens no gate is the first
pub closed_is_first : (m : Market) (a : Activation) → IsOptimal m a → gate_word_of m a ≡ all_closed m → IsFirst m a
closed_is_first m a h e = record {
  optimal = h;
  none_before = λ b k before. none_before_closed (length m.gates) (gate_word_of m b) (subst (λ (w : List Bool). ComesBefore (gate_word_of m b) w) e before);
}

-- without gates each optimal activation is the first
pub first_without_gates : (m : Market) (a : Activation) → length m.gates ≡ 0 → IsOptimal m a → IsFirst m a
first_without_gates m a none h = record { optimal = h; none_before = λ b k before. absurd (omega (arith, opens_within (gate_word_of m a) before.gate before.opened, length-gate_word_of m a, none)) }

-- ---- the first activations

-- the first activations of a market have one gate word
pub one_first_word : (m : Market) (a b : Activation) → IsFirst m a → IsFirst m b → gate_word_of m a ≡ gate_word_of m b
one_first_word m a b h k = elim (same_or_before (gate_word_of m a) (gate_word_of m b) (length-gate_word_of m a ∙ sym (length-gate_word_of m b))) [
  | inl e ↦ e
  | inr s ↦ elim s [
    | inl before ↦ absurd (k.none_before a h.optimal before)
    | inr before ↦ absurd (h.none_before b k.optimal before)
  ]
]

-- where an admissible activation that opens no gate has the welfare of the first activation, that opens none
pub first_opens_none : (m : Market) (a b : Activation) → IsFirst m a → IsAdmissible m b → gate_word_of m b ≡ all_closed m → welfare_of m b ≡ welfare_of m a → gate_word_of m a ≡ all_closed m
first_opens_none m a b h adm e w =
    let best : IsOptimal m b = record { admissible = adm; greatest = λ c k. subst (λ (u : ℤ). welfare_of m c ≤ℤ u) (sym w) (h.optimal.greatest c k) } in
    one_first_word m a b h (closed_is_first m b best e) ∙ e

-- one welfare
pub one_first_welfare : (m : Market) (a b : Activation) → IsFirst m a → IsFirst m b → welfare_of m a ≡ welfare_of m b
one_first_welfare m a b h k = one_welfare m a b h.optimal k.optimal

-- the same consistent prices
pub same_first_prices : (m : Market) (a b : Activation) (ps : List Cents) → IsValid m → IsFirst m a → IsFirst m b → IsConsistent m a ps → IsConsistent m b ps
same_first_prices m a b ps v h k c = (one_word m a b ps v (one_first_word m a b h k) h.optimal.admissible.feasible c k.optimal.admissible).1

-- so the same least and greatest price of each zone
pub same_first_least : (m : Market) (a b : Activation) (z : ℕ) (c : ℤ) → IsValid m → IsFirst m a → IsFirst m b → IsLeastPrice m a z c → IsLeastPrice m b z c
same_first_least m a b z c v h k l = record {
  reached = (l.reached.0, same_first_prices m a b l.reached.0 v h k l.reached.1, l.reached.2);
  least = λ ps other. l.least ps (same_first_prices m b a ps v k h other);
}

pub same_first_greatest : (m : Market) (a b : Activation) (z : ℕ) (c : ℤ) → IsValid m → IsFirst m a → IsFirst m b → IsGreatestPrice m a z c → IsGreatestPrice m b z c
same_first_greatest m a b z c v h k l = record {
  reached = (l.reached.0, same_first_prices m a b l.reached.0 v h k l.reached.1, l.reached.2);
  greatest = λ ps other. l.greatest ps (same_first_prices m b a ps v k h other);
}

-- and the same published prices
pub same_first_published : (m : Market) (a b : Activation) (ps : List Cents) → IsValid m → IsFirst m a → IsFirst m b → ArePublishedPrices m a ps → ArePublishedPrices m b ps
same_first_published m a b ps v h k p = record {
  one_each = p.one_each;
  each = λ z l. let at = p.each z l in record {
    low = at.low;
    high = at.high;
    least = same_first_least m a b z at.low v h k at.least;
    greatest = same_first_greatest m a b z at.high v h k at.greatest;
    nearest = at.nearest;
  };
}

-- of which a zone has one
pub one_first_price : (m : Market) (a b : Activation) (ps qs : List Cents) (z : ℕ) → IsValid m → IsFirst m a
    → IsFirst m b → ArePublishedPrices m a ps → ArePublishedPrices m b qs → z < m.zones
    → price_at ps z ≡ price_at qs z
one_first_price m a b ps qs z v h k p q l = one_price m b z (price_at ps z) (price_at qs z) ((same_first_published m a b ps v h k p).each z l) (q.each z l)
