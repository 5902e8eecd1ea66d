-- What holds at a word holds at each of its children.
use Rattle.std.proofs.Common.{◌≡◌, ◌&&◌, ◌||◌, if◌then◌else◌, Bool, true, false, ℕ, zero, suc, ◌<◌, ◌≤◌, ℤ, pos, ◌≤ℤ◌, List, [], ◌∷◌, ◌++◌, length, Option, Some, None, arith, refl, sym, ap, ◌∙◌, subst}
use Rattle.std.specs.Prelude.{slice_get}
use Rattle.std.specs.List.{All}
use Rattle.std.proofs.lemmas.Int.{ints, clamps}
use Rattle.std.proofs.lemmas.Option.{slice_get_within}
use Rattle.std.proofs.lemmas.List.Elements.{All-head, All-tail}
use Rattle.mari_units.specs.declared.Cents.{Cents}
use Rattle.mari_market.specs.declared.market.Side.{Side}
use Rattle.mari_market.specs.declared.market.Order.{Order}
use Rattle.mari_market.specs.declared.market.GateInfo.{GateInfo}
use Rattle.mari_market.specs.declared.market.Market.{Market}
use Rattle.mari_market.specs.declared.certificate.CutSide.{CutSide}
use Rattle.mari_market.specs.declared.certificate.CutSide.TheVariants.{Out, In}
use Rattle.mari_market.specs.declared.certificate.Leaf.{Leaf as LeafRecord}
use Rattle.mari_market.specs.declared.certificate.Leaf.TheVariants.{Bound, Cut, Conflict}
use Rattle.mari_market.specs.Bounds.{Span, GateState, span_of}
use Rattle.mari_market.specs.Bounds.GateState.{Open, Closed, Free}
use Rattle.mari_market.specs.Cut.{is_in, least_put, most_put, least_of, most_of, CannotBalance}
use Rattle.mari_market.specs.Dual.{gain_per_mw, best_within, best_order, dual_value_of}
use Rattle.mari_market.specs.Gates.{group_of, parent_of}
use Rattle.mari_market.specs.Market.{IsValid, IsValidOrder}
use Rattle.mari_market.specs.Prefix.{opens_in, is_group, group_taken, is_taken, is_closed, below_parent, undecided, decided, state_within, state_of, bounds_of_word, parent_opens, may_open}
use Rattle.mari_market.specs.Price.{price_at}
use Rattle.mari_market.specs.Sums.{int_sum}
use Rattle.mari_market.specs.Tree.{LeafHolds}
use Rattle.mari_market.proofs.Ints.{between}
use Rattle.mari_market.proofs.Words.{length-gate_word_of, undecided_open}
use Rattle.mari_market.proofs.Prefixes.{both_of}

-- ---- states of gates

-- what a state says of a gate is still said
record IsKept (s t : GateState) : Type 0 where
  stays_open : s ≡ Open → t ≡ Open
  stays_closed : s ≡ Closed → t ≡ Closed

kept_same : (s t : GateState) → s ≡ t → IsKept s t
kept_same s t e = record { stays_open = λ h. sym e ∙ h; stays_closed = λ h. sym e ∙ h }

get_before : (word : List Bool) (b : Bool) (g : ℕ) → g < length word → slice_get (word ++ b ∷ []) g ≡ slice_get word g
get_before (c ∷ cs) b (suc g) l = get_before cs b g (omega arith)
get_before _ b _ l = grind arith

new_bit : (word : List Bool) (b : Bool) (g : ℕ) → slice_get word g ≡ None → slice_get (word ++ b ∷ []) g ≡ Some true → (length word ≡ g) × (b ≡ true)
new_bit (c ∷ cs) b (suc g) e f = let r = new_bit cs b g e f in (ap suc r.0, r.1)
new_bit _ b _ e f = grind arith

get_opened : (word : List Bool) (g : ℕ) → opens_in word g ≡ true → slice_get word g ≡ Some true
get_opened (c ∷ cs) (suc g) e = get_opened cs g e
get_opened _ _ e = grind arith

or_kept : (a b c : Bool) → (b ≡ true → c ≡ true) → (a || b) ≡ true → (a || c) ≡ true
or_kept a b c h e = grind arith

-- a group that is taken stays so
group_stays : (k : ℕ) (gates : List GateInfo) (word : List Bool) (b : Bool) → group_taken k gates word ≡ true → group_taken k gates (word ++ b ∷ []) ≡ true
group_stays k (g ∷ gs) (c ∷ cs) b e = or_kept (c && is_group k g.group) (group_taken k gs cs) (group_taken k gs (cs ++ b ∷ [])) (group_stays k gs cs b) e
group_stays k _ _ b e = grind arith

taken_stays : (group : Option ℕ) (gates : List GateInfo) (word : List Bool) (b : Bool) → is_taken group gates word ≡ true → is_taken group gates (word ++ b ∷ []) ≡ true
taken_stays None gates word b e = absurd (cc)
taken_stays (Some k) gates word b e = group_stays k gates word b e

if_closed : (b : Bool) → (if b then Closed else Free) ≡ Closed → b ≡ true
if_closed b e = grind arith

is_closed_of : (s : GateState) → is_closed s ≡ true → s ≡ Closed
is_closed_of s e = grind arith

undecided_stays : (gates : List GateInfo) (word : List Bool) (b : Bool) (up low : ℕ → GateState) (g : ℕ)
    → ((h : ℕ) → IsKept (up h) (low h)) → undecided gates word up g ≡ Closed
    → undecided gates (word ++ b ∷ []) low g ≡ Closed
undecided_stays gates word b up low g k e = by_group (is_taken (group_of gates g) gates word) (is_taken (group_of gates g) gates (word ++ b ∷ [])) (taken_stays (group_of gates g) gates word b) e
  where
    by_group : (s t : Bool) → (s ≡ true → t ≡ true) → (if s then Closed else below_parent up (parent_of gates g)) ≡ Closed → (if t then Closed else below_parent low (parent_of gates g)) ≡ Closed
    by_group s t h e = grind arith

-- a gate that the word opens isn't closed
opened_state : (gates : List GateInfo) (word : List Bool) (n g : ℕ) → slice_get word g ≡ Some true → state_within n gates word g ≡ Closed → ⊥
opened_state gates word n g e s = grind arith

-- a gate that may be opened next isn't closed
may_be_open : (gates : List GateInfo) (word : List Bool) (n g : ℕ) → may_open gates word g ≡ true → undecided gates word (state_within n gates word) g ≡ Closed → ⊥
may_be_open gates word n g may e =
    let both = both_of (parent_opens word (parent_of gates g)) (is_taken (group_of gates g) gates word) may in
    by_parent (parent_of gates g) both.0 (sym (ap (λ (t : Bool). if t then Closed else below_parent (state_within n gates word) (parent_of gates g)) both.1) ∙ e)
  where
    by_parent : (parent : Option ℕ) → parent_opens word parent ≡ true → below_parent (state_within n gates word) parent ≡ Closed → ⊥
    by_parent None p e = absurd (cc)
    by_parent (Some h) p e = opened_state gates word n h (get_opened word h p) (is_closed_of (state_within n gates word h) (if_closed (is_closed (state_within n gates word h)) e))

kept_by : (o p : Option Bool) (s t : GateState) → (s ≡ Open → ⊥) → ((c : Bool) → o ≡ Some c → p ≡ o)
    → (s ≡ Closed → t ≡ Closed) → (o ≡ None → p ≡ Some true → s ≡ Closed → ⊥) → IsKept (decided o s) (decided p t)
kept_by (Some false) p s t n h k x = kept_same Closed (decided p t) (sym (ap (λ (q : Option Bool). decided q t) (h false refl)))
kept_by _ _ s t n h k x = grind arith

-- one decision more keeps what a word says of each gate
states_kept : (gates : List GateInfo) (word : List Bool) (b : Bool)
    → (b ≡ true → may_open gates word (length word) ≡ true) → (n g : ℕ)
    → IsKept (state_within n gates word g) (state_within n gates (word ++ b ∷ []) g)
states_kept gates word b may zero g = kept_same Free Free refl
states_kept gates word b may (suc n) g =
    kept_by (slice_get word g) (slice_get (word ++ b ∷ []) g) (undecided gates word (state_within n gates word) g) (undecided gates (word ++ b ∷ []) (state_within n gates (word ++ b ∷ [])) g)
    (undecided_open gates word (state_within n gates word) g)
    (λ c e. get_before word b g (slice_get_within word g c e))
    (undecided_stays gates word b (state_within n gates word) (state_within n gates (word ++ b ∷ [])) g (λ h. states_kept gates word b may n h))
    (λ e f closed.
    let new = new_bit word b g e f in
    may_be_open gates word n g (subst (λ (i : ℕ). may_open gates word i ≡ true) new.0 (may new.1)) closed)

-- ---- bounds

-- one span within another, and neither of them empty
record IsNarrower (s t : Span) : Type 0 where
  low : s.lo ≤ t.lo
  high : t.hi ≤ s.hi
  some : t.lo ≤ t.hi

span_narrower : (up low : ℕ → GateState) (gate : Option ℕ) (o : Order) → ((g : ℕ) → IsKept (up g) (low g)) → o.least ≤ o.greatest → IsNarrower (span_of up gate o) (span_of low gate o)
span_narrower up low gate o k l = grind arith

-- the bounds of each order at a child lie within those at the word
bounds_narrower : (m : Market) (word : List Bool) (b : Bool) (o : Order)
    → (b ≡ true → may_open m.gates word (length word) ≡ true) → o.least ≤ o.greatest
    → IsNarrower (bounds_of_word m word o) (bounds_of_word m (word ++ b ∷ []) o)
bounds_narrower m word b o may l = span_narrower (state_of m.gates word) (state_of m.gates (word ++ b ∷ [])) o.gate o (λ g. states_kept m.gates word b may (length m.gates) g) l

-- ---- certificates

int_sum-le : {X : Type 0} (f g : X → ℤ) (P : X → Type 0) → ((x : X) → P x → f x ≤ℤ g x) → (xs : List X) → All P xs → int_sum f xs ≤ℤ int_sum g xs
int_sum-le f g P h [] a = omega (arith, ints)
int_sum-le f g P h (x ∷ xs) a = omega (arith, ints, h x (All-head P x xs a), int_sum-le f g P h xs (All-tail P x xs a))

best_narrower : (gap : ℤ) (s t : Span) → IsNarrower s t → best_within gap t ≤ℤ best_within gap s
best_narrower gap s t n =
    let low = between gap (pos s.lo) (pos t.lo) (pos s.hi) (omega (arith, ints, n.low)) (omega (arith, ints, n.some, n.high)) in
    let high = between gap (pos s.lo) (pos t.hi) (pos s.hi) (omega (arith, ints, n.low, n.some)) (omega (arith, ints, n.high)) in
    omega (arith, ints, clamps, low, high)

dual_narrower : (m : Market) (up low : Order → Span) (ps : List Cents) → IsValid m
    → ((o : Order) → IsValidOrder m.zones (length m.gates) o → IsNarrower (up o) (low o))
    → dual_value_of low m ps ≤ℤ dual_value_of up m ps
dual_narrower m up low ps v n =
    let orders = int_sum-le (best_order low ps) (best_order up ps) (IsValidOrder m.zones (length m.gates))
    (λ o k. best_narrower (gain_per_mw o.side o.price.0 (price_at ps o.zone)) (up o) (low o) (n o k)) m.orders v.orders in
    omega (arith, ints, orders)

least_rises : (side : Side) (s t : Span) → IsNarrower s t → least_put side s ≤ℤ least_put side t
least_rises side s t n = grind (arith, ints)

most_falls : (side : Side) (s t : Span) → IsNarrower s t → most_put side t ≤ℤ most_put side s
most_falls side s t n = grind (arith, ints)

if_le : (b : Bool) (x y : ℤ) → x ≤ℤ y → (if b then x else pos 0) ≤ℤ (if b then y else pos 0)
if_le b x y l = grind (arith, ints)

cut_stays : (m : Market) (up low : Order → Span) (side : CutSide) (zones : List ℕ) → IsValid m
    → ((o : Order) → IsValidOrder m.zones (length m.gates) o → IsNarrower (up o) (low o))
    → CannotBalance up m side zones → CannotBalance low m side zones
cut_stays m up low Out zones v n h =
    let least = int_sum-le (least_of up zones) (least_of low zones) (IsValidOrder m.zones (length m.gates))
    (λ o k. if_le (is_in zones o.zone) (least_put o.side (up o)) (least_put o.side (low o)) (least_rises o.side (up o) (low o) (n o k))) m.orders v.orders in
    omega (arith, ints, h, least)
cut_stays m up low In zones v n h =
    let most = int_sum-le (most_of low zones) (most_of up zones) (IsValidOrder m.zones (length m.gates))
    (λ o k. if_le (is_in zones o.zone) (most_put o.side (low o)) (most_put o.side (up o)) (most_falls o.side (up o) (low o) (n o k))) m.orders v.orders in
    omega (arith, ints, h, most)

-- a leaf that holds at a word that leaves a gate to decide holds at each of its children
pub child_leaf_holds : (m : Market) (w : ℤ) (word : List Bool) (b : Bool) (leaf : LeafRecord) → IsValid m
    → length word < length m.gates → (b ≡ true → may_open m.gates word (length word) ≡ true) → LeafHolds m w word leaf
    → LeafHolds m w (word ++ b ∷ []) leaf
child_leaf_holds m w word b (Bound ps) v l may h = record {
  prices = h.prices;
  value = omega (arith, ints, h.value, dual_narrower m (bounds_of_word m word) (bounds_of_word m (word ++ b ∷ [])) ps.cents v (λ o k. bounds_narrower m word b o may k.in_order));
}
child_leaf_holds m w word b (Cut cut) v l may h = record {
  zones = h.zones;
  side = cut_stays m (bounds_of_word m word) (bounds_of_word m (word ++ b ∷ [])) cut.side cut.zones v (λ o k. bounds_narrower m word b o may k.in_order) h.side;
}
child_leaf_holds m w word b (Conflict conflict) v l may h = absurd (omega (arith, ap length h.gates, length-gate_word_of m conflict.activation, l))
