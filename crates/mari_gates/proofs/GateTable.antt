-- States of gates, computed gate by gate.
use Rattle.std.proofs.Common.{◌≡◌, Bool, true, false, ℕ, ◌+◌, ◌<◌, ◌≤◌, List, [], ◌∷◌, length, map, take, set, Option, Some, None, get_or, arith, refl, sym, ap, ◌∙◌, get_or-set_same, get_or-set_other, below_more, ◌≢◌, subst, take_all}
use Rattle.std.specs.Prelude.{IfSome, if◌then◌else◌}
use Rattle.std.specs.List.{All, AllZip}
use Rattle.std.proofs.lemmas.List.Elements.{All-head, All-tail}
use Rattle.mari_market.specs.declared.market.Order.{Order}
use Rattle.mari_market.specs.declared.market.Market.{Market}
use Rattle.mari_market.specs.Market.{IsValid, IsValidOrder}
use Rattle.mari_market.specs.declared.market.GateInfo.{GateInfo}
use Rattle.mari_market.specs.declared.prefix.Prefix.{Prefix}
use Rattle.mari_market.specs.Bounds.{GateState, span_of, span_in, gated_span}
use Rattle.mari_market.specs.Bounds.GateState.{Open, Closed, Free}
use Rattle.mari_market.specs.Gates.{group_of, parent_of, ParentsEarlier}
use Rattle.mari_market.specs.Prefix.{bit_of, word_of, is_taken, below_parent, undecided, decided, state_of, bounds_at}
use Rattle.mari_market.proofs.Prefixes.{state_rule, same_below}
use Rattle.mari_gates.specs.declared.states.GateState.{GateState as TableState}
use Rattle.mari_gates.specs.declared.states.GateState.TheVariants.{Free as TableFree}
use Rattle.mari_gates.specs.GateTable.{meaning_of, state_in, AreStatesBelow}
use Rattle.mari_gates.proofs.Decisions.{group_at, parent_at, get-decisions, decisions_past}

pub parent_small : (gates : List GateInfo) (g : ℕ) (d : GateInfo) → ParentsEarlier gates → length gates ≤ 512 → g < length gates → IfSome (get_or gates g d).parent (λ h. h < 512)
parent_small gates g d early few l = small (get_or gates g d).parent (λ h e. early g h (parent_at gates g d l ∙ e))
  where
    small : (p : Option ℕ) → ((h : ℕ) → p ≡ Some h → h < g) → IfSome p (λ h. h < 512)
    small None k = tt
    small (Some h) k = let before : h < g = k h refl in omega arith

-- an undecided gate, by its entry in the list
undecided_read : (gates : List GateInfo) (word : List Bool) (up : ℕ → GateState) (g : ℕ) (d : GateInfo) (taken : Bool)
    → g < length gates → taken ≡ is_taken (get_or gates g d).group gates word
    → undecided gates word up g ≡ (if taken then Closed else below_parent up (get_or gates g d).parent)
undecided_read gates word up g d taken l e =
    ap (λ (group : Option ℕ). if is_taken group gates word then Closed else below_parent up (parent_of gates g)) (group_at gates g d l)
    ∙ ap (λ (b : Bool). if b then Closed else below_parent up (parent_of gates g)) (sym e)
    ∙ ap (λ (parent : Option ℕ). if taken then Closed else below_parent up parent) (parent_at gates g d l)

pub undecided_closed : (gates : List GateInfo) (word : List Bool) (up : ℕ → GateState) (g : ℕ) (d : GateInfo) (taken : Bool)
    → g < length gates → taken ≡ is_taken (get_or gates g d).group gates word → taken ≡ true
    → Closed ≡ undecided gates word up g
undecided_closed gates word up g d taken l e t = sym (undecided_read gates word up g d taken l e ∙ ap (λ (b : Bool). if b then Closed else below_parent up (get_or gates g d).parent) t)

pub undecided_below : (gates : List GateInfo) (word : List Bool) (up : ℕ → GateState) (g : ℕ) (d : GateInfo) (taken : Bool) (answer : GateState)
    → g < length gates → taken ≡ is_taken (get_or gates g d).group gates word → taken ≡ false
    → answer ≡ below_parent up (get_or gates g d).parent → answer ≡ undecided gates word up g
undecided_below gates word up g d taken answer l e t below =
    below ∙ sym (undecided_read gates word up g d taken l e ∙ ap (λ (b : Bool). if b then Closed else below_parent up (get_or gates g d).parent) t)

-- a gate past the prefix is as its group and its parent leave it
pub state_past : (gates : List GateInfo) (x : Prefix) (states : List TableState) (g : ℕ) → ParentsEarlier gates
    → AreStatesBelow gates (word_of x) states g → g < length gates → x.length ≤ g
    → state_of gates (word_of x) g ≡ undecided gates (word_of x) (state_in states) g
state_past gates x states g early before l past =
    state_rule gates (word_of x) g early l
    ∙ ap (λ (o : Option Bool). decided o (undecided gates (word_of x) (state_of gates (word_of x)) g)) (decisions_past x x.length g past)
    ∙ ap (λ (s : GateState). if is_taken (group_of gates g) gates (word_of x) then Closed else s)
    (same_below (state_of gates (word_of x)) (state_in states) (parent_of gates g) (λ h e. sym (before h (early g h e))))

-- a decided gate is as its bit says
pub state_decided : (gates : List GateInfo) (x : Prefix) (g : ℕ) (b : Bool) → ParentsEarlier gates → g < length gates
    → g < x.length → bit_of x g ≡ b → state_of gates (word_of x) g ≡ decided (Some b) Free
state_decided gates x g b early l h e =
    state_rule gates (word_of x) g early l
    ∙ ap (λ (o : Option Bool). decided o (undecided gates (word_of x) (state_of gates (word_of x)) g)) (get-decisions x x.length g h ∙ ap Some e)
    ∙ same b
  where
    same : (b : Bool) → decided (Some b) (undecided gates (word_of x) (state_of gates (word_of x)) g) ≡ decided (Some b) Free
    same true = refl
    same false = refl

-- a loop's step: one more entry
pub states_more : (gates : List GateInfo) (word : List Bool) (states : List TableState) (i : ℕ) (s : TableState)
    → i < length states → AreStatesBelow gates word states i → meaning_of s ≡ state_of gates word i
    → AreStatesBelow gates word (set states i s) (i + 1)
states_more gates word states i s l before e = below_more _ _
    (λ g h. let apart : g ≢ i = omega arith in ap meaning_of (get_or-set_other states i g s TableFree apart) ∙ before g h)
    (ap meaning_of (get_or-set_same states i s TableFree l) ∙ e)

-- the bounds of a valid order are in order, and at most its greatest quantity
pub span_in_order : (state : ℕ → GateState) (o : Order) → o.least ≤ o.greatest → ((span_in state o).lo ≤ (span_in state o).hi) × ((span_in state o).hi ≤ o.greatest)
span_in_order state o h = by_gate o.gate
  where
    by_state : (s : GateState) → ((gated_span s o).lo ≤ (gated_span s o).hi) × ((gated_span s o).hi ≤ o.greatest)
    by_state Open = (h, omega arith)
    by_state Closed = (omega arith, omega arith)
    by_state Free = (omega arith, omega arith)

    by_gate : (gate : Option ℕ) → ((span_of state gate o).lo ≤ (span_of state gate o).hi) × ((span_of state gate o).hi ≤ o.greatest)
    by_gate None = (omega arith, omega arith)
    by_gate (Some g) = by_state (state g)

-- the bounds of all orders of a valid market
pub spans_in_order : (state : ℕ → GateState) (zones gates : ℕ) (os : List Order) → All (IsValidOrder zones gates) os
    → AllZip (λ lo hi. (lo ≤ hi) × (hi ≤ 99999)) (map (λ o. (span_in state o).lo) os) (map (λ o. (span_in state o).hi) os)
spans_in_order state zones gates [] v = tt
spans_in_order state zones gates (o ∷ os) v =
    let first = All-head (IsValidOrder zones gates) o os v in
    let r = span_in_order state o first.in_order in
    ((r.0, omega (arith, r.1, first.small)), spans_in_order state zones gates os (All-tail (IsValidOrder zones gates) o os v))

-- what a loop over all orders has gathered
pub gathered : {Y : Type 0} (f : Order → Y) (all os : List Order) (ys zs : List Y) (i : ℕ) → ys ≡ zs → zs ≡ map f (take i os) → os ≡ all → length os ≤ i → ys ≡ map f all
gathered f all os ys zs i e g same l = e ∙ g ∙ ap (map f) (take_all i os l ∙ same)

pub bounds_in_order : (m : Market) (x : Prefix) (los his : List ℕ) → IsValid m
    → los ≡ map (λ o. (bounds_at m x o).lo) m.orders → his ≡ map (λ o. (bounds_at m x o).hi) m.orders
    → AllZip (λ lo hi. (lo ≤ hi) × (hi ≤ 99999)) los his
bounds_in_order m x los his v e g =
    subst (λ (ls : List ℕ). AllZip (λ lo hi. (lo ≤ hi) × (hi ≤ 99999)) ls his) (sym e)
    (subst (λ (hs : List ℕ). AllZip (λ lo hi. (lo ≤ hi) × (hi ≤ 99999)) (map (λ o. (bounds_at m x o).lo) m.orders) hs) (sym g)
    (spans_in_order (state_of m.gates (word_of x)) m.zones (length m.gates) m.orders v.orders))
