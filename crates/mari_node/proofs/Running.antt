-- What runs within bounds and in balance is feasible where the orders of each gate run together, at least their least.
use Rattle.std.proofs.Common.{◌≡◌, ◌&&◌, if◌then◌else◌, Bool, true, false, ℕ, zero, suc, ◌+◌, ◌<◌, ◌≤◌, List, [], ◌∷◌, ◌++◌, Option, Some, None, length, length-append, arith, refl, sym, ap, subst, ◌∙◌, inl, inr}
use Rattle.std.proofs.Math.Path.{fun_ext}
use Rattle.std.proofs.lemmas.Bool.{both_ways, cases_lt, false≢true, or_left, or_right}
use Rattle.std.proofs.lemmas.List.FromFn.{length-map-range_with_len}
use Rattle.std.proofs.lemmas.Option.{slice_get_past}
use Rattle.std.specs.Prelude.{◌↔◌, is_some, IsTrue, nat_lt, slice_get, option_and_then, MatchOption}
use Rattle.std.specs.List.{All, AllZip, Any}
use Rattle.mari_market.specs.declared.market.GateInfo.{GateInfo}
use Rattle.mari_market.specs.declared.market.Order.{Order}
use Rattle.mari_market.specs.declared.market.Market.{Market}
use Rattle.mari_market.specs.declared.activation.Activation.{Activation}
use Rattle.mari_market.specs.declared.prefix.Prefix.{Prefix}
use Rattle.mari_market.specs.Activation.{is_gate, is_open, runs_gate}
use Rattle.mari_market.specs.Bounds.{IsWithin, GateState, gated_span, span_of, span_in, own_bounds}
use Rattle.mari_market.specs.Bounds.GateState.{Open, Closed, Free}
use Rattle.mari_market.specs.Gates.{KeepsGateRules}
use Rattle.mari_market.specs.Market.{GateFits, IsValid, IsValidOrder}
use Rattle.mari_market.specs.Optimal.{IsFeasible}
use Rattle.mari_market.specs.Prefix.{bit_of, word_of, opens_in, bounds_of_word, IsFeasibleWord}
use Rattle.mari_market.specs.Relaxation.{IsWithinBounds}
use Rattle.mari_market.specs.Sums.{AnyZip}
use Rattle.mari_market.proofs.Prefixes.{opens_within}
use Rattle.mari_market.proofs.Search.{parents_earlier}
use Rattle.mari_market.proofs.Sums.{AllZip-both, AllZip-with, AnyZip-meets}
use Rattle.mari_market.proofs.Words.{Begins, begins_get, begins_push, in_word, word_is_feasible}
use Rattle.mari_network.specs.declared.optimum.Optimum.{Optimum}
use Rattle.mari_network.specs.Orders.{no_order}
use Rattle.mari_network.specs.Solving.{IsWritten}
use Rattle.mari_paths.specs.Starts.{order_at}
use Rattle.mari_paths.specs.Warm.{AreGated}
use Rattle.mari_node.proofs.Gated.{any_of_gated, gated_of_zip, runs_as_gated, zip_by_gated}
use Rattle.mari_node.proofs.Decided.{busy, its_gate, word_at}
use Rattle.mari_node.specs.Running.{quantity_at, runs_among, IsBounded, IsNotPartial, IsPartial, RunsWhereOpen}

-- ---- within the bounds of any word

below_greatest : (s : GateState) (o : Order) (q : ℕ) → IsWithin (gated_span s o) q → q ≤ o.greatest
below_greatest Open o q w = w.most
below_greatest Closed o q w = omega (arith, w.most)
below_greatest Free o q w = w.most

at_most : (state : ℕ → GateState) (gate : Option ℕ) (o : Order) (q : ℕ) → IsWithin (span_of state gate o) q → q ≤ o.greatest
at_most state None o q w = w.most
at_most state (Some g) o q w = below_greatest (state g) o q w

all_at_most : (state : ℕ → GateState) (os : List Order) (qs : List ℕ) → AllZip (λ o q. IsWithin (span_in state o) q) os qs → AllZip (λ (o : Order) (q : ℕ). q ≤ o.greatest) os qs
all_at_most state os qs w =
    AllZip-both (λ (o : Order) (q : ℕ). IsWithin (span_in state o) q) (λ (o : Order) (q : ℕ). IsWithin (span_in state o) q)
    (λ (o : Order) (q : ℕ). q ≤ o.greatest) (λ o q h _. at_most state o.gate o q h) os qs w w

-- what lies within the bounds of a word is bounded
pub bounded : (m : Market) (word : List Bool) (a : Activation) → IsWithinBounds (bounds_of_word m word) m a → IsBounded m a
bounded m word a w = record { orders = all_at_most _ m.orders a.mw w.orders; borders = w.borders; balance = w.balance }

-- ---- what a feasible activation runs

-- its bounds, gate by gate
abbrev own : (ℕ → Bool) → ℕ → GateState
own opens g = if opens g then Open else Closed

never_partial : (n : ℕ) (opens : ℕ → Bool) (gate : Option ℕ) (o : Order) (q : ℕ)
    → MatchOption gate (o.least ≡ 0) (λ g. (g < n) × (1 ≤ o.least)) → IsWithin (span_of (own opens) gate o) q
    → IsPartial o q → ⊥
never_partial n opens None o q v w p = let s = p.short in omega (arith, v)
never_partial n opens (Some g) o q v w p = by_state (opens g) w
  where
    by_state : (b : Bool) → IsWithin (gated_span (if b then Open else Closed) o) q → ⊥
    by_state true h = let s = p.short in let l = h.least in omega arith
    by_state false h = let s = p.some in let l = h.most in omega arith

pub none_partial : (m : Market) (a : Activation) → IsValid m → AnyZip IsPartial m.orders a.mw → IsFeasible m a → ⊥
none_partial m a v bad f =
    AnyZip-meets (λ o q. IsValidOrder m.zones (length m.gates) o × IsWithin (own_bounds m a o) q) IsPartial ⊥
    (λ o q h p. never_partial (length m.gates) (is_open m a) o.gate o q h.0.gate h.1 p) m.orders a.mw
    (AllZip-with _ _ m.orders a.mw v.orders f.orders) bad

runs_open : (n : ℕ) (opens : ℕ → Bool) (gate : Option ℕ) (o : Order) (q g : ℕ)
    → MatchOption gate (o.least ≡ 0) (λ g. (g < n) × (1 ≤ o.least)) → IsWithin (span_of (own opens) gate o) q
    → gate ≡ Some g → opens g ≡ true → 0 < q
runs_open n opens None o q g v w e t = absurd (cc)
runs_open n opens (Some h) o q g v w e t = by_state (opens h) (ap opens same ∙ t) w
  where
    same : h ≡ g
    same = cc

    by_state : (b : Bool) → b ≡ true → IsWithin (gated_span (if b then Open else Closed) o) q → 0 < q
    by_state true t h = let l = h.least in let some = v.1 in omega arith
    by_state false t h = absurd (cc)

pub run_together_of : (m : Market) (a : Activation) → IsValid m → IsFeasible m a → AllZip (RunsWhereOpen (is_open m a)) m.orders a.mw
run_together_of m a v f = let both = AllZip-with _ _ m.orders a.mw v.orders f.orders in
    AllZip-both (λ o q. IsValidOrder m.zones (length m.gates) o × IsWithin (own_bounds m a o) q)
    (λ o q. IsValidOrder m.zones (length m.gates) o × IsWithin (own_bounds m a o) q) (RunsWhereOpen (is_open m a))
    (λ o q h _ g e t. runs_open (length m.gates) (is_open m a) o.gate o q g h.0.gate h.1 e t) m.orders a.mw both both

-- ---- and when an activation is feasible

-- an order of a gate that isn't open rests
abbrev Rests : (ℕ → Bool) → Order → ℕ → Type 0
Rests opens o q = (g : ℕ) → o.gate ≡ Some g → opens g ≡ false → q ≡ 0

of_gate : (o : Order) (g : ℕ) → o.gate ≡ Some g → is_gate g o.gate ≡ true
of_gate o g e = ap (is_gate g) e ∙ its_gate g

rest : (opens : ℕ → Bool) (o : Order) (q g : ℕ) → ((is_gate g o.gate && nat_lt 0 q) ≡ true → opens g ≡ true) → o.gate ≡ Some g → opens g ≡ false → q ≡ 0
rest opens o zero g h e f = refl
rest opens o (suc q) g h e f =
    let t = h (ap (λ (b : Bool). b && nat_lt 0 (suc q)) (of_gate o g e) ∙ busy (suc q) (omega arith)) in
    absurd (cc)

all_rest : (opens : ℕ → Bool) (P : Order → ℕ → Type 0) (os : List Order) (qs : List ℕ) → AllZip P os qs → ((g : ℕ) → runs_gate g os qs ≡ true → opens g ≡ true) → AllZip (Rests opens) os qs
all_rest opens P [] [] a h = tt
all_rest opens P [] (q ∷ qs) a h = a
all_rest opens P (o ∷ os) [] a h = a
all_rest opens P (o ∷ os) (q ∷ qs) a h = (
  λ g e f. rest opens o q g (λ t. h g (or_left (is_gate g o.gate && nat_lt 0 q) (runs_gate g os qs) t)) e f,
  all_rest opens P os qs a.1 (λ g t. h g (or_right (is_gate g o.gate && nat_lt 0 q) (runs_gate g os qs) t)),
)

-- what is known of an order where the gates that are open are reported
record IsReportedOf (opens : ℕ → Bool) (o : Order) (q : ℕ) : Type 0 where
  most : q ≤ o.greatest
  whole : IsNotPartial o q
  runs : RunsWhereOpen opens o q
  rests : Rests opens o q

within_own : (opens : ℕ → Bool) (o : Order) (q : ℕ) → IsReportedOf opens o q → IsWithin (span_in (own opens) o) q
within_own opens o q h = by_gate o.gate refl
  where
    by_state : (g : ℕ) (b : Bool) → o.gate ≡ Some g → opens g ≡ b → IsWithin (gated_span (if b then Open else Closed) o) q
    by_state g true e t = record { least = h.whole (h.runs g e t); most = h.most }
    by_state g false e t = record { least = omega arith; most = omega (arith, h.rests g e t) }

    by_gate : (gate : Option ℕ) → o.gate ≡ gate → IsWithin (span_of (own opens) gate o) q
    by_gate None e = record { least = omega arith; most = h.most }
    by_gate (Some g) e = by_state g (opens g) e refl

both : {P Q : Order → ℕ → Type 0} (R : Order → ℕ → Type 0) → ((o : Order) (q : ℕ) → P o q → Q o q → R o q) → (os : List Order) (qs : List ℕ) → AllZip P os qs → AllZip Q os qs → AllZip R os qs
both {P} {Q} R f os qs a b = AllZip-both P Q R f os qs a b

pub feasible_by : (m : Market) (a : Activation) → IsBounded m a → AllZip IsNotPartial m.orders a.mw
    → AllZip (RunsWhereOpen (is_open m a)) m.orders a.mw → KeepsGateRules m.gates (is_open m a) → IsFeasible m a
feasible_by m a b whole runs rules =
    let rests : AllZip (Rests (is_open m a)) m.orders a.mw = all_rest (is_open m a) IsNotPartial m.orders a.mw whole (λ g t. t) in
    let first : AllZip (λ o q. (q ≤ o.greatest) × IsNotPartial o q) m.orders a.mw = both (λ o q. (q ≤ o.greatest) × IsNotPartial o q) (λ o q x y. (x, y)) m.orders a.mw b.orders whole in
    let second : AllZip (λ o q. RunsWhereOpen (is_open m a) o q × Rests (is_open m a) o q) m.orders a.mw =
    both (λ o q. RunsWhereOpen (is_open m a) o q × Rests (is_open m a) o q) (λ o q x y. (x, y)) m.orders a.mw runs rests in
    record {
      orders = both (λ o q. IsWithin (own_bounds m a o) q) (λ o q x y. within_own (is_open m a) o q (record { most = x.0; whole = x.1; runs = y.0; rests = y.1 })) m.orders a.mw first second;
      gates = rules;
      borders = b.borders;
      balance = b.balance;
    }

-- ---- by the places of the orders of gates

gateless_least : (n : ℕ) (o : Order) → GateFits n o → is_some o.gate ≡ false → o.least ≡ 0
gateless_least n o fits none = by_gate o.gate fits none
  where
    by_gate : (gate : Option ℕ) → MatchOption gate (o.least ≡ 0) (λ g. (g < n) × (1 ≤ o.least)) → is_some gate ≡ false → o.least ≡ 0
    by_gate None f e = f
    by_gate (Some g) f e = absurd (cc)

gateless_runs : (opens : ℕ → Bool) (o : Order) (q : ℕ) → is_some o.gate ≡ false → RunsWhereOpen opens o q
gateless_runs opens o q none = λ g e t. let some : is_some o.gate ≡ true = ap is_some e in absurd (both_ways (is_some o.gate) none some)

opened_at : (m : Market) (o : Optimum) (a : Activation) (gated : List ℕ) (word : List Bool) → AreGated m gated → IsWritten m o a → ((g : ℕ) → opens_in word g ≡ runs_among g m o gated)
    → opens_in word ≡ is_open m a
opened_at m o a gated word at w runs = fun_ext (λ g. runs g ∙ runs_as_gated m o a gated g w at)

-- an order that runs less than its least
pub partial_at : (m : Market) (o : Optimum) (a : Activation) (gated : List ℕ) → IsValid m → AreGated m gated → IsWritten m o a → Any (λ k. IsPartial (order_at m k) (quantity_at o k)) gated
    → IsTrue false ↔ IsFeasible m a
partial_at m o a gated v at w some = (λ t. absurd (false≢true t), λ f. absurd (none_partial m a v (any_of_gated m o a gated IsPartial w at some) f))

-- an order that rests though its gate runs
pub apart_at : (m : Market) (o : Optimum) (a : Activation) (gated : List ℕ) (word : List Bool) (b : Bool) → IsValid m → AreGated m gated → IsWritten m o a
    → ((g : ℕ) → opens_in word g ≡ runs_among g m o gated)
    → IsTrue b ↔ All (λ k. RunsWhereOpen (opens_in word) (order_at m k) (quantity_at o k)) gated → b ≡ false
    → IsTrue b ↔ IsFeasible m a
apart_at m o a gated word b v at w runs is apart = (
  λ t. absurd (both_ways b apart t),
  λ f. (is.1 (subst (λ (opens : ℕ → Bool). All (λ k. RunsWhereOpen opens (order_at m k) (quantity_at o k)) gated) (sym (opened_at m o a gated word at w runs))
      (gated_of_zip m o a gated (RunsWhereOpen (is_open m a)) w at (run_together_of m a v f)))),
)

-- and where neither is so, the rules decide
pub feasible_by_gated : (m : Market) (o : Optimum) (a : Activation) (gated : List ℕ) (word : List Bool) (b : Bool) → IsValid m → AreGated m gated → IsWritten m o a → IsBounded m a
    → ((g : ℕ) → opens_in word g ≡ runs_among g m o gated)
    → All (λ k. IsNotPartial (order_at m k) (quantity_at o k)) gated
    → All (λ k. RunsWhereOpen (opens_in word) (order_at m k) (quantity_at o k)) gated
    → IsTrue b ↔ KeepsGateRules m.gates (opens_in word) → IsTrue b ↔ IsFeasible m a
feasible_by_gated m o a gated word b v at w bounded runs whole together rules =
    let opens = opened_at m o a gated word at w runs in
    let all_whole : AllZip IsNotPartial m.orders a.mw =
    zip_by_gated m o a gated IsNotPartial w at whole (λ k l none _. let least = gateless_least (length m.gates) (order_at m k) (v.orders k no_order l).gate none in omega arith) in
    let all_run : AllZip (RunsWhereOpen (is_open m a)) m.orders a.mw =
    zip_by_gated m o a gated (RunsWhereOpen (is_open m a)) w at (subst (λ (opens : ℕ → Bool). All (λ k. RunsWhereOpen opens (order_at m k) (quantity_at o k)) gated) opens together)
    (λ k l none. gateless_runs (is_open m a) (order_at m k) (quantity_at o k) none) in (
      λ t. feasible_by m a bounded all_whole all_run (subst (KeepsGateRules m.gates) opens (rules.0 t)),
      λ f. rules.1 (subst (KeepsGateRules m.gates) (sym opens) f.gates),
    )

-- ---- the rules of gates, read from a word

opened : (word : List Bool) (opens : ℕ → Bool) (g : ℕ) → Begins word opens → opens_in word g ≡ true → opens g ≡ true
opened word opens g begun t = ap opens (omega arith) ∙ begins_get 0 word opens g true begun (word_at word g (opens_within word g t) ∙ ap Some t)

there : (f : GateInfo → Option ℕ) (gates : List GateInfo) (g h : ℕ) → option_and_then f (slice_get gates g) ≡ Some h → g < length gates
there f gates g h e = elim (cases_lt g (length gates)) [
  | inl l ↦ l
  | inr l ↦ let none : option_and_then f (slice_get gates g) ≡ None = ap (option_and_then f) (slice_get_past gates g l) in absurd (cc)
]

-- open gates with which a feasible word of all gates begins keep the rules
pub keeps_by_word : (gates : List GateInfo) (word : List Bool) (opens : ℕ → Bool) → length gates ≤ length word → Begins word opens → IsFeasibleWord gates word → KeepsGateRules gates opens
keeps_by_word gates word opens full begun ok = record {
  parents = λ g h t p.
      opened word opens h begun (ok.rules.parents g h (in_word 0 word opens g begun (omega (arith, there (λ (info : GateInfo). info.parent) gates g h p, full)) (ap opens (omega arith) ∙ t)) p);
  groups = λ g h k t u p q.
      ok.rules.groups g h k (in_word 0 word opens g begun (omega (arith, there (λ (info : GateInfo). info.group) gates g k p, full)) (ap opens (omega arith) ∙ t))
      (in_word 0 word opens h begun (omega (arith, there (λ (info : GateInfo). info.group) gates h k q, full)) (ap opens (omega arith) ∙ u)) p q;
}

-- ---- the word of a prefix

pub decided_length : (x : Prefix) → length (word_of x) ≡ x.length
decided_length x = length-map-range_with_len (bit_of x) 0 x.length

-- where a gate that runs may not be open after those before it, the rules are broken
pub no_more : (m : Market) (x : Prefix) (opens : ℕ → Bool) (may : Bool) → IsValid m → Begins (word_of x) opens
    → x.length < length m.gates → opens x.length ≡ true
    → (IsTrue may ↔ IsFeasibleWord m.gates (word_of x ++ true ∷ [])) → may ≡ false → KeepsGateRules m.gates opens → ⊥
no_more m x opens may v begun l t is shut keeps =
    let long = decided_length x in
    let at : opens (0 + length (word_of x)) ≡ true = ap opens (omega arith) ∙ t in
    let more : length (word_of x ++ true ∷ []) ≡ length (word_of x) + 1 = length-append (word_of x) (true ∷ []) in
    both_ways may shut (is.1 (word_is_feasible m.gates (word_of x ++ true ∷ []) opens (parents_earlier m v) (begins_push 0 (word_of x) opens true begun at) keeps (omega arith)))
