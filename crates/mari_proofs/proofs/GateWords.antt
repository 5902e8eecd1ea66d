-- An activation of a prefix's gate word, order by order.
use Rattle.std.proofs.Common.{◌≡◌, ◌&&◌, ◌||◌, if◌then◌else◌, Bool, true, false, ℕ, ◌<◌, ◌≤◌, List, ◌∷◌, length, map, get_or, Option, Some, arith, subst, refl, sym, ap, ◌∙◌, inl, inr}
use Rattle.std.specs.Prelude.{nat_lt, MatchOption, Any, IfSome, IsTrue, ◌↔◌}
use Rattle.std.specs.List.{All, AllZip, range_with_len}
use Rattle.std.proofs.lemmas.Bool.{cases_lt, and_parts}
use Rattle.std.proofs.lemmas.Bool.Decides.{nat_tests}
use Rattle.std.proofs.lemmas.List.{get_or_past}
use Rattle.std.proofs.lemmas.List.FromFn.{get_or-map-range_with_len, length-map-range_with_len}
use mathlib.Core.Path.{fun_ext}
use Rattle.mari_market.specs.declared.market.Order.{Order}
use Rattle.mari_market.specs.declared.market.Market.{Market}
use Rattle.mari_market.specs.declared.activation.Activation.{Activation}
use Rattle.mari_market.specs.declared.prefix.Prefix.{Prefix}
use Rattle.mari_market.specs.Activation.{is_gate, runs_gate, is_open, gate_word_of}
use Rattle.mari_market.specs.Bounds.{IsWithin, span_of, own_bounds}
use Rattle.mari_market.specs.Bounds.GateState.{Open, Closed}
use Rattle.mari_market.specs.Market.{IsValid, IsValidOrder}
use Rattle.mari_market.specs.Optimal.{IsFeasible}
use Rattle.mari_market.specs.Prefix.{word_of, bit_of, opens_in}
use Rattle.mari_market.proofs.Sums.{AllZip-both, AllZip-with, AllZip-at}
use Rattle.mari_gates.proofs.Decisions.{opens-decisions}
use Rattle.mari_welfare.proofs.Open.{runs_here}
use Rattle.mari_units.proofs.Lists.{same_map}
use Rattle.mari_proofs.specs.Conflicts.{opens_gate, RunsAsDecided, HasDecidedGate}
use Rattle.mari_market.proofs.Conflicts.{none_past}
use Rattle.std.specs.Cmp.Derive.{both_true}
use Rattle.std.proofs.lemmas.Slice.Zip.{AllZip-long}

of_gate : (g : ℕ) (gate : Option ℕ) → is_gate g gate ≡ true → gate ≡ Some g
of_gate g gate e = grind arith

gate_is : (g : ℕ) (gate : Option ℕ) → gate ≡ Some g → is_gate g gate ≡ true
gate_is g gate e = grind (arith, nat_tests)

runs_test : (opens : ℕ → Bool) (g : ℕ) (gate : Option ℕ) (q : ℕ) → gate ≡ Some g → RunsAsDecided opens gate q → opens g ≡ nat_lt 0 q
runs_test opens g gate q e r = let at : RunsAsDecided opens (Some g) q = subst (λ (o : Option ℕ). RunsAsDecided opens o q) e r in at

runs_at : (opens : ℕ → Bool) (g : ℕ) (gate : Option ℕ) (q : ℕ) (rest : Bool) → RunsAsDecided opens gate q
    → (rest ≡ true → opens g ≡ true) → ((is_gate g gate && nat_lt 0 q) || rest) ≡ true → opens g ≡ true
runs_at opens g gate q rest r later e = by_test (is_gate g gate && nat_lt 0 q) refl e
  where
    by_test : (b : Bool) → (is_gate g gate && nat_lt 0 q) ≡ b → (b || rest) ≡ true → opens g ≡ true
    by_test true is h = let both = and_parts (is_gate g gate) (nat_lt 0 q) is in runs_test opens g gate q (of_gate g gate both.0) r ∙ both.1
    by_test false is h = later h

-- a gate that an order runs for is decided open
runs_open : (opens : ℕ → Bool) (g : ℕ) (os : List Order) (qs : List ℕ) → AllZip (λ (o : Order) q. RunsAsDecided opens o.gate q) os qs → runs_gate g os qs ≡ true → opens g ≡ true
runs_open opens g (o ∷ os) (q ∷ qs) a e = runs_at opens g o.gate q (runs_gate g os qs) a.0 (runs_open opens g os qs a.1) e
runs_open opens g _ _ a e = grind arith

-- and a gate of some order that is decided open runs
open_runs : (opens : ℕ → Bool) (g : ℕ) (os : List Order) (qs : List ℕ) → length qs ≡ length os
    → Any (λ (o : Order). o.gate ≡ Some g) os → AllZip (λ (o : Order) q. RunsAsDecided opens o.gate q) os qs
    → opens g ≡ true → runs_gate g os qs ≡ true
open_runs opens g os qs l some a e =
    let i = some.0 in
    let o = some.1 in
    let within : i < length os = some.2 in
    let gate : (get_or os i o).gate ≡ Some g = ap (λ (x : Order). x.gate) some.3 ∙ some.4 in
    let at = AllZip-at (λ (x : Order) q. RunsAsDecided opens x.gate q) os qs i o 0 within a in
    runs_here g os qs i o within (omega arith) (both_true (gate_is g (get_or os i o).gate gate) (sym (runs_test opens g (get_or os i o).gate (get_or qs i 0) gate at) ∙ e))

same_tests : (a b : Bool) → (a ≡ true → b ≡ true) → (b ≡ true → a ≡ true) → a ≡ b
same_tests a b f g = grind arith

-- where each order runs exactly where its gate is decided open, the gate word is the prefix's
pub word_where_run : (m : Market) (x : Prefix) (a : Activation) → IsValid m → x.length ≡ length m.gates
    → AllZip (λ (o : Order) q. RunsAsDecided (opens_gate x) o.gate q) m.orders a.mw → gate_word_of m a ≡ word_of x
word_where_run m x a v full run =
    same_map (is_open m a) (bit_of x) (length m.gates) each ∙ ap (λ n. map (bit_of x) (range_with_len 0 n)) (sym full)
  where
    each : (g : ℕ) → g < length m.gates → is_open m a g ≡ bit_of x g
    each g h = same_tests (is_open m a g) (bit_of x g)
        (λ e. sym (opens-decisions x x.length g (omega arith)) ∙ runs_open (opens_gate x) g m.orders a.mw run e)
        (λ e. open_runs (opens_gate x) g m.orders a.mw (AllZip-long (λ (o : Order) q. RunsAsDecided (opens_gate x) o.gate q) m.orders a.mw run) (v.gates g h).used run
        (opens-decisions x x.length g (omega arith) ∙ e))

-- the gates of an activation of that word are open as the prefix decides
pub open_at : (m : Market) (x : Prefix) (a : Activation) (g : ℕ) → g < length m.gates → gate_word_of m a ≡ word_of x → is_open m a g ≡ opens_gate x g
open_at m x a g h e =
    sym (get_or-map-range_with_len (is_open m a) 0 (length m.gates) g g false h (omega arith)) ∙ ap (λ (w : List Bool). opens_in w g) e

pub length_of_word : (m : Market) (x : Prefix) (a : Activation) → gate_word_of m a ≡ word_of x → x.length ≡ length m.gates
length_of_word m x a e = sym (length-map-range_with_len (bit_of x) 0 x.length) ∙ sym (ap length e) ∙ length-map-range_with_len (is_open m a) 0 (length m.gates)

pub opens_as_decided : (m : Market) (x : Prefix) (a : Activation) → IsValid m → gate_word_of m a ≡ word_of x → is_open m a ≡ opens_gate x
opens_as_decided m x a v e = fun_ext (λ g. elim (cases_lt g (length m.gates)) [
  | inl l ↦ open_at m x a g l e
  | inr l ↦ none_past m.zones (length m.gates) g m.orders a.mw v.orders l
      ∙ sym (get_or_past (word_of x) g false (omega (arith, length_of_word m x a e, length-map-range_with_len (bit_of x) 0 x.length)))
])

runs_within : (opens : ℕ → Bool) (n : ℕ) (gate : Option ℕ) (o : Order) (q : ℕ)
    → MatchOption gate (o.least ≡ 0) (λ h. (h < n) × (1 ≤ o.least)) → IsWithin (span_of (λ g. if opens g then Open else Closed) gate o) q → RunsAsDecided opens gate q
runs_within opens n gate o q f w = grind arith

-- a feasible activation of the prefix's word runs as the prefix decides
pub run_where_word : (m : Market) (x : Prefix) (a : Activation) → IsValid m → IsFeasible m a
    → gate_word_of m a ≡ word_of x → AllZip (λ (o : Order) q. RunsAsDecided (opens_gate x) o.gate q) m.orders a.mw
run_where_word m x a v f e =
    let both = AllZip-with (IsValidOrder m.zones (length m.gates)) (λ o q. IsWithin (own_bounds m a o) q) m.orders a.mw v.orders f.orders in
    subst (λ (opens : ℕ → Bool). AllZip (λ (o : Order) q. RunsAsDecided opens o.gate q) m.orders a.mw) (opens_as_decided m x a v e)
    (AllZip-both _ _ (λ (o : Order) q. RunsAsDecided (is_open m a) o.gate q) (λ o q p w. runs_within (is_open m a) (length m.gates) o.gate o q p.0.gate w) m.orders a.mw both f.orders)

pub all_decided : (m : Market) (n : ℕ) (os : List Order) → IsValid m → os ≡ m.orders → n ≡ length m.gates → All (HasDecidedGate n) os
all_decided m n os v same full = subst (λ (xs : List Order). All (HasDecidedGate n) xs) (sym same) (λ k d h. of_option (get_or m.orders k d).gate (get_or m.orders k d).least (v.orders k d h).gate)
  where
    of_option : (gate : Option ℕ) (least : ℕ) → MatchOption gate (least ≡ 0) (λ g. (g < length m.gates) × (1 ≤ least)) → IfSome gate (λ g. g < n)
    of_option gate least f = grind (arith, full)

pub lengths_read : {X Y : Type 0} (P : X → Y → Type 0) (xs os : List X) (ys qs : List Y) → AllZip P xs ys → os ≡ xs → qs ≡ ys → length qs ≡ length os
lengths_read P xs os ys qs a e f = ap length f ∙ AllZip-long P xs ys a ∙ sym (ap length e)

-- the test of the gate word
pub word_test : (m : Market) (x : Prefix) (a : Activation) (os : List Order) (qs : List ℕ) (answer : Bool) → IsValid m
    → IsFeasible m a → x.length ≡ length m.gates → os ≡ m.orders → qs ≡ a.mw
    → (IsTrue answer ↔ AllZip (λ (o : Order) q. RunsAsDecided (opens_gate x) o.gate q) os qs)
    → IsTrue answer ↔ (gate_word_of m a ≡ word_of x)
word_test m x a os qs answer v f full same_os same_qs t = (
  λ yes. word_where_run m x a v full (there (t.0 yes)),
  λ e. t.1 (here (run_where_word m x a v f e)),
)
  where
    there : AllZip (λ (o : Order) q. RunsAsDecided (opens_gate x) o.gate q) os qs → AllZip (λ (o : Order) q. RunsAsDecided (opens_gate x) o.gate q) m.orders a.mw
    there g =
        subst (λ (ys : List ℕ). AllZip (λ (o : Order) q. RunsAsDecided (opens_gate x) o.gate q) m.orders ys) same_qs
        (subst (λ (xs : List Order). AllZip (λ (o : Order) q. RunsAsDecided (opens_gate x) o.gate q) xs qs) same_os g)

    here : AllZip (λ (o : Order) q. RunsAsDecided (opens_gate x) o.gate q) m.orders a.mw → AllZip (λ (o : Order) q. RunsAsDecided (opens_gate x) o.gate q) os qs
    here g =
        subst (λ (ys : List ℕ). AllZip (λ (o : Order) q. RunsAsDecided (opens_gate x) o.gate q) os ys) (sym same_qs)
        (subst (λ (xs : List Order). AllZip (λ (o : Order) q. RunsAsDecided (opens_gate x) o.gate q) xs a.mw) (sym same_os) g)
