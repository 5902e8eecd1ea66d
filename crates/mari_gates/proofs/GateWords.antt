-- The gate word of an activation, marked order by order.
use Rattle.std.proofs.Common.{◌≡◌, Bool, true, false, ℕ, ◌<◌, ◌≤◌, List, [], length, map, take, arith, refl, sym, ap, ◌∙◌, subst, not, ◌⊎◌, inl, inr}
use mathlib.Core.Bool.{beq}
use Rattle.std.specs.Prelude.{IsTrue, ◌↔◌}
use Rattle.std.specs.List.{range_with_len}
use Rattle.std.proofs.lemmas.Bool.{cases_lt}
use Rattle.std.proofs.lemmas.List.{get_or_past}
use Rattle.std.proofs.lemmas.List.FromFn.{length-map-range_with_len}
use Rattle.mari_market.specs.declared.activation.Activation.{Activation}
use Rattle.mari_market.specs.declared.market.Market.{Market}
use Rattle.mari_market.specs.declared.market.Order.{Order}
use Rattle.mari_market.specs.declared.prefix.Prefix.{Prefix}
use Rattle.mari_market.specs.Activation.{gate_word_of, is_open, runs_gate}
use Rattle.mari_market.specs.Bounds.{IsWithin, own_bounds}
use Rattle.mari_market.specs.First.{ComesBefore}
use Rattle.mari_market.specs.Market.{IsValid}
use Rattle.mari_market.specs.Optimal.{IsFeasible}
use Rattle.mari_market.specs.Prefix.{bit_of, word_of, opens_in, IsFeasiblePrefix, IsFeasibleWord, IsCleared}
use Rattle.mari_market.proofs.Conflicts.{none_past}
use Rattle.mari_market.proofs.GateRuns.{runs_all}
use Rattle.mari_market.proofs.Prefixes.{opens_within}
use Rattle.mari_market.proofs.Search.{parents_earlier}
use Rattle.mari_market.proofs.Words.{begins_own, length-gate_word_of, word_is_feasible}
use Rattle.mari_gates.proofs.Decisions.{opens-decisions, length-decisions}
use Rattle.std.proofs.lemmas.Slice.Zip.{AllZip-long}
use Rattle.mari_units.proofs.Lists.{same_map}

-- a prefix that decides no gate has no bit that is 1
pub none_set : (x : Prefix) (g : ℕ) → word_of x ≡ [] → IsCleared x → g < 512 → bit_of x g ≡ false
none_set x g e cleared l =
    let none : x.length ≡ 0 = sym (length-map-range_with_len (bit_of x) 0 x.length) ∙ ap length e in
    cleared g (omega (arith, none)) l

-- a feasible activation has as many quantities as there are orders
pub as_many : (m : Market) (a : Activation) (os : List Order) (qs : List ℕ) → IsFeasible m a → os ≡ m.orders → qs ≡ a.mw → length qs ≡ length os
as_many m a os qs f e h = ap length h ∙ AllZip-long (λ o q. IsWithin (own_bounds m a o) q) m.orders a.mw f.orders ∙ sym (ap length e)

-- ---- the answer

-- the bits of a gate word that is marked by all orders are those of the open gates
pub marked : (m : Market) (a : Activation) (os : List Order) (qs : List ℕ) (i g : ℕ) (b : Bool) → os ≡ m.orders
    → qs ≡ a.mw → length os ≤ i → length qs ≤ i → b ≡ runs_gate g (take i os) (take i qs) → b ≡ is_open m a g
marked m a os qs i g b e h l k n =
    n ∙ runs_all g os qs i l k ∙ ap (λ (xs : List Order). runs_gate g xs qs) e ∙ ap (runs_gate g m.orders) h

pub word_of_marks : (m : Market) (a : Activation) (x : Prefix) → IsValid m → x.length ≡ length m.gates → ((g : ℕ) → g < 512 → bit_of x g ≡ is_open m a g) → word_of x ≡ gate_word_of m a
word_of_marks m a x v e bits = ap (λ (n : ℕ). map (bit_of x) (range_with_len 0 n)) e ∙ same_map (bit_of x) (is_open m a) (length m.gates) (λ g l. bits g (omega (arith, v.few_gates)))

pub marks_feasible : (m : Market) (a : Activation) (x : Prefix) → IsValid m → IsFeasible m a → x.length ≡ length m.gates → ((g : ℕ) → g < 512 → bit_of x g ≡ is_open m a g) → IsFeasiblePrefix m x
marks_feasible m a x v f e bits = record {
  word = subst (IsFeasibleWord m.gates) (sym (word_of_marks m a x v e bits))
      (word_is_feasible m.gates (gate_word_of m a) (is_open m a) (parents_earlier m v) (begins_own m a) f.gates (omega (arith, length-gate_word_of m a)));
  rest = λ g past l. bits g l ∙ none_past m.zones (length m.gates) g m.orders a.mw v.orders (omega (arith, e, past));
}

-- ---- the order of words

-- a cleared prefix opens a gate exactly where its bit is 1
opens_bit : (x : Prefix) (g : ℕ) → IsCleared x → g < 512 → opens_in (word_of x) g ≡ bit_of x g
opens_bit x g cleared l = elim (cases_lt g x.length) [
  | inl in_it ↦ opens-decisions x x.length g in_it
  | inr past ↦ get_or_past (word_of x) g false (omega (arith, length-decisions x x.length, past)) ∙ sym (cleared g past l)
]

opens_word : (w : Prefix) (g : ℕ) → g < w.length → opens_in (word_of w) g ≡ bit_of w g
opens_word w g l = opens-decisions w w.length g l

same_bits : (x w : Prefix) (n : ℕ) → IsCleared x → w.length ≤ 512 → n ≤ w.length → ((g : ℕ) → g < n → bit_of x g ≡ bit_of w g) → (g : ℕ) → g < n → opens_in (word_of x) g ≡ opens_in (word_of w) g
same_bits x w n cleared few le same g l = opens_bit x g cleared (omega arith) ∙ same g l ∙ sym (opens_word w g (omega arith))

-- the first gate that differs decides
pub differs_at : (x w : Prefix) (n : ℕ) (p o : Bool) → IsCleared x → w.length ≤ 512 → n < w.length
    → ((g : ℕ) → g < n → bit_of x g ≡ bit_of w g) → p ≡ bit_of x n → o ≡ bit_of w n → not (beq p o) ≡ true
    → IsTrue o ↔ ComesBefore (word_of x) (word_of w)
differs_at x w n true true cleared few l same is was differ = absurd (cc)
differs_at x w n false false cleared few l same is was differ = absurd (cc)
differs_at x w n false true cleared few l same is was differ = (
  λ t. record { gate = n; same = same_bits x w n cleared few (omega arith) same; closed = opens_bit x n cleared (omega arith) ∙ sym is; opened = opens_word w n l ∙ sym was },
  λ h. refl,
)
differs_at x w n true false cleared few l same is was differ = (
  λ t. absurd (cc t),
  λ h. absurd (not_later h (cases_lt h.gate n)),
)
  where
    here : opens_in (word_of x) n ≡ true
    here = opens_bit x n cleared (omega arith) ∙ sym is

    there : opens_in (word_of w) n ≡ false
    there = opens_word w n l ∙ sym was

    not_later : (h : ComesBefore (word_of x) (word_of w)) → (h.gate < n) ⊎ (n ≤ h.gate) → ⊥
    not_later h (inl before) = absurd (cc (same_bits x w n cleared few (omega arith) same h.gate before, h.closed, h.opened))
    not_later h (inr past) = elim (cases_lt n h.gate) [
      | inl later ↦ absurd (cc (h.same n later, here, there))
      | inr at ↦ let one : h.gate ≡ n = omega arith in absurd (cc (ap (opens_in (word_of x)) one, h.closed, here))
    ]

-- where no gate differs the word doesn't come before
pub none_differs : (x w : Prefix) (n : ℕ) → IsCleared x → w.length ≤ 512 → w.length ≤ n → ((g : ℕ) → g < n → bit_of x g ≡ bit_of w g) → IsTrue false ↔ ComesBefore (word_of x) (word_of w)
none_differs x w n cleared few l same = (
  λ t. absurd (cc t),
  λ h.
      let within : h.gate < w.length = omega (arith, opens_within (word_of w) h.gate h.opened, length-decisions w w.length) in
      absurd (cc (opens_bit x h.gate cleared (omega arith), opens_word w h.gate within, same h.gate (omega arith), h.closed, h.opened)),
)
