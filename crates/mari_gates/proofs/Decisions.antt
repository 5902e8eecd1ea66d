-- Words read gate by gate, and the groups that they take.
use Rattle.std.proofs.Common.{◌≡◌, Bool, true, false, ℕ, ◌+◌, ◌<◌, ◌≤◌, List, [], ◌∷◌, ◌++◌, length, Option, Some, None, get_or, arith, refl, sym, ap, ◌∙◌, inl, inr, zero, suc, subst}
use Rattle.std.specs.Prelude.{slice_get, option_and_then, nat_eq, if◌then◌else◌}
use Rattle.std.specs.Option.{option_eq}
use Rattle.std.proofs.lemmas.Bool.{cases_lt}
use Rattle.std.proofs.lemmas.Bool.Decides.{nat_tests}
use Rattle.std.proofs.lemmas.List.{get_or_past}
use Rattle.std.proofs.lemmas.List.FromFn.{get_or-map-range_with_len, length-map-range_with_len, map-range_with_len_more}
use Rattle.std.proofs.lemmas.Option.{slice_get-get_or, slice_get_past}
use Rattle.mari_market.specs.declared.market.GateInfo.{GateInfo}
use Rattle.mari_market.specs.declared.prefix.Prefix.{Prefix}
use Rattle.mari_market.specs.Gates.{group_of, parent_of, ParentsEarlier}
use Rattle.mari_market.specs.Prefix.{bit_of, word_of, opens_in, group_taken, may_open, children, IsFeasibleWord}
use Rattle.mari_market.proofs.Words.{Found, found}
use Rattle.mari_market.proofs.Prefixes.{open_child, closed_child, open_child_only, taken_by, opened_get}
use Rattle.mari_gates.specs.Prefixes.{decisions}

pub length-decisions : (x : Prefix) (n : ℕ) → length (decisions x n) ≡ n
length-decisions x n = length-map-range_with_len (bit_of x) 0 n

pub opens-decisions : (x : Prefix) (n g : ℕ) → g < n → opens_in (decisions x n) g ≡ bit_of x g
opens-decisions x n g h = get_or-map-range_with_len (bit_of x) 0 n g g false h (omega arith)

pub get-decisions : (x : Prefix) (n g : ℕ) → g < n → slice_get (decisions x n) g ≡ Some (bit_of x g)
get-decisions x n g h = slice_get-get_or (decisions x n) g false (omega (arith, length-decisions x n)) ∙ ap Some (opens-decisions x n g h)

pub decisions_past : (x : Prefix) (n g : ℕ) → n ≤ g → slice_get (decisions x n) g ≡ None
decisions_past x n g h = slice_get_past (decisions x n) g (omega (arith, length-decisions x n))

pub decisions_more : (x : Prefix) (n : ℕ) → decisions x (n + 1) ≡ decisions x n ++ bit_of x n ∷ []
decisions_more x n = map-range_with_len_more (bit_of x) 0 n n (omega arith)

-- prefixes with the same bits decide the same
pub same_decisions : (x y : Prefix) (n : ℕ) → ((g : ℕ) → g < n → bit_of y g ≡ bit_of x g) → decisions y n ≡ decisions x n
same_decisions x y zero e = refl
same_decisions x y (suc n) e =
    let one : suc n ≡ n + 1 = omega arith in
    let init = same_decisions x y n (λ g h. e g (omega arith)) in
    ap (decisions y) one ∙ decisions_more y n ∙ ap (λ w. w ++ bit_of y n ∷ []) init ∙ ap (λ b. decisions x n ++ b ∷ []) (e n (omega arith)) ∙ sym (decisions_more x n) ∙ ap (decisions x) (sym one)

-- a word opens only what it decides
pub opened_within : (x : Prefix) (n g : ℕ) → opens_in (decisions x n) g ≡ true → (g < n) × (bit_of x g ≡ true)
opened_within x n g e = elim (cases_lt g n) [
  | inl l ↦ (l, sym (opens-decisions x n g l) ∙ e)
  | inr l ↦ absurd (no (sym (get_or_past (decisions x n) g false (omega (arith, length-decisions x n))) ∙ e))
]
  where
    no : false ≡ true → ⊥
    no e = absurd (cc)

is_false : (b : Bool) → (b ≡ true → ⊥) → b ≡ false
is_false true n = absurd (n refl)
is_false false n = refl

-- a group is taken by none of the first n gates where none of them is open and of it
pub taken_by_none : (k : ℕ) (gates : List GateInfo) (x : Prefix) (n : ℕ) → ((g : ℕ) → g < n → bit_of x g ≡ true → group_of gates g ≡ Some k → ⊥) → group_taken k gates (decisions x n) ≡ false
taken_by_none k gates x n none = is_false (group_taken k gates (decisions x n)) (λ t.
    let f : Found k gates (decisions x n) = found k gates (decisions x n) t in
    let at = opened_within x n f.place (opened_get (decisions x n) f.place f.open_there) in
    none f.place at.0 at.1 f.of_it)

-- and it is taken where one of them is
pub taken_by_one : (k : ℕ) (gates : List GateInfo) (x : Prefix) (n g : ℕ) → g < n → bit_of x g ≡ true → group_of gates g ≡ Some k → group_taken k gates (decisions x n) ≡ true
taken_by_one k gates x n g h b e = taken_by k gates (decisions x n) g e (opens-decisions x n g h ∙ b)

pub group_at : (gates : List GateInfo) (g : ℕ) (d : GateInfo) → g < length gates → group_of gates g ≡ (get_or gates g d).group
group_at gates g d h = ap (option_and_then (λ (info : GateInfo). info.group)) (slice_get-get_or gates g d h)

pub parent_at : (gates : List GateInfo) (g : ℕ) (d : GateInfo) → g < length gates → parent_of gates g ≡ (get_or gates g d).parent
parent_at gates g d h = ap (option_and_then (λ (info : GateInfo). info.parent)) (slice_get-get_or gates g d h)

pub equal_some : (o : Option ℕ) (k : ℕ) → option_eq nat_eq o (Some k) ≡ true → o ≡ Some k
equal_some None k e = absurd (cc)
equal_some (Some j) k e = ap Some (grind (arith, nat_tests))

pub unequal_some : (o : Option ℕ) (k : ℕ) → option_eq nat_eq o (Some k) ≡ false → o ≡ Some k → ⊥
unequal_some None k e s = absurd (cc)
unequal_some (Some j) k e s = let same : j ≡ k = cc in grind (arith, nat_tests)

-- a loop's step: one more gate that isn't open, or isn't of the group
pub none_more : (k : ℕ) (gates : List GateInfo) (x : Prefix) (i : ℕ)
    → ((g : ℕ) → g < i → bit_of x g ≡ true → group_of gates g ≡ Some k → ⊥)
    → (bit_of x i ≡ true → group_of gates i ≡ Some k → ⊥) → (g : ℕ) → g < i + 1 → bit_of x g ≡ true
    → group_of gates g ≡ Some k → ⊥
none_more k gates x i before here g h = elim (cases_lt g i) [
  | inl l ↦ before g l
  | inr l ↦ let same : i ≡ g = omega arith in subst (λ (j : ℕ). bit_of x j ≡ true → group_of gates j ≡ Some k → ⊥) same here
]

-- the first n gates have gate h open where it is one of them and its bit is 1
pub opens_test : (x : Prefix) (n h : ℕ) (answer : Bool) → (h < n → answer ≡ bit_of x h) → (n ≤ h → answer ≡ false) → answer ≡ opens_in (decisions x n) h
opens_test x n h answer inside past = elim (cases_lt h n) [
  | inl l ↦ inside l ∙ sym (opens-decisions x n h l)
  | inr l ↦ past l ∙ sym (get_or_past (decisions x n) h false (omega (arith, length-decisions x n)))
]

-- ---- feasible words

is_opened : (x : Prefix) (n g : ℕ) → g < n → bit_of x g ≡ true → opens_in (decisions x n) g ≡ true
is_opened x n g h b = opens-decisions x n g h ∙ b

-- fewer gates keep the rules too
pub feasible_start : (gates : List GateInfo) (x : Prefix) (n k : ℕ) → ParentsEarlier gates → k ≤ n → IsFeasibleWord gates (decisions x n) → IsFeasibleWord gates (decisions x k)
feasible_start gates x n k early le f = record {
  decided = omega (arith, length-decisions x n, length-decisions x k, f.decided);
  rules = record {
    parents = λ g h o p.
        let at = opened_within x k g o in
        let before : h < g = early g h p in
        let up = opened_within x n h (f.rules.parents g h (is_opened x n g (omega arith) at.1) p) in
        is_opened x k h (omega arith) up.1;
    groups = λ g h j o q in_g in_h.
        let one = opened_within x k g o in
        let two = opened_within x k h q in
        f.rules.groups g h j (is_opened x n g (omega arith) one.1) (is_opened x n h (omega arith) two.1) in_g in_h;
  };
}

pub may_open_at : (gates : List GateInfo) (x : Prefix) (i : ℕ) → may_open gates (decisions x i) i ≡ may_open gates (decisions x i) (length (decisions x i))
may_open_at gates x i = ap (may_open gates (decisions x i)) (sym (length-decisions x i))

-- one more gate that is closed, or may be open
pub feasible_more : (gates : List GateInfo) (x : Prefix) (i : ℕ) → i < length gates
    → IsFeasibleWord gates (decisions x i) → (bit_of x i ≡ true → may_open gates (decisions x i) i ≡ true)
    → IsFeasibleWord gates (decisions x (i + 1))
feasible_more gates x i h f may = subst (λ (w : List Bool). IsFeasibleWord gates w) (sym (decisions_more x i)) (by_bit (bit_of x i) may)
  where
    room : length (decisions x i) < length gates
    room = omega (arith, length-decisions x i)

    by_bit : (b : Bool) → (b ≡ true → may_open gates (decisions x i) i ≡ true) → IsFeasibleWord gates (decisions x i ++ b ∷ [])
    by_bit true m = open_child gates (decisions x i) f room (sym (may_open_at gates x i) ∙ m refl)
    by_bit false m = closed_child gates (decisions x i) f room

-- a gate that is open and may not be
pub not_feasible : (gates : List GateInfo) (x : Prefix) (n i : ℕ) → ParentsEarlier gates → i < n → bit_of x i ≡ true
    → may_open gates (decisions x i) i ≡ false → IsFeasibleWord gates (decisions x n) → ⊥
not_feasible gates x n i early h b may f =
    let start : IsFeasibleWord gates (decisions x (i + 1)) = feasible_start gates x n (i + 1) early (omega arith) f in
    let opened : IsFeasibleWord gates (decisions x i ++ true ∷ []) = subst (λ (w : List Bool). IsFeasibleWord gates w) (decisions_more x i ∙ ap (λ (c : Bool). decisions x i ++ c ∷ []) b) start in
    let yes : may_open gates (decisions x i) i ≡ true = may_open_at gates x i ∙ open_child_only gates (decisions x i) early opened in
    absurd (cc)

-- whether the next gate may be opened, by the word extended by it
pub may_open_iff : (gates : List GateInfo) (x : Prefix) (n : ℕ) (answer : Bool) → ParentsEarlier gates
    → n < length gates → IsFeasibleWord gates (decisions x n) → answer ≡ may_open gates (decisions x n) n
    → (answer ≡ true → IsFeasibleWord gates (decisions x n ++ true ∷ [])) × (IsFeasibleWord gates (decisions x n ++ true ∷ []) → answer ≡ true)
may_open_iff gates x n answer early h f e =
    let test : answer ≡ may_open gates (decisions x n) (length (decisions x n)) = e ∙ may_open_at gates x n in (
      λ yes. open_child gates (decisions x n) f (omega (arith, length-decisions x n)) (sym test ∙ yes),
      λ longer. test ∙ open_child_only gates (decisions x n) early longer,
    )

pub children_read : (gates : List GateInfo) (x : Prefix) (n : ℕ) (answer : Bool)
    → answer ≡ may_open gates (decisions x n) n
    → children gates (decisions x n) ≡ (decisions x n ++ false ∷ []) ∷ (if answer then (decisions x n ++ true ∷ []) ∷ [] else [])
children_read gates x n answer e = ap (λ (b : Bool). (decisions x n ++ false ∷ []) ∷ (if b then (decisions x n ++ true ∷ []) ∷ [] else [])) (sym (e ∙ may_open_at gates x n))

-- a prefix with one decision more, and with one fewer
pub word_more : (x y : Prefix) (opened : Bool) → y.length ≡ x.length + 1 → ((g : ℕ) → g < x.length → bit_of y g ≡ bit_of x g) → bit_of y x.length ≡ opened → word_of y ≡ word_of x ++ opened ∷ []
word_more x y opened l e b =
    ap (decisions y) l ∙ decisions_more y x.length ∙ ap (λ (w : List Bool). w ++ bit_of y x.length ∷ []) (same_decisions x y x.length e) ∙ ap
    (λ (c : Bool). word_of x ++ c ∷ []) b
