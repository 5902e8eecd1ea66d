-- Loops that go up a line of gates.
use Rattle.std.proofs.Common.{◌≡◌, ◌==◌, ◌&&◌, ◌||◌, Bool, true, false, ℕ, zero, suc, ◌+◌, ◌-◌, ◌<◌, ◌≤◌, List, [], ◌∷◌, length, get_or, Option, Some, None, arith, refl, sym, ap, ◌∙◌, subst, inl, inr}
use Rattle.std.specs.Prelude.{IfSome}
use Rattle.std.proofs.lemmas.Bool.{cases_lt}
use Rattle.std.specs.List.{list_any}
use Rattle.mari_market.specs.declared.market.GateInfo.{GateInfo}
use Rattle.mari_market.specs.Gates.{ParentsEarlier, parent_of}
use Rattle.mari_gates.proofs.Decisions.{parent_at}
use Rattle.mari_reach.specs.State.{is_opened, line_from, line_of}
use Rattle.mari_reach.proofs.Ranges.{mark_here, mark_there, or_assoc}

-- what is left of a line, by its first gate
pub line_test : (test : ℕ → Bool) (gates : List GateInfo) (i at : ℕ) (next : Option ℕ) (d : GateInfo) → i < length gates → at < length gates → next ≡ Some at
    → list_any test (line_from (length gates - i) gates next) ≡ (test at || list_any test (line_from (length gates - (i + 1)) gates (get_or gates at d).parent))
line_test test gates i at next d l k is =
    let e : length gates - i ≡ suc (length gates - (i + 1)) = omega arith in
    ap (λ (n : ℕ). list_any test (line_from n gates next)) e
    ∙ ap (λ (o : Option ℕ). list_any test (line_from (suc (length gates - (i + 1))) gates o)) is
    ∙ ap (λ (o : Option ℕ). test at || list_any test (line_from (length gates - (i + 1)) gates o)) (parent_at gates at d k)

-- nothing is left above a gate without a parent, or after as many gates as there are
pub line_ends : (test : ℕ → Bool) (n : ℕ) (gates : List GateInfo) (next : Option ℕ) → next ≡ None → list_any test (line_from n gates next) ≡ false
line_ends test zero gates next e = refl
line_ends test (suc n) gates None e = refl
line_ends test (suc n) gates (Some g) e = absurd (cc)

pub line_done : (test : ℕ → Bool) (gates : List GateInfo) (i : ℕ) (next : Option ℕ) → length gates ≤ i → list_any test (line_from (length gates - i) gates next) ≡ false
line_done test gates i next l = let e : length gates - i ≡ 0 = omega arith in ap (λ (n : ℕ). list_any test (line_from n gates next)) e

pub parent_there : (gates : List GateInfo) (g : ℕ) (d : GateInfo) → ParentsEarlier gates → g < length gates → IfSome (get_or gates g d).parent (λ h. h < length gates)
parent_there gates g d early l = by (get_or gates g d).parent (λ h e. early g h (parent_at gates g d l ∙ e))
  where
    by : (p : Option ℕ) → ((h : ℕ) → p ≡ Some h → h < g) → IfSome p (λ h. h < length gates)
    by None k = tt
    by (Some h) k = let before : h < g = k h refl in omega arith

pub some_there : (next : Option ℕ) (at n : ℕ) → next ≡ Some at → IfSome next (λ h. h < n) → at < n
some_there None at n e h = absurd (cc)
some_there (Some g) at n e h = let same : g ≡ at = cc in omega arith

-- a step of a loop that marks a line
pub marks_step : (gates : List GateInfo) (test : ℕ → Bool) (old new start whole : Bool) (i at : ℕ) (next : Option ℕ) (d : GateInfo) → i < length gates → at < length gates → next ≡ Some at
    → (old || list_any test (line_from (length gates - i) gates next)) ≡ whole → new ≡ (old || test at)
    → (new || list_any test (line_from (length gates - (i + 1)) gates (get_or gates at d).parent)) ≡ whole
marks_step gates test old new start whole i at next d l k is before e =
    ap (λ (b : Bool). b || list_any test (line_from (length gates - (i + 1)) gates (get_or gates at d).parent)) e
    ∙ or_assoc old (test at) (list_any test (line_from (length gates - (i + 1)) gates (get_or gates at d).parent))
    ∙ ap (λ (b : Bool). old || b) (sym (line_test test gates i at next d l k is)) ∙ before

pub marks_end : (b c whole : Bool) → (b || c) ≡ whole → c ≡ false → b ≡ whole
marks_end true c whole e n = e
marks_end false c whole e n = sym n ∙ e

-- ---- lines that are long enough

none_line : (n : ℕ) (gates : List GateInfo) → line_from n gates None ≡ []
none_line zero gates = refl
none_line (suc n) gates = refl

above_it : (n m : ℕ) (gates : List GateInfo) (g : ℕ) (parent : Option ℕ) → parent_of gates g ≡ parent → ParentsEarlier gates → g < suc n → g < suc m
    → ((h : ℕ) → h < n → h < m → line_from n gates (Some h) ≡ line_from m gates (Some h)) → line_from n gates parent ≡ line_from m gates parent
above_it n m gates g None e early l k more = none_line n gates ∙ sym (none_line m gates)
above_it n m gates g (Some h) e early l k more = let before : h < g = early g h e in more h (omega arith) (omega arith)

-- a line is the same by any number of gates that is above its first gate's
line_fuel : (n m : ℕ) (gates : List GateInfo) (g : ℕ) → ParentsEarlier gates → g < n → g < m → line_from n gates (Some g) ≡ line_from m gates (Some g)
line_fuel zero m gates g early l k = absurd (omega arith)
line_fuel (suc n) zero gates g early l k = absurd (omega arith)
line_fuel (suc n) (suc m) gates g early l k =
    ap (λ (xs : List ℕ). g ∷ xs) (above_it n m gates g (parent_of gates g) refl early l k (λ h x y. line_fuel n m gates h early x y))

-- what a test says of a line, by what it says of the parent's
line_up : (test closed : ℕ → Bool) (n : ℕ) (gates : List GateInfo) (g : ℕ) (parent : Option ℕ) → parent_of gates g ≡ parent → ParentsEarlier gates → g < suc n
    → ((h : ℕ) → h < g → closed h ≡ list_any test (line_from (suc n) gates (Some h)))
    → is_opened closed parent ≡ list_any test (line_from n gates parent)
line_up test closed n gates g None e early l before = sym (ap (list_any test) (none_line n gates))
line_up test closed n gates g (Some h) e early l before =
    let less : h < g = early g h e in
    before h less ∙ ap (list_any test) (line_fuel (suc n) n gates h early (omega arith) (omega arith))

pub closed_up : (test closed : ℕ → Bool) (gates : List GateInfo) (g : ℕ) (d : GateInfo) → ParentsEarlier gates → g < length gates
    → ((h : ℕ) → h < g → closed h ≡ list_any test (line_of gates h))
    → (test g || is_opened closed (get_or gates g d).parent) ≡ list_any test (line_of gates g)
closed_up test closed gates g d early l before =
    let e : length gates ≡ suc (length gates - 1) = omega arith in
    ap (λ (b : Bool). test g || b) (ap (is_opened closed) (sym (parent_at gates g d l))
    ∙ line_up test closed (length gates - 1) gates g (parent_of gates g) refl early (omega arith) (λ h k. before h k ∙ ap (λ (n : ℕ). list_any test (line_from n gates (Some h))) e))
    ∙ sym (ap (λ (n : ℕ). list_any test (line_from n gates (Some g))) e)

no_info : GateInfo
no_info = record { group = None; parent = None }

-- a gate more that is closed where its parent is
pub closed_to : (shut old new : ℕ → Bool) (gates : List GateInfo) (i : ℕ) → ParentsEarlier gates → i < length gates
    → ((g : ℕ) → g < i → old g ≡ list_any shut (line_of gates g)) → ((g : ℕ) → i ≤ g → old g ≡ shut g)
    → ((g : ℕ) → new g ≡ (old g || (is_opened old (parent_of gates i) && (i == g)))) → (g : ℕ) → g < i + 1 → new g ≡ list_any shut (line_of gates g)
closed_to shut old new gates i early l done left step g s = elim (cases_lt g i) [
  | inl less ↦ step g ∙ mark_there (is_opened old (parent_of gates i)) (old g) i g (λ e. omega (arith, e, less)) ∙ done g less
  | inr more ↦
      let e : i ≡ g = omega arith in
      let here : new i ≡ list_any shut (line_of gates i) =
      step i ∙ mark_here (is_opened old (parent_of gates i)) (old i) i ∙ ap (λ (b : Bool). b || is_opened old (parent_of gates i)) (left i (omega arith))
      ∙ ap (λ (p : Option ℕ). shut i || is_opened old p) (parent_at gates i no_info l) ∙ closed_up shut old gates i no_info early l done in
      subst (λ (k : ℕ). new k ≡ list_any shut (line_of gates k)) e here
]

pub closed_from : (shut old new : ℕ → Bool) (gates : List GateInfo) (i : ℕ) → ((g : ℕ) → i ≤ g → old g ≡ shut g)
    → ((g : ℕ) → new g ≡ (old g || (is_opened old (parent_of gates i) && (i == g)))) → (g : ℕ) → i + 1 ≤ g → new g ≡ shut g
closed_from shut old new gates i left step g l = step g ∙ mark_there (is_opened old (parent_of gates i)) (old g) i g (λ e. omega (arith, e, l)) ∙ left g (omega (arith, l))
