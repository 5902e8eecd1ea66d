-- The tests of a chain and of the two price bounds against the definition of a contradiction.
use Rattle.std.proofs.Common.{◌≡◌, Bool, ℕ, ◌<◌, ◌≤◌, ℤ, ◌<ℤ◌, List, length, Option, Some, None, arith, subst, refl, sym, ap, ◌∙◌}
use Rattle.std.specs.Prelude.{if◌then◌else◌, IsTrue, ◌↔◌, MatchOption}
use Rattle.std.proofs.lemmas.Int.{ints}
use Rattle.mari_market.specs.declared.market.Order.{Order}
use Rattle.mari_market.specs.declared.market.Border.{Border}
use Rattle.mari_market.specs.declared.market.Market.{Market}
use Rattle.mari_market.specs.declared.activation.Activation.{Activation}
use Rattle.mari_market.specs.declared.prefix.Prefix.{Prefix}
use Rattle.mari_units.specs.declared.Cents.{Cents}
use Rattle.mari_market.specs.declared.certificate.Conflict.{Conflict as ConflictRecord}
use Rattle.mari_market.specs.Activation.{is_open, gate_word_of}
use Rattle.mari_market.specs.Bounds.{Span, GateState, span_of, gated_span, own_bounds}
use Rattle.mari_market.specs.Bounds.GateState.{Open, Closed, Free}
use Rattle.mari_market.specs.Conflict.{IsChain, Contradicts, IsConflict, IsContradictoryChain, IsChainOf}
use Rattle.mari_market.specs.Dual.{IsTight, IsTightOrder, IsTightTrade}
use Rattle.mari_market.specs.Market.{IsValid, IsValidOrder, GateFits}
use Rattle.mari_market.specs.Prefix.{word_of, bit_of, state_of, decided, bounds_at}
use Rattle.mari_market.specs.Price.{ArePrices, price_at}
use Rattle.mari_market.proofs.Search.{parents_earlier}
use Rattle.mari_market.proofs.Sums.{AllZip-both, AllZip-with}
use Rattle.mari_gates.proofs.Decisions.{opens-decisions}
use Rattle.mari_gates.proofs.GateTable.{state_decided}
use Rattle.mari_proofs.specs.Conflicts.{opens_gate, IsOfWord, IsGreatestLower, IsLeastUpper, AreTightPotentials}
use Rattle.mari_proofs.proofs.GateWords.{opens_as_decided, open_at, length_of_word}

-- the test of a chain
pub chain_test : (m : Market) (a : Activation) (bs : List Border) (fs : List ℤ) (z : ℕ) (zs : List ℕ) (answer : Bool)
    → bs ≡ m.borders → fs ≡ a.flow → (IsTrue answer ↔ IsChainOf bs fs z zs) → IsTrue answer ↔ IsChain m a z zs
chain_test m a bs fs z zs answer same_bs same_fs t =
    subst (λ (xs : List ℤ). IsTrue answer ↔ IsChainOf m.borders xs z zs) same_fs (subst (λ (xs : List Border). IsTrue answer ↔ IsChainOf xs fs z zs) same_bs t)

bounds_test : (m : Market) (a : Activation) (first last : ℕ) (upper lower : ℤ) (answer : Bool)
    → IsLeastUpper (is_open m a) last m.orders a.mw upper → IsGreatestLower (is_open m a) first m.orders a.mw lower
    → (IsTrue answer ↔ (upper <ℤ lower)) → IsTrue answer ↔ Contradicts m a first last
bounds_test m a first last upper lower answer u l t = (
  λ yes. record { low = lower; high = upper; lower = l.reached; upper = u.reached; above = t.0 yes },
  λ bad. t.1 (omega (arith, ints, l.greatest bad.low bad.lower, u.least bad.high bad.upper, bad.above)),
)

-- the test of the two bounds
pub contradiction_test : (m : Market) (x : Prefix) (a : Activation) (os : List Order) (qs : List ℕ) (first last : ℕ) (upper lower : ℤ) (answer : Bool)
    → IsValid m → IsOfWord m x a → os ≡ m.orders → qs ≡ a.mw → IsLeastUpper (opens_gate x) last os qs upper
    → IsGreatestLower (opens_gate x) first os qs lower → (IsTrue answer ↔ (upper <ℤ lower))
    → IsTrue answer ↔ Contradicts m a first last
contradiction_test m x a os qs first last upper lower answer v w same_os same_qs u l t =
    let opens : opens_gate x ≡ is_open m a = sym (opens_as_decided m x a v w.gates) in
    bounds_test m a first last upper lower answer
    (subst (λ (f : ℕ → Bool). IsLeastUpper f last m.orders a.mw upper) opens
    (subst (λ (ys : List ℕ). IsLeastUpper (opens_gate x) last m.orders ys upper) same_qs (subst (λ (xs : List Order). IsLeastUpper (opens_gate x) last xs qs upper) same_os u)))
    (subst (λ (f : ℕ → Bool). IsGreatestLower f first m.orders a.mw lower) opens
    (subst (λ (ys : List ℕ). IsGreatestLower (opens_gate x) first m.orders ys lower) same_qs (subst (λ (xs : List Order). IsGreatestLower (opens_gate x) first xs qs lower) same_os l)))
    t

-- an order's bounds at a word that decides every gate are those of each feasible activation of that word
same_span : (m : Market) (x : Prefix) (a : Activation) (o : Order) → IsValid m → gate_word_of m a ≡ word_of x → GateFits (length m.gates) o → bounds_at m x o ≡ own_bounds m a o
same_span m x a o v e fits = by_gate o.gate o.least fits
  where
    closed_or_open : (b : Bool) → decided (Some b) Free ≡ (if b then Open else Closed)
    closed_or_open b = grind arith

    at : (g : ℕ) → g < length m.gates → state_of m.gates (word_of x) g ≡ (if is_open m a g then Open else Closed)
    at g h =
        let full = length_of_word m x a e in
        let bit : bit_of x g ≡ is_open m a g = sym (opens-decisions x x.length g (omega (arith, full))) ∙ sym (open_at m x a g h e) in
        state_decided m.gates x g (is_open m a g) (parents_earlier m v) h (omega (arith, full)) bit ∙ closed_or_open (is_open m a g)

    by_gate : (gate : Option ℕ) (least : ℕ) → MatchOption gate (least ≡ 0) (λ g. (g < length m.gates) × (1 ≤ least))
        → span_of (state_of m.gates (word_of x)) gate o ≡ span_of (λ g. if is_open m a g then Open else Closed) gate o
    by_gate None least f = refl
    by_gate (Some g) least f = ap (λ (s : GateState). gated_span s o) (at g f.0)

-- bounds that agree on each order of a gate that is there have the same tight potentials
same_tight : (f g : Order → Span) (m : Market) (a : Activation) (ps : List Cents) → IsValid m → ((o : Order) → GateFits (length m.gates) o → f o ≡ g o) → IsTight f m a ps → IsTight g m a ps
same_tight f g m a ps v e t =
    let both = AllZip-with (IsValidOrder m.zones (length m.gates)) (IsTightOrder f ps) m.orders a.mw v.orders t.orders in
    record {
      orders = AllZip-both _ _ (IsTightOrder g ps) (λ o q p r. subst (λ (s : Span). IsTightTrade o.side o.price.0 (price_at ps o.zone) s q) (e o p.0.gate) r) m.orders a.mw both t.orders;
      borders = t.borders;
    }

-- the test of the potentials
pub tight_test : (f : Order → Span) (m : Market) (x : Prefix) (a : Activation) (ps : List Cents) (answer : Bool)
    → IsValid m → IsOfWord m x a → ((o : Order) → GateFits (length m.gates) o → f o ≡ bounds_at m x o)
    → ArePrices m ps → (IsTrue answer ↔ IsTight f m a ps) → IsTrue answer ↔ AreTightPotentials m a ps
tight_test f m x a ps answer v w e prices t = (
  λ yes. record { prices = prices; tight = same_tight f (own_bounds m a) m a ps v (λ o h. e o h ∙ same_span m x a o v w.gates h) (t.0 yes) },
  λ p. t.1 (same_tight (own_bounds m a) f m a ps v (λ o h. sym (e o h ∙ same_span m x a o v w.gates h)) p.tight),
)

-- the parts of a conflict
pub conflict_test : (m : Market) (x : Prefix) (k : ConflictRecord) (ps : List Cents) (zs : List ℕ) (answer : Bool)
    → ps ≡ k.potentials.cents → zs ≡ k.chain → IsOfWord m x k.activation → AreTightPotentials m k.activation ps
    → (IsTrue answer ↔ IsContradictoryChain m k.activation zs) → IsTrue answer ↔ IsConflict m (word_of x) k
conflict_test m x k ps zs answer same_ps same_zs w p t =
    let own : IsTrue answer ↔ IsContradictoryChain m k.activation k.chain = subst (λ (ys : List ℕ). IsTrue answer ↔ IsContradictoryChain m k.activation ys) same_zs t in
    let tight : AreTightPotentials m k.activation k.potentials.cents = subst (λ (qs : List Cents). AreTightPotentials m k.activation qs) same_ps p in (
      λ yes. record { gates = w.gates; feasible = w.feasible; prices = tight.prices; tight = tight.tight; chain = own.0 yes },
      λ c. own.1 c.chain,
    )
