-- With every gate closed: something lies within the bounds, and no conflict holds, so there is a best activation.
use Rattle.std.proofs.Common.{◌≡◌, ◌∙◌, ◌==◌, if◌then◌else◌, Bool, true, false, ℕ, zero, suc, ◌+◌, ◌<◌, ◌≤◌, ℤ, pos, List, [], ◌∷◌, length, map, replicate, Option, Some, None, arith, refl, sym, ap, subst, zero-add, add-zero}
use Rattle.std.proofs.lemmas.Int.{clamps, ints}
use Rattle.std.proofs.lemmas.List.{get_or-replicate, length-replicate, nil_from_length}
use Rattle.std.proofs.lemmas.List.Elements.{All-head, All-tail}
use Rattle.std.proofs.lemmas.Option.{slice_get-get_or}
use Rattle.std.specs.Prelude.{slice_get, IfSome, IsSomeAnd, MatchOption}
use Rattle.std.specs.List.{All, AllZip, range_with_len}
use Rattle.mari_market.specs.declared.activation.Activation.{Activation}
use Rattle.mari_market.specs.declared.certificate.Conflict.{Conflict as ConflictRecord}
use Rattle.mari_market.specs.declared.certificate.Cut.{Cut as CutRecord}
use Rattle.mari_market.specs.declared.finding.Attained.{Attained}
use Rattle.mari_market.specs.declared.finding.Finding.{Finding}
use Rattle.mari_market.specs.declared.finding.Finding.TheVariants.{Empty, Relaxed}
use Rattle.mari_market.specs.declared.finding.Relaxed.{Relaxed as RelaxedRecord}
use Rattle.mari_market.specs.declared.market.Border.{Border}
use Rattle.mari_market.specs.declared.market.Market.{Market}
use Rattle.mari_market.specs.declared.market.Order.{Order}
use Rattle.mari_market.specs.declared.market.Side.{Side}
use Rattle.mari_market.specs.declared.market.Side.TheVariants.{Inject, Withdraw}
use Rattle.mari_market.specs.declared.prefix.Prefix.{Prefix}
use Rattle.mari_market.specs.Activation.{carried_out, is_open, put_in, put_into, gate_word_of, IsWithinLimits}
use Rattle.mari_market.specs.Bounds.{IsWithin, GateState, gated_span, own_bounds, span_in, span_of}
use Rattle.mari_market.specs.Bounds.GateState.{Open, Closed}
use Rattle.mari_market.specs.Conflict.{IsConflict}
use Rattle.mari_market.specs.Consistent.{IsConsistentOrder, IsConsistentTrade, standing_of}
use Rattle.mari_market.specs.declared.price_rules.Standing.TheVariants.{InOpen, InClosed}
use Rattle.mari_market.specs.Cut.{IsCut}
use Rattle.mari_market.specs.Dual.{IsTightOrder, IsTightTrade}
use Rattle.mari_market.specs.Finding.{IsAttained, IsFinding, IsRefuted, IsRelaxedFinding, IsSettled}
use Rattle.mari_market.specs.Market.{IsValid, IsValidOrder}
use Rattle.mari_market.specs.Optimal.{IsAdmissible}
use Rattle.mari_market.specs.Prefix.{bit_of, bounds_of_word, decided, state_of, undecided, word_of, IsFeasibleWord}
use Rattle.mari_market.specs.Price.{price_at}
use Rattle.mari_market.specs.Relaxation.{all_closed, IsClosedWelfare, IsRelaxedWelfare, IsWithinBounds}
use Rattle.mari_market.specs.Sums.{sum_along}
use Rattle.mari_market.proofs.Conflicts.{conflict_refutes}
use Rattle.mari_market.proofs.Cuts.{cut_is_empty}
use Rattle.mari_market.proofs.Prefixes.{state_rule}
use Rattle.mari_market.proofs.Search.{parents_earlier}
use Rattle.mari_market.proofs.Sums.{AllZip-both, AllZip-with}
use Rattle.mari_market.proofs.Words.{begins_get, begins_own, Begins}
use Rattle.mari_market.proofs.Standings.{plain_consistent}
use Rattle.mari_node.specs.Nodes.{SomeWithin}
use Rattle.mari_workers.specs.declared.first.ClosedOptimum.{ClosedOptimum}
use Rattle.mari_workers.specs.Closed.{closed_finding, IsClosedOptimum}

-- ---- the closed word

pub length-all_closed : (m : Market) → length (all_closed m) ≡ length m.gates
length-all_closed m = length-replicate (length m.gates) false

get_closed : (m : Market) (g : ℕ) → g < length m.gates → slice_get (all_closed m) g ≡ Some false
get_closed m g l = slice_get-get_or (all_closed m) g false (omega (arith, length-all_closed m, l)) ∙ ap Some (get_or-replicate (length m.gates) g false false l)

closed_state : (m : Market) (g : ℕ) → IsValid m → g < length m.gates → state_of m.gates (all_closed m) g ≡ Closed
closed_state m g v l =
    state_rule m.gates (all_closed m) g (parents_earlier m v) l
    ∙ ap (λ (b : Option Bool). decided b (undecided m.gates (all_closed m) (state_of m.gates (all_closed m)) g)) (get_closed m g l)

-- ---- nothing runs, and nothing flows

abbrev idle : Market → Activation
idle m = record { mw = map (λ (o : Order). 0) m.orders; flow = map (λ (b : Border). pos 0) m.borders }

idle_order : (n : ℕ) (state : ℕ → GateState) (gate : Option ℕ) (o : Order) → ((g : ℕ) → g < n → state g ≡ Closed)
    → MatchOption gate (o.least ≡ 0) (λ g. (g < n) × (1 ≤ o.least)) → IsWithin (span_of state gate o) 0
idle_order n state None o closed fits = record { least = omega arith; most = omega arith }
idle_order n state (Some g) o closed fits = subst (λ (s : GateState). IsWithin (gated_span s o) 0) (sym (closed g fits.0)) (record { least = omega arith; most = omega arith })

idle_orders : (z n : ℕ) (state : ℕ → GateState) → ((g : ℕ) → g < n → state g ≡ Closed) → (os : List Order)
    → All (IsValidOrder z n) os → AllZip (λ o q. IsWithin (span_in state o) q) os (map (λ (o : Order). 0) os)
idle_orders z n state closed [] v = tt
idle_orders z n state closed (o ∷ os) v = (idle_order n state o.gate o closed (All-head (IsValidOrder z n) o os v).gate, idle_orders z n state closed os (All-tail (IsValidOrder z n) o os v))

idle_borders : (bs : List Border) → AllZip IsWithinLimits bs (map (λ (b : Border). pos 0) bs)
idle_borders [] = tt
idle_borders (b ∷ bs) = (record { back = omega (arith, ints); limit = omega (arith, ints) }, idle_borders bs)

puts_none : (side : Side) → put_in side 0 ≡ pos 0
puts_none Inject = refl
puts_none Withdraw = refl

one_of : (b : Bool) (v : ℤ) → v ≡ pos 0 → (if b then v else pos 0) ≡ pos 0
one_of true v e = e
one_of false v e = refl

idle_put : (z : ℕ) (os : List Order) → sum_along (put_into z) os (map (λ (o : Order). 0) os) ≡ pos 0
idle_put z [] = refl
idle_put z (o ∷ os) = omega (arith, ints, idle_put z os, one_of (o.zone == z) (put_in o.side 0) (puts_none o.side))

idle_carried : (z : ℕ) (bs : List Border) → sum_along (carried_out z) bs (map (λ (b : Border). pos 0) bs) ≡ pos 0
idle_carried z [] = refl
idle_carried z (b ∷ bs) = omega (arith, ints, idle_carried z bs, one_of (b.from == z) (pos 0) refl, one_of (b.to == z) (pos 0) refl)

idle_within : (m : Market) → IsValid m → IsWithinBounds (bounds_of_word m (all_closed m)) m (idle m)
idle_within m v = record {
  orders = idle_orders m.zones (length m.gates) (state_of m.gates (all_closed m)) (λ g l. closed_state m g v l) m.orders v.orders;
  borders = idle_borders m.borders;
  balance = λ z l. idle_put z m.orders ∙ sym (idle_carried z m.borders);
}

-- so nothing is cut there
pub closed_not_cut : (m : Market) (cut : CutRecord) → IsValid m → IsCut (bounds_of_word m (all_closed m)) m cut → ⊥
closed_not_cut m cut v h = cut_is_empty (bounds_of_word m (all_closed m)) m (idle m) cut.side cut.zones v (idle_within m v) h.side

-- ---- what is tight is consistent where every gate is closed

closed_order : (n : ℕ) (opens : ℕ → Bool) (gate : Option ℕ) (side : Side) (c p : ℤ) (o : Order) (q : ℕ) → ((g : ℕ) → g < n → opens g ≡ false) → MatchOption gate (o.least ≡ 0)
    (λ g. (g < n) × (1 ≤ o.least)) → IsTightTrade side c p (span_of (λ g. if opens g then Open else Closed) gate o) q → IsConsistentTrade (standing_of opens gate) side c o.greatest q p
closed_order n opens None side c p o q shut fits h = plain_consistent side c p o.greatest q h
closed_order n opens (Some g) side c p o q shut fits h =
    subst (λ (b : Bool). IsConsistentTrade (if b then InOpen else InClosed) side c o.greatest q p) (sym (shut g fits.0)) (record { lower = λ no. absurd no; upper = λ no. absurd no })

gates_shut : (m : Market) (a : Activation) → gate_word_of m a ≡ all_closed m → (g : ℕ) → g < length m.gates → is_open m a g ≡ false
gates_shut m a e g l =
    let begun : Begins (all_closed m) (is_open m a) = subst (λ (w : List Bool). Begins w (is_open m a)) e (begins_own m a) in
    ap (is_open m a) (sym (zero-add g)) ∙ begins_get 0 (all_closed m) (is_open m a) g false begun (get_closed m g l)

conflict_admissible : (m : Market) (k : ConflictRecord) → IsValid m → IsConflict m (all_closed m) k → IsAdmissible m k.activation
conflict_admissible m k v h =
    let a = k.activation in
    let ps = k.potentials.cents in
    let Tight : Order → ℕ → Type 0 = λ o q. IsValidOrder m.zones (length m.gates) o × IsTightOrder (own_bounds m a) ps o q in
    let tight : AllZip Tight m.orders a.mw = AllZip-with (IsValidOrder m.zones (length m.gates)) (IsTightOrder (own_bounds m a) ps) m.orders a.mw v.orders h.tight.orders in
    record {
      feasible = h.feasible;
      consistent = (
        ps,
        record {
          prices = h.prices;
          orders = AllZip-both Tight Tight (IsConsistentOrder (is_open m a) ps)
              (λ o q t _. closed_order (length m.gates) (is_open m a) o.gate o.side o.price.0 (price_at ps o.zone) o q (gates_shut m a h.gates) t.0.gate t.1) m.orders a.mw tight tight;
          borders = h.tight.borders;
        },
      );
    }

-- so no conflict holds there
pub closed_not_refuted : (m : Market) (k : ConflictRecord) → IsValid m → IsConflict m (all_closed m) k → ⊥
closed_not_refuted m k v h = conflict_refutes m (all_closed m) k k.activation v h (conflict_admissible m k v h) h.gates

-- ---- what is found there

not_refuted : (m : Market) (r : RelaxedRecord) → IsValid m → IsRefuted m (all_closed m) r → ⊥
not_refuted m r v h = by_conflict r.conflict h.conflict
  where
    by_conflict : (o : Option ConflictRecord) → IsSomeAnd o (IsConflict m (all_closed m)) → ⊥
    by_conflict None c = absurd c
    by_conflict (Some k) c = closed_not_refuted m k v c

pub closed_has_best : (m : Market) (r : RelaxedRecord) → IsValid m → IsRelaxedFinding m (all_closed m) r → r.best ≡ None → ⊥
closed_has_best m r v f e =
    let P : Option Attained → Type 0 = λ o. MatchOption o (IsRefuted m (all_closed m) r) (IsSettled m (all_closed m) r) in
    not_refuted m r v (subst P e (f.at_the_end (length-all_closed m)))

-- what is found there settles it
settled : (m : Market) (r : RelaxedRecord) (best : Attained) → IsRelaxedFinding m (all_closed m) r → r.best ≡ Some best → IsSettled m (all_closed m) r best
settled m r best f e = subst (λ (o : Option Attained). MatchOption o (IsRefuted m (all_closed m) r) (IsSettled m (all_closed m) r)) e (f.at_the_end (length-all_closed m))

-- so its activation and its potentials are all that is found
pub closed_whole : (m : Market) (r : RelaxedRecord) (best : Attained) → IsRelaxedFinding m (all_closed m) r → r.best ≡ Some best
    → IsClosedOptimum m (record { first = best; potentials = r.potentials })
closed_whole m r best f e =
    let s : IsSettled m (all_closed m) r best = settled m r best f e in
    record {
      prices = f.prices;
      value = f.value;
      bound = omega (arith, ints, clamps, s.value);
      attained = subst (λ (o : Option Attained). IfSome o (IsAttained m)) e f.attained;
      at_the_end = λ l. record { gates = s.gates; value = s.value; conflict = refl };
      before = λ l. absurd (omega (arith, l, length-all_closed m));
    }

pub closed_welfare : (m : Market) (c : ClosedOptimum) → IsClosedOptimum m c → IsClosedWelfare m (pos c.first.welfare)
closed_welfare m c h = subst (IsRelaxedWelfare m (all_closed m)) (sym (settled m (closed_finding c) c.first h refl).value) h.value

pub closed_gates : (m : Market) (c : ClosedOptimum) → IsClosedOptimum m c → gate_word_of m c.first.activation ≡ all_closed m
closed_gates m c h = (settled m (closed_finding c) c.first h refl).gates

-- what is found there isn't a cut
pub closed_is_relaxed : (m : Market) (word : List Bool) (f : Finding) → IsValid m → word ≡ all_closed m → IsFinding m word f → ((r : RelaxedRecord) → f ≡ Relaxed r → ⊥) → ⊥
closed_is_relaxed m word (Empty cut) v e h n = closed_not_cut m cut v (subst (λ (w : List Bool). IsCut (bounds_of_word m w) m cut) e h)
closed_is_relaxed m word (Relaxed r) v e h n = n r refl

-- what is found there, as a relaxed optimum
pub closed_found : (m : Market) (word : List Bool) (f : Finding) (r : RelaxedRecord) → word ≡ all_closed m → f ≡ Relaxed r → IsFinding m word f → IsRelaxedFinding m (all_closed m) r
closed_found m word f r e is h = subst (λ (w : List Bool). IsRelaxedFinding m w r) e (subst (IsFinding m word) is h)

-- where no gate is, every feasible word is that one
pub one_word : (m : Market) (word : List Bool) → m.gates ≡ [] → IsFeasibleWord m.gates word → word ≡ all_closed m
one_word m word e h = nil_from_length word (omega (arith, h.decided, ap length e)) ∙ sym (nil_from_length (all_closed m) (omega (arith, length-all_closed m, ap length e)))

-- what is found shows that something lies within the word's bounds
pub something_within : (m : Market) (word : List Bool) (r : RelaxedRecord) → IsRelaxedFinding m word r → SomeWithin m word
something_within m word r f = record { activation = f.value.reached.0; within = f.value.reached.1 }

-- ---- the closed prefix is feasible

-- a prefix without a bit that is 1 closes what it decides
pub word-closed : (x : Prefix) (n : ℕ) → x.length ≡ n → ((g : ℕ) → g < n → bit_of x g ≡ false) → word_of x ≡ replicate n false
word-closed x n e none = ap (λ (k : ℕ). map (bit_of x) (range_with_len 0 k)) e ∙ all_false 0 n (bit_of x) (λ i l. ap (bit_of x) (zero-add i) ∙ none i l)
  where
    all_false : (a k : ℕ) (f : ℕ → Bool) → ((i : ℕ) → i < k → f (a + i) ≡ false) → map f (range_with_len a k) ≡ replicate k false
    all_false a zero f h = refl
    all_false a (suc k) f h =
        let first : f a ≡ false = ap f (sym (add-zero a)) ∙ h 0 (omega arith) in
        let rest : map f (range_with_len (a + 1) k) ≡ replicate k false = all_false (a + 1) k f (λ i l. ap f (omega arith) ∙ h (suc i) (omega arith)) in
        ap (λ (b : Bool). b ∷ map f (range_with_len (a + 1) k)) first ∙ ap (λ (bs : List Bool). false ∷ bs) rest

-- ---- the closed welfare

-- it is one number
pub closed_one : (m : Market) (v w : ℤ) → IsClosedWelfare m v → IsClosedWelfare m w → v ≡ w
closed_one m v w hv hw = omega (arith, ints, hv.reached.2, hw.reached.2, hv.greatest hw.reached.0 hw.reached.1, hw.greatest hv.reached.0 hv.reached.1)
