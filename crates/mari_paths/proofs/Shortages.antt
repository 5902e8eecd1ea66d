-- What each zone is short of, kept as slots and borders are gone over.
use Rattle.std.proofs.Common.{◌≡◌, ◌==◌, if◌then◌else◌, Bool, true, false, ℕ, ◌+◌, ◌<◌, ◌≤◌, ℤ, pos, ◌+ℤ◌, ◌-ℤ◌, List, length, set, arith, refl, sym, ap, ◌∙◌, inl, inr, get_or-set_other}
use Rattle.std.proofs.lemmas.Int.{ints}
use Rattle.std.proofs.lemmas.Bool.{cases_eq, eqb-true}
use Rattle.std.proofs.lemmas.List.{get_or-set_same}
use Rattle.std.specs.List.{All, AllZip}
use Rattle.mari_market.specs.declared.market.Border.{Border}
use Rattle.mari_market.specs.Activation.{IsWithinLimits, carried_out}
use Rattle.mari_market.proofs.Sums.{AllZip-at}
use Rattle.mari_network.specs.declared.slots.Slot.{Slot}
use Rattle.mari_market.specs.Sums.{int_at}
use Rattle.mari_network.specs.Slots.{no_slot, at_zone, IsWithinSlot}
use Rattle.mari_network.specs.Orders.{IsOrderSlot}
use Rattle.mari_network.specs.Network.{no_border, border_at}
use Rattle.mari_paths.specs.Starts.{IsNear, AreSmallLimits}

yes_zone : (k z : ℕ) (a b : ℤ) → z ≡ k → (if k == z then a else b) ≡ a
yes_zone k z a b e = grind (arith)

no_zone : (k z : ℕ) (a b : ℤ) → (z ≡ k → ⊥) → (if k == z then a else b) ≡ b
no_zone k z a b n = grind (arith)

set_at : (xs : List ℤ) (k z : ℕ) (v : ℤ) → k < length xs → int_at (set xs k v) z ≡ (if k == z then v else int_at xs z)
set_at xs k z v l = elim (cases_eq z k) [
  | inl e ↦ ap (λ (j : ℕ). int_at (set xs k v) j) e ∙ get_or-set_same xs k v (pos 0) l ∙ sym (yes_zone k z v (int_at xs z) e)
  | inr n ↦ get_or-set_other xs k z v (pos 0) n ∙ sym (no_zone k z v (int_at xs z) n)
]

less_if : (b : Bool) (a c x : ℤ) → (b ≡ true → a ≡ c) → (if b then a -ℤ x else c) ≡ c -ℤ (if b then x else pos 0)
less_if true a c x e = omega (arith, ints, e refl)
less_if false a c x e = omega (arith, ints)

more_if : (b : Bool) (a c x : ℤ) → (b ≡ true → a ≡ c) → (if b then a +ℤ x else c) ≡ c +ℤ (if b then x else pos 0)
more_if true a c x e = omega (arith, ints, e refl)
more_if false a c x e = omega (arith, ints)

pub less_at : (xs : List ℤ) (k z : ℕ) (x : ℤ) → k < length xs → int_at (set xs k (int_at xs k -ℤ x)) z ≡ int_at xs z -ℤ at_zone z k x
less_at xs k z x l = set_at xs k z (int_at xs k -ℤ x) l ∙ less_if (k == z) (int_at xs k) (int_at xs z) x (λ e. ap (λ (j : ℕ). int_at xs j) (eqb-true k z e))

pub more_at : (xs : List ℤ) (k z : ℕ) (x : ℤ) → k < length xs → int_at (set xs k (int_at xs k +ℤ x)) z ≡ int_at xs z +ℤ at_zone z k x
more_at xs k z x l = set_at xs k z (int_at xs k +ℤ x) l ∙ more_if (k == z) (int_at xs k) (int_at xs z) x (λ e. ap (λ (j : ℕ). int_at xs j) (eqb-true k z e))

near_if : (b : Bool) (m : ℕ) (x : ℤ) → IsNear m x → IsNear m (if b then x else pos 0)
near_if true m x n = n
near_if false m x n = record { low = omega (arith, ints, n.low, n.high); high = omega (arith, ints, n.low, n.high) }

pub near_zone : (m z k : ℕ) (x : ℤ) → IsNear m x → IsNear m (at_zone z k x)
near_zone m z k x n = near_if (k == z) m x n

pub near_less : (m n k : ℕ) (a x y : ℤ) → IsNear m a → IsNear n x → y ≡ a -ℤ x → m + n ≤ k → IsNear k y
near_less m n k a x y p q e l = record { low = omega (arith, ints, p.low, q.high, e); high = omega (arith, ints, p.high, q.low, e) }

pub near_more : (m n k : ℕ) (a x y : ℤ) → IsNear m a → IsNear n x → y ≡ a +ℤ x → m + n ≤ k → IsNear k y
near_more m n k a x y p q e l = record { low = omega (arith, ints, p.low, q.low, e); high = omega (arith, ints, p.high, q.high, e) }

pub carried_near : (z : ℕ) (b : Border) (f : ℤ) → IsNear 200000 f → IsNear 400000 (carried_out z b f)
carried_near z b f n =
    near_less 200000 200000 400000 (at_zone z b.from f) (at_zone z b.to f) (carried_out z b f) (near_zone 200000 z b.from f n)
    (near_zone 200000 z b.to f n) (omega (arith, ints)) (omega arith)

pub small_amount : (n : ℕ) (slots : List Slot) (xs : List ℤ) (i : ℕ) → All (IsOrderSlot n) slots → AllZip IsWithinSlot slots xs → i < length slots → IsNear 99999 (int_at xs i)
small_amount n slots xs i a w l =
    let s = a i no_slot l in
    let x = AllZip-at IsWithinSlot slots xs i no_slot (pos 0) l w in
    record { low = omega (arith, ints, s.low, x.least); high = omega (arith, ints, s.high, x.most) }

-- a flow within small limits is small
pub within_near : (b : Border) (f : ℤ) → AreSmallLimits b → IsWithinLimits b f → IsNear 200000 f
within_near b f a w = record { low = omega (arith, ints, a.1, w.back); high = omega (arith, ints, a.0, w.limit) }

pub small_flow : (bs : List Border) (fs : List ℤ) (i : ℕ) → All AreSmallLimits bs → AllZip IsWithinLimits bs fs → i < length bs → IsNear 200000 (int_at fs i)
small_flow bs fs i a w l = within_near (border_at bs i) (int_at fs i) (a i no_border l) (AllZip-at IsWithinLimits bs fs i no_border (pos 0) l w)

pub near_wider : (m k : ℕ) (x : ℤ) → IsNear m x → m ≤ k → IsNear k x
near_wider m k x n l = record { low = omega (arith, ints, n.low); high = omega (arith, ints, n.high) }
