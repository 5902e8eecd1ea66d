-- Why a call failed, handed on by another call.
use Rattle.std.proofs.Common.{◌≡◌, ◌≤◌, ℕ, Err, ap, arith}
use Rattle.std.specs.Prelude.{IsErrOf}
use Rattle.mari_io.specs.Outside.{Counts, counted}
use Rattle.mari_io.specs.declared.shelf.Fetch.{Fetch}

-- what never comes has no cause
pub counts_none : (X : Type 0) (a b c : ℕ) → (X → ⊥) → a ≤ b → b ≤ c → Counts X a c
counts_none X a b c never l m = record { later = omega (arith, l, m); rose = λ h. absurd (never h) }

-- what comes only where a call gave this fault has the cause of that
pub counts_as : (T X : Type 0) (f g : Fetch) (a b c : ℕ) → (X → f ≡ g) → a ≤ b → Counts (IsErrOf {T = T} (Err f) g) b c → Counts X a c
counts_as T X f g a b c only l n = record {
  later = omega (arith, l, n.later);
  rose = λ h.
      let r : counted b ≤ c = n.rose (ap (λ (x : Fetch). Err x) (only h)) in
      omega (arith, l, r);
}
