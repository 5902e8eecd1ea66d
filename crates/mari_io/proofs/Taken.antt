-- Texts that are written one after the other.
use Rattle.std.proofs.Common.{◌≡◌, ◌∙◌, ℕ, List, [], ◌++◌, Option, Some, None, append_assoc, append-nil, refl, sym, ap}
use Rattle.mari_io.specs.Taken.{then_took}

pub took_more : (taken : Option (List ℕ)) (a b : List ℕ) → then_took (then_took taken a) b ≡ then_took taken (a ++ b)
took_more None a b = refl
took_more (Some t) a b = ap Some (append_assoc t a b)

-- the same of what is known as taken
pub took_both : (before between after : Option (List ℕ)) (a b : List ℕ) → between ≡ then_took before a → after ≡ then_took between b → after ≡ then_took before (a ++ b)
took_both before between after a b e f = f ∙ ap (λ taken. then_took taken b) e ∙ took_more before a b

pub took_nothing : (taken : Option (List ℕ)) → taken ≡ then_took taken []
took_nothing None = refl
took_nothing (Some t) = ap (λ (xs : List ℕ). Some xs) (sym (append-nil t))
