-- Marks of numbers, with one more.
use Rattle.std.proofs.Common.{◌≡◌, ◌≢◌, ◌∙◌, ◌<◌, ◌==◌, ◌⊎◌, ℕ, Bool, true, false, List, get_or, length, sym, ap, inl, inr}
use Rattle.std.specs.Prelude.{◌||◌}
use Rattle.std.proofs.Math.ListN.{set}
use Rattle.std.proofs.lemmas.Bool.Decides.{eqb_tells}
use Rattle.std.proofs.lemmas.Grind.{get_or-set_at}
use Rattle.std.proofs.lemmas.List.{get_or-set_other}
use Rattle.mari_links.proofs.EntryLemmas.{or-no, or-yes}

-- marks that state what was so state what is so: where it is of one number more with that marked, and else as they are
module _ (marks : List Bool) (was is : ℕ → Bool) (reported : (k : ℕ) → get_or marks k false ≡ was k) where
  pub mark-yes : (n : ℕ) → n < length marks → ((k : ℕ) → is k ≡ (was k || (n == k))) → (k : ℕ) → get_or (set marks n true) k false ≡ is k
  mark-yes n l more k = by (eqb_tells n k)
    where
      by : ((n == k) ≡ true) × (n ≡ k) ⊎ ((n == k) ≡ false) × (n ≢ k) → get_or (set marks n true) k false ≡ is k
      by (inl here) = get_or-set_at marks n k true false (sym here.1) l ∙ sym (more k ∙ ap (λ b. was k || b) here.0 ∙ or-yes (was k))
      by (inr other) = get_or-set_other marks n k true false (λ e. other.1 (sym e)) ∙ reported k ∙ sym (more k ∙ ap (λ b. was k || b) other.0 ∙ or-no (was k))

  pub mark-no : ((k : ℕ) → is k ≡ (was k || false)) → (k : ℕ) → get_or marks k false ≡ is k
  mark-no same k = reported k ∙ sym (same k ∙ or-no (was k))
