-- What a certificate that holds says of the activations below its prefix.
use Rattle.std.proofs.Common.{◌≡◌, Bool, ℕ, ℤ, ◌≤ℤ◌, List, ◌∷◌, take, suc, subst}
use Rattle.mari_market.specs.declared.market.Market.{Market}
use Rattle.mari_market.specs.declared.activation.Activation.{Activation}
use Rattle.mari_market.specs.declared.prefix.Prefix.{Prefix}
use Rattle.mari_market.specs.declared.certificate.Leaf.{Leaf as LeafRecord}
use Rattle.mari_market.specs.declared.certificate.Leaf.TheVariants.{Bound, Cut, Conflict}
use Rattle.mari_market.specs.Activation.{is_open, welfare_of, gate_word_of}
use Rattle.mari_market.specs.Market.{IsValid}
use Rattle.mari_market.specs.Optimal.{IsAdmissible}
use Rattle.mari_market.specs.Prefix.{word_of}
use Rattle.mari_market.specs.Tree.{LeafHolds}
use Rattle.mari_market.proofs.Words.{Begins, BeginsFrom, begins_own}
use Rattle.mari_market.proofs.Search.{leaf_sound}
use Rattle.mari_market.proofs.Conflicts.{conflict_refutes}
use Rattle.mari_proofs.specs.Leaves.{ExcludesWord}

begins_take : (k n : ℕ) (word : List Bool) (opens : ℕ → Bool) → BeginsFrom k word opens → BeginsFrom k (take n word) opens
begins_take k (suc n) (c ∷ cs) opens b = (b.0, begins_take (suc k) n cs opens b.1)
begins_take k _ _ opens b = tt

-- no admissible activation whose gates begin as the prefix says is better than the cutoff
pub leaf_bounds_below : (m : Market) (w : ℤ) (x : Prefix) (n : ℕ) (leaf : LeafRecord) (a : Activation) → IsValid m
    → LeafHolds m w (word_of x) leaf → IsAdmissible m a → take n (gate_word_of m a) ≡ word_of x → welfare_of m a ≤ℤ w
leaf_bounds_below m w x n leaf a v h adm e =
    leaf_sound m w (word_of x) leaf a v h adm (subst (λ (word : List Bool). Begins word (is_open m a)) e (begins_take 0 n (gate_word_of m a) (is_open m a) (begins_own m a)))

-- a conflict that holds leaves no admissible activation of the prefix's gate word
pub leaf_excludes : (m : Market) (w : ℤ) (word : List Bool) (leaf : LeafRecord) → IsValid m → LeafHolds m w word leaf → ExcludesWord m word leaf
leaf_excludes m w word (Bound potentials) v h = tt
leaf_excludes m w word (Cut cut) v h = tt
leaf_excludes m w word (Conflict conflict) v h = λ a adm e. conflict_refutes m word conflict a v h adm e
