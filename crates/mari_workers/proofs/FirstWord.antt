-- What the examination of an optimal activation's gate word finds.
use Rattle.std.proofs.Common.{◌≡◌, ◌∙◌, Bool, pos, ◌-ℤ◌, ◌≤ℤ◌, List, length, Option, Some, None, arith, refl, sym, ap, subst}
use Rattle.std.specs.Prelude.{IfSome, MatchOption}
use Rattle.std.proofs.lemmas.Int.{ints}
use Rattle.mari_market.specs.declared.activation.Activation.{Activation}
use Rattle.mari_market.specs.declared.certificate.Leaf.TheVariants.{Cut}
use Rattle.mari_market.specs.declared.finding.Attained.{Attained}
use Rattle.mari_market.specs.declared.finding.Finding.{Finding}
use Rattle.mari_market.specs.declared.finding.Finding.TheVariants.{Empty, Relaxed}
use Rattle.mari_market.specs.declared.finding.Relaxed.{Relaxed as RelaxedRecord}
use Rattle.mari_market.specs.declared.market.Market.{Market}
use Rattle.mari_market.specs.Activation.{gate_word_of, is_open, welfare_of}
use Rattle.mari_market.specs.Finding.{IsAttained, IsFinding, IsRefuted, IsRelaxedFinding, IsSettled}
use Rattle.mari_market.specs.Market.{IsValid}
use Rattle.mari_market.specs.Optimal.{IsAdmissible, IsOptimal}
use Rattle.mari_market.proofs.Search.{leaf_sound, within_word}
use Rattle.mari_market.proofs.Words.{begins_own, length-gate_word_of, Begins}

begun : (m : Market) (word : List Bool) (a : Activation) → word ≡ gate_word_of m a → Begins word (is_open m a)
begun m word a e = subst (λ (w : List Bool). Begins w (is_open m a)) (sym e) (begins_own m a)

-- something lies within its bounds
pub not_empty : (m : Market) (word : List Bool) (a : Activation) (f : Finding) → IsValid m → IsOptimal m a
    → word ≡ gate_word_of m a → IsFinding m word f → ((r : RelaxedRecord) → f ≡ Relaxed r → ⊥) → ⊥
not_empty m word a (Empty cut) v o e h none =
    let low : welfare_of m a ≤ℤ (welfare_of m a -ℤ pos 1) = leaf_sound m (welfare_of m a -ℤ pos 1) word (Cut cut) a v h o.admissible (begun m word a e) in absurd (omega (arith, ints, low))
not_empty m word a (Relaxed r) v o e h none = none r refl

full_word : (m : Market) (word : List Bool) (a : Activation) → word ≡ gate_word_of m a → length word ≡ length m.gates
full_word m word a e = ap length e ∙ length-gate_word_of m a

-- it has an activation
pub has_activation : (m : Market) (word : List Bool) (a : Activation) (f : Finding) (r : RelaxedRecord)
    → IsOptimal m a → word ≡ gate_word_of m a → f ≡ Relaxed r → IsFinding m word f → r.best ≡ None → ⊥
has_activation m word a f r o e is h none =
    let found : IsRelaxedFinding m word r = subst (IsFinding m word) is h in
    let refuted : IsRefuted m word r = subst (λ (b : Option Attained). MatchOption b (IsRefuted m word r) (IsSettled m word r)) none (found.at_the_end (full_word m word a e)) in
    refuted.none a o.admissible (sym e)

-- and that is as good
pub as_good : (m : Market) (word : List Bool) (a : Activation) (f : Finding) (r : RelaxedRecord) (best : Attained)
    → IsValid m → IsOptimal m a → word ≡ gate_word_of m a → f ≡ Relaxed r → IsFinding m word f → r.best ≡ Some best
    → IsAdmissible m best.activation × (gate_word_of m best.activation ≡ gate_word_of m a) × (welfare_of m best.activation ≡ welfare_of m a)
as_good m word a f r best v o e is h some =
    let found : IsRelaxedFinding m word r = subst (IsFinding m word) is h in
    let settled : IsSettled m word r best = subst (λ (b : Option Attained). MatchOption b (IsRefuted m word r) (IsSettled m word r)) some (found.at_the_end (full_word m word a e)) in
    let attained : IsAttained m best = subst (λ (b : Option Attained). IfSome b (IsAttained m)) some found.attained in
    let most = found.value.greatest a (within_word m a word o.admissible.feasible (begun m word a e)) in
    let least = o.greatest best.activation attained.admissible in
    (attained.admissible, settled.gates ∙ e, omega (arith, ints, most, least, attained.welfare, settled.value))
