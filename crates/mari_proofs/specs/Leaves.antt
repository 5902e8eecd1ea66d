-- The cutoff of a certificate, and what one that holds leaves out.
use Rattle.std.specs.Prelude.{◌≡◌, ⊤, Bool, true, false, ℤ, ◌-ℤ◌, pos, List}
use Rattle.mari_market.specs.declared.market.Market.{Market}
use Rattle.mari_market.specs.declared.activation.Activation.{Activation}
use Rattle.mari_market.specs.declared.certificate.Leaf.{Leaf as LeafRecord}
use Rattle.mari_market.specs.declared.certificate.Leaf.TheVariants.{Bound, Cut, Conflict}
use Rattle.mari_market.specs.Activation.{gate_word_of}
use Rattle.mari_market.specs.Optimal.{IsAdmissible}

-- the cutoff less 1 where a certificate is to hold below it, and else the cutoff
abbrev pub cutoff_below : Bool → ℤ → ℤ
cutoff_below true cutoff = cutoff -ℤ pos 1
cutoff_below false cutoff = cutoff

-- where the certificate is a conflict, no admissible activation has the word as its gate word
abbrev pub ExcludesWord : Market → List Bool → LeafRecord → Type 0
ExcludesWord m word (Bound potentials) = ⊤
ExcludesWord m word (Cut cut) = ⊤
ExcludesWord m word (Conflict conflict) = (a : Activation) → IsAdmissible m a → gate_word_of m a ≡ word → ⊥
