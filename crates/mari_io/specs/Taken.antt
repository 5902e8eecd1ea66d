-- What a sink has taken of a text that is written to it, where it states what it takes.
use Rattle.std.specs.Prelude.{ℕ, ◌≡◌, List, ◌++◌, Option, take}
use Rattle.std.specs.Option.{option_map}

-- the sink has taken this text too
abbrev pub then_took : Option (List ℕ) → List ℕ → Option (List ℕ)
then_took taken text = option_map (λ t. t ++ text) taken

-- the sink has taken a first part of this text
abbrev pub TookPart : (before after : Option (List ℕ)) → List ℕ → Type 0
TookPart before after text = (count : ℕ) × (after ≡ then_took before (take count text))
