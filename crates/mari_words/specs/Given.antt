-- What `clap` has found of a command's words.
use Rattle.std.specs.Prelude.{ℕ, List, Option, option_and_then}
use lib.Chars.{codes}
use Rattle.clap.specs.Words.{Row, first_of}
use Rattle.mari_words.specs.Asked.{Asked}
use Rattle.mari_words.specs.Words.{Given, asked_for, verb_named}

-- what rows give
abbrev pub given_of : List Row → Given
given_of rows = record {
  first = first_of (codes "first") rows;
  second = first_of (codes "second") rows;
  third = first_of (codes "third") rows;
  nodes = first_of (codes "nodes") rows;
  workers = first_of (codes "workers") rows;
}

-- what the command of this name asks for, by what was found
abbrev pub asked_by : List ℕ → List Row → Option Asked
asked_by name rows = option_and_then (λ verb. asked_for verb (given_of rows)) (verb_named name)

-- what the subcommand that was found asks for
abbrev pub asked_in : Option (List ℕ × List Row) → Option Asked
asked_in = option_and_then (λ p. asked_by p.0 p.1)
