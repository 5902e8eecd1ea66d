use Rattle.std.proofs.Common.{◌≤◌, ℕ, List, length, drop}
use Rattle.std.specs.Prelude.{vec_len}
use Rattle.mari_publish.specs.declared.publication.Part.{Part}
use Rattle.mari_publish.specs.Pieces.{ComesFrom, come_of}
use Rattle.mari_publish.proofs.coming.next_part.Given as goal

-- lines were taken, and gave no part yet
abbrev pub invariant-lines : goal.invariant-lines
invariant-lines l = record {
  handled : l.coming.handled ≤ vec_len l.coming.bytes;
  stands : (text : List ℕ) (parts : List Part) → ComesFrom (come_of l.fn.coming) text parts → ComesFrom (come_of l.coming) text parts;
}

abbrev pub decreases-lines : goal.decreases-lines
decreases-lines l = length (drop l.coming.handled l.coming.bytes.items)
