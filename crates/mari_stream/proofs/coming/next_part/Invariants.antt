use Rattle.std.proofs.Common.{◌≤◌, ℕ, List, length, drop}
use Rattle.std.specs.Prelude.{vec_len}
use Rattle.mari_stream.specs.Coming.{ComesFrom, come_of}
use Rattle.mari_stream.proofs.coming.next_part.Given as goal

-- lines were taken, and gave no part yet
abbrev pub invariant-lines : goal.invariant-lines
invariant-lines g l = record {
  handled : l.coming.handled ≤ vec_len l.coming.bytes;
  stands : (text : List ℕ) (parts : List g.row.F-Part.Denot) → ComesFrom g.F.TextForm.form (come_of l.fn.coming) text parts → ComesFrom g.F.TextForm.form (come_of l.coming) text parts;
  no_longer : length (come_of l.coming).unread ≤ length (come_of l.fn.coming).unread;
}

abbrev pub decreases-lines : goal.decreases-lines
decreases-lines g l = length (drop l.coming.handled l.coming.bytes.items)
