use Rattle.std.proofs.Common.{◌≤◌, ℕ, List, drop, length}
use Rattle.std.specs.Prelude.{vec_len}
use Rattle.mari_stream.specs.Coming.{come_of}
use Rattle.mari_stream.specs.Streams.{HasTaken}
use Rattle.mari_stream.proofs.stream.take_parts.Given as goal

-- some more parts of the text were taken
abbrev pub invariant-parts : goal.invariant-parts
invariant-parts g l = record {
  handled : l.coming.handled ≤ vec_len l.coming.bytes;
  taken : (first : g.row.P.Denot) (lent : g.row.W.Denot) (text : List ℕ) (parts : List g.row.F-Part.Denot)
      → HasTaken g.F.TextForm.form (g.P.TakesParts.Took first lent l.fn.so_far l.fn.with) text parts (come_of l.fn.coming)
      → (after : List g.row.F-Part.Denot) × HasTaken g.F.TextForm.form (g.P.TakesParts.Took first lent l.so_far l.with) text after (come_of l.coming);
  faults : g.P.TakesParts.faults l.fn.with ≤ g.P.TakesParts.faults l.with;
}

-- the bytes that are left to be handled
abbrev pub decreases-parts : goal.decreases-parts
decreases-parts g l = length (drop l.coming.handled l.coming.bytes.items)
