use Rattle.std.proofs.Common.{◌≡◌, ◌≤◌, ◌-◌, ℕ, true}
use Rattle.std.specs.Prelude.{vec_len}
use Rattle.mari_io.specs.Outside.{counted_by}
use Rattle.mari_io.specs.declared.shelf.TheConstants.{MOST_GIVEN}
use Rattle.mari_stream.specs.Coming.{come_of}
use Rattle.mari_stream.proofs.Paging.{Under}
use Rattle.mari_stream.proofs.Streaming.{TakesSome}
use Rattle.mari_stream.proofs.stream.read_pieces.Given as goal

-- some of the page has come, its parts were taken, and the counts haven't fallen
abbrev pub invariant-pieces : goal.invariant-pieces
invariant-pieces g l =
    let shelf = g.S.Shelf in
    let taker = g.P.TakesParts in
    record {
      same : shelf.pages l.shelf ≡ shelf.pages l.fn.shelf;
      stays : shelf.is_open l.shelf ≡ true;
      handled : l.coming.handled ≤ vec_len l.coming.bytes;
      under : Under (TakesSome g.F.TextForm.form (taker.Took l.fn.so_far l.fn.with l.so_far l.with) (come_of l.coming)) (shelf.rest l.fn.shelf) (shelf.rest l.shelf) (shelf.given l.shelf);
      pieces : ℕ;
      few : pieces ≤ shelf.given l.shelf;
      asked : shelf.fetches l.shelf ≡ counted_by pieces (shelf.fetches l.fn.shelf);
      named : shelf.named l.shelf ≡ shelf.named l.fn.shelf;
      faults : shelf.faults l.fn.shelf ≤ shelf.faults l.shelf;
      misses : shelf.misses l.fn.shelf ≤ shelf.misses l.shelf;
      overs : shelf.overs l.fn.shelf ≤ shelf.overs l.shelf;
      writes : taker.faults l.fn.with ≤ taker.faults l.with;
    }

-- the number of bytes that may still be given
abbrev pub decreases-pieces : goal.decreases-pieces
decreases-pieces g l = MOST_GIVEN - g.S.Shelf.given l.shelf
