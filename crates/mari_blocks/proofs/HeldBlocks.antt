-- What stands in memory of the blocks of lines.
use Rattle.std.proofs.Common.{◌≡◌, ◌∙◌, ◌<◌, ◌==◌, ℕ, List, Option, get_or, length, map, ap, zero-add}
use Rattle.std.specs.Prelude.{is_some}
use Rattle.std.specs.List.{find, list_any, range_with_len}
use Rattle.std.proofs.lemmas.List.FromFn.{get_or-map-range_with_len, length-map-range_with_len}
use Rattle.mari_rows.specs.declared.rows.Row.{Row}
use Rattle.mari_rows.proofs.FindLemmas.{find-some, map-some}
use Rattle.mari_bids.specs.declared.bids.BidBook.{BidBook}
use Rattle.mari_blocks.specs.Blocks.{bid_at, block_in, block_place}

module _ (bids : BidBook) (rows : List Row) (blocks : List (Option ℕ)) (held : blocks ≡ map (block_in bids rows) (range_with_len 0 (length bids.ids))) where
  -- there is an entry for each bid
  pub one-each : length blocks ≡ length bids.ids
  one-each = ap length held ∙ length-map-range_with_len (block_in bids rows) 0 (length bids.ids)

  pub entry-of : (bid : ℕ) → bid < length bids.ids → (d : Option ℕ) → get_or blocks bid d ≡ block_in bids rows bid
  entry-of bid l d = ap (λ (bs : List (Option ℕ)). get_or bs bid d) held ∙ get_or-map-range_with_len (block_in bids rows) 0 (length bids.ids) bid bid d l (zero-add bid)

  -- a bid is in a block exactly where a line puts it into one
  pub is-in : (bid : ℕ) → bid < length bids.ids → (d : Option ℕ) → is_some (get_or blocks bid d) ≡ list_any (λ row. bid_at bids row == bid) rows
  is-in bid l d =
      ap is_some (entry-of bid l d)
      ∙ map-some (block_place rows) (find (λ row. bid_at bids row == bid) rows) ∙ find-some (λ row. bid_at bids row == bid) rows
