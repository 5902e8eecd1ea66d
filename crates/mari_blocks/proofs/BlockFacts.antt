-- What holds of every book of blocks that is read.
use Rattle.std.proofs.Common.{◌≡◌, ◌∙◌, ◌≤◌, ◌==◌, ℕ, false, List, [], ◌∷◌, ◌++◌, Option, Some, None, Result, Ok, Err, IfOk, length, map, refl, sym, zero-add, inl, inr}
use Rattle.std.specs.Prelude.{option_map}
use Rattle.std.specs.List.{All, find, range_with_len}
use Rattle.std.proofs.lemmas.Bool.{and_parts, cases_lt, eqb-true, leb-true, not-false}
use Rattle.std.proofs.lemmas.List.{get_or_past}
use Rattle.std.proofs.lemmas.List.Elements.{All-nil, All-push}
use Rattle.std.proofs.lemmas.List.FromFn.{get_or-map-range_with_len, length-map-range_with_len}
use Rattle.mari_rows.specs.Books.{GivesBook, book_in, first_failing}
use Rattle.mari_rows.specs.declared.faults.BookFault.{BookFault}
use Rattle.mari_rows.specs.declared.rows.Row.{Row}
use Rattle.mari_rows.proofs.BookFacts.{all-passed, along-lines, place-below}
use Rattle.mari_rows.proofs.BookLemmas.{book-page}
use Rattle.mari_rows.proofs.FindLemmas.{found-has}
use Rattle.mari_bids.specs.declared.bids.BidBook.{BidBook}
use Rattle.mari_links.specs.declared.links.LinkBook.{LinkBook}
use Rattle.mari_blocks.specs.Blocks.{IsBlockBook, IsOfBlock, bid_at, block_at, block_book, block_grammar, block_in, block_name, block_place, is_linked, line_checks, names_of, quarter_at}
use Rattle.mari_blocks.specs.declared.blocks.BlockBook.{BlockBook}
use Rattle.mari_blocks.proofs.BlockLemmas.{named-there}

module _ (bids : BidBook) (links : LinkBook) (first last : ℕ) where
  -- a bid that may be in a block
  record IsFree (bid : ℕ) : Type 0 where
    from_first : first ≤ quarter_at bids bid
    to_last : quarter_at bids bid ≤ last
    unlinked : is_linked links.links bid ≡ false

  abbrev AreFree : List Row → Type 0
  AreFree rows = All (λ row. IsFree (bid_at bids row)) rows

  one-line : (before : List Row) (line : Row) → first_failing (line_checks bids links first last before line) ≡ None → AreFree before → AreFree (before ++ line ∷ [])
  one-line before line none so_far =
      let all = all-passed (line_checks bids links first last before line) none in
      let within = and_parts _ _ (not-false _ all.1.1.0) in
      All-push (λ row. IsFree (bid_at bids row)) before line so_far
      (record { from_first = leb-true _ _ within.0; to_last = leb-true _ _ within.1; unlinked = all.1.1.1.1.0 })

  module _ (rows : List Row) (free : AreFree rows) where
    of-line : (bid block : ℕ) (o : Option Row) → find (λ row. bid_at bids row == bid) rows ≡ o
        → option_map (block_place rows) o ≡ Some block
        → IsOfBlock bids links first last (length (names_of rows)) bid block
    of-line bid block None e f = cc f
    of-line bid block (Some row) e f =
        let is = found-has (λ row. bid_at bids row == bid) (λ row. IsFree (bid_at bids row)) rows row e free in
        let same : bid_at bids row ≡ bid = eqb-true (bid_at bids row) bid is.0 in
        let place : block_place rows row ≡ block = cc f in
        let own = rw same at is.1 in
        record {
          there = rw (sym place) (place-below (names_of rows) (block_name row) (named-there (λ row. bid_at bids row == bid) rows row e));
          from_first = own.from_first;
          to_last = own.to_last;
          unlinked = own.unlinked;
        }

    of-block : (bid block : ℕ) → block_at (block_book bids rows) bid ≡ Some block → IsOfBlock bids links first last (length (names_of rows)) bid block
    of-block bid block e = elim (cases_lt bid (length bids.ids)) [
      | inl l ↦ of-line bid block (find (λ row. bid_at bids row == bid) rows) refl (sym (get_or-map-range_with_len (block_in bids rows) 0 (length bids.ids) bid bid None l (zero-add bid)) ∙ e)
      | inr past ↦ absurd
          (never (sym (get_or_past (map (block_in bids rows) (range_with_len 0 (length bids.ids))) bid None (rw (length-map-range_with_len (block_in bids rows) 0 (length bids.ids)) past)) ∙ e))
    ]
      where
        never : None ≡ Some block → ⊥
        never e = cc e

  pub block-facts : (page : List ℕ) (result : Result BlockBook BookFault) → GivesBook result (book_in (block_grammar bids links first last) page) → IfOk result (IsBlockBook bids links first last)
  block-facts page (Err fault) gives = tt
  block-facts page (Ok book) gives =
      let read = book-page (block_grammar bids links first last) page book gives in
      let rows : List Row = read.0 in
      let free = along-lines (block_grammar bids links first last) AreFree one-line rows book read.2 (All-nil (λ row. IsFree (bid_at bids row))) in
      let whole : IsBlockBook bids links first last (block_book bids rows) = record {
        one_each = length-map-range_with_len (block_in bids rows) 0 (length bids.ids);
        blocks = of-block rows free;
      } in
      rw read.2.says whole
