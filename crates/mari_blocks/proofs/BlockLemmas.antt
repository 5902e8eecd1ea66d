-- The blocks that lines name, with one more line.
use Rattle.std.proofs.Common.{◌≡◌, ◌∙◌, ◌==◌, ℕ, Bool, true, false, List, [], ◌∷◌, ◌++◌, Option, Some, None, refl, ap, if◌then◌else◌}
use Rattle.std.specs.Prelude.{◌||◌, option_map}
use Rattle.std.specs.List.{find, list_any}
use Rattle.std.specs.Option.{option_or}
use Rattle.std.specs.Str.{bytes_eq}
use Rattle.std.proofs.lemmas.List.Folds.{find-append}
use Rattle.mari_rows.specs.Names.{is_among}
use Rattle.mari_rows.specs.declared.rows.Row.{Row}
use Rattle.mari_rows.proofs.FindLemmas.{find-some, kept-none}
use Rattle.mari_rows.proofs.NameLemmas.{bytes_eq-same, list_any-map}
use Rattle.mari_rows.proofs.PlaceLemmas.{distinct-push, place-with}
use Rattle.mari_bids.specs.declared.bids.BidBook.{BidBook}
use Rattle.mari_links.proofs.EntryLemmas.{itself, or-yes}
use Rattle.mari_links.proofs.GroupLemmas.{among-fold}
use Rattle.mari_blocks.specs.Blocks.{bid_at, block_in, block_name, block_place, names_of}

-- the block that a line names is among those of all lines
pub named-there : (test : Row → Bool) (rows : List Row) (row : Row) → find test rows ≡ Some row → is_among (names_of rows) (block_name row) ≡ true
named-there test rows row found = among-fold [] _ (block_name row) ∙ list_any-map block_name (bytes_eq (block_name row)) rows ∙ along rows found
  where
    along : (rows : List Row) → find test rows ≡ Some row → list_any (λ (r : Row). bytes_eq (block_name row) (block_name r)) rows ≡ true
    along [] f = cc f
    along (r ∷ rs) f = by (test r) refl f (along rs)
      where
        by : (b : Bool) → test r ≡ b → (if b then Some r else find test rs) ≡ Some row → (find test rs ≡ Some row → list_any (λ (r : Row). bytes_eq (block_name row) (block_name r)) rs ≡ true)
            → (bytes_eq (block_name row) (block_name r) || list_any (λ (r : Row). bytes_eq (block_name row) (block_name r)) rs) ≡ true
        by true e g more = let same : r ≡ row = cc g in rw (same, bytes_eq-same (block_name row)) refl
        by false e g more = rw (more g) (or-yes (bytes_eq (block_name row) (block_name r)))

module _ (bids : BidBook) (rows : List Row) (row : Row) where
  place-stays : (test : Row → Bool) → option_map (block_place (rows ++ row ∷ [])) (find test rows) ≡ option_map (block_place rows) (find test rows)
  place-stays test = by (find test rows) refl
    where
      by : (o : Option Row) → find test rows ≡ o → option_map (block_place (rows ++ row ∷ [])) o ≡ option_map (block_place rows) o
      by None e = refl
      by (Some other) e = ap Some (rw (distinct-push block_name rows row) (place-with (names_of rows) (block_name other) (block_name row) (named-there test rows other e)))

  option-no : (o : Option Row) → option_or o None ≡ o
  option-no None = refl
  option-no (Some r) = refl

  -- the blocks of other bids stay
  pub block-stays : (bid : ℕ) → (bid_at bids row == bid) ≡ false → block_in bids (rows ++ row ∷ []) bid ≡ block_in bids rows bid
  block-stays bid other =
      rw (find-append (λ r. bid_at bids r == bid) rows (row ∷ []), other, option-no (find (λ r. bid_at bids r == bid) rows)) (place-stays (λ r. bid_at bids r == bid))

  -- and a bid that is in none gets that of its line
  pub block-new : list_any (λ r. bid_at bids r == bid_at bids row) rows ≡ false → block_in bids (rows ++ row ∷ []) (bid_at bids row) ≡ Some (block_place (rows ++ row ∷ []) row)
  block-new new =
      let none = kept-none (find (λ r. bid_at bids r == bid_at bids row) rows) (find-some (λ r. bid_at bids r == bid_at bids row) rows ∙ new) in
      rw (find-append (λ r. bid_at bids r == bid_at bids row) rows (row ∷ []), none, itself (bid_at bids row)) refl
