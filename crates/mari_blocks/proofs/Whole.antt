-- A block is in the joint market whole, or not at all.
use Rattle.std.proofs.Common.{◌≡◌, ◌∙◌, ◌==◌, ℕ, Bool, true, false, List, Some, None, length, refl, sym, ap, zero-add, inl, inr}
use Rattle.std.specs.Prelude.{◌&&◌, not}
use Rattle.std.specs.List.{range_with_len}
use Rattle.std.specs.Option.{option_map_or}
use Rattle.std.proofs.lemmas.Bool.{cases_lt, eqb-true, not-false}
use Rattle.std.proofs.lemmas.List.{get_or_past}
use Rattle.std.proofs.lemmas.List.FromFn.{get_or-range_with_len, length-range_with_len}
use Rattle.std.proofs.lemmas.Map.Views.{any-filter_same}
use Rattle.mari_links.proofs.EntryLemmas.{itself}
use Rattle.mari_blocks.specs.Blocks.{block_at}
use Rattle.mari_blocks.specs.Joint.{AreWhole, is_left_out, is_in_block, is_one_of, kept_bids}
use Rattle.mari_blocks.specs.declared.blocks.BlockBook.{BlockBook}
use Rattle.mari_blocks.proofs.Listing.{none-at}

module _ (blocks : BlockBook) (offered : List ℕ) where
  abbrev stays : ℕ → Bool
  stays bid = not (option_map_or (is_left_out blocks offered) (block_at blocks bid) false)

  -- a bid is kept where it is available and not left out
  kept-where : (bid : ℕ) → is_one_of (kept_bids blocks offered) bid ≡ (stays bid && is_one_of offered bid)
  kept-where bid = any-filter_same (λ other. other == bid) stays (stays bid) (λ other e. ap stays (eqb-true other bid e)) offered

  none-some : (block : ℕ) → None ≡ Some block → ⊥
  none-some block e = cc e

  -- each bid of a block that isn't left out is available
  all-there : (block bid : ℕ) → is_left_out blocks offered block ≡ false → block_at blocks bid ≡ Some block → is_one_of offered bid ≡ true
  all-there block bid none own = elim (cases_lt bid (length blocks.block_of)) [
    | inl l ↦ (
        let test : ℕ → Bool = λ bid. is_in_block blocks block bid && not (is_one_of offered bid) in
        let here = none-at test (range_with_len 0 (length blocks.block_of)) none bid bid (rw (length-range_with_len 0 (length blocks.block_of)) l) in
        let at : test bid ≡ false = sym (ap test (get_or-range_with_len 0 (length blocks.block_of) bid bid l ∙ zero-add bid)) ∙ here in
        let mine : is_in_block blocks block bid ≡ true = ap (λ o. option_map_or (λ own. own == block) o false) own ∙ itself block in
        not-false (is_one_of offered bid) (sym (ap (λ b. b && not (is_one_of offered bid)) mine) ∙ at))
    | inr past ↦ absurd (none-some block (sym (get_or_past blocks.block_of bid None past) ∙ own))
  ]

  pub are-whole : AreWhole blocks (kept_bids blocks offered)
  are-whole block bid other own owns = kept-where bid ∙ by (is_left_out blocks offered block) refl ∙ sym (kept-where other)
    where
      by : (b : Bool) → is_left_out blocks offered block ≡ b → (stays bid && is_one_of offered bid) ≡ (stays other && is_one_of offered other)
      by true e = rw (own, owns, e) refl
      by false e = rw (own, owns, e, all-there block bid e own, all-there block other e owns) refl
