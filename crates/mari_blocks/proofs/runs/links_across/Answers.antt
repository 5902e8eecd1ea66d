use Rattle.std.proofs.Common.{◌≡◌, ◌∙◌, ℕ, Bool, Some, true, false, length, refl, sym, ap, arith, rules, zero-add}
use Rattle.std.specs.Prelude.{◌&&◌, slice_get}
use Rattle.std.specs.Option.{option_map_or}
use Rattle.std.proofs.lemmas.Option.{slice_get-get_or}
use Rattle.mari_blocks.specs.Joint.{is_of_quarters, names_of_quarters}
use Rattle.mari_blocks.proofs.Ranges.{any-in-range, any-more}
use Rattle.mari_blocks.proofs.runs.links_across.Goals as goal
use Rattle.mari_blocks.proofs.runs.links_across.Goals.{else-is_of_quarters-via-then-is_of_quarters+else-names_of_quarters, else-is_of_quarters-via-else-is_of_quarters}

pub returns-then-names_of_quarters : goal.returns-then-names_of_quarters
returns-then-names_of_quarters c =
    let books = c.args.books.now in
    let links = books.links.links in
    let bid = c.loop-bid.bid in
    let l = rw c.as_slice-links-items.ensures at c.loop-bid-test.true in
    let there : slice_get links bid ≡ Some c.links-item.result = slice_get-get_or links bid c.links-item.result l ∙ ap Some (sym (rw c.as_slice-links-items.ensures at c.links-item.is)) in
    let inside : is_of_quarters books c.args.first c.args.last bid ≡ true = search rules in
    let named : names_of_quarters books c.args.first c.args.last c.links-item.result ≡ true = search rules in
    let test : ℕ → Bool = λ bid. is_of_quarters books c.args.first c.args.last bid && option_map_or (names_of_quarters books c.args.first c.args.last) (slice_get links bid) false in
    let passes : test bid ≡ true = rw (inside, there, named) refl in
    sym (any-in-range test 0 (length links) bid (omega arith) (omega (arith, l)) passes)

pub loop-bid-preserved : goal.loop-bid-preserved
loop-bid-preserved c =
    let books = c.args.books.now in
    let links = books.links.links in
    let bid = c.loop-bid.bid in
    let l = rw c.as_slice-links-items.ensures at c.loop-bid-test.true in
    let there : slice_get links bid ≡ Some c.links-item.result = slice_get-get_or links bid c.links-item.result l ∙ ap Some (sym (rw c.as_slice-links-items.ensures at c.links-item.is)) in
    let test : ℕ → Bool = λ bid. is_of_quarters books c.args.first c.args.last bid && option_map_or (names_of_quarters books c.args.first c.args.last) (slice_get links bid) false in
    elim c.else-is_of_quarters.branch [
      | else-is_of_quarters-via-then-is_of_quarters+else-names_of_quarters w ↦ (
          let named : names_of_quarters books c.args.first c.args.last c.links-item.result ≡ false = sym w.names_of_quarters.ensures ∙ w.if-names_of_quarters.false in
          let fails : test bid ≡ false = rw (there, named) (and-no (is_of_quarters books c.args.first c.args.last bid)) in
          any-more test 0 bid bid (zero-add bid) ∙ rw (c.loop-bid.invariant, fails) refl)
      | else-is_of_quarters-via-else-is_of_quarters w ↦ (
          let outside : is_of_quarters books c.args.first c.args.last bid ≡ false = sym c.is_of_quarters.ensures ∙ w.if-is_of_quarters.false in
          let fails : test bid ≡ false = rw outside refl in
          any-more test 0 bid bid (zero-add bid) ∙ rw (c.loop-bid.invariant, fails) refl)
    ]
  where
    and-no : (a : Bool) → (a && false) ≡ false
    and-no true = refl
    and-no false = refl
