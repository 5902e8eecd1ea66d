use Rattle.std.proofs.Common.{◌≡◌, ◌∙◌, ◌<◌, ◌+◌, ◌==◌, ℕ, Bool, Some, None, false, true, get_or, length, refl, sym, ap, arith, rules, zero-add}
use Rattle.std.specs.Prelude.{◌||◌, ◌&&◌, not}
use Rattle.std.specs.List.{list_any, range_with_len}
use Rattle.std.specs.Option.{option_map_or}
use Rattle.std.proofs.lemmas.List.{get_or_default, length-set}
use Rattle.mari_blocks.specs.Blocks.{block_at}
use Rattle.mari_blocks.specs.Joint.{is_in_block, is_one_of}
use Rattle.mari_blocks.proofs.Marks.{mark-no, mark-yes}
use Rattle.mari_blocks.proofs.Ranges.{any-more}
use Rattle.mari_blocks.proofs.choice.left_out.Goals as goal
use Rattle.mari_blocks.proofs.choice.left_out.Goals.{in-Some+then-not-index, in-Some+else-not-index, in_default}

pub loop-bid-preserved : goal.loop-bid-preserved
loop-bid-preserved c =
    let blocks = c.args.blocks.now in
    let offered = c.args.offered.now in
    let bid = c.loop-bid.bid in
    let marks = c.loop-bid.marks.items in
    let inv = c.loop-bid.invariant in
    let test : ℕ → ℕ → Bool = λ block bid. is_in_block blocks block bid && not (is_one_of offered bid) in
    let was : ℕ → Bool = λ block. list_any (test block) (range_with_len 0 bid) in
    let is : ℕ → Bool = λ block. list_any (test block) (range_with_len 0 (bid + 1)) in
    let more : (block : ℕ) → is block ≡ (was block || test block bid) = λ block. any-more (test block) 0 bid bid (zero-add bid) in
    let within : bid < length c.in_ok-available.available.items = omega (arith, c.loop-bid-test.true, c.in_ok-available.ensures.sized) in
    let available : get_or c.in_ok-available.available.items bid false ≡ is_one_of offered bid = c.in_ok-available.ensures.marks bid in
    elim c.match-entry.branch [
      | in-Some+then-not-index w ↦ (
          let own : block_at blocks bid ≡ Some w.in-Some.block = rw c.as_slice-entries.ensures at w.in-Some.is in
          let absent : is_one_of offered bid ≡ false =
          sym available ∙ get_or_default c.in_ok-available.available.items bid false w.index.result.now within ∙ sym w.index.ensures ∙ w.if-not-index.true in
          let below = c.requires.there bid w.in-Some.block own in
          rw w.marks-is (record {
            sized = length-set marks w.in-Some.block true ∙ inv.sized;
            marked = mark-yes marks was is inv.marked w.in-Some.block (omega (arith, below, inv.sized))
                (λ block. more block ∙ ap (λ o. was block || (option_map_or (λ own. own == block) o false && not (is_one_of offered bid))) own
                ∙ ap (λ b. was block || ((w.in-Some.block == block) && not b)) absent
                ∙ ap (λ b. was block || b) (and-yes (w.in-Some.block == block)));
          }))
      | in-Some+else-not-index w ↦ (
          let there : is_one_of offered bid ≡ true =
          sym available ∙ get_or_default c.in_ok-available.available.items bid false w.index.result.now within ∙ sym w.index.ensures ∙ w.if-not-index.false in
          rw w.marks-is (record {
            sized = inv.sized;
            marked = mark-no marks was is inv.marked
                (λ block. more block ∙ ap (λ b. was block || (is_in_block blocks block bid && not b)) there ∙ ap (λ b. was block || b) (and-no (is_in_block blocks block bid)));
          }))
      | in_default w ↦ (
          let none : get_or c.as_slice-entries.result.now bid None ≡ None = search rules in
          let own : block_at blocks bid ≡ None = rw c.as_slice-entries.ensures at none in
          rw w.marks-is (record {
            sized = inv.sized;
            marked = mark-no marks was is inv.marked (λ block. more block ∙ ap (λ o. was block || (option_map_or (λ own. own == block) o false && not (is_one_of offered bid))) own);
          }))
    ]
  where
    and-yes : (a : Bool) → (a && true) ≡ a
    and-yes true = refl
    and-yes false = refl

    and-no : (a : Bool) → (a && false) ≡ false
    and-no true = refl
    and-no false = refl
