use Rattle.std.proofs.Common.{◌≡◌, ◌∙◌, ◌<◌, ◌+◌, ◌==◌, ℕ, List, Some, None, false, true, get_or, length, take, sym, ap, arith, rules}
use Rattle.std.specs.Prelude.{◌||◌, slice_get}
use Rattle.std.specs.Option.{option_and_then, option_map_or}
use Rattle.std.proofs.lemmas.List.{length-set}
use Rattle.std.proofs.lemmas.List.Folds.{list_any_more}
use Rattle.std.proofs.lemmas.Option.{slice_get-get_or}
use Rattle.mari_links.specs.declared.links.BidLinks.{BidLinks}
use Rattle.mari_remain.specs.Lists.{parent_at}
use Rattle.mari_blocks.specs.Blocks.{is_parent, is_parent_of}
use Rattle.mari_blocks.proofs.Marks.{mark-no, mark-yes}
use Rattle.mari_blocks.proofs.blocks.parents_of.Goals as goal
use Rattle.mari_blocks.proofs.blocks.parents_of.Goals.{in-Some, in_default}

-- the parent of an entry is reported of its place
parent-of : (links : List BidLinks) (k parent : ℕ) (entry : BidLinks) → k < length links → entry ≡ get_or links k entry → entry.parent ≡ Some parent → parent_at links k ≡ Some parent
parent-of links k parent entry l is e =
    let there : slice_get links k ≡ Some entry = slice_get-get_or links k entry l ∙ ap Some (sym is) in
    ap (option_and_then (λ (l : BidLinks). l.parent)) there ∙ e

pub index_mut-requires : goal.index_mut-requires
index_mut-requires c =
    let below = c.requires c.loop-entry.entry-index c.in-Some.parent
    (parent-of c.args.links.now c.loop-entry.entry-index c.in-Some.parent c.entry-item.result c.loop-entry-test.true c.entry-item.is c.in-Some.is) in
    omega (arith, below, c.loop-entry.invariant.sized, c.loop-entry.parents.ok.0)

pub loop-entry-preserved : goal.loop-entry-preserved
loop-entry-preserved c =
    let links = c.args.links.now in
    let k = c.loop-entry.entry-index in
    let entry : BidLinks = c.entry-item.result in
    let marks = c.loop-entry.parents.items in
    let inv = c.loop-entry.invariant in
    let more : (bid : ℕ) → is_parent (take (k + 1) links) bid ≡ (is_parent (take k links) bid || is_parent_of bid entry) =
    λ bid. list_any_more (is_parent_of bid) links k entry c.loop-entry-test.true ∙ ap (λ e. is_parent (take k links) bid || is_parent_of bid e) (sym c.entry-item.is) in
    elim c.match-entry.branch [
      | in-Some w ↦ (
          let below = c.requires k w.in-Some.parent (parent-of links k w.in-Some.parent entry c.loop-entry-test.true c.entry-item.is w.in-Some.is) in
          rw w.parents-is (record {
            sized = length-set marks w.in-Some.parent true ∙ inv.sized;
            marked = mark-yes marks (is_parent (take k links)) (is_parent (take (k + 1) links)) inv.marked w.in-Some.parent (omega (arith, below, inv.sized))
                (λ bid. more bid ∙ ap (λ o. is_parent (take k links) bid || option_map_or (λ parent. parent == bid) o false) w.in-Some.is);
          }))
      | in_default w ↦ (
          let none : entry.parent ≡ None = search rules in
          rw w.parents-is (record {
            sized = inv.sized;
            marked = mark-no marks (is_parent (take k links)) (is_parent (take (k + 1) links)) inv.marked
                (λ bid. more bid ∙ ap (λ o. is_parent (take k links) bid || option_map_or (λ parent. parent == bid) o false) none);
          }))
    ]
