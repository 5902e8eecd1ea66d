use Rattle.std.proofs.Common.{◌≡◌, ◌∙◌, ◌==◌, ◌++◌, ◌∷◌, [], List, Some, length, sym, ap, arith, rules}
use Rattle.std.specs.Prelude.{map}
use Rattle.std.proofs.lemmas.List.{length-map}
use Rattle.mari_rows.specs.declared.rows.Row.{Row}
use Rattle.mari_rows.proofs.BookFacts.{all-passed}
use Rattle.mari_rows.proofs.PlaceLemmas.{distinct-push, length-distinct}
use Rattle.mari_links.proofs.EntryLemmas.{set-made}
use Rattle.mari_blocks.specs.Blocks.{block_in, block_name, block_place, line_checks}
use Rattle.mari_blocks.proofs.BlockLemmas.{block-new, block-stays}
use Rattle.mari_blocks.proofs.HeldBlocks.{one-each}
use Rattle.mari_blocks.proofs.blocks.BlocksSoFarBookSoFar.take.Goals as goal

pub find_or_add-requires-clause-room : goal.find_or_add-requires-clause-room
find_or_add-requires-clause-room c =
    let few = length-distinct (map block_name c.requires.0) in
    let same = ap length c.requires.1.names in
    omega (arith, few, same, c.requires.2, length-map c.requires.0 block_name)

pub index_mut-requires : goal.index_mut-requires
index_mut-requires c =
    let s = c.args.self.now in
    omega (arith, c.in-Ok.ensures.there, s.block_of.ok.0, one-each s.bids.now c.requires.0 s.block_of.items c.requires.1.block_of)

pub returns-clause-takes : goal.returns-clause-takes
returns-clause-takes c = λ earlier holds.
    let s = c.args.self.now in
    let bids = s.bids.now in
    let line = c.args.line.now in
    let bid = c.in-Ok.bid in
    let all_lines : List Row = earlier ++ line ∷ [] in
    let good = c.in-Ok.ensures.bid earlier holds in
    let all = all-passed (line_checks bids s.links.now s.first s.last earlier line) good.0 in
    let text : c.field.result.now ≡ block_name line = search rules in
    let names = rw (text, holds.names) at c.in_ok-block.ensures.names ∙ sym (distinct-push block_name earlier line) in
    let place : c.in_ok-block.block ≡ block_place all_lines line = rw (names, text) at c.in_ok-block.ensures.place in (
      good.0,
      record {
        names = names;
        block_of = rw holds.block_of (set-made (block_in bids earlier) (block_in bids all_lines) (length bids.ids) bid (Some c.in_ok-block.block) c.in-Ok.ensures.there
            (ap (block_in bids all_lines) good.1 ∙ block-new bids earlier line all.1.1.1.0 ∙ ap Some (sym place))
            (λ j other. block-stays bids earlier line j (ap (λ n. n == j) (sym good.1) ∙ other)));
        parents = holds.parents;
      },
    )
