use Rattle.std.proofs.Common.{◌≡◌, ◌∙◌, Option, Some, true, false, refl, sym, ap, arith, rules}
use Rattle.std.specs.Prelude.{is_some, unwrap_or}
use Rattle.std.specs.Str.{bytes_eq}
use Rattle.mari_units.specs.Names.{is_name}
use Rattle.mari_rows.specs.Rows.{field_of}
use Rattle.mari_rows.proofs.BookFacts.{position-below}
use Rattle.mari_blocks.specs.Blocks.{bid_in, block_name, is_linked, is_within, quarter_at}
use Rattle.mari_blocks.proofs.HeldBlocks.{is-in, one-each}
use Rattle.mari_blocks.proofs.blocks.BlocksSoFar.bid_of_line.Goals as goal

pub index-requires : goal.index-requires
index-requires c =
    let s = c.args.self.now in
    let line = c.args.line.now in
    let found : bid_in s.bids.now line ≡ Some c.in-Some.bid = search rules in
    let below = position-below (bytes_eq (field_of line 1)) s.bids.now.ids c.in-Some.bid found in
    omega (arith, below, s.block_of.ok.0, one-each s.bids.now c.requires.0 s.block_of.items c.requires.1.block_of)

pub returns-then-is_some-clause-bid : goal.returns-then-is_some-clause-bid
returns-then-is_some-clause-bid c = λ earlier holds.
    let s = c.args.self.now in
    let line = c.args.line.now in
    let bid = c.in-Some.bid in
    let name : is_name (block_name line) ≡ true = search rules in
    let found : bid_in s.bids.now line ≡ Some bid = search rules in
    let within : is_within s.first s.last (quarter_at s.bids.now bid) ≡ true = search rules in
    let below = position-below (bytes_eq (field_of line 1)) s.bids.now.ids bid found in
    let yes : is_some c.index.result.now ≡ true = search rules in
    let again = sym (ap is_some c.index.ensures ∙ is-in s.bids.now earlier s.block_of.items holds.block_of bid below c.index.result.now) ∙ yes in
    rw (name, found, within, again) refl

pub returns-then-is_linked-clause-bid : goal.returns-then-is_linked-clause-bid
returns-then-is_linked-clause-bid c = λ earlier holds.
    let s = c.args.self.now in
    let line = c.args.line.now in
    let bid = c.in-Some.bid in
    let name : is_name (block_name line) ≡ true = search rules in
    let found : bid_in s.bids.now line ≡ Some bid = search rules in
    let within : is_within s.first s.last (quarter_at s.bids.now bid) ≡ true = search rules in
    let below = position-below (bytes_eq (field_of line 1)) s.bids.now.ids bid found in
    let no : is_some c.index.result.now ≡ false = search rules in
    let new = sym (ap is_some c.index.ensures ∙ is-in s.bids.now earlier s.block_of.items holds.block_of bid below c.index.result.now) ∙ no in
    let linked : is_linked s.links.now.links bid ≡ true = search rules in
    rw (name, found, within, new, linked) refl

pub returns-clause-bid : goal.returns-clause-bid
returns-clause-bid c = λ earlier holds.
    let s = c.args.self.now in
    let line = c.args.line.now in
    let bid = c.in-Some.bid in
    let name : is_name (block_name line) ≡ true = search rules in
    let found : bid_in s.bids.now line ≡ Some bid = search rules in
    let within : is_within s.first s.last (quarter_at s.bids.now bid) ≡ true = search rules in
    let below = position-below (bytes_eq (field_of line 1)) s.bids.now.ids bid found in
    let no : is_some c.index.result.now ≡ false = search rules in
    let new = sym (ap is_some c.index.ensures ∙ is-in s.bids.now earlier s.block_of.items holds.block_of bid below c.index.result.now) ∙ no in
    let free : is_linked s.links.now.links bid ≡ false = search rules in
    (rw (name, found, within, new, free) refl, sym (ap (λ (o : Option _). unwrap_or o 0) found))
