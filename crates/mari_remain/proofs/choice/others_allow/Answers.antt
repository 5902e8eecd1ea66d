use Rattle.std.proofs.Common.{◌≡◌, ◌∙◌, ◌<◌, Some, ap, arith, length, sym, refl}
use Rattle.std.proofs.lemmas.Option.{slice_get-get_or}
use Rattle.std.specs.Prelude.{slice_get}
use Rattle.mari_remain.specs.FirstBlocks.{taken_in}
use Rattle.mari_remain.proofs.Choosing.{alone-free, alone-keeps, alone-parent}
use Rattle.mari_remain.proofs.choice.others_allow.Goals as goal

pub returns-then-alone : goal.returns-then-alone
returns-then-alone c =
    let links = c.args.books.now.links.links in
    let i = c.args.number in
    let own = c.index-as_slice-number.result in
    let all : length links ≡ length c.args.books.now.bids.bids = c.requires.accepted.links.one_each ∙ c.requires.accepted.bids.named in
    let there : i < length links = omega (arith, all, c.requires.there) in
    let at : slice_get links i ≡ Some own = slice_get-get_or links i own there ∙ ap Some (sym (rw c.as_slice.ensures at c.index-as_slice-number.is)) in
    let alone = sym c.is_alone-alone.ensures ∙ c.if-alone.true in
    rw (alone-free links i own at alone (taken_in c.args.books.now c.args.remaining.now c.args.quarter), alone-keeps links i own at alone c.args.remaining.now, alone-parent links i own at alone _)
    refl
