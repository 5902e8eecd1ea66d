use Rattle.std.proofs.Common.{◌∙◌, neg_ℤ, ap, sym, subst, rules, to_z-of_z, FitsSigned, w64, length}
use Rattle.mari_units.specs.declared.numbers.TheConstants.{CAP}
use Rattle.mari_reach.specs.Ladders.{place_of, AreSumsBefore, AreSumsUpTo}
use Rattle.mari_reach.proofs.Offers.{before_small, sums_at, sums_up_to, up_to_small}
use Rattle.mari_reach.proofs.ladders.Ladder.up_to.Goals as goal

pub without-requires-clause-small : goal.without-requires-clause-small
without-requires-clause-small c =
    before_small (length c.args.self.now.starts.items) c.as_slice.result.now _ c.sums_before-sums.result
    (rw c.as_slice.ensures.value c.requires.ladder.offers) (rw c.as_slice.ensures.value c.requires.ladder.few) c.sums_before-sums.ensures

pub without-requires-clause-others : goal.without-requires-clause-others
without-requires-clause-others c =
    let l = c.requires.ladder in
    let start : AreSumsBefore c.args.self.now.offers.items (place_of c.args.zone (neg_ℤ CAP)) c.index.result.now =
    subst (AreSumsBefore c.args.self.now.offers.items (place_of c.args.zone (neg_ℤ CAP))) (sym c.index.ensures) (l.starts c.args.zone c.index.result.now c.requires.zone) in
    before_small (length c.args.self.now.starts.items) c.args.self.now.offers.items (place_of c.args.zone (neg_ℤ CAP)) c.index.result.now l.offers l.few start

pub returns : goal.returns
returns c =
    let l = c.requires.ladder in
    let xs = c.args.self.now.offers.items in
    let level : FitsSigned w64 c.args.level = search rules in
    let fits : FitsSigned w64 c.place_of-place.result = search rules in
    let place : AreSumsBefore xs (place_of c.args.zone c.args.level) c.sums_before-sums.result =
    sums_at xs c.as_slice.result.now _ _ c.sums_before-sums.result c.as_slice.ensures.value
    (to_z-of_z fits ∙ c.place_of-place.ensures ∙ ap (place_of c.args.zone) (to_z-of_z level)) c.sums_before-sums.ensures in
    let start : AreSumsBefore xs (place_of c.args.zone (neg_ℤ CAP)) c.index.result.now =
    subst (AreSumsBefore xs (place_of c.args.zone (neg_ℤ CAP))) (sym c.index.ensures) (l.starts c.args.zone c.index.result.now c.requires.zone) in
    let sums : AreSumsUpTo xs c.args.zone c.args.level c.without.result =
    sums_up_to (length c.args.self.now.starts.items) c.args.zone c.args.level xs c.sums_before-sums.result c.index.result.now c.without.result
    c.requires.level_low c.requires.level_high l.offers place start c.without.ensures.mw c.without.ensures.worth in
    record { sums = sums; small = up_to_small (length c.args.self.now.starts.items) c.args.zone c.args.level xs c.without.result l.offers l.few sums }
