use Rattle.std.proofs.Common.{◌≡◌, ℕ, ◌∙◌, List, length, take, set, get_or, slice_index, arith, sym, subst, length-set}
use Rattle.std.proofs.lemmas.List.{get_or-take, get_or_default, length-take}
use Rattle.std.proofs.lemmas.List.Elements.{All-get_or}
use Rattle.mari_market.specs.Market.{IsBetween}
use Rattle.mari_market.specs.declared.market.Border.{Border}
use Rattle.mari_prices.specs.Spread.{IsApart}
use Rattle.mari_prices.proofs.Borders.{firsts_more}
use Rattle.mari_prices.proofs.spread.first_borders.Goals as goal

pub loop-i-preserved : goal.loop-i-preserved
loop-i-preserved c =
    let n = c.args.zones in
    let bs = c.args.borders.now in
    let i = c.loop-i.i in
    let none : Border = record { from = 0; to = 0; limit = 0; back = 0 } in
    let b : Border = get_or bs i none in
    let ends : IsBetween n b = All-get_or (IsBetween n) bs i none c.loop-i-test.true c.requires.ends in
    let firsts = c.loop-i.firsts.items in
    let one : List ℕ = set firsts b.from c.min.result in
    let long : length one ≡ n = omega (arith, length-set firsts b.from c.min.result, c.loop-i.invariant.long) in
    let low : c.index.result.now ≡ get_or firsts b.from 0 = c.index.ensures ∙ get_or_default firsts b.from c.index.result.now 0 (omega (arith, ends.0, c.loop-i.invariant.long)) in
    let high : c.index-in-loop-i.result.now ≡ get_or one b.to 0 = c.index-in-loop-i.ensures ∙ get_or_default one b.to c.index-in-loop-i.result.now 0 (omega (arith, ends.1)) in
    record {
      long = omega (arith, length-set one b.to c.min-in-loop-i.result);
      apart = firsts_more firsts bs none i n c.min.result c.min-in-loop-i.result c.loop-i.invariant.long ends.0 ends.1 c.loop-i.invariant.apart (omega (arith, c.min.ensures))
          (omega (arith, c.min.ensures)) (omega (arith, c.min-in-loop-i.ensures)) (omega (arith, c.min-in-loop-i.ensures));
    }

pub returns-clause-firsts : goal.returns-clause-firsts
returns-clause-firsts c = λ z there k d less.
    let bs = c.args.borders.now in
    let n : ℕ = slice_index c.loop-i.firsts.items z in
    let none : Border = record { from = 0; to = 0; limit = 0; back = 0 } in
    let long = length-take n bs in
    let same : get_or (take n bs) k d ≡ get_or bs k none = get_or-take n bs k d (omega arith) ∙ get_or_default bs k d none (omega arith) in
    subst (IsApart z) (sym same) (c.loop-i.invariant.apart z k there (omega arith) (omega arith))
