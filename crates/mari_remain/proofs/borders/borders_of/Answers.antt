use Rattle.std.proofs.Common.{◌≡◌, ◌++◌, ◌∷◌, [], ℕ, sym, rules, zero-add}
use Rattle.std.proofs.lemmas.List.FromFn.{map-range_with_len_more}
use Rattle.mari_market.specs.declared.market.Border.{Border}
use Rattle.mari_remain.specs.FirstBlocks.{taken_in}
use Rattle.mari_remain.specs.RunMarket.{border_left, ends_at, run_limits}
use Rattle.mari_remain.proofs.borders.borders_of.Goals as goal

pub loop-number-preserved : goal.loop-number-preserved
loop-number-preserved c =
    let books = c.args.books.now in
    let left : ℕ → Border = λ k. border_left (ends_at books.borders.borders k) (run_limits books c.args.run k) ((taken_in books c.args.remaining.now c.args.quarter).flow k) in
    let k = c.loop-number.number in
    let pushed : c.push.new.self.items ≡ c.loop-number.left.items ++ c.border_left.result ∷ [] = search rules in
    let made : c.border_left.result ≡ left k = rw (sym c.limits_of-limits.ensures.limits, sym c.flow_of-flow.ensures.flow) (search rules) in
    rw (pushed, c.loop-number.invariant, made) (sym (map-range_with_len_more left 0 k k (zero-add k)))
