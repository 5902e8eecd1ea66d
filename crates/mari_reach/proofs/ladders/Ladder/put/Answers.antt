use Rattle.std.proofs.Common.{◌≡◌, ◌∙◌, ℕ, length, arith, ap}
use Rattle.mari_market.specs.Sums.{int_at, int_sum}
use Rattle.mari_proofs.specs.Tables.{sum_below}
use Rattle.mari_reach.specs.Ladders.{mw_in, rung_of, up_to}
use Rattle.mari_reach.specs.Values.{cut_level}
use Rattle.mari_reach.proofs.Offers.{all_zones}
use Rattle.mari_reach.proofs.ladders.Ladder.put.Goals as goal

pub returns-clause-value : goal.returns-clause-value
returns-clause-value c =
    let side = c.args.side in
    let cut = c.args.cut in
    let box = c.args.prices.now in
    let set = c.args.set.now.zones.now in
    let xs = c.args.self.now.offers.items in
    let zones = length c.args.self.now.starts.items in
    let end : c.loop-zone.zone ≡ zones = omega (arith, c.loop-zone-test.false, c.loop-zone.auto.zone-end, c.len-zone-end.ensures, c.requires.ladder.few_zones) in
    c.loop-zone.invariant.sum
    ∙ ap (sum_below (λ (z : ℕ). int_sum (up_to (mw_in set z) z (rung_of side (cut_level cut side (int_at box.low z) (int_at box.high z)))) xs)) end
    ∙ all_zones (λ (z : ℕ). mw_in set z) (λ (z : ℕ). rung_of side (cut_level cut side (int_at box.low z) (int_at box.high z))) zones xs c.requires.ladder.offers
