use Rattle.std.proofs.Common.{◌≡◌, Some, ℕ, ℤ, pos, neg_ℤ, ◌≤ℤ◌, ◌<ℤ◌, get_or, to_z, of_z, to_z-of_z, w64, FitsSigned, rules, below_more, subst, sym}
use Rattle.std.proofs.lemmas.Int.{by_lt_z}
use Rattle.std.proofs.lemmas.Bool.{both_ways}
use Rattle.mari_prices.specs.declared.spread.SettledZone.{SettledZone}
use Rattle.mari_market.specs.Sums.{int_at}
use Rattle.mari_prices.specs.Spread.{entry_at}
use Rattle.mari_prices.proofs.ends.contradicted.Goals as goal

pub loop-zone-preserved : goal.loop-zone-preserved
loop-zone-preserved c =
    let fits : FitsSigned w64 (get_or c.args.uppers.now c.loop-zone.zone (pos 0)) = search rules in
    let read : to_z w64 (of_z w64 (get_or c.args.uppers.now c.loop-zone.zone (pos 0))) ≡ get_or c.args.uppers.now c.loop-zone.zone (pos 0) = to_z-of_z fits in
    let here : (s : SettledZone) → entry_at c.args.settled.now c.loop-zone.zone ≡ Some s → s.value ≤ℤ neg_ℤ (int_at c.args.uppers.now c.loop-zone.zone) =
    λ s e. by_lt_z (neg_ℤ (int_at c.args.uppers.now c.loop-zone.zone)) s.value
    (λ l. let up : neg_ℤ (to_z w64 (of_z w64 (get_or c.args.uppers.now c.loop-zone.zone (pos 0))))
    <ℤ s.value = subst (λ (v : ℤ). neg_ℤ v <ℤ s.value) (sym read) l in absurd (both_ways c.is_above.result c.if-is_above.false ((c.is_above.ensures.some s e).1 up)))
    (λ l. l) in
    λ z s h e. below_more (λ (x : ℕ). (t : SettledZone) → entry_at c.args.settled.now x ≡ Some t → t.value ≤ℤ neg_ℤ (int_at c.args.uppers.now x)) _
    (λ x k t f. c.loop-zone.invariant x t k f) here z h s e
