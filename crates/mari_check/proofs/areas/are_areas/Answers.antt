use Rattle.std.proofs.Common.{◌≡◌, ◌<◌, ◌≤◌, ◌∙◌, ◌+◌, ℕ, ℤ, List, arith, ap, length, subst}
use Rattle.std.specs.Prelude.{slice_index}
use Rattle.std.specs.List.{range_with_len}
use Rattle.std.proofs.lemmas.Bool.{both_ways, false≢true}
use Rattle.std.proofs.lemmas.List.FromFn.{length-range_with_len}
use Rattle.std.proofs.lemmas.List.Elements.{All-from_get_or, All-weaker}
use Rattle.std.proofs.lemmas.Slice.Zip.{AllZip-long}
use Rattle.mari_market.specs.declared.market.Border.{Border}
use Rattle.mari_market.specs.Market.{IsValidBorder, IsBetween}
use Rattle.mari_check.specs.Spread.{IsSpread, most_value}
use Rattle.mari_market.specs.Along.{LeadsTo}
use Rattle.mari_market.specs.declared.along.Along.TheVariants.{Joined}
use Rattle.mari_check.proofs.Labels.{areas-by-labels, labels-by-areas, numbered-areas, place-at}
use Rattle.mari_check.proofs.areas.are_areas.Goals as goal

spread-read : (own labels : List ℕ) (bs cs : List Border) (fs gs : List ℤ) → bs ≡ cs → fs ≡ gs → IsSpread (LeadsTo Joined bs fs) own labels → IsSpread (LeadsTo Joined cs gs) own labels
spread-read own labels bs cs fs gs e f s = subst (λ (xs : List ℤ). IsSpread (LeadsTo Joined cs xs) own labels) f (subst (λ (xs : List Border). IsSpread (LeadsTo Joined xs fs) own labels) e s)

plus : (z : ℕ) → 0 + z ≡ z
plus z = omega arith

pub spread-labels-requires-clause-lengths : goal.spread-labels-requires-clause-lengths
spread-labels-requires-clause-lengths c = rw (c.as_slice-borders.ensures, c.as_slice-flow.ensures) (AllZip-long _ c.args.market.now.borders c.args.activation.now.flow c.requires.feasible.borders)

pub spread-labels-requires-clause-ends : goal.spread-labels-requires-clause-ends
spread-labels-requires-clause-ends c =
    let m = c.args.market.now in
    let long : length c.in_ok-places.places.items ≡ m.zones = ap length c.in_ok-places.ensures ∙ length-range_with_len 0 m.zones in
    rw c.as_slice-borders.ensures
    (All-weaker (IsValidBorder m.zones) (IsBetween (length c.in_ok-places.places.items)) (λ b v. (omega (arith, long, v.from), omega (arith, long, v.to))) m.borders c.requires.valid.borders)

pub spread-labels-requires-clause-small : goal.spread-labels-requires-clause-small
spread-labels-requires-clause-small c =
    let m = c.args.market.now in
    rw c.in_ok-places.ensures
    (All-from_get_or (λ (n : ℕ). n ≤ most_value) (range_with_len 0 m.zones) 0
    (λ z l. omega (arith, place-at 0 m.zones z (omega (arith, l, length-range_with_len 0 m.zones)), c.requires.valid.zones, l, length-range_with_len 0 m.zones)))

pub agree-requires : goal.agree-requires
agree-requires c =
    let m = c.args.market.now in
    let long : length c.in_ok-places.places.items ≡ m.zones = ap length c.in_ok-places.ensures ∙ length-range_with_len 0 m.zones in
    let labels : length c.deref.result.now ≡ length c.spread-labels.result.items = ap length c.deref.ensures.value in
    let each : length c.spread-labels.result.items ≡ length c.in_ok-places.places.items = c.spread-labels.ensures.one_each in
    let many : length c.args.areas.now ≡ m.zones = omega (arith, c.if-areas-market.false) in
    record { lengths = omega (arith, long, labels, each, many) }

pub returns-then-not-agree : goal.returns-then-not-agree
returns-then-not-agree c =
    let m = c.args.market.now in
    let a = c.args.activation.now in
    let own = c.in_ok-places.places.items in
    let labels = c.spread-labels.result.items in
    let spread = spread-read own labels c.as_slice-borders.result.now m.borders c.as_slice-flow.result.now a.flow c.as_slice-borders.ensures c.as_slice-flow.ensures c.spread-labels.ensures in
    let long : length own ≡ m.zones = ap length c.in_ok-places.ensures ∙ length-range_with_len 0 m.zones in
    let places : (z : ℕ) → z < length own → slice_index own z ≡ z = λ z l. ap (λ (xs : List ℕ). slice_index xs z) c.in_ok-places.ensures ∙ place-at 0 m.zones z (omega (arith, l, long)) ∙ plus z in (
      λ t. absurd (false≢true t),
      λ is.
          let all = c.agree.ensures.1 (rw c.deref.ensures.value (labels-by-areas m a own labels spread places c.args.areas.now long is)) in
          absurd (both_ways c.agree.result c.if-not-agree.true all),
    )

pub returns : goal.returns
returns c =
    let m = c.args.market.now in
    let a = c.args.activation.now in
    let own = c.in_ok-places.places.items in
    let labels = c.spread-labels.result.items in
    let spread = spread-read own labels c.as_slice-borders.result.now m.borders c.as_slice-flow.result.now a.flow c.as_slice-borders.ensures c.as_slice-flow.ensures c.spread-labels.ensures in
    let long : length own ≡ m.zones = ap length c.in_ok-places.ensures ∙ length-range_with_len 0 m.zones in
    let places : (z : ℕ) → z < length own → slice_index own z ≡ z = λ z l. ap (λ (xs : List ℕ). slice_index xs z) c.in_ok-places.ensures ∙ place-at 0 m.zones z (omega (arith, l, long)) ∙ plus z in
    let many : length c.args.areas.now ≡ m.zones = omega (arith, c.if-areas-market.false) in (
      λ t. areas-by-labels m a own labels spread places c.args.areas.now long many (rw c.deref.ensures.value at (c.agree.ensures.0 c.if-not-agree.false)) (c.are_numbered.ensures.0 t),
      λ is. c.are_numbered.ensures.1 (numbered-areas m a c.args.areas.now is),
    )
