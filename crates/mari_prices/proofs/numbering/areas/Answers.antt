use Rattle.std.proofs.Common.{◌≡◌, ℤ, length, List, Option, sym, subst, ◌∙◌, ap}
use Rattle.std.proofs.lemmas.Slice.Zip.{AllZip-long}
use Rattle.mari_market.specs.declared.market.Border.{Border}
use Rattle.mari_market.specs.declared.market.Market.{Market}
use Rattle.mari_market.specs.declared.activation.Activation.{Activation}
use Rattle.mari_market.specs.declared.along.Along.TheVariants.{Joined}
use Rattle.mari_prices.specs.declared.spread.SettledZone.{SettledZone}
use Rattle.mari_prices.specs.Firsts.{AreFirsts, AreNumberedByFirsts, ArePlaces, first_at}
use Rattle.mari_prices.specs.Spread.{SpreadsAlong}
use Rattle.mari_prices.proofs.AreaLaws.{AreSpread, firsts, numbered_areas}
use Rattle.mari_prices.proofs.numbering.areas.Goals as goal

spread_read : (m : Market) (a : Activation) (bs : List Border) (fs vs values : List ℤ) (xs : List (Option SettledZone))
    → bs ≡ m.borders → fs ≡ a.flow → vs ≡ values → length values ≡ m.zones → ArePlaces values → length xs ≡ length vs
    → SpreadsAlong Joined bs fs vs xs → AreSpread m a values xs
spread_read m a bs fs vs values xs b f e l p k s = record {
  values_each = l;
  one_each = k ∙ ap length e ∙ l;
  places = p;
  spread = subst (λ (us : List ℤ). SpreadsAlong Joined m.borders a.flow us xs) e
      (subst (λ (gs : List ℤ). SpreadsAlong Joined m.borders gs vs xs) f (subst (λ (cs : List Border). SpreadsAlong Joined cs fs vs xs) b s));
}

pub spread-requires-clause-lengths : goal.spread-requires-clause-lengths
spread-requires-clause-lengths c =
    let long : length c.args.activation.now.flow ≡ length c.args.market.now.borders = AllZip-long _ c.args.market.now.borders c.args.activation.now.flow c.requires.feasible.borders in
    rw (c.as_slice-flow.ensures, c.as_slice-borders.ensures) long

pub number-requires-clause-firsts : goal.number-requires-clause-firsts
number-requires-clause-firsts c =
    let s = spread_read c.args.market.now c.args.activation.now c.as_slice-borders.result.now c.as_slice-flow.result.now c.deref.result.now c.in_ok-places.places.items c.in_ok-settled.settled.items
    c.as_slice-borders.ensures c.as_slice-flow.ensures c.deref.ensures.value
    c.in_ok-places.ensures.one_each c.in_ok-places.ensures.places c.in_ok-settled.ensures.one_each c.in_ok-settled.ensures.spread in
    subst (λ (xs : List (Option SettledZone)). AreFirsts (length xs) (first_at xs)) (sym c.deref-2.ensures.value)
    (firsts c.args.market.now c.args.activation.now c.in_ok-places.places.items c.in_ok-settled.settled.items c.requires.valid s)

pub returns : goal.returns
returns c =
    let s = spread_read c.args.market.now c.args.activation.now c.as_slice-borders.result.now c.as_slice-flow.result.now c.deref.result.now c.in_ok-places.places.items c.in_ok-settled.settled.items
    c.as_slice-borders.ensures c.as_slice-flow.ensures c.deref.ensures.value
    c.in_ok-places.ensures.one_each c.in_ok-places.ensures.places c.in_ok-settled.ensures.one_each c.in_ok-settled.ensures.spread in
    numbered_areas c.args.market.now c.args.activation.now c.in_ok-places.places.items c.in_ok-settled.settled.items c.in_ok-number.field-0.items c.requires.valid s
    (subst (λ (xs : List (Option SettledZone)). AreNumberedByFirsts xs c.in_ok-number.field-0.items) c.deref-2.ensures.value c.in_ok-number.ensures)
