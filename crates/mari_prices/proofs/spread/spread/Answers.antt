use Rattle.std.proofs.Common.{arith, ◌≡◌, ℕ, zero, suc, ℤ, length, List, Option, length-set, Some, None, ap, sym, subst, slice_index, replicate, rules, ◌∙◌}
use Rattle.std.proofs.lemmas.List.{get_or_default, length-replicate}
use Rattle.mari_prices.specs.declared.spread.SettledZone.{SettledZone}
use Rattle.mari_market.specs.Along.{LeadsTo}
use Rattle.mari_market.specs.Sums.{int_at}
use Rattle.mari_prices.specs.Spread.{entry_at, IsNext, IsFree, IsSpreading, NoneFreeBefore, NoneOverBefore}
use Rattle.mari_prices.proofs.Borders.{none_kept}
use Rattle.mari_prices.proofs.Steps.{settle_next, next_free, free_zones-set, all_settled}
use Rattle.mari_prices.proofs.spread.spread.Goals as goal

-- no zone of these is settled
none_at : (n z : ℕ) (s : SettledZone) → entry_at (replicate n None) z ≡ Some s → ⊥
none_at zero z s e = cc
none_at (suc n) zero s e = cc
none_at (suc n) (suc z) s e = none_at n z s e

-- so nothing is spread yet
none_spread : (lead : ℕ → ℕ → Type 0) (own : ℕ → ℤ) (n : ℕ) → IsSpreading lead own (replicate n None)
none_spread lead own n = record {
  above = λ z s e. absurd (none_at n z s e);
  rises = λ y z s t e _ _. absurd (none_at n y s e);
  newest = λ y z u s t e _ _ _. absurd (none_at n y s e);
  rest = λ y u s e _. absurd (none_at n y s e);
  source = λ z s e. absurd (none_at n z s e);
  short = λ z s e. absurd (none_at n z s e);
}

pub loop-next-init : goal.loop-next-init
loop-next-init c =
    let lead = LeadsTo c.args.along c.args.borders.now c.args.flow.now in
    let n = length c.args.values.now in
    let none : c.in_ok-settled.settled.items ≡ replicate (length c.args.values.now) None = c.in_ok-settled.ensures.items_if_clones_equal (λ y q. search rules) in
    record {
      long = ap length none ∙ length-replicate n None;
      spreading = subst (λ (xs : List (Option SettledZone)). IsSpreading lead (int_at c.args.values.now) xs) (sym none) (none_spread lead (int_at c.args.values.now) n);
      first = omega arith;
      before = tt;
    }

pub loop-next-smaller : goal.loop-next-smaller
loop-next-smaller c =
    let lead = LeadsTo c.args.along c.args.borders.now c.args.flow.now in
    let next = subst (λ (xs : List (Option SettledZone)). IsNext lead (int_at c.args.values.now) xs c.in-Some.next.zone c.in-Some.next.entry) c.deref.ensures.value c.in-Some.ensures.some in
    let free : IsFree c.loop-next.settled.items c.in-Some.next.zone = next_free lead (int_at c.args.values.now) c.loop-next.settled.items c.in-Some.next.zone c.in-Some.next.entry next in
    omega (arith, free_zones-set c.loop-next.settled.items c.in-Some.next.zone c.in-Some.next.entry free.0 free.1)

pub loop-next-preserved : goal.loop-next-preserved
loop-next-preserved c =
    let lead = LeadsTo c.args.along c.args.borders.now c.args.flow.now in
    let xs = c.loop-next.settled.items in
    let z = c.in-Some.next.zone in
    let e = c.in-Some.next.entry in
    let next = subst (λ (ys : List (Option SettledZone)). IsNext lead (int_at c.args.values.now) ys z e) c.deref.ensures.value c.in-Some.ensures.some in
    let free : IsFree xs z = next_free lead (int_at c.args.values.now) xs z e next in
    let before = subst (λ (ys : List (Option SettledZone)). NoneOverBefore c.args.along c.args.borders.now c.args.flow.now ys c.in-Some.next.border) c.deref.ensures.value c.in-Some.ensures.before in
    let own : c.index.result.now ≡ slice_index c.in_ok-firsts.firsts.items z =
    c.index.ensures ∙ get_or_default c.in_ok-firsts.firsts.items z c.index.result.now 0 (omega (arith, free.0, c.loop-next.invariant.long, c.in_ok-firsts.ensures.one_each)) in
    record {
      long = omega (arith, length-set xs z (Some e));
      spreading = settle_next lead (int_at c.args.values.now) xs z e c.loop-next.invariant.spreading next;
      first = omega (arith, c.min-first.ensures, c.in-Some.ensures.border);
      before = none_kept c.args.along xs z e c.args.borders.now c.args.flow.now c.min-first.result c.in-Some.next.border (slice_index c.in_ok-firsts.firsts.items z) free.0
          (omega (arith, c.min-first.ensures)) (omega (arith, c.min-first.ensures, own)) before (c.in_ok-firsts.ensures.firsts z (omega (arith, free.0, c.loop-next.invariant.long)));
    }

pub returns-clause-spread : goal.returns-clause-spread
returns-clause-spread c =
    let none = subst (λ (xs : List (Option SettledZone)). NoneFreeBefore (length xs) xs) c.deref.ensures.value c.in_default.ensures.none in
    record {
      spreading = c.loop-next.invariant.spreading;
      settled = all_settled c.loop-next.settled.items (λ z free. none z free.0 free);
    }
