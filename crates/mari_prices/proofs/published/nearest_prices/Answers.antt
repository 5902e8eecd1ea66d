use Rattle.std.proofs.Common.{◌≡◌, ◌+◌, ◌<◌, ◌++◌, ℕ, pos, List, [], ◌∷◌, length, get_or, arith, ap, sym, subst, ◌∙◌, inl, inr}
use Rattle.std.proofs.lemmas.Bool.{cases_eq}
use Rattle.std.proofs.lemmas.List.{get_or_append_left, length-append}
use Rattle.std.proofs.Math.Seq.{get_or-append_seam}
use Rattle.mari_units.specs.declared.Cents.{Cents}
use Rattle.mari_market.specs.Interval.{IsNearest}
use Rattle.mari_market.specs.Price.{price_at}
use Rattle.mari_prices.proofs.published.nearest_prices.Goals as goal

-- a fact of each item, after one more
pushed : {X : Type 0} (P : ℕ → X → Type 0) (xs new : List X) (n : ℕ) (x d : X) → new ≡ xs ++ x ∷ [] → length xs ≡ n → ((z : ℕ) → z < n → P z (get_or xs z d)) → P n x
    → (z : ℕ) → z < n + 1 → P z (get_or new z d)
pushed {X} P xs new n x d is long each last z less = elim (cases_eq z n) [
  | inl same ↦
      let at : get_or new z d ≡ x = ap (λ (ys : List X). get_or ys z d) is ∙ ap (λ (k : ℕ). get_or (xs ++ x ∷ []) k d) (same ∙ sym long) ∙ get_or-append_seam xs x [] d in
      subst (λ (y : X). P z y) (sym at) (subst (λ (k : ℕ). P k x) (sym same) last)
  | inr other ↦
      let before : z < n = omega (arith, less, other) in
      let at : get_or new z d ≡ get_or xs z d = ap (λ (ys : List X). get_or ys z d) is ∙ get_or_append_left xs (x ∷ []) d z (omega (arith, before, long)) in
      subst (λ (y : X). P z y) (sym at) (each z before)
]

pub loop-zone-preserved : goal.loop-zone-preserved
loop-zone-preserved c =
    let so_far = c.loop-zone.prices.items in
    let price = c.nearest.result in
    record {
      one_each = omega (arith, ap length c.in_ok-push.ensures.items, length-append so_far (price ∷ []), c.loop-zone.invariant.one_each);
      nearest =
          pushed (λ z (p : Cents). IsNearest (price_at c.args.least.now z) (price_at c.args.greatest.now z) c.args.reference.0 p.0) so_far c.push.new.self.items c.loop-zone.zone price
          (record { 0 = pos 0 }) c.in_ok-push.ensures.items c.loop-zone.invariant.one_each c.loop-zone.invariant.nearest c.nearest.ensures;
    }
