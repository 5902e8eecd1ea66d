-- Labels that spread along uncongested borders are those of areas.
use Rattle.std.proofs.Common.{◌≡◌, ℕ, zero, suc, ◌+◌, ◌<◌, List, length, arith, refl, sym, subst, ◌∙◌}
use Rattle.std.specs.Prelude.{slice_index}
use Rattle.std.specs.List.{range_with_len}
use Rattle.mari_market.specs.declared.activation.Activation.{Activation}
use Rattle.mari_market.specs.declared.market.Market.{Market}
use Rattle.mari_market.specs.Along.Reaches.{further, itself}
use Rattle.mari_market.specs.Area.{AreAreas, InOneArea, Joins}
use Rattle.mari_check.specs.Areas.{AgreeAt, AreNumbered}
use Rattle.mari_check.specs.Spread.{IsSpread}
use Rattle.mari_market.proofs.Joins.{joins_other, area_on, area_back}

module _ (m : Market) (a : Activation) where
  module _ (own labels : List ℕ) (s : IsSpread (Joins m a) own labels) (places : (z : ℕ) → z < length own → slice_index own z ≡ z) where
    same-label : (y z : ℕ) → InOneArea m a y z → slice_index labels y ≡ slice_index labels z
    same-label y _ itself = refl
    same-label y _ (further w z k j) = omega (arith, same-label y w k, s.rises w z j, s.rises z w (joins_other m a w z j))

    one-area : (y z : ℕ) → y < length own → z < length own → slice_index labels y ≡ slice_index labels z → InOneArea m a y z
    one-area y z ly lz e =
        let p = s.source y ly in
        let q = s.source z lz in
        let same : p.from ≡ q.from = sym (places p.from p.there) ∙ sym p.value ∙ e ∙ q.value ∙ places q.from q.there in
        area_on m a y p.from z (area_back m a p.from y p.reaches) (subst (λ (x : ℕ). InOneArea m a x z) (sym same) q.reaches)

    pub areas-by-labels : (areas : List ℕ) → length own ≡ m.zones → length areas ≡ m.zones → ((zone : ℕ) → zone < length areas → AgreeAt areas labels zone) → AreNumbered areas → AreAreas m a areas
    areas-by-labels areas long many agree numbered = record {
      one_each = many;
      together = λ y z ly lz. (
        λ e. one-area y z (omega (arith, long, ly)) (omega (arith, long, lz)) ((agree y (omega (arith, many, ly)) z (omega (arith, many, lz))).0 e),
        λ j. (agree y (omega (arith, many, ly)) z (omega (arith, many, lz))).1 (same-label y z j),
      );
      numbered = λ z l. numbered z (omega (arith, many, l));
    }

    pub labels-by-areas : (areas : List ℕ) → length own ≡ m.zones → AreAreas m a areas → (zone : ℕ) → zone < length areas → AgreeAt areas labels zone
    labels-by-areas areas long is y ly z lz = (
      λ e. same-label y z ((is.together y z (omega (arith, is.one_each, ly)) (omega (arith, is.one_each, lz))).0 e),
      λ e. (is.together y z (omega (arith, is.one_each, ly)) (omega (arith, is.one_each, lz))).1 (one-area y z (omega (arith, is.one_each, long, ly)) (omega (arith, is.one_each, long, lz)) e),
    )

  pub numbered-areas : (areas : List ℕ) → AreAreas m a areas → AreNumbered areas
  numbered-areas areas is z l = is.numbered z (omega (arith, is.one_each, l))

-- ---- places

pub place-at : (a n z : ℕ) → z < n → slice_index (range_with_len a n) z ≡ a + z
place-at a zero z l = absurd (omega arith)
place-at a (suc n) zero l = omega arith
place-at a (suc n) (suc z) l = omega (arith, place-at (a + 1) n z (omega arith))
