-- What borders carry out of each zone and into it.
use Rattle.std.proofs.Common.{◌≡◌, ◌+◌, ◌<◌, ◌≤◌, ℕ, ℤ, pos, ◌+ℤ◌, List, [], length, set, take, arith, ap, refl, sym, subst, ◌∙◌, inl, inr, get_or-set_other}
use Rattle.std.proofs.lemmas.Int.{ints}
use Rattle.std.proofs.lemmas.Bool.{cases_eq}
use Rattle.std.proofs.lemmas.List.{get_or-set_same}
use Rattle.std.proofs.lemmas.List.Elements.{All-set}
use Rattle.std.specs.List.{All}
use Rattle.mari_market.specs.declared.market.Border.{Border}
use Rattle.mari_market.proofs.Sums.{int_sum_more}
use Rattle.mari_network.specs.Slots.{at_zone}
use Rattle.mari_network.specs.Network.{no_border, border_at}
use Rattle.mari_paths.specs.declared.merit.Reach.{Reach}
use Rattle.mari_paths.specs.Merit.{into_over, no_reach, out_over, reach_at, widened, IsReach, IsReachOf}

pub reaches_wider : (m n : ℕ) (rs : List Reach) → m ≤ n → All (IsReach m) rs → All (IsReach n) rs
reaches_wider m n rs l a k d h =
    let r = a k d h in
    record { out = (r.out.0, omega (arith, ints, l, r.out.1)); into = (r.into.0, omega (arith, ints, l, r.into.1)) }

-- so much more out and into in one zone alone
pub record AreMore (before after : List Reach) (zone out into : ℕ) : Type 0 where
  pub out_more : (z : ℕ) → (reach_at after z).out ≡ (reach_at before z).out +ℤ at_zone z zone (pos out)
  pub into_more : (z : ℕ) → (reach_at after z).into ≡ (reach_at before z).into +ℤ at_zone z zone (pos into)

here : (k z : ℕ) (x : ℤ) → z ≡ k → at_zone z k x ≡ x
here k z x e = grind (arith)

elsewhere : (k z : ℕ) (x : ℤ) → (z ≡ k → ⊥) → at_zone z k x ≡ pos 0
elsewhere k z x n = grind (arith)

set_more : (f : Reach → ℤ) (rs : List Reach) (zone : ℕ) (r : Reach) (x : ℤ) (z : ℕ) → zone < length rs → f r ≡ f (reach_at rs zone) +ℤ x
    → f (reach_at (set rs zone r) z) ≡ f (reach_at rs z) +ℤ at_zone z zone x
set_more f rs zone r x z l e = elim (cases_eq z zone) [
  | inl same ↦
      let new : f (reach_at (set rs zone r) z) ≡ f r = ap (λ (k : ℕ). f (reach_at (set rs zone r) k)) same ∙ ap f (get_or-set_same rs zone r no_reach l) in
      omega (arith, ints, new, e, ap (λ (k : ℕ). f (reach_at rs k)) same, here zone z x same)
  | inr other ↦ omega (arith, ints, ap f (get_or-set_other rs zone z r no_reach other), elsewhere zone z x other)
]

pub more_in_zone : (rs after : List Reach) (zone out into : ℕ) → zone < length rs → after ≡ set rs zone (widened (reach_at rs zone) out into) → AreMore rs after zone out into
more_in_zone rs after zone out into l e =
    subst (λ (xs : List Reach). AreMore rs xs zone out into) (sym e) (record {
      out_more = λ z. set_more (λ (r : Reach). r.out) rs zone (widened (reach_at rs zone) out into) (pos out) z l refl;
      into_more = λ z. set_more (λ (r : Reach). r.into) rs zone (widened (reach_at rs zone) out into) (pos into) z l refl;
    })

pub reaches_more : (m n : ℕ) (rs after : List Reach) (zone out into : ℕ) → zone < length rs → out ≤ 200000 → into ≤ 200000 → m + 200000 ≤ n
    → after ≡ set rs zone (widened (reach_at rs zone) out into) → All (IsReach m) rs → All (IsReach n) after
reaches_more m n rs after zone out into l p q most e a =
    let r = a zone no_reach l in
    subst (λ (xs : List Reach). All (IsReach n) xs) (sym e)
    (All-set (IsReach n) rs zone (widened (reach_at rs zone) out into)
    (record { out = (omega (arith, ints, r.out.0), omega (arith, ints, p, most, r.out.1)); into = (omega (arith, ints, r.into.0), omega (arith, ints, q, most, r.into.1)) })
    (reaches_wider m n rs (omega (arith, most)) a))

-- a border more
pub reach_over_more : (bs : List Border) (i : ℕ) (before between after : List Reach) (z : ℕ) → i < length bs
    → AreMore before between (border_at bs i).from (border_at bs i).limit (border_at bs i).back → AreMore between after (border_at bs i).to (border_at bs i).back (border_at bs i).limit
    → IsReachOf (take i bs) z (reach_at before z) → IsReachOf (take (i + 1) bs) z (reach_at after z)
reach_over_more bs i before between after z l first second r = record {
  out = omega (arith, ints, r.out, first.out_more z, second.out_more z, int_sum_more (out_over z) bs i no_border l);
  into = omega (arith, ints, r.into, first.into_more z, second.into_more z, int_sum_more (into_over z) bs i no_border l);
}
