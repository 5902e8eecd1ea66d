-- Which borders lead from a settled zone to a free one, as zones are settled.
use Rattle.std.proofs.Common.{◌≡◌, ℕ, ◌+◌, ◌<◌, ◌≤◌, ℤ, List, [], ◌∷◌, Option, Some, None, length, take, set, get_or, zero, suc, arith, sym, subst, ◌∙◌, inl, inr, get_or-set_same, get_or-set_other, length-set}
use Rattle.std.proofs.lemmas.Bool.{cases_eq}
use Rattle.std.specs.List.{All}
use Rattle.std.proofs.lemmas.List.Elements.{All-head, All-tail}
use Rattle.mari_market.specs.declared.along.Along.{Along}
use Rattle.mari_market.specs.declared.market.Border.{Border}
use Rattle.mari_market.specs.Along.{LeadsOver, LeadsTo}
use Rattle.mari_market.proofs.Sums.{AnyZip-meets}
use Rattle.mari_prices.specs.declared.spread.SettledZone.{SettledZone}
use Rattle.mari_prices.specs.Spread.{IsApart, NoneLed, NoneOver, NoneOverBefore}
use Rattle.mari_prices.proofs.Lists.{AllZip_all}
use Rattle.mari_prices.proofs.Steps.{free_before}

-- where no border leads to a free zone, none is led to
pub none_led : (along : Along) (bs : List Border) (fs : List ℤ) (xs : List (Option SettledZone)) → length fs ≡ length bs
    → NoneOverBefore along bs fs xs (length bs) → NoneLed (LeadsTo along bs fs) xs
none_led along bs fs xs same none = λ y z s k free r.
    AnyZip-meets (NoneOver along xs) (LeadsOver along y z) ⊥ (λ b f h l. h y z l s k free) bs fs
    (AllZip_all (NoneOver along xs) bs fs (length bs) (omega arith) (omega arith) none) r

-- a border at which the settled zone isn't leads as before
none_over : (along : Along) (xs : List (Option SettledZone)) (z : ℕ) (e : SettledZone) (b : Border) (f : ℤ) → z < length xs
    → IsApart z b → NoneOver along xs b f → NoneOver along (set xs z (Some e)) b f
none_over along xs z e b f there apart none = λ y w l s k free.
    none y w l s (sym (get_or-set_other xs z y (Some e) None (away y w l)) ∙ k) (free_before xs z w e there free)
  where
    away : (y w : ℕ) → LeadsOver along y w b f → y ≡ z → ⊥
    away y w (inl l) same = apart.from (l.0 ∙ same)
    away y w (inr l) same = apart.to (l.0 ∙ same)

-- so do the borders before the settled zone's first one
pub none_kept : (along : Along) (xs : List (Option SettledZone)) (z : ℕ) (e : SettledZone) (bs : List Border) (fs : List ℤ) (m n k : ℕ)
    → z < length xs → m ≤ n → m ≤ k → NoneOverBefore along bs fs xs n → All (IsApart z) (take k bs)
    → NoneOverBefore along bs fs (set xs z (Some e)) m
none_kept along xs z e bs fs zero n k there l h none apart = tt
none_kept along xs z e bs fs (suc m) zero k there l h none apart = absurd (omega arith)
none_kept along xs z e bs fs (suc m) (suc n) zero there l h none apart = absurd (omega arith)
none_kept along xs z e [] [] (suc m) (suc n) (suc k) there l h none apart = tt
none_kept along xs z e [] (f ∷ fs) (suc m) (suc n) (suc k) there l h none apart = absurd none
none_kept along xs z e (b ∷ bs) [] (suc m) (suc n) (suc k) there l h none apart = absurd none
none_kept along xs z e (b ∷ bs) (f ∷ fs) (suc m) (suc n) (suc k) there l h none apart = (
  none_over along xs z e b f there (All-head (IsApart z) b (take k bs) apart) none.0,
  none_kept along xs z e bs fs m n k there (omega arith) (omega arith) none.1 (All-tail (IsApart z) b (take k bs) apart),
)

-- ---- first borders

lowered : (firsts : List ℕ) (k v z : ℕ) → k < length firsts → v ≤ get_or firsts k 0 → get_or (set firsts k v) z 0 ≤ get_or firsts z 0
lowered firsts k v z there less = elim (cases_eq z k) [
  | inl same ↦ subst (λ (x : ℕ). get_or (set firsts k v) x 0 ≤ get_or firsts x 0) (sym same) (omega (arith, get_or-set_same firsts k v 0 there))
  | inr other ↦ omega (arith, get_or-set_other firsts k z v 0 other)
]

-- one more border: the first border of its ends is this one, or an earlier one
pub firsts_more : (firsts : List ℕ) (bs : List Border) (d : Border) (i n low high : ℕ) → length firsts ≡ n → (get_or bs i d).from < n
    → (get_or bs i d).to < n → ((z j : ℕ) → z < n → j < i → j < get_or firsts z 0 → IsApart z (get_or bs j d)) → low ≤ i
    → low ≤ get_or firsts (get_or bs i d).from 0 → high ≤ i → high ≤ get_or (set firsts (get_or bs i d).from low) (get_or bs i d).to 0
    → (z j : ℕ) → z < n → j < i + 1 → j < get_or (set (set firsts (get_or bs i d).from low) (get_or bs i d).to high) z 0
    → IsApart z (get_or bs j d)
firsts_more firsts bs d i n low high long from to apart l lf h ht z j there before less =
    let b = get_or bs i d in
    let one = set firsts b.from low in
    let two = set one b.to high in
    let long_one : length one ≡ n = omega (arith, length-set firsts b.from low) in
    let second : get_or two z 0 ≤ get_or one z 0 = lowered one b.to high z (omega arith) ht in
    let both : get_or one z 0 ≤ get_or firsts z 0 = lowered firsts b.from low z (omega arith) lf in
    elim (cases_eq j i) [
      | inl same ↦
          subst (λ (k : ℕ). IsApart z (get_or bs k d)) (sym same) (record {
            from = λ e. let at : get_or one z 0 ≡ low = subst (λ (x : ℕ). get_or one x 0 ≡ low) e (get_or-set_same firsts b.from low 0 (omega arith)) in omega arith;
            to = λ e. let at : get_or two z 0 ≡ high = subst (λ (x : ℕ). get_or two x 0 ≡ high) e (get_or-set_same one b.to high 0 (omega arith)) in omega arith;
          })
      | inr other ↦ apart z j there (omega (arith, other)) (omega arith)
    ]
