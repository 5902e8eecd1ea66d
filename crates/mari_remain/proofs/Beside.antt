-- One step of marking the bids of a block.
use Rattle.std.proofs.Common.{◌≡◌, ◌∙◌, ℕ, suc, ◌+◌, ◌<◌, ◌==◌, Bool, true, false, List, ◌∷◌, refl, ap, sym, arith, length, get_or, set, drop, if◌then◌else◌, get_or-set_same, get_or-set_other, add-one, ◌≢◌}
use Rattle.std.specs.Prelude.{◌||◌, nat_lt}
use Rattle.std.proofs.Math.Seq.{drop-cons}
use Rattle.std.proofs.lemmas.Bool.{eqb-true, eqb-false}
use Rattle.std.proofs.lemmas.Bool.Decides.{nat_tests}
use Rattle.mari_remain.specs.Blocks.{mw_beside}

beside-drop : (i k : ℕ) (ns qs : List ℕ) → k < length ns → k < length qs
    → mw_beside i (drop k ns) (drop k qs) ≡ (if get_or ns k 0 == i then get_or qs k 0 else 0) + mw_beside i (drop (k + 1) ns) (drop (k + 1) qs)
beside-drop i k ns qs l m =
    ap (λ xs. mw_beside i xs (drop k qs)) (drop-cons ns k 0 l) ∙ ap (λ xs. mw_beside i (get_or ns k 0 ∷ drop (suc k) ns) xs) (drop-cons qs k 0 m)
    ∙ ap (λ n. (if get_or ns k 0 == i then get_or qs k 0 else 0) + mw_beside i (drop n ns) (drop n qs)) (sym (add-one k))

pub mark-no : (marks : List Bool) (ns qs : List ℕ) (k i : ℕ) → k < length ns → k < length qs → get_or qs k 0 ≡ 0
    → (get_or marks i false || nat_lt 0 (mw_beside i (drop (k + 1) ns) (drop (k + 1) qs))) ≡ (get_or marks i false || nat_lt 0 (mw_beside i (drop k ns) (drop k qs)))
mark-no marks ns qs k i l m none = rw (beside-drop i k ns qs l m, none) (by (get_or ns k 0 == i))
  where
    by : (t : Bool)
        → (get_or marks i false || nat_lt 0 (mw_beside i (drop (k + 1) ns) (drop (k + 1) qs)))
        ≡ (get_or marks i false || nat_lt 0 ((if t then 0 else 0) + mw_beside i (drop (k + 1) ns) (drop (k + 1) qs)))
    by true = ap (λ n. get_or marks i false || nat_lt 0 n) (omega arith)
    by false = ap (λ n. get_or marks i false || nat_lt 0 n) (omega arith)

pub mark-yes : (marks : List Bool) (ns qs : List ℕ) (k i : ℕ) → k < length ns → k < length qs → get_or ns k 0 < length marks → 0 < get_or qs k 0
    → (get_or (set marks (get_or ns k 0) true) i false || nat_lt 0 (mw_beside i (drop (k + 1) ns) (drop (k + 1) qs))) ≡ (get_or marks i false || nat_lt 0 (mw_beside i (drop k ns) (drop k qs)))
mark-yes marks ns qs k i l m there some = rw (beside-drop i k ns qs l m) (by (get_or ns k 0 == i) refl)
  where
    by : (t : Bool) → (get_or ns k 0 == i) ≡ t → (get_or (set marks (get_or ns k 0) true) i false || nat_lt 0 (mw_beside i (drop (k + 1) ns) (drop (k + 1) qs)))
        ≡ (get_or marks i false || nat_lt 0 ((if t then get_or qs k 0 else 0) + mw_beside i (drop (k + 1) ns) (drop (k + 1) qs)))
    by true e =
        let same : get_or ns k 0 ≡ i = eqb-true (get_or ns k 0) i e in
        let marked : get_or (set marks (get_or ns k 0) true) i false ≡ true = rw (sym same) (get_or-set_same marks (get_or ns k 0) true false there) in
        let above : nat_lt 0 (get_or qs k 0 + mw_beside i (drop (k + 1) ns) (drop (k + 1) qs)) ≡ true = grind (arith, nat_tests, some) in
        rw (marked, above) (or-true (get_or marks i false))
      where
        or-true : (b : Bool) → true ≡ (b || true)
        or-true true = refl
        or-true false = refl
    by false e =
        let other : i ≢ get_or ns k 0 = λ f. eqb-false (get_or ns k 0) i e (sym f) in
        let kept : get_or (set marks (get_or ns k 0) true) i false ≡ get_or marks i false = get_or-set_other marks (get_or ns k 0) i true false other in
        rw kept (ap (λ n. get_or marks i false || nat_lt 0 n) (omega arith))
