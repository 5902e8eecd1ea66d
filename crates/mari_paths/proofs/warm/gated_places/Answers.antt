use Rattle.std.proofs.Common.{◌≡◌, ◌++◌, ◌∷◌, [], ◌<◌, ℕ, List, length, get_or, true, false, arith, rules, sym, ap, subst, ◌∙◌, inl, inr, Vec, Global}
use Rattle.std.specs.Prelude.{is_some}
use Rattle.std.specs.List.{All, Contains}
use Rattle.std.proofs.lemmas.Bool.{cases_lt, false≢true}
use Rattle.std.proofs.lemmas.List.{length_push}
use Rattle.std.proofs.lemmas.List.Elements.{All-push, Contains-append_left, Contains-push}
use Rattle.mari_network.specs.Orders.{no_order}
use Rattle.mari_paths.proofs.warm.gated_places.Goals as goal
use Rattle.mari_paths.proofs.warm.gated_places.Goals.{then-is_some+in_ok-push, else-is_some}

pub loop-i-preserved : goal.loop-i-preserved
loop-i-preserved c =
    let i = c.loop-i.i in
    let places = c.loop-i.places.items in
    let before = c.loop-i.invariant in
    elim c.if-is_some.branch [
      | then-is_some+in_ok-push w ↦
          let items : c.if-is_some.places.items ≡ c.loop-i.places.items ++ c.loop-i.i ∷ [] = ap (λ (v : Vec ℕ Global). v.items) w.places-is ∙ w.in_ok-push.ensures.items in
          let gate : is_some (get_or c.as_slice-orders.result.now c.loop-i.i no_order).gate ≡ true = search rules in
          record {
            there = subst (λ (ps : List ℕ). All (λ k. k < length c.as_slice-orders.result.now) ps) (sym items)
                (All-push (λ k. k < length c.as_slice-orders.result.now) places i before.there c.loop-i-test.true);
            few = omega (arith, ap (λ (ps : List ℕ). length ps) items, length_push places i, before.few);
            only = subst (λ (ps : List ℕ). All (λ k. is_some (get_or c.as_slice-orders.result.now k no_order).gate ≡ true) ps) (sym items)
                (All-push (λ k. is_some (get_or c.as_slice-orders.result.now k no_order).gate ≡ true) places i before.only gate);
            all = λ k l some. subst (λ (ps : List ℕ). Contains ps k) (sym items) (elim (cases_lt k i) [
              | inl b ↦ Contains-append_left places (i ∷ []) k (before.all k b some)
              | inr b ↦ let e : c.loop-i.i ≡ k = omega (arith, l, b) in subst (λ (j : ℕ). Contains (places ++ i ∷ []) j) e (Contains-push places i)
            ]);
          }
      | else-is_some w ↦
          let items : c.if-is_some.places.items ≡ c.loop-i.places.items = ap (λ (v : Vec ℕ Global). v.items) w.places-is in
          let none : is_some (get_or c.as_slice-orders.result.now c.loop-i.i no_order).gate ≡ false = search rules in
          record {
            there = subst (λ (ps : List ℕ). All (λ k. k < length c.as_slice-orders.result.now) ps) (sym items) before.there;
            few = omega (arith, ap (λ (ps : List ℕ). length ps) items, before.few);
            only = subst (λ (ps : List ℕ). All (λ k. is_some (get_or c.as_slice-orders.result.now k no_order).gate ≡ true) ps) (sym items) before.only;
            all = λ k l some. elim (cases_lt k i) [
              | inl b ↦ subst (λ (ps : List ℕ). Contains ps k) (sym items) (before.all k b some)
              | inr b ↦
                  let e : c.loop-i.i ≡ k = omega (arith, l, b) in
                  absurd (false≢true (sym none ∙ ap (λ (j : ℕ). is_some (get_or c.as_slice-orders.result.now j no_order).gate) e ∙ some))
            ];
          }
    ]
