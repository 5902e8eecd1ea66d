-- The words that wait in a walk through a tree in preorder.
use Rattle.std.proofs.Common.{◌≡◌, if◌then◌else◌, Bool, true, false, ℕ, zero, suc, ◌<◌, ◌≤◌, List, [], ◌∷◌, ◌++◌, length, take, Some, arith, subst, refl, sym, ap, ◌∙◌, length-append}
use Rattle.std.proofs.lemmas.List.{take_all, take-append-le}
use Rattle.mari_market.specs.declared.market.GateInfo.{GateInfo}
use Rattle.mari_market.specs.declared.market.Market.{Market}
use Rattle.mari_market.specs.declared.prefix.Prefix.{Prefix}
use Rattle.mari_market.specs.Prefix.{word_of, opens_in, children, IsFeasibleWord, IsFeasiblePrefix, IsCleared}
use Rattle.mari_market.proofs.Prefixes.{opens_front, opens_past, opens_within}
use Rattle.mari_market.proofs.Search.{parents_earlier}
use Rattle.mari_market.specs.Market.{IsValid}
use Rattle.mari_market.specs.Gates.{ParentsEarlier}
use Rattle.mari_gates.proofs.Decisions.{length-decisions}
use Rattle.mari_gates.specs.Preorder.{opened_child, waiting, waiting_after, left_at}

waiting_front : (gates : List GateInfo) (w v : List Bool) (n : ℕ) → n ≤ length w → waiting gates (w ++ v) n ≡ waiting gates w n
waiting_front gates w v zero h = refl
waiting_front gates w v (suc n) h =
    ap (λ (b : Bool). (if b then [] else opened_child gates (take n (w ++ v))) ++ waiting gates (w ++ v) n) (opens_front w v n (omega arith))
    ∙ ap (λ (u : List Bool). (if opens_in w n then [] else opened_child gates u) ++ waiting gates (w ++ v) n) (take-append-le n w v (omega arith))
    ∙ ap (λ (ws : List (List Bool)). (if opens_in w n then [] else opened_child gates (take n w)) ++ ws) (waiting_front gates w v n (omega arith))

-- after one decision more waits the open child of a closed gate
pub waiting_push : (gates : List GateInfo) (w : List Bool) (b : Bool) → waiting_after gates (w ++ b ∷ []) ≡ (if b then [] else opened_child gates w) ++ waiting_after gates w
waiting_push gates w b =
    let long : length (w ++ b ∷ []) ≡ suc (length w) = omega (arith, length-append w (b ∷ [])) in
    ap (waiting gates (w ++ b ∷ [])) long
    ∙ ap (λ (c : Bool). (if c then [] else opened_child gates (take (length w) (w ++ b ∷ []))) ++ waiting gates (w ++ b ∷ []) (length w)) (opens_past w b)
    ∙ ap (λ (u : List Bool). (if b then [] else opened_child gates u) ++ waiting gates (w ++ b ∷ []) (length w))
    (take-append-le (length w) w (b ∷ []) (omega arith) ∙ take_all (length w) w (omega arith))
    ∙ ap (λ (ws : List (List Bool)). (if b then [] else opened_child gates w) ++ ws) (waiting_front gates w (b ∷ []) (length w) (omega arith))

same_tail : (w : List Bool) (xs ys : List (List Bool)) → (w ∷ xs) ≡ (w ∷ ys) → xs ≡ ys
same_tail w xs ys e = cc

-- what may_branch_up says of the open child
pub opened_read : (gates : List GateInfo) (w : List Bool) (answer : Bool)
    → children gates w ≡ (w ++ false ∷ []) ∷ (if answer then (w ++ true ∷ []) ∷ [] else [])
    → opened_child gates w ≡ (if answer then (w ++ true ∷ []) ∷ [] else [])
opened_read gates w answer e = same_tail (w ++ false ∷ []) (opened_child gates w) _ e

-- a word is feasible where a longer one is
pub feasible_front : (gates : List GateInfo) (w v : List Bool) → ParentsEarlier gates → IsFeasibleWord gates (w ++ v) → IsFeasibleWord gates w
feasible_front gates w v early f = record {
  decided = omega (arith, length-append w v, f.decided);
  rules = record {
    parents = λ g h o p.
        let in_w = opens_within w g o in
        let before : h < g = early g h p in
        sym (opens_front w v h (omega arith)) ∙ f.rules.parents g h (opens_front w v g in_w ∙ o) p;
    groups = λ g h k o q in_g in_h. f.rules.groups g h k (opens_front w v g (opens_within w g o) ∙ o) (opens_front w v h (opens_within w h q) ∙ q) in_g in_h;
  };
}

-- the prefix without its last decision is feasible
pub parent_feasible : (m : Market) (x y : Prefix) (b : Bool) → IsValid m → IsFeasiblePrefix m x → word_of x ≡ word_of y ++ b ∷ [] → IsCleared y → IsFeasiblePrefix m y
parent_feasible m x y b v f e cleared = record {
  word = feasible_front m.gates (word_of y) (b ∷ []) (parents_earlier m v) (subst (λ (w : List Bool). IsFeasibleWord m.gates w) e f.word);
  rest = cleared;
}

-- the words that wait after the parent too: the child was open, or its sibling may not be
pub waiting_up : (gates : List GateInfo) (x y : Prefix) (b : Bool) → word_of x ≡ word_of y ++ b ∷ []
    → (b ≡ false → opened_child gates (word_of y) ≡ [])
    → waiting_after gates (word_of x) ≡ waiting_after gates (word_of y)
waiting_up gates x y b e none = ap (waiting_after gates) e ∙ waiting_push gates (word_of y) b ∙ ap (λ (ws : List (List Bool)). ws ++ waiting_after gates (word_of y)) (by_bit b none)
  where
    by_bit : (c : Bool) → (c ≡ false → opened_child gates (word_of y) ≡ []) → (if c then [] else opened_child gates (word_of y)) ≡ []
    by_bit true n = refl
    by_bit false n = n refl

-- and after a closed child first its open sibling
pub waiting_sibling : (gates : List GateInfo) (x y z : Prefix) (b : Bool) → word_of x ≡ word_of y ++ b ∷ []
    → b ≡ false → opened_child gates (word_of y) ≡ (word_of y ++ true ∷ []) ∷ [] → word_of z ≡ word_of y ++ true ∷ []
    → left_at gates (Some z) ≡ waiting_after gates (word_of x)
waiting_sibling gates x y z b e closed may child =
    ap (λ (w : List Bool). w ∷ waiting_after gates w) child
    ∙ ap (λ (ws : List (List Bool)). (word_of y ++ true ∷ []) ∷ ws) (waiting_push gates (word_of y) true)
    ∙ sym
    (ap (waiting_after gates) e ∙ waiting_push gates (word_of y) b ∙ ap (λ (c : Bool). (if c then [] else opened_child gates (word_of y)) ++ waiting_after gates (word_of y)) closed
    ∙ ap (λ (ws : List (List Bool)). ws ++ waiting_after gates (word_of y)) may)

-- the first child of a branch, and what is left after it
pub first_child : (gates : List GateInfo) (x y : Prefix) → word_of y ≡ word_of x ++ false ∷ [] → left_at gates (Some y) ≡ children gates (word_of x) ++ waiting_after gates (word_of x)
first_child gates x y e =
    ap (λ (w : List Bool). w ∷ waiting_after gates w) e ∙ ap (λ (ws : List (List Bool)). (word_of x ++ false ∷ []) ∷ ws) (waiting_push gates (word_of x) false)

pub length_feasible : (m : Market) (x : Prefix) → IsFeasiblePrefix m x → x.length ≤ length m.gates
length_feasible m x f = omega (arith, length-decisions x x.length, f.word.decided)
