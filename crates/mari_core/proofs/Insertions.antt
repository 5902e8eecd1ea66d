-- A preorder after a node got children.
use Rattle.std.proofs.Common.{◌≡◌, inl, inr, Bool, true, false, ℕ, ◌+◌, ◌≤◌, ◌==◌, if◌then◌else◌, List, [], ◌∷◌, ◌++◌, length, arith, refl, sym, ap, subst, ◌∙◌, length-append}
use Rattle.std.proofs.lemmas.Bool.{cases_eq}
use Rattle.std.proofs.lemmas.Bool.Decides.{nat_tests}
use Rattle.mari_core.specs.Nodes.{TreeNode, children_of}
use Rattle.mari_core.specs.Preorder.{IsWalk, occurs}

-- the numbers with others after the first x
abbrev pub insert_after : ℕ → List ℕ → List ℕ → List ℕ
insert_after x kids [] = []
insert_after x kids (y ∷ ys) = if y == x then y ∷ (kids ++ ys) else y ∷ insert_after x kids ys

is_same : (y x : ℕ) → y ≡ x → (y == x) ≡ true
is_same y x e = grind (arith, nat_tests)

is_other : (y x : ℕ) → (y ≡ x → ⊥) → (y == x) ≡ false
is_other y x n = grind (arith, nat_tests)

pub occurs-append : (x : ℕ) (xs ys : List ℕ) → occurs x (xs ++ ys) ≡ occurs x xs + occurs x ys
occurs-append x [] ys = omega arith
occurs-append x (y ∷ xs) ys = omega (arith, occurs-append x xs ys)

insert_here : (x y : ℕ) (kids ys : List ℕ) → y ≡ x → insert_after x kids (y ∷ ys) ≡ y ∷ (kids ++ ys)
insert_here x y kids ys e = ap (λ (b : Bool). if b then y ∷ (kids ++ ys) else y ∷ insert_after x kids ys) (is_same y x e)

insert_later : (x y : ℕ) (kids ys : List ℕ) → (y ≡ x → ⊥) → insert_after x kids (y ∷ ys) ≡ y ∷ insert_after x kids ys
insert_later x y kids ys n = ap (λ (b : Bool). if b then y ∷ (kids ++ ys) else y ∷ insert_after x kids ys) (is_other y x n)

pub occurs_here : (x : ℕ) (ys : List ℕ) → occurs x (x ∷ ys) ≡ 1 + occurs x ys
occurs_here x ys = ap (λ (b : Bool). (if b then 1 else 0) + occurs x ys) (is_same x x refl)

pub occurs_later : (x y : ℕ) (ys : List ℕ) → (y ≡ x → ⊥) → occurs x (y ∷ ys) ≡ occurs x ys
occurs_later x y ys n = let e : 0 + occurs x ys ≡ occurs x ys = omega arith in ap (λ (b : Bool). (if b then 1 else 0) + occurs x ys) (is_other y x n) ∙ e

pub occurs-insert_after : (x : ℕ) (kids xs : List ℕ) (z : ℕ) → 1 ≤ occurs x xs → occurs z (insert_after x kids xs) ≡ occurs z xs + occurs z kids
occurs-insert_after x kids [] z h = absurd (omega arith)
occurs-insert_after x kids (y ∷ ys) z h = elim (cases_eq y x) [
  | inl same ↦
      let first : insert_after x kids (y ∷ ys) ≡ y ∷ (kids ++ ys) = insert_here x y kids ys same in
      omega (arith, ap (occurs z) first, occurs-append z kids ys)
  | inr other ↦
      omega (arith, ap (occurs z) (insert_later x y kids ys other), occurs_later x y ys other, h, occurs-insert_after x kids ys z (omega (arith, occurs_later x y ys other, h)))
]

pub length-insert_after : (x : ℕ) (kids xs : List ℕ) → 1 ≤ occurs x xs → length (insert_after x kids xs) ≡ length xs + length kids
length-insert_after x kids [] h = absurd (omega arith)
length-insert_after x kids (y ∷ ys) h = elim (cases_eq y x) [
  | inl same ↦
      let first : insert_after x kids (y ∷ ys) ≡ y ∷ (kids ++ ys) = insert_here x y kids ys same in
      omega (arith, ap length first, length-append kids ys)
  | inr other ↦
      omega (arith, ap length (insert_later x y kids ys other), length-insert_after x kids ys (omega (arith, occurs_later x y ys other, h)))
]

-- a walk past x is a walk where only x got children
walk_without : (nodes nodes' : List TreeNode) (x : ℕ)
    → ((y : ℕ) → (y ≡ x → ⊥) → children_of nodes' y ≡ children_of nodes y) → (waiting xs : List ℕ) → occurs x xs ≡ 0
    → IsWalk nodes waiting xs → IsWalk nodes' waiting xs
walk_without nodes nodes' x h [] [] e w = tt
walk_without nodes nodes' x h [] (y ∷ ys) e w = absurd w
walk_without nodes nodes' x h (v ∷ waiting) [] e w = absurd w
walk_without nodes nodes' x h (v ∷ waiting) (y ∷ ys) e w =
    let other : y ≡ x → ⊥ = λ same. absurd (omega (arith, occurs_here x ys, e, ap (λ (i : ℕ). occurs x (i ∷ ys)) same)) in (
      w.0,
      subst (λ (zs : List ℕ). IsWalk nodes' (zs ++ waiting) ys) (sym (h y other)) (walk_without nodes nodes' x h (children_of nodes y ++ waiting) ys (omega (arith, occurs_later x y ys other, e)) w.1),
    )

-- each of these has no children
abbrev pub AreLeaves : List TreeNode → List ℕ → Type 0
AreLeaves nodes [] = Unit {0}
AreLeaves nodes (k ∷ ks) = (children_of nodes k ≡ []) × AreLeaves nodes ks

walk_leaves : (nodes : List TreeNode) (kids waiting xs : List ℕ) → AreLeaves nodes kids → IsWalk nodes waiting xs → IsWalk nodes (kids ++ waiting) (kids ++ xs)
walk_leaves nodes [] waiting xs l w = w
walk_leaves nodes (k ∷ ks) waiting xs l w =
    (refl, subst (λ (zs : List ℕ). IsWalk nodes (zs ++ (ks ++ waiting)) (ks ++ xs)) (sym l.0) (walk_leaves nodes ks waiting xs l.1 w))

-- a walk where x got children visits them after x
pub walk_grows : (nodes nodes' : List TreeNode) (x : ℕ) (kids : List ℕ)
    → ((y : ℕ) → (y ≡ x → ⊥) → children_of nodes' y ≡ children_of nodes y) → children_of nodes x ≡ []
    → children_of nodes' x ≡ kids → AreLeaves nodes' kids → (waiting xs : List ℕ) → occurs x xs ≡ 1
    → IsWalk nodes waiting xs → IsWalk nodes' waiting (insert_after x kids xs)
walk_grows nodes nodes' x kids h before after l [] [] e w = tt
walk_grows nodes nodes' x kids h before after l [] (y ∷ ys) e w = absurd w
walk_grows nodes nodes' x kids h before after l (v ∷ waiting) [] e w = absurd w
walk_grows nodes nodes' x kids h before after l (v ∷ waiting) (y ∷ ys) e w = elim (cases_eq y x) [
  | inl same ↦
      let first : insert_after x kids (y ∷ ys) ≡ y ∷ (kids ++ ys) = insert_here x y kids ys same in
      let none : occurs x ys ≡ 0 = omega (arith, occurs_here x ys, e, ap (λ (i : ℕ). occurs x (i ∷ ys)) same) in
      let rest : IsWalk nodes waiting ys = subst (λ (zs : List ℕ). IsWalk nodes (zs ++ waiting) ys) (ap (children_of nodes) same ∙ before) w.1 in
      let here : children_of nodes' y ≡ kids = ap (children_of nodes') same ∙ after in
      subst (λ (zs : List ℕ). IsWalk nodes' (v ∷ waiting) zs) (sym first)
      (w.0, subst (λ (zs : List ℕ). IsWalk nodes' (zs ++ waiting) (kids ++ ys)) (sym here) (walk_leaves nodes' kids waiting ys l (walk_without nodes nodes' x h waiting ys none rest)))
  | inr other ↦
      subst (λ (zs : List ℕ). IsWalk nodes' (v ∷ waiting) zs) (sym (insert_later x y kids ys other)) (
        w.0,
        subst (λ (zs : List ℕ). IsWalk nodes' (zs ++ waiting) (insert_after x kids ys)) (sym (h y other))
            (walk_grows nodes nodes' x kids h before after l (children_of nodes y ++ waiting) ys (omega (arith, occurs_later x y ys other, e)) w.1),
      )
]
