-- The children of a leaf are new nodes of the search tree.
use Rattle.std.proofs.Common.{◌≡◌, ◌≢◌, ◌⊎◌, inl, inr, Bool, true, false, ℕ, suc, ◌<◌, ◌≤◌, List, [], ◌∷◌, ◌++◌, length, take, get_or, Option, Some, None, arith, refl, sym, ap, subst, ◌∙◌, append_assoc, length-append}
use Rattle.std.specs.Prelude.{slice_get, AllPairs}
use Rattle.std.specs.List.{All}
use Rattle.std.specs.Option.{option_map}
use Rattle.std.proofs.lemmas.Int.{ints}
use Rattle.std.proofs.lemmas.Bool.{cases_eq, cases_lt}
use Rattle.std.proofs.lemmas.List.{take_all, take-append-le, get_or_append_left}
use Rattle.std.proofs.lemmas.List.Elements.{All-append, All-cons, All-nil}
use Rattle.std.proofs.lemmas.List.Quantifiers.{all_pairs_push}
use Rattle.std.proofs.lemmas.Option.{slice_get-map, slice_get_within, get_or_from_slice_get, slice_get-get_or}
use Rattle.mari_market.specs.declared.market.Market.{Market}
use Rattle.mari_market.specs.Prefix.{children, may_open, IsFeasibleWord, child_words}
use Rattle.mari_market.specs.SearchTree.{IsNode, IsPromising, AreNodes}
use Rattle.mari_market.proofs.Prefixes.{closed_child, open_child}
use Rattle.mari_core.specs.Nodes.{TreeNode, words_of}
use Rattle.mari_core.specs.Growth.{Grown, IsGrowth, HasParent, is_branched, RelaxedExceeds, IsCutoff}
use Rattle.mari_core.proofs.Lists.{all_get}

-- ---- words one gate longer

pub snoc_front : (xs ys : List Bool) (a b : Bool) → xs ++ a ∷ [] ≡ ys ++ b ∷ [] → xs ≡ ys
snoc_front [] [] a b e = refl
snoc_front [] (y ∷ ys) a b e = let l : 1 ≡ suc (length (ys ++ b ∷ [])) = ap length e in absurd (omega (arith, l, length-append ys (b ∷ [])))
snoc_front (x ∷ xs) [] a b e = let l : suc (length (xs ++ a ∷ [])) ≡ 1 = ap length e in absurd (omega (arith, l, length-append xs (a ∷ [])))
snoc_front (x ∷ xs) (y ∷ ys) a b e =
    let same : x ≡ y = cc in
    let rest : xs ++ a ∷ [] ≡ ys ++ b ∷ [] = cc in
    let front : xs ≡ ys = snoc_front xs ys a b rest in
    cc

pub snoc_not_empty : (xs : List Bool) (a : Bool) → xs ++ a ∷ [] ≡ [] → ⊥
snoc_not_empty [] a e = absurd (cc)
snoc_not_empty (x ∷ xs) a e = absurd (cc)

pub word_of_number : (nodes : List TreeNode) (x : ℕ) (n : TreeNode) → slice_get nodes x ≡ Some n → slice_get (words_of nodes) x ≡ Some n.word
word_of_number nodes x n e = slice_get-map (λ (k : TreeNode). k.word) nodes x ∙ ap (λ (o : Option TreeNode). option_map (λ (k : TreeNode). k.word) o) e

-- distinct words have one number each
pub one_number : (words : List (List Bool)) (w : List Bool) (i j : ℕ) → AllPairs (λ (x y : List Bool). x ≢ y) words → slice_get words i ≡ Some w → slice_get words j ≡ Some w → (i ≡ j → ⊥) → ⊥
one_number words w i j d e f n = by_order (cases_lt i j)
  where
    differ : (a b : ℕ) → a < b → slice_get words a ≡ Some w → slice_get words b ≡ Some w → ⊥
    differ a b l h k = d a b w l (slice_get_within words b w k) (get_or_from_slice_get words a w w h ∙ sym (get_or_from_slice_get words b w w k))

    by_order : (i < j) ⊎ (j ≤ i) → ⊥
    by_order (inl l) = differ i j l e f
    by_order (inr l) = differ j i (less j i l (λ same. n (sym same))) f e
      where
        less : (a b : ℕ) → a ≤ b → (a ≡ b → ⊥) → a < b
        less a b l n = omega (arith, n)

-- no node is a child of a leaf
pub no_child_yet : (g : Grown) (x : ℕ) (n : TreeNode) → IsGrowth g → slice_get g.nodes x ≡ Some n
    → is_branched n.state ≡ false → (j : TreeNode) (b : Bool) → (j.word ≡ []) ⊎ HasParent g.nodes j.word
    → j.word ≡ n.word ++ b ∷ [] → ⊥
no_child_yet g x n k e leaf j b (inl root) is = snoc_not_empty n.word b (sym is ∙ root)
no_child_yet g x n k e leaf j b (inr p) is =
    one_number (words_of g.nodes) n.word p.number x k.nodes_are.distinct
    (word_of_number g.nodes p.number p.node p.there ∙ ap (λ (w : List Bool). Some w) (snoc_front p.node.word n.word p.last b (sym p.child ∙ is)))
    (word_of_number g.nodes x n e)
    (λ same. apart same)
  where
    apart : p.number ≡ x → ⊥
    apart same =
        let there : slice_get g.nodes x ≡ Some p.node = ap (λ (i : ℕ). slice_get g.nodes i) (sym same) ∙ p.there in
        let one : n ≡ p.node = cc in
        let no : is_branched p.node.state ≡ false = subst (λ (i : TreeNode). is_branched i.state ≡ false) one leaf in
        absurd (cc (p.branched_is))

-- ---- the children are nodes

-- a feasible word one gate longer than a promising node is a node
pub child_is_node : (m : Market) (w : List Bool) (b : Bool) → IsNode m w → IsPromising m w → IsFeasibleWord m.gates (w ++ b ∷ []) → IsNode m (w ++ b ∷ [])
child_is_node m w b n p f = record {
  feasible = f;
  prefixes = λ k l. elim (cases_eq k (length w)) [
    | inl same ↦
        let all : take k (w ++ b ∷ []) ≡ w = take-append-le k w (b ∷ []) (omega arith) ∙ take_all k w (omega arith) in
        subst (IsPromising m) (sym all) p
    | inr other ↦
        let shorter : k < length w = omega (arith, other, l, length-append w (b ∷ [])) in
        subst (IsPromising m) (sym (take-append-le k w (b ∷ []) (omega arith))) (n.prefixes k shorter)
  ];
}

-- what is more than a cutoff is more than the closed welfare
pub promising_by : (m : Market) (w : List Bool) (cutoff : ℕ) → RelaxedExceeds m w cutoff → IsCutoff m cutoff → IsPromising m w
promising_by m w cutoff e c = record {
  relaxed = e.relaxed;
  closed = c.closed;
  is_relaxed = e.is_relaxed;
  is_closed = c.is_closed;
  above = omega (arith, ints, e.above, c.above);
}

apart_at_end : (w : List Bool) → w ++ true ∷ [] ≡ w ++ false ∷ [] → ⊥
apart_at_end [] e = absurd (cc)
apart_at_end (x ∷ w) e = apart_at_end w (cc)

abbrev Distinct : List (List Bool) → Type 0
Distinct words = AllPairs (λ (x y : List Bool). x ≢ y) words

get_last : (xs : List (List Bool)) (y : List Bool) (k : ℕ) (e : List Bool) → k ≡ length xs → get_or (xs ++ y ∷ []) k e ≡ y
get_last (x ∷ xs) y (suc k) e h = get_last xs y k e (omega arith)
get_last _ y _ e h = grind arith

-- distinct words with the children of one of them, of which none is there yet
distinct_with : (words : List (List Bool)) (w : List Bool) (may : Bool) → Distinct words
    → ((k : ℕ) (d : List Bool) (b : Bool) → k < length words → get_or words k d ≡ w ++ b ∷ [] → ⊥)
    → Distinct (words ++ child_words w may)
distinct_with words w false d new = all_pairs_push (λ (x y : List Bool). x ≢ y) words (w ++ false ∷ []) d (λ k e l same. new k e false l same)
distinct_with words w true d new =
    let one : Distinct (words ++ (w ++ false ∷ []) ∷ []) = all_pairs_push (λ (x y : List Bool). x ≢ y) words (w ++ false ∷ []) d (λ k e l same. new k e false l same) in
    subst Distinct (append_assoc words ((w ++ false ∷ []) ∷ []) ((w ++ true ∷ []) ∷ []))
    (all_pairs_push (λ (x y : List Bool). x ≢ y) (words ++ (w ++ false ∷ []) ∷ []) (w ++ true ∷ []) one (λ k e l same. earlier k e l same))
  where
    earlier : (k : ℕ) (e : List Bool) → k < length (words ++ (w ++ false ∷ []) ∷ []) → get_or (words ++ (w ++ false ∷ []) ∷ []) k e ≡ w ++ true ∷ [] → ⊥
    earlier k e l same = elim (cases_eq k (length words)) [
      | inl last ↦ apart_at_end w (sym (sym (get_last words (w ++ false ∷ []) k e last) ∙ same))
      | inr other ↦ let front : k < length words =
          omega (arith, other, l, length-append words ((w ++ false ∷ []) ∷ [])) in new k e true front (sym (get_or_append_left words ((w ++ false ∷ []) ∷ []) e k front) ∙ same)
    ]

are_nodes : (m : Market) (w : List Bool) (may : Bool) → may_open m.gates w (length w) ≡ may → IsNode m w → IsPromising m w → length w < length m.gates → All (IsNode m) (child_words w may)
are_nodes m w false e n p l = All-cons (IsNode m) (w ++ false ∷ []) [] (child_is_node m w false n p (closed_child m.gates w n.feasible l)) (All-nil (IsNode m))
are_nodes m w true e n p l =
    All-cons (IsNode m) (w ++ false ∷ []) ((w ++ true ∷ []) ∷ []) (child_is_node m w false n p (closed_child m.gates w n.feasible l))
    (All-cons (IsNode m) (w ++ true ∷ []) [] (child_is_node m w true n p (open_child m.gates w n.feasible l e)) (All-nil (IsNode m)))

-- the words with the children of a promising leaf are distinct nodes of the search tree
pub nodes_with_children : (g : Grown) (x : ℕ) (n : TreeNode) → IsGrowth g → slice_get g.nodes x ≡ Some n
    → is_branched n.state ≡ false → length n.word < length g.market.gates → IsPromising g.market n.word
    → AreNodes g.market (words_of g.nodes ++ children g.market.gates n.word)
nodes_with_children g x n k e leaf l p = record {
  nodes = All-append (IsNode g.market) (words_of g.nodes) (children g.market.gates n.word) k.nodes_are.nodes
      (are_nodes g.market n.word (may_open g.market.gates n.word (length n.word)) refl node p l);
  distinct = distinct_with (words_of g.nodes) n.word (may_open g.market.gates n.word (length n.word)) k.nodes_are.distinct
      (λ i d b h same. new i d b h same);
}
  where
    node : IsNode g.market n.word
    node = all_get (IsNode g.market) (words_of g.nodes) x n.word k.nodes_are.nodes (word_of_number g.nodes x n e)

    new : (i : ℕ) (d : List Bool) (b : Bool) → i < length (words_of g.nodes) → get_or (words_of g.nodes) i d ≡ n.word ++ b ∷ [] → ⊥
    new i d b h same = of_node (slice_get g.nodes i) refl
      where
        of_node : (o : Option TreeNode) → slice_get g.nodes i ≡ o → ⊥
        of_node None at =
            let none : slice_get (words_of g.nodes) i ≡ None = slice_get-map (λ (q : TreeNode). q.word) g.nodes i ∙ ap (λ (o : Option TreeNode). option_map (λ (q : TreeNode). q.word) o) at in
            let some : slice_get (words_of g.nodes) i ≡ Some (get_or (words_of g.nodes) i d) = slice_get-get_or (words_of g.nodes) i d h in
            absurd (cc)
        of_node (Some j) at =
            no_child_yet g x n k e leaf j b (all_get (λ (q : TreeNode). (q.word ≡ []) ⊎ HasParent g.nodes q.word) g.nodes i j k.have_parents at)
            (sym (get_or_from_slice_get (words_of g.nodes) i j.word d (word_of_number g.nodes i j at)) ∙ same)
