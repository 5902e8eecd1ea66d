-- The queue of a tree, and how it follows what is done to the nodes.
use Rattle.std.proofs.Common.{◌≡◌, ◌≢◌, ◌⊎◌, ◌∙◌, inl, inr, Bool, cond, ℕ, zero, suc, ◌+◌, ◌-◌, ◌<◌, ◌≤◌, ◌==◌, List, [], ◌∷◌, ◌++◌, length, map, replicate, All, count_by, IsPermutation, Option, Some, None, arith, refl, sym, ap, subst, length-append, append_assoc, append-nil, eq-eqb, ne_eqb}
use Rattle.std.specs.Prelude.{slice_get}
use Rattle.std.specs.Option.{option_map}
use Rattle.std.proofs.lemmas.Bool.{cases_eq, cases_lt}
use Rattle.std.proofs.lemmas.List.{length-map, length-replicate, replicate_more}
use Rattle.std.proofs.lemmas.List.Elements.{All-head, All-tail}
use Rattle.std.proofs.lemmas.List.Sums.{sum_by-cons, sum_by-append, sum_by_push}
use Rattle.std.proofs.lemmas.List.Sorted.{IsPermutation-trans, IsPermutation-append_left, IsPermutation-to_front, length_permutation, sum_by-IsPermutation}
use Rattle.std.proofs.lemmas.Option.{slice_get-map, slice_get_past}
use Rattle.mari_core.specs.declared.node.NodeState.{NodeState}
use Rattle.mari_core.specs.declared.node.NodeState.TheVariants.{Untaken, Taken, Closed}
use Rattle.mari_core.specs.Nodes.{TreeNode, new_node, words_of, state_at, branch_of}
use Rattle.mari_core.specs.Growth.{Grown, Entry, grown, with_state, children_at, in_journal, IsAllowed, NoneWaits}
use Rattle.mari_core.specs.Growth.Entry.{Take, Close, Branch, Full, GiveBack}
use Rattle.mari_core.proofs.Changes.{IsAt, node_at, length-with_state, state_other, state_same}
use Rattle.mari_core.proofs.Entries.{within_nodes}
use Rattle.mari_units.proofs.Lists.{get_back, get_front}
use Rattle.mari_pool.specs.Pooled.{keys_after, taken_among}
use Rattle.mari_pool.specs.Queued.{Queued, no_nodes, numbers_from, first_key, waits_in, untaken_among, CanFollow, Follows, IsAhead, IsBack, LeavesFirst, IsFirstWaiting, IsMore, IsQueueOf}
use Rattle.mari_pool.proofs.Rooms.{comes, taken_state}

-- ---- how often a number is in a list

times_cons : (y x : ℕ) (xs : List ℕ) → count_by (λ z. z == y) (x ∷ xs) ≡ cond (x == y) 1 0 + count_by (λ z. z == y) xs
times_cons y x xs = sum_by-cons (λ z. cond (z == y) 1 0) x xs

times_same : (y x : ℕ) (xs : List ℕ) → x ≡ y → count_by (λ z. z == y) (x ∷ xs) ≡ 1 + count_by (λ z. z == y) xs
times_same y x xs e = times_cons y x xs ∙ ap (λ (b : Bool). cond b 1 0 + count_by (λ z. z == y) xs) (eq-eqb x y e)

times_other : (y x : ℕ) (xs : List ℕ) → x ≢ y → count_by (λ z. z == y) (x ∷ xs) ≡ count_by (λ z. z == y) xs
times_other y x xs n = times_cons y x xs ∙ ap (λ (b : Bool). cond b 1 0 + count_by (λ z. z == y) xs) (ne_eqb x y n) ∙ omega arith

times_permuted : (y : ℕ) (xs ys : List ℕ) → IsPermutation xs ys → count_by (λ z. z == y) ys ≡ count_by (λ z. z == y) xs
times_permuted y xs ys p = sum_by-IsPermutation (λ z. cond (z == y) 1 0) xs ys p

times_append : (y : ℕ) (xs ys : List ℕ) → count_by (λ z. z == y) (xs ++ ys) ≡ count_by (λ z. z == y) xs + count_by (λ z. z == y) ys
times_append y xs ys = sum_by-append (λ z. cond (z == y) 1 0) xs ys

-- what holds of each holds of one that is there
at_one : (P : ℕ → Type 0) (y : ℕ) (xs : List ℕ) → All P xs → 1 ≤ count_by (λ z. z == y) xs → P y
at_one P y [] h l = absurd (omega (arith, l))
at_one P y (x ∷ xs) h l = elim (cases_eq x y) [
  | inl e ↦ subst P e (All-head P x xs h)
  | inr n ↦ at_one P y xs (All-tail P x xs h) (omega (arith, l, times_other y x xs n))
]

-- the numbers from one on, each of which is there once
numbers_push : (y x n : ℕ) → count_by (λ z. z == y) (numbers_from x (suc n)) ≡ count_by (λ z. z == y) (numbers_from x n) + cond ((x + n) == y) 1 0
numbers_push y x n = sum_by_push (λ z. cond (z == y) 1 0) (numbers_from x n) (x + n)

numbers_out : (y x n : ℕ) → (y < x) ⊎ (x + n ≤ y) → count_by (λ z. z == y) (numbers_from x n) ≡ 0
numbers_out y x zero h = refl
numbers_out y x (suc n) h =
    let other : x + n ≢ y = λ e. by_side h e in
    numbers_push y x n ∙ ap (λ (b : Bool). count_by (λ z. z == y) (numbers_from x n) + cond b 1 0) (ne_eqb (x + n) y other) ∙ omega (arith, numbers_out y x n (closer h))
  where
    by_side : (y < x) ⊎ (x + suc n ≤ y) → x + n ≡ y → ⊥
    by_side (inl l) e = omega (arith, l, e)
    by_side (inr l) e = omega (arith, l, e)

    closer : (y < x) ⊎ (x + suc n ≤ y) → (y < x) ⊎ (x + n ≤ y)
    closer (inl l) = inl l
    closer (inr l) = inr (omega (arith, l))

numbers_in : (y x n : ℕ) → x ≤ y → y < x + n → count_by (λ z. z == y) (numbers_from x n) ≡ 1
numbers_in y x zero l u = absurd (omega (arith, l, u))
numbers_in y x (suc n) l u = elim (cases_eq (x + n) y) [
  | inl e ↦ numbers_push y x n ∙ ap (λ (b : Bool). count_by (λ z. z == y) (numbers_from x n) + cond b 1 0) (eq-eqb (x + n) y e) ∙ omega (arith, numbers_out y x n (inr (omega (arith, e))))
  | inr o ↦ numbers_push y x n ∙ ap (λ (b : Bool). count_by (λ z. z == y) (numbers_from x n) + cond b 1 0) (ne_eqb (x + n) y o) ∙ omega (arith, numbers_in y x n l (omega (arith, u, o)))
]

length_numbers : (x n : ℕ) → length (numbers_from x n) ≡ n
length_numbers x zero = refl
length_numbers x (suc n) = length-append (numbers_from x n) ((x + n) ∷ []) ∙ omega (arith, length_numbers x n)

-- ---- nodes that wait

pub waits_is : (o : Option NodeState) → 1 ≤ waits_in o → o ≡ Some Untaken
waits_is o l = grind arith

pub untaken_state : (s t : NodeState) (nodes : List TreeNode) (x : ℕ) → state_at nodes x ≡ Some t → untaken_among (with_state s nodes x) + waits_in (Some t) ≡ untaken_among nodes + waits_in (Some s)
untaken_state s t [] x e = absurd (cc)
untaken_state s t (n ∷ ns) zero e = let same : n.state ≡ t = cc in omega (arith, ap (λ (u : NodeState). waits_in (Some u)) same)
untaken_state s t (n ∷ ns) (suc x) e = omega (arith, untaken_state s t ns x e)

untaken-append : (xs ys : List TreeNode) → untaken_among (xs ++ ys) ≡ untaken_among xs + untaken_among ys
untaken-append [] ys = omega arith
untaken-append (x ∷ xs) ys = omega (arith, untaken-append xs ys)

untaken_new : (words : List (List Bool)) → untaken_among (map new_node words) ≡ length words
untaken_new [] = refl
untaken_new (w ∷ ws) = omega (arith, untaken_new ws)

-- a node doesn't wait where it is taken
pub untaken_few : (nodes : List TreeNode) → untaken_among nodes + taken_among nodes ≤ length nodes
untaken_few [] = omega arith
untaken_few (n ∷ ns) = grind (arith, untaken_few ns)

pub state_same_as : (s t : NodeState) (nodes : List TreeNode) (x : ℕ) → state_at nodes x ≡ Some t → state_at (with_state s nodes x) x ≡ Some s
state_same_as s t nodes x e = let at : IsAt nodes x t = node_at nodes x t e in state_same s nodes x at.node at.there

new_waits : (words : List (List Bool)) (j : ℕ) → j < length words → state_at (map new_node words) j ≡ Some Untaken
new_waits [] j l = absurd (omega (arith, l))
new_waits (w ∷ ws) zero l = refl
new_waits (w ∷ ws) (suc j) l = new_waits ws j (omega (arith, l))

state_past : (nodes : List TreeNode) (y : ℕ) → length nodes ≤ y → state_at nodes y ≡ None
state_past nodes y l = ap (λ (o : Option TreeNode). option_map (λ (n : TreeNode). n.state) o) (slice_get_past nodes y l)

-- a node has a word
pub has_word : (nodes : List TreeNode) (x : ℕ) (s : NodeState) → state_at nodes x ≡ Some s → slice_get (words_of nodes) x ≡ None → ⊥
has_word nodes x s e none = grind (arith, node_at, slice_get-map)

-- ---- one queue more

pub length_more : (key n : ℕ) (q r : Queued) → IsMore key n q r → length r.keys ≡ length q.keys + n
length_more key n q r h = ap length h.keys ∙ length-append q.keys (replicate n key) ∙ ap (λ (m : ℕ). length q.keys + m) (length-replicate n key)

pub length_waiting : (key n : ℕ) (q r : Queued) → IsMore key n q r → length r.waiting ≡ length q.waiting + n
length_waiting key n q r h = length_permutation _ _ h.waiting ∙ length-append q.waiting (numbers_from (length q.keys) n) ∙ ap (λ (m : ℕ). length q.waiting + m) (length_numbers (length q.keys) n)

-- a key more, and its node waits
pub more_by_back : (key n : ℕ) (p q r : Queued) → q.keys ≡ p.keys ++ key ∷ [] → q.waiting ≡ p.waiting → q.room ≡ p.room → n ≡ length p.keys → IsBack q r n → IsMore key 1 p r
more_by_back key n p q r ks ws room at h =
    let e : n ≡ length p.keys + 0 = omega (arith, at) in
    let joins : IsPermutation ((length p.keys + 0) ∷ p.waiting) r.waiting =
    subst (λ (x : ℕ). IsPermutation (x ∷ p.waiting) r.waiting) e (subst (λ (l : List ℕ). IsPermutation (n ∷ l) r.waiting) ws h.joins) in
    record {
      keys = h.keys ∙ ks;
      waiting = IsPermutation-trans (p.waiting ++ (length p.keys + 0) ∷ []) ((length p.keys + 0) ∷ p.waiting) r.waiting (IsPermutation-to_front p.waiting (length p.keys + 0)) joins;
      room = h.room ∙ room;
    }

pub more_one : (key n m : ℕ) (p q r : Queued) → IsMore key n p q → IsMore key 1 q r → m ≡ n + 1 → IsMore key m p r
more_one key n m p q r h k e =
    let next : m ≡ suc n = omega (arith, e) in
    let at : length q.keys + 0 ≡ length p.keys + n = omega (arith, length_more key n p q h) in
    let last : IsPermutation (q.waiting ++ (length p.keys + n) ∷ []) r.waiting = subst (λ (x : ℕ). IsPermutation (q.waiting ++ x ∷ []) r.waiting) at k.waiting in
    let all : IsPermutation ((p.waiting ++ numbers_from (length p.keys) n) ++ (length p.keys + n) ∷ []) r.waiting =
    IsPermutation-trans _ (q.waiting ++ (length p.keys + n) ∷ []) _ (IsPermutation-append_left ((length p.keys + n) ∷ []) (p.waiting ++ numbers_from (length p.keys) n) q.waiting h.waiting) last in
    subst (λ (j : ℕ). IsMore key j p r) (sym next) (record {
      keys = k.keys ∙ ap (λ (ks : List ℕ). ks ++ key ∷ []) h.keys
          ∙ append_assoc p.keys (replicate n key) (key ∷ []) ∙ ap (λ (ks : List ℕ). p.keys ++ ks) (replicate_more n key ∙ ap (λ (j : ℕ). replicate j key) (sym e ∙ next));
      waiting = subst (λ (ws : List ℕ). IsPermutation ws r.waiting) (append_assoc p.waiting (numbers_from (length p.keys) n) ((length p.keys + n) ∷ [])) all;
      room = k.room ∙ h.room;
    })

-- ---- the queue of a tree

-- the one that leaves waits
pub first_waits : (nodes : List TreeNode) (q r : Queued) (x : ℕ) → IsQueueOf nodes q → LeavesFirst q r x → state_at nodes x ≡ Some Untaken
first_waits nodes q r x h f = waits_is (state_at nodes x) (omega (arith, h.each x, times_permuted x q.waiting (x ∷ r.waiting) f.leaves, times_same x x r.waiting refl))

-- and no other is before it
pub first_of_all : (nodes : List TreeNode) (q r : Queued) (x : ℕ) → IsQueueOf nodes q → LeavesFirst q r x → IsFirstWaiting q.keys nodes x
first_of_all nodes q r x h f = record {
  waits = first_waits nodes q r x h f;
  ahead = λ y e. at_one (IsAhead q.keys x) y q.waiting f.ahead (omega (arith, h.each y, ap waits_in e));
}

pub none_waits : (nodes : List TreeNode) (q : Queued) → IsQueueOf nodes q → q.waiting ≡ [] → NoneWaits nodes
none_waits nodes q h e y w = omega (arith, h.each y, ap (λ (ws : List ℕ). count_by (λ z. z == y) ws) e, ap waits_in w)

-- a node is taken as it leaves
pub queue_taken : (nodes : List TreeNode) (q r : Queued) (x k : ℕ) → IsQueueOf nodes q → LeavesFirst q r x → IsQueueOf (with_state (Taken k) nodes x) r
queue_taken nodes q r x k h f = record {
  keys = ap length f.keys ∙ h.keys ∙ sym (length-with_state (Taken k) nodes x);
  each = each;
  many = omega (arith, length_permutation q.waiting (x ∷ r.waiting) f.leaves, untaken_state (Taken k) Untaken nodes x waits, h.many);
}
  where
    waits : state_at nodes x ≡ Some Untaken
    waits = first_waits nodes q r x h f

    each : (y : ℕ) → count_by (λ z. z == y) r.waiting ≡ waits_in (state_at (with_state (Taken k) nodes x) y)
    each y = elim (cases_eq x y) [
      | inl e ↦
          let here : waits_in (state_at (with_state (Taken k) nodes x) y) ≡ 0 =
          ap (λ (z : ℕ). waits_in (state_at (with_state (Taken k) nodes x) z)) (sym e) ∙ ap waits_in (state_same_as (Taken k) Untaken nodes x waits) in
          let was : waits_in (state_at nodes y) ≡ 1 = ap (λ (z : ℕ). waits_in (state_at nodes z)) (sym e) ∙ ap waits_in waits in
          omega (arith, here, was, h.each y, times_permuted y q.waiting (x ∷ r.waiting) f.leaves, times_same y x r.waiting e)
      | inr n ↦
          let there : waits_in (state_at (with_state (Taken k) nodes x) y) ≡ waits_in (state_at nodes y) = ap waits_in (state_other (Taken k) nodes x y (λ e. n (sym e))) in
          omega (arith, there, h.each y, times_permuted y q.waiting (x ∷ r.waiting) f.leaves, times_other y x r.waiting n)
    ]

-- a node that doesn't wait does again
pub queue_back : (nodes : List TreeNode) (q r : Queued) (x k : ℕ) → IsQueueOf nodes q → IsBack q r x → state_at nodes x ≡ Some (Taken k) → IsQueueOf (with_state Untaken nodes x) r
queue_back nodes q r x k h f taken = record {
  keys = ap length f.keys ∙ h.keys ∙ sym (length-with_state Untaken nodes x);
  each = each;
  many = omega (arith, length_permutation (x ∷ q.waiting) r.waiting f.joins, untaken_state Untaken (Taken k) nodes x taken, h.many);
}
  where
    each : (y : ℕ) → count_by (λ z. z == y) r.waiting ≡ waits_in (state_at (with_state Untaken nodes x) y)
    each y = elim (cases_eq x y) [
      | inl e ↦
          let here : waits_in (state_at (with_state Untaken nodes x) y) ≡ 1 =
          ap (λ (z : ℕ). waits_in (state_at (with_state Untaken nodes x) z)) (sym e) ∙ ap waits_in (state_same_as Untaken (Taken k) nodes x taken) in
          let was : waits_in (state_at nodes y) ≡ 0 = ap (λ (z : ℕ). waits_in (state_at nodes z)) (sym e) ∙ ap waits_in taken in
          omega (arith, here, was, h.each y, times_permuted y (x ∷ q.waiting) r.waiting f.joins, times_same y x q.waiting e)
      | inr n ↦
          let there : waits_in (state_at (with_state Untaken nodes x) y) ≡ waits_in (state_at nodes y) = ap waits_in (state_other Untaken nodes x y (λ e. n (sym e))) in
          omega (arith, there, h.each y, times_permuted y (x ∷ q.waiting) r.waiting f.joins, times_other y x q.waiting n)
    ]

-- a taken node is done
pub queue_done : (nodes : List TreeNode) (q : Queued) (s : NodeState) (x k : ℕ) → IsQueueOf nodes q → state_at nodes x ≡ Some (Taken k) → waits_in (Some s) ≡ 0 → IsQueueOf (with_state s nodes x) q
queue_done nodes q s x k h taken done = grind (arith, length-with_state, untaken_state, count_by, cases_eq, state_same_as, state_other)

-- nodes are made
pub queue_more : (nodes : List TreeNode) (words : List (List Bool)) (q r : Queued) (key : ℕ) → IsQueueOf nodes q → IsMore key (length words) q r → IsQueueOf (nodes ++ map new_node words) r
queue_more nodes words q r key h f = record {
  keys = length_more key (length words) q r f ∙ ap (λ (n : ℕ). n + length words) h.keys ∙ sym count;
  each = each;
  many = omega (arith, length_waiting key (length words) q r f, h.many, untaken-append nodes (map new_node words), untaken_new words);
}
  where
    kids : List TreeNode
    kids = map new_node words

    count : length (nodes ++ kids) ≡ length nodes + length words
    count = length-append nodes kids ∙ ap (λ (n : ℕ). length nodes + n) (length-map words new_node)

    numbers : (y : ℕ) → count_by (λ z. z == y) r.waiting ≡ count_by (λ z. z == y) q.waiting + count_by (λ z. z == y) (numbers_from (length nodes) (length words))
    numbers y =
        times_permuted y _ r.waiting f.waiting ∙ times_append y q.waiting (numbers_from (length q.keys) (length words)) ∙ ap
        (λ (n : ℕ). count_by (λ z. z == y) q.waiting + count_by (λ z. z == y) (numbers_from n (length words))) h.keys

    front : (y : ℕ) → y < length nodes → state_at (nodes ++ kids) y ≡ state_at nodes y
    front y l = ap (λ (o : Option TreeNode). option_map (λ (n : TreeNode). n.state) o) (get_front nodes kids y l)

    back : (y : ℕ) → length nodes ≤ y → state_at (nodes ++ kids) y ≡ state_at kids (y - length nodes)
    back y l =
        let at : y ≡ length nodes + (y - length nodes) = omega (arith, l) in
        ap (state_at (nodes ++ kids)) at ∙ ap (λ (o : Option TreeNode). option_map (λ (n : TreeNode). n.state) o) (get_back nodes kids (y - length nodes))

    after : (y : ℕ) → length nodes ≤ y → count_by (λ z. z == y) r.waiting ≡ waits_in (state_at (nodes ++ kids) y)
    after y l = elim (cases_lt y (length nodes + length words)) [
      | inl u ↦
          let here : waits_in (state_at (nodes ++ kids) y) ≡ 1 = ap waits_in (back y l ∙ new_waits words (y - length nodes) (omega (arith, l, u))) in
          let was : waits_in (state_at nodes y) ≡ 0 = ap waits_in (state_past nodes y l) in
          omega (arith, here, was, h.each y, numbers y, numbers_in y (length nodes) (length words) l u)
      | inr u ↦
          let here : waits_in (state_at (nodes ++ kids) y) ≡ 0 = ap waits_in (state_past (nodes ++ kids) y (omega (arith, count, u))) in
          let was : waits_in (state_at nodes y) ≡ 0 = ap waits_in (state_past nodes y l) in
          omega (arith, here, was, h.each y, numbers y, numbers_out y (length nodes) (length words) (inr u))
    ]

    each : (y : ℕ) → count_by (λ z. z == y) r.waiting ≡ waits_in (state_at (nodes ++ kids) y)
    each y = elim (cases_lt y (length nodes)) [
      | inl l ↦
          let there : waits_in (state_at (nodes ++ kids) y) ≡ waits_in (state_at nodes y) = ap waits_in (front y l) in
          omega (arith, there, h.each y, numbers y, numbers_out y (length nodes) (length words) (inl l))
      | inr l ↦ after y l
    ]

-- ---- entries

-- a taken node has its key, and there is room for it
pub back_room : (nodes : List TreeNode) (q : Queued) (x k room : ℕ) → IsQueueOf nodes q
    → state_at nodes x ≡ Some (Taken k) → length nodes ≤ room → q.room ≡ room
    → (x < length q.keys) × (length q.waiting < q.room)
back_room nodes q x k room h taken l e = (
  omega (arith, within_nodes nodes x (Taken k) taken, h.keys),
  omega (arith, untaken_few nodes, h.many, taken_state Untaken (Taken k) nodes x taken, l, e),
)

pub made : (g : Grown) (k x cutoff : ℕ) → length (grown g (Branch k x cutoff)).nodes ≡ length g.nodes + length (children_at g x)
made g k x cutoff =
    let kids = children_at g x in
    let state = branch_of (length g.nodes) kids in
    omega (arith, length-append (with_state state g.nodes x) (map new_node kids), length-with_state state g.nodes x, length-map kids new_node)

pub can_follow : (g : Grown) (e : Entry) (q : Queued) → IsQueueOf g.nodes q → q.room ≡ g.budget → length g.nodes ≤ g.budget → IsAllowed g e → CanFollow q (length (grown g e).nodes) (in_journal e)
can_follow g (Take k x) q h room l may = tt
can_follow g (Close k x leaf cutoff) q h room l may = tt
can_follow g (Branch k x cutoff) q h room l may = (
  omega (arith, made g k x cutoff, h.keys),
  omega (arith, made g k x cutoff, may.1, room),
  omega (arith, untaken_few g.nodes, h.many, h.keys),
)
can_follow g (Full k x cutoff) q h room l may = back_room g.nodes q x k g.budget h may.0.taken l room
can_follow g (GiveBack k x) q h room l may = back_room g.nodes q x k g.budget h may l room

-- where no node is made, the keys stay
pub keys_stay : (g : Grown) (e : Entry) (keys : List ℕ) (key : ℕ) → length (grown g e).nodes ≡ length g.nodes → keys_after g e keys key ≡ keys
keys_stay g e keys key same = grind (arith, append-nil)

-- what a queue is after it followed an entry
pub record IsFollowed (g : Grown) (e : Entry) (key : ℕ) (q r : Queued) : Type 0 where
  pub queue : IsQueueOf (grown g e).nodes r
  pub keys : r.keys ≡ keys_after g e q.keys key
  pub room : r.room ≡ q.room

pub branch_done : (first : ℕ) (words : List (List Bool)) → waits_in (Some (branch_of first words)) ≡ 0
branch_done first words = grind arith

pub follows_kept : (g : Grown) (e : Entry) (key : ℕ) (q r : Queued) → comes e ≡ 0 → IsQueueOf g.nodes q
    → IsAllowed g e → Follows key (length (grown g e).nodes) q r (in_journal e) → IsFollowed g e key q r
follows_kept g (Take k x) key q r c h may f = absurd (omega (arith, c))
follows_kept g (Close k x leaf cutoff) key q r c h may f = record {
  queue = subst (IsQueueOf (with_state (Closed leaf cutoff) g.nodes x)) (sym f) (queue_done g.nodes q (Closed leaf cutoff) x k h may.taken refl);
  keys = ap (λ (s : Queued). s.keys) f ∙ sym (keys_stay g (Close k x leaf cutoff) q.keys key (length-with_state (Closed leaf cutoff) g.nodes x));
  room = ap (λ (s : Queued). s.room) f;
}
follows_kept g (Branch k x cutoff) key q r c h may f =
    let kids = children_at g x in
    let state = branch_of (length g.nodes) kids in
    let before : IsQueueOf (with_state state g.nodes x) q = queue_done g.nodes q state x k h may.0.taken (branch_done (length g.nodes) kids) in
    let many : length (grown g (Branch k x cutoff)).nodes - length q.keys ≡ length kids = omega (arith, made g k x cutoff, h.keys) in
    let same : length (grown g (Branch k x cutoff)).nodes - length q.keys ≡ length (grown g (Branch k x cutoff)).nodes - length g.nodes = omega (arith, h.keys) in
    record {
      queue = queue_more (with_state state g.nodes x) kids q r key before (subst (λ (n : ℕ). IsMore key n q r) many f);
      keys = f.keys ∙ ap (λ (n : ℕ). q.keys ++ replicate n key) same;
      room = f.room;
    }
follows_kept g (Full k x cutoff) key q r c h may f = record {
  queue = queue_back g.nodes q r x k h f may.0.taken;
  keys = f.keys ∙ sym (keys_stay g (Full k x cutoff) q.keys key (length-with_state Untaken g.nodes x));
  room = f.room;
}
follows_kept g (GiveBack k x) key q r c h may f = record {
  queue = queue_back g.nodes q r x k h f may;
  keys = f.keys ∙ sym (keys_stay g (GiveBack k x) q.keys key (length-with_state Untaken g.nodes x));
  room = f.room;
}

-- ---- the start

pub queue_start : (q : Queued) (room : ℕ) → IsMore first_key 1 (no_nodes room) q → IsQueueOf (new_node [] ∷ []) q × (q.keys ≡ first_key ∷ []) × (q.room ≡ room)
queue_start q room h = (
  queue_more [] ([] ∷ []) (no_nodes room) q first_key (record { keys = refl; each = none; many = refl }) h,
  h.keys,
  h.room,
)
  where
    none : (y : ℕ) → count_by (λ z. z == y) [] ≡ waits_in (state_at [] y)
    none y = refl
