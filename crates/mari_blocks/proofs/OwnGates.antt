-- The gates of bids: each has an order, and the gate of a parent stands before those of its children.
use Rattle.std.proofs.Common.{◌≡◌, ◌∙◌, ◌<◌, ◌==◌, ℕ, Bool, true, false, List, [], ◌∷◌, ◌++◌, Option, Some, None, get_or, length, length-append, take, refl, sym, ap, arith, inl, inr, if◌then◌else◌}
use Rattle.std.specs.Prelude.{◌||◌}
use Rattle.std.specs.List.{All, Contains, cons_option, filter_map, list_any}
use Rattle.std.proofs.lemmas.Bool.{cases_lt, eqb-true}
use Rattle.std.proofs.lemmas.List.{append-nil, get_or_append_left, get_or_default, get_or-take, length-take, take-append-le}
use Rattle.std.proofs.lemmas.List.Elements.{All-contains_itself, All-cons, All-head, All-nil, All-tail, filter_map-append}
use Rattle.std.proofs.lemmas.List.Folds.{list_any_none}
use Rattle.std.proofs.lemmas.List.Quantifiers.{position-Some}
use Rattle.std.proofs.lemmas.List.Sums.{fold_push}
use Rattle.std.proofs.Math.Seq.{get_or-append_seam, take-append_seam}
use Rattle.mari_rows.specs.Names.{listed_with}
use Rattle.mari_links.proofs.EntryLemmas.{itself, or-yes}
use Rattle.mari_blocks.specs.Joint.{gates_once, gate_place, is_one_of, is_same_gate}
use Rattle.mari_blocks.specs.declared.gates.JointGate.{JointGate}
use Rattle.mari_blocks.specs.declared.gates.JointGate.TheVariants.{OfBid, OfBlock}
use Rattle.mari_blocks.proofs.Listing.{all-once, apart-once, own-place, there-once}
use Rattle.mari_blocks.proofs.Parents.{FollowParents, FollowsParent, along-parents}

-- a gate is itself, and what is the same is equal
pub same-itself : (gate : JointGate) → is_same_gate gate gate ≡ true
same-itself (OfBlock block) = itself block
same-itself (OfBid bid) = itself bid

pub same-equal : (gate other : JointGate) → is_same_gate gate other ≡ true → gate ≡ other
same-equal (OfBlock block) (OfBlock other) e = ap OfBlock (eqb-true block other e)
same-equal (OfBlock block) (OfBid other) e = cc e
same-equal (OfBid bid) (OfBlock other) e = cc e
same-equal (OfBid bid) (OfBid other) e = ap OfBid (eqb-true bid other e)

module _ (own_gate : ℕ → Option JointGate) where
  abbrev gates_in : List ℕ → List JointGate
  gates_in numbers = gates_once (filter_map own_gate numbers)

  -- the gates of one bid more: its own goes after the others, where it is new
  pub gates-more : (before : List ℕ) (bid : ℕ) (gate : JointGate) → own_gate bid ≡ Some gate → gates_in (before ++ bid ∷ []) ≡ listed_with is_same_gate (gates_in before) gate
  gates-more before bid gate e =
      let pushed : filter_map own_gate (before ++ bid ∷ []) ≡ filter_map own_gate before ++ gate ∷ [] = filter_map-append own_gate before (bid ∷ []) ∙ rw e refl in
      ap gates_once pushed ∙ fold_push (listed_with is_same_gate) [] (filter_map own_gate before) gate

  pub gates-same : (before : List ℕ) (bid : ℕ) → own_gate bid ≡ None → gates_in (before ++ bid ∷ []) ≡ gates_in before
  gates-same before bid e =
      let dropped : filter_map own_gate (before ++ bid ∷ []) ≡ filter_map own_gate before = filter_map-append own_gate before (bid ∷ []) ∙ rw e (append-nil (filter_map own_gate before)) in
      ap gates_once dropped

  -- the gate of a bid is among those of bids with it
  gate-listed : (bid : ℕ) (gate : JointGate) → own_gate bid ≡ Some gate → (numbers : List ℕ) → is_one_of numbers bid ≡ true → list_any (is_same_gate gate) (filter_map own_gate numbers) ≡ true
  gate-listed bid gate e [] there = cc there
  gate-listed bid gate e (n ∷ ns) there = by (n == bid) refl there (gate-listed bid gate e ns)
    where
      after : (o : Option JointGate) → list_any (is_same_gate gate) (filter_map own_gate ns) ≡ true → list_any (is_same_gate gate) (cons_option o (filter_map own_gate ns)) ≡ true
      after None more = more
      after (Some other) more = rw more (or-yes (is_same_gate gate other))

      by : (b : Bool) → (n == bid) ≡ b → (b || is_one_of ns bid) ≡ true → (is_one_of ns bid ≡ true → list_any (is_same_gate gate) (filter_map own_gate ns) ≡ true)
          → list_any (is_same_gate gate) (cons_option (own_gate n) (filter_map own_gate ns)) ≡ true
      by true same there more = rw (eqb-true n bid same, e, same-itself gate) refl
      by false other there more = after (own_gate n) (more there)

  pub gate-there : (bid : ℕ) (gate : JointGate) → own_gate bid ≡ Some gate → (numbers : List ℕ) → is_one_of numbers bid ≡ true → list_any (is_same_gate gate) (gates_in numbers) ≡ true
  gate-there bid gate e numbers there = there-once is_same_gate same-itself same-equal gate (filter_map own_gate numbers) (gate-listed bid gate e numbers there)

  module _ (parent_of : ℕ → Option ℕ) (up : (bid parent : ℕ) → parent_of bid ≡ Some parent → own_gate parent ≡ Some (OfBid parent))
      (own : (bid other : ℕ) → own_gate bid ≡ Some (OfBid other) → bid ≡ other) where
    -- the gate of a bid's parent stands before the bid's own
    abbrev pub HaveParents : List JointGate → Type 0
    HaveParents gates = (g bid parent : ℕ) (d : JointGate) → g < length gates → get_or gates g d ≡ OfBid bid → parent_of bid ≡ Some parent
        → list_any (is_same_gate (OfBid parent)) (take g gates) ≡ true

    -- it is so of one gate more, where that of its bid's parent is there
    have-more : (gates : List JointGate) (gate : JointGate) → ((bid parent : ℕ) → gate ≡ OfBid bid → parent_of bid ≡ Some parent → list_any (is_same_gate (OfBid parent)) gates ≡ true)
        → HaveParents gates → HaveParents (listed_with is_same_gate gates gate)
    have-more gates gate there have = by (list_any (is_same_gate gate) gates)
      where
        last : HaveParents (gates ++ gate ∷ [])
        last g bid parent d l e f = elim (cases_lt g (length gates)) [
          | inl less ↦ rw (take-append-le g gates (gate ∷ []) (omega (arith, less))) (have g bid parent d less (sym (get_or_append_left gates (gate ∷ []) d g less) ∙ e) f)
          | inr past ↦ (
              let here : g ≡ length gates = omega (arith, past, l, length-append gates (gate ∷ [])) in
              let mine : gate ≡ OfBid bid = sym (get_or-append_seam gates gate [] d) ∙ ap (λ k. get_or (gates ++ gate ∷ []) k d) (sym here) ∙ e in
              rw (here, take-append_seam gates (gate ∷ [])) (there bid parent mine f))
        ]

        by : (b : Bool) → HaveParents (if b then gates else gates ++ gate ∷ [])
        by true = have
        by false = last

    one-bid : (before : List ℕ) (bid : ℕ) → FollowsParent parent_of before bid → HaveParents (gates_in before) → HaveParents (gates_in (before ++ bid ∷ []))
    one-bid before bid follows have = by (own_gate bid) refl
      where
        by : (o : Option JointGate) → own_gate bid ≡ o → HaveParents (gates_in (before ++ bid ∷ []))
        by None e = rw (gates-same before bid e) have
        by (Some gate) e =
            rw (gates-more before bid gate e)
            (have-more (gates_in before) gate (λ other parent mine f.
            let same : bid ≡ other = own bid other (e ∙ ap Some mine) in
            let f2 : parent_of bid ≡ Some parent = ap parent_of same ∙ f in
            gate-there parent (OfBid parent) (up bid parent f2) before (follows parent f2)) have)

    -- so it is of the gates of bids that follow their parents
    pub all-have : (numbers : List ℕ) → FollowParents parent_of [] numbers → HaveParents (gates_in numbers)
    all-have numbers follow = along-parents parent_of (λ numbers. HaveParents (gates_in numbers)) one-bid [] numbers follow (λ g bid parent d l e f. absurd (omega (arith, l)))

    -- and the number of a parent's gate is smaller
    pub parent-before : (gates : List JointGate) (g h bid parent : ℕ) (d : JointGate) → HaveParents gates → g < length gates → get_or gates g d ≡ OfBid bid → parent_of bid ≡ Some parent
        → gate_place gates (OfBid parent) ≡ Some h → h < g
    parent-before gates g h bid parent d have l e f found = elim (cases_lt h g) [
      | inl less ↦ less
      | inr past ↦ (
          let first = position-Some (is_same_gate (OfBid parent)) gates h d found in
          let none : list_any (is_same_gate (OfBid parent)) (take g gates) ≡ false =
          list_any_none (is_same_gate (OfBid parent)) (take g gates) (λ k d2 less.
          let within : k < g = omega (arith, less, length-take g gates) in
          rw (get_or-take g gates k d2 within) (rw (get_or_default gates k d2 d (omega (arith, within, l))) (first.2 k (omega (arith, within, past))))) in
          let both : true ≡ false = sym (have g bid parent d l e f) ∙ none in
          absurd (cc both))
    ]

  -- each gate is that of a bid
  module _ (P : JointGate → Type 0) where
    each-listed : (numbers : List ℕ) → All (λ bid. (gate : JointGate) → own_gate bid ≡ Some gate → P gate) numbers → All P (filter_map own_gate numbers)
    each-listed [] all = All-nil P
    each-listed (n ∷ ns) all = by (own_gate n) refl (each-listed ns (All-tail (λ bid. (gate : JointGate) → own_gate bid ≡ Some gate → P gate) n ns all))
      where
        by : (o : Option JointGate) → own_gate n ≡ o → All P (filter_map own_gate ns) → All P (cons_option o (filter_map own_gate ns))
        by None e rest = rest
        by (Some gate) e rest = All-cons P gate (filter_map own_gate ns) (All-head (λ bid. (gate : JointGate) → own_gate bid ≡ Some gate → P gate) n ns all gate e) rest

    pub each-gate : (numbers : List ℕ) → All (λ bid. (gate : JointGate) → own_gate bid ≡ Some gate → P gate) numbers → All P (gates_in numbers)
    each-gate numbers all = all-once is_same_gate P (filter_map own_gate numbers) (each-listed numbers all)

  -- a gate that is there is the gate of one of the bids, whose order has its number
  pub record HasBid (numbers : List ℕ) (gate : JointGate) : Type 0 where
    pub bid : ℕ
    pub there : Contains numbers bid
    pub own : own_gate bid ≡ Some gate

  pub has-bid : (numbers : List ℕ) → All (HasBid numbers) (gates_in numbers)
  has-bid numbers =
      each-gate (HasBid numbers) numbers (λ k d l gate e. record { bid = get_or numbers k d; there = All-contains_itself numbers k d l; own = e })

  pub gate-number : (numbers : List ℕ) (g : ℕ) (d : JointGate) → g < length (gates_in numbers) → gate_place (gates_in numbers) (get_or (gates_in numbers) g d) ≡ Some g
  gate-number numbers g d l = own-place is_same_gate same-itself (gates_in numbers) g d (apart-once is_same_gate (filter_map own_gate numbers)) l
