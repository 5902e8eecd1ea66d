-- The cheapest slots of a ladder run first, up to an amount.
use Rattle.std.proofs.Common.{◌≡◌, ◌≢◌, refl, ◌⊎◌, ◌+◌, ◌<◌, ◌≤◌, ℕ, zero, suc, ℤ, pos, ◌+ℤ◌, ◌-ℤ◌, ◌≤ℤ◌, ◌<ℤ◌, List, [], ◌∷◌, length, set, take, get_or, arith, ap, sym, subst, ◌∙◌, inl, inr, get_or-set_other}
use Rattle.std.specs.Int.{int_min}
use Rattle.std.proofs.lemmas.Int.{by_lt_z, clamps, ints}
use Rattle.std.proofs.lemmas.Bool.{cases_eq, cases_lt}
use Rattle.std.proofs.lemmas.List.{get_or-set_same, get_or_default, take_all}
use Rattle.std.proofs.lemmas.List.Elements.{All-head, All-tail}
use Rattle.std.specs.List.{All, AllZip}
use Rattle.mari_market.specs.Sums.{int_at, int_sum}
use Rattle.mari_market.proofs.Sums.{int_sum_more, AllZip-at}
use Rattle.mari_network.specs.declared.network.Rung.{Rung}
use Rattle.mari_network.specs.declared.slots.Slot.{Slot}
use Rattle.mari_network.specs.Network.{no_rung, rung_at}
use Rattle.mari_network.specs.Slots.{no_slot, price_of, slot_at, IsWithinSlot}
use Rattle.mari_network.proofs.Lists.{zip_long}
use Rattle.mari_paths.specs.Merit.{greatest_of, least_of, run_at, supply_of, IsByMerit, IsMeritOrder, IsOrderRange}
use Rattle.mari_paths.specs.Starts.{IsInOrder}

-- how much more than its least a rung's slot may put in
abbrev pub width_of : List Slot → Rung → ℤ
width_of slots r = (slot_at slots r.place).high -ℤ (slot_at slots r.place).low

-- how much more the first n put in where they run whole
abbrev pub first_widths : List Slot → ℕ → List Rung → ℤ
first_widths slots n rs = int_sum (width_of slots) (take n rs)

pub run_whole : (p : ℤ) (s : Slot) → s.price <ℤ p → run_at p s ≡ s.high
run_whole p s h = grind (arith, ints)

pub run_least : (p : ℤ) (s : Slot) → p ≤ℤ s.price → run_at p s ≡ s.low
run_least p s h = grind (arith, ints)

run_some : (p : ℤ) (s : Slot) → IsInOrder s → s.low ≤ℤ run_at p s
run_some p s h = grind (arith, ints)

run_most : (p : ℤ) (s : Slot) → IsInOrder s → run_at p s ≤ℤ s.high
run_most p s h = grind (arith, ints)

abbrev pub AreInOrder : List Slot → List Rung → Type 0
AreInOrder slots rs = All (λ (r : Rung). IsInOrder (slot_at slots r.place)) rs

-- where the first n cost less than the price, at least so much is put in at it
pub supply_whole : (slots : List Slot) (p : ℤ) (n : ℕ) (rs : List Rung) → AreInOrder slots rs → ((k : ℕ) → k < n → k < length rs → price_of slots (rung_at rs k).place <ℤ p)
    → (least_of slots rs +ℤ first_widths slots n rs) ≤ℤ supply_of slots rs p
supply_whole slots p zero [] a h = omega (arith, ints)
supply_whole slots p (suc n) [] a h = omega (arith, ints)
supply_whole slots p zero (r ∷ rs) a h =
    omega (
      arith,
      ints,
      run_some p (slot_at slots r.place) (All-head (λ (q : Rung). IsInOrder (slot_at slots q.place)) r rs a),
      supply_whole slots p zero rs (All-tail (λ (q : Rung). IsInOrder (slot_at slots q.place)) r rs a) (λ k m l. absurd (omega (arith, m))),
    )
supply_whole slots p (suc n) (r ∷ rs) a h =
    omega (
      arith,
      ints,
      run_whole p (slot_at slots r.place) (h 0 (omega arith) (omega arith)),
      supply_whole slots p n rs (All-tail (λ (q : Rung). IsInOrder (slot_at slots q.place)) r rs a) (λ k m l. h (suc k) (omega (arith, m)) (omega (arith, l))),
    )

-- where all but the first n cost no less than the price, at most so much is put in at it
pub supply_least : (slots : List Slot) (p : ℤ) (n : ℕ) (rs : List Rung) → AreInOrder slots rs → ((k : ℕ) → n ≤ k → k < length rs → p ≤ℤ price_of slots (rung_at rs k).place)
    → supply_of slots rs p ≤ℤ (least_of slots rs +ℤ first_widths slots n rs)
supply_least slots p zero [] a h = omega (arith, ints)
supply_least slots p (suc n) [] a h = omega (arith, ints)
supply_least slots p zero (r ∷ rs) a h =
    omega (
      arith,
      ints,
      run_least p (slot_at slots r.place) (h 0 (omega arith) (omega arith)),
      supply_least slots p zero rs (All-tail (λ (q : Rung). IsInOrder (slot_at slots q.place)) r rs a) (λ k m l. h (suc k) (omega arith) (omega (arith, l))),
    )
supply_least slots p (suc n) (r ∷ rs) a h =
    omega (
      arith,
      ints,
      run_most p (slot_at slots r.place) (All-head (λ (q : Rung). IsInOrder (slot_at slots q.place)) r rs a),
      supply_least slots p n rs (All-tail (λ (q : Rung). IsInOrder (slot_at slots q.place)) r rs a) (λ k m l. h (suc k) (omega (arith, m)) (omega (arith, l))),
    )

pub widths_rise : (slots : List Slot) (i j : ℕ) (rs : List Rung) → AreInOrder slots rs → i ≤ j → first_widths slots i rs ≤ℤ first_widths slots j rs
widths_rise slots zero zero rs a l = omega (arith, ints)
widths_rise slots (suc i) zero rs a l = absurd (omega (arith, l))
widths_rise slots zero (suc j) [] a l = omega (arith, ints)
widths_rise slots (suc i) (suc j) [] a l = omega (arith, ints)
widths_rise slots zero (suc j) (r ∷ rs) a l =
    let first : (slot_at slots r.place).low ≤ℤ (slot_at slots r.place).high = All-head (λ (q : Rung). IsInOrder (slot_at slots q.place)) r rs a in
    omega (arith, ints, first, widths_rise slots zero j rs (All-tail (λ (q : Rung). IsInOrder (slot_at slots q.place)) r rs a) (omega arith))
widths_rise slots (suc i) (suc j) (r ∷ rs) a l =
    omega (arith, ints, widths_rise slots i j rs (All-tail (λ (q : Rung). IsInOrder (slot_at slots q.place)) r rs a) (omega (arith, l)))

-- what the first i rungs of a ladder have run of an amount, with what is left of it
pub record IsHalfway (slots : List Slot) (ladder : List Rung) (more left : ℤ) (i : ℕ) (xs : List ℤ) : Type 0 where
  pub left_is : (left ≡ more -ℤ first_widths slots i ladder) ⊎ ((left ≡ pos 0) × (more ≤ℤ first_widths slots i ladder))
  pub whole : (j : ℕ) → j < i → j < length ladder → supply_of slots ladder (price_of slots (rung_at ladder j).place +ℤ pos 1) ≤ℤ (least_of slots ladder +ℤ more)
      → int_at xs (rung_at ladder j).place ≡ (slot_at slots (rung_at ladder j).place).high
  pub least : (j : ℕ) → j < length ladder → (least_of slots ladder +ℤ more) ≤ℤ supply_of slots ladder (price_of slots (rung_at ladder j).place)
      → int_at xs (rung_at ladder j).place ≡ (slot_at slots (rung_at ladder j).place).low
  pub rest : (j : ℕ) → i ≤ j → j < length ladder → int_at xs (rung_at ladder j).place ≡ (slot_at slots (rung_at ladder j).place).low
  pub some : pos 0 ≤ℤ more → pos 0 ≤ℤ left
  pub total : int_sum (λ (r : Rung). int_at xs r.place) ladder ≡ least_of slots ladder +ℤ (more -ℤ left)

-- a number changes at one rung's place alone
sum_elsewhere : (rs : List Rung) (xs : List ℤ) (k : ℕ) (v : ℤ) → ((j : ℕ) → j < length rs → (rung_at rs j).place ≢ k)
    → int_sum (λ (r : Rung). int_at (set xs k v) r.place) rs ≡ int_sum (λ (r : Rung). int_at xs r.place) rs
sum_elsewhere [] xs k v other = refl
sum_elsewhere (r ∷ rs) xs k v other =
    omega (arith, ints, get_or-set_other xs k r.place v (pos 0) (other 0 (omega arith)), sum_elsewhere rs xs k v (λ j l. other (suc j) (omega (arith, l))))

sum_at_rung : (rs : List Rung) (xs : List ℤ) (i : ℕ) (v : ℤ) → i < length rs → (rung_at rs i).place < length xs
    → ((j : ℕ) → j < length rs → (rung_at rs j).place ≡ (rung_at rs i).place → j ≡ i)
    → int_sum (λ (r : Rung). int_at (set xs (rung_at rs i).place v) r.place) rs ≡ int_sum (λ (r : Rung). int_at xs r.place) rs +ℤ (v -ℤ int_at xs (rung_at rs i).place)
sum_at_rung [] xs i v l there once = absurd (omega arith)
sum_at_rung (r ∷ rs) xs zero v l there once =
    omega (
      arith,
      ints,
      get_or-set_same xs r.place v (pos 0) there,
      sum_elsewhere rs xs r.place v (λ j m same. absurd (omega (arith, once (suc j) (omega (arith, m)) same))),
    )
sum_at_rung (r ∷ rs) xs (suc i) v l there once =
    omega (
      arith,
      ints,
      get_or-set_other xs (rung_at rs i).place r.place v (pos 0) (λ same. absurd (omega (arith, once 0 (omega arith) same))),
      sum_at_rung rs xs i v (omega (arith, l)) there (λ j m same. omega (arith, once (suc j) (omega (arith, m)) same)),
    )

-- prices of a ladder's slots rise too
slots_rise : (slots : List Slot) (ladder : List Rung) (i j : ℕ) → IsMeritOrder slots ladder → i ≤ j → j < length ladder
    → price_of slots (rung_at ladder i).place ≤ℤ price_of slots (rung_at ladder j).place
slots_rise slots ladder i j fine le l = omega (arith, ints, fine.rising i j no_rung le l, fine.price i no_rung (omega (arith, le, l)), fine.price j no_rung l)

-- so the first rungs up to one are put in below a cent above its price, and no more than those before it at its price
pub whole_to : (slots : List Slot) (ladder : List Rung) (j : ℕ) → IsMeritOrder slots ladder → AreInOrder slots ladder → j < length ladder
    → (least_of slots ladder +ℤ first_widths slots (j + 1) ladder) ≤ℤ supply_of slots ladder (price_of slots (rung_at ladder j).place +ℤ pos 1)
whole_to slots ladder j fine a l =
    supply_whole slots (price_of slots (rung_at ladder j).place +ℤ pos 1) (j + 1) ladder a (λ k m h. omega (arith, ints, slots_rise slots ladder k j fine (omega (arith, m)) l))

pub least_from : (slots : List Slot) (ladder : List Rung) (i : ℕ) → IsMeritOrder slots ladder → AreInOrder slots ladder → i < length ladder
    → supply_of slots ladder (price_of slots (rung_at ladder i).place) ≤ℤ (least_of slots ladder +ℤ first_widths slots i ladder)
least_from slots ladder i fine a l = supply_least slots (price_of slots (rung_at ladder i).place) i ladder a (λ k m h. slots_rise slots ladder i k fine m h)

further_left : (left new_left part more first width next : ℤ) → left ≡ more -ℤ first → next ≡ first +ℤ width → part ≡ int_min left width → new_left ≡ left -ℤ part
    → (new_left ≡ more -ℤ next) ⊎ ((new_left ≡ pos 0) × (more ≤ℤ next))
further_left left new_left part more first width next e n p new =
    by_lt_z left width (λ l. inr (omega (arith, ints, clamps, l, p, new), omega (arith, ints, l, e, n))) (λ l. inl (omega (arith, ints, clamps, l, p, new, e, n)))

before_it : (i j : ℕ) → j < i + 1 → (j ≡ i → ⊥) → j < i
before_it i j l other = omega (arith, l, other)

-- a rung more
pub further : (slots : List Slot) (ladder : List Rung) (more left new_left part : ℤ) (i : ℕ) (xs : List ℤ) (v : ℤ)
    → IsMeritOrder slots ladder → AreInOrder slots ladder → AllZip IsWithinSlot slots xs → i < length ladder
    → pos 0 <ℤ left → part ≡ int_min left (width_of slots (rung_at ladder i)) → new_left ≡ left -ℤ part → v ≡ (slot_at slots (rung_at ladder i).place).low +ℤ part
    → IsHalfway slots ladder more left i xs → IsHalfway slots ladder more new_left (i + 1) (set xs (rung_at ladder i).place v)
further slots ladder more left new_left part i xs v fine a within l some part_is new v_is h =
    let there : (rung_at ladder i).place < length xs = omega (arith, fine.there i no_rung l, zip_long IsWithinSlot slots xs within) in
    let left_is : left ≡ more -ℤ first_widths slots i ladder = elim h.left_is [ inl e ↦ e | inr w ↦ absurd (omega (arith, ints, w.0, some)) ] in
    let next : first_widths slots (i + 1) ladder ≡ first_widths slots i ladder +ℤ width_of slots (rung_at ladder i) = int_sum_more (width_of slots) ladder i no_rung l in
    let here : int_at (set xs (rung_at ladder i).place v) (rung_at ladder i).place ≡ v = get_or-set_same xs (rung_at ladder i).place v (pos 0) there in
    record {
      left_is = further_left left new_left part more (first_widths slots i ladder) (width_of slots (rung_at ladder i)) (first_widths slots (i + 1) ladder) left_is next part_is new;
      whole = λ j m n w. elim (cases_eq (rung_at ladder j).place (rung_at ladder i).place) [
        | inl same ↦
            let up : supply_of slots ladder (price_of slots (rung_at ladder i).place +ℤ pos 1) ≤ℤ (least_of slots ladder +ℤ more) =
            subst (λ (k : ℕ). supply_of slots ladder (price_of slots k +ℤ pos 1) ≤ℤ (least_of slots ladder +ℤ more)) same w in
            let full : v ≡ (slot_at slots (rung_at ladder i).place).high = omega (arith, ints, clamps, up, whole_to slots ladder i fine a l, next, left_is, part_is, v_is) in
            subst (λ (k : ℕ). int_at (set xs (rung_at ladder i).place v) k ≡ (slot_at slots k).high) (sym same) (here ∙ full)
        | inr other ↦
            get_or-set_other xs (rung_at ladder i).place (rung_at ladder j).place v (pos 0) other
            ∙ h.whole j (before_it i j m (λ e. other (ap (λ (k : ℕ). (rung_at ladder k).place) e))) n w
      ];
      least = λ j n w. elim (cases_eq (rung_at ladder j).place (rung_at ladder i).place) [
        | inl same ↦
            let down : (least_of slots ladder +ℤ more) ≤ℤ supply_of slots ladder (price_of slots (rung_at ladder i).place) =
            subst (λ (k : ℕ). (least_of slots ladder +ℤ more) ≤ℤ supply_of slots ladder (price_of slots k)) same w in
            absurd (omega (arith, ints, down, least_from slots ladder i fine a l, left_is, some))
        | inr other ↦ get_or-set_other xs (rung_at ladder i).place (rung_at ladder j).place v (pos 0) other ∙ h.least j n w
      ];
      rest = λ j m n.
          get_or-set_other xs (rung_at ladder i).place (rung_at ladder j).place v (pos 0) (λ same. absurd (omega (arith, m, fine.once j i no_rung n l same))) ∙ h.rest j (omega (arith, m)) n;
      some = λ s. omega (arith, ints, clamps, some, part_is, new);
      total = omega (arith, ints, h.total, new, v_is, h.rest i (omega arith) l, sum_at_rung ladder xs i v l there (λ j m same. fine.once j i no_rung m l same));
    }

-- where nothing is left, the rungs that are left run whole only where their least is their greatest
rest_whole : (slots : List Slot) (ladder : List Rung) (more left : ℤ) (i j : ℕ) (xs : List ℤ) → IsMeritOrder slots ladder → AreInOrder slots ladder → AllZip IsWithinSlot slots xs
    → left ≤ℤ pos 0 → i ≤ j → j < length ladder → supply_of slots ladder (price_of slots (rung_at ladder j).place +ℤ pos 1) ≤ℤ (least_of slots ladder +ℤ more)
    → IsHalfway slots ladder more left i xs → int_at xs (rung_at ladder j).place ≡ (slot_at slots (rung_at ladder j).place).high
rest_whole slots ladder more left i j xs fine a within none le l w h =
    let out : more ≤ℤ first_widths slots i ladder = elim h.left_is [ inl e ↦ omega (arith, ints, e, none) | inr d ↦ d.1 ] in
    let next : first_widths slots (j + 1) ladder ≡ first_widths slots j ladder +ℤ width_of slots (rung_at ladder j) = int_sum_more (width_of slots) ladder j no_rung l in
    let x : IsWithinSlot (slot_at slots (rung_at ladder j).place) (int_at xs (rung_at ladder j).place) =
    AllZip-at IsWithinSlot slots xs (rung_at ladder j).place no_slot (pos 0) (fine.there j no_rung l) within in
    omega (arith, ints, out, next, w, whole_to slots ladder j fine a l, widths_rise slots i j ladder a le, x.least, x.most)

greatest_is : (slots : List Slot) (rs : List Rung) → greatest_of slots rs ≡ least_of slots rs +ℤ int_sum (width_of slots) rs
greatest_is slots [] = omega (arith, ints)
greatest_is slots (r ∷ rs) = omega (arith, ints, greatest_is slots rs)

none_left : (slots : List Slot) (ladder : List Rung) (more left : ℤ) (i : ℕ) → (i < length ladder → left ≤ℤ pos 0) → (least_of slots ladder +ℤ more) ≤ℤ greatest_of slots ladder
    → (left ≡ more -ℤ first_widths slots i ladder) ⊎ ((left ≡ pos 0) × (more ≤ℤ first_widths slots i ladder)) → left ≤ℤ pos 0
none_left slots ladder more left i none high is = elim (cases_lt i (length ladder)) [
  | inl b ↦ none b
  | inr b ↦
      let all : first_widths slots i ladder ≡ int_sum (width_of slots) ladder = ap (int_sum (width_of slots)) (take_all i ladder b) in
      elim is [ inl e ↦ omega (arith, ints, e, all, high, greatest_is slots ladder) | inr w ↦ omega (arith, ints, w.0) ]
]

-- nothing is left, or all have run
pub run_out : (slots : List Slot) (ladder : List Rung) (more left : ℤ) (i : ℕ) (xs : List ℤ) → IsMeritOrder slots ladder → AreInOrder slots ladder → AllZip IsWithinSlot slots xs
    → (i < length ladder → left ≤ℤ pos 0) → IsHalfway slots ladder more left i xs → IsByMerit slots ladder (least_of slots ladder +ℤ more) xs
run_out slots ladder more left i xs fine a within none h = record {
  whole = λ j d l. subst (λ (r : Rung). supply_of slots ladder (r.price +ℤ pos 1) ≤ℤ (least_of slots ladder +ℤ more) → int_at xs r.place ≡ (slot_at slots r.place).high)
      (get_or_default ladder j no_rung d l)
      (λ w.
      let up : supply_of slots ladder (price_of slots (rung_at ladder j).place +ℤ pos 1) ≤ℤ (least_of slots ladder +ℤ more) =
      subst (λ (p : ℤ). supply_of slots ladder (p +ℤ pos 1) ≤ℤ (least_of slots ladder +ℤ more)) (fine.price j no_rung l) w in
      elim (cases_lt j i) [ inl b ↦ h.whole j b l up | inr b ↦ rest_whole slots ladder more left i j xs fine a within (none (omega (arith, b, l))) b l up h ]);
  least = λ j d l. subst (λ (r : Rung). (least_of slots ladder +ℤ more) ≤ℤ supply_of slots ladder r.price → int_at xs r.place ≡ (slot_at slots r.place).low) (get_or_default ladder j no_rung d l)
      (λ w. h.least j l (subst (λ (p : ℤ). (least_of slots ladder +ℤ more) ≤ℤ supply_of slots ladder p) (fine.price j no_rung l) w));
  total = λ low high. omega (arith, ints, h.total, low, high, h.some (omega (arith, ints, low)), none_left slots ladder more left i none high h.left_is);
}

sum_of_least : (slots : List Slot) (ladder : List Rung) (xs : List ℤ) → All (λ (r : Rung). int_at xs r.place ≡ (slot_at slots r.place).low) ladder
    → int_sum (λ (r : Rung). int_at xs r.place) ladder ≡ least_of slots ladder
sum_of_least slots [] xs a = refl
sum_of_least slots (r ∷ rs) xs a =
    omega (
      arith,
      ints,
      All-head (λ (q : Rung). int_at xs q.place ≡ (slot_at slots q.place).low) r rs a,
      sum_of_least slots rs xs (All-tail (λ (q : Rung). int_at xs q.place ≡ (slot_at slots q.place).low) r rs a),
    )

-- before the first rung
pub none_yet : (slots : List Slot) (ladder : List Rung) (more : ℤ) (xs : List ℤ) → All (λ (r : Rung). int_at xs r.place ≡ (slot_at slots r.place).low) ladder → IsHalfway slots ladder more more 0 xs
none_yet slots ladder more xs low = record {
  left_is = inl (omega (arith, ints));
  whole = λ j l m w. absurd (omega (arith, l));
  least = λ j l w. low j no_rung l;
  rest = λ j m l. low j no_rung l;
  some = λ s. s;
  total = omega (arith, ints, sum_of_least slots ladder xs low);
}

pub ladder_in_order : (slots : List Slot) (ladder : List Rung) → All IsOrderRange slots → IsMeritOrder slots ladder → AreInOrder slots ladder
ladder_in_order slots ladder ranges fine j d l = (ranges (get_or ladder j d).place no_slot (fine.there j d l)).in_order
