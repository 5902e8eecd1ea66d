use Rattle.std.proofs.Common.{◌≡◌, ◌<◌, ◌≤◌, ◌+◌, ◌++◌, ◌-◌, ◌∙◌, ℕ, List, length, take, drop, arith, sym, ap, inl, inr}
use Rattle.std.proofs.lemmas.List.{ext_get_or, get_or-take, length-drop, length-take-le}
use Rattle.std.proofs.Math.ListN.{drop_of_length-le}
use Rattle.mari_network.specs.declared.slots.Slot.{Slot}
use Rattle.mari_network.specs.Slots.{no_slot, slot_at}
use borrow.Rule.Slice.PartMut.{mid_of, post_of, put_mid, put_same}
use Rattle.mari_paths.proofs.changes.put_back.Goals as goal

-- the end of a list put back where its front is the same
end_put_back : (a k : ℕ) (xs ys before : List Slot) → length xs ≡ length before → length before ≤ a + k → take a xs ≡ take a before → ys ≡ mid_of a k before → put_mid a k xs ys ≡ before
end_put_back a k xs ys before long all front back =
    let none : post_of a k xs ≡ post_of a k before =
    drop_of_length-le (drop a xs) (omega (arith, length-drop a xs, long, all)) ∙ sym (drop_of_length-le (drop a before) (omega (arith, length-drop a before, all))) in
    ap (λ (t : List Slot). t ++ (ys ++ post_of a k xs)) front ∙ ap (λ (t : List Slot). take a before ++ (t ++ post_of a k xs)) back
    ∙ ap (λ (t : List Slot). take a before ++ (mid_of a k before ++ t)) none ∙ put_same a k before

pub returns : goal.returns
returns c =
    let each : (k : ℕ) → k < c.args.orders → slot_at c.loop-place.slots k ≡ slot_at c.args.before.now k = λ k l.
    elim (c.loop-place.invariant.rest k l) [
      | inl h ↦ absurd (omega (arith, h.1, h.2, c.loop-place-test.false))
      | inr h ↦ h
    ] in
    let long : length (take c.args.orders c.loop-place.slots) ≡ c.args.orders = length-take-le c.args.orders c.loop-place.slots (omega (arith, c.loop-place.invariant.lengths, c.requires.few)) in
    let same_long : length (take c.args.orders c.args.before.now) ≡ c.args.orders = length-take-le c.args.orders c.args.before.now c.requires.few in
    let front : take c.args.orders c.loop-place.slots ≡ take c.args.orders c.args.before.now =
    ext_get_or no_slot (take c.args.orders c.loop-place.slots) (take c.args.orders c.args.before.now) (long ∙ sym same_long)
    (λ k l. let there : k < c.args.orders = omega (arith, long, l) in
    get_or-take c.args.orders c.loop-place.slots k no_slot there ∙ each k there ∙ sym (get_or-take c.args.orders c.args.before.now k no_slot there)) in
    let back : c.copy_from_slice.new.self ≡ mid_of c.args.orders (length c.loop-place.slots - c.args.orders) c.args.before.now =
    c.copy_from_slice.ensures.after ∙ ap (λ (n : ℕ). mid_of c.args.orders (n - c.args.orders) c.args.before.now) (sym c.loop-place.invariant.lengths) in
    end_put_back c.args.orders (length c.loop-place.slots - c.args.orders) c.loop-place.slots c.copy_from_slice.new.self c.args.before.now c.loop-place.invariant.lengths
    (omega (arith, c.loop-place.invariant.lengths, c.requires.few)) front back
