-- Supply curves say what the slots of a ladder put in.
use Rattle.std.proofs.Common.{◌≡◌, if◌then◌else◌, Bool, true, false, ℕ, ◌+◌, ◌-◌, ◌<◌, ◌≤◌, ℤ, pos, ◌+ℤ◌, ◌-ℤ◌, ◌≤ℤ◌, ◌<ℤ◌, List, [], ◌∷◌, ◌++◌, length, take, get_or, arith, ap, refl, sym, ◌∙◌, subst, Some}
use Rattle.std.proofs.lemmas.Int.{ints}
use Rattle.std.proofs.lemmas.List.{take_more}
use Rattle.std.proofs.lemmas.List.Elements.{All-pop, All-push}
use Rattle.std.specs.List.{All}
use lib.Signed.{lt_z}
use Rattle.mari_network.specs.declared.network.Rung.{Rung}
use Rattle.mari_network.specs.declared.slots.Slot.{Slot}
use Rattle.mari_network.specs.Network.{no_rung, rung_at}
use Rattle.mari_network.specs.Slots.{price_of, slot_at}
use Rattle.mari_market.proofs.Moved.{sum_push}
use Rattle.mari_market.proofs.Rising.{if_less, last_below_first, last_below_push, last_of, less, rises_on, rises_to}
use Rattle.mari_paths.specs.declared.curves.CurveStep.{CurveStep}
use Rattle.mari_paths.specs.Merit.{least_of, more_below, run_at, supply_of, AreRising, IsMeritOrder}

-- what is read past the end of a list of steps
abbrev pub no_step : CurveStep
no_step = record { price = pos 0; more = pos 0 }

-- the first n steps are those that cost less: a zone puts in its least and what the last of those adds
pub supply_first : (n : ℕ) (p q least : ℤ) (steps ss : List CurveStep) → steps ≡ ss → q ≡ p → n ≤ length steps
    → ((k : ℕ) (d : CurveStep) → k < n → (get_or steps k d).price <ℤ q)
    → ((k : ℕ) (d : CurveStep) → n ≤ k → k < length steps → q ≤ℤ (get_or steps k d).price)
    → least +ℤ last_of (λ (s : CurveStep). s.more) n (pos 0) steps no_step ≡ least +ℤ more_below p (pos 0) ss
supply_first n p q least steps ss e f l below rest =
    ap (λ (x : ℤ). least +ℤ x) (sym (last_below_first (λ (s : CurveStep). s.price) (λ (s : CurveStep). s.more) n q (pos 0) steps no_step l below rest))
    ∙ ap (λ (x : ℤ). least +ℤ more_below x (pos 0) steps) f
    ∙ ap (λ (xs : List CurveStep). least +ℤ more_below p (pos 0) xs) e

-- the steps of a ladder's rungs, with the sums so far
pub record AreStepsOf (slots : List Slot) (ladder : List Rung) (base sum : ℤ) (steps : List CurveStep) : Type 0 where
  pub rising : AreRising steps
  pub cheap : (p : ℤ) → All (λ (r : Rung). r.price ≤ℤ p) ladder → All (λ (s : CurveStep). s.price ≤ℤ p) steps
  pub base_is : base ≡ least_of slots ladder
  pub sum_is : (p : ℤ) → All (λ (s : CurveStep). s.price <ℤ p) steps → more_below p (pos 0) steps ≡ sum
  pub supply : (p : ℤ) → base +ℤ more_below p (pos 0) steps ≡ supply_of slots ladder p

-- what one slot more puts in, by whether it is cheaper than the price
slot_more : (b : Bool) (base low high sum more below supply new_base new_below : ℤ) → new_base ≡ base +ℤ low → more ≡ sum +ℤ (high -ℤ low) → base +ℤ below ≡ supply
    → (b ≡ true → below ≡ sum) → new_below ≡ (if b then more else below) → new_base +ℤ new_below ≡ supply +ℤ (if b then high else low)
slot_more true base low high sum more below supply new_base new_below e m s h n = omega (arith, ints, e, m, s, h refl, n)
slot_more false base low high sum more below supply new_base new_below e m s h n = omega (arith, ints, e, m, s, n)

at_price : (a b p x y : ℤ) → a ≡ b → (if lt_z a p then x else y) ≡ (if lt_z b p then x else y)
at_price a b p x y e = ap (λ (v : ℤ). if lt_z v p then x else y) e

-- one rung more
steps_more : (slots : List Slot) (before : List Rung) (r : Rung) (base sum new_base : ℤ) (steps new : List CurveStep) (s : CurveStep)
    → r.price ≡ price_of slots r.place → All (λ (q : Rung). q.price ≤ℤ r.price) before → s.price ≡ r.price
    → new ≡ steps ++ s ∷ [] → new_base ≡ base +ℤ (slot_at slots r.place).low → s.more ≡ sum +ℤ ((slot_at slots r.place).high -ℤ (slot_at slots r.place).low)
    → AreStepsOf slots before base sum steps → AreStepsOf slots (before ++ r ∷ []) new_base s.more new
steps_more slots before r base sum new_base steps new s price up same is base_is more_is a =
    subst (λ (ss : List CurveStep). AreStepsOf slots (before ++ r ∷ []) new_base s.more ss) (sym is) (record {
      rising = rises_on (λ (t : CurveStep). t.price) steps s a.rising (λ k d l. omega (arith, ints, same, a.cheap r.price up k d l));
      cheap = λ p h. All-push (λ (t : CurveStep). t.price ≤ℤ p) steps s (a.cheap p (All-pop (λ (q : Rung). q.price ≤ℤ p) (before ++ r ∷ []) before (Some r) refl h).0)
          (omega (arith, ints, same, (All-pop (λ (q : Rung). q.price ≤ℤ p) (before ++ r ∷ []) before (Some r) refl h).1));
      base_is = omega (arith, ints, base_is, a.base_is, sum_push (λ (q : Rung). (slot_at slots q.place).low) before r);
      sum_is = λ p h. last_below_push (λ (t : CurveStep). t.price) (λ (t : CurveStep). t.more) p (pos 0) steps s
          ∙ if_less s.price p s.more (more_below p (pos 0) steps) (All-pop (λ (t : CurveStep). t.price <ℤ p) (steps ++ s ∷ []) steps (Some s) refl h).1;
      supply = λ p.
          slot_more (lt_z (slot_at slots r.place).price p) base (slot_at slots r.place).low (slot_at slots r.place).high sum s.more (more_below p (pos 0) steps) (supply_of slots before p) new_base
          (more_below p (pos 0) (steps ++ s ∷ []))
          base_is more_is (a.supply p) (λ e. a.sum_is p (λ k d l. omega (arith, ints, price, less (slot_at slots r.place).price p e, a.cheap r.price up k d l)))
          (last_below_push (λ (t : CurveStep). t.price) (λ (t : CurveStep). t.more) p (pos 0) steps s
          ∙ at_price s.price (slot_at slots r.place).price p s.more (more_below p (pos 0) steps) (same ∙ price))
          ∙ sym (sum_push (λ (q : Rung). run_at p (slot_at slots q.place)) before r);
    })

pub steps_more_at : (slots : List Slot) (ladder : List Rung) (i : ℕ) (base sum new_base : ℤ) (steps new : List CurveStep) (s : CurveStep)
    → i < length ladder → IsMeritOrder slots ladder → s.price ≡ (rung_at ladder i).price → new ≡ steps ++ s ∷ []
    → new_base ≡ base +ℤ (slot_at slots (rung_at ladder i).place).low
    → s.more ≡ sum +ℤ ((slot_at slots (rung_at ladder i).place).high -ℤ (slot_at slots (rung_at ladder i).place).low)
    → AreStepsOf slots (take i ladder) base sum steps → AreStepsOf slots (take (i + 1) ladder) new_base s.more new
steps_more_at slots ladder i base sum new_base steps new s l fine same is base_is more_is a =
    subst (λ (rs : List Rung). AreStepsOf slots rs new_base s.more new) (sym (take_more ladder i no_rung l))
    (steps_more slots (take i ladder) (rung_at ladder i) base sum new_base steps new s (fine.price i no_rung l)
    (rises_to (λ (q : Rung). q.price) ladder i no_rung fine.rising l) same is base_is more_is a)
