use Rattle.std.proofs.Common.{◌≡◌, ◌<◌, ◌≢◌, ℕ, [], ◌∷◌, length, get_or, set, map, sym, ap, ◌∙◌, arith, subst, inl, inr, Vec, Global}
use Rattle.std.proofs.lemmas.Bool.{cases_eq}
use Rattle.std.proofs.lemmas.List.{get_or_append_left, get_or_push, get_or-set_same, get_or-set_other, length-set}
use Rattle.std.proofs.lemmas.List.Sorted.{IsPermutation-map}
use Rattle.mari_network.specs.declared.network.Rung.{Rung}
use Rattle.mari_network.specs.Network.{AreRungs, IsLadder}
use Rattle.mari_network.specs.Words.{rung_in}
use Rattle.mari_network.proofs.Rungs.{rungs_moved}
use Rattle.mari_network.proofs.network.ladders_of.Goals as goal

pub loop-zone-preserved : goal.loop-zone-preserved
loop-zone-preserved c =
    let slots = c.args.slots.now in
    let n = c.args.on_ladders in
    let zone = c.loop-zone.zone in
    let old = c.loop-zone.words.items in
    let new = c.ladder_of.new.words in
    let ladder = c.in_ok-ladder_of.field-0 in
    let ladders = c.loop-zone.ladders.items in
    let there : zone < length old = omega (arith, c.loop-zone.invariant.long) in
    let here : (d : Vec ℕ Global) → get_or (set old zone new) zone d ≡ new = λ d. get_or-set_same old zone new d there in
    let others : (z : ℕ) (d : Vec ℕ Global) → z ≢ zone → get_or (set old zone new) z d ≡ get_or old z d = λ z d other. get_or-set_other old zone z new d other in
    let before : AreRungs slots n zone (map rung_in c.index_mut.result.now.items) =
    subst (λ (v : Vec ℕ Global). AreRungs slots n zone (map rung_in v.items)) (sym c.index_mut.ensures.value) (c.loop-zone.invariant.rungs zone c.index_mut.result.now (omega arith)) in
    let moved : AreRungs slots n zone (map rung_in new.items) =
    rungs_moved slots n zone _ _ (IsPermutation-map rung_in c.index_mut.result.now.items new.items c.in_ok-ladder_of.ensures.words) before in
    let one : IsLadder slots n zone ladder.items = record { rungs = rungs_moved slots n zone _ _ c.in_ok-ladder_of.ensures.same before; rising = c.in_ok-ladder_of.ensures.rising } in
    record {
      long = length-set old zone new ∙ c.loop-zone.invariant.long;
      as_many = omega (arith, c.in_ok-push.ensures.len, c.loop-zone.invariant.as_many);
      rungs = λ z d l. elim (cases_eq z zone) [
        | inl e ↦ subst (λ (k : ℕ). AreRungs slots n k (map rung_in (get_or (set old zone new) k d).items)) (sym e)
            (subst (λ (v : Vec ℕ Global). AreRungs slots n zone (map rung_in v.items)) (sym (here d)) moved)
        | inr other ↦ subst (λ (v : Vec ℕ Global). AreRungs slots n z (map rung_in v.items)) (sym (others z d other)) (c.loop-zone.invariant.rungs z d l)
      ];
      done = λ z d l. elim (cases_eq z zone) [
        | inl e ↦
            let last : get_or c.push.new.self.items zone d ≡ ladder = ap (λ vs. get_or vs zone d) c.in_ok-push.ensures.items ∙ get_or_push ladders ladder d zone c.loop-zone.invariant.as_many in
            subst (λ (k : ℕ). IsLadder slots n k (get_or c.push.new.self.items k d).items) (sym e) (subst (λ (v : Vec Rung Global). IsLadder slots n zone v.items) (sym last) one)
        | inr other ↦
            let earlier : z < length ladders = omega (arith, other, l, c.loop-zone.invariant.as_many) in
            let kept : get_or c.push.new.self.items z d ≡ get_or ladders z d = ap (λ vs. get_or vs z d) c.in_ok-push.ensures.items ∙ get_or_append_left ladders (ladder ∷ []) d z earlier in
            subst (λ (v : Vec Rung Global). IsLadder slots n z v.items) (sym kept) (c.loop-zone.invariant.done z d (omega (arith, other, l)))
      ];
    }

pub returns-clause-ladders : goal.returns-clause-ladders
returns-clause-ladders c = λ z d l. c.loop-zone.invariant.done z d (omega (arith, l, c.loop-zone-test.false))
