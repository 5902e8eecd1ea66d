use Rattle.std.proofs.Common.{◌≡◌, ◌<◌, ◌+◌, ◌++◌, ◌∷◌, [], ℕ, List, get_or, map, sym, ap, ◌∙◌, arith, subst, inl, inr, Vec, Global}
use Rattle.std.proofs.lemmas.Bool.{cases_eq}
use Rattle.mari_network.specs.declared.network.Rung.{Rung}
use Rattle.mari_network.specs.Slots.{zone_of}
use Rattle.mari_network.specs.Network.{rung_of, AreRungs}
use Rattle.mari_network.specs.Words.{rung_in}
use Rattle.mari_network.proofs.Rungs.{rungs_take, rungs_skip}
use Rattle.mari_network.proofs.Words.{one_more_word}
use Rattle.mari_network.proofs.network.words_by_zone.Goals as goal

pub loop-place-preserved : goal.loop-place-preserved
loop-place-preserved c =
    let slots = c.args.slots.now in
    let place = c.loop-place.place in
    let before = c.loop-place.words.items in
    let after = c.add_to.new.lists.items in
    record {
      long = c.add_to.ensures.long ∙ c.loop-place.invariant.long;
      rungs = λ z d l. elim (cases_eq z (zone_of slots place)) [
        | inl e ↦
            let new : map rung_in (get_or after z d).items ≡ map rung_in (get_or before (zone_of slots place) d).items ++ rung_of slots place ∷ [] =
            ap (λ (k : ℕ). map rung_in (get_or after k d).items) e
            ∙ ap (map rung_in) (c.in_ok-add_to.ensures.here d d) ∙ one_more_word (get_or before (zone_of slots place) d).items c.word_of.result (rung_of slots place) c.word_of.ensures in
            let there : zone_of slots place < c.args.zones = subst (λ (k : ℕ). k < c.args.zones) e l in
            subst (λ (rs : List Rung). AreRungs slots (place + 1) z rs) (sym new)
            (rungs_take slots place z (map rung_in (get_or before (zone_of slots place) d).items) (sym e)
            (subst (λ (k : ℕ). AreRungs slots place k (map rung_in (get_or before (zone_of slots place) d).items)) (sym e) (c.loop-place.invariant.rungs (zone_of slots place) d there)))
        | inr n ↦ subst (λ (x : Vec ℕ Global). AreRungs slots (place + 1) z (map rung_in x.items)) (sym (c.add_to.ensures.others z d n))
            (rungs_skip slots place z (map rung_in (get_or before z d).items) (λ e. n (sym e)) (c.loop-place.invariant.rungs z d l))
      ];
    }

pub returns-clause-rungs : goal.returns-clause-rungs
returns-clause-rungs c = λ z d l.
    let end : c.loop-place.place ≡ c.args.on_ladders = omega (arith, c.loop-place-test.false, c.loop-place.auto.place-end) in
    subst (λ (n : ℕ). AreRungs c.args.slots.now n z (map rung_in (get_or c.loop-place.words.items z d).items)) end (c.loop-place.invariant.rungs z d l)
