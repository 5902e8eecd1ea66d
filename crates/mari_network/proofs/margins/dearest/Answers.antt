use Rattle.std.proofs.Common.{arith}
use Rattle.std.proofs.lemmas.Int.{ints}
use Rattle.mari_network.specs.Slots.{no_slot}
use Rattle.mari_network.proofs.Marginal.{above_from}
use Rattle.mari_network.proofs.margins.dearest.Goals as goal

pub returns-clause-dearest : goal.returns-clause-dearest
returns-clause-dearest c = record {
  one = λ i e. let s = c.loop-zone.invariant.some i e in (s.1, omega (arith, s.2), s.3, s.4);
  all = λ z i l m e.
      let most = c.loop-zone.invariant.all z i (omega (arith, l, c.loop-zone-test.false)) m e in
      let small = c.requires.small i no_slot (c.requires.there z i l e) in
      above_from c.args.slots.now _ c.loop-zone.best
      (λ none. omega (arith, ints, most, small.cheap, c.loop-zone.invariant.none none))
      (λ j f. let s = c.loop-zone.invariant.some j f in omega (arith, ints, most, s.0));
}
