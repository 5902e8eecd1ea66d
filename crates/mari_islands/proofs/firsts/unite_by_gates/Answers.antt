use Rattle.std.proofs.Common.{◌<◌, length, subst, sym, arith, inl, inr}
use Rattle.std.proofs.lemmas.Bool.{cases_eq}
use Rattle.mari_islands.specs.Uniting.{UnitesGate}
use Rattle.mari_islands.proofs.Uniting.{gate_stays, stays_on}
use Rattle.mari_islands.proofs.firsts.unite_by_gates.Goals as goal

pub loop-gate-preserved : goal.loop-gate-preserved
loop-gate-preserved c =
    let m = c.args.market.now in
    let homes = c.args.homes.now in
    let mates = c.args.mates.now in
    let olds = c.loop-gate.firsts in
    let news = c.unite_gate.new.firsts in
    let inv = c.loop-gate.invariant in
    record {
      sound = c.unite_gate.ensures.sound;
      united = λ g l. elim (cases_eq g c.loop-gate.gate) [
        | inl same ↦ subst (UnitesGate m.gates homes mates news) (sym same) c.unite_gate.ensures.united
        | inr other ↦ (let before : g < c.loop-gate.gate = omega (arith, l, other) in
            let there : g < length m.gates = omega (arith, before, c.loop-gate-test.true, c.requires.homes.one_each) in
            gate_stays m homes c.requires.valid c.requires.homes olds news inv.sound c.unite_gate.ensures.stay mates c.requires.mates g there (inv.united g before))
      ];
      stay = stays_on c.args.firsts.now olds news c.loop-gate.auto.firsts inv.stay c.unite_gate.ensures.stay;
    }

pub returns-clause-united : goal.returns-clause-united
returns-clause-united c = λ g l. c.loop-gate.invariant.united g (omega (arith, l, c.loop-gate-test.false, c.requires.homes.one_each))
