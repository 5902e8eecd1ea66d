use Rattle.std.proofs.Common.{◌≡◌, ◌<◌, ◌∙◌, ℕ, List, length, get_or, slice_index, Some, arith, ap, subst, sym}
use Rattle.std.proofs.lemmas.Option.{same_Some}
use Rattle.mari_market.specs.declared.market.GateInfo.{GateInfo}
use Rattle.mari_market.specs.Gates.{parent_of}
use Rattle.mari_islands.specs.Uniting.{AreUnited}
use Rattle.mari_gates.proofs.Decisions.{parent_at}
use Rattle.mari_islands.proofs.Homes.{no_info}
use Rattle.mari_islands.proofs.Uniting.{home_there, mate_joined, mate_there, parent_joined, parent_there}
use Rattle.mari_islands.proofs.firsts.unite_gate.Goals as goal

pub unite_joined-requires-clause-zone : goal.unite_joined-requires-clause-zone
unite_joined-requires-clause-zone c = home_there c.args.market.now c.args.homes.now c.requires.valid c.requires.homes c.args.gate c.requires.there

pub unite_joined-requires-clause-other : goal.unite_joined-requires-clause-other
unite_joined-requires-clause-other c = mate_there c.args.market.now c.args.mates.now c.requires.valid c.requires.mates c.args.gate c.requires.there

pub unite_joined-requires-clause-joined : goal.unite_joined-requires-clause-joined
unite_joined-requires-clause-joined c = mate_joined c.args.market.now c.args.homes.now c.args.mates.now c.requires.homes c.requires.mates c.args.gate c.requires.there

named_parent : (gates lent : List GateInfo) (g h : ℕ) → lent ≡ gates → g < length gates → (get_or lent g no_info).parent ≡ Some h → parent_of gates g ≡ Some h
named_parent gates lent g h same l e = parent_at gates g no_info l ∙ ap (λ (xs : List GateInfo). (get_or xs g no_info).parent) (sym same) ∙ e

pub bounds-homes-parent : goal.bounds-homes-parent
bounds-homes-parent c =
    let m = c.args.market.now in
    let e = named_parent m.gates c.as_slice.result.now c.args.gate c.in-Some.parent c.as_slice.ensures c.requires.there c.in-Some.is in
    omega (arith, parent_there m c.requires.valid c.args.gate c.in-Some.parent c.requires.there e, c.requires.homes.one_each)

pub unite_joined-requires-in-Some-clause-zone : goal.unite_joined-requires-in-Some-clause-zone
unite_joined-requires-in-Some-clause-zone c = home_there c.args.market.now c.args.homes.now c.requires.valid c.requires.homes c.args.gate c.requires.there

pub unite_joined-requires-in-Some-clause-other : goal.unite_joined-requires-in-Some-clause-other
unite_joined-requires-in-Some-clause-other c =
    let m = c.args.market.now in
    let e = named_parent m.gates c.as_slice.result.now c.args.gate c.in-Some.parent c.as_slice.ensures c.requires.there c.in-Some.is in
    home_there m c.args.homes.now c.requires.valid c.requires.homes c.in-Some.parent (parent_there m c.requires.valid c.args.gate c.in-Some.parent c.requires.there e)

pub unite_joined-requires-in-Some-clause-joined : goal.unite_joined-requires-in-Some-clause-joined
unite_joined-requires-in-Some-clause-joined c =
    let m = c.args.market.now in
    let e = named_parent m.gates c.as_slice.result.now c.args.gate c.in-Some.parent c.as_slice.ensures c.requires.there c.in-Some.is in
    parent_joined m c.args.homes.now c.requires.valid c.requires.homes c.args.gate c.in-Some.parent c.requires.there e

pub returns-in-Some-clause-united : goal.returns-in-Some-clause-united
returns-in-Some-clause-united c =
    let m = c.args.market.now in
    let homes = c.args.homes.now in
    let mids = c.unite_joined.new.firsts in
    let news = c.unite_joined-in-Some.new.firsts in
    let e : parent_of m.gates c.args.gate ≡ Some c.in-Some.parent = named_parent m.gates c.as_slice.result.now c.args.gate c.in-Some.parent c.as_slice.ensures c.requires.there c.in-Some.is in
    let home : slice_index homes c.args.gate < length mids = omega (arith, home_there m homes c.requires.valid c.requires.homes c.args.gate c.requires.there, c.unite_joined.ensures.sound.one_each) in
    let mate : slice_index c.args.mates.now c.args.gate < length mids =
    omega (arith, mate_there m c.args.mates.now c.requires.valid c.requires.mates c.args.gate c.requires.there, c.unite_joined.ensures.sound.one_each) in
    record {
      group = c.unite_joined-in-Some.ensures.stay (slice_index homes c.args.gate) (slice_index c.args.mates.now c.args.gate) home mate c.unite_joined.ensures.united;
      parent = λ h is. subst (λ (p : ℕ). AreUnited news (slice_index homes c.args.gate) (slice_index homes p)) (same_Some c.in-Some.parent h (sym e ∙ is)) c.unite_joined-in-Some.ensures.united;
    }
