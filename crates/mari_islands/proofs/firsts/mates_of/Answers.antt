use Rattle.std.proofs.Common.{◌≡◌, ◌<◌, ◌∙◌, ◌+◌, ℕ, List, Option, length, get_or, slice_index, subst, sym, ap, arith}
use Rattle.std.specs.BTreeMap.{get}
use Rattle.std.specs.Ordering.{nat_cmp}
use Rattle.mari_market.specs.declared.market.GateInfo.{GateInfo}
use Rattle.mari_market.specs.Gates.{group_of}
use Rattle.mari_islands.specs.Uniting.{KeepsMates}
use Rattle.mari_gates.proofs.Decisions.{group_at}
use Rattle.mari_islands.proofs.Homes.{AreMatesOf, mates_done, mates_more, no_info}
use Rattle.mari_islands.proofs.firsts.mates_of.Goals as goal

pub loop-gate-preserved : goal.loop-gate-preserved
loop-gate-preserved c =
    let m = c.args.market.now in
    let homes = c.args.homes.now in
    let n = c.loop-gate.gate in
    let l : n < length m.gates = omega (arith, c.loop-gate-test.true, c.requires.one_each) in
    let group : (get_or c.as_slice-gates.result.now n no_info).group ≡ group_of m.gates n =
    ap (λ (xs : List GateInfo). (get_or xs n no_info).group) c.as_slice-gates.ensures ∙ sym (group_at m.gates n no_info l) in
    let old : ℕ → Option ℕ = get nat_cmp c.loop-gate.groups in
    let new : ℕ → Option ℕ = get nat_cmp c.mate_of.new.groups in
    let keeps : KeepsMates old new (group_of m.gates n) (slice_index homes n) c.in_ok-mate.mate =
    subst (λ (g : Option ℕ). KeepsMates old new g (slice_index homes n) c.in_ok-mate.mate) group c.in_ok-mate.ensures in
    subst (AreMatesOf m (n + 1) new) (sym c.in_ok-push.ensures.items) (mates_more m homes c.requires n l old new c.loop-gate.mates.items c.in_ok-mate.mate c.loop-gate.invariant keeps)

pub returns : goal.returns
returns c =
    let m = c.args.market.now in
    let all : c.loop-gate.gate ≡ length m.gates = omega (arith, c.loop-gate-test.false, c.loop-gate.auto.gate-end, c.requires.one_each) in
    mates_done m (get nat_cmp c.loop-gate.groups) c.loop-gate.mates.items (subst (λ (n : ℕ). AreMatesOf m n (get nat_cmp c.loop-gate.groups) c.loop-gate.mates.items) all c.loop-gate.invariant)
