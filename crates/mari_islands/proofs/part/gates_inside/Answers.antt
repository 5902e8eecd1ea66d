use Rattle.std.proofs.Common.{◌≡◌, ◌++◌, ◌∷◌, [], ◌<◌, ℕ, Bool, filter, length, slice_index, sym, ap, ◌∙◌, rules, arith}
use Rattle.std.specs.List.{range_with_len}
use Rattle.mari_islands.specs.Islands.{has_first}
use Rattle.mari_islands.proofs.Homes.{island_gates}
use Rattle.mari_islands.proofs.Numbers.{kept_more, kept_same}
use Rattle.mari_islands.proofs.Uniting.{home_there}
use Rattle.mari_islands.proofs.part.gates_inside.Goals as goal
use Rattle.mari_islands.proofs.part.gates_inside.Goals.{then-is_inside+in_ok-push, else-is_inside}

pub is_inside-requires : goal.is_inside-requires
is_inside-requires c =
    let m = c.args.market.now in
    let below : c.loop-gate.gate < length m.gates = omega (arith, c.loop-gate-test.true, ap length c.as_slice.ensures) in
    let there = home_there m c.args.homes.now c.requires.valid c.requires.homes c.loop-gate.gate below in
    omega (arith, there, c.requires.firsts.one_each)

pub loop-gate-preserved : goal.loop-gate-preserved
loop-gate-preserved c =
    let test : ℕ → Bool = λ g. has_first c.args.firsts.now c.args.first (slice_index c.args.homes.now g) in
    elim c.if-is_inside.branch [
      | then-is_inside+in_ok-push w ↦ rw w.gates-is (
          let pushed : w.push.new.self.items ≡ c.loop-gate.gates.items ++ c.loop-gate.gate ∷ [] = search rules in
          kept_more test c.loop-gate.gate c.loop-gate.gates.items w.push.new.self.items c.loop-gate.invariant (sym c.is_inside.ensures ∙ w.if-is_inside.true) pushed)
      | else-is_inside w ↦ rw w.gates-is (kept_same test c.loop-gate.gate c.loop-gate.gates.items c.loop-gate.invariant (sym c.is_inside.ensures ∙ w.if-is_inside.false))
    ]

pub returns : goal.returns
returns c =
    let m = c.args.market.now in
    let test : ℕ → Bool = λ g. has_first c.args.firsts.now c.args.first (slice_index c.args.homes.now g) in
    let all : c.loop-gate.gate ≡ length c.args.homes.now = omega (arith, c.loop-gate-test.false, ap length c.as_slice.ensures, c.requires.homes.one_each) in
    c.loop-gate.invariant ∙ ap (λ n. filter test (range_with_len 0 n)) all ∙ island_gates m c.args.firsts.now c.args.homes.now c.requires.valid c.requires.firsts c.requires.homes c.args.first
