use Rattle.std.proofs.Common.{◌≡◌, ◌∙◌, ◌+◌, ◌++◌, ◌∷◌, [], ℕ, List, Option, Some, None, true, false, get_or, take, refl, sym, rules}
use Rattle.std.specs.List.{list_any}
use Rattle.std.proofs.lemmas.List.{get_or_default}
use Rattle.mari_blocks.specs.Joint.{gates_among, is_same_gate, own_gate}
use Rattle.mari_blocks.specs.declared.gates.JointGate.{JointGate}
use Rattle.mari_blocks.proofs.OwnGates.{gates-more, gates-same}
use Rattle.mari_blocks.proofs.Ranges.{take-more}
use Rattle.mari_blocks.proofs.gates.gates_among.Goals as goal
use Rattle.mari_blocks.proofs.gates.gates_among.Goals.{in-Some+then-not-is_among+in_ok-push, in-Some+else-not-is_among, in_default}

pub loop-bid-preserved : goal.loop-bid-preserved
loop-bid-preserved c =
    let books = c.args.books.now in
    let blocks = c.args.blocks.now in
    let numbers = c.args.numbers.now in
    let k = c.loop-bid.bid-index in
    let before : List ℕ = take k numbers in
    let bid : ℕ = get_or numbers k 0 in
    let gates : List JointGate = c.loop-bid.gates.items in
    let own : ℕ → Option JointGate = own_gate books blocks in
    let longer : take (k + 1) numbers ≡ before ++ bid ∷ [] = take-more numbers k bid c.loop-bid-test.true (get_or_default numbers k 0 bid c.loop-bid-test.true) in
    let so_far : gates ≡ gates_among books blocks before = c.loop-bid.invariant in
    elim c.match-own_gate.branch [
      | in-Some+then-not-is_among+in_ok-push w ↦ (
          let is : own bid ≡ Some w.in-Some.gate = sym c.own_gate.ensures ∙ w.in-Some.is in
          let new : list_any (is_same_gate w.in-Some.gate) (gates_among books blocks before) ≡ false = rw (w.deref.ensures.value, so_far) at (sym w.is_among.ensures ∙ w.if-not-is_among.true) in
          let pushed : w.push.new.self.items ≡ gates ++ w.in-Some.gate ∷ [] = search rules in
          rw (w.gates-is, pushed, longer, so_far) (sym (gates-more own before bid w.in-Some.gate is ∙ rw new refl)))
      | in-Some+else-not-is_among w ↦ (
          let is : own bid ≡ Some w.in-Some.gate = sym c.own_gate.ensures ∙ w.in-Some.is in
          let old : list_any (is_same_gate w.in-Some.gate) (gates_among books blocks before) ≡ true = rw (w.deref.ensures.value, so_far) at (sym w.is_among.ensures ∙ w.if-not-is_among.false) in
          rw (w.gates-is, longer, so_far) (sym (gates-more own before bid w.in-Some.gate is ∙ rw old refl)))
      | in_default w ↦ (
          let none : c.own_gate.result ≡ None = search rules in
          rw (w.gates-is, longer, so_far) (sym (gates-same own before bid (sym c.own_gate.ensures ∙ none))))
    ]
