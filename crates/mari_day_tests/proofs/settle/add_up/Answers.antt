use Rattle.std.proofs.Common.{arith, ◌≡◌, length, ap, sym, ◌∙◌}
use Rattle.mari_settle.specs.Conditions.{most_of_run}
use Rattle.mari_settle.proofs.Sizes.{ledgers_add_up}
use Rattle.mari_day_tests.proofs.settle.add_up.Goals as goal

pub add-requires : goal.add-requires
add-requires c =
    let a = c.args.sum.now in
    let b = c.args.other.now in
    let os : length a.operators ≡ length b.operators = sym (ap length c.as_slice.ensures) ∙ c.if-as_slice.true ∙ ap length c.as_slice-2.ensures in
    let ps : length a.providers ≡ length b.providers = sym (ap length c.as_slice-then-as_slice.ensures) ∙ c.if-as_slice-2.true ∙ ap length c.as_slice-then-as_slice-2.ensures in
    let rs : length a.rents ≡ length b.rents = sym (ap length c.as_slice-then-as_slice-2-2.ensures) ∙ c.if-as_slice-3.true ∙ ap length c.as_slice-then-as_slice-2-3.ensures in
    ledgers_add_up most_of_run most_of_run _ b (omega arith) os ps rs c.requires.sum c.requires.other
