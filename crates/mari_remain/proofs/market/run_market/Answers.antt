use Rattle.std.proofs.Common.{◌≡◌, ℕ, Bool, arith, length, refl}
use Rattle.mari_remain.specs.Available.{is_available}
use Rattle.mari_remain.specs.FirstBlocks.{taken_in}
use Rattle.mari_remain.specs.RunMarket.{demands_of_run}
use Rattle.mari_remain.proofs.Choosing.{few-chosen}
use Rattle.mari_remain.proofs.Validity.{few, small}
use Rattle.mari_remain.proofs.market.run_market.Goals as goal

pub with_demands-requires : goal.with_demands-requires
with_demands-requires c = rw (c.deref-2.ensures.value, c.in_ok-demands.ensures) (small c.args.books.now c.requires.accepted c.args.run)

pub gates_of-requires : goal.gates_of-requires
gates_of-requires c =
    let run = c.run_entry-entry.result in
    let avail : ℕ → Bool = is_available c.args.books.now (taken_in c.args.books.now c.args.remaining.now run.quarter) run in
    rw c.deref.ensures.value
    (few-chosen c.args.books.now avail run.quarter c.in_ok-choice.choice.numbers.items c.in_ok-choice.choice.gated.items c.requires.accepted c.in_ok-choice.ensures.numbers
    c.in_ok-choice.ensures.gated)

pub overflow_cast-result : goal.overflow_cast-result
overflow_cast-result c =
    let count : length c.in_ok-demands.demands.items ≡ length (demands_of_run c.args.books.now.demands.demands c.args.run) = rw c.in_ok-demands.ensures refl in
    omega (arith, few c.args.books.now c.requires.accepted c.args.run, count, c.len-2.ensures)
