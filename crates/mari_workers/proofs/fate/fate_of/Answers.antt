use Rattle.std.proofs.Common.{◌≡◌, ◌-◌, ◌<◌, ◌≤◌, ℕ, pos, subst, arith, false, length, ap, sym}
use Rattle.std.proofs.lemmas.Bool.Decides.{nat_tests}
use Rattle.std.proofs.lemmas.Bool.{eqb-true}
use Rattle.mari_market.specs.Prefix.{word_of}
use Rattle.mari_gates.proofs.Decisions.{length-decisions}
use Rattle.mari_gates.proofs.WaitingWords.{length_feasible}
use Rattle.mari_workers.specs.Refine.{IsFate}
use Rattle.mari_workers.proofs.Fates.{found_fate, low_stays}
use Rattle.mari_workers.proofs.TreeWalks.{early_above}
use Rattle.mari_workers.proofs.fate.fate_of.Goals as goal
use lib.Dec.{eqb}

pub comes_before-requires-clause-few : goal.comes_before-requires-clause-few
comes_before-requires-clause-few c = omega (arith, length_feasible c.args.market.now c.args.aim.now.word c.requires.aim.word, c.requires.market.few_gates)

pub overflow_sub-most : goal.overflow_sub-most
overflow_sub-most c = omega (arith, early_above c.args.market.now c.args.aim.now (word_of c.args.prefix.now) c.requires.aim (c.comes_before.ensures.0 c.if-not-comes_before.false))

pub still_holds-requires-clause-held : goal.still_holds-requires-clause-held
still_holds-requires-clause-held c = (pos c.args.aim.now.welfare, c.requires.leaf)

pub returns-then-still_holds : goal.returns-then-still_holds
returns-then-still_holds c =
    let m = c.args.market.now in
    let w = c.args.aim.now.welfare in
    let word = word_of c.args.prefix.now in
    let some = early_above m c.args.aim.now word c.requires.aim (c.comes_before.ensures.0 c.if-not-comes_before.false) in
    low_stays m w (w - 1) (word_of c.args.aim.now.word) word c.args.leaf (omega (arith, some)) (c.still_holds.ensures.0 c.if-still_holds.true)

all_or_less : (n k : ℕ) → n ≤ k → eqb n k ≡ false → n < k
all_or_less n k l e = grind (arith, nat_tests)

pub returns : goal.returns
returns c =
    let m = c.args.market.now in
    let aim = c.args.aim.now in
    let x = c.args.prefix.now in
    let early = c.comes_before.ensures.0 c.if-not-comes_before.false in
    let some = early_above m aim (word_of x) c.requires.aim early in
    let long : length (word_of x) ≡ x.length = length-decisions x x.length in
    let gates : length c.as_slice.result.now ≡ length m.gates = ap length c.as_slice.ensures in
    let within : x.length ≤ length m.gates = length_feasible m x c.requires.prefix in
    subst (IsFate m aim.welfare (word_of aim.word) (word_of x)) (sym c.fate_by.ensures)
    (found_fate m aim (aim.welfare - 1) (word_of x) c.args.leaf c.in_ok-finding.finding (eqb x.length (length c.as_slice.result.now)) c.requires.aim
    (omega (arith, some)) c.requires.leaf early c.in_ok-finding.ensures.finding (omega (arith, long, within))
    (λ e. omega (arith, long, gates, eqb-true x.length (length c.as_slice.result.now) e))
    (λ e. omega (arith, long, gates, within, all_or_less x.length (length c.as_slice.result.now) (omega (arith, gates, within)) e)))
