use Rattle.std.proofs.Common.{None}
use Rattle.mari_check.proofs.Examining.{found-faulty, found-sound}
use Rattle.mari_check.proofs.Made.{made-is}
use Rattle.mari_check.proofs.block.check_run.Goals as goal

pub examine_block-requires-clause-made : goal.examine_block-requires-clause-made
examine_block-requires-clause-made c = made-is c.args.books.now c.args.run c.args.made.now c.requires.accepted c.requires.made

pub returns-in-Faulty : goal.returns-in-Faulty
returns-in-Faulty c =
    (c.in-Faulty.fault, found-faulty c.args.books.now c.args.run c.args.made.now _ None c.args.block.now c.in_ok-fault.field-0 c.in-Faulty.fault c.in-Faulty.is c.in_ok-fault.ensures, c.number.ensures)

pub returns-in-Sound : goal.returns-in-Sound
returns-in-Sound c =
    (found-sound c.args.books.now c.args.run c.args.made.now _ None c.args.block.now c.in_ok-fault.field-0 c.in-Sound.activation c.in-Sound.prices c.in-Sound.ledger
    c.in-Sound.is c.in_ok-fault.ensures).0
