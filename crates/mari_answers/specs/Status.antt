-- The program's exit codes.
use Rattle.std.specs.Prelude.{ℕ}
use Rattle.mari_answers.specs.declared.status.Status.{Status}
use Rattle.mari_answers.specs.declared.status.Status.TheVariants.{Done, Unpublished, Usage, Refused, ReadFault, WriteFault, Memory, Invalid, Missing, TooLong}

abbrev pub code_of : Status → ℕ
code_of Done = 0
code_of Unpublished = 1
code_of Usage = 2
code_of (Refused refusal) = 3
code_of ReadFault = 4
code_of WriteFault = 5
code_of Memory = 6
code_of (Invalid run fault) = 7
code_of Missing = 8
code_of TooLong = 9
