-- The refusal of a publication whose text has a fault.
use Rattle.std.specs.Prelude.{ℕ, Option, Some, None}
use Rattle.mari_units.specs.declared.faults.Refusal.{Refusal}
use Rattle.mari_publish.specs.declared.fault.TextFault.{TextFault}
use Rattle.mari_publish.specs.declared.fault.TextFault.TheVariants as text_fault
use Rattle.mari_day.specs.declared.files.TheConstants.{PUBLICATION}
use Rattle.mari_answers.specs.declared.checks.TextCheck.TheVariants.{BadLine, BadOrder, Truncated}
use Rattle.mari_answers.specs.Checks.{text_check_number}

-- the publication is refused at a line, by the number of a check
abbrev pub text_refusal_at : (line number : ℕ) → Refusal
text_refusal_at line number = record { file = PUBLICATION; line = line; number = number }

-- the refusal of a text with this fault
abbrev pub text_refusal : TextFault → Refusal
text_refusal (text_fault.BadLine n) = text_refusal_at n (text_check_number BadLine)
text_refusal (text_fault.BadOrder n) = text_refusal_at n (text_check_number BadOrder)
text_refusal (text_fault.Truncated n) = text_refusal_at n (text_check_number Truncated)
text_refusal text_fault.Memory = text_refusal_at 0 0

-- the refusal of a publication whose text has a fault; none when out of memory
abbrev pub refusal_of : TextFault → Option Refusal
refusal_of text_fault.Memory = None
refusal_of fault = Some (text_refusal fault)
