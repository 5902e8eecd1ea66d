use Rattle.mari_lines.proofs.reading.leading.long_number.Goals as goal

pub returns-then-not-is_ascii_digit : goal.returns-then-not-is_ascii_digit
returns-then-not-is_ascii_digit c = c.number_before.ensures

pub returns : goal.returns
returns c = c.number_before-2.ensures
