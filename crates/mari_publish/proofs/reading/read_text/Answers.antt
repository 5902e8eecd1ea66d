use Rattle.mari_publish.proofs.Outcomes.{one_text, text_answer, line_answer, order_answer, truncated_answer}
use Rattle.mari_publish.proofs.reading.read_text.Goals as goal

pub returns-clause-text : goal.returns-clause-text
returns-clause-text c = text_answer c.args.bytes.now c.read_lines-outcome.result c.read_lines-outcome.ensures

pub returns-clause-one : goal.returns-clause-one
returns-clause-one c = one_text c.args.bytes.now

pub returns-clause-bad_line : goal.returns-clause-bad_line
returns-clause-bad_line c = line_answer c.args.bytes.now c.read_lines-outcome.result c.read_lines-outcome.ensures

pub returns-clause-bad_order : goal.returns-clause-bad_order
returns-clause-bad_order c = order_answer c.args.bytes.now c.read_lines-outcome.result c.read_lines-outcome.ensures

pub returns-clause-truncated : goal.returns-clause-truncated
returns-clause-truncated c = truncated_answer c.args.bytes.now c.read_lines-outcome.result c.read_lines-outcome.ensures
