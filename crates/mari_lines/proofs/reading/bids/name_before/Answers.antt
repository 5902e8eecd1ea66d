use Rattle.mari_units.specs.declared.limits.TheConstants.{MOST_NAME}
use Rattle.mari_lines.proofs.Leading.{space_then}
use Rattle.mari_lines.proofs.reading.bids.name_before.Goals as goal

pub returns : goal.returns
returns c =
    let name = c.name_of_first in (
      name.ensures.name,
      rw name.ensures.bytes (space_then MOST_NAME c.args.place c.args.text.now c.args.first.now c.requires.first c.requires.place c.if-first-place-ne32.false),
    )
