use Rattle.std.proofs.Common.{refl}
use Rattle.mari_lines.proofs.Leading.{bid_then}
use Rattle.mari_lines.proofs.reading.bids.leading_bid.Goals as goal

pub returns : goal.returns
returns c =
    let name = c.in_ok-id in
    let digits = c.in_ok-mw in (
      (name.ensures.0, digits.ensures.0),
      bid_then name.id c.args.text.now c.in_ok-fields.fields.now name.id name.number.now digits.end.now c.in_ok-after.after.now digits.mw
          c.in_ok-fields.ensures name.ensures.1 refl digits.ensures.1 c.in_ok-after.ensures,
    )
