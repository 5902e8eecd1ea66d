use Rattle.std.proofs.Common.{refl, rules, sym, None}
use Rattle.mari_remain.proofs.Beginning.{nothing}
use Rattle.mari_remain.proofs.remaining.Remaining.start.Goals as goal

pub returns : goal.returns
returns c =
    let books = c.args.books.now in
    nothing books (record {
      mw = c.in_ok-vec.field-0.items;
      direct = c.in_ok-vec-2.field-0.items;
      quarter = None;
      flow = c.in_ok-vec-3.field-0.items;
      of_quarter = c.in_ok-bids_by_quarter.field-0.items;
      of_run = c.in_ok-demands_by_run.field-0.items;
    })
    (rw (sym c.as_slice-bids.ensures) (search rules))
    (rw (sym c.as_slice-bids.ensures) (search rules))
    refl
    (rw (sym c.as_slice-borders.ensures) (search rules))
    c.in_ok-bids_by_quarter.ensures
    c.in_ok-demands_by_run.ensures
