use Rattle.std.proofs.Common.{◌∙◌, List, length, arith, ap}
use Rattle.std.specs.List.{list_any}
use Rattle.mari_market.specs.declared.market.GateInfo.{GateInfo}
use Rattle.mari_market.specs.Prefix.{opens_in}
use Rattle.mari_market.proofs.Search.{parents_earlier}
use Rattle.mari_reach.specs.State.{is_shut, line_of}
use Rattle.mari_reach.specs.Tables.{HasOpened}
use Rattle.mari_reach.proofs.StateTables.{box_is, same_line_of}
use Rattle.mari_reach.proofs.states.State.set.Goals as goal

pub close_all_below-requires-clause-earlier : goal.close_all_below-requires-clause-earlier
close_all_below-requires-clause-earlier c = rw c.as_slice.ensures (parents_earlier c.args.market.now c.requires.market)

pub set_shut-requires-clause-prices : goal.set_shut-requires-clause-prices
set_shut-requires-clause-prices c =
    box_is c.args.market.now c.args.decisions.now c.set_opened.new.opened c.set.new.self c.args.orders.now c.requires.market c.requires.orders c.set_opened.ensures
    c.set.ensures.low c.set.ensures.high

pub returns : goal.returns
returns c =
    let m = c.args.market.now in
    let ds = c.args.decisions.now in
    let marks = c.set_opened.new.opened in
    let shut = c.set_shut.new.shut in
    let same = c.as_slice.ensures in
    let opened : HasOpened m ds marks = c.set_opened.ensures in
    record {
      opened = opened;
      shut = λ g l.
          c.close_all_below.ensures g (omega (arith, ap length same)) ∙ ap (λ (gs : List GateInfo). list_any (opens_in shut) (line_of gs g)) same
          ∙ same_line_of m.gates (opens_in shut) (is_shut m ds) g (parents_earlier m c.requires.market) c.set_shut.ensures l;
      prices = box_is m ds marks c.set.new.self c.args.orders.now c.requires.market c.requires.orders opened c.set.ensures.low c.set.ensures.high;
    }
