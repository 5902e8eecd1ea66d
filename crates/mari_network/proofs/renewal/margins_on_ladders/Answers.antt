use Rattle.std.proofs.Common.{◌+◌, ap, arith, ◌∙◌, List, length}
use Rattle.std.proofs.lemmas.List.{length_push}
use Rattle.mari_network.specs.declared.margins.Margin.{Margin}
use Rattle.mari_network.proofs.Marginal.{margins_from, margins_more}
use Rattle.mari_network.proofs.renewal.margins_on_ladders.Goals as goal

pub loop-zone-preserved : goal.loop-zone-preserved
loop-zone-preserved c =
    let items = c.in_ok-push.ensures.items in
    record {
      long = ap (λ (ms : List Margin). length ms) items ∙ length_push c.loop-zone.margins.items c.margin_on_ladder.result ∙ ap (λ n. n + 1) c.loop-zone.invariant.long;
      each = margins_more c.args.network.now.slots.now c.args.amounts.now c.args.network.now.on_ladders c.loop-zone.zone c.loop-zone.margins.items _ c.margin_on_ladder.result items
          c.loop-zone.invariant.long c.loop-zone.invariant.each c.margin_on_ladder.ensures;
    }

pub returns : goal.returns
returns c =
    margins_from c.args.network.now.slots.now c.args.amounts.now (length c.args.network.now.meeting.now) c.args.network.now.on_ladders c.loop-zone.margins.items (omega arith)
    (λ z l. c.loop-zone.invariant.each z (omega arith))
