use Rattle.std.proofs.Common.{◌≡◌, ◌∙◌, false, true, sym, arith, length, rules, filter}
use Rattle.std.specs.List.{range_with_len}
use Rattle.std.proofs.lemmas.List.{length-set}
use Rattle.mari_rows.proofs.BookFacts.{counts-at-most}
use Rattle.mari_rows.proofs.CountLemmas.{below, counts-push, written-back}
use Rattle.mari_links.specs.Gates.{has_gate_at}
use Rattle.mari_links.specs.Links.{count_of, quarter_of}
use Rattle.mari_links.proofs.EntryLemmas.{itself}
use Rattle.mari_links.proofs.GateLemmas.{gate-read, none-too-many, one-too-many, range-no, range-yes}
use Rattle.mari_links.proofs.gates.has_too_many_gates.Goals as goal

pub loop-bid-preserved-then-not-is_gated : goal.loop-bid-preserved-then-not-is_gated
loop-bid-preserved-then-not-is_gated c =
    let inv = c.loop-bid.invariant in
    let entries = c.args.entries.now in
    let no : c.is_gated.result ≡ false = search rules in
    let plain = gate-read entries c.loop-bid.bid c.index-entries-bid.result (omega arith) c.index-entries-bid.is ∙ sym c.is_gated.ensures ∙ no in
    let same = range-no (has_gate_at entries) c.loop-bid.bid plain in
    rw same inv

pub returns-then-not-count_one : goal.returns-then-not-count_one
returns-then-not-count_one c =
    let inv = c.loop-bid.invariant in
    let bids = c.args.bids.now in
    let bid = c.loop-bid.bid in
    let entries = c.args.entries.now in
    let yes : c.is_gated.result ≡ true = search rules in
    let gated = gate-read entries bid c.index-entries-bid.result (omega arith) c.index-entries-bid.is ∙ sym c.is_gated.ensures ∙ yes in
    let no : c.count_one.result ≡ false = search rules in
    let full = rw (c.deref_mut.ensures.value, c.quarter_of.ensures, inv.1.counts (quarter_of bids bid) (inv.1.within bid)) at (sym c.count_one.ensures.room ∙ no) in
    sym (one-too-many bids (has_gate_at entries) bid (length bids.ids) (omega arith) gated full (itself (quarter_of bids bid)))

pub loop-bid-preserved : goal.loop-bid-preserved
loop-bid-preserved c =
    let inv = c.loop-bid.invariant in
    let bids = c.args.bids.now in
    let bid = c.loop-bid.bid in
    let entries = c.args.entries.now in
    let quarter = quarter_of bids bid in
    let before = filter (has_gate_at entries) (range_with_len 0 bid) in
    let old = c.loop-bid.counts.items in
    let yes : c.is_gated.result ≡ true = search rules in
    let gated = gate-read entries bid c.index-entries-bid.result (omega arith) c.index-entries-bid.is ∙ sym c.is_gated.ensures ∙ yes in
    let more = range-yes (has_gate_at entries) bid gated in
    let counted = inv.1.counts quarter (inv.1.within bid) in
    let took : c.count_one.result ≡ true = search rules in
    let room = rw (c.deref_mut.ensures.value, c.quarter_of.ensures, counted) at (sym c.count_one.ensures.room ∙ took) in
    let counts = rw (c.deref_mut.ensures.value, c.quarter_of.ensures) at (c.count_one.ensures.counted took) in
    let long : length c.count_one.new.counts ≡ length old = rw counts (length-set old quarter _) in
    let back = written-back old c.count_one.new.counts c.loop-bid.counts.len long c.loop-bid.counts.ok.0 ∙ counts in (
      inv.0,
      record {
        sized = rw back (length-set old quarter _ ∙ inv.1.sized);
        within = inv.1.within;
        counts = rw (back, more) (counts-push (quarter_of bids) inv.0 before bid old (omega (arith, inv.1.sized)) (inv.1.within bid) inv.1.counts);
        few = rw more (counts-at-most (quarter_of bids) 512 before bid (below 512 (count_of bids before quarter) room) inv.1.few);
      },
    )

pub returns : goal.returns
returns c =
    let inv = c.loop-bid.invariant in
    let bids = c.args.bids.now in
    let whole : c.loop-bid.bid ≡ length bids.ids = omega (arith, c.len-bid-end.ensures.len) in
    sym (none-too-many bids (filter (has_gate_at c.args.entries.now) (range_with_len 0 (length bids.ids))) (rw whole at inv.1.few))
