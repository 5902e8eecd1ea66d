use Rattle.std.proofs.Common.{◌∙◌, ap, length, refl, ◌==◌, ℕ, ℤ, pos, List, Bool, false, Some, get_or}
use Rattle.std.specs.Option.{option_map_or}
use Rattle.std.proofs.lemmas.List.{with_items_is}
use Rattle.mari_demands.specs.declared.runs.Run.{Run}
use Rattle.mari_remain.specs.FirstBlocks.{Tally}
use Rattle.mari_remain.proofs.After.{after-stands, can-add, next-block}
use Rattle.mari_remain.proofs.remaining.Remaining.after.Goals as goal

pub add_mw-requires-clause-there : goal.add_mw-requires-clause-there
add_mw-requires-clause-there c =
    let s = c.requires.stands in
    let add = can-add c.args.books.now c.requires.accepted s.0 c.args.self.now c.args.run c.args.made.now c.args.activation.now s.1 s.2 c.requires.last s.3 c.requires.feasible in
    let same = c.deref_mut.ensures.value ∙ ap (λ (k : Tally). k.mw) c.self.view_is in
    rw (same, c.as_slice-bids.ensures, add.mws) add.there

pub add_mw-requires-clause-long : goal.add_mw-requires-clause-long
add_mw-requires-clause-long c =
    let s = c.requires.stands in
    let add = can-add c.args.books.now c.requires.accepted s.0 c.args.self.now c.args.run c.args.made.now c.args.activation.now s.1 s.2 c.requires.last s.3 c.requires.feasible in
    rw (c.as_slice-bids.ensures, c.as_slice-mw.ensures) add.long

pub add_mw-requires-clause-small : goal.add_mw-requires-clause-small
add_mw-requires-clause-small c =
    let s = c.requires.stands in
    let add = can-add c.args.books.now c.requires.accepted s.0 c.args.self.now c.args.run c.args.made.now c.args.activation.now s.1 s.2 c.requires.last s.3 c.requires.feasible in
    let same = c.deref_mut.ensures.value ∙ ap (λ (k : Tally). k.mw) c.self.view_is in
    rw (same, c.as_slice-bids.ensures, c.as_slice-mw.ensures) add.small

pub mark_if-requires-clause-there : goal.mark_if-requires-clause-there
mark_if-requires-clause-there c =
    let s = c.requires.stands in
    let add = can-add c.args.books.now c.requires.accepted s.0 c.args.self.now c.args.run c.args.made.now c.args.activation.now s.1 s.2 c.requires.last s.3 c.requires.feasible in
    let same = c.deref_mut-2.ensures.value ∙ ap (λ (k : Tally). k.direct) c.self.view_is in
    rw (same, c.as_slice-bids.ensures, add.marks) add.there

pub mark_if-requires-clause-long : goal.mark_if-requires-clause-long
mark_if-requires-clause-long c =
    let s = c.requires.stands in
    let add = can-add c.args.books.now c.requires.accepted s.0 c.args.self.now c.args.run c.args.made.now c.args.activation.now s.1 s.2 c.requires.last s.3 c.requires.feasible in
    rw (c.as_slice-bids.ensures, c.as_slice-mw.ensures) add.long

pub keep_and_add-requires-clause-lengths : goal.keep_and_add-requires-clause-lengths
keep_and_add-requires-clause-lengths c =
    let s = c.requires.stands in
    let add = can-add c.args.books.now c.requires.accepted s.0 c.args.self.now c.args.run c.args.made.now c.args.activation.now s.1 s.2 c.requires.last s.3 c.requires.feasible in
    let same = c.deref_mut-3.ensures.value ∙ ap (λ (k : Tally). k.flow) c.self.view_is in
    rw (same, c.as_slice.ensures) add.flows

pub keep_and_add-requires-clause-small : goal.keep_and_add-requires-clause-small
keep_and_add-requires-clause-small c =
    let s = c.requires.stands in
    let add = can-add c.args.books.now c.requires.accepted s.0 c.args.self.now c.args.run c.args.made.now c.args.activation.now s.1 s.2 c.requires.last s.3 c.requires.feasible in
    let same = c.deref_mut-3.ensures.value ∙ ap (λ (k : Tally). k.flow) c.self.view_is in
    let quarter = ap (λ (run : Run). run.quarter) c.run_entry-entry.ensures in
    let of = c.is_of-same.ensures ∙ ap (λ (k : Tally). option_map_or (λ last. last == c.run_entry-entry.result.quarter) k.quarter false) c.self.view_is in
    rw (same, c.as_slice.ensures, of, quarter) add.flow

pub returns : goal.returns
returns c = λ blocks stands is_next made_is.
    let books = c.args.books.now in
    let kept = c.args.self.now in
    let next = next-block books c.requires.accepted blocks kept c.args.run c.args.made.now c.args.activation.now stands is_next c.requires.last made_is c.requires.feasible in
    let same_mw = c.deref_mut.ensures.value ∙ ap (λ (k : Tally). k.mw) c.self.view_is in
    let same_direct = c.deref_mut-2.ensures.value ∙ ap (λ (k : Tally). k.direct) c.self.view_is in
    let same_flow = c.deref_mut-3.ensures.value ∙ ap (λ (k : Tally). k.flow) c.self.view_is in
    let quarter = ap (λ (run : Run). run.quarter) c.run_entry-entry.ensures in
    let direct = ap (λ (run : Run). run.direct) c.run_entry-entry.ensures in
    let of = c.is_of-same.ensures ∙ ap (λ (k : Tally). option_map_or (λ last. last == c.run_entry-entry.result.quarter) k.quarter false) c.self.view_is in
    let mws = with_items_is c.self.inside.mw c.add_mw.new.mw (c.add_mw.auto.mw ∙ c.deref_mut.ensures.len) in
    let marks = with_items_is c.self.inside.direct c.mark_if.new.marks (c.mark_if.auto.marks ∙ c.deref_mut-2.ensures.len) in
    let flows = with_items_is c.self.inside.flow c.keep_and_add.new.flow (c.keep_and_add.auto.flow ∙ c.deref_mut-3.ensures.len) in
    let mw = rw (same_mw, c.as_slice-bids.ensures, c.as_slice-mw.ensures) at c.add_mw.ensures in
    let mark = rw (same_direct, c.as_slice-bids.ensures, c.as_slice-mw.ensures, direct) at c.mark_if.ensures in
    let of_it = of ∙ ap (λ q. option_map_or (λ last. last == q) kept.quarter false) quarter in
    let flow = rw (same_flow, c.as_slice.ensures, of_it) at c.keep_and_add.ensures in
    after-stands books c.requires.accepted blocks _ next kept _ stands refl (record {
      mws = ap length mws ∙ c.add_mw.auto.mw ∙ ap length same_mw;
      mw = λ i. ap (λ (ms : List ℕ). get_or ms i 0) mws ∙ mw i;
      marks = ap length marks ∙ c.mark_if.auto.marks ∙ ap length same_direct;
      direct = λ i. ap (λ (ms : List Bool). get_or ms i false) marks ∙ mark i;
      quarter = ap Some quarter;
      flows = ap length flows ∙ c.keep_and_add.auto.flow ∙ ap length same_flow;
      flow = λ k. ap (λ (fs : List ℤ). get_or fs k (pos 0)) flows ∙ flow k;
      of_quarter = ap (λ (k : Tally). k.of_quarter) c.self.view_is;
      of_run = ap (λ (k : Tally). k.of_run) c.self.view_is;
    })
