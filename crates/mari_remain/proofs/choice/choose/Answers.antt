use Rattle.std.proofs.Common.{◌≡◌, ◌∙◌, ◌<◌, ◌++◌, ◌∷◌, [], ℕ, List, Bool, true, cond, filter, map, take, length, get_or, ap, sym, arith, rules, subst}
use Rattle.std.proofs.lemmas.List.{get_or_default}
use Rattle.std.proofs.Math.Seq.{take-length}
use Rattle.std.specs.Prelude.{None, Some}
use Rattle.mari_bids.specs.Bids.{bid_numbered}
use Rattle.mari_links.specs.Links.{has_gate}
use Rattle.mari_remain.specs.Available.{is_available}
use Rattle.mari_remain.specs.Choice.{rivals_in}
use Rattle.mari_remain.specs.FirstBlocks.{taken_in}
use Rattle.mari_remain.specs.Lists.{bids_of_quarter}
use Rattle.mari_remain.specs.RunMarket.{bid_order, gate_of}
use Rattle.mari_remain.proofs.Choosing.{IsOwn, chosen-next, chosen-not, few-before, has-quarter, next, next-order, order_chosen, own-numbers}
use Rattle.mari_remain.proofs.choice.choose.Goals as goal
use Rattle.mari_remain.proofs.choice.choose.Goals.{then-is_next+in_ok-add, else-is_next}

pub bids_of-all-requires : goal.bids_of-all-requires
bids_of-all-requires c = (has-quarter c.args.books.now c.args.remaining.now c.args.run.quarter c.requires.index c.requires.quarter).there

pub mw_at-taken-requires : goal.mw_at-taken-requires
mw_at-taken-requires c =
    let all = c.bids_of-all.ensures ∙ (has-quarter c.args.books.now c.args.remaining.now c.args.run.quarter c.requires.index c.requires.quarter).bids in
    rw (c.requires.mws, all) (own-numbers c.args.books.now c.args.run.quarter c.loop-number.number-index 0 (rw (sym all) c.loop-number-test.true)).there

pub is_next-requires-clause-there : goal.is_next-requires-clause-there
is_next-requires-clause-there c =
    let all = c.bids_of-all.ensures ∙ (has-quarter c.args.books.now c.args.remaining.now c.args.run.quarter c.requires.index c.requires.quarter).bids in
    rw all (own-numbers c.args.books.now c.args.run.quarter c.loop-number.number-index 0 (rw (sym all) c.loop-number-test.true)).there

pub is_next-requires-clause-quarter : goal.is_next-requires-clause-quarter
is_next-requires-clause-quarter c =
    let all = c.bids_of-all.ensures ∙ (has-quarter c.args.books.now c.args.remaining.now c.args.run.quarter c.requires.index c.requires.quarter).bids in
    rw all (own-numbers c.args.books.now c.args.run.quarter c.loop-number.number-index 0 (rw (sym all) c.loop-number-test.true)).own

pub is_next-requires-clause-rivals : goal.is_next-requires-clause-rivals
is_next-requires-clause-rivals c =
    let all = c.bids_of-all.ensures ∙ (has-quarter c.args.books.now c.args.remaining.now c.args.run.quarter c.requires.index c.requires.quarter).bids in
    c.deref.ensures.value ∙ c.in_ok-rivals.ensures ∙ ap (filter (rivals_in c.args.books.now c.args.remaining.now)) all

pub add-requires-clause-there : goal.add-requires-clause-there
add-requires-clause-there c =
    let all = c.bids_of-all.ensures ∙ (has-quarter c.args.books.now c.args.remaining.now c.args.run.quarter c.requires.index c.requires.quarter).bids in
    rw all (own-numbers c.args.books.now c.args.run.quarter c.loop-number.number-index 0 (rw (sym all) c.loop-number-test.true)).there

pub add-requires-clause-few : goal.add-requires-clause-few
add-requires-clause-few c =
    let books = c.args.books.now in
    let run = c.args.run in
    let kept = c.args.remaining.now in
    let k = c.loop-number.number-index in
    let avail : ℕ → Bool = is_available books (taken_in books kept run.quarter) run in
    let is_all = c.bids_of-all.ensures ∙ (has-quarter books kept run.quarter c.requires.index c.requires.quarter).bids in
    let inv = c.loop-number.invariant in
    let gated = inv.all_gated ∙ ap (filter (has_gate books.links)) (inv.all_there ∙ ap (λ (ns : List ℕ). filter avail (take k ns)) is_all) in
    omega (arith, ap length gated, few-before books kept run c.requires.accepted k)

pub returns-clause-numbers : goal.returns-clause-numbers
returns-clause-numbers c =
    let all = c.bids_of-all.ensures ∙ (has-quarter c.args.books.now c.args.remaining.now c.args.run.quarter c.requires.index c.requires.quarter).bids in
    let avail : ℕ → Bool = is_available c.args.books.now (taken_in c.args.books.now c.args.remaining.now c.args.run.quarter) c.args.run in
    let end : c.loop-number.number-index ≡ length c.bids_of-all.result.now = omega (arith, c.loop-number-test.false, c.loop-number.auto.number-index-end) in
    c.loop-number.invariant.all_there ∙ ap (filter avail) (ap (λ k. take k c.bids_of-all.result.now) end ∙ take-length c.bids_of-all.result.now ∙ all)

pub returns-clause-orders : goal.returns-clause-orders
returns-clause-orders c =
    let books = c.args.books.now in
    let run = c.args.run in
    let kept = c.args.remaining.now in
    let all = c.bids_of-all.ensures ∙ (has-quarter books kept run.quarter c.requires.index c.requires.quarter).bids in
    let avail : ℕ → Bool = is_available books (taken_in books kept run.quarter) run in
    let end : c.loop-number.number-index ≡ length c.bids_of-all.result.now = omega (arith, c.loop-number-test.false, c.loop-number.auto.number-index-end) in
    let numbers = c.loop-number.invariant.all_there ∙ ap (filter avail) (ap (λ k. take k c.bids_of-all.result.now) end ∙ take-length c.bids_of-all.result.now ∙ all) in
    let gated = c.loop-number.invariant.all_gated ∙ ap (filter (has_gate books.links)) numbers in
    subst
    (λ (gs : List ℕ). c.loop-number.choice.orders.items
    ≡ map (λ i. bid_order (bid_numbered books.bids.bids i) (gate_of gs i) ((taken_in books kept run.quarter).mw i)) c.loop-number.choice.numbers.items)
    (sym gated) c.loop-number.invariant.all_ordered

pub loop-number-preserved : goal.loop-number-preserved
loop-number-preserved c =
    let books = c.args.books.now in
    let run = c.args.run in
    let kept = c.args.remaining.now in
    let all = c.bids_of-all.result.now in
    let k = c.loop-number.number-index in
    let i : ℕ = get_or all k 0 in
    let avail : ℕ → Bool = is_available books (taken_in books kept run.quarter) run in
    let is_all = c.bids_of-all.ensures ∙ (has-quarter books kept run.quarter c.requires.index c.requires.quarter).bids in
    let l : k < length all = c.loop-number-test.true in
    let l2 : k < length (bids_of_quarter books.bids.bids run.quarter) = rw (sym is_all) l in
    let here : get_or all k i ≡ i = get_or_default all k i 0 l in
    let here2 : get_or (bids_of_quarter books.bids.bids run.quarter) k i ≡ i = sym (ap (λ (ns : List ℕ). get_or ns k i) is_all) ∙ here in
    let P : List ℕ → Type 0 = λ ns. IsOwn books run.quarter (get_or ns k 0) in
    let own = subst P (sym is_all) (own-numbers books run.quarter k 0 l2) in
    let inv = c.loop-number.invariant in
    let numbers = inv.all_there ∙ ap (λ (ns : List ℕ). filter avail (take k ns)) is_all in
    let gated = inv.all_gated ∙ ap (filter (has_gate books.links)) numbers in
    let same = next books kept run c.requires.accepted k i l2 here2 own.there own.own c.loop-number.choice.numbers.items c.loop-number.choice.gated.items numbers inv.all_gated in
    let found : c.is_next.result ≡ avail i = c.is_next.ensures ∙ same in
    elim c.if-is_next.branch [
      | then-is_next+in_ok-add w ↦ (
          let is_open : avail i ≡ true = sym found ∙ w.if-is_next.true in
          let order : bid_order (bid_numbered books.bids.bids i) (cond (has_gate books.links i) (Some (length c.loop-number.choice.gated.items)) None) c.mw_at-taken.result
          ≡ order_chosen books kept run i
          = rw c.mw_at-taken.ensures (next-order books kept run c.requires.accepted k i c.loop-number.choice.gated.items l2 here2 own.own is_open gated) in
          let numbers_are : w.add.new.self.numbers.items ≡ c.loop-number.choice.numbers.items ++ i ∷ [] = search rules in
          let gated_are : w.add.new.self.gated.items ≡ cond (has_gate books.links i) (c.loop-number.choice.gated.items ++ i ∷ []) c.loop-number.choice.gated.items = search rules in
          let orders_are : w.add.new.self.orders.items ≡ c.loop-number.choice.orders.items
          ++ bid_order (bid_numbered books.bids.bids i) (cond (has_gate books.links i) (Some (length c.loop-number.choice.gated.items)) None) c.mw_at-taken.result ∷ [] = search rules in
          rw (w.choice-is, numbers_are, gated_are, orders_are, order)
          (chosen-next avail (has_gate books.links)
          (order_chosen books kept run) all k i c.loop-number.choice.numbers.items c.loop-number.choice.gated.items c.loop-number.choice.orders.items l here inv is_open))
      | else-is_next w ↦ rw w.choice-is
          (chosen-not avail (has_gate books.links)
          (order_chosen books kept run) all k i c.loop-number.choice.numbers.items c.loop-number.choice.gated.items c.loop-number.choice.orders.items l here inv
          (sym found ∙ w.if-is_next.false))
    ]
