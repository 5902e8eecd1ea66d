use Rattle.std.proofs.Common.{◌≡◌, ◌∙◌, ◌++◌, ◌∷◌, [], get_or, false, true, refl, sym, ap, arith, length, map, rules}
use Rattle.std.specs.Prelude.{nat_le}
use Rattle.std.proofs.lemmas.List.{length-map, length-set, map-append}
use Rattle.mari_rows.proofs.BookLemmas.{first_failing-append}
use Rattle.mari_rows.proofs.CountLemmas.{below, counts-push, not-below, written-back}
use Rattle.mari_rows.proofs.PlaceLemmas.{distinct-push, length-distinct, made-push}
use Rattle.mari_bids.specs.Bids.{bid_at, bid_checks, count_of, id_of, provider_of, quarter_at}
use Rattle.mari_bids.specs.declared.bids.Bid.{Bid}
use Rattle.mari_bids.proofs.bids.BidsSoFarBookSoFar.take.Goals as goal

pub returns-in-Err-clause-takes : goal.returns-in-Err-clause-takes
returns-in-Err-clause-takes c = λ earlier holds.
    let so_far = c.args.self.now in
    let line = c.args.line.now in
    let checks = bid_checks so_far.zones.now so_far.quarters earlier line in
    let last = (nat_le 4096 (count_of so_far.quarters earlier (quarter_at so_far.quarters line)), 17) ∷ [] in
    let fails = c.in-Err.ensures.bid earlier holds.ids in
    first_failing-append last checks ∙ rw fails refl

pub returns-then-not-count_one-clause-takes : goal.returns-then-not-count_one-clause-takes
returns-then-not-count_one-clause-takes c = λ earlier holds.
    let so_far = c.args.self.now in
    let quarters = so_far.quarters in
    let line = c.args.line.now in
    let checks = bid_checks so_far.zones.now quarters earlier line in
    let count = count_of quarters earlier (quarter_at quarters line) in
    let good = c.in-Ok.ensures.bid earlier holds.ids in
    let quarter : c.in-Ok.bid.quarter ≡ quarter_at quarters line = ap (λ (bid : Bid). bid.quarter) good.1 in
    let counted : get_or so_far.counts.items (quarter_at quarters line) 0 ≡ count = holds.counts (quarter_at quarters line) (rw (sym quarter) c.in-Ok.ensures.quarter) in
    let no : c.count_one.result ≡ false = search rules in
    let full = rw (c.deref_mut.ensures.value, quarter, counted) at (sym c.count_one.ensures.room ∙ no) in
    first_failing-append ((nat_le 4096 count, 17) ∷ []) checks ∙ rw (good.0, not-below 4096 count full) refl

pub returns-clause-takes : goal.returns-clause-takes
returns-clause-takes c = λ earlier holds.
    let so_far = c.args.self.now in
    let zones = so_far.zones.now in
    let quarters = so_far.quarters in
    let line = c.args.line.now in
    let checks = bid_checks zones quarters earlier line in
    let count = count_of quarters earlier (quarter_at quarters line) in
    let good = c.in-Ok.ensures.bid earlier holds.ids in
    let quarter : c.in-Ok.bid.quarter ≡ quarter_at quarters line = ap (λ (bid : Bid). bid.quarter) good.1 in
    let counted : get_or so_far.counts.items (quarter_at quarters line) 0 ≡ count = holds.counts (quarter_at quarters line) (rw (sym quarter) c.in-Ok.ensures.quarter) in
    let yes : c.count_one.result ≡ true = search rules in
    let room = rw (c.deref_mut.ensures.value, quarter, counted) at (sym c.count_one.ensures.room ∙ yes) in
    let counts = rw (c.deref_mut.ensures.value, quarter) at (c.count_one.ensures.counted yes) in
    let id = rw c.field.ensures at c.in_ok-add_new.ensures.added in
    let names = rw c.field-2.ensures at c.in_ok-bid.ensures.names in
    let place = rw c.field-2.ensures at c.in_ok-bid.ensures.place in
    let pushed : c.push.new.self.items ≡ so_far.bids.items ++ record c.in-Ok.bid { provider = c.in_ok-bid.field-0 } ∷ [] = search rules in
    let provided : record c.in-Ok.bid { provider = c.in_ok-bid.field-0 } ≡ bid_at zones quarters c.in_ok-bid.field-0 line = ap (λ (bid : Bid). record bid { provider = c.in_ok-bid.field-0 }) good.1 in
    let old = so_far.counts.items in
    let long : length c.count_one.new.counts ≡ length old = rw counts (length-set old (quarter_at quarters line) _) in
    let back = written-back old c.count_one.new.counts so_far.counts.len long so_far.counts.ok.0 ∙ counts in (
      first_failing-append ((nat_le 4096 count, 17) ∷ []) checks ∙ rw (good.0, below 4096 count room) refl,
      record {
        ids = rw (id, holds.ids) (sym (map-append id_of earlier (line ∷ [])));
        providers = rw (names, holds.providers) (sym (distinct-push provider_of earlier line));
        bids = rw (pushed, provided, holds.bids, place, names, holds.providers) (sym (made-push (bid_at zones quarters) provider_of earlier line));
        sized = rw back (length-set old (quarter_at quarters line) _ ∙ holds.sized);
        counts = rw back (counts-push (quarter_at quarters) quarters earlier line old (omega (arith, holds.sized)) (rw (sym quarter) c.in-Ok.ensures.quarter) holds.counts);
      },
    )

pub add_new-requires-clause-room : goal.add_new-requires-clause-room
add_new-requires-clause-room c =
    let earlier = c.requires.0 in
    rw c.requires.1.ids (omega (arith, length-map earlier id_of, c.requires.2))

pub find_or_add-requires-clause-room : goal.find_or_add-requires-clause-room
find_or_add-requires-clause-room c =
    let earlier = c.requires.0 in
    rw c.requires.1.providers (omega (arith, length-distinct (map provider_of earlier), length-map earlier provider_of, c.requires.2))
