use Rattle.std.proofs.Common.{◌≡◌, ◌∙◌, ◌+◌, ◌≤◌, ◌++◌, ℕ, List, Some, Err, refl, ap, arith}
use Rattle.mari_io.specs.Outside.{most_given}
use Rattle.mari_io.specs.declared.shelf.Fetch.TheVariants as fetch
use Rattle.mari_io.proofs.Counting.{counts_none}
use Rattle.mari_publish.proofs.Paging.{all-new, first-of}
use Rattle.mari_publish.specs.Streams.{HasTaken}
use Rattle.mari_publish.proofs.Streaming.{last-taken, more-taken, of-page-so-far, one-call, one-more, parts-any, parts-never, parts-no-fetch, parts-opened, parts-stop, piece-any, piece-fault, reading-stops}
use Rattle.mari_publish.proofs.stream.read_pieces.Goals as goal

pub returns-in-Err-clause-reported : goal.returns-in-Err-clause-reported
returns-in-Err-clause-reported g c = λ whole is.
    rw c.stop_of_shelf.ensures
    (piece-fault (g.P.PartsSoFar.Took c.args.so_far.now c.args.with.now c.pieces.so_far c.pieces.with) _ _ _ c.pieces.reader c.pieces.invariant.under
    (g.P.PartsSoFar.Breaks c.args.so_far.now c.args.with.now c.pieces.so_far c.pieces.with) c.in-Err.fault
    (λ e. c.in-Err.ensures.not_missing (ap (λ x. Err x) e)) (λ e. (c.in-Err.ensures.over (λ f. absurd cc) (λ f. absurd cc)).0 (ap (λ x. Err x) e)) whole is)

pub returns-in-Err-clause-any : goal.returns-in-Err-clause-any
returns-in-Err-clause-any g c =
    rw c.stop_of_shelf.ensures
    (piece-any (g.P.PartsSoFar.Took c.args.so_far.now c.args.with.now c.pieces.so_far c.pieces.with) _ _ _ c.pieces.reader c.pieces.invariant.under
    (g.P.PartsSoFar.Breaks c.args.so_far.now c.args.with.now c.pieces.so_far c.pieces.with) c.in-Err.fault
    (λ e. c.in-Err.ensures.not_missing (ap (λ x. Err x) e)) c.pieces.reader)

pub returns-in-Err-clause-fetched : goal.returns-in-Err-clause-fetched
returns-in-Err-clause-fetched g c =
    let i = c.pieces.invariant in
    one-call i.pieces _ _ _ _ i.asked c.in-Err.ensures.fetched (omega (arith, i.few, c.in-Err.ensures.given))

pub returns-in-Err-push-clause-reported : goal.returns-in-Err-push-clause-reported
returns-in-Err-push-clause-reported g c =
    λ whole is. of-page-so-far (g.P.PartsSoFar.Took c.args.so_far.now c.args.with.now c.pieces.so_far c.pieces.with) _ _ _ c.pieces.reader c.pieces.invariant.under whole is

pub returns-in-Err-push-clause-fetched : goal.returns-in-Err-push-clause-fetched
returns-in-Err-push-clause-fetched g c =
    let i = c.pieces.invariant in
    one-call i.pieces _ _ _ _ i.asked c.in-Ok.ensures.fetched (omega (arith, i.few, c.in-Ok.ensures.given))

pub take_parts-requires : goal.take_parts-requires
take_parts-requires g c =
    let u = c.pieces.invariant.under in
    let text : List ℕ = u.text ++ c.as_slice.result.now in
    let taken : HasTaken (g.P.PartsSoFar.Took c.args.so_far.now c.args.with.now c.pieces.so_far c.pieces.with) text u.known.parts c.push.new.self.come =
    record { stands = c.in-Ok-push.ensures.pushed u.text u.known.parts u.known.taken.stands; took = u.known.taken.took } in
    (c.args.so_far.now, c.args.with.now, text, u.known.parts, taken)

pub returns-in-Err-take_parts-clause-any : goal.returns-in-Err-take_parts-clause-any
returns-in-Err-take_parts-clause-any g c =
    let u = c.pieces.invariant.under in
    let text : List ℕ = u.text ++ c.as_slice.result.now in
    let taken : HasTaken (g.P.PartsSoFar.Took c.args.so_far.now c.args.with.now c.pieces.so_far c.pieces.with) text u.known.parts c.push.new.self.come =
    record { stands = c.in-Ok-push.ensures.pushed u.text u.known.parts u.known.taken.stands; took = u.known.taken.took } in
    let report = c.in-Err-take_parts.ensures.report c.args.so_far.now c.args.with.now text u.known.parts taken in
    parts-any (g.P.PartsSoFar.Took c.args.so_far.now c.args.with.now c.take_parts.new.so_far c.take_parts.new.with)
    (g.P.PartsSoFar.Breaks c.args.so_far.now c.args.with.now c.take_parts.new.so_far c.take_parts.new.with) text c.take_parts.new.reader c.in-Err-take_parts.stop c.take_parts.new.reader report

pub returns-in-Err-take_parts-clause-reported : goal.returns-in-Err-take_parts-clause-reported
returns-in-Err-take_parts-clause-reported g c = λ whole is.
    let u = c.pieces.invariant.under in
    let text : List ℕ = u.text ++ c.as_slice.result.now in
    let taken : HasTaken (g.P.PartsSoFar.Took c.args.so_far.now c.args.with.now c.pieces.so_far c.pieces.with) text u.known.parts c.push.new.self.come =
    record { stands = c.in-Ok-push.ensures.pushed u.text u.known.parts u.known.taken.stands; took = u.known.taken.took } in
    let report = c.in-Err-take_parts.ensures.report c.args.so_far.now c.args.with.now text u.known.parts taken in
    let none = c.clear.ensures.items in
    let same = c.as_slice.ensures.value in
    let many = all-new _ _ _ c.in-Ok.count none same c.in-Ok.ensures.ok in
    let within : g.S.Shelf.given c.pieces.shelf + c.in-Ok.count ≤ most_given = omega (arith, c.in-Ok.ensures.given, c.in-Ok.ensures.limit) in
    let first = λ (left : List ℕ) (e : g.S.Shelf.rest c.pieces.shelf ≡ Some left). first-of left _ _ _ c.in-Ok.count none same (c.in-Ok.ensures.reported left e) in
    parts-stop (g.P.PartsSoFar.Took c.args.so_far.now c.args.with.now c.pieces.so_far c.pieces.with) _ _ _ c.pieces.reader u c.as_slice.result.now c.in-Ok.count many within first whole is
    (g.P.PartsSoFar.Took c.args.so_far.now c.args.with.now c.take_parts.new.so_far c.take_parts.new.with)
    (g.P.PartsSoFar.Breaks c.args.so_far.now c.args.with.now c.take_parts.new.so_far c.take_parts.new.with) c.take_parts.new.reader c.in-Err-take_parts.stop report

pub returns-in-Err-take_parts-clause-stops : goal.returns-in-Err-take_parts-clause-stops
returns-in-Err-take_parts-clause-stops g c = λ whole is.
    let u = c.pieces.invariant.under in
    let text : List ℕ = u.text ++ c.as_slice.result.now in
    let taken : HasTaken (g.P.PartsSoFar.Took c.args.so_far.now c.args.with.now c.pieces.so_far c.pieces.with) text u.known.parts c.push.new.self.come =
    record { stands = c.in-Ok-push.ensures.pushed u.text u.known.parts u.known.taken.stands; took = u.known.taken.took } in
    let report = c.in-Err-take_parts.ensures.report c.args.so_far.now c.args.with.now text u.known.parts taken in
    let none = c.clear.ensures.items in
    let same = c.as_slice.ensures.value in
    let many = all-new _ _ _ c.in-Ok.count none same c.in-Ok.ensures.ok in
    let within : g.S.Shelf.given c.pieces.shelf + c.in-Ok.count ≤ most_given = omega (arith, c.in-Ok.ensures.given, c.in-Ok.ensures.limit) in
    let first = λ (left : List ℕ) (e : g.S.Shelf.rest c.pieces.shelf ≡ Some left). first-of left _ _ _ c.in-Ok.count none same (c.in-Ok.ensures.reported left e) in
    reading-stops (g.P.PartsSoFar.Took c.args.so_far.now c.args.with.now c.pieces.so_far c.pieces.with) _ _ _ c.pieces.reader u c.as_slice.result.now c.in-Ok.count many within first whole is
    (g.P.PartsSoFar.Took c.args.so_far.now c.args.with.now c.take_parts.new.so_far c.take_parts.new.with) (g.P.PartsSoFar.Breaks c.args.so_far.now c.args.with.now c.take_parts.new.so_far
    c.take_parts.new.with) c.take_parts.new.reader g.S.Shelf.rest g.S.Shelf.fetches c.pieces.shelf c.next_piece.new.self refl c.in-Ok.ensures.rest c.in-Ok.ensures.fetched c.in-Ok.ensures.few
    c.in-Err-take_parts.stop report

pub returns-in-Err-take_parts-clause-fetched : goal.returns-in-Err-take_parts-clause-fetched
returns-in-Err-take_parts-clause-fetched g c =
    let i = c.pieces.invariant in
    one-call i.pieces _ _ _ _ i.asked c.in-Ok.ensures.fetched (omega (arith, i.few, c.in-Ok.ensures.given))

pub returns-in-Err-take_parts-clause-opened : goal.returns-in-Err-take_parts-clause-opened
returns-in-Err-take_parts-clause-opened g c =
    let u = c.pieces.invariant.under in
    let text : List ℕ = u.text ++ c.as_slice.result.now in
    let taken : HasTaken (g.P.PartsSoFar.Took c.args.so_far.now c.args.with.now c.pieces.so_far c.pieces.with) text u.known.parts c.push.new.self.come =
    record { stands = c.in-Ok-push.ensures.pushed u.text u.known.parts u.known.taken.stands; took = u.known.taken.took } in
    let report = c.in-Err-take_parts.ensures.report c.args.so_far.now c.args.with.now text u.known.parts taken in
    parts-opened (g.P.PartsSoFar.Took c.args.so_far.now c.args.with.now c.take_parts.new.so_far c.take_parts.new.with)
    (g.P.PartsSoFar.Breaks c.args.so_far.now c.args.with.now c.take_parts.new.so_far c.take_parts.new.with) text c.take_parts.new.reader c.in-Err-take_parts.stop report

pub returns-in-Err-take_parts-clause-memory : goal.returns-in-Err-take_parts-clause-memory
returns-in-Err-take_parts-clause-memory g c =
    let u = c.pieces.invariant.under in
    let text : List ℕ = u.text ++ c.as_slice.result.now in
    let taken : HasTaken (g.P.PartsSoFar.Took c.args.so_far.now c.args.with.now c.pieces.so_far c.pieces.with) text u.known.parts c.push.new.self.come =
    record { stands = c.in-Ok-push.ensures.pushed u.text u.known.parts u.known.taken.stands; took = u.known.taken.took } in
    let report = c.in-Err-take_parts.ensures.report c.args.so_far.now c.args.with.now text u.known.parts taken in
    parts-never (g.P.PartsSoFar.Took c.args.so_far.now c.args.with.now c.take_parts.new.so_far c.take_parts.new.with)
    (g.P.PartsSoFar.Breaks c.args.so_far.now c.args.with.now c.take_parts.new.so_far c.take_parts.new.with) text c.take_parts.new.reader c.in-Err-take_parts.stop report

pub returns-in-Err-take_parts-clause-failed : goal.returns-in-Err-take_parts-clause-failed
returns-in-Err-take_parts-clause-failed g c =
    let u = c.pieces.invariant.under in
    let text : List ℕ = u.text ++ c.as_slice.result.now in
    let taken : HasTaken (g.P.PartsSoFar.Took c.args.so_far.now c.args.with.now c.pieces.so_far c.pieces.with) text u.known.parts c.push.new.self.come =
    record { stands = c.in-Ok-push.ensures.pushed u.text u.known.parts u.known.taken.stands; took = u.known.taken.took } in
    let report = c.in-Err-take_parts.ensures.report c.args.so_far.now c.args.with.now text u.known.parts taken in
    counts_none _ _ _ _ (parts-no-fetch (g.P.PartsSoFar.Took c.args.so_far.now c.args.with.now c.take_parts.new.so_far c.take_parts.new.with) (g.P.PartsSoFar.Breaks c.args.so_far.now c.args.with.now
    c.take_parts.new.so_far c.take_parts.new.with) text c.take_parts.new.reader c.in-Err-take_parts.stop fetch.Failed report) c.pieces.invariant.faults c.in-Ok.ensures.failed.later

pub returns-in-Err-take_parts-clause-missing : goal.returns-in-Err-take_parts-clause-missing
returns-in-Err-take_parts-clause-missing g c =
    let u = c.pieces.invariant.under in
    let text : List ℕ = u.text ++ c.as_slice.result.now in
    let taken : HasTaken (g.P.PartsSoFar.Took c.args.so_far.now c.args.with.now c.pieces.so_far c.pieces.with) text u.known.parts c.push.new.self.come =
    record { stands = c.in-Ok-push.ensures.pushed u.text u.known.parts u.known.taken.stands; took = u.known.taken.took } in
    let report = c.in-Err-take_parts.ensures.report c.args.so_far.now c.args.with.now text u.known.parts taken in
    counts_none _ _ _ _ (parts-no-fetch (g.P.PartsSoFar.Took c.args.so_far.now c.args.with.now c.take_parts.new.so_far c.take_parts.new.with) (g.P.PartsSoFar.Breaks c.args.so_far.now c.args.with.now
    c.take_parts.new.so_far c.take_parts.new.with) text c.take_parts.new.reader c.in-Err-take_parts.stop fetch.Missing report) c.pieces.invariant.misses c.in-Ok.ensures.missing.later

pub returns-in-Err-take_parts-clause-too_long : goal.returns-in-Err-take_parts-clause-too_long
returns-in-Err-take_parts-clause-too_long g c =
    let u = c.pieces.invariant.under in
    let text : List ℕ = u.text ++ c.as_slice.result.now in
    let taken : HasTaken (g.P.PartsSoFar.Took c.args.so_far.now c.args.with.now c.pieces.so_far c.pieces.with) text u.known.parts c.push.new.self.come =
    record { stands = c.in-Ok-push.ensures.pushed u.text u.known.parts u.known.taken.stands; took = u.known.taken.took } in
    let report = c.in-Err-take_parts.ensures.report c.args.so_far.now c.args.with.now text u.known.parts taken in
    counts_none _ _ _ _ (parts-no-fetch (g.P.PartsSoFar.Took c.args.so_far.now c.args.with.now c.take_parts.new.so_far c.take_parts.new.with) (g.P.PartsSoFar.Breaks c.args.so_far.now c.args.with.now
    c.take_parts.new.so_far c.take_parts.new.with) text c.take_parts.new.reader c.in-Err-take_parts.stop fetch.TooLong report) c.pieces.invariant.overs c.in-Ok.ensures.too_long.later

pub returns-then-count-eq0-clause-any : goal.returns-then-count-eq0-clause-any
returns-then-count-eq0-clause-any g c =
    let u = c.pieces.invariant.under in
    let text : List ℕ = u.text ++ c.as_slice.result.now in
    let taken : HasTaken (g.P.PartsSoFar.Took c.args.so_far.now c.args.with.now c.pieces.so_far c.pieces.with) text u.known.parts c.push.new.self.come =
    record { stands = c.in-Ok-push.ensures.pushed u.text u.known.parts u.known.taken.stands; took = u.known.taken.took } in
    let all = c.in-Ok-take_parts.ensures.report c.args.so_far.now c.args.with.now text u.known.parts taken in
    (text, all)

pub returns-then-count-eq0-clause-reported : goal.returns-then-count-eq0-clause-reported
returns-then-count-eq0-clause-reported g c = λ whole is.
    let u = c.pieces.invariant.under in
    let text : List ℕ = u.text ++ c.as_slice.result.now in
    let taken : HasTaken (g.P.PartsSoFar.Took c.args.so_far.now c.args.with.now c.pieces.so_far c.pieces.with) text u.known.parts c.push.new.self.come =
    record { stands = c.in-Ok-push.ensures.pushed u.text u.known.parts u.known.taken.stands; took = u.known.taken.took } in
    let all = c.in-Ok-take_parts.ensures.report c.args.so_far.now c.args.with.now text u.known.parts taken in
    let none = c.clear.ensures.items in
    let same = c.as_slice.ensures.value in
    let many = all-new _ _ _ c.in-Ok.count none same c.in-Ok.ensures.ok in
    let within : g.S.Shelf.given c.pieces.shelf + c.in-Ok.count ≤ most_given = omega (arith, c.in-Ok.ensures.given, c.in-Ok.ensures.limit) in
    let first = λ (left : List ℕ) (e : g.S.Shelf.rest c.pieces.shelf ≡ Some left). first-of left _ _ _ c.in-Ok.count none same (c.in-Ok.ensures.reported left e) in
    last-taken (g.P.PartsSoFar.Took c.args.so_far.now c.args.with.now c.pieces.so_far c.pieces.with) _ _ _ c.pieces.reader u c.as_slice.result.now c.in-Ok.count many within first
    (g.P.PartsSoFar.Took c.args.so_far.now c.args.with.now c.take_parts.new.so_far c.take_parts.new.with) c.take_parts.new.reader all c.if-count-eq0.true whole is

pub returns-then-count-eq0-clause-fetched : goal.returns-then-count-eq0-clause-fetched
returns-then-count-eq0-clause-fetched g c =
    let i = c.pieces.invariant in
    one-call i.pieces _ _ _ _ i.asked c.in-Ok.ensures.fetched (omega (arith, i.few, c.in-Ok.ensures.given))

pub pieces-preserved : goal.pieces-preserved
pieces-preserved g c =
    let i = c.pieces.invariant in
    let u = c.pieces.invariant.under in
    let text : List ℕ = u.text ++ c.as_slice.result.now in
    let taken : HasTaken (g.P.PartsSoFar.Took c.args.so_far.now c.args.with.now c.pieces.so_far c.pieces.with) text u.known.parts c.push.new.self.come =
    record { stands = c.in-Ok-push.ensures.pushed u.text u.known.parts u.known.taken.stands; took = u.known.taken.took } in
    let all = c.in-Ok-take_parts.ensures.report c.args.so_far.now c.args.with.now text u.known.parts taken in
    let none = c.clear.ensures.items in
    let same = c.as_slice.ensures.value in
    let many = all-new _ _ _ c.in-Ok.count none same c.in-Ok.ensures.ok in
    let within : g.S.Shelf.given c.pieces.shelf + c.in-Ok.count ≤ most_given = omega (arith, c.in-Ok.ensures.given, c.in-Ok.ensures.limit) in
    let first = λ (left : List ℕ) (e : g.S.Shelf.rest c.pieces.shelf ≡ Some left). first-of left _ _ _ c.in-Ok.count none same (c.in-Ok.ensures.reported left e) in
    record {
      same = c.in-Ok.ensures.same ∙ i.same;
      stays = c.in-Ok.ensures.open_stays;
      under = more-taken (g.P.PartsSoFar.Took c.args.so_far.now c.args.with.now c.pieces.so_far c.pieces.with) _ _ _ c.pieces.reader u c.as_slice.result.now c.in-Ok.count many within first
          (g.P.PartsSoFar.Took c.args.so_far.now c.args.with.now c.take_parts.new.so_far c.take_parts.new.with) c.take_parts.new.reader all _ _ c.in-Ok.ensures.rest c.in-Ok.ensures.given;
      pieces = i.pieces + 1;
      few = omega (arith, i.few, c.in-Ok.ensures.given, c.if-count-eq0.false);
      asked = one-more i.pieces _ _ _ i.asked c.in-Ok.ensures.fetched;
      named = c.in-Ok.ensures.named ∙ i.named;
      faults = omega (arith, i.faults, c.in-Ok.ensures.failed.later);
      misses = omega (arith, i.misses, c.in-Ok.ensures.missing.later);
      overs = omega (arith, i.overs, c.in-Ok.ensures.too_long.later);
      writes = omega (arith, i.writes, c.in-Ok-take_parts.ensures.written.later);
    }
