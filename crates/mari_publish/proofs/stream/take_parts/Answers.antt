use Rattle.std.proofs.Common.{◌++◌, [], ◌∷◌, arith}
use Rattle.mari_publish.proofs.FirstParts.{come_parts}
use Rattle.mari_publish.proofs.Paging.{next-part, next-stands}
use Rattle.mari_publish.proofs.PartCounts.{fewer-left}
use Rattle.mari_publish.proofs.Streaming.{all-taken, fault-reported}
use Rattle.mari_publish.proofs.stream.take_parts.Goals as goal

pub take-requires : goal.take-requires
take-requires g c =
    let r = c.requires in
    let s = c.parts.invariant.taken r.0 r.1 r.2 r.3 r.4 in
    (r.0, r.1, r.2, s.0, s.1.took, next-part r.2 s.0 c.in-Ok-Some.field-0 c.in-Ok-Some.part c.in-Ok-Some.field-0-is (c.in-Ok-Some.ensures.next r.2 s.0 s.1.stands))

pub parts-smaller : goal.parts-smaller
parts-smaller g c =
    let r = c.requires in
    let s = c.parts.invariant.taken r.0 r.1 r.2 r.3 r.4 in
    fewer-left _ _ r.2 s.0 c.in-Ok-Some.part s.1.stands (next-stands _ r.2 s.0 c.in-Ok-Some.field-0 c.in-Ok-Some.part c.in-Ok-Some.field-0-is (c.in-Ok-Some.ensures.stands r.2 s.0 s.1.stands))

pub parts-preserved : goal.parts-preserved
parts-preserved g c = record {
  taken = λ first lent text parts taken.
      let s = c.parts.invariant.taken first lent text parts taken in
      let x = c.in-Ok-Some.part in
      let there = next-part text s.0 c.in-Ok-Some.field-0 x c.in-Ok-Some.field-0-is (c.in-Ok-Some.ensures.next text s.0 s.1.stands) in
      let after = next-stands _ text s.0 c.in-Ok-Some.field-0 x c.in-Ok-Some.field-0-is (c.in-Ok-Some.ensures.stands text s.0 s.1.stands) in
      (s.0 ++ x ∷ [], record { stands = after; took = c.in-Ok.ensures.took first lent text s.0 s.1.took there });
  faults = omega (arith, c.parts.invariant.faults, c.in-Ok.ensures.cause.later);
}

pub returns-in-Ok-None-clause-report : goal.returns-in-Ok-None-clause-report
returns-in-Ok-None-clause-report g c = λ first lent text parts taken.
    let s = c.parts.invariant.taken first lent text parts taken in
    all-taken _ text s.0 _ c.in-Ok-None.field-0 c.in-Ok-None.field-0-is (c.in-Ok-None.ensures.next text s.0 s.1.stands)
    (c.in-Ok-None.ensures.stands text s.0 s.1.stands) c.in-Ok-None.ensures.waits s.1.took

pub returns-in-Err-clause-report : goal.returns-in-Err-clause-report
returns-in-Err-clause-report g c = λ first lent text parts taken.
    let s = c.parts.invariant.taken first lent text parts taken in
    rw c.stop_of_reader.ensures
    (fault-reported _ text s.0 _ s.1 (g.P.PartsSoFar.Breaks first lent c.parts.so_far c.parts.with) c.next.new.self c.in-Err.fault (c.in-Err.ensures.next text s.0 s.1.stands))

pub returns-in-Err-take-clause-report : goal.returns-in-Err-take-clause-report
returns-in-Err-take-clause-report g c = λ first lent text parts taken.
    let s = c.parts.invariant.taken first lent text parts taken in
    let x = c.in-Ok-Some.part in
    let there = next-part text s.0 c.in-Ok-Some.field-0 x c.in-Ok-Some.field-0-is (c.in-Ok-Some.ensures.next text s.0 s.1.stands) in
    record { parts = s.0; part = x; first = come_parts c.parts.reader.come text s.0 s.1.stands; there = there; broke = c.in-Err-take.ensures.breaks first lent text s.0 s.1.took there }
