use Rattle.std.proofs.lemmas.List.Elements.{All-push}
use Rattle.std.proofs.Common.{ℕ, ◌+◌, ◌≤◌, List, length, arith, refl, ◌∙◌, add-one, length-append}
use Rattle.mari_units.specs.declared.limits.TheConstants.{MOST_PAGE}
use Rattle.mari_day.specs.declared.files.File.TheVariants.{Day}
use Rattle.mari_day.specs.Files.{files}
use Rattle.mari_day.proofs.Fetched.{at_fault, gap_after, held_more, whole, one_more, some_fetched}
use Rattle.mari_day.proofs.pages.fetch_seven.Goals as goal

pub loop-file-preserved : goal.loop-file-preserved
loop-file-preserved g c = record {
  same = c.in-Ok.ensures.same ∙ c.loop-file.invariant.same;
  all = refl;
  count = simp (c.in-Ok-push.ensures.items, length-append) (omega (arith, c.loop-file.invariant.count));
  small = rw c.in-Ok-push.ensures.items (All-push (λ (page : List ℕ). length page ≤ MOST_PAGE) c.loop-file.pages.items c.in-Ok.page c.loop-file.invariant.small c.in-Ok.ensures.small);
  fetched = one_more c.loop-file.file-index (g.S.Shelf.fetches c.args.shelf.now) _ _ c.loop-file.invariant.fetched c.in-Ok.ensures.fetched;
  held = λ reported e.
      let states = c.in-Ok.ensures.reported reported (c.loop-file.invariant.same ∙ e) in
      rw (c.in-Ok-push.ensures.items, add-one)
      (held_more reported c.args.folder.now files c.loop-file.pages.items c.in-Ok.page c.loop-file.file-index Day c.loop-file-test.true (c.loop-file.invariant.held reported e) states.0);
  no_gap = λ reported e.
      let states = c.in-Ok.ensures.reported reported (c.loop-file.invariant.same ∙ e) in
      c.loop-file.invariant.no_gap reported e ∙ rw add-one (gap_after reported c.args.folder.now files c.loop-file.file-index Day c.loop-file-test.true states.1);
  faults = omega (arith, c.loop-file.invariant.faults, c.in-Ok.ensures.failed.later);
  misses = omega (arith, c.loop-file.invariant.misses, c.in-Ok.ensures.missing.later);
  overs = omega (arith, c.loop-file.invariant.overs, c.in-Ok.ensures.too_long.later);
}

pub returns-clause-reported : goal.returns-clause-reported
returns-clause-reported g c = λ reported e.
    rw c.of.ensures (whole reported c.args.folder.now c.loop-file.pages.items c.loop-file.file-index (omega arith) (c.loop-file.invariant.held reported e) (c.loop-file.invariant.no_gap reported e))

pub returns-in-Err-clause-fetched : goal.returns-in-Err-clause-fetched
returns-in-Err-clause-fetched g c =
    at_fault c.loop-file.file-index (g.S.Shelf.fetches c.args.shelf.now) _ _ c.in-Err.fault c.loop-file.invariant.fetched (c.loop-file-test.true)
    c.in-Err.ensures.fetched c.in-Err.ensures.file

pub returns-in-Err-push-clause-fetched : goal.returns-in-Err-push-clause-fetched
returns-in-Err-push-clause-fetched g c =
    some_fetched (c.loop-file.file-index + 1) (g.S.Shelf.fetches c.args.shelf.now) _
    (one_more c.loop-file.file-index (g.S.Shelf.fetches c.args.shelf.now) _ _ c.loop-file.invariant.fetched c.in-Ok.ensures.fetched)
    (omega (arith, c.loop-file-test.true))
