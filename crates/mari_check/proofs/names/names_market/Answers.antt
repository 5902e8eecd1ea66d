use Rattle.std.proofs.Common.{◌∙◌, ap, arith, length, sym}
use Rattle.std.proofs.lemmas.Bool.Decides.{nat_tests}
use Rattle.mari_progress.specs.Reported.{NamesMarket}
use Rattle.mari_check.proofs.Naming.{bids-of, borders-of, names-of, zones-of}
use Rattle.mari_check.proofs.Zips.{refuted}
use Rattle.mari_check.proofs.names.names_market.Goals as goal

pub returns-then-not-zones_named : goal.returns-then-not-zones_named
returns-then-not-zones_named c =
    refuted (NamesMarket c.args.books.now c.args.made.now c.args.block.now) c.zones_named.result c.if-not-zones_named.true
    (λ h. c.zones_named.ensures.1 (rw c.as_slice.ensures (zones-of c.args.books.now c.args.made.now c.args.block.now h)))

pub returns-then-not-borders_named : goal.returns-then-not-borders_named
returns-then-not-borders_named c =
    refuted (NamesMarket c.args.books.now c.args.made.now c.args.block.now) c.borders_named.result c.if-not-borders_named.true
    (λ h. c.borders_named.ensures.1 (rw (c.as_slice-borders.ensures, c.as_slice-2.ensures) (borders-of c.args.books.now c.args.made.now c.args.block.now h)))

pub returns-then-not-bids_named : goal.returns-then-not-bids_named
returns-then-not-bids_named c =
    refuted (NamesMarket c.args.books.now c.args.made.now c.args.block.now) c.bids_named.result c.if-not-bids_named.true
    (λ h. c.bids_named.ensures.1 (rw (c.as_slice-3.ensures, c.as_slice-4.ensures) (bids-of c.args.books.now c.args.made.now c.args.block.now h)))

pub returns : goal.returns
returns c =
    let zones = rw c.as_slice.ensures at (c.zones_named.ensures.0 c.if-not-zones_named.false) in
    let borders = rw (c.as_slice-borders.ensures, c.as_slice-2.ensures) at (c.borders_named.ensures.0 c.if-not-borders_named.false) in
    let bids = rw (c.as_slice-3.ensures, c.as_slice-4.ensures) at (c.bids_named.ensures.0 c.if-not-bids_named.false) in
    let same = ap length c.as_slice-5.ensures in (
      λ t. names-of c.args.books.now c.args.made.now c.args.block.now zones borders bids (sym same ∙ grind (arith, nat_tests, t)),
      λ h. let many = h.demands in grind (arith, nat_tests, same, many),
    )
