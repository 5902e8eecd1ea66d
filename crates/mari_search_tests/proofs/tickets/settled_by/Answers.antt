use Rattle.std.proofs.Common.{◌≡◌, ◌<◌, length, arith, ap, subst}
use Rattle.mari_market.specs.declared.market.Market.{Market}
use Rattle.mari_market.specs.Finding.{IsFinding}
use Rattle.mari_market.specs.Prefix.{word_of}
use Rattle.mari_gates.proofs.Decisions.{length-decisions}
use Rattle.mari_workers.proofs.Visits.{open_reached}
use Rattle.mari_search_tests.proofs.tickets.settled_by.Goals as goal

pub settle-settled-requires-clause-finding : goal.settle-settled-requires-clause-finding
settle-settled-requires-clause-finding g c =
    let x = c.args.ticket.prefix in
    let long : length (word_of x) ≡ x.length = length-decisions x x.length in
    let within : length (word_of x) < length g.N.SearchName.market.gates =
    omega (arith, long, c.if-ticket-as_slice.false, ap length c.as_slice.ensures, ap (λ (m : Market). length m.gates) c.requires.market.0) in
    record {
      finding_is = subst (λ (m : Market). IsFinding m (word_of x) c.in_ok-finding.finding) c.requires.market.0 c.in_ok-finding.ensures.finding;
      reached = open_reached g.N.SearchName.market (word_of x) c.args.seat.now.seen c.in_ok-finding.finding within;
    }
