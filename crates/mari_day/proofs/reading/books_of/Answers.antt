use Rattle.mari_day.proofs.reading.books_of.Goals as goal

pub returns-clause-accepted : goal.returns-clause-accepted
returns-clause-accepted c = record {
  quarters = c.in_ok-day.ensures.facts.quarters.1;
  zones = c.in_ok-zones.ensures.facts;
  borders = c.in_ok-borders.ensures.facts;
  bids = c.in_ok-bids.ensures.facts;
  links = c.in_ok-links.ensures.facts;
  runs = c.in_ok-runs.ensures.facts;
  demands = c.in_ok-demands.ensures.facts;
  limits = c.in_ok-limits.ensures.facts;
}
