use Rattle.std.proofs.Common.{List, subst, get_or}
use Rattle.mari_market.specs.declared.market.Border.{Border}
use Rattle.mari_network.specs.Network.{AreMeeting}
use Rattle.mari_network.proofs.network.places_of.Goals as goal

pub returns-clause-places : goal.returns-clause-places
returns-clause-places c = record {
  ladders_long = c.in_ok-ladders.ensures.long;
  meeting_long = c.in_ok-meeting.ensures.long;
  few = c.requires.few;
  stand_ins = c.requires.stand_ins;
  ladders = c.in_ok-ladders.ensures.ladders;
  meeting = λ z v l. subst (λ (bs : List Border). AreMeeting bs z (get_or c.in_ok-meeting.meeting.items z v).items) c.as_slice-borders.ensures (c.in_ok-meeting.ensures.meeting z v l);
}
