use Rattle.std.proofs.Common.{◌≡◌, ◌<◌, ℕ, List, length, sym, ap, ◌∙◌, subst, get_or, Vec, Global}
use Rattle.std.specs.List.{All}
use Rattle.mari_market.specs.declared.market.Border.{Border}
use Rattle.mari_market.specs.Market.{IsBetween}
use Rattle.mari_network.specs.declared.network.Rung.{Rung}
use Rattle.mari_network.specs.declared.network.Crossing.{Crossing}
use Rattle.mari_network.specs.Network.{AreMeeting, IsLadder}
use Rattle.mari_network.proofs.network.network_of.Goals as goal

pub returns-clause-network : goal.returns-clause-network
returns-clause-network c =
    let places = c.requires.places in
    let zones : length c.as_slice-meeting.result.now ≡ c.args.market.now.zones =
    ap (λ (vs : List (Vec Crossing Global)). length vs) c.as_slice-meeting.ensures.value ∙ c.requires.places.meeting_long in
    record {
      small = λ k d l. (c.requires.slots k d l).small;
      zones = λ k d l. subst (λ (n : ℕ). (get_or c.args.slots.now k d).zone < n) (sym zones) (c.requires.slots k d l).zone;
      ends = subst (λ (bs : List Border). All (IsBetween (length c.as_slice-meeting.result.now)) bs) (sym c.as_slice-borders.ensures)
          (subst (λ (n : ℕ). All (IsBetween n) c.args.market.now.borders) (sym zones) (λ k d l. let b = c.requires.market.borders k d l in (b.from, b.to)));
      as_many = ap (λ (vs : List (Vec Rung Global)). length vs) c.as_slice-ladders.ensures.value ∙ c.requires.places.ladders_long ∙ sym zones;
      few = places.few;
      stand_ins = places.stand_ins;
      ladders = λ z v l. subst (λ (vs : List (Vec Rung Global)). IsLadder c.args.slots.now c.args.places.now.on_ladders z (get_or vs z v).items) (sym c.as_slice-ladders.ensures.value)
          (places.ladders z v (subst (λ (n : ℕ). z < n) zones l));
      meeting = λ z v l. subst (λ (bs : List Border). AreMeeting bs z (get_or c.as_slice-meeting.result.now z v).items) (sym c.as_slice-borders.ensures)
          (subst (λ (vs : List (Vec Crossing Global)). AreMeeting c.args.market.now.borders z (get_or vs z v).items) (sym c.as_slice-meeting.ensures.value)
          (places.meeting z v (subst (λ (n : ℕ). z < n) zones l)));
    }

pub returns-clause-same : goal.returns-clause-same
returns-clause-same c = record {
  zones = ap (λ (vs : List (Vec Crossing Global)). length vs) c.as_slice-meeting.ensures.value ∙ c.requires.places.meeting_long;
  borders = c.as_slice-borders.ensures;
  orders = c.requires.sides;
}
