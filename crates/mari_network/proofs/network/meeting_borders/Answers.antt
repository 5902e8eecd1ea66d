use Rattle.std.proofs.Common.{◌++◌, ◌∷◌, [], true, false, sym, ℕ, get_or, ap, ◌∙◌, arith, Vec, Global}
use Rattle.mari_network.specs.declared.network.Crossing.{Crossing}
use Rattle.mari_network.specs.Network.{border_at, crossing_of}
use Rattle.mari_network.proofs.Meetings.{meeting_more, meeting_all}
use Rattle.mari_network.proofs.network.meeting_borders.Goals as goal

pub loop-i-preserved : goal.loop-i-preserved
loop-i-preserved c = record {
  long = c.add_to-in-loop-i.ensures.long ∙ c.add_to.ensures.long ∙ c.loop-i.invariant.long;
  meeting = λ z d l.
      meeting_more c.args.borders.now c.loop-i.i z (get_or c.loop-i.meeting.items z d).items (get_or c.add_to.new.lists.items z d).items
      (get_or c.add_to-in-loop-i.new.lists.items z d).items c.loop-i-test.true
      (record {
        here = λ e. ap (λ (k : ℕ). (get_or c.add_to.new.lists.items k d).items) e
            ∙ c.in_ok-add_to.ensures.here d d
            ∙ ap (λ (w : Crossing). (get_or c.loop-i.meeting.items (border_at c.args.borders.now c.loop-i.i).from d).items ++ w ∷ []) c.crossing_over.ensures
            ∙ ap (λ (k : ℕ). (get_or c.loop-i.meeting.items k d).items ++ crossing_of c.args.borders.now c.loop-i.i false ∷ []) (sym e);
        other = λ n. ap (λ (v : Vec Crossing Global). v.items) (c.add_to.ensures.others z d n);
      })
      (record {
        here = λ e. ap (λ (k : ℕ). (get_or c.add_to-in-loop-i.new.lists.items k d).items) e
            ∙ c.in_ok-add_to-2.ensures.here d d
            ∙ ap (λ (w : Crossing). (get_or c.add_to.new.lists.items (border_at c.args.borders.now c.loop-i.i).to d).items ++ w ∷ []) c.crossing_over-in-loop-i.ensures
            ∙ ap (λ (k : ℕ). (get_or c.add_to.new.lists.items k d).items ++ crossing_of c.args.borders.now c.loop-i.i true ∷ []) (sym e);
        other = λ n. ap (λ (v : Vec Crossing Global). v.items) (c.add_to-in-loop-i.ensures.others z d n);
      })
      (c.loop-i.invariant.meeting z d l);
}

pub returns-clause-meeting : goal.returns-clause-meeting
returns-clause-meeting c = λ z d l.
    meeting_all c.args.borders.now c.loop-i.i z (get_or c.loop-i.meeting.items z d).items (omega (arith, c.loop-i-test.false, c.loop-i.auto.i-end))
    (c.loop-i.invariant.meeting z d l)
