-- A list of events, at the next of them.
use Rattle.std.proofs.Common.{◌≡◌, ℕ, ◌+◌, List, ◌∷◌, length, Option, None, arith, sym, ap, subst, ◌∙◌}
use Rattle.mari_core.specs.declared.event.Event.{Event}
use Rattle.mari_core.specs.declared.event.StepFault.{StepFault}
use Rattle.mari_core.specs.Machine.{Machine, after, refusal, KeepsFacts}
use Rattle.mari_core.specs.Replay.{after_all, first_refusal, refused_or, AreProper}

-- after the first `place` of all events the search stands here, and these are left
pub record AtEvent (start : Machine) (all : List Event) (s : Machine) (place : ℕ) (left : List Event) : Type 0 where
  pub leads : after_all start all ≡ after_all s left
  pub refused : first_refusal 0 start all ≡ first_refusal place s left
  pub proper : AreProper s left
  pub count : place + length left ≡ length all
  pub facts : KeepsFacts s

-- the next is taken
pub event_taken : (start s s' : Machine) (all left left' : List Event) (place : ℕ) (e : Event)
    → AtEvent start all s place left → left ≡ e ∷ left' → refusal s e ≡ None → s' ≡ after s e → KeepsFacts s'
    → AtEvent start all s' (place + 1) left'
event_taken start s s' all left left' place e a is none next k =
    let here : AtEvent start all s place (e ∷ left') = subst (λ (es : List Event). AtEvent start all s place es) is a in
    subst (λ (m : Machine). KeepsFacts m → AtEvent start all m (place + 1) left') (sym next)
    (λ facts. record {
      leads = here.leads;
      refused = here.refused ∙ ap (λ (o : Option StepFault). refused_or (place + 1) o (first_refusal (place + 1) (after s e) left')) none;
      proper = here.proper.1 none;
      count = omega (arith, here.count);
      facts = facts;
    }) k
