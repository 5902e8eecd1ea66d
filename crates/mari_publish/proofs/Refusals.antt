-- A line that may not follow is refused.
use Rattle.std.proofs.Common.{◌≡◌, Option, None, Result, Err, sym, subst}
use Rattle.mari_publish.specs.declared.publication.Part.{Part}
use Rattle.mari_publish.specs.declared.held.Kept.{Kept}
use Rattle.mari_publish.specs.declared.follow.step.FollowFault.{FollowFault}
use Rattle.mari_publish.specs.declared.follow.step.FollowFault.TheVariants as follow_fault
use Rattle.mari_publish.specs.Order.{Follows}

pub refused_so : (o : Option (Kept × Option Part)) (a b : Kept) (r : Result (Option Part) FollowFault) → o ≡ None → b ≡ a → r ≡ Err follow_fault.OutOfOrder → Follows o a b r
refused_so o a b r none same is = subst (λ x. Follows o a b x) (sym is) (none, same)
