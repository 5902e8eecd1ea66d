use Rattle.std.proofs.Common.{◌≡◌, ℕ, List, None, refl}
use Rattle.mari_lines.specs.declared.line.Line.{Line}
use Rattle.mari_lines.specs.declared.line.Line.TheVariants as line
use Rattle.mari_publish.specs.declared.held.Held.TheVariants as held
use Rattle.mari_publish.specs.declared.held.Kept.{Kept}
use Rattle.mari_publish.specs.Order.{after}
use Rattle.mari_publish.proofs.Refusals.{refused_so}
use Rattle.mari_publish.proofs.follow.heading.at_start.Goals as goal

no_head : (k : Kept) (l : Line) → ((date : List ℕ) (quarters budget : ℕ) → l ≡ line.Head date quarters budget → ⊥) → after k held.Start l ≡ None
no_head k (line.Head date quarters budget) h = absurd (h date quarters budget refl)
no_head k _ h = refl

pub returns-in_default : goal.returns-in_default
returns-in_default c = refused_so _ _ _ _ (no_head c.args.kept.now c.args.line c.in_default.not-Head) c.refuse_line.ensures.kept c.refuse_line.ensures.refused
