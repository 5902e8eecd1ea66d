use Rattle.std.proofs.Common.{◌≡◌, ℕ, None, refl}
use Rattle.mari_lines.specs.declared.line.Heading.{Heading}
use Rattle.mari_lines.specs.declared.line.Line.{Line}
use Rattle.mari_lines.specs.declared.line.Line.TheVariants as line
use Rattle.mari_publish.specs.declared.held.Held.TheVariants as held
use Rattle.mari_publish.specs.declared.held.Kept.{Kept}
use Rattle.mari_publish.specs.Order.{after}
use Rattle.mari_publish.proofs.Refusals.{refused_so}
use Rattle.mari_publish.proofs.follow.heading.after_heading.Goals as goal

no_welfare : (k : Kept) (h : Heading) (l : Line) → ((n : ℕ) → l ≡ line.Welfare n → ⊥) → after k (held.Run h) l ≡ None
no_welfare k h (line.Welfare n) not = absurd (not n refl)
no_welfare k h _ not = refl

pub returns-in_default : goal.returns-in_default
returns-in_default c = refused_so _ _ _ _ (no_welfare c.args.kept.now c.args.heading c.args.line c.in_default.not-Welfare) c.refuse_line.ensures.kept c.refuse_line.ensures.refused
