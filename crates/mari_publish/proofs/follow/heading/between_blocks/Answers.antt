use Rattle.std.proofs.Common.{◌≡◌, ℕ, None, refl}
use Rattle.mari_lines.specs.declared.line.Heading.{Heading}
use Rattle.mari_lines.specs.declared.line.MoneyLine.{MoneyLine}
use Rattle.mari_lines.specs.declared.line.Line.{Line}
use Rattle.mari_lines.specs.declared.line.Line.TheVariants as line
use Rattle.mari_publish.specs.declared.held.Kept.{Kept}
use Rattle.mari_publish.specs.Order.{starts_block}
use Rattle.mari_publish.proofs.Refusals.{refused_so}
use Rattle.mari_publish.proofs.follow.heading.between_blocks.Goals as goal

no_start : (k : Kept) (l : Line) → ((h : Heading) → l ≡ line.Run h → ⊥) → ((h : Heading) (count : ℕ) → l ≡ line.Unpublished h count → ⊥) → ((o : MoneyLine) → l ≡ line.TotalOperator o → ⊥)
    → starts_block k l ≡ None
no_start k (line.Run h) a b t = absurd (a h refl)
no_start k (line.Unpublished h count) a b t = absurd (b h count refl)
no_start k (line.TotalOperator o) a b t = absurd (t o refl)
no_start k _ a b t = refl

pub returns-in_default : goal.returns-in_default
returns-in_default c =
    refused_so _ _ _ _ (no_start c.args.kept.now c.args.line c.in_default.not-Run c.in_default.not-Unpublished c.in_default.not-TotalOperator) c.refuse_line.ensures.kept c.refuse_line.ensures.refused
