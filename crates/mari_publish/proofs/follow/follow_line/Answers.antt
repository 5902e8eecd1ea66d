use Rattle.std.proofs.Common.{◌≡◌, ℕ, List, Option, Result, refl, sym, subst}
use Rattle.mari_lines.specs.declared.line.AmountLine.{AmountLine}
use Rattle.mari_lines.specs.declared.line.MoneyLine.{MoneyLine}
use Rattle.mari_lines.specs.declared.line.Line.{Line}
use Rattle.mari_lines.specs.declared.line.Line.TheVariants as line
use Rattle.mari_publish.specs.declared.held.Ending.{Ending}
use Rattle.mari_publish.specs.declared.held.Held.{Held}
use Rattle.mari_publish.specs.declared.held.Held.TheVariants as held
use Rattle.mari_publish.specs.declared.publication.Part.{Part}
use Rattle.mari_publish.specs.declared.held.Kept.{Kept}
use Rattle.mari_publish.specs.declared.follow.step.FollowFault.{FollowFault}
use Rattle.mari_publish.specs.Order.{after, after_ending, after_growing, after_listing, after_totals, keeps, kept_with, Follows}
use Rattle.mari_publish.proofs.follow.follow_line.Goals as goal

-- by what is held
in_held : (k new : Kept) (h : Held) (l : Line) (r : Result (Option Part) FollowFault) → k.held ≡ h → Follows (after k h l) (kept_with k h) new r → Follows (after k k.held l) k new r
in_held k new h l r is f = subst (λ x. Follows (after k x l) (kept_with k x) new r) (sym is) f

in_ending : (k new : Kept) (e : Ending) (l : Line) (r : Result (Option Part) FollowFault) → ((run : ℕ) → l ≡ line.End run → ⊥)
    → Follows (keeps k (after_ending e l)) (kept_with k (held.Ending e)) new r → Follows (after k (held.Ending e) l) (kept_with k (held.Ending e)) new r
in_ending k new e (line.End run) r not f = absurd (not run refl)
in_ending k new e _ r not f = f

in_totals : (k new : Kept) (os : List MoneyLine) (ps : List AmountLine) (l : Line) (r : Result (Option Part) FollowFault) → ((m n : ℕ) → l ≡ line.Done m n → ⊥)
    → Follows (keeps k (after_totals os ps l)) (kept_with k (held.Totals os ps)) new r → Follows (after k (held.Totals os ps) l) (kept_with k (held.Totals os ps)) new r
in_totals k new os ps (line.Done m n) r not f = absurd (not m n refl)
in_totals k new os ps _ r not f = f

pub returns-in_default : goal.returns-in_default
returns-in_default c =
    let k = c.args.kept.now in
    let b = c.in-Listing.block in
    in_held k _ (held.Listing b) c.args.line _ c.in-Listing.is (c.no_part.ensures k (after_listing b c.args.line) (held.Listing b) (held.Listing c.list_line.new.block) c.list_line.ensures)

pub returns-in_default-line : goal.returns-in_default-line
returns-in_default-line c =
    let k = c.args.kept.now in
    let g = c.in-Growing.growing in
    in_held k _ (held.Growing g) c.args.line _ c.in-Growing.is
    (c.no_part-in_default-line.ensures k (after_growing g g.pending c.args.line) (held.Growing g) (held.Growing c.grow.new.growing) c.grow.ensures)

pub returns-in_default-line-2 : goal.returns-in_default-line-2
returns-in_default-line-2 c =
    let k = c.args.kept.now in
    let e = c.in-Ending.ending in
    in_held k _ (held.Ending e) c.args.line _ c.in-Ending.is (in_ending k _ e c.args.line _ c.in_default-line-2.not-End
    (c.no_part-in_default-line-2.ensures k (after_ending e c.args.line) (held.Ending e) (held.Ending c.list_party.new.ending) c.list_party.ensures))

pub returns-in_default-line-3 : goal.returns-in_default-line-3
returns-in_default-line-3 c =
    let k = c.args.kept.now in
    let os = c.in-Totals.operators in
    let ps = c.in-Totals.providers in
    in_held k _ (held.Totals os ps) c.args.line _ c.in-Totals.is (in_totals k _ os ps c.args.line _ c.in_default-line-3.not-Done
    (c.no_part-in_default-line-3.ensures k (after_totals os ps c.args.line) (held.Totals os ps) (held.Totals c.list_total.new.operators c.list_total.new.providers) c.list_total.ensures))
