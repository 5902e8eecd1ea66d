use Rattle.std.proofs.Common.{◌==◌, ◌&&◌, ◌||◌, ◌∙◌, ◌<◌, Bool, ℕ, Option, ap, arith, length, sym}
use Rattle.std.proofs.lemmas.Option.{IfSome_then}
use Rattle.mari_market.specs.Prefix.{opens_in}
use Rattle.mari_gates.proofs.Decisions.{parent_at}
use Rattle.mari_reach.specs.State.{is_opened}
use Rattle.mari_reach.proofs.Lines.{parent_there}
use Rattle.mari_reach.proofs.closing.close_below.Goals as goal

pub has_some-is_below-requires : goal.has_some-is_below-requires
has_some-is_below-requires c =
    let wider : (h : ℕ) → h < length c.args.gates.now → h < 512 = λ h l. omega (arith, l, c.requires.few) in
    IfSome_then _ (parent_there c.args.gates.now c.args.gate _ c.requires.earlier c.requires.there) wider

pub returns : goal.returns
returns c = λ g.
    let old = opens_in c.args.closed.now in
    c.mark_if.ensures g
    ∙ ap (λ (b : Bool). old g || (b && (c.args.gate == g)))
    (c.has_some-is_below.ensures ∙ ap (λ (p : Option ℕ). is_opened old p) (sym (parent_at c.args.gates.now c.args.gate _ c.requires.there)))
