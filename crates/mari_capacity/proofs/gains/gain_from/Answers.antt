use Rattle.std.proofs.Common.{◌≡◌, ◌∙◌, pos, sym, subst}
use Rattle.mari_market.specs.declared.market.Market.{Market}
use Rattle.mari_market.specs.Activation.{welfare_of}
use Rattle.mari_market.specs.Dual.{dual_value_of}
use Rattle.mari_market.specs.Prefix.{bounds_at, bounds_of_word, word_of}
use Rattle.mari_market.specs.Market.{IsValid}
use Rattle.mari_network.specs.Solving.{NoneWithin, OfCut}
use Rattle.mari_network.specs.declared.optimum.SolveFault.{SolveFault}
use Rattle.mari_capacity.proofs.RaisedMarkets.{raised-valid}
use Rattle.mari_capacity.proofs.Bounding.{gained-least, gained-most, gained-relaxed, never-empty, stated-is}
use Rattle.mari_capacity.proofs.gains.gain_from.Goals as goal

pub returns-in-Ok-clause-relaxed : goal.returns-in-Ok-clause-relaxed
returns-in-Ok-clause-relaxed c =
    let r = c.requires in
    gained-relaxed c.args.market.now r.valid c.args.raise r.border (word_of c.args.word.now) c.args.welfare r.welfare c.in_ok-raised.raised
    c.in_ok-raised.ensures.market c.in-Ok.solved.welfare _ c.in-Ok.ensures.stated c.in-Ok.ensures.relaxed

pub returns-in-Ok-clause-dual : goal.returns-in-Ok-clause-dual
returns-in-Ok-clause-dual c =
    let r = c.requires in
    let stated = stated-is c.args.market.now r.valid c.args.raise r.border
    (word_of c.args.word.now) c.args.welfare r.welfare c.in_ok-raised.raised c.in_ok-raised.ensures.market c.in-Ok.solved.welfare _ c.in-Ok.ensures.stated c.in-Ok.ensures.relaxed in
    let P : Market → Type 0 = λ m. dual_value_of (bounds_of_word m (word_of c.args.word.now)) m c.in-Ok.solved.potentials.cents ≡ welfare_of m c.in-Ok.solved.activation in
    subst P c.in_ok-raised.ensures.market c.in-Ok.ensures.dual ∙ subst (λ (m : Market). welfare_of m c.in-Ok.solved.activation ≡ pos c.in-Ok.solved.welfare) c.in_ok-raised.ensures.market (sym stated)

pub returns-in-Ok-clause-at_least : goal.returns-in-Ok-clause-at_least
returns-in-Ok-clause-at_least c =
    let r = c.requires in
    gained-least c.args.market.now r.valid c.args.raise r.border (word_of c.args.word.now) c.args.welfare r.welfare c.in_ok-raised.raised
    c.in_ok-raised.ensures.market c.in-Ok.solved.welfare _ c.in-Ok.ensures.stated c.in-Ok.ensures.relaxed

pub returns-in-Ok-clause-at_most : goal.returns-in-Ok-clause-at_most
returns-in-Ok-clause-at_most c =
    let r = c.requires in
    gained-most c.args.market.now r.valid c.args.raise r.border (word_of c.args.word.now) c.args.welfare r.welfare c.in_ok-raised.raised
    c.in_ok-raised.ensures.market c.in-Ok.solved.welfare _ c.in-Ok.ensures.stated c.in-Ok.ensures.relaxed

pub unreachable-requires : goal.unreachable-requires
unreachable-requires c =
    let r = c.requires in
    never-empty c.args.market.now r.valid c.args.raise r.border (word_of c.args.word.now) c.args.welfare r.welfare c.in_ok-raised.raised c.in_ok-raised.ensures.market
    (subst (λ (f : SolveFault). OfCut f (λ cut. NoneWithin (bounds_at c.in_ok-raised.raised c.args.word.now) c.in_ok-raised.raised)) c.in-Err-Cut.field-0-is c.in-Err-Cut.ensures.empty)

pub solve_from-requires-clause-market : goal.solve_from-requires-clause-market
solve_from-requires-clause-market c =
    let r = c.requires in
    subst (λ (m : Market). IsValid m) (sym c.in_ok-raised.ensures.market) (raised-valid c.args.market.now r.valid c.args.raise r.border)
