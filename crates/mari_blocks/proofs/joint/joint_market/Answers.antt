use Rattle.std.proofs.Common.{◌≡◌, false, sym, rules, subst}
use Rattle.mari_market.specs.Market.{IsValid}
use Rattle.mari_blocks.specs.Joint.{AreWhole, is_too_large, lacks_run, offered}
use Rattle.mari_blocks.specs.declared.joint.Joint.{Joint}
use Rattle.mari_blocks.proofs.JointMarkets.{joint-valid}
use Rattle.mari_blocks.proofs.Whole.{are-whole}
use Rattle.mari_blocks.proofs.joint.joint_market.Goals as goal

pub returns-clause-whole : goal.returns-clause-whole
returns-clause-whole c =
    let blocks = c.args.blocks.now in
    subst (λ (joint : Joint). AreWhole blocks joint.bids) (sym c.in_ok-joint.ensures) (are-whole blocks (offered c.args.books.now c.args.first c.args.last))

pub returns-clause-valid : goal.returns-clause-valid
returns-clause-valid c =
    let books = c.args.books.now in
    let blocks = c.args.blocks.now in
    let all : lacks_run books c.args.first c.args.last ≡ false = search rules in
    let fits : is_too_large books blocks c.args.first c.args.last ≡ false = search rules in
    subst (λ (joint : Joint). IsValid joint.market) (sym c.in_ok-joint.ensures) (joint-valid books c.requires.accepted blocks c.args.first c.args.last c.requires.book all c.requires.in_order fits)
