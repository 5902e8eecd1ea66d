use Rattle.mari_proofs.proofs.ConflictTests.{chain_test}
use Rattle.mari_proofs.proofs.conflicts.is_chain.Goals as goal

pub returns : goal.returns
returns c = chain_test c.args.market.now c.args.activation.now _ _ c.args.first c.args.rest.now _ c.as_slice.ensures c.as_slice-2.ensures c.leads_on.ensures
