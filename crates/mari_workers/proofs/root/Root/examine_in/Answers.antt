use Rattle.std.proofs.Common.{◌≡◌, [], subst, sym}
use Rattle.mari_market.specs.Prefix.{word_of}
use Rattle.mari_market.specs.Relaxation.{all_closed}
use Rattle.mari_node.specs.Nodes.{IsEmptyWhereNone, SomeWithin}
use Rattle.mari_workers.specs.Closed.{closed_finding, IsClosedOptimum}
use Rattle.mari_workers.specs.Root.{IsAhead}
use Rattle.mari_workers.proofs.Closed.{one_word, something_within}
use Rattle.mari_workers.proofs.root.Root.examine_in.Goals as goal

pub returns-in_ok-finding-in-Known-clause-empty : goal.returns-in_ok-finding-in-Known-clause-empty
returns-in_ok-finding-in-Known-clause-empty c =
    let m = c.args.market.now in
    let word = word_of c.args.prefix.now in
    let known : (m.gates ≡ []) × IsClosedOptimum m c.in-Known.closed = subst (IsAhead m) c.in-Known.is c.requires.root.ahead in
    let here : word ≡ all_closed m = one_word m word known.0 c.requires.prefix.word in
    subst (IsEmptyWhereNone m word) (sym c.in_ok-finding-in-Known.ensures)
    (subst (SomeWithin m) (sym here) (something_within m (all_closed m) (closed_finding c.in-Known.closed) known.1))
