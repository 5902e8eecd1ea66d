use Rattle.std.proofs.Common.{List, map, refl}
use Rattle.mari_lines.specs.declared.line.BidLine.{BidLine}
use Rattle.mari_lines.specs.declared.line.Line.TheVariants as line
use Rattle.mari_lines.specs.Spelling.{line_text}
use Rattle.mari_publish.proofs.Parts.{one_put, all_put}
use Rattle.mari_publish.proofs.write.put_bids.Goals as goal

pub loop-bid-preserved : goal.loop-bid-preserved
loop-bid-preserved c =
    one_put (λ (xs : List BidLine). map line.Bid xs) (λ x. line_text (line.Bid x)) (λ _ _. refl) c.args.bids.now c.loop-bid.bid-index c.bid-item.result c.loop-bid.out.items c.put_bid.new.out.items _
    c.loop-bid-test.true c.bid-item.is c.in_ok-put_bid.ensures c.loop-bid.invariant

pub returns : goal.returns
returns c = all_put (λ (xs : List BidLine). map line.Bid xs) refl c.args.bids.now c.loop-bid.bid-index c.loop-bid.out.items _ c.loop-bid-test.false c.loop-bid.invariant
