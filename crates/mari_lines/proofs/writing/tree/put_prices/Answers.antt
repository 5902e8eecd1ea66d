use Rattle.mari_lines.specs.Spelling.{price_text}
use Rattle.mari_lines.proofs.Appended.{after_one}
use Rattle.mari_lines.proofs.writing.tree.put_prices.Goals as goal

pub loop-price-preserved : goal.loop-price-preserved
loop-price-preserved c =
    after_one price_text c.args.prices.now c.loop-price.price-index _ c.loop-price.out.items c.put_price.new.out.items _ c.loop-price-test.true c.loop-price.invariant c.in_ok-put_price.ensures
