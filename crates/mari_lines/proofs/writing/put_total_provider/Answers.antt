use Rattle.mari_lines.specs.Spelling.{spelling, spaced, amount_fields}
use lib.Chars.{codes}
use Rattle.mari_lines.proofs.Appended.{after_three}
use Rattle.mari_lines.proofs.writing.put_total_provider.Goals as goal

pub returns : goal.returns
unfolding spelling
returns c = after_three c.put-2.result _ _ _ _ (codes "total-provider") (spaced (amount_fields c.args.provider.now)) _ c.in_ok-put.ensures.put c.in_ok-put_amount_fields.ensures c.put-2.ensures.put
