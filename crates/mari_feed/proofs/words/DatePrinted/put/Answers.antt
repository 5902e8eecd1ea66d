use Rattle.mari_feed.proofs.Plainly.{plain_name}
use Rattle.mari_feed.proofs.words.DatePrinted.put.Goals as goal

pub put_string-requires : goal.put_string-requires
put_string-requires c = rw c.bytes.ensures.bytes (plain_name c.args.date.now c.bytes.ensures.name)
