use Rattle.mari_feed.proofs.Plainly.{plain_name}
use Rattle.mari_feed.proofs.words.NamePrinted.put.Goals as goal

pub put_string-requires : goal.put_string-requires
put_string-requires c = rw c.bytes.ensures.bytes (plain_name c.args.name.now c.bytes.ensures.name)
