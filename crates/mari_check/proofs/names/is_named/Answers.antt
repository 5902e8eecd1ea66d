use Rattle.mari_check.proofs.Naming.{named-none, named-some}
use Rattle.mari_check.proofs.names.is_named.Goals as goal

pub returns-in-Some : goal.returns-in-Some
returns-in-Some c = named-some c.args.name.now c.bytes-bytes.result.now c.in-Some.own.now c.args.names.now c.args.place c.eq.result c.bytes-bytes.ensures.bytes c.in-Some.ensures c.eq.ensures

pub returns-in-None : goal.returns-in-None
returns-in-None c = named-none c.args.name.now c.args.names.now c.args.place c.bytes-bytes.ensures.name c.in-None.ensures
