use Rattle.csv.specs.Records.{fields_of}
use Rattle.mari_rows.proofs.RecordLemmas.{reads-record}
use Rattle.mari_rows.proofs.records.read_record.Goals as goal

pub returns-in-Ok : goal.returns-in-Ok
returns-in-Ok c =
    let said = c.in-Ok.ensures in
    reads-record c.args.reader.now c.read_byte_record.new.self (fields_of c.read_byte_record.new.row) c.in-Ok.found c.requires
    (said.reads c.requires.trim c.requires.ready) (said.ready c.requires.trim) said.flexible
