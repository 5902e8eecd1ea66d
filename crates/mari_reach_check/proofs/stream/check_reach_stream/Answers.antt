use Rattle.std.specs.Prelude.{⊤}
use Rattle.mari_io.specs.Outside.{page_of}
use Rattle.mari_reach_check.specs.SoFar.{KeepsVerdict}
use Rattle.mari_reach_check.proofs.Parts.{all-found}
use Rattle.mari_reach_check.proofs.Streaming.{Laws, fault-states, fault-stops, says-fault, says-verdict, verdict-states}
use Rattle.mari_reach_check.proofs.stream.check_reach_stream.Goals as goal

pub unwrap-requires : goal.unwrap-requires
unwrap-requires g c =
    let w = c.in-Ok-read_text_parts.ensures.any.1 in
    let now = c.read_text_parts.new.so_far in
    let day = c.reach_texts_are_whole.ensures.publication c.in-Ok-read_text_parts.ensures.any.0 w.parts w.whole in
    all-found c.args.books.now day.0 w.parts now.day now.found day.2 w.took.found

pub returns-in-Ok-read_text_parts-clause-reported : goal.returns-in-Ok-read_text_parts-clause-reported
returns-in-Ok-read_text_parts-clause-reported g c = λ reported e.
    let texts = c.reach_texts_are_whole.ensures in
    let answers = c.texts_have_one_answer.ensures in
    let laws : Laws = record { day = texts.publication; whole = texts.whole; same = answers.parts; reported = answers.reported } in
    verdict-states laws c.args.books.now c.read_text_parts.new.so_far (λ parts x stop. ⊤) (page_of reported c.args.name.now) (tt {0})
    c.unwrap.result c.unwrap.ensures (c.in-Ok-read_text_parts.ensures.reported reported e)

pub returns-in-Ok-read_text_parts-clause-whole : goal.returns-in-Ok-read_text_parts-clause-whole
returns-in-Ok-read_text_parts-clause-whole g c = λ reported page p e is whole.
    let texts = c.reach_texts_are_whole.ensures in
    let answers = c.texts_have_one_answer.ensures in
    let laws : Laws = record { day = texts.publication; whole = texts.whole; same = answers.parts; reported = answers.reported } in
    says-verdict laws c.args.books.now c.read_text_parts.new.so_far (λ parts x stop. ⊤) (page_of reported c.args.name.now) (tt {0})
    c.unwrap.result c.unwrap.ensures (c.in-Ok-read_text_parts.ensures.reported reported e) page p is whole

pub returns-clause-reported : goal.returns-clause-reported
returns-clause-reported g c = λ reported e.
    rw c.fault_of.ensures (fault-states (λ parts. KeepsVerdict c.args.books.now parts c.read_text_parts.new.so_far) (λ parts x stop. ⊤)
    (page_of reported c.args.name.now) c.in-Err-read_text_parts.stop (c.in-Err-read_text_parts.ensures.reported reported e))

pub returns-clause-stops : goal.returns-clause-stops
returns-clause-stops g c = λ reported page e is.
    rw c.fault_of.ensures (fault-stops g.S.Shelf.rest g.S.Shelf.fetches page c.read_text_parts.new.shelf c.in-Err-read_text_parts.stop (c.in-Err-read_text_parts.ensures.stops reported page e is))

pub returns-clause-whole : goal.returns-clause-whole
returns-clause-whole g c = λ reported page p e is whole.
    let texts = c.reach_texts_are_whole.ensures in
    let answers = c.texts_have_one_answer.ensures in
    let laws : Laws = record { day = texts.publication; whole = texts.whole; same = answers.parts; reported = answers.reported } in
    rw c.fault_of.ensures (says-fault laws c.args.books.now c.read_text_parts.new.so_far (λ parts x stop. ⊤) (page_of reported c.args.name.now)
    c.in-Err-read_text_parts.stop (c.in-Err-read_text_parts.ensures.reported reported e) page p is whole)
