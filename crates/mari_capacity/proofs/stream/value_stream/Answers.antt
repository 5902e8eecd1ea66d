use Rattle.std.proofs.Common.{List, ℕ, Option, Ok, Err, sym, subst, inr}
use Rattle.std.specs.Prelude.{IfOk}
use Rattle.mari_io.specs.Outside.{page_of}
use Rattle.mari_io.specs.declared.shelf.Fetch.TheVariants as fetch
use Rattle.mari_publish.proofs.Streaming.{asks-as, counts-for}
use Rattle.mari_capacity.specs.Streams.{ValueStates}
use Rattle.mari_capacity.proofs.Exact.{ends-exactly}
use Rattle.mari_capacity.proofs.Pages.{no-page-fault, reads-as, some-as, stop-lines, stop-states, whole-of, whole-some}
use Rattle.mari_capacity.proofs.stream.value_stream.Goals as goal

pub returns-in-Ok-clause-reported : goal.returns-in-Ok-clause-reported
returns-in-Ok-clause-reported g c = λ reported e.
    let books = c.args.books.now in
    let n = c.args.more in
    let now = c.read_parts.new.so_far in
    let first = c.in_ok-so_far.so_far in
    let page = page_of reported c.args.name.now in
    let states = reads-as first books n now c.in_ok-so_far.ensures.books c.in_ok-so_far.ensures.taken.more_is page (Ok (tt {0})) (c.in-Ok.ensures.reported reported e) in
    let w = whole-of books n now page (tt {0}) states in
    subst (λ (p : Option (List ℕ)). IfOk c.end.result (λ v. ValueStates books n p v.text v.end)) (sym w.1) (c.end.ensures.reported books n w.0 w.3 w.2)

pub returns-in-Ok-clause-lines : goal.returns-in-Ok-clause-lines
returns-in-Ok-clause-lines g c =
    let books = c.args.books.now in
    let n = c.args.more in
    let now = c.read_parts.new.so_far in
    let first = c.in_ok-so_far.so_far in
    let w = whole-some books n now (tt {0}) (some-as first books n now c.in_ok-so_far.ensures.books c.in_ok-so_far.ensures.taken.more_is (Ok (tt {0})) c.in-Ok.ensures.any) in
    c.end.ensures.lines books n w.0 w.1

pub returns-in-Err-clause-reported : goal.returns-in-Err-clause-reported
returns-in-Err-clause-reported g c = λ reported e.
    let books = c.args.books.now in
    let n = c.args.more in
    let now = c.read_parts.new.so_far in
    let first = c.in_ok-so_far.so_far in
    let page = page_of reported c.args.name.now in
    let states = reads-as first books n now c.in_ok-so_far.ensures.books c.in_ok-so_far.ensures.taken.more_is page (Err c.in-Err.stop) (c.in-Err.ensures.reported reported e) in
    stop-states books n now page c.in-Err.stop c.stopped.result c.stopped.ensures states

pub returns-in-Err-clause-lines : goal.returns-in-Err-clause-lines
returns-in-Err-clause-lines g c =
    let books = c.args.books.now in
    let n = c.args.more in
    let now = c.read_parts.new.so_far in
    let first = c.in_ok-so_far.so_far in
    let some = some-as first books n now c.in_ok-so_far.ensures.books c.in_ok-so_far.ensures.taken.more_is (Err c.in-Err.stop) c.in-Err.ensures.any in
    stop-lines books n now c.in-Err.stop c.stopped.result c.stopped.ensures some

pub returns-in-Ok-clause-exact : goal.returns-in-Ok-clause-exact
returns-in-Ok-clause-exact g c = λ reported end e is.
    ends-exactly c.args.books.now c.args.more (page_of reported c.args.name.now) c.end.result end (returns-in-Ok-clause-reported g c reported e) is

pub returns-in-Err-clause-exact : goal.returns-in-Err-clause-exact
returns-in-Err-clause-exact g c = λ reported end e is.
    ends-exactly c.args.books.now c.args.more (page_of reported c.args.name.now) c.stopped.result end (returns-in-Err-clause-reported g c reported e) is

pub returns-in-Ok-clause-fetched : goal.returns-in-Ok-clause-fetched
returns-in-Ok-clause-fetched g c = inr (asks-as ⊥ _ _ _ _ (no-page-fault fetch.Missing c.end.result (c.end.ensures.page fetch.Missing)) c.in-Ok.ensures.fetched)

pub returns-in-Ok-clause-failed : goal.returns-in-Ok-clause-failed
returns-in-Ok-clause-failed g c = counts-for ⊥ _ _ _ (no-page-fault fetch.Failed c.end.result (c.end.ensures.page fetch.Failed)) c.in-Ok.ensures.failed

pub returns-in-Ok-clause-missing : goal.returns-in-Ok-clause-missing
returns-in-Ok-clause-missing g c = counts-for ⊥ _ _ _ (no-page-fault fetch.Missing c.end.result (c.end.ensures.page fetch.Missing)) c.in-Ok.ensures.missing

pub returns-in-Ok-clause-too_long : goal.returns-in-Ok-clause-too_long
returns-in-Ok-clause-too_long g c = counts-for ⊥ _ _ _ (no-page-fault fetch.TooLong c.end.result (c.end.ensures.page fetch.TooLong)) c.in-Ok.ensures.too_long
