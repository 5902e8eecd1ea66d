use Rattle.std.proofs.Common.{◌≡◌, ◌∙◌, List, ℕ, Ok, Err, ap, refl, subst}
use Rattle.mari_io.specs.Outside.{page_of}
use Rattle.mari_feed.specs.Streams.{FeedStates}
use Rattle.mari_feed.specs.declared.stream.FeedStop.TheVariants as stop
use Rattle.mari_day.specs.Files.{path_in}
use Rattle.mari_answers.specs.Reports.{publication_path}
use Rattle.mari_commands.proofs.Reporting.{nothing_fed}
use Rattle.mari_commands.proofs.feeding.fed.Goals as goal

pub returns-in_default-clause-reported : goal.returns-in_default-clause-reported
returns-in_default-clause-reported g c = record {
  between = g.K.Sink.taken c.args.sink.now;
  end = Err stop.Memory;
  cause = λ h. absurd h;
  states = λ reported t. nothing_fed _ _;
  reports = (refl, refl);
}

pub returns-in-Ok-print_feed-clause-reported : goal.returns-in-Ok-print_feed-clause-reported
returns-in-Ok-print_feed-clause-reported g c =
    let path : c.deref.result.now ≡ publication_path c.args.folder.now = c.deref.ensures ∙ c.in-Ok.ensures ∙ ap (path_in c.args.folder.now) c.file_name.ensures in
    record {
      between = g.K.Sink.taken c.print_feed.new.sink;
      end = Ok (tt {0});
      cause = λ h. absurd h;
      states = λ reported t. let P : List ℕ → Type 0 = λ name. FeedStates {T = Unit {0}} (page_of reported name) (g.K.Sink.taken c.args.sink.now) (g.K.Sink.taken c.print_feed.new.sink)
          (Ok (tt {0})) in subst P path (c.in-Ok-print_feed.ensures.reported reported t);
      reports = (refl, refl);
    }

pub returns-in-Err-Fetch-clause-reported : goal.returns-in-Err-Fetch-clause-reported
returns-in-Err-Fetch-clause-reported g c =
    let path : c.deref.result.now ≡ publication_path c.args.folder.now = c.deref.ensures ∙ c.in-Ok.ensures ∙ ap (path_in c.args.folder.now) c.file_name.ensures in
    record {
      between = g.K.Sink.taken c.print_feed.new.sink;
      end = Err c.in-Err-Fetch.field-0;
      cause = c.in-Err-Fetch.ensures.failed.rose;
      states = λ reported t. let P : List ℕ → Type 0 = λ name. FeedStates {T = Unit {0}} (page_of reported name) (g.K.Sink.taken c.args.sink.now) (g.K.Sink.taken c.print_feed.new.sink)
          (Err c.in-Err-Fetch.field-0) in subst P path (c.in-Err-Fetch.ensures.reported reported t);
      reports = rw c.in-Err-Fetch.field-0-is c.say_no_page.ensures.reports;
    }

pub returns-in-Err-Text-clause-reported : goal.returns-in-Err-Text-clause-reported
returns-in-Err-Text-clause-reported g c =
    let path : c.deref.result.now ≡ publication_path c.args.folder.now = c.deref.ensures ∙ c.in-Ok.ensures ∙ ap (path_in c.args.folder.now) c.file_name.ensures in
    record {
      between = g.K.Sink.taken c.print_feed.new.sink;
      end = Err c.in-Err-Text.field-0;
      cause = c.in-Err-Text.ensures.failed.rose;
      states = λ reported t. let P : List ℕ → Type 0 = λ name. FeedStates {T = Unit {0}} (page_of reported name) (g.K.Sink.taken c.args.sink.now) (g.K.Sink.taken c.print_feed.new.sink)
          (Err c.in-Err-Text.field-0) in subst P path (c.in-Err-Text.ensures.reported reported t);
      reports = rw c.in-Err-Text.field-0-is c.say_text_fault.ensures.reports;
    }

pub returns-in-Err-Sink-clause-reported : goal.returns-in-Err-Sink-clause-reported
returns-in-Err-Sink-clause-reported g c =
    let path : c.deref.result.now ≡ publication_path c.args.folder.now = c.deref.ensures ∙ c.in-Ok.ensures ∙ ap (path_in c.args.folder.now) c.file_name.ensures in
    record {
      between = g.K.Sink.taken c.print_feed.new.sink;
      end = Err c.in-Err-Sink.field-0;
      cause = c.in-Err-Sink.ensures.failed.rose;
      states = λ reported t. let P : List ℕ → Type 0 = λ name. FeedStates {T = Unit {0}} (page_of reported name) (g.K.Sink.taken c.args.sink.now) (g.K.Sink.taken c.print_feed.new.sink)
          (Err c.in-Err-Sink.field-0) in subst P path (c.in-Err-Sink.ensures.reported reported t);
      reports = rw c.in-Err-Sink.field-0-is (refl, refl);
    }

pub returns-clause-reported : goal.returns-clause-reported
returns-clause-reported g c =
    let path : c.deref.result.now ≡ publication_path c.args.folder.now = c.deref.ensures ∙ c.in-Ok.ensures ∙ ap (path_in c.args.folder.now) c.file_name.ensures in
    record {
      between = g.K.Sink.taken c.print_feed.new.sink;
      end = Err c.in-Err-Memory.field-0;
      cause = c.in-Err-Memory.ensures.failed.rose;
      states = λ reported t. let P : List ℕ → Type 0 = λ name. FeedStates {T = Unit {0}} (page_of reported name) (g.K.Sink.taken c.args.sink.now) (g.K.Sink.taken c.print_feed.new.sink)
          (Err c.in-Err-Memory.field-0) in subst P path (c.in-Err-Memory.ensures.reported reported t);
      reports = rw c.in-Err-Memory.field-0-is (refl, refl);
    }
