use Rattle.std.proofs.Common.{◌≡◌, ◌∙◌, Ok, Err, ap, refl}
use Rattle.mari_day.specs.Files.{path_in}
use Rattle.mari_feed.specs.declared.stream.FeedStop.TheVariants as stop
use Rattle.mari_answers.specs.Reports.{publication_path}
use Rattle.mari_reach_commands.proofs.Feeds.{fed_at, nothing_fed}
use Rattle.mari_reach_commands.proofs.feeding.feed.Goals as goal

pub returns-in_default-clause-reports : goal.returns-in_default-clause-reports
returns-in_default-clause-reports g c = record {
  between = g.K.Sink.taken c.args.sink.now;
  end = Err stop.Memory;
  cause = λ h. absurd h;
  states = λ reported t. nothing_fed _ _;
  reports = (refl, refl);
}

pub returns-in-Ok-print_reach_feed-clause-reports : goal.returns-in-Ok-print_reach_feed-clause-reports
returns-in-Ok-print_reach_feed-clause-reports g c =
    let path : c.deref.result.now ≡ publication_path c.args.folder.now = c.deref.ensures ∙ c.in-Ok.ensures ∙ ap (path_in c.args.folder.now) c.file_name.ensures in
    record {
      between = g.K.Sink.taken c.print_reach_feed.new.sink;
      end = Ok (tt {0});
      cause = λ h. absurd h;
      states = λ reported t. fed_at reported c.args.folder.now _ _ _ _ path (c.in-Ok-print_reach_feed.ensures.reported reported t);
      reports = (refl, refl);
    }

pub returns-in-Err-Fetch-clause-reports : goal.returns-in-Err-Fetch-clause-reports
returns-in-Err-Fetch-clause-reports g c =
    let path : c.deref.result.now ≡ publication_path c.args.folder.now = c.deref.ensures ∙ c.in-Ok.ensures ∙ ap (path_in c.args.folder.now) c.file_name.ensures in
    record {
      between = g.K.Sink.taken c.print_reach_feed.new.sink;
      end = Err c.in-Err-Fetch.field-0;
      cause = c.in-Err-Fetch.ensures.failed.rose;
      states = λ reported t. fed_at reported c.args.folder.now _ _ _ _ path (c.in-Err-Fetch.ensures.reported reported t);
      reports = rw c.in-Err-Fetch.field-0-is c.say_no_page.ensures.reports;
    }

pub returns-in-Err-Text-clause-reports : goal.returns-in-Err-Text-clause-reports
returns-in-Err-Text-clause-reports g c =
    let path : c.deref.result.now ≡ publication_path c.args.folder.now = c.deref.ensures ∙ c.in-Ok.ensures ∙ ap (path_in c.args.folder.now) c.file_name.ensures in
    record {
      between = g.K.Sink.taken c.print_reach_feed.new.sink;
      end = Err c.in-Err-Text.field-0;
      cause = c.in-Err-Text.ensures.failed.rose;
      states = λ reported t. fed_at reported c.args.folder.now _ _ _ _ path (c.in-Err-Text.ensures.reported reported t);
      reports = rw c.in-Err-Text.field-0-is c.say_text_fault.ensures.reports;
    }

pub returns-in-Err-Sink-clause-reports : goal.returns-in-Err-Sink-clause-reports
returns-in-Err-Sink-clause-reports g c =
    let path : c.deref.result.now ≡ publication_path c.args.folder.now = c.deref.ensures ∙ c.in-Ok.ensures ∙ ap (path_in c.args.folder.now) c.file_name.ensures in
    record {
      between = g.K.Sink.taken c.print_reach_feed.new.sink;
      end = Err c.in-Err-Sink.field-0;
      cause = c.in-Err-Sink.ensures.failed.rose;
      states = λ reported t. fed_at reported c.args.folder.now _ _ _ _ path (c.in-Err-Sink.ensures.reported reported t);
      reports = rw c.in-Err-Sink.field-0-is (refl, refl);
    }

pub returns-clause-reports : goal.returns-clause-reports
returns-clause-reports g c =
    let path : c.deref.result.now ≡ publication_path c.args.folder.now = c.deref.ensures ∙ c.in-Ok.ensures ∙ ap (path_in c.args.folder.now) c.file_name.ensures in
    record {
      between = g.K.Sink.taken c.print_reach_feed.new.sink;
      end = Err c.in-Err-Memory.field-0;
      cause = c.in-Err-Memory.ensures.failed.rose;
      states = λ reported t. fed_at reported c.args.folder.now _ _ _ _ path (c.in-Err-Memory.ensures.reported reported t);
      reports = rw c.in-Err-Memory.field-0-is (refl, refl);
    }
