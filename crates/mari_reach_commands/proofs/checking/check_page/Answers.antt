use Rattle.std.proofs.Common.{◌≡◌, ◌∙◌, ℕ, List, Err, ap, refl, subst}
use Rattle.mari_io.specs.Outside.{page_of}
use Rattle.mari_io.specs.declared.shelf.Fetch.TheVariants as fetch
use Rattle.mari_check.specs.declared.stream.StreamFault.TheVariants as stream
use Rattle.mari_day.specs.Files.{path_in}
use Rattle.mari_reach_check.specs.Streams.{StreamStates}
use Rattle.mari_answers.proofs.Causes.{fault_of}
use Rattle.mari_answers.specs.Reports.{publication_path}
use Rattle.mari_reach_commands.proofs.Checks.{answer-fault, memory-states}
use Rattle.mari_reach_commands.proofs.checking.check_page.Goals as goal

pub returns-in_default-clause-reports : goal.returns-in_default-clause-reports
returns-in_default-clause-reports g c = record {
  answer = Err stream.Memory;
  states = λ reported e. memory-states c.args.books.now _;
  whole = λ reported e page p is whole. tt;
  cause = λ h. absurd h;
  said = (refl, refl);
}

pub returns-clause-reports : goal.returns-clause-reports
returns-clause-reports g c =
    let books = c.args.books.now in
    let answer = c.check_reach_stream-answer.result in
    let path : c.deref.result.now ≡ publication_path c.args.folder.now = c.deref.ensures ∙ c.in-Ok.ensures ∙ ap (path_in c.args.folder.now) c.file_name.ensures in
    record {
      answer = answer;
      states = λ reported e. subst (λ (name : List ℕ). StreamStates books (page_of reported name) answer) path (c.check_reach_stream-answer.ensures.reported reported e);
      whole = λ reported e page p is whole. c.check_reach_stream-answer.ensures.whole reported page p e (ap (page_of reported) path ∙ is) whole;
      cause = λ h. c.check_reach_stream-answer.ensures.failed.rose h;
      said = c.say_answer.ensures.reports;
    }

pub returns-clause-read_fault : goal.returns-clause-read_fault
returns-clause-read_fault g c = record {
  later = c.check_reach_stream-answer.ensures.failed.later;
  rose = λ e. c.check_reach_stream-answer.ensures.failed.rose (answer-fault fetch.Failed _ (ap fault_of e) _ _ c.check_reach_stream-answer.result c.say_answer.ensures.reports);
}

pub returns-clause-missing : goal.returns-clause-missing
returns-clause-missing g c = record {
  later = c.check_reach_stream-answer.ensures.missing.later;
  rose = λ e. c.check_reach_stream-answer.ensures.missing.rose (answer-fault fetch.Missing _ (ap fault_of e) _ _ c.check_reach_stream-answer.result c.say_answer.ensures.reports);
}

pub returns-clause-too_long : goal.returns-clause-too_long
returns-clause-too_long g c = record {
  later = c.check_reach_stream-answer.ensures.too_long.later;
  rose = λ e. c.check_reach_stream-answer.ensures.too_long.rose (answer-fault fetch.TooLong _ (ap fault_of e) _ _ c.check_reach_stream-answer.result c.say_answer.ensures.reports);
}
