-- How the printing of a folder's feed is reported.
use Rattle.std.proofs.Common.{◌≡◌, ℕ, List, Option, Some, None, Result, Err, refl, subst}
use Rattle.mari_io.specs.Outside.{Pages, page_of}
use Rattle.mari_io.proofs.Taken.{took_nothing}
use Rattle.mari_feed.specs.declared.stream.FeedStop.{FeedStop}
use Rattle.mari_feed.specs.declared.stream.FeedStop.TheVariants as stop
use Rattle.mari_reach_feed.specs.Streams.{FeedStates}
use Rattle.mari_reach_feed.proofs.Feeding.{took_none}
use Rattle.mari_reach_commands.specs.Answers.{publication_page}
use Rattle.mari_answers.specs.Reports.{publication_path}

-- nothing is printed yet of a page
pub nothing_fed : (page : Option (List ℕ)) (before : Option (List ℕ)) → FeedStates {T = Unit {0}} page before before (Err stop.Memory)
nothing_fed None before = refl
nothing_fed (Some page) before = took_none before before page (took_nothing before)

-- the page of this path is the folder's publication
pub fed_at : {T : Type 0} (reported : Pages) (folder path : List ℕ) (before between : Option (List ℕ)) (end : Result T FeedStop) → path ≡ publication_path folder
    → FeedStates (page_of reported path) before between end → FeedStates (publication_page reported folder) before between end
fed_at reported folder path before between end e h = subst (λ (name : List ℕ). FeedStates (page_of reported name) before between end) e h
