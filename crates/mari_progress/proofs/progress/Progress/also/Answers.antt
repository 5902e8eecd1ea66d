use Rattle.std.proofs.Common.{◌≡◌, ◌∙◌, List, Option, Some, None, ap, length}
use Rattle.std.specs.Prelude.{IfSome, if◌then◌else◌}
use Rattle.std.specs.List.{All}
use Rattle.mari_units.specs.declared.numbers.Cents.{Cents}
use Rattle.mari_demands.specs.declared.runs.Run.{Run}
use Rattle.mari_market.specs.declared.market.Market.{Market}
use Rattle.mari_market.specs.Price.{ArePrices, IsCapped}
use Rattle.mari_progress.specs.Progress.{kept_for}
use Rattle.mari_progress.proofs.Scheduling.{also-is, given-prices}
use Rattle.mari_progress.proofs.progress.Progress.also.Goals as goal

priced-some : {A : Type 0} (f : A → List Cents) (m : Market) (r : Option A) → IfSome r (λ a. (length (f a) ≡ m.zones) × All IsCapped (f a)) → IfSome r (λ a. ArePrices m (f a))
priced-some f m None h = tt
priced-some f m (Some a) h = record { one_each = h.0; capped = h.1 }

pub returns-clause-after : goal.returns-clause-after
returns-clause-after c = λ blocks progress is.
    let books = c.args.books.now in
    let kept = c.args.self.now.scheduled in
    c.kept_for.ensures ∙ ap (λ (entry : Run). if entry.direct then kept_for entry.quarter kept else None) c.run_entry.ensures ∙ also-is books blocks
    kept progress.scheduled c.args.run is c.requires.last

pub returns-clause-prices : goal.returns-clause-prices
returns-clause-prices c = λ blocks progress.
    priced-some _ _ c.kept_for.result
    (given-prices c.args.books.now blocks c.args.self.now.scheduled progress.scheduled _ c.kept_for.result _ _ c.kept_for.ensures)
