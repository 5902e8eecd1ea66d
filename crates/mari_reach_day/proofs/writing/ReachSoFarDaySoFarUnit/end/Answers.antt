use Rattle.std.proofs.Common.{◌≡◌, ◌∙◌, ◌≤◌, ◌-◌, ◌++◌, ℕ, List, length, refl, ap, subst, arith}
use Rattle.mari_lines.specs.Ranges.{IsAmountLine, IsMoneyLine, Listed}
use Rattle.mari_lines.specs.declared.line.AmountLine.{AmountLine}
use Rattle.mari_lines.specs.declared.line.MoneyLine.{MoneyLine}
use Rattle.mari_publish.specs.declared.publication.Block.{Block}
use Rattle.mari_publish.specs.Lines.{closing_lines_by}
use Rattle.mari_publish.specs.Ranges.{SumsFit}
use Rattle.mari_publish.specs.Texts.{text_of_lines}
use Rattle.mari_progress.specs.Progress.{IsProgress}
use Rattle.mari_progress.specs.declared.progress.Progress.{Progress}
use Rattle.mari_progress.proofs.Sums.{provider-lines}
use Rattle.mari_remain.specs.Accepted.{IsAccepted}
use Rattle.mari_progress.specs.Totals.{operator_totals, provider_totals}
use Rattle.mari_remain.specs.declared.books.Books.{Books}
use Rattle.mari_day.specs.Dated.{IsDated}
use Rattle.mari_day.proofs.Days.{operators-fit, providers-fit}
use Rattle.mari_day.proofs.Framing.{made-as}
use Rattle.mari_reach_day.specs.declared.block.ReachBlock.{ReachBlock}
use Rattle.mari_reach_day.specs.Lines.{reach_end, reach_part_text}
use Rattle.mari_reach_day.specs.Reach.{blocks_of, first_in, within_in}
use Rattle.mari_reach_day.specs.Steps.{PrintsWholeReach}
use Rattle.mari_reach_day.proofs.Counts.{both_kinds}
use Rattle.mari_reach_day.proofs.writing.ReachSoFarDaySoFarUnit.end.Goals as goal

-- the last lines, by their numbers
end_by : (books : Books) (blocks : List ReachBlock) (first within : ℕ) → first ≡ first_in blocks → within ≡ within_in blocks
    → text_of_lines (closing_lines_by (operator_totals books (blocks_of blocks)) (provider_totals books (blocks_of blocks)) first within) ≡ reach_end books blocks
end_by books blocks first within e f = rw (e, f) refl

-- the totals are in range
totals_fit : (books : Books) → IsAccepted books → IsDated books → (blocks : List Block) (p : Progress) → IsProgress books blocks p
    → SumsFit (operator_totals books blocks) (provider_totals books blocks)
totals_fit books ok dated blocks p kept =
    let few : length blocks ≤ 1000 = omega (arith, kept.few, ok.runs.few) in
    let Operators : List MoneyLine → Type 0 = λ ls. Listed 1 64 IsMoneyLine ls in
    let Providers : List AmountLine → Type 0 = λ ls. Listed 0 1638400 IsAmountLine ls in (
      subst Operators kept.totals.operators (operators-fit books ok dated blocks p.totals kept.totals few),
      subst Providers (provider-lines books blocks p.totals kept.totals) (providers-fit books ok dated blocks p.totals kept.totals few),
    )

pub overflow_sub-within : goal.overflow_sub-within
overflow_sub-within c =
    let s = c.requires in
    omega (arith, c.run_count.ensures, s.2, s.1.counted, both_kinds s.0)

pub end_text-requires-clause-kept : goal.end_text-requires-clause-kept
end_text-requires-clause-kept c = let s = c.requires in (blocks_of s.0, s.1.kept)

pub returns : goal.returns
returns c = λ blocks part keeps every.
    let day = c.args.self.now in
    let books = day.books.now in
    let others : length books.runs.runs - day.first ≡ within_in blocks = omega (arith, every, keeps.counted, both_kinds blocks) in
    made-as (λ t. t.items) c.end_text.result _ (reach_end books blocks) (λ text. PrintsWholeReach (books, day.budget) day.first (reach_part_text books day.budget blocks ++ text))
    (c.end_text.ensures (blocks_of blocks) keeps.kept)
    (end_by books blocks day.first _ keeps.counted (ap (λ n. n - day.first) c.run_count.ensures ∙ others))
    (record {
      blocks = blocks;
      day = record { part = part; every = every };
      fits = keeps.fits;
      totals = totals_fit books keeps.accepted keeps.dated (blocks_of blocks) day.progress keeps.kept;
      counted = keeps.counted;
      others = others;
      spelled = refl;
    })
