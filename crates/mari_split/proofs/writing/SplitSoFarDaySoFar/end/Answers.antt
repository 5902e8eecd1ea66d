use Rattle.std.proofs.Common.{◌≡◌, ◌∙◌, ◌-◌, ◌∷◌, ◌++◌, [], ℕ, List, length, refl, ap, arith}
use Rattle.std.proofs.lemmas.List.{length-map}
use Rattle.mari_lines.specs.declared.line.Line.TheVariants as line
use Rattle.mari_publish.specs.Lines.{published_in, unpublished_in}
use Rattle.mari_publish.specs.Texts.{text_of_lines}
use Rattle.mari_publish.proofs.Counts.{both_kinds}
use Rattle.mari_day.proofs.Framing.{made-as}
use Rattle.mari_split.specs.declared.split.SplitBlock.{SplitBlock}
use Rattle.mari_split.specs.Lines.{split_end, split_part_text}
use Rattle.mari_split.specs.Split.{block_of, blocks_of}
use Rattle.mari_split.specs.Steps.{PrintsWholeSplit}
use Rattle.mari_split.proofs.writing.SplitSoFarDaySoFar.end.Goals as goal

-- the last line, by its numbers
end_by : (blocks : List SplitBlock) (published unpublished : ℕ) → published ≡ published_in (blocks_of blocks)
    → unpublished ≡ unpublished_in (blocks_of blocks)
    → text_of_lines (line.Done published unpublished ∷ []) ≡ split_end blocks
end_by blocks published unpublished e f = ap (λ n. text_of_lines (line.Done n unpublished ∷ [])) e ∙ ap (λ n. text_of_lines (line.Done (published_in (blocks_of blocks)) n ∷ [])) f

pub overflow_sub-unpublished : goal.overflow_sub-unpublished
overflow_sub-unpublished g c =
    let s = c.requires in
    omega (arith, c.run_count.ensures, s.2, s.1.kept.published, both_kinds (blocks_of s.0), length-map s.0 block_of)

pub returns : goal.returns
returns g c = λ blocks part keeps every.
    let day = c.args.self.now in
    let books = day.books.now in
    let published = day.progress.published in
    let others : length books.runs.runs - published ≡ unpublished_in (blocks_of blocks) = omega (arith, every, keeps.kept.published, both_kinds (blocks_of blocks), length-map blocks block_of) in
    made-as (λ t. t.items) c.end_text.result _ (split_end blocks) (λ text. PrintsWholeSplit (books, day.budget) published (split_part_text books day.budget blocks ++ text)) c.end_text.ensures
    (end_by blocks published _ keeps.kept.published (ap (λ n. n - published) c.run_count.ensures ∙ others))
    (record {
      blocks = blocks;
      day = record { part = part; every = every };
      counted = keeps.kept.published;
      others = others;
      spelled = refl;
    })
