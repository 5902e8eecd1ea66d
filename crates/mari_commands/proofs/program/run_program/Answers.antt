use Rattle.std.proofs.Common.{◌∙◌, Option, ◌⊎◌, arith, inl, inr, refl, sym}
use Rattle.mari_commands.specs.Commands.{AsksForBlocks, AsksForFeed}
use Rattle.mari_commands.specs.Outcome.{IsOfWords, IsOwn}
use Rattle.mari_commands.specs.declared.outcome.Outcome.{Outcome}
use Rattle.mari_io.specs.declared.shelf.Fetch.TheVariants as fetch
use Rattle.mari_answers.specs.declared.status.Status.TheVariants as status
use Rattle.mari_words.specs.Asked.{Asked}
use Rattle.mari_commands.proofs.Causes.{cause-counts}
use Rattle.mari_commands.proofs.Complete.{checked-answer, cleared-answer, complete-answer, fed-answer, gap-answer, islands-answer, migrated-answer, refuses-answer, refuses-feed-answer, refuses-text-answer, split-answer, values-answer}
use Rattle.mari_commands.proofs.Decided.{decided-answer, joined-answer}
use Rattle.mari_commands.proofs.Joint.{answers-of}
use Rattle.mari_commands.proofs.Asking.{feed-no-quarters}
use Rattle.mari_commands.proofs.Outcomes.{files-no-feed}
use Rattle.mari_commands.proofs.program.run_program.Goals as goal

pub returns-clause-answers : goal.returns-clause-answers
returns-clause-answers g c =
    answers-of _ _ _ _ _ c.outcome_of-outcome.ensures.same _ (λ r. omega (arith, r, c.outcome_of-outcome.ensures.failed.later))
    c.outcome_of-outcome.result c.finish.result _ c.outcome_of-outcome.ensures.reported c.outcome_of-outcome.ensures.words
    c.outcome_of-outcome.ensures.reportable (λ h. omega (arith, c.outcome_of-outcome.ensures.failed.rose h, c.finish.ensures.read_fault.later))
    c.finish.ensures.reported

pub returns-clause-refuses : goal.returns-clause-refuses
returns-clause-refuses g c = λ pages refusal t h.
    refuses-answer _ _ _ _ _ _ pages (c.outcome_of-outcome.ensures.same ∙ t) c.outcome_of-outcome.result
    (c.outcome_of-outcome.ensures.reported pages t) c.finish.ensures.reported refusal h

pub returns-clause-refuses_text : goal.returns-clause-refuses_text
returns-clause-refuses_text g c = λ pages page f t h.
    refuses-text-answer _ _ _ _ _ _ pages (c.outcome_of-outcome.ensures.same ∙ t) c.outcome_of-outcome.result
    (c.outcome_of-outcome.ensures.reported pages t) c.finish.ensures.reported page f h

pub returns-clause-gaps : goal.returns-clause-gaps
returns-clause-gaps g c = λ pages number gap t h.
    gap-answer _ _ _ _ _ _ pages (c.outcome_of-outcome.ensures.same ∙ t) c.outcome_of-outcome.result
    (c.outcome_of-outcome.ensures.reported pages t) c.finish.ensures.reported number gap h

pub returns-clause-cleared : goal.returns-clause-cleared
returns-clause-cleared g c = λ pages t h.
    cleared-answer _ _ _ _ _ _ pages (c.outcome_of-outcome.ensures.same ∙ t) c.outcome_of-outcome.result
    (c.outcome_of-outcome.ensures.reported pages t) c.finish.ensures.reported h

pub returns-clause-complete : goal.returns-clause-complete
returns-clause-complete g c = λ pages t h.
    complete-answer _ _ _ _ _ _ pages (c.outcome_of-outcome.ensures.same ∙ t) c.outcome_of-outcome.result
    (c.outcome_of-outcome.ensures.reported pages t) c.finish.ensures.reported h

pub returns-clause-split : goal.returns-clause-split
returns-clause-split g c = λ pages t h.
    split-answer _ _ _ _ _ _ pages (c.outcome_of-outcome.ensures.same ∙ t) c.outcome_of-outcome.result
    (c.outcome_of-outcome.ensures.reported pages t) c.finish.ensures.reported h

pub returns-clause-islands : goal.returns-clause-islands
returns-clause-islands g c = λ pages t h.
    islands-answer _ _ _ _ _ _ pages (c.outcome_of-outcome.ensures.same ∙ t) c.outcome_of-outcome.result
    (c.outcome_of-outcome.ensures.reported pages t) c.finish.ensures.reported h

pub returns-clause-checked : goal.returns-clause-checked
returns-clause-checked g c = λ pages t h.
    checked-answer _ _ _ _ _ _ pages (c.outcome_of-outcome.ensures.same ∙ t) c.outcome_of-outcome.result
    (c.outcome_of-outcome.ensures.reported pages t) c.finish.ensures.reported h

pub returns-clause-migrated : goal.returns-clause-migrated
returns-clause-migrated g c = λ pages t h.
    migrated-answer _ _ _ _ _ _ pages (c.outcome_of-outcome.ensures.same ∙ t) c.outcome_of-outcome.result
    (c.outcome_of-outcome.ensures.reported pages t) c.finish.ensures.reported h

pub returns-clause-values : goal.returns-clause-values
returns-clause-values g c = λ pages end t h.
    values-answer _ _ _ _ _ _ pages (c.outcome_of-outcome.ensures.same ∙ t) c.outcome_of-outcome.result
    (c.outcome_of-outcome.ensures.reported pages t) c.finish.ensures.reported end h

pub returns-clause-refuses_feed : goal.returns-clause-refuses_feed
returns-clause-refuses_feed g c = λ pages page f t h.
    refuses-feed-answer _ _ _ _ _ _ pages (c.outcome_of-outcome.ensures.same ∙ t) c.outcome_of-outcome.result
    (c.outcome_of-outcome.ensures.reported pages t) c.finish.ensures.reported page f h

pub returns-clause-fed : goal.returns-clause-fed
returns-clause-fed g c = λ pages t h.
    fed-answer _ _ _ _ _ _ pages (c.outcome_of-outcome.ensures.same ∙ t) c.outcome_of-outcome.result
    (c.outcome_of-outcome.ensures.reported pages t) c.finish.ensures.reported h

pub returns-clause-read_fault : goal.returns-clause-read_fault
returns-clause-read_fault g c =
    cause-counts fetch.Failed status.ReadFault refl _ _ c.outcome_of-outcome.result _ _ c.finish.result c.finish.ensures.reported _ _ _ c.outcome_of-outcome.ensures.failed c.finish.ensures.read_fault

pub returns-clause-missing : goal.returns-clause-missing
returns-clause-missing g c =
    cause-counts fetch.Missing status.Missing refl _ _ c.outcome_of-outcome.result _ _ c.finish.result c.finish.ensures.reported _ _ _ c.outcome_of-outcome.ensures.missing c.finish.ensures.missing

pub returns-clause-too_long : goal.returns-clause-too_long
returns-clause-too_long g c =
    cause-counts fetch.TooLong status.TooLong refl _ _ c.outcome_of-outcome.result _ _ c.finish.result c.finish.ensures.reported _ _ _ c.outcome_of-outcome.ensures.too_long c.finish.ensures.too_long

pub returns-clause-blocks : goal.returns-clause-blocks
returns-clause-blocks g c = λ pages wanted t h.
    decided-answer _ _ _ _ _ _ pages (c.outcome_of-outcome.ensures.same ∙ t) c.outcome_of-outcome.result
    (c.outcome_of-outcome.ensures.reported pages t) c.finish.ensures.reported wanted h

pub returns-clause-joined : goal.returns-clause-joined
returns-clause-joined g c = λ pages t h.
    joined-answer _ _ _ _ _ _ pages (c.outcome_of-outcome.ensures.same ∙ t) c.outcome_of-outcome.result
    (c.outcome_of-outcome.ensures.reported pages t) c.finish.ensures.reported h

-- whoever reports a feed or quarters was asked for them
asked-for : (words : Option Asked) (o : Outcome) → IsOfWords words o → IsOwn o → AsksForFeed words ⊎ AsksForBlocks words
asked-for words o w own = grind arith

pub returns-clause-untouched : goal.returns-clause-untouched
returns-clause-untouched g c = λ none.
    c.finish.ensures.untouched (λ own. none (inr (asked-for _ c.outcome_of-outcome.result c.outcome_of-outcome.ensures.words own))) ∙ c.outcome_of-outcome.ensures.untouched (λ files. none (inl files))

pub returns-clause-alone : goal.returns-clause-alone
returns-clause-alone g c = λ feed.
    let none = c.outcome_of-outcome.ensures.untouched (λ files. files-no-feed _ files feed) in
    rw (sym none) (c.finish.ensures.alone (feed-no-quarters _ c.outcome_of-outcome.result feed c.outcome_of-outcome.ensures.words))

pub returns-clause-named : goal.returns-clause-named
returns-clause-named g c = λ feed.
    let none = c.outcome_of-outcome.ensures.unnamed (λ files. files-no-feed _ files feed) in
    rw (sym none) (c.finish.ensures.named (feed-no-quarters _ c.outcome_of-outcome.result feed c.outcome_of-outcome.ensures.words))
