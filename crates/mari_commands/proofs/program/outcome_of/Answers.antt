use Rattle.std.proofs.Common.{◌≡◌, ◌∙◌, ℕ, List, Option, Global, Some, ap, map, refl, subst, sym}
use Rattle.std.specs.Prelude.{string_bytes}
use Rattle.mari_words.specs.Asked.{Asked, asked}
use Rattle.mari_words.specs.declared.command.Command.{Command}
use Rattle.mari_answers.proofs.Limits.{IsWithin, within}
use Rattle.mari_commands.specs.Commands.{AsksForFiles, folder_of}
use Rattle.mari_commands.proofs.Folder.{reads}
use Rattle.mari_commands.proofs.Stating.{says-memory, words-of-summary}
use Rattle.mari_commands.proofs.program.outcome_of.Goals as goal

-- words that name a folder ask for its files
reads-files : (words : Option Asked) (x y : Command) (folder : List ℕ) → words ≡ Some (asked x) → x ≡ y → folder_of (asked y) ≡ Some folder → AsksForFiles words
reads-files words x y folder e f h = (folder, reads words (asked x) folder e (ap (λ (z : Command). folder_of (asked z)) f ∙ h))

abbrev is_within : Command → Type 0
is_within x = IsWithin (asked x)

pub to_clear-requires-clause-nodes : goal.to_clear-requires-clause-nodes
to_clear-requires-clause-nodes g c = (subst is_within c.in-Ok-Clear.field-0-is (within (map (string_bytes {Z = Global}) c.args.words.now) (asked c.in-Ok-Clear.field-0) c.in-Ok-Clear.ensures)).0

pub to_clear-requires-clause-workers : goal.to_clear-requires-clause-workers
to_clear-requires-clause-workers g c = (subst is_within c.in-Ok-Clear.field-0-is (within (map (string_bytes {Z = Global}) c.args.words.now) (asked c.in-Ok-Clear.field-0) c.in-Ok-Clear.ensures)).1

pub returns-in-Ok-Clear-clause-reported : goal.returns-in-Ok-Clear-clause-reported
returns-in-Ok-Clear-clause-reported g c = λ reported e. rw (c.in-Ok-Clear.ensures, c.in-Ok-Clear.field-0-is, sym c.deref.ensures) (c.to_clear.ensures.reported reported e)

pub returns-in-Ok-Check-clause-reported : goal.returns-in-Ok-Check-clause-reported
returns-in-Ok-Check-clause-reported g c = λ reported e. rw (c.in-Ok-Check.ensures, c.in-Ok-Check.field-0-is, sym c.deref-in-Ok-Check.ensures) (c.checked.ensures.reported reported e)

pub returns-in-Ok-Generate-clause-reported : goal.returns-in-Ok-Generate-clause-reported
returns-in-Ok-Generate-clause-reported g c = λ reported e. rw (c.in-Ok-Generate.ensures, c.in-Ok-Generate.field-0-is) c.generated.ensures

pub returns-in-Ok-Migrate-clause-reported : goal.returns-in-Ok-Migrate-clause-reported
returns-in-Ok-Migrate-clause-reported g c = λ reported e. rw (c.in-Ok-Migrate.ensures, c.in-Ok-Migrate.field-0-is, sym c.deref-in-Ok-Migrate.ensures) (c.migrated.ensures.reported reported e)

pub returns-in-Ok-Clear-clause-words : goal.returns-in-Ok-Clear-clause-words
returns-in-Ok-Clear-clause-words g c = rw (c.in-Ok-Clear.ensures, c.in-Ok-Clear.field-0-is, sym c.deref.ensures) c.to_clear.ensures.words

pub returns-in-Ok-Check-clause-words : goal.returns-in-Ok-Check-clause-words
returns-in-Ok-Check-clause-words g c = rw (c.in-Ok-Check.ensures, c.in-Ok-Check.field-0-is, sym c.deref-in-Ok-Check.ensures) c.checked.ensures.words

pub returns-in-Ok-Generate-clause-words : goal.returns-in-Ok-Generate-clause-words
returns-in-Ok-Generate-clause-words g c = rw (c.in-Ok-Generate.ensures, c.in-Ok-Generate.field-0-is) (words-of-summary c.in-Ok-Generate.number c.generated.result c.generated.ensures)

pub returns-in-Ok-Migrate-clause-words : goal.returns-in-Ok-Migrate-clause-words
returns-in-Ok-Migrate-clause-words g c = rw (c.in-Ok-Migrate.ensures, c.in-Ok-Migrate.field-0-is, sym c.deref-in-Ok-Migrate.ensures) c.migrated.ensures.words

pub returns-in-Ok-Feed-clause-reported : goal.returns-in-Ok-Feed-clause-reported
returns-in-Ok-Feed-clause-reported g c = λ reported e. rw (c.in-Ok-Feed.ensures, c.in-Ok-Feed.field-0-is) refl

pub returns-in-Ok-Feed-clause-words : goal.returns-in-Ok-Feed-clause-words
returns-in-Ok-Feed-clause-words g c = c.in-Ok-Feed.ensures ∙ ap (λ (x : Command). Some (asked x)) c.in-Ok-Feed.field-0-is

pub returns-in-Ok-Clear-clause-untouched : goal.returns-in-Ok-Clear-clause-untouched
returns-in-Ok-Clear-clause-untouched g c = λ none. absurd (none (reads-files _ _ _ _ c.in-Ok-Clear.ensures c.in-Ok-Clear.field-0-is refl))

pub returns-in-Ok-Clear-clause-unnamed : goal.returns-in-Ok-Clear-clause-unnamed
returns-in-Ok-Clear-clause-unnamed g c = λ none. absurd (none (reads-files _ _ _ _ c.in-Ok-Clear.ensures c.in-Ok-Clear.field-0-is refl))

pub returns-in-Ok-Check-clause-untouched : goal.returns-in-Ok-Check-clause-untouched
returns-in-Ok-Check-clause-untouched g c = λ none. absurd (none (reads-files _ _ _ _ c.in-Ok-Check.ensures c.in-Ok-Check.field-0-is refl))

pub returns-in-Ok-Check-clause-unnamed : goal.returns-in-Ok-Check-clause-unnamed
returns-in-Ok-Check-clause-unnamed g c = λ none. absurd (none (reads-files _ _ _ _ c.in-Ok-Check.ensures c.in-Ok-Check.field-0-is refl))

pub returns-in-Ok-Migrate-clause-untouched : goal.returns-in-Ok-Migrate-clause-untouched
returns-in-Ok-Migrate-clause-untouched g c = λ none. absurd (none (reads-files _ _ _ _ c.in-Ok-Migrate.ensures c.in-Ok-Migrate.field-0-is refl))

pub returns-in-Ok-Migrate-clause-unnamed : goal.returns-in-Ok-Migrate-clause-unnamed
returns-in-Ok-Migrate-clause-unnamed g c = λ none. absurd (none (reads-files _ _ _ _ c.in-Ok-Migrate.ensures c.in-Ok-Migrate.field-0-is refl))

pub to_clear-requires-in-Ok-Split-clause-nodes : goal.to_clear-requires-in-Ok-Split-clause-nodes
to_clear-requires-in-Ok-Split-clause-nodes g c =
    (subst is_within c.in-Ok-Split.field-0-is (within (map (string_bytes {Z = Global}) c.args.words.now) (asked c.in-Ok-Split.field-0) c.in-Ok-Split.ensures)).0

pub to_clear-requires-in-Ok-Split-clause-workers : goal.to_clear-requires-in-Ok-Split-clause-workers
to_clear-requires-in-Ok-Split-clause-workers g c =
    (subst is_within c.in-Ok-Split.field-0-is (within (map (string_bytes {Z = Global}) c.args.words.now) (asked c.in-Ok-Split.field-0) c.in-Ok-Split.ensures)).1

pub returns-in-Ok-Split-clause-reported : goal.returns-in-Ok-Split-clause-reported
returns-in-Ok-Split-clause-reported g c = λ reported e. rw (c.in-Ok-Split.ensures, c.in-Ok-Split.field-0-is, sym c.deref-in-Ok-Split.ensures) (c.to_clear-in-Ok-Split.ensures.reported reported e)

pub returns-in-Ok-Split-clause-words : goal.returns-in-Ok-Split-clause-words
returns-in-Ok-Split-clause-words g c = rw (c.in-Ok-Split.ensures, c.in-Ok-Split.field-0-is, sym c.deref-in-Ok-Split.ensures) c.to_clear-in-Ok-Split.ensures.words

pub returns-in-Ok-Split-clause-untouched : goal.returns-in-Ok-Split-clause-untouched
returns-in-Ok-Split-clause-untouched g c = λ none. absurd (none (reads-files _ _ _ _ c.in-Ok-Split.ensures c.in-Ok-Split.field-0-is refl))

pub returns-in-Ok-Split-clause-unnamed : goal.returns-in-Ok-Split-clause-unnamed
returns-in-Ok-Split-clause-unnamed g c = λ none. absurd (none (reads-files _ _ _ _ c.in-Ok-Split.ensures c.in-Ok-Split.field-0-is refl))

pub generated-requires-after_bounds : goal.generated-requires-after_bounds
generated-requires-after_bounds g c κs met =
    subst is_within c.in-Ok-Generate.field-0-is
    (within (map (string_bytes {Z = Global}) c.args.words.now) (asked c.in-Ok-Generate.field-0) c.in-Ok-Generate.ensures)

pub valued-requires-clause-some : goal.valued-requires-clause-some
valued-requires-clause-some g c = (subst is_within c.in-Ok-Value.field-0-is (within (map (string_bytes {Z = Global}) c.args.words.now) (asked c.in-Ok-Value.field-0) c.in-Ok-Value.ensures)).0

pub valued-requires-clause-more : goal.valued-requires-clause-more
valued-requires-clause-more g c = (subst is_within c.in-Ok-Value.field-0-is (within (map (string_bytes {Z = Global}) c.args.words.now) (asked c.in-Ok-Value.field-0) c.in-Ok-Value.ensures)).1

pub returns-in-Ok-Value-clause-reported : goal.returns-in-Ok-Value-clause-reported
returns-in-Ok-Value-clause-reported g c = λ reported e. rw (c.in-Ok-Value.ensures, c.in-Ok-Value.field-0-is, sym c.deref-in-Ok-Value.ensures) (c.valued.ensures.reported reported e)

pub returns-in-Ok-Value-clause-words : goal.returns-in-Ok-Value-clause-words
returns-in-Ok-Value-clause-words g c = rw (c.in-Ok-Value.ensures, c.in-Ok-Value.field-0-is, sym c.deref-in-Ok-Value.ensures) c.valued.ensures.words

pub returns-in-Ok-Value-clause-untouched : goal.returns-in-Ok-Value-clause-untouched
returns-in-Ok-Value-clause-untouched g c = λ none. absurd (none (reads-files _ _ _ _ c.in-Ok-Value.ensures c.in-Ok-Value.field-0-is refl))

pub returns-in-Ok-Value-clause-unnamed : goal.returns-in-Ok-Value-clause-unnamed
returns-in-Ok-Value-clause-unnamed g c = λ none. absurd (none (reads-files _ _ _ _ c.in-Ok-Value.ensures c.in-Ok-Value.field-0-is refl))

pub returns-in-Ok-Blocks-clause-reported : goal.returns-in-Ok-Blocks-clause-reported
returns-in-Ok-Blocks-clause-reported g c = λ reported e. rw (c.in-Ok-Blocks.ensures, c.in-Ok-Blocks.field-0-is) refl

pub returns-in-Ok-Blocks-clause-words : goal.returns-in-Ok-Blocks-clause-words
returns-in-Ok-Blocks-clause-words g c = c.in-Ok-Blocks.ensures ∙ ap (λ (x : Command). Some (asked x)) c.in-Ok-Blocks.field-0-is

pub returns-in-Ok-Blocks-clause-reportable : goal.returns-in-Ok-Blocks-clause-reportable
returns-in-Ok-Blocks-clause-reportable g c =
    let limits = subst is_within c.in-Ok-Blocks.field-0-is (within (map (string_bytes {Z = Global}) c.args.words.now) (asked c.in-Ok-Blocks.field-0) c.in-Ok-Blocks.ensures) in
    record { in_order = limits.0; last = limits.1; nodes = limits.2; workers = limits.3 }

pub returns-in-Err-Memory-clause-reported : goal.returns-in-Err-Memory-clause-reported
returns-in-Err-Memory-clause-reported g c = λ reported e. says-memory _ reported

pub returns-in-Err-Usage-clause-reported : goal.returns-in-Err-Usage-clause-reported
returns-in-Err-Usage-clause-reported g c = λ reported e. rw (rw c.in-Err-Usage.field-0-is at c.in-Err-Usage.ensures) tt
