use Rattle.std.proofs.Common.{◌≡◌, ◌∙◌, ◌↔◌, ⊎_elim, true, List, [], ◌∷◌, map, Option, None, Err, String, string_bytes, refl, ap, subst}
use Rattle.std.proofs.lemmas.Str.{IsUtf8-string_bytes}
use Rattle.clap.specs.Words.{App, IsAmong, app_of, fault_of, is_simple, is_simple_and_free, kind_of, subcommand_of, subcommand_rows_of}
use Rattle.clap.specs.declared.error.ErrorKind.TheVariants.{OutOfMemory}
use Rattle.mari_words.specs.Asked.{Asked}
use Rattle.mari_words.specs.declared.command.WordsFault.{WordsFault}
use Rattle.mari_words.specs.declared.command.WordsFault.TheVariants.{Memory, Usage}
use Rattle.mari_words.specs.Given.{asked_in}
use Rattle.mari_words.specs.Line.{line}
use Rattle.mari_words.specs.Seen.{Text}
use Rattle.mari_words.specs.Words.{Reads, command_at}
use Rattle.mari_words.proofs.Agrees.{agrees}
use Rattle.mari_words.proofs.Sorts.{sort_of}
use Rattle.mari_words.proofs.Steps.{Spelled}
use Rattle.mari_words.proofs.command.read_words.Goals as goal

spelled : {Z : Type 0} (words : List (String Z)) → Spelled (map string_bytes words)
spelled [] = tt
spelled (word ∷ words) = (sort_of (string_bytes word) (IsUtf8-string_bytes word), spelled words)

simple : is_simple line ≡ true
simple = refl

free : is_simple_and_free line ≡ true
free = refl

pub returns-in-Ok-try_get_matches_from : goal.returns-in-Ok-try_get_matches_from
returns-in-Ok-try_get_matches_from c =
    let texts : List Text = map string_bytes c.args.words.now in
    let app : app_of c.in-Ok.parser ≡ line = c.in-Ok.ensures in
    let all = agrees texts (spelled c.args.words.now) in
    let fault : fault_of line texts ≡ [] = subst (λ (x : App). fault_of x texts ≡ []) app (c.in-Ok-try_get_matches_from.ensures.kinds (ap is_simple_and_free app ∙ free)) in
    let found : subcommand_rows_of c.in-Ok-try_get_matches_from.found ≡ subcommand_of line texts =
    (c.in-Ok-try_get_matches_from.ensures.matches (ap is_simple app ∙ simple)).1 ∙ ap (λ (x : App). subcommand_of x texts) app in
    subst (Reads c.command_in.result) (ap asked_in found ∙ all.taken fault) c.command_in.ensures

usage_reported : (fault : WordsFault) (wanted : Option Asked) (P : Type 0) → (fault ≡ Memory) ↔ P → ((P → ⊥) → wanted ≡ None) → Reads (Err fault) wanted
usage_reported Memory wanted P iff h = tt
usage_reported Usage wanted P iff h = h (λ p. let clash : Usage ≡ Memory = iff.1 p in cc)

pub returns-in-Err : goal.returns-in-Err
returns-in-Err c =
    let texts : List Text = map string_bytes c.args.words.now in
    let app : app_of c.in-Ok.parser ≡ line = c.in-Ok.ensures in
    let all = agrees texts (spelled c.args.words.now) in
    let fails = c.in-Err.ensures.kinds (ap is_simple_and_free app ∙ free) in
    usage_reported c.fault_of.result (command_at texts) (kind_of c.in-Err.error ≡ OutOfMemory) c.fault_of.ensures
    (λ other. all.refused (λ none. ⊎_elim (λ memory. other memory)
    (λ among. subst (IsAmong (kind_of c.in-Err.error)) (ap (λ (x : App). fault_of x texts) app ∙ none) among) fails))
