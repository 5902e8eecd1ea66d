use Rattle.std.proofs.Common.{◌≡◌, ◌∙◌, ◌&&◌, not, Bool, true, false, refl, ap}
use Rattle.clap.specs.Words.{App, app_of, with_subcommand}
use Rattle.mari_words.proofs.parser.with_subcommand.Goals as goal

-- what the third of four tests says
third : (a b c d : Bool) → (a && (not b && (not c && d))) ≡ true → c ≡ false
third true false false d e = refl
third true false true d e = cc
third true true c d e = cc
third false b c d e = cc

pub returns-in_ok-subcommand-in-Ok-command : goal.returns-in_ok-subcommand-in-Ok-command
returns-in_ok-subcommand-in-Ok-command c = λ old sub plain is same.
    let before = rw c.in-Ok.is at is in
    let here = rw c.in-Ok-command.is at same in
    c.in_ok-subcommand-in-Ok-command.ensures.shape (third _ _ _ _ (ap (λ (a : App). a.top.is_plain) here ∙ plain))
    ∙ ap (λ (a : App). with_subcommand a (app_of c.in-Ok-command.command).top) before
    ∙ ap (λ (a : App). with_subcommand old a.top) here
