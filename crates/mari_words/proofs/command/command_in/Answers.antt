use Rattle.std.proofs.Common.{◌≡◌, ◌∙◌, Option, Some, None, is_some, option_map, sym, ap, ap₂, true≢false}
use Rattle.clap.specs.declared.parser.matches.ArgMatches.TheViews.{out-ArgMatches}
use Rattle.mari_words.specs.Given.{asked_in}
use Rattle.mari_words.proofs.Steps.{value_or}
use Rattle.mari_words.proofs.command.command_in.Goals as goal

-- what is found under a name, from the name and what is found
module _ {A B C : Type 0} (f : A → B) (g : A → C) where
  abbrev pair : A → B × C
  pair a = (f a, g a)

  abbrev joined : B → C → Option (B × C)
  joined name rows = Some (name, rows)

  pair_is : (o : Option A) (name : B) (rows : C) → Some name ≡ option_map f o → Some rows ≡ option_map (λ (p : B × C). p.1) (option_map pair o)
      → option_map pair o ≡ joined name rows
  pair_is None name rows is holds = absurd (true≢false (ap is_some is))
  pair_is (Some a) name rows is holds = ap₂ joined (ap (value_or name) (sym is)) (ap (value_or rows) (sym holds))

pub returns-in_default-asked_of : goal.returns-in_default-asked_of
returns-in_default-asked_of c =
    ap asked_in (pair_is _ _ (out-ArgMatches c.args.found.now).subcommand _ _ c.in-Some.ensures.name c.in-Some.ensures.rows) ∙ sym c.in_default-asked_of.ensures

pub returns-in-Ok : goal.returns-in-Ok
returns-in-Ok c =
    ap asked_in (pair_is _ _ (out-ArgMatches c.args.found.now).subcommand _ _ c.in-Some.ensures.name c.in-Some.ensures.rows) ∙ sym c.in-Some-asked_of.ensures
    ∙ ap (λ a. Some a) (sym c.in-Ok.ensures)
