-- The program's command line as `clap` has it; which words are a command, `Words` says without it.
use Rattle.std.specs.Prelude.{Some, true}
use lib.Chars.{codes}
use Rattle.clap.specs.Words.{App, Rule, Text, new_app, new_rule, with_rule, with_subcommand}
use Rattle.clap.specs.declared.builder.ArgAction.TheVariants.{Set}

-- a word that has to be there, which belongs to no option
abbrev pub required_word : Text → Rule
required_word id = record (new_rule id) { required = true; action = Some Set }

-- an option with a value
abbrev pub option_rule : Text → Rule
option_rule name = record (new_rule name) { long = Some name; action = Some Set }

-- a command of this name with one word after it, with two, and with three
abbrev pub one_word : Text → App
one_word name = with_rule (new_app name) (required_word (codes "first"))

abbrev pub two_words : Text → App
two_words name = with_rule (one_word name) (required_word (codes "second"))

abbrev pub three_words : Text → App
three_words name = with_rule (two_words name) (required_word (codes "third"))

-- the options after the words
abbrev pub with_options : App → App
with_options app = with_rule (with_rule app (option_rule (codes "nodes"))) (option_rule (codes "workers"))

-- the command line before its subcommands are added
abbrev pub bare_line : App
bare_line = record (new_app (codes "mari")) {
  top = record (new_app (codes "mari")).top {
    no_binary_name = true;
    disable_help_flag = true;
    disable_help_subcommand = true;
    disable_version_flag = true;
    subcommand_required = true;
  };
}

-- the whole command line
abbrev pub line : App
line =
    with_subcommand
    (with_subcommand
    (with_subcommand
    (with_subcommand
    (with_subcommand
    (with_subcommand
    (with_subcommand
    (with_subcommand bare_line (with_options (one_word (codes "clear"))).top)
    (one_word (codes "check")).top)
    (one_word (codes "generate")).top)
    (two_words (codes "migrate")).top)
    (one_word (codes "feed")).top)
    (with_options (one_word (codes "split"))).top)
    (with_options (three_words (codes "blocks"))).top)
    (two_words (codes "value")).top
