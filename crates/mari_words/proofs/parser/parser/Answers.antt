use Rattle.std.proofs.Common.{codes, refl}
use Rattle.clap.specs.Words.{with_subcommand}
use Rattle.mari_words.specs.Line.{bare_line, one_word, three_words, two_words, with_options}
use Rattle.mari_words.proofs.parser.parser.Goals as goal

pub returns : goal.returns
returns c =
    let clear = with_options (one_word (codes "clear")) in
    let check = one_word (codes "check") in
    let generate = one_word (codes "generate") in
    let migrate = two_words (codes "migrate") in
    let feed = one_word (codes "feed") in
    let split = with_options (one_word (codes "split")) in
    let blocks = with_options (three_words (codes "blocks")) in
    let line-1 = with_subcommand bare_line clear.top in
    let line-2 = with_subcommand line-1 check.top in
    let line-3 = with_subcommand line-2 generate.top in
    let line-4 = with_subcommand line-3 migrate.top in
    let line-5 = with_subcommand line-4 feed.top in
    let line-6 = with_subcommand line-5 split.top in
    let line-7 = with_subcommand line-6 blocks.top in
    c.with_subcommand.ensures line-7 (two_words (codes "value")) refl
    (c.with_subcommand-mari-7.ensures line-6 blocks refl
    (c.with_subcommand-mari-6.ensures line-5 split refl
    (c.with_subcommand-mari-5.ensures line-4 feed refl
    (c.with_subcommand-mari-4.ensures line-3 migrate refl
    (c.with_subcommand-mari-3.ensures line-2 generate refl
    (c.with_subcommand-mari-2.ensures line-1 check refl
    (c.with_subcommand-mari.ensures bare_line clear refl c.bare.ensures (c.with_options.ensures (one_word (codes "clear")) c.with_word.ensures))
    c.with_word-2.ensures)
    c.with_word-3.ensures)
    c.with_two_words.ensures)
    c.with_word-4.ensures)
    (c.with_options-2.ensures (one_word (codes "split")) c.with_word-5.ensures))
    (c.with_options-3.ensures (three_words (codes "blocks")) c.with_three_words.ensures))
    c.with_two_words-2.ensures
