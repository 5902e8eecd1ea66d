use Rattle.std.proofs.Common.{◌+◌, ℕ, List, [], length, Some, refl, sym, ap, ◌∙◌, arith}
use Rattle.std.proofs.lemmas.List.{append-nil}
use Rattle.mari_lines.specs.declared.line.Line.{Line}
use Rattle.mari_publish.specs.Lines.{full_lines}
use Rattle.mari_publish.specs.Order.{after_all, grown, kept_at}
use Rattle.mari_publish.specs.Texts.{text_of_lines}
use Rattle.mari_publish.specs.declared.held.Held.TheVariants as held
use Rattle.mari_publish.specs.declared.publication.Block.TheVariants as block
use Rattle.mari_publish.specs.declared.publication.Part.TheVariants as part
use Rattle.mari_publish.proofs.Fits.{block_within}
use Rattle.mari_publish.proofs.Follows.{block_follows, last_follows}
use Rattle.mari_publish.proofs.PartsGiven.{gives_nothing, next_gives, stands_of}
use Rattle.mari_publish.proofs.Progress.{counts_kept, number_fits, room_kept}
use Rattle.mari_publish.proofs.laws.lines_give.Goals as goal

pub returns-clause-nothing : goal.returns-clause-nothing
returns-clause-nothing c = gives_nothing

pub returns-clause-more : goal.returns-clause-more
returns-clause-more c = λ lines parts old new line x g e. next_gives lines parts old new line x g e

pub returns-clause-room : goal.returns-clause-room
returns-clause-room c = λ lines parts kept g. let s = stands_of lines g.so_far kept g.follow in (room_kept lines g.so_far kept s, counts_kept lines g.so_far kept s)

pub returns-clause-few : goal.returns-clause-few
returns-clause-few c = λ lines parts kept fit g.
    let n = number_fits (text_of_lines lines) [] (length lines + 1) g.so_far kept
    (record { before = lines; parts = sym (append-nil (text_of_lines lines)); number_is = refl; fit = fit; came = g.follow; stands = stands_of lines g.so_far kept g.follow }) in
    omega (arith, n)

pub returns-clause-block : goal.returns-clause-block
returns-clause-block c = λ p m n b fits room.
    ap (λ (ls : List Line). after_all p (kept_at held.Between m n) ls) (sym (append-nil (full_lines b)))
    ∙ block_follows p m n (block.Published b) [] (block_within (block.Published b) fits) room
    ∙ ap (λ (x : ℕ). Some (grown p (Some (part.Block (block.Published b))), kept_at held.Between (m + 1) x)) (omega arith)

pub returns-clause-closing : goal.returns-clause-closing
returns-clause-closing c = λ p m n operators providers fits. last_follows p m n operators providers fits.0.0 fits.1.0.1
