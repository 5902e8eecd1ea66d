use Rattle.std.proofs.Common.{◌≡◌, ◌∙◌, ℕ, List, ap, subst}
use Rattle.std.specs.Global.{Vec}
use Rattle.mari_publish.specs.declared.publication.Block.{Block}
use Rattle.mari_publish.specs.Faults.{IsText}
use Rattle.mari_commands.specs.Summary.{IsGenerated, summary_of}
use Rattle.mari_commands.proofs.Summaries.{if-ok, summarised}
use Rattle.mari_commands.proofs.generating.summary.Goals as goal

pub returns-in-Ok-read_text : goal.returns-in-Ok-read_text
returns-in-Ok-read_text g c =
    let found = c.in-Ok-read_text in
    let P : List ℕ → Type 0 = λ t. IsText t found.publication in
    let read : IsText c.in-Ok.day.text found.publication = subst P c.as_slice.ensures found.ensures.outcome in
    let same : c.as_slice-in-Ok-read_text.result.now ≡ found.publication.blocks = c.as_slice-in-Ok-read_text.ensures in
    if-ok (λ (t : Vec ℕ). t.items ≡ summary_of c.args.number c.in_ok-books.books c.as_slice-in-Ok-read_text.result.now) (λ (t : Vec ℕ). IsGenerated c.args.number t.items) c.summary_text-text.result
    (λ t spelled. summarised c.args.number c.in_ok-books.books c.in-Ok.day found.publication t.items c.in_ok-books.ensures.pages c.in_ok-books.ensures.gives c.in-Ok.ensures read
    (spelled ∙ ap (λ (bs : List Block). summary_of c.args.number c.in_ok-books.books bs) same))
    c.summary_text-text.ensures
