use Rattle.std.proofs.Common.{◌≡◌, ◌∙◌, List, Option, Some, None, refl, subst, sym}
use Rattle.std.specs.Prelude.{IfSome}
use Rattle.mari_publish.specs.declared.publication.Block.{Block}
use Rattle.mari_publish.specs.declared.publication.Publication.{Publication}
use Rattle.mari_remain.specs.declared.books.Books.{Books}
use Rattle.mari_check.specs.declared.verdict.Verdict.{Verdict}
use Rattle.mari_check.specs.Checked.{IsChecked}
use Rattle.mari_check.specs.Verdicts.{IsVerdict}
use Rattle.mari_check.proofs.Ending.{head-clear, head-reported}
use Rattle.mari_check.proofs.verdict.check_day.Goals as goal

reported-some : (books : Books) (p : Publication) (found : Option Verdict) (verdict : Verdict) → found ≡ Some verdict → IfSome found (IsVerdict books p) → IsVerdict books p verdict
reported-some books p None verdict e h = cc e
reported-some books p (Some v) verdict e h = let same : v ≡ verdict = cc e in subst (IsVerdict books p) same h

pub returns-in-Some : goal.returns-in-Some
returns-in-Some c = let p = c.args.publication.now in head-reported c.args.books.now p c.head_verdict-head.result c.in-Some.verdict c.in-Some.is (c.head_verdict-head.ensures.states p refl refl)

pub returns-in-Some-2 : goal.returns-in-Some-2
returns-in-Some-2 c =
    let p = c.args.publication.now in
    let head = head-clear c.args.books.now p c.head_verdict-head.result c.in_default.is (c.head_verdict-head.ensures.states p refl refl) in
    reported-some c.args.books.now p c.in_ok-verdict.field-0 c.in-Some-2.verdict c.in-Some-2.is (c.in_ok-verdict.ensures.found p head (sym c.head_verdict-head.ensures.budget) (sym c.as_slice.ensures))

pub returns-in-None : goal.returns-in-None
returns-in-None c =
    let books = c.args.books.now in
    let p = c.args.publication.now in
    let head = head-clear books p c.head_verdict-head.result c.in_default.is (c.head_verdict-head.ensures.states p refl refl) in
    let B : List Block → Type 0 = λ bs. IsChecked books bs c.all_blocks.new.self in
    c.end-verdict.ensures p head (sym (c.all_blocks.ensures.budget ∙ c.head_verdict-head.ensures.budget))
    (subst B c.as_slice.ensures (c.in_ok-verdict.ensures.none c.in-None.is)) (sym c.as_slice-operators.ensures) (sym c.as_slice-in-None.ensures)
