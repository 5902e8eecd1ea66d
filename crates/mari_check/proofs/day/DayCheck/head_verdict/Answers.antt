use Rattle.std.proofs.Common.{◌≡◌, ℕ, List, Option, subst, sym}
use Rattle.mari_publish.specs.declared.publication.Publication.{Publication}
use Rattle.mari_remain.specs.declared.books.Books.{Books}
use Rattle.mari_progress.specs.Totals.{HasHead}
use Rattle.mari_check.specs.Checked.{FindsHead}
use Rattle.mari_check.proofs.Ending.{head-fault}
use Rattle.mari_check.proofs.day.DayCheck.head_verdict.Goals as goal

-- the head that is tested is that of a publication with this date and these quarters
of-publication : (books : Books) (p : Publication) (date : List ℕ) (quarters : ℕ) (result : Option ℕ) → p.date ≡ date → p.quarters ≡ quarters → FindsHead (HasHead books date quarters) result
    → FindsHead (HasHead books p.date p.quarters) result
of-publication books p date quarters result d q h =
    subst (λ (own : List ℕ). FindsHead (HasHead books own p.quarters) result) (sym d) (subst (λ (own : ℕ). FindsHead (HasHead books date own) result) (sym q) h)

pub returns-in-Some-clause-states : goal.returns-in-Some-clause-states
returns-in-Some-clause-states c = λ p date quarters.
    head-fault c.args.books.now p c.head.result c.in-Some.fault c.in-Some.is (of-publication c.args.books.now p _ _ c.head.result date quarters c.head.ensures.finds)
