use Rattle.std.proofs.Common.{Ok, ◌≡◌, sym, ap, subst, ◌∙◌}
use Rattle.std.proofs.lemmas.Result.{err_from_is_err_and}
use Rattle.mari_publish.specs.Pieces.{ReaderState, ComesFrom, IsNext, with_answer, with_part}
use Rattle.mari_publish.proofs.Pieces.{one_next, wrong}
use Rattle.mari_publish.proofs.MoreText.{part_stays, line_stays, order_stays}
use Rattle.mari_publish.proofs.reader.TextReader.next.Goals as goal
use Rattle.mari_publish.proofs.reader.TextReader.next.Goals.{then-is_none, else-is_none}

pub invariant_of-self : goal.invariant_of-self
invariant_of-self c =
    let h = c.self.invariant.1 in
    (c.next_part.ensures.handled, (h.0, with_answer h.1 c.next_part.result, c.next_part.ensures.stands h.0 h.1 h.2), λ no. absurd cc, λ no. absurd cc)

pub returns-in_err-part-clause-next : goal.returns-in_err-part-clause-next
returns-in_err-part-clause-next c = λ text parts s.
    let x = err_from_is_err_and c.from_residual.result c.from_residual.ensures.1 in
    let is : c.from_residual.result ≡ wrong c.in_err-part.field-0.0 = x.1 ∙ ap wrong x.2 in
    subst (λ r. IsNext text parts r) (sym is) (c.in_err-part.ensures.next text parts (subst (λ (r : ReaderState). ComesFrom r.come text parts) (sym c.self.view_is) s))

pub returns-in_err-part-clause-one : goal.returns-in_err-part-clause-one
returns-in_err-part-clause-one c = λ text parts answer s a.
    let x = err_from_is_err_and c.from_residual.result c.from_residual.ensures.1 in
    let is : c.from_residual.result ≡ wrong c.in_err-part.field-0.0 = x.1 ∙ ap wrong x.2 in
    one_next text parts answer c.from_residual.result a
    (subst (λ r. IsNext text parts r) (sym is) (c.in_err-part.ensures.next text parts (subst (λ (r : ReaderState). ComesFrom r.come text parts) (sym c.self.view_is) s)))

pub invariant_of-self-then-is_none : goal.invariant_of-self-then-is_none
invariant_of-self-then-is_none c =
    let h = c.self.invariant.1 in (
      c.forget.ensures.handled,
      (h.0, with_answer h.1 c.next_part.result, c.forget.ensures.stands h.0 (with_answer h.1 c.next_part.result) (c.next_part.ensures.stands h.0 h.1 h.2)),
      λ yes. c.forget.ensures.no_line,
      λ yes. c.forget.ensures.few,
    )

pub invariant_of-self-else-is_none : goal.invariant_of-self-else-is_none
invariant_of-self-else-is_none c =
    let h = c.self.invariant.1 in
    (c.next_part.ensures.handled, (h.0, with_answer h.1 c.next_part.result, c.next_part.ensures.stands h.0 h.1 h.2), λ no. absurd cc, λ no. absurd cc)

pub returns-clause-next : goal.returns-clause-next
returns-clause-next c = λ text parts s. c.in_ok-part.ensures.next text parts (subst (λ (r : ReaderState). ComesFrom r.come text parts) (sym c.self.view_is) s)

pub returns-clause-stands : goal.returns-clause-stands
returns-clause-stands c = λ text parts s.
    let old = subst (λ (r : ReaderState). ComesFrom r.come text parts) (sym c.self.view_is) s in
    elim c.if-is_none.branch [
      | then-is_none w ↦ subst (λ (r : ReaderState). ComesFrom r.come text (with_part parts c.in_ok-part.part)) (sym w.self-is)
          (w.forget.ensures.stands text (with_part parts c.in_ok-part.part) (c.in_ok-part.ensures.stands text parts old))
      | else-is_none w ↦ subst (λ (r : ReaderState). ComesFrom r.come text (with_part parts c.in_ok-part.part)) (sym w.self-is) (c.in_ok-part.ensures.stands text parts old)
    ]

pub returns-clause-one : goal.returns-clause-one
returns-clause-one c = λ text parts answer s a.
    one_next text parts answer (Ok c.in_ok-part.part) a
    (c.in_ok-part.ensures.next text parts (subst (λ (r : ReaderState). ComesFrom r.come text parts) (sym c.self.view_is) s))

pub returns-in_err-part-clause-part : goal.returns-in_err-part-clause-part
returns-in_err-part-clause-part c = λ text more parts x h. part_stays text more parts x h

pub returns-in_err-part-clause-bad_line : goal.returns-in_err-part-clause-bad_line
returns-in_err-part-clause-bad_line c = λ text more n h. line_stays text more n h

pub returns-in_err-part-clause-bad_order : goal.returns-in_err-part-clause-bad_order
returns-in_err-part-clause-bad_order c = λ text more n h. order_stays text more n h

pub returns-clause-part : goal.returns-clause-part
returns-clause-part c = λ text more parts x h. part_stays text more parts x h

pub returns-clause-bad_line : goal.returns-clause-bad_line
returns-clause-bad_line c = λ text more n h. line_stays text more n h

pub returns-clause-bad_order : goal.returns-clause-bad_order
returns-clause-bad_order c = λ text more n h. order_stays text more n h
