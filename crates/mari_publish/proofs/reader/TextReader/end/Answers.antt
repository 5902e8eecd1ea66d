use Rattle.std.proofs.Common.{◌+◌, Ok, Err, sym, ap, subst, ◌∙◌, arith}
use Rattle.mari_publish.specs.declared.fault.TextFault.TheVariants as fault
use Rattle.mari_publish.specs.Pieces.{ReaderState, ComesFrom, come_of}
use Rattle.mari_publish.proofs.Pieces.{lines_of_few}
use Rattle.mari_publish.proofs.MoreText.{whole_end, cut_off, end_of_text, end_cut_off}
use Rattle.mari_publish.proofs.reader.TextReader.end.Goals as goal

pub overflow_add-number : goal.overflow_add-number
overflow_add-number c = let few = lines_of_few (come_of c.self.inside.coming) c.self.invariant.1 in omega (arith, few)

pub returns-then-whole-clause-end : goal.returns-then-whole-clause-end
returns-then-whole-clause-end c = λ text parts s.
    whole_end (tt {0}) (come_of c.self.inside.coming) text parts (subst (λ (r : ReaderState). ComesFrom r.come text parts) (sym c.self.view_is) s) (c.is_whole-whole.ensures.whole c.if-whole.true)

pub returns-then-whole-clause-truncated : goal.returns-then-whole-clause-truncated
returns-then-whole-clause-truncated c = λ text parts n s t.
    end_cut_off text parts n (Ok (tt {0}))
    (whole_end (tt {0}) (come_of c.self.inside.coming) text parts (subst (λ (r : ReaderState). ComesFrom r.come text parts) (sym c.self.view_is) s) (c.is_whole-whole.ensures.whole c.if-whole.true))
    t

pub returns-else-whole-clause-end : goal.returns-else-whole-clause-end
returns-else-whole-clause-end c = λ text parts s.
    cut_off (come_of c.self.inside.coming) text parts (subst (λ (r : ReaderState). ComesFrom r.come text parts) (sym c.self.view_is) s)
    (c.self.invariant.2 (ap (λ (r : ReaderState). r.waits) c.self.view_is ∙ c.requires.waits)) (c.is_whole-whole.ensures.unfinished c.if-whole.false)

pub returns-else-whole-clause-text : goal.returns-else-whole-clause-text
returns-else-whole-clause-text c = λ text parts p s t.
    end_of_text {T = Unit {0}} text parts p (Err (fault.Truncated (c.self.inside.coming.lines + 1)))
    (cut_off (come_of c.self.inside.coming) text parts (subst (λ (r : ReaderState). ComesFrom r.come text parts) (sym c.self.view_is) s)
    (c.self.invariant.2 (ap (λ (r : ReaderState). r.waits) c.self.view_is ∙ c.requires.waits)) (c.is_whole-whole.ensures.unfinished c.if-whole.false)) t

pub returns-else-whole-clause-truncated : goal.returns-else-whole-clause-truncated
returns-else-whole-clause-truncated c = λ text parts n s t.
    end_cut_off {T = Unit {0}} text parts n (Err (fault.Truncated (c.self.inside.coming.lines + 1)))
    (cut_off (come_of c.self.inside.coming) text parts (subst (λ (r : ReaderState). ComesFrom r.come text parts) (sym c.self.view_is) s)
    (c.self.invariant.2 (ap (λ (r : ReaderState). r.waits) c.self.view_is ∙ c.requires.waits)) (c.is_whole-whole.ensures.unfinished c.if-whole.false)) t
