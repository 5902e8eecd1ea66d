use Rattle.std.proofs.Common.{[], ◌∷◌, ◌++◌, sym, subst}
use Rattle.mari_remain.specs.declared.books.Books.{Books}
use Rattle.mari_reach_check.specs.Parts.{IsOpen, IsVerdictSoFar}
use Rattle.mari_reach_check.proofs.Parts.{comes, settled-stays, still-open}
use Rattle.mari_reach_check.proofs.Streaming.{last-fits}
use Rattle.mari_reach_check.proofs.stream.VerdictSoFarTakesPartsReachKeptUnit.take.Goals as goal

pub returns-then-is_some-clause-took : goal.returns-then-is_some-clause-took
returns-then-is_some-clause-took c = λ first lent text parts keeps there.
    let s = c.args.self.now in
    record {
      accepted = keeps.accepted;
      books_are = keeps.books_are;
      found = settled-stays first.books.now parts c.args.part s.day s.found (sym c.if-is_some.ensures) keeps.found;
    }

pub part-requires-clause-claim : goal.part-requires-clause-claim
part-requires-clause-claim c =
    let r = c.requires in
    last-fits r.3 c.args.part (c.reach_texts_follow.ensures.claims r.5.lines (r.3 ++ c.args.part ∷ []) r.5.kept r.5.follow)

pub part-requires-clause-comes : goal.part-requires-clause-comes
part-requires-clause-comes c =
    let r = c.requires in
    let s = c.args.self.now in
    let day = c.reach_texts_follow.ensures.begins r.5.lines (r.3 ++ c.args.part ∷ []) r.5.kept r.5.follow in
    let open_is = still-open r.0.books.now r.3 s.day s.found (sym c.if-is_some.ensures) r.4.found in
    (r.3, subst (λ (b : Books). IsOpen b r.3 s.day) (sym r.4.books_are) open_is, comes r.3 c.args.part day.0 day.1 day.2)

pub returns-clause-took : goal.returns-clause-took
returns-clause-took c = λ first lent text parts keeps there.
    let s = c.args.self.now in
    let day = c.reach_texts_follow.ensures.begins there.lines (parts ++ c.args.part ∷ []) there.kept there.follow in
    let open_is = still-open first.books.now parts s.day s.found (sym c.if-is_some.ensures) keeps.found in
    let own = c.in_ok-self.ensures parts (subst (λ (b : Books). IsOpen b parts s.day) (sym keeps.books_are) open_is) (comes parts c.args.part day.0 day.1 day.2) in
    record {
      accepted = keeps.accepted;
      books_are = keeps.books_are;
      found = subst (λ (b : Books). IsVerdictSoFar b (parts ++ c.args.part ∷ []) c.part.new.self c.in_ok-self.field-0) keeps.books_are own;
    }
