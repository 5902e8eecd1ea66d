use Rattle.std.proofs.Common.{[], ◌∷◌, ◌++◌, sym, subst}
use Rattle.mari_remain.specs.declared.books.Books.{Books}
use Rattle.mari_check.specs.Streams.{IsOpen, IsVerdictSoFar}
use Rattle.mari_check.proofs.Streaming.{comes, settled-stays, still-open}
use Rattle.mari_check.proofs.stream.VerdictSoFarPartsSoFarUnit.take.Goals as goal

pub returns-then-is_some-clause-took : goal.returns-then-is_some-clause-took
returns-then-is_some-clause-took c = λ first lent text parts keeps there.
    let s = c.args.self.now in
    record {
      accepted = keeps.accepted;
      books_are = keeps.books_are;
      found = settled-stays first.books.now parts c.args.part s.day s.found (sym c.if-is_some.ensures) keeps.found;
    }

pub part-found-requires-clause-comes : goal.part-found-requires-clause-comes
part-found-requires-clause-comes c =
    let r = c.requires in
    let s = c.args.self.now in
    let open_is = still-open r.0.books.now r.3 s.day s.found (sym c.if-is_some.ensures) r.4.found in
    (r.3, subst (λ (b : Books). IsOpen b r.3 s.day) (sym r.4.books_are) open_is, comes r.2 r.3 c.args.part r.5)

pub returns-clause-took : goal.returns-clause-took
returns-clause-took c = λ first lent text parts keeps there.
    let s = c.args.self.now in
    let open_is = still-open first.books.now parts s.day s.found (sym c.if-is_some.ensures) keeps.found in
    let own = c.in_ok-self.ensures parts (subst (λ (b : Books). IsOpen b parts s.day) (sym keeps.books_are) open_is) (comes text parts c.args.part there) in
    record {
      accepted = keeps.accepted;
      books_are = keeps.books_are;
      found = subst (λ (b : Books). IsVerdictSoFar b (parts ++ c.args.part ∷ []) c.part-found.new.self c.in_ok-self.field-0) keeps.books_are own;
    }
