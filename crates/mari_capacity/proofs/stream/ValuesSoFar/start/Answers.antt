use Rattle.std.proofs.Common.{◌∙◌, [], ◌++◌, ℕ, List, ap, refl, subst, sym}
use Rattle.mari_capacity.specs.Lines.{opening_line}
use Rattle.mari_capacity.specs.Values.{IsValueText}
use Rattle.mari_capacity.specs.Values.IsValueText.{Opened}
use Rattle.mari_capacity.proofs.stream.ValuesSoFar.start.Goals as goal

pub returns-clause-taken : goal.returns-clause-taken
returns-clause-taken c =
    let put = c.in_ok-put_opening.ensures ∙ ap (λ (t : List ℕ). t ++ opening_line c.args.more) c.new-lines.ensures.items in
    record {
      found = c.in_ok-day.ensures;
      ended = tt;
      states = record { checked = tt; lines = subst (λ (t : List ℕ). IsValueText c.args.books.now c.args.more [] t) (sym put) Opened };
      more_is = refl;
    }
