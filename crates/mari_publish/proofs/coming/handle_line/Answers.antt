use Rattle.std.proofs.Common.{◌≡◌, ◌+◌, List, ℕ, Err, inl, inr, drop, refl, sym, ap, subst}
use Rattle.mari_lines.specs.Reading.{Lacks}
use Rattle.mari_publish.specs.declared.coming.Ahead.{Ahead}
use Rattle.mari_publish.specs.declared.coming.Coming.{Coming}
use Rattle.mari_publish.specs.declared.held.Kept.{Kept}
use Rattle.mari_publish.specs.declared.taking.TakeFault.{TakeFault}
use Rattle.mari_publish.specs.declared.taking.TakeFault.TheVariants as take_fault
use Rattle.mari_publish.specs.Gathering.{Took, text_fault}
use Rattle.mari_publish.specs.Handling.{BeginsWith, Handles}
use Rattle.mari_publish.specs.Pieces.{NoLineIn, come_of}
use Rattle.mari_publish.proofs.Pieces.{too_long}
use Rattle.mari_publish.proofs.MoreText.{drop_line, from_place}
use Rattle.mari_publish.proofs.coming.handle_line.Goals as goal

pub returns-then-here-gt-MOST_LINE-clause-handles : goal.returns-then-here-gt-MOST_LINE-clause-handles
returns-then-here-gt-MOST_LINE-clause-handles c =
    let is = from_place c.args.coming.now.bytes.items c.deref.result.now c.args.coming.now.handled _ c.deref.ensures.value c.in-Some.ensures.1 in
    (inr (c.in-Some.here.now, c.in-Some._after.now, record { all = c.in-Whole.is; is = is; whole = c.in-Some.ensures.0 }, too_long c.in-Some.here.now c.if-here-gt-MOST_LINE.true), refl, refl)

pub returns-in-Ok-clause-handles : goal.returns-in-Ok-clause-handles
returns-in-Ok-clause-handles c =
    let is = from_place c.args.coming.now.bytes.items c.deref.result.now c.args.coming.now.handled _ c.deref.ensures.value c.in-Some.ensures.1 in
    let t = c.in-Ok.ensures in
    record {
      here = c.in-Some.here.now;
      following = c.in-Some._after.now;
      begins = record { all = c.in-Whole.is; is = is; whole = c.in-Some.ensures.0 };
      line = t.0;
      in_range = t.1;
      spelled = t.2;
      follows = t.3;
      one_more = refl;
      all = c.in-Whole.is;
      left = drop_line c.args.coming.now.bytes.items c.in-Some.here.now c.in-Some._after.now c.args.coming.now.handled is;
    }

same_come : (c : Coming) (r : Kept) → r ≡ c.kept → come_of (record { kept = r; lines = c.lines; ahead = c.ahead; bytes = c.bytes; handled = c.handled }) ≡ come_of c
same_come c r e = ap (λ (k : Kept). come_of (record { kept = k; lines = c.lines; ahead = c.ahead; bytes = c.bytes; handled = c.handled })) e

-- a line that was not taken: what is wrong with it, and what is kept is as it was
refused : (c : Coming) (r : Kept) (here following : List ℕ) (f : TakeFault) → BeginsWith (come_of c) here following → Took c.kept here r (Err f)
    → Handles (come_of c) (come_of (record { kept = r; lines = c.lines; ahead = c.ahead; bytes = c.bytes; handled = c.handled })) (Err (text_fault (c.lines + 1) f))
refused c r here following take_fault.Formless begins t = (inr (here, following, begins, t.0), refl, same_come c r t.1)
refused c r here following take_fault.OutOfOrder begins t =
    (record { here = here; following = following; begins = begins; line = t.0; in_range = t.1; spelled = t.2; misplaced = t.3 }, refl, same_come c r t.4)
refused c r here following take_fault.Memory begins t = same_come c r t

pub returns-in-Err-clause-handles : goal.returns-in-Err-clause-handles
returns-in-Err-clause-handles c =
    let is = from_place c.args.coming.now.bytes.items c.deref.result.now c.args.coming.now.handled _ c.deref.ensures.value c.in-Some.ensures.1 in
    rw c.at.ensures
    (refused c.args.coming.now c.take_line.new.kept c.in-Some.here.now c.in-Some._after.now c.in-Err.fault (record { all = c.in-Whole.is; is = is; whole = c.in-Some.ensures.0 }) c.in-Err.ensures)

pub returns-in-Ended-clause-handles : goal.returns-in-Ended-clause-handles
returns-in-Ended-clause-handles c = (inl c.in-Ended.is, refl, refl)

pub returns-in-TooLong-clause-handles : goal.returns-in-TooLong-clause-handles
returns-in-TooLong-clause-handles c = (subst (λ (a : Ahead). NoLineIn a (drop c.args.coming.now.handled c.args.coming.now.bytes.items)) (sym c.in-TooLong.is) tt, refl)

pub returns-in_default-clause-handles : goal.returns-in_default-clause-handles
returns-in_default-clause-handles c =
    let is = from_place c.args.coming.now.bytes.items c.deref.result.now c.args.coming.now.handled _ c.deref.ensures.value refl in (
      subst (λ (a : Ahead). NoLineIn a (drop c.args.coming.now.handled c.args.coming.now.bytes.items)) (sym c.in-Whole.is) (subst (λ (w : List ℕ). Lacks 10 w) (sym is) c.in_default.ensures),
      refl,
    )
