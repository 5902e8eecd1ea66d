-- The summary of a day that was printed and read.
use Rattle.std.proofs.Common.{◌≡◌, ℕ, List, arith, subst, sym}
use Rattle.std.specs.Prelude.{IfOk, Result, Ok, Err}
use lib.Chars.{codes}
use Rattle.mari_publish.specs.declared.publication.Publication.{Publication}
use Rattle.mari_publish.specs.Faults.{IsText}
use Rattle.mari_publish.proofs.Outcomes.{one_text}
use Rattle.mari_remain.specs.declared.books.Books.{Books}
use Rattle.mari_day.specs.Day.{IsDay, IsPrintedDay}
use Rattle.mari_day.specs.Reading.{HasBooks}
use Rattle.mari_day.specs.declared.text.PrintedDay.{PrintedDay}
use Rattle.mari_scenario.specs.Accepted.{AreAccepted, IsOfDaySize}
use Rattle.mari_scenario.specs.Pages.{scenario_at}
use Rattle.mari_words.specs.declared.command.TheConstants.{USUAL_NODES}
use Rattle.mari_commands.proofs.Gates.{generated-published}
use Rattle.mari_commands.proofs.GeneratedBooks.{same-books, whole}
use Rattle.mari_commands.specs.Summary.{IsGenerated, summary_of}

pub if-ok : {A E : Type 0} (P Q : A → Type 0) (r : Result A E) → ((x : A) → P x → Q x) → IfOk r P → IfOk r Q
if-ok P Q (Ok x) f h = f x h
if-ok P Q (Err e) f h = tt

pub summarised : (number : ℕ) (books : Books) (day : PrintedDay) (p : Publication) (text : List ℕ) → AreAccepted (scenario_at number) → HasBooks (scenario_at number) (codes "s") books
    → IsPrintedDay books USUAL_NODES day → IsText day.text p → text ≡ summary_of number books p.blocks → IsGenerated number text
summarised number books day p text accepted gives is read spelled =
    let printed : IsText day.text is.publication = record { has = is.in_range; is = is.text } in
    let same : is.publication ≡ p = one_text day.text is.publication p printed read in
    let P : Publication → Type 0 = λ q. IsDay books USUAL_NODES q in
    let day-is : IsDay books USUAL_NODES p = subst P same is.is_day in
    let whole-is : books ≡ whole (scenario_at number) accepted = same-books (scenario_at number) accepted books gives in
    record {
      books = books;
      gives = gives;
      sized = subst (λ (b : Books). IsOfDaySize b.zones b.borders b.bids b.runs) (sym whole-is) accepted.sized;
      publication = p;
      is_day = day-is;
      published = generated-published number USUAL_NODES books p accepted gives (omega arith) day-is;
      printed = spelled;
    }
