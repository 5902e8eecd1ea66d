use Rattle.mari_day.proofs.Refusing.{refuses-by-check}
use Rattle.mari_day.proofs.reading.read_books.Goals as goal

pub returns-in-Ok-clause-check : goal.returns-in-Ok-clause-check
returns-in-Ok-clause-check g c = refuses-by-check c.in-Ok.pages c.books_of.result c.books_of.ensures.reads
