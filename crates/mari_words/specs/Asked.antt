-- What words ask for.
use Rattle.std.specs.Prelude.{ℕ, List, string_bytes}
use Rattle.mari_words.specs.declared.command.Command.{Command}
use Rattle.mari_words.specs.declared.command.Command.TheVariants as owned
use Rattle.mari_words.specs.declared.command.FilePart.{FilePart}
use Rattle.mari_words.specs.declared.asking.Asked.{Asked as Lent}
use Rattle.mari_words.specs.declared.asking.Asked.TheVariants as lent

-- a folder to clear, with the most nodes of each run's search and the number of workers; a folder to check; the number
-- of a generated day; a folder of which one file is printed in its new form; a folder whose publication is printed as
-- JSON; a folder to clear island by island, with the most nodes of each island's search and the number of workers; a
-- folder of whose quarter hours those from a first to a last one are cleared as one market, with the most nodes and the
-- number of workers; and a folder of which it is printed what `more` MW more on each border's limits are worth
pub data Asked : Type 0 where
  Clear : (folder : List ℕ) (nodes workers : ℕ) → Asked
  Check : (folder : List ℕ) → Asked
  Generate : (number : ℕ) → Asked
  Migrate : (folder : List ℕ) (part : FilePart) → Asked
  Feed : (folder : List ℕ) → Asked
  Split : (folder : List ℕ) (nodes workers : ℕ) → Asked
  Blocks : (folder : List ℕ) (first last nodes workers : ℕ) → Asked
  Value : (folder : List ℕ) (more : ℕ) → Asked

-- the same, of a command
abbrev pub asked : Command → Asked
asked (owned.Clear folder nodes workers) = Asked.Clear (string_bytes folder) nodes workers
asked (owned.Check folder) = Asked.Check (string_bytes folder)
asked (owned.Generate number) = Asked.Generate number
asked (owned.Migrate folder part) = Asked.Migrate (string_bytes folder) part
asked (owned.Feed folder) = Asked.Feed (string_bytes folder)
asked (owned.Split folder nodes workers) = Asked.Split (string_bytes folder) nodes workers
asked (owned.Blocks folder first last nodes workers) = Asked.Blocks (string_bytes folder) first last nodes workers
asked (owned.Value folder more) = Asked.Value (string_bytes folder) more

-- the same, where the folder is lent
abbrev pub lent_asked : Lent → Asked
lent_asked (lent.Clear folder nodes workers) = Asked.Clear folder.now nodes workers
lent_asked (lent.Check folder) = Asked.Check folder.now
lent_asked (lent.Generate number) = Asked.Generate number
lent_asked (lent.Migrate folder part) = Asked.Migrate folder.now part
lent_asked (lent.Feed folder) = Asked.Feed folder.now
lent_asked (lent.Split folder nodes workers) = Asked.Split folder.now nodes workers
lent_asked (lent.Blocks folder first last nodes workers) = Asked.Blocks folder.now first last nodes workers
lent_asked (lent.Value folder more) = Asked.Value folder.now more
