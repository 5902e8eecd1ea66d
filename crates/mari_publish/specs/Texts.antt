-- The texts of a publication and of its parts: those of their lines.
use Rattle.std.specs.Prelude.{ℕ, List, [], ◌∷◌, ◌++◌}
use Rattle.std.specs.List.{flat_map}
use Rattle.mari_lines.specs.declared.line.Line.{Line}
use Rattle.mari_lines.specs.declared.line.Line.TheVariants as line
use Rattle.mari_lines.specs.Spelling.{line_text, spaced}
use Rattle.mari_publish.specs.declared.publication.Block.{Block}
use Rattle.mari_publish.specs.declared.publication.Publication.{Publication}
use Rattle.mari_publish.specs.Lines.{block_lines, closing_lines, lines_of}

-- the texts of lines, one after the other
abbrev pub text_of_lines : List Line → List ℕ
text_of_lines lines = flat_map line_text lines

-- a line of a first word and fields, in forms of text that are no publication of the first form
abbrev pub words_line : (keyword : List ℕ) → (fields : List (List ℕ)) → List ℕ
words_line keyword fields = keyword ++ spaced fields ++ 10 ∷ []

-- the text of the first line
abbrev pub head_text_of : List ℕ → ℕ → ℕ → List ℕ
head_text_of date quarters budget = text_of_lines (line.Head date quarters budget ∷ [])

-- the text of a block
abbrev pub block_text_of : Block → List ℕ
block_text_of b = text_of_lines (block_lines b)

-- the text of the closing lines
abbrev pub total_text_of : Publication → List ℕ
total_text_of p = text_of_lines (closing_lines p)

-- the text of a publication
abbrev pub text_of : Publication → List ℕ
text_of p = text_of_lines (lines_of p)
