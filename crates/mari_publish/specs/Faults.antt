-- What a text is: that of a publication, or one with a first fault.
use Rattle.std.specs.Prelude.{◌≡◌, ℕ, ◌+◌, List, [], ◌∷◌, ◌++◌, length, ◌⊎◌, Result, Ok, Err, ⊤}
use Rattle.mari_publish.specs.declared.publication.Publication.{Publication}
use Rattle.mari_lines.specs.declared.line.Line.{Line}
use Rattle.mari_publish.specs.declared.fault.TextFault.{TextFault}
use Rattle.mari_publish.specs.declared.fault.TextFault.TheVariants as fault
use Rattle.mari_publish.specs.Lines.{lines_of}
use Rattle.mari_lines.specs.Ranges.{InRange}
use Rattle.mari_publish.specs.Ranges.{HasText}
use Rattle.mari_lines.specs.Reading.{Lacks}
use Rattle.mari_lines.specs.Spelling.{spelling, line_text}
use Rattle.mari_publish.specs.Texts.{text_of_lines, text_of}

-- these lines stand at the front of some publication's
abbrev pub Begins : List Line → Type 0
Begins ls = (p : Publication) × (more : List Line) × HasText p × (lines_of p ≡ ls ++ more)

-- the text of a publication
pub record IsText (text : List ℕ) (p : Publication) : Type 0 where
  pub has : HasText p
  pub is : text ≡ text_of p

-- the line has no form
abbrev pub IsFormless : List ℕ → Type 0
IsFormless here = (l : Line) → InRange l → spelling l ≡ here → ⊥

-- after lines that begin a publication comes a line of no form
pub record BadLineAt (text : List ℕ) (n : ℕ) : Type 0 where
  pub before : List Line
  pub here : List ℕ
  pub after : List ℕ
  pub parts : text ≡ text_of_lines before ++ (here ++ 10 ∷ after)
  pub whole : Lacks 10 here
  pub begins : Begins before
  pub number : n ≡ length before + 1
  pub formless : IsFormless here

-- after lines that begin a publication comes one that no publication has there
pub record BadOrderAt (text : List ℕ) (n : ℕ) : Type 0 where
  pub before : List Line
  pub here : Line
  pub after : List ℕ
  pub parts : text ≡ text_of_lines before ++ (line_text here ++ after)
  pub begins : Begins before
  pub number : n ≡ length before + 1
  pub in_range : InRange here
  pub misplaced : Begins (before ++ here ∷ []) → ⊥

-- after lines that begin a publication, but are not all of one, or within a line, the text ends
pub record TruncatedAt (text : List ℕ) (n : ℕ) : Type 0 where
  pub before : List Line
  pub rest : List ℕ
  pub parts : text ≡ text_of_lines before ++ rest
  pub no_line : Lacks 10 rest
  pub begins : Begins before
  pub number : n ≡ length before + 1
  pub unfinished : rest ≡ [] → (p : Publication) → HasText p → lines_of p ≡ before → ⊥

-- the first fault of a text
abbrev pub IsTextFault : List ℕ → TextFault → Type 0
IsTextFault text (fault.BadLine n) = BadLineAt text n
IsTextFault text (fault.BadOrder n) = BadOrderAt text n
IsTextFault text (fault.Truncated n) = TruncatedAt text n
IsTextFault text fault.Memory = ⊥

-- what reading a text gives
abbrev pub IsOutcome : List ℕ → Result Publication TextFault → Type 0
IsOutcome text (Ok p) = IsText text p
IsOutcome text (Err fault.Memory) = ⊤
IsOutcome text (Err f) = IsTextFault text f

-- the answer is this one, unless memory ran out
abbrev pub AnswersWith : Result Publication TextFault → Result Publication TextFault → Type 0
AnswersWith expected result = (result ≡ expected) ⊎ (result ≡ Err fault.Memory)
