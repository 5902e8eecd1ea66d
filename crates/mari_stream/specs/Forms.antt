-- A form of text, line by line, and what a text of a form is. Read this file first.
use Rattle.std.specs.Prelude.{◌≡◌, ℕ, ◌+◌, Bool, true, List, [], ◌∷◌, ◌++◌, Option, Some, None, Result, Ok, Err, length, option_and_then, ⊤}
use Rattle.std.specs.List.{AllByRecursion, flat_map}
use Rattle.mari_lines.specs.Reading.{Lacks}
use Rattle.mari_publish.specs.declared.fault.TextFault.{TextFault}
use Rattle.mari_publish.specs.declared.fault.TextFault.TheVariants as fault
use Rattle.mari_publish.specs.declared.taking.TakeFault.{TakeFault}
use Rattle.mari_publish.specs.declared.taking.TakeFault.TheVariants as take_fault

-- what is kept before the first line; which line may follow, with what is kept after it and the part that is whole with it;
-- whether the last line has come; how a line is spelled, without its end; and that the numbers of a line are in range
pub record Form (K L P : Type 0) : Type 1 where
  pub start : K
  pub after : K → L → Option (K × Option P)
  pub is_done : K → Bool
  pub spelled : L → List ℕ
  pub IsLine : L → Type 0

-- the parts with one more, if there is one
abbrev pub with_part : {P : Type 0} → List P → Option P → List P
with_part parts None = parts
with_part parts (Some x) = parts ++ x ∷ []

-- the parts and what is kept, after lines that may follow one another
abbrev pub after_lines : {K L P : Type 0} → Form K L P → List P → K → List L → Option (List P × K)
after_lines form parts kept [] = Some (parts, kept)
after_lines form parts kept (l ∷ ls) = option_and_then (λ x. after_lines form (with_part parts x.1) x.0 ls) (form.after kept l)

-- the texts of lines, each with a line feed at its end
abbrev pub text_by : {K L P : Type 0} → Form K L P → List L → List ℕ
text_by form lines = flat_map (λ l. form.spelled l ++ 10 ∷ []) lines

-- lines in range may follow one another; their parts, and what is kept after them
pub record Follow {K L P : Type 0} (form : Form K L P) (lines : List L) (parts : List P) (kept : K) : Type 0 where
  pub in_range : AllByRecursion form.IsLine lines
  pub gives : after_lines form [] form.start lines ≡ Some (parts, kept)

-- a text begins with lines of these parts, each of them whole
pub record HoldsParts {K L P : Type 0} (form : Form K L P) (text : List ℕ) (parts : List P) : Type 0 where
  pub lines : List L
  pub rest : List ℕ
  pub kept : K
  pub is : text ≡ text_by form lines ++ rest
  pub follow : Follow form lines parts kept

-- after these parts it holds this one whole; or none
abbrev pub HasPart : {K L P : Type 0} → Form K L P → List ℕ → List P → P → Type 0
HasPart form text parts x = HoldsParts form text (parts ++ x ∷ [])

abbrev pub NoPart : {K L P : Type 0} → Form K L P → List ℕ → List P → Type 0
NoPart form text parts = (x : _) → HasPart form text parts x → ⊥

-- the text of a whole, and its parts: the last line has come, and nothing is after it
pub record IsWhole {K L P : Type 0} (form : Form K L P) (text : List ℕ) (parts : List P) : Type 0 where
  pub lines : List L
  pub kept : K
  pub is : text ≡ text_by form lines
  pub follow : Follow form lines parts kept
  pub done : form.is_done kept ≡ true

-- no line is spelled so
abbrev pub IsFormless : {K L P : Type 0} → Form K L P → List ℕ → Type 0
IsFormless form here = (l : _) → form.IsLine l → form.spelled l ≡ here → ⊥

-- the line that is spelled so was taken, with the part that is whole with it; or there is none, or it may not follow
abbrev pub TookLine : {K L P : Type 0} → Form K L P → K → List ℕ → K → Result (Option P) TakeFault → Type 0
TookLine form old here new (Ok x) = (l : _) × form.IsLine l × (form.spelled l ≡ here) × (form.after old l ≡ Some (new, x))
TookLine form old here new (Err take_fault.Formless) = IsFormless form here
TookLine form old here new (Err take_fault.OutOfOrder) = (l : _) × form.IsLine l × (form.spelled l ≡ here) × (form.after old l ≡ None)
TookLine form old here new (Err take_fault.Memory) = ⊤

-- after lines that may follow one another comes a line of no form
pub record BadLineAt {K L P : Type 0} (form : Form K L P) (text : List ℕ) (n : ℕ) : Type 0 where
  pub before : List L
  pub parts : List P
  pub kept : K
  pub here : List ℕ
  pub after : List ℕ
  pub is : text ≡ text_by form before ++ (here ++ 10 ∷ after)
  pub whole : Lacks 10 here
  pub follow : Follow form before parts kept
  pub number : n ≡ length before + 1
  pub formless : IsFormless form here

-- or one that may not follow
pub record BadOrderAt {K L P : Type 0} (form : Form K L P) (text : List ℕ) (n : ℕ) : Type 0 where
  pub before : List L
  pub parts : List P
  pub kept : K
  pub here : L
  pub after : List ℕ
  pub is : text ≡ text_by form before ++ (form.spelled here ++ 10 ∷ after)
  pub follow : Follow form before parts kept
  pub number : n ≡ length before + 1
  pub in_range : form.IsLine here
  pub misplaced : form.after kept here ≡ None

-- or the text ends, in a line or before the last one has come
pub record TruncatedAt {K L P : Type 0} (form : Form K L P) (text : List ℕ) (n : ℕ) : Type 0 where
  pub before : List L
  pub parts : List P
  pub kept : K
  pub rest : List ℕ
  pub is : text ≡ text_by form before ++ rest
  pub no_line : Lacks 10 rest
  pub follow : Follow form before parts kept
  pub number : n ≡ length before + 1
  pub unfinished : rest ≡ [] → form.is_done kept ≡ true → ⊥

-- the first fault of a text
abbrev pub IsTextFault : {K L P : Type 0} → Form K L P → List ℕ → TextFault → Type 0
IsTextFault form text (fault.BadLine n) = BadLineAt form text n
IsTextFault form text (fault.BadOrder n) = BadOrderAt form text n
IsTextFault form text (fault.Truncated n) = TruncatedAt form text n
IsTextFault form text fault.Memory = ⊥

-- the same, of a whole line
abbrev pub IsLineFault : {K L P : Type 0} → Form K L P → List ℕ → TextFault → Type 0
IsLineFault form text (fault.BadLine n) = BadLineAt form text n
IsLineFault form text (fault.BadOrder n) = BadOrderAt form text n
IsLineFault form text (fault.Truncated n) = ⊥
IsLineFault form text fault.Memory = ⊥

-- no whole line has a fault
abbrev pub NoFault : {K L P : Type 0} → Form K L P → List ℕ → Type 0
NoFault form text = (n : ℕ) → (BadLineAt form text n → ⊥) × (BadOrderAt form text n → ⊥)
