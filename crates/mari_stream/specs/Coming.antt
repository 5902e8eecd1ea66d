-- What is kept of a text that comes in pieces, and what comes of its next lines.
use Rattle.std.specs.Prelude.{◌≡◌, ◌≤◌, ◌<◌, ◌^◌, ℕ, List, [], ◌∷◌, ◌++◌, length, drop, Option, Some, None, Result, Ok, Err, ⊤}
use Rattle.mari_lines.specs.Reading.{Lacks}
use Rattle.mari_lines.specs.declared.line.TheConstants.{MOST_LINE}
use Rattle.mari_publish.specs.declared.fault.TextFault.{TextFault}
use Rattle.mari_publish.specs.declared.fault.TextFault.TheVariants as fault
use Rattle.mari_stream.specs.Forms.{Follow, Form, IsLineFault, IsWhole, NoFault, NoPart, TruncatedAt, text_by, with_part}
use Rattle.mari_stream.specs.declared.coming.Ahead.{Ahead}
use Rattle.mari_stream.specs.declared.coming.Ahead.TheVariants as mark
use Rattle.mari_stream.specs.declared.coming.Coming.{Coming}
use Rattle.mari_stream.specs.declared.coming.Handled.{Handled}
use Rattle.mari_stream.specs.declared.coming.Handled.TheVariants as step

-- the law of a form: its clauses are those of `lines_keep`
pub record LinesKeep {K L P : Type 0} (form : Form K L P) : Type 0 where
  pub same : (l m : L) → form.IsLine l → form.IsLine m → form.spelled l ≡ form.spelled m → l ≡ m
  pub no_feed : (l : L) → form.IsLine l → Lacks 10 (form.spelled l)
  pub short : (l : L) → form.IsLine l → length (form.spelled l) ≤ MOST_LINE
  pub few : (lines : List L) (parts : List P) (kept : K) → Follow form lines parts kept → length lines < 2 ^ 31

-- what is kept of the handled lines and how many they are, and the bytes after them
pub record ComeState (K : Type 0) : Type 0 where
  pub kept : K
  pub lines : ℕ
  pub ahead : Ahead
  pub unread : List ℕ

-- what has come, without the bytes of handled lines
abbrev pub come_of : {K : Type 0} → Coming K → ComeState K
come_of c = record { kept = c.kept; lines = c.lines; ahead = c.ahead; unread = drop c.handled c.bytes.items }

-- the bytes after the handled lines; of a line that is too long there is a mark in place of them
abbrev pub IsAhead : Ahead → List ℕ → List ℕ → Type 0
IsAhead mark.Whole unread rest = rest ≡ unread
IsAhead mark.TooLong unread rest = Lacks 10 rest × (MOST_LINE < length rest)
IsAhead mark.Ended unread rest = (here : List ℕ) × (after : List ℕ) × (rest ≡ here ++ 10 ∷ after) × Lacks 10 here × (MOST_LINE < length here)

-- this has come of a text, whose parts so far are these: the text is that of the handled lines, and the bytes after them
pub record ComesFrom {K L P : Type 0} (form : Form K L P) (come : ComeState K) (text : List ℕ) (parts : List P) : Type 0 where
  pub lines : List L
  pub rest : List ℕ
  pub is : text ≡ text_by form lines ++ rest
  pub follow : Follow form lines parts come.kept
  pub number : come.lines ≡ length lines
  pub ahead : IsAhead come.ahead come.unread rest

-- it has come of some text
abbrev pub IsCome : {K L P : Type 0} → Form K L P → ComeState K → Type 0
IsCome form come = (text : List ℕ) × (parts : List _) × ComesFrom form come text parts

-- no whole line is left to be handled
abbrev pub NoLineIn : Ahead → List ℕ → Type 0
NoLineIn mark.Whole unread = Lacks 10 unread
NoLineIn mark.TooLong unread = ⊤
NoLineIn mark.Ended unread = ⊥

abbrev pub HasNoLine : {K : Type 0} → ComeState K → Type 0
HasNoLine come = NoLineIn come.ahead come.unread

-- these are all parts that are whole in the text, and no whole line has a fault or is left
pub record AllCome {K L P : Type 0} (form : Form K L P) (come : ComeState K) (text : List ℕ) (parts : List P) : Type 0 where
  pub stands : ComesFrom form come text parts
  pub no_line : HasNoLine come
  pub none : NoPart form text parts
  pub no_fault : NoFault form text

-- a line has this fault, the first of the text, and the parts before it are these; or memory ran out
abbrev pub IsFirstFault : {K L P : Type 0} → Form K L P → List ℕ → List P → TextFault → Type 0
IsFirstFault form text parts fault.Memory = ⊤
IsFirstFault form text parts f = IsLineFault form text f × NoPart form text parts

-- what comes of the next line: it was taken, with the part that is whole with it; no line is whole; or it has a fault
abbrev pub Handles : {K L P : Type 0} → Form K L P → ComeState K → List ℕ → List P → Result (Handled P) TextFault → Type 0
Handles form come text parts (Ok (step.Line x)) = ComesFrom form come text (with_part parts x)
Handles form come text parts (Ok step.Nothing) = AllCome form come text parts
Handles form come text parts (Err f) = IsFirstFault form text parts f

-- what comes of the next lines: a part; no further one; or one of them has a fault
abbrev pub GivesNext : {K L P : Type 0} → Form K L P → ComeState K → List ℕ → List P → Result (Option P) TextFault → Type 0
GivesNext form come text parts (Ok (Some x)) = ComesFrom form come text (parts ++ x ∷ [])
GivesNext form come text parts (Ok None) = AllCome form come text parts
GivesNext form come text parts (Err f) = IsFirstFault form text parts f

-- how a text ends: it is a whole with these parts, or it is cut off
abbrev pub IsEnd : {K L P T : Type 0} → Form K L P → List ℕ → List P → Result T TextFault → Type 0
IsEnd form text parts (Ok done) = IsWhole form text parts
IsEnd form text parts (Err (fault.Truncated n)) = TruncatedAt form text n
IsEnd form text parts (Err _) = ⊥
