-- What a reader of a text in pieces stands for, and what it answers.
use Rattle.std.specs.Prelude.{◌≡◌, ◌<◌, ◌≤◌, ℕ, Bool, true, false, List, [], ◌∷◌, ◌++◌, map, length, drop, Option, Some, None, Result, Ok, Err, ◌⊎◌, ⊤}
use Rattle.std.specs.List.{AllByRecursion}
use Rattle.mari_publish.specs.declared.publication.Part.{Part}
use Rattle.mari_publish.specs.declared.publication.Part.TheVariants as part
use Rattle.mari_publish.specs.declared.publication.Publication.{Publication}
use Rattle.mari_lines.specs.declared.line.Line.{Line}
use Rattle.mari_publish.specs.declared.held.Held.{Held}
use Rattle.mari_publish.specs.declared.held.Held.TheVariants as held
use Rattle.mari_publish.specs.declared.held.Kept.{Kept}
use Rattle.mari_publish.specs.declared.fault.TextFault.{TextFault}
use Rattle.mari_publish.specs.declared.fault.TextFault.TheVariants as fault
use Rattle.mari_lines.specs.declared.line.TheConstants.{MOST_LINE}
use Rattle.mari_publish.specs.declared.coming.Ahead.{Ahead}
use Rattle.mari_publish.specs.declared.coming.Ahead.TheVariants as mark
use Rattle.mari_publish.specs.declared.coming.Coming.{Coming}
use Rattle.mari_publish.specs.Lines.{published_in, unpublished_in}
use Rattle.mari_lines.specs.Ranges.{InRange}
use Rattle.mari_lines.specs.Reading.{Lacks}
use Rattle.mari_publish.specs.Texts.{text_of_lines}
use Rattle.mari_publish.specs.Order.{lines_so_far, nothing_read, nothing_kept, after_all}
use Rattle.mari_publish.specs.Faults.{IsText, BadLineAt, BadOrderAt, TruncatedAt}

-- the head, and the blocks
abbrev pub front_parts : Publication → List Part
front_parts p = part.Head p.date p.quarters p.budget ∷ map part.Block p.blocks

-- the parts of a publication, in their order
abbrev pub parts_of : Publication → List Part
parts_of p = front_parts p ++ part.Totals p.operators p.providers ∷ []

-- the parts that are whole, by what is held after them
abbrev pub parts_so_far : Publication → Held → List Part
parts_so_far p held.Start = []
parts_so_far p held.Done = parts_of p
parts_so_far p _ = front_parts p

-- lines that may follow one another are those of the parts and, after these, of what is held; and the counts are those
-- of the published and of the unpublished blocks among the parts
pub record Gives (lines : List Line) (parts : List Part) (k : Kept) : Type 0 where
  pub so_far : Publication
  pub follow : after_all nothing_read nothing_kept lines ≡ Some (so_far, k)
  pub are : lines ≡ lines_so_far so_far k.held
  pub given : parts ≡ parts_so_far so_far k.held
  pub published : k.counts.published ≡ published_in so_far.blocks
  pub unpublished : k.counts.unpublished ≡ unpublished_in so_far.blocks

-- a text as far as it has come: what is kept of the handled lines and how many they are, and the bytes after them
pub record ComeState : Type 0 where
  pub kept : Kept
  pub lines : ℕ
  pub ahead : Ahead
  pub unread : List ℕ

-- what has come, without the bytes of handled lines
abbrev pub come_of : Coming → ComeState
come_of c = record { kept = c.kept; lines = c.lines; ahead = c.ahead; unread = drop c.handled c.bytes.items }

-- a reader: what has come, whether it was reported that no further part has, and how many bytes of the text are held
pub record ReaderState : Type 0 where
  pub come : ComeState
  pub waits : Bool
  pub bytes : ℕ

-- the bytes after the handled lines; of a line that is too long there is a mark in place of them
abbrev pub IsAhead : Ahead → List ℕ → List ℕ → Type 0
IsAhead mark.Whole unread rest = rest ≡ unread
IsAhead mark.TooLong unread rest = Lacks 10 rest × (MOST_LINE < length rest)
IsAhead mark.Ended unread rest = (here : List ℕ) × (after : List ℕ) × (rest ≡ here ++ 10 ∷ after) × Lacks 10 here × (MOST_LINE < length here)

-- what has come comes from a text, of which these parts were given: the text is that of handled lines, none of which
-- has a fault, and the bytes after them
pub record ComesFrom (r : ComeState) (text : List ℕ) (parts : List Part) : Type 0 where
  pub lines : List Line
  pub rest : List ℕ
  pub is : text ≡ text_of_lines lines ++ rest
  pub in_range : AllByRecursion InRange lines
  pub gives : Gives lines parts r.kept
  pub number : r.lines ≡ length lines
  pub ahead : IsAhead r.ahead r.unread rest

-- it comes from some text
abbrev pub IsCome : ComeState → Type 0
IsCome r = (text : List ℕ) × (parts : List Part) × ComesFrom r text parts

-- no whole line is left to be handled
abbrev pub NoLineIn : Ahead → List ℕ → Type 0
NoLineIn mark.Whole unread = Lacks 10 unread
NoLineIn mark.TooLong unread = ⊤
NoLineIn mark.Ended unread = ⊥

-- no further line is whole
abbrev pub HasNoLine : ComeState → Type 0
HasNoLine r = NoLineIn r.ahead r.unread

-- no more bytes are kept after the handled lines than a line may have
abbrev pub KeepsFew : ComeState → Type 0
KeepsFew r = length r.unread ≤ MOST_LINE

-- all that has come is handled, and the last line with it
pub record IsWhole (r : ComeState) : Type 0 where
  pub all : r.ahead ≡ mark.Whole
  pub none : r.unread ≡ []
  pub done : r.kept.held ≡ held.Done

-- a text begins with these parts, each of them whole
pub record HoldsParts (text : List ℕ) (parts : List Part) : Type 0 where
  pub lines : List Line
  pub after : List ℕ
  pub is : text ≡ text_of_lines lines ++ after
  pub in_range : AllByRecursion InRange lines
  pub kept : Kept
  pub gives : Gives lines parts kept

-- after these parts it holds this one whole
abbrev pub HasPart : List ℕ → List Part → Part → Type 0
HasPart text parts x = HoldsParts text (parts ++ x ∷ [])

-- after these parts it holds none
abbrev pub NoPart : List ℕ → List Part → Type 0
NoPart text parts = (x : Part) → HasPart text parts x → ⊥

-- no whole line has a fault
abbrev pub NoFault : List ℕ → Type 0
NoFault text = (n : ℕ) → (BadLineAt text n → ⊥) × (BadOrderAt text n → ⊥)

-- what the next part is; a fault comes once all parts before it were given
abbrev pub IsNext : List ℕ → List Part → Result (Option Part) TextFault → Type 0
IsNext text parts (Ok (Some x)) = HasPart text parts x
IsNext text parts (Ok None) = NoPart text parts × NoFault text
IsNext text parts (Err (fault.BadLine n)) = BadLineAt text n × NoPart text parts
IsNext text parts (Err (fault.BadOrder n)) = BadOrderAt text n × NoPart text parts
IsNext text parts (Err (fault.Truncated n)) = ⊥
IsNext text parts (Err fault.Memory) = ⊤

-- the parts given, with the one that comes now
abbrev pub with_part : List Part → Option Part → List Part
with_part parts None = parts
with_part parts (Some x) = parts ++ x ∷ []

-- the parts with the one that was given, if one was
abbrev pub with_answer : List Part → Result (Option Part) TextFault → List Part
with_answer parts (Ok x) = with_part parts x
with_answer parts (Err e) = parts

-- two answers are one, unless memory ran out at one of them
abbrev pub SameAnswer : {T : Type 0} → Result T TextFault → Result T TextFault → Type 0
SameAnswer a b = (a ≡ b) ⊎ ((a ≡ Err fault.Memory) ⊎ (b ≡ Err fault.Memory))

-- no further part was found
abbrev pub found_none : Result (Option Part) TextFault → Bool
found_none (Ok None) = true
found_none _ = false

-- how the text ends: it is that of a publication whose parts were given, or it is cut off
abbrev pub IsEnd : {T : Type 0} → List ℕ → List Part → Result T TextFault → Type 0
IsEnd text parts (Ok done) = (p : Publication) × IsText text p × (parts ≡ parts_of p)
IsEnd text parts (Err (fault.Truncated n)) = TruncatedAt text n
IsEnd text parts (Err _) = ⊥
