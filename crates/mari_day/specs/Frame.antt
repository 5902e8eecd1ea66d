-- A day that is printed block by block, in any form of text: what a sink takes of it.
use Rattle.std.specs.Prelude.{ℕ, ◌≡◌, ◌≤◌, ◌⊎◌, List, [], ◌∷◌, ◌++◌, Option, Some, Result, Ok, Err, length, slice_get, take}
use Rattle.std.specs.List.{flat_map}
use Rattle.mari_io.specs.Taken.{TookPart, then_took}
use Rattle.mari_day.specs.declared.frame.Stop.{Stop}
use Rattle.mari_day.specs.declared.frame.Stop.TheVariants.{Sink, Memory as NoMemory}

-- the blocks of the first runs in order, each after those before it
pub record IsPartBy {B : Type 0} (runs : ℕ) (IsNext : List B → B → Type 0) (blocks : List B) : Type 0 where
  pub few : length blocks ≤ runs
  pub each : (k : ℕ) (b : B) → slice_get blocks k ≡ Some b → IsNext (take k blocks) b

-- the text of a day part: the head and the blocks
abbrev pub part_text_by : {B : Type 0} → (head : List ℕ) → (block_text : B → List ℕ) → List B → List ℕ
part_text_by head block_text blocks = head ++ flat_map block_text blocks

-- the text is that of a day part
pub record IsPartTextBy {B : Type 0} (runs : ℕ) (IsNext : List B → B → Type 0) (head : List ℕ) (block_text : B → List ℕ) (text : List ℕ) : Type 0 where
  pub blocks : List B
  pub part : IsPartBy runs IsNext blocks
  pub spelled : text ≡ part_text_by head block_text blocks

-- the text is that of the block after these, and what is kept stands for one block more
pub record MakesNext {B : Type 0} (block_text : B → List ℕ) (IsNext : List B → B → Type 0) (Keeps : List B → Type 0) (blocks : List B)
    (text : List ℕ) : Type 0 where
  pub block : B
  pub is_next : IsNext blocks block
  pub keeps : Keeps (blocks ++ block ∷ [])
  pub spelled : text ≡ block_text block

-- such a text was written
pub record WroteBy (IsText : List ℕ → Type 0) (before after : Option (List ℕ)) : Type 0 where
  pub text : List ℕ
  pub is_text : IsText text
  pub taken : after ≡ then_took before text

-- a first part of the text of a day part, or of a whole day, was written
pub record WrotePrefixBy (IsPartText IsWhole : List ℕ → Type 0) (before after : Option (List ℕ)) : Type 0 where
  pub text : List ℕ
  pub is_text : IsPartText text ⊎ IsWhole text
  pub taken : TookPart before after text

-- what was written of a day whose writing stopped before its end
abbrev pub StoppedBy : (IsPartText IsWhole : List ℕ → Type 0) → (before after : Option (List ℕ)) → Stop → Type 0
StoppedBy IsPartText IsWhole before after Sink = WrotePrefixBy IsPartText IsWhole before after
StoppedBy IsPartText IsWhole before after NoMemory = (after ≡ before) ⊎ WroteBy IsPartText before after

-- what was written of a day, by how its writing ended
abbrev pub EndsText : (IsPartText IsWhole : List ℕ → Type 0) → (before after : Option (List ℕ)) → Result (Unit {0}) Stop → Type 0
EndsText IsPartText IsWhole before after (Ok done) = WroteBy IsWhole before after
EndsText IsPartText IsWhole before after (Err stop) = StoppedBy IsPartText IsWhole before after stop

-- the text was written, or a first part of it
abbrev pub Writes : (text : List ℕ) → (before after : Option (List ℕ)) → Result (Unit {0}) Stop → Type 0
Writes text before after (Ok done) = after ≡ then_took before text
Writes text before after (Err Sink) = TookPart before after text
Writes text before after (Err NoMemory) = ⊥
