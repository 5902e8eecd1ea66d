-- Quarters that are cleared as one market: what each answer says of them, and what their folder's pages decide.
-- What their text, their refusals and the pages that can't be had are stands in `Quarters` of `mari_quarters`.
use Rattle.std.specs.Prelude.{ℕ, ◌≡◌, ◌≤◌, Bool, true, false, List, Option, Some, Ok}
use Rattle.mari_units.specs.declared.faults.Refusal.{Refusal}
use Rattle.mari_io.specs.Outside.{Pages}
use Rattle.mari_io.specs.declared.shelf.Fetch.TheVariants as fetch
use Rattle.mari_io.specs.Taken.{TookPart, then_took}
use Rattle.mari_market.specs.SearchTree.{HasSize}
use Rattle.mari_remain.specs.declared.books.Books.{Books}
use Rattle.mari_day.specs.Files.{Gap}
use Rattle.mari_day.specs.Files.Gap.{NotHeld, OverLimit}
use Rattle.mari_blocks.specs.Joint.{joint_in}
use Rattle.mari_blocks.specs.declared.blocks.BlockBook.{BlockBook}
use Rattle.mari_blocks.specs.declared.joint.Joint.{Joint}
use Rattle.mari_quarters.specs.Quarters.{HasBlocks, HasQuartersGap, HasQuartersRefusal, HasQuartersText, IsQuartersFile}
use Rattle.mari_words.specs.Asked.{Asked}
use Rattle.mari_words.specs.Asked.Asked.{Blocks}
use Rattle.mari_answers.specs.declared.status.Status.{Status}
use Rattle.mari_answers.specs.declared.status.Status.TheVariants.{Done, Unpublished, Usage, Refused, ReadFault, WriteFault, Memory, Invalid, Missing, TooLong}
use Rattle.mari_answers.specs.Lines.{file_line, page_word, refused_line}
use Rattle.mari_answers.specs.Refusals.{HasName}
use Rattle.mari_answers.specs.Reports.{WhereReported}
use Rattle.mari_commands.specs.Program.{Answers, gap_word}

-- ---- what each answer says

module _ (folder : List ℕ) (first last nodes : ℕ) where
  -- the text of the joint market was taken, by whether it is published
  pub record TookQuarters (pages : Pages) (published : Bool) (before after : Option (List ℕ)) : Type 0 where
    pub text : List ℕ
    pub has : HasQuartersText pages folder first last nodes published text
    pub taken : after ≡ then_took before text

  -- the line of the first file whose page can't be had was taken
  pub record TookQuartersGap (pages : Option Pages) (gap : Gap) (before after : Option (List ℕ)) : Type 0 where
    pub file : ℕ
    pub named : IsQuartersFile file
    pub lacks : WhereReported pages (λ reported. HasQuartersGap reported folder file gap)
    pub taken : after ≡ then_took before (file_line (gap_word gap) file)

  -- a write failed: a first part was taken of the text, or of the line of a refusal, of a page that can't be had, or of a
  -- failed fetch, which is said only where a call of the shelf failed
  pub data AreCutOff (pages : Pages) (failed : Type 0) (before after : Option (List ℕ)) : Type 0 where
    Text : (published : Bool) (text : List ℕ) → HasQuartersText pages folder first last nodes published text → TookPart before after text
        → AreCutOff pages failed before after
    Refuses : (refusal : Refusal) → HasQuartersRefusal pages folder first last refusal → TookPart before after (refused_line refusal)
        → AreCutOff pages failed before after
    Lacks : (file : ℕ) (gap : Gap) → HasQuartersGap pages folder file gap → TookPart before after (file_line (gap_word gap) file)
        → AreCutOff pages failed before after
    Fails : failed → (file : ℕ) → IsQuartersFile file → TookPart before after (file_line (page_word fetch.Failed) file) → AreCutOff pages failed before after

  -- what each answer says; out of memory nothing is taken
  abbrev pub BlocksAnswers : Option Pages → (failed : Type 0) → (before after : Option (List ℕ)) → Status → Type 0
  BlocksAnswers pages failed before after Done = WhereReported pages (λ reported. TookQuarters reported true before after)
  BlocksAnswers pages failed before after Unpublished = WhereReported pages (λ reported. TookQuarters reported false before after)
  BlocksAnswers pages failed before after (Refused refusal) =
      WhereReported pages (λ reported. HasQuartersRefusal reported folder first last refusal) × IsQuartersFile refusal.file × HasName refusal
      × (after ≡ then_took before (refused_line refusal))
  BlocksAnswers pages failed before after ReadFault = (file : ℕ) × IsQuartersFile file × (after ≡ then_took before (file_line (page_word fetch.Failed) file))
  BlocksAnswers pages failed before after Missing = TookQuartersGap pages NotHeld before after
  BlocksAnswers pages failed before after TooLong = TookQuartersGap pages OverLimit before after
  BlocksAnswers pages failed before after WriteFault = WhereReported pages (λ reported. AreCutOff reported failed before after)
  BlocksAnswers pages failed before after Memory = after ≡ before
  BlocksAnswers pages failed before after Usage = ⊥
  BlocksAnswers pages failed before after (Invalid run fault) = ⊥

-- what each answer of the program says: of quarters that are cleared as one market, or of what else the words ask for
abbrev pub AnswersOf : Option Asked → Option Pages → (failed : Type 0) → (before after : Option (List ℕ)) → Status → Type 0
AnswersOf (Some (Blocks folder first last nodes workers)) pages failed before after result =
    BlocksAnswers folder first last nodes pages failed before after result
AnswersOf asked pages failed before after result = Answers asked pages failed before after result

-- ---- what the pages decide

-- the words ask for quarters whose pages give a joint market
pub record IsJoinable (asked : Option Asked) (pages : Pages) : Type 0 where
  pub folder : List ℕ
  pub first : ℕ
  pub last : ℕ
  pub nodes : ℕ
  pub workers : ℕ
  pub words : asked ≡ Some (Blocks folder first last nodes workers)
  pub books : Books
  pub blocks : BlockBook
  pub has : HasBlocks pages folder first last books blocks
  pub joint : Joint
  pub made : joint_in books blocks first last ≡ Ok joint

-- and the budget holds its search tree
pub record HasJointBudget (asked : Option Asked) (pages : Pages) : Type 0 where
  pub joinable : IsJoinable asked pages
  pub size : ℕ
  pub sized : HasSize joinable.joint.market size
  pub enough : size ≤ joinable.nodes

-- the words ask for quarters, of which this is so
pub record OfQuarters (asked : Option Asked) (Is : (folder : List ℕ) → (first last : ℕ) → Type 0) : Type 0 where
  pub folder : List ℕ
  pub first : ℕ
  pub last : ℕ
  pub nodes : ℕ
  pub workers : ℕ
  pub words : asked ≡ Some (Blocks folder first last nodes workers)
  pub is : Is folder first last

-- the words and the pages decide this status: that all is done, by the budget; a refusal; or a page that can't be had
abbrev pub Decides : Option Asked → Pages → Status → Type 0
Decides asked pages Done = HasJointBudget asked pages
Decides asked pages (Refused refusal) = OfQuarters asked (λ folder first last. HasQuartersRefusal pages folder first last refusal)
Decides asked pages Missing = OfQuarters asked (λ folder first last. (file : ℕ) × HasQuartersGap pages folder file NotHeld)
Decides asked pages TooLong = OfQuarters asked (λ folder first last. (file : ℕ) × HasQuartersGap pages folder file OverLimit)
Decides asked pages _ = ⊥
