-- What stands in memory of the scheduled runs of quarters.
use Rattle.std.specs.Prelude.{◌≡◌, ◌≤◌, ◌<◌, ℕ, true, false, List, Result, Ok, Err, length, ⊤}
use Rattle.std.specs.List.{flat_map}
use Rattle.mari_remain.specs.declared.books.Books.{Books}
use Rattle.mari_blocks.specs.Blocks.{quarter_at}
use Rattle.mari_blocks.specs.Joint.{borders_brought, demands_brought, is_too_large, joint_gates, joint_numbers, bids_brought, quarters_of}
use Rattle.mari_blocks.specs.JointChecks.{refusal_by}
use Rattle.mari_blocks.specs.declared.blocks.BlockBook.{BlockBook}
use Rattle.mari_blocks.specs.declared.checks.JointCheck.TheVariants.{TooLarge}
use Rattle.mari_blocks.specs.declared.checks.JointFault.{JointFault}
use Rattle.mari_blocks.specs.declared.checks.JointFault.TheVariants as fault
use Rattle.mari_blocks.specs.declared.joint.Content.{Content}
use Rattle.mari_blocks.specs.declared.parts.JointParts.{JointParts}

-- the available bids, the borders and the demands of these quarters
pub record HoldsJointParts (books : Books) (first : ℕ) (quarters : List ℕ) (parts : JointParts) : Type 0 where
  pub offered : parts.offered.items ≡ flat_map (bids_brought books) quarters
  pub borders : parts.borders.items ≡ flat_map (borders_brought books first) quarters
  pub demands : parts.demands.items ≡ flat_map (demands_brought books first) quarters

-- a bid that is there, of no quarter before the first
pub record IsInQuarters (books : Books) (first bid : ℕ) : Type 0 where
  pub there : bid < length books.bids.bids
  pub from_first : first ≤ quarter_at books.bids bid

-- what the joint market is made of
pub record HoldsContent (books : Books) (blocks : BlockBook) (first last : ℕ) (content : Content) : Type 0 where
  pub parts : HoldsJointParts books first (quarters_of first last) content.parts
  pub numbers : content.numbers.items ≡ joint_numbers books blocks first last
  pub gates : content.gates.items ≡ joint_gates books blocks first last

-- it is there where the joint market is not too large, and else it is refused, unless out of memory
abbrev pub GivesContent : Books → BlockBook → (first last : ℕ) → Result Content JointFault → Type 0
GivesContent books blocks first last (Ok content) = (is_too_large books blocks first last ≡ false) × HoldsContent books blocks first last content
GivesContent books blocks first last (Err (fault.Refused refusal)) = (is_too_large books blocks first last ≡ true) × (refusal ≡ refusal_by TooLarge)
GivesContent books blocks first last (Err fault.Memory) = ⊤
