-- The bids of the joint market: they are there, of the quarters, and stand after their parents.
use Rattle.std.proofs.Common.{◌≡◌, ◌∙◌, ℕ, Bool, true, false, [], Option, Some, None, refl, sym}
use Rattle.std.specs.Prelude.{◌||◌, is_some, not}
use Rattle.std.specs.List.{All}
use Rattle.std.specs.Option.{option_map_or}
use Rattle.std.proofs.lemmas.Bool.{or_parts}
use Rattle.std.proofs.lemmas.List.Elements.{All-filter, All-weaker}
use Rattle.mari_links.specs.Links.{has_gate}
use Rattle.mari_remain.specs.Accepted.{IsAccepted}
use Rattle.mari_remain.specs.Lists.{group_at, parent_at}
use Rattle.mari_remain.specs.declared.books.Books.{Books}
use Rattle.mari_remain.proofs.Validity.{parents}
use Rattle.mari_blocks.specs.Blocks.{IsBlockBook, block_at, is_parent}
use Rattle.mari_blocks.specs.Joint.{gate_by, is_left_out, joint_numbers, lacks_run, offered, own_gate}
use Rattle.mari_blocks.specs.Parts.{IsInQuarters}
use Rattle.mari_blocks.specs.declared.blocks.BlockBook.{BlockBook}
use Rattle.mari_blocks.specs.declared.gates.JointGate.TheVariants.{OfBid}
use Rattle.mari_blocks.proofs.Families.{parent-listed}
use Rattle.mari_blocks.proofs.Parents.{FollowParents, follow-filter}
use Rattle.mari_blocks.proofs.Quarters.{IsOffered, all-offered, offered-follow}

module _ (books : Books) (ok : IsAccepted books) (blocks : BlockBook) (first last : ℕ) (read : IsBlockBook books.bids books.links first last blocks) where
  -- neither a child nor its parent is in a block
  no-block : (bid : ℕ) → ((block : ℕ) → block_at blocks bid ≡ Some block → ⊥) → block_at blocks bid ≡ None
  no-block bid never = by (block_at blocks bid) refl
    where
      by : (o : Option ℕ) → block_at blocks bid ≡ o → o ≡ None
      by None e = refl
      by (Some block) e = absurd (never block e)

  pub parent-free : (bid parent : ℕ) → parent_at books.links.links bid ≡ Some parent → block_at blocks parent ≡ None
  parent-free bid parent up = no-block parent (λ block own.
      let free = or_parts (is_some (group_at books.links.links parent) || is_some (parent_at books.links.links parent)) (is_parent books.links.links parent) (read.blocks parent block own).unlinked in
      let both : true ≡ false = sym (parent-listed books.links.links bid parent up) ∙ free.1 in
      cc both)

  -- a parent has a gate of its own
  pub parent-gate : (bid parent : ℕ) → parent_at books.links.links bid ≡ Some parent → own_gate books blocks parent ≡ Some (OfBid parent)
  parent-gate bid parent up = rw (parent-free bid parent up, (parents books ok bid parent up).gated) refl

  -- a bid's own gate bears its number
  pub own-number : (bid other : ℕ) → own_gate books blocks bid ≡ Some (OfBid other) → bid ≡ other
  own-number bid other e = by (block_at blocks bid) (has_gate books.links bid) e
    where
      by : (o : Option ℕ) (b : Bool) → gate_by o b bid ≡ Some (OfBid other) → bid ≡ other
      by None true e = cc e
      by None false e = cc e
      by (Some block) b e = cc e

  module _ (all : lacks_run books first last ≡ false) where
    abbrev stays : ℕ → Bool
    stays bid = not (option_map_or (is_left_out blocks (offered books first last)) (block_at blocks bid) false)

    pub numbers-follow : FollowParents (parent_at books.links.links) [] (joint_numbers books blocks first last)
    numbers-follow =
        follow-filter (parent_at books.links.links) stays (λ bid parent kept up. rw (parent-free bid parent up) refl) [] (offered books first last)
        (offered-follow books ok first last all)

    pub numbers-in : All (IsOffered books ok first last all) (joint_numbers books blocks first last)
    numbers-in = All-filter stays (IsOffered books ok first last all) (offered books first last) (all-offered books ok first last all)

    pub numbers-there : All (IsInQuarters books first) (joint_numbers books blocks first last)
    numbers-there =
        All-weaker (IsOffered books ok first last all) (IsInQuarters books first) (λ bid is. record { there = is.there; from_first = is.from_first })
        (joint_numbers books blocks first last) numbers-in
