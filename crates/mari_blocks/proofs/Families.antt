-- Children and their parents.
use Rattle.std.proofs.Common.{◌≡◌, ◌∙◌, ◌<◌, ◌==◌, ℕ, true, false, List, [], ◌∷◌, Option, Some, None, length, zero, suc, refl, ap, arith}
use Rattle.std.specs.Prelude.{slice_get}
use Rattle.std.specs.Option.{option_and_then, option_map_or}
use Rattle.std.proofs.lemmas.Option.{slice_get_within}
use Rattle.mari_bids.specs.declared.bids.BidBook.{BidBook}
use Rattle.mari_links.specs.Links.{IsLinkBook}
use Rattle.mari_links.specs.declared.links.BidLinks.{BidLinks}
use Rattle.mari_links.specs.declared.links.LinkBook.{LinkBook}
use Rattle.mari_links.proofs.EntryLemmas.{itself, or-yes}
use Rattle.mari_remain.specs.Lists.{parent_at}
use Rattle.mari_blocks.specs.Blocks.{is_parent, is_parent_of}

-- the links of a bid with a parent
pub record HasParent (links : List BidLinks) (bid parent : ℕ) : Type 0 where
  pub entry : BidLinks
  pub there : slice_get links bid ≡ Some entry
  pub own : entry.parent ≡ Some parent

pub has-parent : (links : List BidLinks) (bid parent : ℕ) → parent_at links bid ≡ Some parent → HasParent links bid parent
has-parent links bid parent e = by (slice_get links bid) refl e
  where
    by : (o : Option BidLinks) → slice_get links bid ≡ o → option_and_then (λ (l : BidLinks). l.parent) o ≡ Some parent → HasParent links bid parent
    by None there up = absurd (cc up)
    by (Some l) there up = record { entry = l; there = there; own = up }

-- a parent is a bid that is there
pub parent-below : (bids : BidBook) (links : LinkBook) → IsLinkBook bids links → (bid parent : ℕ) → parent_at links.links bid ≡ Some parent → parent < length bids.ids
parent-below bids links is bid parent e =
    let has = has-parent links.links bid parent e in
    let before = ((is.links bid has.entry has.there).parent parent has.own).before in
    omega (arith, before, slice_get_within links.links bid has.entry has.there, is.one_each)

-- and is reported as a parent
pub parent-listed : (links : List BidLinks) (bid parent : ℕ) → parent_at links bid ≡ Some parent → is_parent links parent ≡ true
parent-listed links bid parent e =
    let has = has-parent links bid parent e in
    any-at links bid has.entry has.there (ap (λ o. option_map_or (λ p. p == parent) o false) has.own ∙ itself parent)
  where
    any-at : (links : List BidLinks) (k : ℕ) (entry : BidLinks) → slice_get links k ≡ Some entry → is_parent_of parent entry ≡ true → is_parent links parent ≡ true
    any-at [] k entry there own = absurd (cc there)
    any-at (l ∷ ls) zero entry there own = let same : l ≡ entry = cc there in rw (same, own) refl
    any-at (l ∷ ls) (suc k) entry there own = rw (any-at ls k entry there own) (or-yes (is_parent_of parent l))
