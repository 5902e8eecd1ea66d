-- The zones of each border of a joint market are of one quarter, and that quarter has a scheduled run.
use Rattle.std.proofs.Common.{◌≡◌, ◌∙◌, ◌+◌, ◌-◌, ◌*◌, ◌/◌, ◌<◌, ◌≤◌, ℕ, Bool, true, false, [], Ok, Err, length, refl, sym, ap, arith, if◌then◌else◌}
use Rattle.std.specs.Prelude.{is_some}
use Rattle.std.specs.List.{All}
use Rattle.std.proofs.Math.Nat.{div-lt_iff_lt-mul}
use Rattle.std.proofs.lemmas.List.Elements.{All-map, All-weaker}
use Rattle.std.proofs.lemmas.Nat.{div-mul-add}
use Rattle.mari_market.specs.Market.{IsValidBorder}
use Rattle.mari_market.specs.declared.market.Border.{Border}
use Rattle.mari_remain.specs.Accepted.{IsAccepted}
use Rattle.mari_remain.specs.RunMarket.{market_at}
use Rattle.mari_remain.specs.declared.books.Books.{Books}
use Rattle.mari_units.specs.declared.faults.Refusal.{Refusal}
use Rattle.mari_blocks.specs.Joint.{shifted_border, borders_brought, is_too_large, joint_borders, joint_in, joint_of, lacks_run, links_across, reference_of, run_of_quarter, scheduled_run_of, zones_before}
use Rattle.mari_blocks.specs.JointChecks.{refusal_by}
use Rattle.mari_blocks.specs.Prices.{own_reference, zone_quarter}
use Rattle.mari_blocks.specs.declared.blocks.BlockBook.{BlockBook}
use Rattle.mari_blocks.specs.declared.checks.JointCheck.TheVariants.{AcrossQuarters, NoScheduled, TooLarge}
use Rattle.mari_blocks.specs.declared.joint.Joint.{Joint}
use Rattle.mari_blocks.proofs.Quarters.{has-run, run-valid}
use Rattle.mari_blocks.proofs.Ranges.{all-flat}

-- a joint market that is not refused
pub record IsMade (books : Books) (blocks : BlockBook) (first last : ℕ) (joint : Joint) : Type 0 where
  pub runs : lacks_run books first last ≡ false
  pub same : joint ≡ joint_of books blocks first last

module _ (books : Books) (blocks : BlockBook) (first last : ℕ) (joint : Joint) where
  never : (refusal : Refusal) → Err refusal ≡ Ok joint → ⊥
  never refusal e = cc e

  made-by : (r s t : Refusal) (made : Joint) (a b c : Bool) → (if a then Err r else if b then Err s else if c then Err t else Ok made) ≡ Ok joint → (a ≡ false) × (joint ≡ made)
  made-by r s t made true b c e = absurd (never r e)
  made-by r s t made false true c e = absurd (never s e)
  made-by r s t made false false true e = absurd (never t e)
  made-by r s t made false false false e = (refl, sym (cc e))

  pub is-made : joint_in books blocks first last ≡ Ok joint → IsMade books blocks first last joint
  is-made e =
      let made = made-by (refusal_by NoScheduled) (refusal_by AcrossQuarters) (refusal_by TooLarge) (joint_of books blocks first last)
      (lacks_run books first last) (links_across books first last) (is_too_large books blocks first last) e in
      record { runs = made.0; same = made.1 }

-- the reference of both ends of a border is that of its quarter
module _ (books : Books) (ok : IsAccepted books) (first last : ℕ) (all : lacks_run books first last ≡ false) where
  abbrev SameReference : Border → Type 0
  SameReference b = own_reference books first b.to ≡ own_reference books first b.from

  quarter-same : (quarter : ℕ) (b : Border) → IsValidBorder (length books.zones.zones) b → SameReference (shifted_border (zones_before books first quarter) b)
  quarter-same quarter b fits =
      let to = div-mul-add (quarter - first) (length books.zones.zones) b.to fits.to in
      let from = div-mul-add (quarter - first) (length books.zones.zones) b.from fits.from in
      ap (λ n. (reference_of books (first + n)).0) (to ∙ sym from)

  pub same-references : All SameReference (joint_borders books first last)
  same-references = all-flat SameReference (borders_brought books first) first (last + 1 - first) (λ quarter low high.
      let own = (market_at books [] (run_of_quarter books.runs.runs quarter)).borders in
      All-map SameReference (shifted_border (zones_before books first quarter)) own
      (All-weaker (IsValidBorder (length books.zones.zones)) (λ b. SameReference (shifted_border (zones_before books first quarter) b)) (λ b fits. quarter-same quarter b fits) own
      (run-valid books ok first last all quarter low (omega (arith, low, high))).borders))

  -- the quarter of a zone is one of those from the first to the last
  pub record HasQuarter (zone : ℕ) : Type 0 where
    pub to_last : zone_quarter books first zone ≤ last
    pub there : is_some (scheduled_run_of books.runs.runs (zone_quarter books first zone)) ≡ true

  pub has-quarter : (zone : ℕ) → zone < (last + 1 - first) * length books.zones.zones → HasQuarter zone
  has-quarter zone l =
      let below : zone / length books.zones.zones < last + 1 - first = (div-lt_iff_lt-mul {k = length books.zones.zones} {x = zone} {y = last + 1 - first} (omega (arith, ok.zones.some))).1 l in
      let to_last : zone_quarter books first zone ≤ last = omega (arith, below) in
      record { to_last = to_last; there = has-run books ok first last all (zone_quarter books first zone) (omega arith) to_last }
