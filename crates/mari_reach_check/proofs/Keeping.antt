-- A valid day keeps the offers, each of its blocks shows its run, and the nets of its totals sum to 0.
use Rattle.std.proofs.Common.{◌≡◌, ◌∙◌, ◌≤◌, ℕ, pos, List, length, take, Option, Some, None, refl, sym, ap, subst, arith}
use Rattle.std.specs.Prelude.{slice_get}
use Rattle.std.specs.Option.{option_map}
use Rattle.std.specs.List.{take-map}
use Rattle.std.proofs.lemmas.List.{length-map}
use Rattle.std.proofs.lemmas.Option.{none-some, same_Some, slice_get-map, slice_get_within}
use Rattle.mari_publish.specs.declared.publication.Block.{Block}
use Rattle.mari_remain.specs.declared.books.Books.{Books}
use Rattle.mari_remain.specs.Accepted.{IsAccepted}
use Rattle.mari_remain.specs.FirstBlocks.{AreFirstBlocks}
use Rattle.mari_progress.specs.After.{also_after, before_of, market_after, run_after}
use Rattle.mari_progress.specs.Keeps.{KeepsOffers, net_sum}
use Rattle.mari_progress.specs.Runs.{IsSoundBlock}
use Rattle.mari_progress.proofs.Keeping as sound
use Rattle.mari_check.specs.declared.fault.Fault.TheVariants as fault
use Rattle.mari_reach_text.specs.Texts.{ReachPublication}
use Rattle.mari_reach_text.specs.declared.named.NamedBlock.{NamedBlock}
use Rattle.mari_reach_check.specs.Day.{all_printed, printed}
use Rattle.mari_reach_check.specs.Shown.{ShowsReach}
use Rattle.mari_reach_check.specs.Verdict.{IsReachValid}
use Rattle.mari_reach_check.proofs.Days.{sound-run}
use Rattle.mari_reach_check.proofs.Showing.{shows-reach}

module _ (books : Books) (ok : IsAccepted books) (p : ReachPublication) (valid : IsReachValid books p) where
  few : length (all_printed p.blocks) ≤ length books.runs.runs
  few = omega (arith, valid.every, length-map p.blocks printed)

  each : (k : ℕ) (b : Block) → slice_get (all_printed p.blocks) k ≡ Some b → IsSoundBlock books (take k (all_printed p.blocks)) b
  each k b e = by (slice_get p.blocks k) refl (sym (slice_get-map printed p.blocks k) ∙ e)
    where
      by : (o : Option NamedBlock) → slice_get p.blocks k ≡ o → option_map printed o ≡ Some b → IsSoundBlock books (take k (all_printed p.blocks)) b
      by None f g = absurd (none-some b g)
      by (Some n) f g =
          let free = sound-run books p.budget (take k p.blocks) n (valid.blocks k n f) in
          let own : IsSoundBlock books (take k (all_printed p.blocks)) (printed n) = subst (λ (bs : List Block). IsSoundBlock books bs (printed n)) (sym (take-map printed k p.blocks)) free in
          subst (IsSoundBlock books (take k (all_printed p.blocks))) (same_Some (printed n) b g) own

  pub keeps-offers : KeepsOffers books (all_printed p.blocks)
  keeps-offers = sound.keeps-offers books ok (all_printed p.blocks) few each

  first-before : (k : ℕ) → k ≤ length p.blocks → AreFirstBlocks books (before_of books (all_printed (take k p.blocks)))
  first-before k l =
      let first = sound.up books ok (all_printed p.blocks) few each k (omega (arith, l, length-map p.blocks printed)) in
      subst (λ (bs : List Block). AreFirstBlocks books (before_of books bs)) (take-map printed k p.blocks) first

  -- each block shows its run
  pub shows : (k : ℕ) (b : NamedBlock) → slice_get p.blocks k ≡ Some b
      → ShowsReach books (market_after books (all_printed (take k p.blocks))) (also_after books (all_printed (take k p.blocks))) b
  shows k b e =
      let l = slice_get_within p.blocks k b e in
      let before = all_printed (take k p.blocks) in
      shows-reach books ok (run_after before) (market_after books before) (also_after books before) p.budget b
      (record { blocks = before_of books before; first = first-before k (omega (arith, l)); from_one = omega arith; there = (valid.blocks k b e fault.Heading).0; made_of = refl })
      (λ any. (valid.blocks k b e any).1)

  pub totals-balance : net_sum p.operators ≡ pos 0
  totals-balance = ap net_sum valid.totals.operators_are ∙ sound.totals-balance books ok (all_printed p.blocks) few each
