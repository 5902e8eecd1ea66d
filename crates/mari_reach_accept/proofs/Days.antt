-- A printed day has none of the faults.
use Rattle.std.proofs.Common.{◌≡◌, ◌∙◌, ◌≤◌, ℕ, List, Option, Some, None, length, take, refl, sym, ap, subst, arith}
use Rattle.std.specs.Prelude.{slice_get}
use Rattle.std.specs.List.{take-map}
use Rattle.std.specs.Option.{option_map}
use Rattle.std.proofs.lemmas.List.{length-map, length-take-le}
use Rattle.std.proofs.lemmas.Option.{none-some, same_Some, slice_get-map, slice_get_within}
use Rattle.mari_remain.specs.Accepted.{IsAccepted}
use Rattle.mari_remain.specs.declared.books.Books.{Books}
use Rattle.mari_progress.specs.After.{run_after}
use Rattle.mari_progress.specs.Totals.{operator_totals, provider_totals}
use Rattle.mari_reach_text.specs.declared.named.NamedBlock.{NamedBlock}
use Rattle.mari_reach_check.specs.Verdict.{IsReachValid}
use Rattle.mari_reach_check.specs.Day.{AreReachFree, IsReachFreeIn}
use Rattle.mari_reach_day.specs.declared.block.ReachBlock.{ReachBlock}
use Rattle.mari_reach_day.specs.Reach.{IsReachDay, IsReachPart, block_of, blocks_of}
use Rattle.mari_reach_accept.specs.Named.{all_named, named_of, publication_of}
use Rattle.mari_reach_accept.proofs.Free.{free_in, printed_named}

module _ (books : Books) (ok : IsAccepted books) (budget : ℕ) (blocks : List ReachBlock) (part : IsReachPart books budget blocks) where
  -- each block of the first runs, after those before it
  pub all_free : AreReachFree books budget (all_named books blocks)
  all_free k b e any = by (slice_get blocks k) refl (sym (slice_get-map (named_of books) blocks k) ∙ e)
    where
      by : (o : Option ReachBlock) → slice_get blocks k ≡ o → option_map (named_of books) o ≡ Some b → IsReachFreeIn books budget (take k (all_named books blocks)) b any
      by None f g = absurd (none-some b g)
      by (Some r) f g =
          let within = slice_get_within blocks k r f in
          let last : run_after (blocks_of (take k blocks)) ≤ length books.runs.runs =
          omega (arith, within, part.few, length-map (take k blocks) block_of, length-take-le k blocks (omega (arith, within))) in
          let Free : List NamedBlock → Type 0 = λ bs. IsReachFreeIn books budget bs (named_of books r) any in
          let own : Free (take k (all_named books blocks)) = subst Free (sym (take-map (named_of books) k blocks)) (free_in books ok budget (take k blocks) r (part.each k r f) last any) in
          subst (λ (x : NamedBlock). IsReachFreeIn books budget (take k (all_named books blocks)) x any) (same_Some (named_of books r) b g) own

-- so a whole day is valid: its totals are the sums over its blocks by names
pub day_valid : (books : Books) → IsAccepted books → (budget : ℕ) (blocks : List ReachBlock) → IsReachDay books budget blocks → IsReachValid books (publication_of books budget blocks)
day_valid books ok budget blocks day = record {
  head = record { date_is = refl; quarters_is = refl };
  blocks = all_free books ok budget blocks day.part;
  every = length-map blocks (named_of books) ∙ day.every;
  totals = record {
    operators_are = ap (operator_totals books) (sym (printed_named books blocks));
    providers_are = ap (provider_totals books) (sym (printed_named books blocks));
  };
}
