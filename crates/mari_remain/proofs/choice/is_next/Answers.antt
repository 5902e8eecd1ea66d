use Rattle.std.proofs.Common.{◌≡◌, ◌∙◌, ◌==◌, ℕ, Bool, true, false, sym, refl}
use Rattle.std.specs.Prelude.{◌&&◌, ◌||◌, slice_get}
use Rattle.std.specs.List.{list_any}
use Rattle.std.specs.Option.{option_map_or}
use Rattle.mari_bids.specs.Bids.{bid_numbered}
use Rattle.mari_demands.specs.declared.runs.Run.{Run}
use Rattle.mari_remain.specs.declared.books.Books.{Books}
use Rattle.mari_remain.specs.Available.{Taken, has_free_group, is_for, is_left, keeps_links, may_run}
use Rattle.mari_remain.specs.FirstBlocks.{activated_in, taken_in}
use Rattle.mari_remain.specs.Lists.{parent_at}
use Rattle.mari_remain.proofs.Choosing.{own-mw}
use Rattle.mari_remain.proofs.choice.is_next.Goals as goal

neither : (a b c d e : Bool) → (a && b) ≡ false → false ≡ ((a && (b && (c && d))) && e)
neither true true c d e none = absurd (cc none)
neither true false c d e none = refl
neither false b c d e none = refl

as_others : (a b c d e others : Bool) → (a && b) ≡ true → others ≡ (c && (d && e)) → others ≡ ((a && (b && (c && d))) && e)
as_others true true true d e others both same = same
as_others true true false d e others both same = same
as_others true false c d e others both same = absurd (cc both)
as_others false b c d e others both same = absurd (cc both)

module _ (books : Books) (taken : Taken) (run : Run) (i : ℕ) (parent : Bool) where
  -- a bid that isn't offered isn't available
  not_offered : (is_for run (bid_numbered books.bids.bids i) && is_left books taken i) ≡ false → false ≡ (may_run books taken run i && parent)
  not_offered none =
      neither (is_for run (bid_numbered books.bids.bids i)) (is_left books taken i) (has_free_group books.links.links taken i)
      (option_map_or (keeps_links taken.activated taken.by_direct_run) (slice_get books.links.links i) true) parent none

  -- and one that is offered is where the others allow it
  offered : (others : Bool) → (is_for run (bid_numbered books.bids.bids i) && is_left books taken i) ≡ true
      → others ≡ (has_free_group books.links.links taken i && (option_map_or (keeps_links taken.activated taken.by_direct_run) (slice_get books.links.links i) true && parent))
      → others ≡ (may_run books taken run i && parent)
  offered others both same =
      as_others (is_for run (bid_numbered books.bids.bids i)) (is_left books taken i) (has_free_group books.links.links taken i)
      (option_map_or (keeps_links taken.activated taken.by_direct_run) (slice_get books.links.links i) true) parent others both same

pub returns-then-not-offered : goal.returns-then-not-offered
returns-then-not-offered c =
    let books = c.args.books.now in
    let kept = c.args.remaining.now in
    let i = c.args.number in
    let taken = taken_in books kept c.args.run.quarter in
    let own = own-mw books kept c.args.run.quarter i c.requires.quarter ∙ sym c.requires.taken in
    not_offered books taken c.args.run i (option_map_or (λ p. activated_in kept p || list_any (λ j. j == p) c.args.choice.now.gated.items) (parent_at books.links.links i) true)
    (sym (c.is_offered-offered.ensures taken own) ∙ c.if-not-offered.true)

pub returns : goal.returns
returns c =
    let books = c.args.books.now in
    let kept = c.args.remaining.now in
    let i = c.args.number in
    let taken = taken_in books kept c.args.run.quarter in
    let own = own-mw books kept c.args.run.quarter i c.requires.quarter ∙ sym c.requires.taken in
    offered books taken c.args.run i (option_map_or (λ p. activated_in kept p || list_any (λ j. j == p) c.args.choice.now.gated.items) (parent_at books.links.links i) true)
    c.others_allow.result (sym (c.is_offered-offered.ensures taken own) ∙ c.if-not-offered.false) c.others_allow.ensures
