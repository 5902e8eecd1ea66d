-- Within a budget that holds each island's search tree every run is published.
use Rattle.std.proofs.Common.{◌≡◌, ◌∙◌, ℕ, suc, ◌<◌, ◌≤◌, List, [], ◌∷◌, length, take, Option, Some, None, refl, sym, subst, arith}
use Rattle.std.specs.Prelude.{slice_get, ⊤}
use Rattle.std.specs.Option.{IsSomeAnd}
use Rattle.std.specs.List.{All}
use Rattle.std.proofs.lemmas.List.{length-take-le, take-take}
use Rattle.std.proofs.lemmas.Option.{get_or_from_slice_get, slice_get_within}
use Rattle.mari_market.specs.Clearing.{IsUnpublished}
use Rattle.mari_market.proofs.SearchTrees.{larger_than_budget}
use Rattle.mari_day.proofs.Enough.{get-first}
use Rattle.mari_publish.specs.Lines.{unpublished_in}
use Rattle.mari_remain.specs.declared.books.Books.{Books}
use Rattle.mari_islands.specs.declared.islands.Island.{Island}
use Rattle.mari_split.specs.declared.split.SplitBlock.{SplitBlock}
use Rattle.mari_split.specs.declared.split.SplitBlock.TheVariants as split
use Rattle.mari_split.specs.Split.{HoldsIslands, IsSplitBlock, IsSplitDay, IsSplitPart, IsWithin, blocks_of}

-- a first part of a day part is one
pub part_of : (books : Books) (budget : ℕ) (blocks : List SplitBlock) (n : ℕ) → IsSplitPart books budget blocks → n ≤ length blocks → IsSplitPart books budget (take n blocks)
part_of books budget blocks n part l = record {
  few = omega (arith, part.few, l, length-take-le n blocks l);
  each = λ k b e.
      let within : k < n = omega (arith, slice_get_within (take n blocks) k b e, length-take-le n blocks l) in
      rw (take-take k n blocks (omega (arith, within))) (part.each k b (sym (get-first n blocks k within) ∙ e));
}

-- the budget can't be spent on an island whose search tree it holds
none_spent : (budget count k : ℕ) (islands : List Island) → All (IsWithin budget) islands → IsSomeAnd (slice_get islands k) (λ (i : Island). IsUnpublished i.market budget count) → ⊥
none_spent budget count k islands all h = by (slice_get islands k) refl h
  where
    by : (o : Option Island) → slice_get islands k ≡ o → IsSomeAnd o (λ (i : Island). IsUnpublished i.market budget count) → ⊥
    by None e h = h
    by (Some i) e is =
        let size : IsWithin budget i = subst (IsWithin budget) (get_or_from_slice_get islands k i i e) (all k i (slice_get_within islands k i e)) in
        omega (arith, size.2, larger_than_budget i.market size.0 budget size.1 is.is_spent.larger)

abbrev IsOut : SplitBlock → Type 0
IsOut (split.Published r) = ⊤
IsOut (split.Unpublished heading island count) = ⊥

all_out : (blocks : List SplitBlock) → ((k : ℕ) (b : SplitBlock) → slice_get blocks k ≡ Some b → IsOut b) → unpublished_in (blocks_of blocks) ≡ 0
all_out [] out = refl
all_out (split.Published r ∷ bs) out = all_out bs (λ k x e. out (suc k) x e)
all_out (split.Unpublished heading island count ∷ bs) out = absurd (out 0 (split.Unpublished heading island count) refl)

module _ (books : Books) (budget : ℕ) (blocks : List SplitBlock) (day : IsSplitDay books budget blocks) (enough : HoldsIslands books budget) where
  is_out : (k : ℕ) (b : SplitBlock) → slice_get blocks k ≡ Some b → IsSplitBlock books budget (take k blocks) b → IsOut b
  is_out k (split.Published r) e is = tt
  is_out k (split.Unpublished heading island count) e is =
      let l = slice_get_within blocks k (split.Unpublished heading island count) e in
      let here =
      enough (take k blocks) is.islands (part_of books budget blocks k day.part (omega (arith, l))) (omega (arith, l, day.every, length-take-le k blocks (omega (arith, l)))) is.are_islands in
      none_spent budget count is.place is.islands here is.spent

  pub all_published : unpublished_in (blocks_of blocks) ≡ 0
  all_published = all_out blocks (λ k b e. is_out k b e (day.part.each k b e))
