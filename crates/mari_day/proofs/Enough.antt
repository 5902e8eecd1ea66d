-- Within a budget that holds each run's search tree every run is published.
use Rattle.std.proofs.Common.{◌≡◌, ◌∙◌, ℕ, zero, suc, ◌<◌, ◌≤◌, List, [], ◌∷◌, length, take, Some, refl, sym, arith}
use Rattle.std.specs.Prelude.{slice_get, ⊤}
use Rattle.std.proofs.lemmas.List.{length-take-le, take-take}
use Rattle.std.proofs.lemmas.Option.{slice_get_within}
use Rattle.mari_market.proofs.SearchTrees.{larger_than_budget}
use Rattle.mari_publish.specs.declared.publication.Block.{Block}
use Rattle.mari_publish.specs.declared.publication.Block.TheVariants as block
use Rattle.mari_publish.specs.declared.publication.Publication.{Publication}
use Rattle.mari_publish.specs.Lines.{unpublished_in}
use Rattle.mari_remain.specs.declared.books.Books.{Books}
use Rattle.mari_progress.specs.After.{market_after}
use Rattle.mari_day.specs.Day.{HasEnough, IsDay, IsDayPart}
use Rattle.mari_day.specs.Published.{IsBlock}

pub get-first : {X : Type 0} (n : ℕ) (xs : List X) (k : ℕ) → k < n → slice_get (take n xs) k ≡ slice_get xs k
get-first zero xs k l = absurd (omega (arith, l))
get-first (suc n) [] k l = refl
get-first (suc n) (x ∷ xs) zero l = refl
get-first (suc n) (x ∷ xs) (suc k) l = get-first n xs k (omega (arith, l))

-- a first part of a day part is one
pub part-of : (books : Books) (budget : ℕ) (blocks : List Block) (n : ℕ) → IsDayPart books budget blocks → n ≤ length blocks → IsDayPart books budget (take n blocks)
part-of books budget blocks n part l = record {
  few = omega (arith, part.few, l, length-take-le n blocks l);
  each = λ k b e.
      let within : k < n = omega (arith, slice_get_within (take n blocks) k b e, length-take-le n blocks l) in
      rw (take-take k n blocks (omega (arith, within))) (part.each k b (sym (get-first n blocks k within) ∙ e));
}

abbrev IsOut : Block → Type 0
IsOut (block.Published b) = ⊤
IsOut (block.Unpublished heading count) = ⊥

all-out : (blocks : List Block) → ((k : ℕ) (b : Block) → slice_get blocks k ≡ Some b → IsOut b) → unpublished_in blocks ≡ 0
all-out [] out = refl
all-out (block.Published b ∷ bs) out = all-out bs (λ k x e. out (suc k) x e)
all-out (block.Unpublished heading count ∷ bs) out = absurd (out 0 (block.Unpublished heading count) refl)

module _ (books : Books) (nodes : ℕ) (p : Publication) (day : IsDay books nodes p) (enough : HasEnough books nodes) where
  is-out : (k : ℕ) (b : Block) → slice_get p.blocks k ≡ Some b → IsBlock books nodes (take k p.blocks) b → IsOut b
  is-out k (block.Published b) e is = tt
  is-out k (block.Unpublished heading count) e is =
      let l = slice_get_within p.blocks k (block.Unpublished heading count) e in
      let here = enough (take k p.blocks) (part-of books nodes p.blocks k day.part (omega (arith, l))) (omega (arith, l, day.every, length-take-le k p.blocks (omega (arith, l)))) in
      omega (arith, here.2, larger_than_budget (market_after books (take k p.blocks)).market here.0 nodes here.1 is.spent.is_spent.larger)

  pub all-published : unpublished_in p.blocks ≡ 0
  all-published = all-out p.blocks (λ k b e. is-out k b e (day.part.each k b e))
