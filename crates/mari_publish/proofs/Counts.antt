-- How many blocks are published, and how many not.
use Rattle.std.proofs.Common.{◌≡◌, ℕ, ◌+◌, List, [], ◌∷◌, length, arith, refl, sym, ◌∙◌}
use Rattle.mari_publish.specs.declared.publication.Block.{Block}
use Rattle.mari_publish.specs.declared.publication.Block.TheVariants as block
use Rattle.mari_publish.specs.Lines.{published_in, unpublished_in}

left_more : (a b n : ℕ) → a + b ≡ n → (a + 1) + b ≡ n + 1
left_more a b n e = omega arith

right_more : (a b n : ℕ) → a + b ≡ n → a + (b + 1) ≡ n + 1
right_more a b n e = omega arith

len_cons : (b : Block) (bs : List Block) → length (b ∷ bs) ≡ length bs + 1
len_cons b bs = omega arith

-- each block is published or not
pub both_kinds : (bs : List Block) → published_in bs + unpublished_in bs ≡ length bs
both_kinds [] = refl
both_kinds (block.Published b ∷ bs) = left_more _ _ _ (both_kinds bs) ∙ sym (len_cons (block.Published b) bs)
both_kinds (block.Unpublished heading count ∷ bs) = right_more _ _ _ (both_kinds bs) ∙ sym (len_cons (block.Unpublished heading count) bs)
