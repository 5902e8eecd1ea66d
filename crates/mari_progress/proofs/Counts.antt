-- How many blocks are published and how many aren't.
use Rattle.std.proofs.Common.{◌≡◌, ℕ, ◌+◌, List, [], ◌∷◌, ◌++◌, refl, ap}
use Rattle.mari_lines.specs.declared.line.Heading.{Heading}
use Rattle.mari_publish.specs.declared.publication.Block.{Block}
use Rattle.mari_publish.specs.declared.publication.Block.TheVariants as block
use Rattle.mari_publish.specs.declared.publication.FullBlock.{FullBlock}
use Rattle.mari_publish.specs.Lines.{published_in, unpublished_in}

-- with a published block more
pub published-more : (blocks : List Block) (b : FullBlock) → published_in (blocks ++ block.Published b ∷ []) ≡ published_in blocks + 1
published-more [] b = refl
published-more (block.Published x ∷ bs) b = ap (λ n. n + 1) (published-more bs b)
published-more (block.Unpublished heading count ∷ bs) b = published-more bs b

pub unpublished-same : (blocks : List Block) (b : FullBlock) → unpublished_in (blocks ++ block.Published b ∷ []) ≡ unpublished_in blocks
unpublished-same [] b = refl
unpublished-same (block.Published x ∷ bs) b = unpublished-same bs b
unpublished-same (block.Unpublished heading count ∷ bs) b = ap (λ n. n + 1) (unpublished-same bs b)

-- with an unpublished one more
pub published-same : (blocks : List Block) (heading : Heading) (count : ℕ) → published_in (blocks ++ block.Unpublished heading count ∷ []) ≡ published_in blocks
published-same [] heading count = refl
published-same (block.Published x ∷ bs) heading count = ap (λ n. n + 1) (published-same bs heading count)
published-same (block.Unpublished h c ∷ bs) heading count = published-same bs heading count

pub unpublished-more : (blocks : List Block) (heading : Heading) (count : ℕ) → unpublished_in (blocks ++ block.Unpublished heading count ∷ []) ≡ unpublished_in blocks + 1
unpublished-more [] heading count = refl
unpublished-more (block.Published x ∷ bs) heading count = unpublished-more bs heading count
unpublished-more (block.Unpublished h c ∷ bs) heading count = ap (λ n. n + 1) (unpublished-more bs heading count)
