-- The blocks of a day part, as the market of a later run reads them.
use Rattle.std.proofs.Common.{◌≡◌, ◌≢◌, ◌∙◌, ℕ, ◌+◌, ◌<◌, ◌≤◌, List, [], ◌∷◌, length, map, Some, refl, sym, ap, subst, arith}
use Rattle.std.specs.List.{All, AllPairs}
use Rattle.std.proofs.lemmas.List.{length-map}
use Rattle.std.proofs.lemmas.List.Elements.{All-head, All-tail}
use Rattle.mari_rows.specs.Names.{name_at, place_in}
use Rattle.mari_rows.proofs.NameLemmas.{place-of-name}
use Rattle.mari_lines.specs.declared.line.BidLine.{BidLine}
use Rattle.mari_publish.specs.declared.publication.Block.{Block}
use Rattle.mari_publish.specs.declared.publication.Block.TheVariants as block
use Rattle.mari_publish.specs.declared.publication.FullBlock.{FullBlock}
use Rattle.mari_lines.specs.declared.line.Heading.{Heading}
use Rattle.mari_remain.specs.declared.books.Books.{Books}
use Rattle.mari_remain.specs.Accepted.{IsAccepted}
use Rattle.mari_remain.specs.Blocks.{PastBlock, PastRun}
use Rattle.mari_remain.specs.FirstBlocks.{AreFirstBlocks, IsNextBlock, IsPastRun, block_of}
use Rattle.mari_remain.specs.Lists.{run_numbered}
use Rattle.mari_progress.specs.After.{before_of, market_after, past_of, run_after}
use Rattle.mari_progress.specs.Runs.{IsSoundBlock, IsSoundRun}
use Rattle.mari_progress.specs.Reported.{activation_of, heading_of}
use Rattle.mari_progress.proofs.Made.{market-of}

-- the places of names that are read off places
places-of-names : (names : List (List ℕ)) → AllPairs (λ a b. a ≢ b) names → (numbers : List ℕ) → All (λ i. i < length names) numbers → (lines : List BidLine)
    → map (λ (l : BidLine). l.id) lines ≡ map (name_at names) numbers → map (λ (l : BidLine). place_in names l.id) lines ≡ numbers
places-of-names names apart [] there [] e = refl
places-of-names names apart [] there (l ∷ ls) e = cc e
places-of-names names apart (n ∷ ns) there [] e = cc e
places-of-names names apart (n ∷ ns) there (l ∷ ls) e =
    let own : place_in names (name_at names n) ≡ n = place-of-name names apart n (All-head (λ i. i < length names) n ns there) in
    let name : l.id ≡ name_at names n = cc e in
    let rest : map (λ (l : BidLine). l.id) ls ≡ map (name_at names) ns = cc e in
    let more = places-of-names names apart ns (All-tail (λ i. i < length names) n ns there) ls rest in
    ap (λ k. k ∷ map (λ (l : BidLine). place_in names l.id) ls) (ap (place_in names) name ∙ own) ∙ ap (λ ks. n ∷ ks) more

module _ (books : Books) (ok : IsAccepted books) (blocks : List Block) (first : AreFirstBlocks books (before_of books blocks)) (last : run_after blocks ≤ length books.runs.runs) where
  there : All (λ i. i < length books.bids.ids) (market_after books blocks).bids
  there = rw ok.bids.named (market-of books ok (before_of books blocks) first (run_after blocks) (omega arith) last).there

  bids-of : (b : FullBlock) → IsSoundRun books blocks b → map (λ (l : BidLine). place_in books.bids.ids l.id) b.bids ≡ (market_after books blocks).bids
  bids-of b is = places-of-names books.bids.ids ok.bids.distinct (market_after books blocks).bids there b.bids is.names.lines.bids

  -- a published block, as a later run reads it
  pub past-published : (b : FullBlock) → IsSoundRun books blocks b → past_of books (block.Published b) ≡ block_of books (run_after blocks) (market_after books blocks).bids (activation_of b)
  past-published b is =
      let made : Heading → List ℕ → PastBlock = λ h ns. record { run = h.run; quarter = h.quarter; direct = h.direct; published = Some (record { bids = ns; activation = activation_of b }) } in
      ap (λ h. made h (map (λ (l : BidLine). place_in books.bids.ids l.id) b.bids)) is.heading ∙ ap (made (heading_of books (run_after blocks))) (bids-of b is)

  many : length (before_of books blocks) ≡ length blocks
  many = length-map blocks (past_of books)

  -- the block is the next one of the day
  pub next-block : (b : Block) → IsSoundBlock books blocks b → IsNextBlock books (before_of books blocks) (past_of books b)
  next-block (block.Published b) is =
      let past : PastRun = record { bids = map (λ (l : BidLine). place_in books.bids.ids l.id) b.bids; activation = activation_of b } in
      let R : Heading → Type 0 = λ h. h.run ≤ length books.runs.runs in
      let Q : Heading → Type 0 = λ h. h.quarter ≡ (run_numbered books h.run).quarter in
      let D : Heading → Type 0 = λ h. h.direct ≡ (run_numbered books h.run).direct in
      let P : Heading → Type 0 = λ h. IsPastRun books (before_of books blocks) h.run past in
      record {
        run = ap (λ (h : Heading). h.run) is.heading ∙ ap (λ n. n + 1) (sym many);
        there = subst R (sym is.heading) last;
        quarter = subst Q (sym is.heading) refl;
        direct = subst D (sym is.heading) refl;
        published = subst P (sym is.heading) (record { bids = bids-of b is; feasible = is.feasible });
      }
  next-block (block.Unpublished heading count) is =
      let R : Heading → Type 0 = λ h. h.run ≤ length books.runs.runs in
      let Q : Heading → Type 0 = λ h. h.quarter ≡ (run_numbered books h.run).quarter in
      let D : Heading → Type 0 = λ h. h.direct ≡ (run_numbered books h.run).direct in
      record {
        run = ap (λ (h : Heading). h.run) is ∙ ap (λ n. n + 1) (sym many);
        there = subst R (sym is) last;
        quarter = subst Q (sym is) refl;
        direct = subst D (sym is) refl;
        published = tt;
      }
