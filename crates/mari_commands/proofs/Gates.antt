-- In a generated day a quarter has few gates, so that a budget of 511 nodes holds each run's search tree.
use Rattle.std.proofs.Common.{◌≡◌, ℕ, suc, ◌≤◌, ◌==◌, Bool, List, [], ◌∷◌, Some, filter, length, take, arith, refl}
use Rattle.std.specs.Prelude.{slice_get}
use Rattle.std.specs.List.{range_with_len}
use Rattle.std.proofs.lemmas.List.{length-map}
use Rattle.std.proofs.lemmas.List.Elements.{All-weaker}
use Rattle.std.proofs.lemmas.List.Sums.{length-filter}
use lib.Chars.{codes}
use Rattle.mari_bids.specs.declared.bids.Bid.{Bid}
use Rattle.mari_bids.specs.declared.bids.BidBook.{BidBook}
use Rattle.mari_links.specs.Links.{count_of, gated_in, has_gate, quarter_of}
use Rattle.mari_links.specs.declared.links.LinkBook.{LinkBook}
use Rattle.mari_market.specs.declared.market.Market.{Market}
use Rattle.mari_market.specs.SearchTree.{IsLarger, IsNode}
use Rattle.mari_publish.specs.declared.publication.Block.{Block}
use Rattle.mari_publish.specs.declared.publication.Block.TheVariants as block
use Rattle.mari_lines.specs.declared.line.Heading.{Heading}
use Rattle.mari_publish.specs.declared.publication.Publication.{Publication}
use Rattle.mari_publish.specs.Lines.{unpublished_in}
use Rattle.mari_remain.specs.declared.books.Books.{Books}
use Rattle.mari_remain.specs.Available.{is_available}
use Rattle.mari_remain.specs.Blocks.{PastBlock}
use Rattle.mari_remain.specs.Lists.{bids_of_quarter, run_numbered}
use Rattle.mari_remain.specs.RunMarket.{gated_left, market_at, taken_before}
use Rattle.mari_remain.proofs.Places.{places-filter}
use Rattle.mari_progress.specs.After.{before_of, market_after, run_after}
use Rattle.mari_day.specs.Day.{IsDay}
use Rattle.mari_day.specs.Reading.{HasBooks}
use Rattle.mari_scenario.specs.Accepted.{AreAccepted}
use Rattle.mari_scenario.specs.Pages.{scenario_at}
use Rattle.mari_commands.proofs.ShortWords.{few-words}
use Rattle.mari_commands.proofs.GeneratedBooks.{one-each, same-books, whole}
use Rattle.mari_remain.proofs.Validity.{same_quarter}

-- what passes three tests is no more than what passes two of them
one-more : (g p q : ℕ → Bool) (x : ℕ) (xs : List ℕ) → length (filter g (filter p (filter q xs))) ≤ length (filter q (filter g xs)) → (a : Bool) → q x ≡ a → (b : Bool) → p x ≡ b → (c : Bool) → g x ≡ c
    → length (filter g (filter p (filter q (x ∷ xs)))) ≤ length (filter q (filter g (x ∷ xs)))
one-more g p q x xs less a e b f c h = grind arith

fewer : (g p q : ℕ → Bool) (xs : List ℕ) → length (filter g (filter p (filter q xs))) ≤ length (filter q (filter g xs))
fewer g p q [] = omega arith
fewer g p q (x ∷ xs) = one-more g p q x xs (fewer g p q xs) (q x) refl (p x) refl (g x) refl

-- the gated bids of a quarter, whichever of them are available
few-gated : (bids : BidBook) (links : LinkBook) (p : ℕ → Bool) (quarter : ℕ) → length links.links ≡ length bids.bids
    → count_of bids (gated_in links) quarter ≤ 8 → length (filter (has_gate links) (filter p (bids_of_quarter bids.bids quarter))) ≤ 8
few-gated bids links p quarter all few =
    let numbers : List ℕ = range_with_len 0 (length bids.bids) in
    let of_quarter : ℕ → Bool = λ i. quarter_of bids i == quarter in
    let placed : bids_of_quarter bids.bids quarter ≡ filter of_quarter numbers = places-filter (λ (b : Bid). b.quarter == quarter) of_quarter 0 bids.bids (same_quarter quarter bids) in
    let most = rw all at few in
    rw placed (omega (arith, fewer (has_gate links) p of_quarter numbers, length-filter of_quarter (filter (has_gate links) numbers), most))

-- a search tree of at most eight gates has at most 511 nodes
not-larger : (m : Market) (nodes : ℕ) → length m.gates ≤ 8 → 511 ≤ nodes → IsLarger m nodes → ⊥
not-larger m nodes few most larger =
    let short = All-weaker (IsNode m) (λ w. length w ≤ 8) (λ w n. omega (arith, few, n.feasible.decided)) larger.words larger.nodes.nodes in
    let fit : length larger.words ≤ 511 = few-words 8 larger.words larger.nodes.distinct short in
    omega (arith, fit, most, larger.count)

-- where no block is unpublished, none is counted
none-out : (blocks : List Block) → ((k : ℕ) (heading : Heading) (count : ℕ) → slice_get blocks k ≡ Some (block.Unpublished heading count) → ⊥) → unpublished_in blocks ≡ 0
none-out [] out = refl
none-out (block.Published b ∷ bs) out = none-out bs (λ k heading count e. out (suc k) heading count e)
none-out (block.Unpublished heading count ∷ bs) out = absurd (out 0 heading count refl)

-- each run of a generated day is published
pub generated-published : (number nodes : ℕ) (books : Books) (p : Publication) → AreAccepted (scenario_at number)
    → HasBooks (scenario_at number) (codes "s") books → 511 ≤ nodes → IsDay books nodes p
    → unpublished_in p.blocks ≡ 0
generated-published number nodes books p a h most is = none-out p.blocks out
  where
    same : books ≡ whole (scenario_at number) a
    same = same-books (scenario_at number) a books h

    few : (q : ℕ → Bool) (quarter : ℕ) → length (filter (has_gate books.links) (filter q (bids_of_quarter books.bids.bids quarter))) ≤ 8
    few q quarter = rw same (few-gated a.bids a.links q quarter (one-each (scenario_at number) a) (a.few_gates quarter))

    gates-few : (blocks : List PastBlock) (run : ℕ) → length (market_at books blocks run).gates ≤ 8
    gates-few blocks run =
        let gated : List ℕ = gated_left books (taken_before books blocks run) run in
        let gated-few : length gated ≤ 8 = few (is_available books (taken_before books blocks run) (run_numbered books run)) (run_numbered books run).quarter in
        simp length-map gated-few

    out : (k : ℕ) (heading : Heading) (count : ℕ) → slice_get p.blocks k ≡ Some (block.Unpublished heading count) → ⊥
    out k heading count e =
        let before = take k p.blocks in
        not-larger (market_after books before).market nodes (gates-few (before_of books before) (run_after before)) most (is.part.each k (block.Unpublished heading count) e).spent.is_spent.larger
