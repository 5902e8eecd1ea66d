-- What the blocks of a day show of limits, none of which has a fault.
use Rattle.std.proofs.Common.{◌≡◌, Bool, true, false, ℕ, zero, suc, ◌<◌, ◌≤◌, pos, List, [], ◌∷◌, length, take, get_or, Some, refl, arith}
use Rattle.std.specs.Prelude.{slice_get}
use Rattle.std.proofs.lemmas.Int.{ints}
use Rattle.std.proofs.lemmas.List.{length-take}
use Rattle.std.proofs.lemmas.Option.{slice_get_within}
use Rattle.mari_market.specs.declared.activation.Activation.{Activation}
use Rattle.mari_market.specs.declared.market.Market.{Market}
use Rattle.mari_units.specs.declared.numbers.Cents.{Cents}
use Rattle.mari_network.specs.Network.{border_at}
use Rattle.mari_publish.specs.declared.publication.Block.{Block}
use Rattle.mari_publish.specs.declared.publication.Block.TheVariants as block
use Rattle.mari_publish.specs.declared.publication.FullBlock.{FullBlock}
use Rattle.mari_remain.specs.Accepted.{IsAccepted}
use Rattle.mari_remain.specs.declared.books.Books.{Books}
use Rattle.mari_progress.specs.After.{before_of, market_after, run_after}
use Rattle.mari_progress.specs.Runs.{IsMarketOf, IsSoundBlock}
use Rattle.mari_progress.specs.Reported.{activation_of, prices_of}
use Rattle.mari_progress.proofs.Keeping as sound
use Rattle.mari_check.specs.Day.{AreFree}
use Rattle.mari_check.specs.declared.fault.Fault.TheVariants as fault
use Rattle.mari_check.proofs.Made.{made-is}
use Rattle.mari_check.proofs.Progressing.{sound-block}
use Rattle.mari_capacity.specs.declared.worth.BorderWorth.{BorderWorth}
use Rattle.mari_capacity.specs.Rise.{rise_of}
use Rattle.mari_capacity.specs.Worth.{AreWorths, IsBorderWorth, RisesBound, no_worth, worth_on}
use Rattle.mari_capacity.proofs.Bounding.{at-most-rise}

-- an item within a list is there
there-is : {X : Type 0} (xs : List X) (k : ℕ) → k < length xs → (x : X) × (slice_get xs k ≡ Some x)
there-is [] k l = absurd (omega arith)
there-is (x ∷ xs) zero l = (x, refl)
there-is (x ∷ xs) (suc k) l = there-is xs k (omega arith)

-- a block without a fault is that of a run
has-run : (books : Books) (budget : ℕ) (blocks : List Block) → AreFree books budget blocks → (k : ℕ) (b : Block) → slice_get blocks k ≡ Some b → run_after (take k blocks) ≤ length books.runs.runs
has-run books budget blocks free k (block.Published b) e = (free k (block.Published b) e fault.Heading).0
has-run books budget blocks free k (block.Unpublished heading count) e = (free k (block.Unpublished heading count) e fault.Heading).there

few-blocks : (books : Books) (budget : ℕ) (blocks : List Block) → AreFree books budget blocks → length blocks ≤ length books.runs.runs
few-blocks books budget [] free = omega arith
few-blocks books budget (b ∷ bs) free =
    let last = there-is (b ∷ bs) (length bs) (omega arith) in
    let run = has-run books budget (b ∷ bs) free (length bs) last.0 last.1 in
    let front = length-take (length bs) (b ∷ bs) in
    omega (arith, run, front)

rise-on : (m : Market) (a : Activation) (ps : List Cents) (more border : ℕ) (w : BorderWorth) (forth : Bool)
    → IsBorderWorth m a ps more border w
    → (worth_on forth w).rise.0 ≡ rise_of ps (border_at m.borders border) forth more
rise-on m a ps more border w true is = is.forth.rise
rise-on m a ps more border w false is = is.back.rise

pub rises-bound : (books : Books) → IsAccepted books → (budget : ℕ) (blocks : List Block)
    → AreFree books budget blocks → (k : ℕ) (b : FullBlock) → slice_get blocks k ≡ Some (block.Published b)
    → (more : ℕ) (ws : List BorderWorth)
    → AreWorths (market_after books (take k blocks)).market (activation_of b) (prices_of b) more ws → RisesBound (market_after books (take k blocks)).market (activation_of b) (pos b.welfare) more ws
rises-bound books ok budget blocks free k b there more ws are = λ border forth other inside within.
    let before = take k blocks in
    let each : (i : ℕ) (x : Block) → slice_get blocks i ≡ Some x → IsSoundBlock books (take i blocks) x = λ i x e. sound-block books budget (take i blocks) x (free i x e) in
    let few = few-blocks books budget blocks free in
    let l = slice_get_within blocks k (block.Published b) there in
    let made : IsMarketOf books (market_after books before) = made-is books (run_after before) (market_after books before) ok
    (record {
      blocks = before_of books before;
      first = sound.up books ok blocks few each k (omega (arith, l));
      from_one = omega arith;
      there = sound.after books ok blocks few each k l;
      made_of = refl;
    }) in
    let m = (market_after books before).market in
    let own = free k (block.Published b) there in
    let most =
    at-most-rise m made.valid (activation_of b) (own fault.Infeasible).1 (prices_of b) (own fault.Inconsistent).1 (record { border = border; forth = forth; more = more }) inside other within in
    let rise = rise-on m (activation_of b) (prices_of b) more border (get_or ws border no_worth) forth (are.each border inside) in
    omega (arith, ints, most, rise, (own fault.Welfare).1)
