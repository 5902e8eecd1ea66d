-- A block after those that were checked: what its check shows, and the lines that state of it.
use Rattle.std.proofs.Common.{◌≡◌, ℕ, ◌≤◌, ◌^◌, ℤ, pos, ◌-ℤ◌, ◌*ℤ◌, ◌≤ℤ◌, List, [], ◌∷◌, ◌++◌, map, length, get_or, Option, None, Result, Ok, arith, sym, subst}
use Rattle.std.specs.Int.{int_max}
use Rattle.std.specs.List.{All}
use Rattle.std.specs.Prelude.{IfOk, unsigned_abs}
use Rattle.std.proofs.lemmas.Int.{ints, clamps}
use Rattle.std.proofs.lemmas.List.{get_or_default, length-map}
use Rattle.std.proofs.lemmas.Slice.Zip.{AllZip-long}
use Rattle.mari_units.specs.declared.numbers.Cents.{Cents}
use Rattle.mari_lines.specs.declared.line.BorderLine.{BorderLine}
use Rattle.mari_lines.specs.declared.line.Heading.{Heading}
use Rattle.mari_market.specs.declared.activation.Activation.{Activation}
use Rattle.mari_market.specs.declared.market.Border.{Border}
use Rattle.mari_market.specs.declared.market.Market.{Market}
use Rattle.mari_market.specs.Activation.{IsWithinLimits, welfare_of}
use Rattle.mari_market.specs.Optimal.{IsConsistent, IsFeasible}
use Rattle.mari_market.specs.Price.{ArePrices, price_at}
use Rattle.mari_market.proofs.Conflicts.{price_in_cap}
use Rattle.mari_market.proofs.Ints.{pos_mul_le}
use Rattle.mari_network.specs.Network.{border_at}
use Rattle.mari_publish.specs.declared.publication.Block.{Block}
use Rattle.mari_publish.specs.declared.publication.Block.TheVariants as block
use Rattle.mari_publish.specs.declared.publication.FullBlock.{FullBlock}
use Rattle.mari_remain.specs.declared.books.Books.{Books}
use Rattle.mari_remain.specs.declared.market.RunMarket.{RunMarket}
use Rattle.mari_progress.specs.After.{market_after, run_after}
use Rattle.mari_progress.specs.Reported.{activation_of, prices_of}
use Rattle.mari_check.specs.declared.fault.Fault.{Fault}
use Rattle.mari_check.specs.declared.fault.Fault.TheVariants as fault
use Rattle.mari_check.specs.Day.{IsFreeIn}
use Rattle.mari_check.specs.Faults.{FindsNumber}
use Rattle.mari_capacity.specs.declared.worth.BorderWorth.{BorderWorth}
use Rattle.mari_capacity.specs.declared.worth.Worth.{Worth}
use Rattle.mari_capacity.specs.declared.raising.Raise.{Raise}
use Rattle.mari_capacity.specs.Lines.{ArePrintable, IsPrintable, run_lines, unpublished_line}
use Rattle.mari_network.specs.Chain.{head_of, tail_of}
use Rattle.mari_capacity.specs.Rise.{rise_of}
use Rattle.mari_capacity.specs.Values.{IsValueText}
use Rattle.mari_capacity.specs.Values.IsValueText.{OfPublished, OfUnpublished}
use Rattle.mari_capacity.specs.Worth.{AreWorths, IsWorth, no_worth}

-- ---- amounts that are printed

product-most : (more : ℕ) (gap : ℤ) → more ≤ 1000 → gap ≤ℤ pos 19999800 → (pos more *ℤ int_max (pos 0) gap) ≤ℤ pos 19999800000
product-most more gap few most =
    let one = pos_mul_le more (int_max (pos 0) gap) (pos 19999800) (omega (arith, ints, clamps, most)) in
    omega (arith, ints, one, few)

rise-most : (m : Market) (ps : List Cents) (b : Border) (r : Raise) → ArePrices m ps → r.more ≤ 1000 → rise_of ps b r.forth r.more ≤ℤ pos 19999800000
rise-most m ps b r prices few =
    let far = price_in_cap m ps prices (head_of r.forth b) in
    let near = price_in_cap m ps prices (tail_of r.forth b) in
    product-most r.more (price_at ps (head_of r.forth b) -ℤ price_at ps (tail_of r.forth b)) few (omega (arith, ints, far.high, near.low))

small-printable : (gain rise : ℤ) → pos 0 ≤ℤ gain → gain ≤ℤ rise → rise ≤ℤ pos 19999800000 → (unsigned_abs gain ≤ 10 ^ 30) × (unsigned_abs rise ≤ 10 ^ 30)
small-printable gain rise a b c = (omega (arith, ints, a, b, c), omega (arith, ints, a, b, c))

worth-printable : (m : Market) (a : Activation) (ps : List Cents) (r : Raise) (w : Worth) → ArePrices m ps → r.more ≤ 1000 → IsWorth m a ps r w → IsPrintable w
worth-printable m a ps r w prices few is =
    let most = rise-most m ps (border_at m.borders r.border) r prices few in
    let both = small-printable w.gain.0 w.rise.0 is.at_least_0 is.at_most (subst (λ (z : ℤ). z ≤ℤ pos 19999800000) (sym is.rise) most) in
    record { gain = both.0; rise = both.1 }

pub worths-printable : (m : Market) (a : Activation) (ps : List Cents) (more : ℕ) (ws : List BorderWorth) → ArePrices m ps → more ≤ 1000 → AreWorths m a ps more ws → All ArePrintable ws
worths-printable m a ps more ws prices few are = λ k d l.
    let own = are.each k (omega (arith, l, are.one_each)) in
    let P : BorderWorth → Type 0 = λ w. ArePrintable w in
    subst P (get_or_default ws k no_worth d l) (record {
      forth = worth-printable m a ps _ (get_or ws k no_worth).forth prices few own.forth;
      back = worth-printable m a ps _ (get_or ws k no_worth).back prices few own.back;
    })

-- ---- a published block

-- its market has a line for each border
pub as-many-lines : (m : Market) (b : FullBlock) (a : Activation) (ps : List Cents) (more : ℕ) (ws : List BorderWorth)
    → IsFeasible m (activation_of b) → AreWorths m a ps more ws → length ws ≡ length b.borders
as-many-lines m b a ps more ws feasible are =
    let long = AllZip-long IsWithinLimits m.borders (map (λ (l : BorderLine). l.flow) b.borders) feasible.borders in
    let same = length-map b.borders (λ (l : BorderLine). l.flow) in
    omega (arith, are.one_each, long, same)

-- a block of which no fault is reported has none
pub none-found : {E : Type 0} (free : Fault → Type 0) (r : Result (Option ℕ) E) → IfOk r (FindsNumber free) → r ≡ Ok None → (any : Fault) → free any
none-found free r h e = grind arith

module _ (books : Books) (budget : ℕ) (blocks : List Block) (x : Block) (b : FullBlock) (is : x ≡ block.Published b) where
  abbrev pub Free : Type 0
  Free = (any : Fault) → IsFreeIn books budget blocks x any

  published-free : Free → (any : Fault) → IsFreeIn books budget blocks (block.Published b) any
  published-free free any = subst (λ (y : Block). IsFreeIn books budget blocks y any) is (free any)

  pub run-there : Free → run_after blocks ≤ length books.runs.runs
  run-there free = (published-free free fault.Heading).0

  module _ (made : RunMarket) (after : made ≡ market_after books blocks) (free : Free) where
    pub block-feasible : IsFeasible made.market (activation_of b)
    block-feasible = subst (λ (o : RunMarket). IsFeasible o.market (activation_of b)) (sym after) (published-free free fault.Infeasible).1

    pub block-consistent : IsConsistent made.market (activation_of b) (prices_of b)
    block-consistent = subst (λ (o : RunMarket). IsConsistent o.market (activation_of b) (prices_of b)) (sym after) (published-free free fault.Inconsistent).1

    pub block-welfare : welfare_of made.market (activation_of b) ≡ pos b.welfare
    block-welfare = subst (λ (o : RunMarket). welfare_of o.market (activation_of b) ≡ pos b.welfare) (sym after) (published-free free fault.Welfare).1

  pub published-lines : (more : ℕ) (made : RunMarket) (text now : List ℕ) (ws : List BorderWorth) → made ≡ market_after books blocks → IsValueText books more blocks text
      → AreWorths made.market (activation_of b) (prices_of b) more ws → now ≡ text ++ run_lines b ws → IsValueText books more (blocks ++ x ∷ []) now
  published-lines more made text now ws after lines worths put =
      let own : AreWorths (market_after books blocks).market (activation_of b) (prices_of b) more ws =
      subst (λ (o : RunMarket). AreWorths o.market (activation_of b) (prices_of b) more ws) after worths in
      let P : Block → Type 0 = λ y. IsValueText books more (blocks ++ y ∷ []) now in
      let Q : List ℕ → Type 0 = λ t. IsValueText books more (blocks ++ block.Published b ∷ []) t in
      subst P (sym is) (subst Q (sym put) (OfPublished blocks text b ws lines own))

-- ---- an unpublished block

pub unpublished-lines : (books : Books) (blocks : List Block) (x : Block) (heading : Heading) (count : ℕ)
    → x ≡ block.Unpublished heading count → (more : ℕ) (text now : List ℕ) → IsValueText books more blocks text
    → now ≡ text ++ unpublished_line heading.run
    → IsValueText books more (blocks ++ x ∷ []) now
unpublished-lines books blocks x heading count is more text now lines put =
    let P : Block → Type 0 = λ y. IsValueText books more (blocks ++ y ∷ []) now in
    let Q : List ℕ → Type 0 = λ t. IsValueText books more (blocks ++ block.Unpublished heading count ∷ []) t in
    subst P (sym is) (subst Q (sym put) (OfUnpublished blocks text heading count lines))
