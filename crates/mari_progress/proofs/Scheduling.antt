-- The scheduled prices that are kept are those of the quarter's scheduled block.
use Rattle.std.proofs.Common.{◌≡◌, ◌∙◌, ℕ, ◌<◌, ◌≤◌, ◌==◌, Bool, true, false, if◌then◌else◌, List, [], ◌∷◌, ◌++◌, length, Option, Some, None, refl, sym, ap, subst, arith}
use Rattle.std.specs.Prelude.{◌&&◌, IfSome, not}
use Rattle.std.specs.List.{All}
use Rattle.std.proofs.lemmas.Bool.Decides.{nat_tests}
use Rattle.std.proofs.lemmas.List.{length-append}
use Rattle.std.proofs.lemmas.List.Sums.{fold-append}
use Rattle.mari_units.specs.declared.numbers.Cents.{Cents}
use Rattle.mari_publish.specs.declared.publication.Block.{Block}
use Rattle.mari_publish.specs.declared.publication.Block.TheVariants as block
use Rattle.mari_publish.specs.declared.publication.FullBlock.{FullBlock}
use Rattle.mari_lines.specs.declared.line.Heading.{Heading}
use Rattle.mari_remain.specs.declared.books.Books.{Books}
use Rattle.mari_remain.specs.Accepted.{IsAccepted}
use Rattle.mari_remain.specs.Lists.{run_numbered}
use Rattle.mari_remain.proofs.Standing.{quarters-rise}
use Rattle.mari_market.specs.Price.{IsCapped}
use Rattle.std.specs.Option.{option_map}
use Rattle.mari_progress.specs.After.{also_after, last_in, last_scheduled, run_after, scheduled_in, scheduled_prices}
use Rattle.mari_progress.specs.Progress.{kept_for, IsScheduled, KeepsPrices}
use Rattle.mari_progress.specs.Reported.{heading_of, prices_of}
use Rattle.mari_progress.specs.declared.progress.Scheduled.{Scheduled}

-- the block of a direct run is passed over
skip : (d e : Bool) (x y : Option (List Cents)) → d ≡ true → (if not d && e then x else y) ≡ y
skip true e x y f = refl
skip false e x y f = cc f

-- that of a scheduled run is taken for its own quarter, after which there is none before
pick : (d : Bool) (of own new q : ℕ) (ps ns : List Cents) (before : Option (List Cents)) → d ≡ false → of ≡ own → new ≡ own → ns ≡ ps → own ≤ q → (own < q → before ≡ None)
    → (if not d && of == q then Some ps else before) ≡ (if new == q then Some ns else None)
pick true of own new q ps ns before e f g h l none = cc e
pick false of own new q ps ns before e f g h l none = rw (f, g, h) (by (own == q) refl)
  where
    by : (t : Bool) → (own == q) ≡ t → (if t then Some ps else before) ≡ (if t then Some ps else None)
    by true e = refl
    by false e = none (grind (arith, nat_tests, e, l))

prices-more : (quarter : ℕ) (blocks : List Block) (b : Block) → scheduled_prices quarter (blocks ++ b ∷ []) ≡ scheduled_in quarter (scheduled_prices quarter blocks) b
prices-more quarter blocks b = fold-append (scheduled_in quarter) None blocks (b ∷ [])

last-more : (blocks : List Block) (b : Block) → last_scheduled (blocks ++ b ∷ []) ≡ last_in (last_scheduled blocks) b
last-more blocks b = fold-append last_in None blocks (b ∷ [])

-- a scheduled run's own prices are kept
own-last : (d : Bool) (of own : ℕ) (ps : List Cents) (new : Scheduled) (before : Option Scheduled) → d ≡ false → of ≡ own → new.quarter ≡ own → new.prices.cents ≡ ps
    → Some new ≡ (if d then before else Some (record { quarter = of; prices = record { cents = ps } }))
own-last true of own ps new before e f g h = cc e
own-last false of own ps new before e f g h = rw (f, sym g, sym h) refl

module _ (books : Books) (ok : IsAccepted books) (blocks : List Block) (kept : Option Scheduled) (keeps : KeepsPrices books blocks kept) where
  later : (b : Block) (r : ℕ) → length (blocks ++ b ∷ []) < r → length blocks < r
  later b r l = omega (arith, l, length-append blocks (b ∷ []))

  still : (b : Block) (kept : Option Scheduled) → IfSome kept (IsScheduled books blocks) → IfSome kept (IsScheduled books (blocks ++ b ∷ []))
  still b None h = tt
  still b (Some s) h = record { one_each = h.one_each; capped = h.capped; earlier = λ r l there. h.earlier r (later b r l) there }

  -- a block that isn't published, and that of a direct run, change nothing
  pub keeps-same : (b : Block)
      → ((quarter : ℕ) → scheduled_in quarter (scheduled_prices quarter blocks) b ≡ scheduled_prices quarter blocks)
      → last_in (last_scheduled blocks) b ≡ last_scheduled blocks
      → KeepsPrices books (blocks ++ b ∷ []) kept
  keeps-same b nothing none = record {
    last = keeps.last ∙ sym (last-more blocks b ∙ none);
    same = λ r l there. prices-more (run_numbered books r).quarter blocks b ∙ nothing (run_numbered books r).quarter ∙ keeps.same r (later b r l) there;
    priced = still b kept keeps.priced;
  }

  pub keeps-unpublished : (heading : Heading) (count : ℕ) → KeepsPrices books (blocks ++ block.Unpublished heading count ∷ []) kept
  keeps-unpublished heading count = keeps-same (block.Unpublished heading count) (λ quarter. refl) refl

  -- the prices that were kept are of a quarter before, where this one's isn't theirs
  past-quarter : (own quarter : ℕ) (s : Option Scheduled) → ((t : Scheduled) → s ≡ Some t → t.quarter ≤ own) → own < quarter → kept_for quarter s ≡ None
  past-quarter own quarter None early l = refl
  past-quarter own quarter (Some t) early l = rw (differ t.quarter quarter (omega (arith, early t refl, l))) refl
    where
      differ : (a b : ℕ) → a < b → (a == b) ≡ false
      differ a b l = grind (arith, nat_tests, l)

  earlier-of : (r : ℕ) → length blocks < r → r ≤ length books.runs.runs → (s : Option Scheduled)
      → IfSome s (IsScheduled books blocks) → (t : Scheduled) → s ≡ Some t
      → t.quarter ≤ (run_numbered books r).quarter
  earlier-of r l there None h t e = cc e
  earlier-of r l there (Some s) h t e = let same : s ≡ t = cc e in rw (sym same) (h.earlier r l there)

  module _ (b : FullBlock) (last : run_after blocks ≤ length books.runs.runs) (heading : b.heading ≡ heading_of books (run_after blocks)) where
    -- the published block of a direct run
    pub keeps-direct : (run_numbered books (run_after blocks)).direct ≡ true → KeepsPrices books (blocks ++ block.Published b ∷ []) kept
    keeps-direct direct =
        keeps-same (block.Published b)
        (λ quarter. skip b.heading.direct (b.heading.quarter == quarter) (Some (prices_of b)) (scheduled_prices quarter blocks) (ap (λ (h : Heading). h.direct) heading ∙ direct))
        (ap (λ d. if d then last_scheduled blocks else Some (record { quarter = b.heading.quarter; prices = record { cents = prices_of b } })) (ap (λ (h : Heading). h.direct) heading ∙ direct))

    -- that of a scheduled run
    pub keeps-scheduled : (run_numbered books (run_after blocks)).direct ≡ false → (new : Scheduled) → new.quarter ≡ (run_numbered books (run_after blocks)).quarter → new.prices.cents ≡ prices_of b
        → length (prices_of b) ≡ length books.zones.zones → All IsCapped (prices_of b) → KeepsPrices books (blocks ++ block.Published b ∷ []) (Some new)
    keeps-scheduled direct new quarter prices many capped = record {
      last =
          own-last b.heading.direct b.heading.quarter (run_numbered books (run_after blocks)).quarter (prices_of b) new (last_scheduled blocks) (ap (λ (h : Heading). h.direct) heading ∙ direct)
          (ap (λ (h : Heading). h.quarter) heading) quarter prices
          ∙ sym (last-more blocks (block.Published b));
      same = λ r l there.
          let own = (run_numbered books (run_after blocks)).quarter in
          let before = later (block.Published b) r l in
          let rises = quarters-rise books ok (run_after blocks) r (omega arith) (omega (arith, l, length-append blocks (block.Published b ∷ []))) there in
          prices-more (run_numbered books r).quarter blocks (block.Published b)
          ∙ pick b.heading.direct b.heading.quarter own new.quarter (run_numbered books r).quarter (prices_of b) new.prices.cents (scheduled_prices (run_numbered books r).quarter blocks)
          (ap (λ (h : Heading). h.direct) heading ∙ direct) (ap (λ (h : Heading). h.quarter) heading) quarter prices rises
          (λ less. keeps.same r before there ∙ past-quarter own (run_numbered books r).quarter kept (earlier-of (run_after blocks) (omega arith) last kept keeps.priced) less);
      priced = record {
        one_each = ap length prices ∙ many;
        capped = subst (All IsCapped) (sym prices) capped;
        earlier = λ r l there.
            let rises = quarters-rise books ok (run_after blocks) r (omega arith) (omega (arith, l, length-append blocks (block.Published b ∷ []))) there in
            omega (arith, rises, quarter);
      };
    }

-- the scheduled prices that the run after these blocks is given are its own
pub also-is : (books : Books) (blocks : List Block) (kept : Option Scheduled) → KeepsPrices books blocks kept → (run : ℕ) → run ≡ run_after blocks → run ≤ length books.runs.runs
    → (if (run_numbered books run).direct then kept_for (run_numbered books run).quarter kept else None) ≡ also_after books blocks
also-is books blocks kept keeps run is last =
    let P : ℕ → Type 0 = λ r. (if (run_numbered books run).direct then kept_for (run_numbered books run).quarter kept else None)
    ≡ (if (run_numbered books r).direct then scheduled_prices (run_numbered books r).quarter blocks else None) in
    subst P is (by (run_numbered books run).direct)
  where
    by : (t : Bool) → (if t then kept_for (run_numbered books run).quarter kept else None) ≡ (if t then scheduled_prices (run_numbered books run).quarter blocks else None)
    by true = sym (keeps.same run (omega (arith, is)) last)
    by false = refl

-- and they are prices of its zones
also-priced : (books : Books) (blocks : List Block) (kept : Option Scheduled) → IfSome kept (IsScheduled books blocks) → (direct : Bool) (quarter : ℕ)
    → IfSome (if direct then kept_for quarter kept else None) (λ ps. (length ps ≡ length books.zones.zones) × All IsCapped ps)
also-priced books blocks kept priced false quarter = tt
also-priced books blocks None priced true quarter = tt
also-priced books blocks (Some s) priced true quarter = by (s.quarter == quarter)
  where
    by : (t : Bool) → IfSome (if t then Some s.prices.cents else None) (λ ps. (length ps ≡ length books.zones.zones) × All IsCapped ps)
    by true = (priced.one_each, priced.capped)
    by false = tt

mapped : {A : Type 0} (f : A → List Cents) (P : List Cents → Type 0) (r : Option A) (o : Option (List Cents)) → option_map f r ≡ o → IfSome o P → IfSome r (λ a. P (f a))
mapped f P None o e h = tt
mapped f P (Some a) None e h = cc e
mapped f P (Some a) (Some ps) e h = let same : f a ≡ ps = cc e in rw same h

pub given-prices : (books : Books) (blocks : List Block) (kept : Option Scheduled) → KeepsPrices books blocks kept → {A : Type 0} (f : A → List Cents) (r : Option A) (direct : Bool) (quarter : ℕ)
    → option_map f r ≡ (if direct then kept_for quarter kept else None) → IfSome r (λ a. (length (f a) ≡ length books.zones.zones) × All IsCapped (f a))
given-prices books blocks kept keeps f r direct quarter e =
    mapped f (λ ps. (length ps ≡ length books.zones.zones) × All IsCapped ps) r _ e (also-priced books blocks kept keeps.priced direct quarter)
