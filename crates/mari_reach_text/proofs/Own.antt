-- Lines that both forms have.
use Rattle.std.proofs.Common.{◌≡◌, ◌∙◌, ◌+◌, ℕ, true, List, [], ◌∷◌, ◌++◌, map, refl, ap}
use Rattle.std.specs.List.{AllByRecursion}
use Rattle.mari_lines.specs.Ranges.{InRange}
use Rattle.mari_lines.specs.declared.line.Line.{Line}
use Rattle.mari_lines.specs.declared.line.Line.TheVariants as line
use Rattle.mari_publish.specs.Lines.{demand_lines, market_lines}
use Rattle.mari_publish.specs.declared.publication.FullBlock.{FullBlock}
use Rattle.mari_reach_lines.specs.Ranges.{ReachInRange, is_shared}
use Rattle.mari_reach_lines.specs.declared.line.ReachLine.TheVariants as reach
use Rattle.mari_reach_text.specs.Order.{line_of, said}
use Rattle.mari_reach_text.specs.declared.kept.Said.TheVariants as says
use Rattle.mari_reach_text.proofs.Quiet.{IsQuiet, item_in, items_in}
use Rattle.mari_reach_text.proofs.Stepped.{is_quiet}

-- a line that stands for itself, with which no part is whole
pub record IsOwn (l : Line) : Type 0 where
  pub shared : is_shared l ≡ true
  pub same : line_of (reach.Shared l) ≡ l
  pub quiet : is_quiet l ≡ true
  pub nothing : said (reach.Shared l) ≡ says.Nothing

pub all_join : {X : Type 0} (P : X → Type 0) (xs ys : List X) → AllByRecursion P xs → AllByRecursion P ys → AllByRecursion P (xs ++ ys)
all_join P [] ys a b = b
all_join P (x ∷ xs) ys a b = (a.0, all_join P xs ys a.1 b)

pub each_own : {X : Type 0} (f : X → Line) → ((x : X) → IsOwn (f x)) → (xs : List X) → AllByRecursion IsOwn (map f xs)
each_own f o [] = tt
each_own f o (x ∷ xs) = (o x, each_own f o xs)

own : {l : Line} → is_shared l ≡ true → line_of (reach.Shared l) ≡ l → is_quiet l ≡ true → said (reach.Shared l) ≡ says.Nothing → IsOwn l
own a b c d = record { shared = a; same = b; quiet = c; nothing = d }

demands_own : (place : ℕ) (mws : List ℕ) → AllByRecursion IsOwn (demand_lines place mws)
demands_own place [] = tt
demands_own place (mw ∷ mws) = (own refl refl refl refl, demands_own (place + 1) mws)

pub market_own : (b : FullBlock) → AllByRecursion IsOwn (market_lines b)
market_own b =
    all_join IsOwn (map line.Zone b.zones) _ (each_own (λ x. line.Zone x) (λ x. own refl refl refl refl) b.zones)
    (all_join IsOwn (map line.Border b.borders) _ (each_own (λ x. line.Border x) (λ x. own refl refl refl refl) b.borders)
    (all_join IsOwn (map line.Bid b.bids) (demand_lines 1 b.demands) (each_own (λ x. line.Bid x) (λ x. own refl refl refl refl) b.bids) (demands_own 1 b.demands)))

pub parties_own : (b : FullBlock) → AllByRecursion IsOwn (map line.Operator b.operators ++ map line.Provider b.providers)
parties_own b =
    all_join IsOwn (map line.Operator b.operators) _ (each_own (λ x. line.Operator x) (λ x. own refl refl refl refl) b.operators)
    (each_own (λ x. line.Provider x) (λ x. own refl refl refl refl) b.providers)

pub totals_own : (os : List _) (ps : List _) → AllByRecursion IsOwn (map line.TotalOperator os ++ map line.TotalProvider ps)
totals_own os ps =
    all_join IsOwn (map line.TotalOperator os) _ (each_own (λ x. line.TotalOperator x) (λ x. own refl refl refl refl) os)
    (each_own (λ x. line.TotalProvider x) (λ x. own refl refl refl refl) ps)

-- they stand for themselves, are in range where these are, and say no item
pub own_lines : (ls : List Line) → AllByRecursion IsOwn ls → map line_of (map reach.Shared ls) ≡ ls
own_lines [] o = refl
own_lines (l ∷ ls) o = ap (λ x. x ∷ map line_of (map reach.Shared ls)) o.0.same ∙ ap (λ (xs : List Line). l ∷ xs) (own_lines ls o.1)

pub own_range : (ls : List Line) → AllByRecursion IsOwn ls → AllByRecursion InRange ls → AllByRecursion ReachInRange (map reach.Shared ls)
own_range [] o r = tt
own_range (l ∷ ls) o r = ((r.0, o.0.shared), own_range ls o.1 r.1)

pub own_quiet : (ls : List Line) → AllByRecursion IsOwn ls → AllByRecursion IsQuiet (map reach.Shared ls)
own_quiet [] o = tt
own_quiet (l ∷ ls) o = (ap is_quiet o.0.same ∙ o.0.quiet, own_quiet ls o.1)

pub own_items : (ls : List Line) → AllByRecursion IsOwn ls → items_in (map reach.Shared ls) ≡ []
own_items [] o = refl
own_items (l ∷ ls) o = ap (λ x. item_in x ++ items_in (map reach.Shared ls)) o.0.nothing ∙ own_items ls o.1
