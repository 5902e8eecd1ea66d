-- What the check of a day keeps, with one block more.
use Rattle.std.proofs.Common.{◌≡◌, ◌∙◌, ◌≤◌, ◌<◌, ◌+◌, ℕ, List, [], ◌∷◌, ◌++◌, Option, length, arith, refl, sym, ap, subst}
use Rattle.std.proofs.lemmas.List.{length-map, map-append}
use Rattle.mari_units.specs.declared.numbers.Cents.{Cents}
use Rattle.mari_publish.specs.declared.publication.Block.{Block}
use Rattle.mari_publish.specs.declared.publication.Block.TheVariants as block
use Rattle.mari_publish.specs.Lines.{published_in}
use Rattle.mari_remain.specs.Accepted.{IsAccepted}
use Rattle.mari_remain.specs.declared.books.Books.{Books}
use Rattle.mari_remain.specs.declared.market.RunMarket.{RunMarket}
use Rattle.mari_progress.specs.declared.progress.SettledRun.{SettledRun}
use Rattle.mari_progress.specs.After.{also_after, market_after, run_after}
use Rattle.mari_progress.specs.Progress.{IsProgress}
use Rattle.mari_progress.specs.Runs.{IsNextRun, IsSoundRun}
use Rattle.mari_progress.proofs.Lists.{each-more}
use Rattle.mari_check.specs.declared.fault.Fault.{Fault}
use Rattle.mari_check.specs.declared.fault.Fault.TheVariants as fault
use Rattle.mari_check.specs.Faults.{IsLeast, fault_number}
use Rattle.mari_reach_text.specs.Claims.{first_among, one_if_first}
use Rattle.mari_reach_text.proofs.Accepted.{at_most_one}
use Rattle.mari_reach_text.specs.declared.named.NamedBlock.{NamedBlock}
use Rattle.mari_reach_check.specs.declared.day.ReachDayCheck.{ReachDayCheck}
use Rattle.mari_reach_check.specs.declared.day.Tested.{Tested}
use Rattle.mari_reach_check.specs.declared.day.Tested.TheVariants.{Sound}
use Rattle.mari_reach_check.specs.Day.{AreReachFree, IsReachChecked, IsReachFreeIn, all_printed, printed}
use Rattle.mari_reach_check.specs.Faults.{IsReachFreeOf}
use Rattle.mari_reach_check.specs.Tested.{TestsReach}

-- each block is published
all_published : (blocks : List NamedBlock) → published_in (all_printed blocks) ≡ length blocks
all_published [] = refl
all_published (b ∷ bs) = ap (λ n. n + 1) (all_published bs) ∙ omega arith

-- and counted once
pub first_more : (blocks : List NamedBlock) (b : NamedBlock) → first_among (blocks ++ b ∷ []) ≡ first_among blocks + one_if_first b.claim
first_more [] b = omega arith
first_more (x ∷ xs) b = omega (arith, first_more xs b)

pub first_few : (blocks : List NamedBlock) → first_among blocks ≤ length blocks
first_few [] = omega arith
first_few (b ∷ bs) = omega (arith, at_most_one b.claim, first_few bs)

printed_more : (blocks : List NamedBlock) (b : NamedBlock) → all_printed (blocks ++ b ∷ []) ≡ all_printed blocks ++ block.Published b.block ∷ []
printed_more blocks b = map-append printed blocks (b ∷ [])

module _ (books : Books) (ok : IsAccepted books) (blocks : List NamedBlock) (kept : ReachDayCheck) (checked : IsReachChecked books blocks kept) where
  pub as_many : kept.progress.published ≡ length blocks
  as_many = checked.progress.published ∙ all_published blocks

  pub few_blocks : length blocks ≤ length books.runs.runs
  few_blocks = omega (arith, checked.progress.few, length-map blocks printed)

  pub few_runs : kept.progress.published ≤ 1000
  few_runs = omega (arith, as_many, few_blocks, ok.runs.few)

  pub after_is : (run : ℕ) → run ≡ kept.progress.published + 1 → run ≡ run_after (all_printed blocks)
  after_is run is = omega (arith, is, as_many, length-map blocks printed)

-- a block whose run isn't there
pub past_last : (books : Books) (budget : ℕ) (blocks : List NamedBlock) (b : NamedBlock) → length books.runs.runs < run_after (all_printed blocks)
    → IsLeast (IsReachFreeIn books budget blocks b) fault.Heading
past_last books budget blocks b past = record { there = λ h. omega (arith, h.0, past); none_lower = λ other less. absurd (below other less) }
  where
    below : (other : Fault) → fault_number other < 1 → ⊥
    below fault.Heading l = omega (arith, l)
    below fault.Lines l = omega (arith, l)
    below fault.Infeasible l = omega (arith, l)
    below fault.Welfare l = omega (arith, l)
    below fault.Inconsistent l = omega (arith, l)
    below fault.Interval l = omega (arith, l)
    below fault.Price l = omega (arith, l)
    below fault.Area l = omega (arith, l)
    below fault.Tree l = omega (arith, l)
    below fault.Leaf l = omega (arith, l)
    below fault.Ledger l = omega (arith, l)
    below fault.Totals l = omega (arith, l)

module _ (books : Books) (budget : ℕ) (blocks : List NamedBlock) (run : ℕ) (is : run ≡ run_after (all_printed blocks)) (last : run ≤ length books.runs.runs)
    (made : RunMarket) (e : made ≡ market_after books (all_printed blocks)) (also : Option (List Cents)) (f : also ≡ also_after books (all_printed blocks)) (b : NamedBlock) where
  free-after : (any : Fault) → IsReachFreeOf books run made also budget b any → IsReachFreeIn books budget blocks b any
  free-after any h =
      let P = all_printed blocks in
      let R : ℕ → Type 0 = λ r. IsReachFreeOf books r made also budget b any in
      let M : RunMarket → Type 0 = λ m. IsReachFreeOf books (run_after P) m also budget b any in
      let A : Option (List Cents) → Type 0 = λ a. IsReachFreeOf books (run_after P) (market_after books P) a budget b any in
      (omega (arith, is, last), subst A f (subst M e (subst R is h)))

  after-free : (any : Fault) → IsReachFreeIn books budget blocks b any → IsReachFreeOf books run made also budget b any
  after-free any h =
      let P = all_printed blocks in
      let R : ℕ → Type 0 = λ r. IsReachFreeOf books r made also budget b any in
      let M : RunMarket → Type 0 = λ m. IsReachFreeOf books (run_after P) m also budget b any in
      let A : Option (List Cents) → Type 0 = λ a. IsReachFreeOf books (run_after P) (market_after books P) a budget b any in
      subst R (sym is) (subst M (sym e) (subst A (sym f) h.1))

  pub least-after : (least : Fault) → IsLeast (IsReachFreeOf books run made also budget b) least → IsLeast (IsReachFreeIn books budget blocks b) least
  least-after least l = record { there = λ h. l.there (after-free least h); none_lower = λ other less. free-after other (l.none_lower other less) }

  pub all-after : ((any : Fault) → IsReachFreeOf books run made also budget b any) → (any : Fault) → IsReachFreeIn books budget blocks b any
  all-after h any = free-after any (h any)

module _ (books : Books) (budget : ℕ) (blocks : List NamedBlock) (b : NamedBlock) where
  pub sound-run : ((any : Fault) → IsReachFreeIn books budget blocks b any) → IsSoundRun books (all_printed blocks) b.block
  sound-run free = record {
    heading = (free fault.Heading).1;
    names = (free fault.Lines).1;
    feasible = (free fault.Infeasible).1;
    consistent = (free fault.Inconsistent).1;
    ledger = (free fault.Ledger).1;
  }

  pub tested-as : (t u : Tested) → t ≡ u → TestsReach books budget blocks b t → TestsReach books budget blocks b u
  tested-as t u e h = subst (TestsReach books budget blocks b) e h

  pub next-run : (settled : SettledRun) → TestsReach books budget blocks b (Sound settled) → IsNextRun books (all_printed blocks) b.block settled
  next-run settled sound = record { sound = sound-run sound.0; adds = sound.1 }

-- a block without a fault is added to what a day keeps
pub one_more : (books : Books) (blocks : List NamedBlock) (kept : ReachDayCheck) → IsReachChecked books blocks kept → (b : NamedBlock) → ((any : Fault) → IsReachFreeIn books kept.budget blocks b any)
    → (after : ReachDayCheck) → IsProgress books (all_printed blocks ++ block.Published b.block ∷ []) after.progress → after.budget ≡ kept.budget → after.first ≡ kept.first + one_if_first b.claim
    → IsReachChecked books (blocks ++ b ∷ []) after
one_more books blocks kept checked b free after progress same counted =
    let F : List NamedBlock → NamedBlock → Type 0 = λ before x. (any : Fault) → IsReachFreeIn books kept.budget before x any in
    let P : ℕ → Type 0 = λ n. AreReachFree books n (blocks ++ b ∷ []) in
    let Q : List Block → Type 0 = λ bs. IsProgress books bs after.progress in
    record {
      free = subst P (sym same) (each-more F blocks b checked.free free);
      progress = subst Q (sym (printed_more blocks b)) progress;
      counted = omega (arith, counted, checked.counted, first_more blocks b);
    }
