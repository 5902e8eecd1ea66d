-- Verdicts on a day, by what was found.
use Rattle.std.proofs.Common.{◌≡◌, ◌∙◌, ◌<◌, ℕ, List, [], ◌∷◌, ◌++◌, Option, Some, None, length, take, refl, sym, ap, subst, arith, inl, inr}
use Rattle.std.specs.Prelude.{slice_get}
use Rattle.std.proofs.Math.Seq.{take-append_seam}
use Rattle.std.proofs.lemmas.List.{length-map}
use Rattle.mari_remain.specs.declared.books.Books.{Books}
use Rattle.mari_progress.specs.After.{run_after}
use Rattle.mari_progress.specs.Totals.{HasHead}
use Rattle.mari_lines.specs.declared.line.AmountLine.{AmountLine}
use Rattle.mari_lines.specs.declared.line.MoneyLine.{MoneyLine}
use Rattle.mari_check.specs.Faults.{Finds, FindsNumber, IsLeast}
use Rattle.mari_check.specs.declared.fault.Fault.{Fault}
use Rattle.mari_reach_text.specs.Claims.{first_among, within_among}
use Rattle.mari_reach_text.specs.Texts.{ReachPublication}
use Rattle.mari_reach_text.specs.declared.named.NamedBlock.{NamedBlock}
use Rattle.mari_reach_check.specs.Day.{AreReachFree, AreSums, IsReachChecked, IsReachFreeIn, all_printed, printed}
use Rattle.mari_reach_check.specs.Verdict.{BlockVerdict, HeadVerdict, IsReachFirstFault, IsReachValid, IsReachVerdict}
use Rattle.mari_reach_check.specs.declared.day.ReachDayCheck.{ReachDayCheck}
use Rattle.mari_reach_check.specs.declared.verdict.ReachVerdict.{ReachVerdict}
use Rattle.mari_reach_check.specs.declared.verdict.ReachVerdict.TheVariants.{Invalid, Valid}

-- ---- the first line

pub head-reported : (books : Books) (p : ReachPublication) (found : Option ReachVerdict) (v : ReachVerdict) → found ≡ Some v → HeadVerdict books p found → IsReachVerdict books p v
head-reported books p None v e h = cc e
head-reported books p (Some (Valid first within)) v e h = absurd h
head-reported books p (Some (Invalid run number)) v e h = let same : Invalid run number ≡ v = cc e in subst (IsReachVerdict books p) same (inl h)

pub head-clear : (books : Books) (p : ReachPublication) (found : Option ReachVerdict) → found ≡ None → HeadVerdict books p found → HasHead books p.date p.quarters
head-clear books p None e h = h
head-clear books p (Some v) e h = absurd (cc e)

-- ---- a block

module _ (books : Books) (budget : ℕ) (blocks : List NamedBlock) (b : NamedBlock) (found : Option Fault) where
  pub found-least : (least : Fault) → found ≡ Some least → Finds (IsReachFreeIn books budget blocks b) found → IsLeast (IsReachFreeIn books budget blocks b) least
  found-least least e h = subst (Finds (IsReachFreeIn books budget blocks b)) e h

  pub found-none : found ≡ None → Finds (IsReachFreeIn books budget blocks b) found → (any : Fault) → IsReachFreeIn books budget blocks b any
  found-none e h = subst (Finds (IsReachFreeIn books budget blocks b)) e h

there-at : (before : List NamedBlock) (b : NamedBlock) (others : List NamedBlock) → slice_get (before ++ b ∷ others) (length before) ≡ Some b
there-at [] b others = refl
there-at (a ∷ before) b others = there-at before b others

module _ (books : Books) (p : ReachPublication) (head : HasHead books p.date p.quarters) (kept : ReachDayCheck) (budget : p.budget ≡ kept.budget) where
  free-of : (blocks : List NamedBlock) → AreReachFree books kept.budget blocks → AreReachFree books p.budget blocks
  free-of blocks h = let P : ℕ → Type 0 = λ n. AreReachFree books n blocks in subst P (sym budget) h

  module _ (before : List NamedBlock) (b : NamedBlock) (others : List NamedBlock) (are : p.blocks ≡ before ++ b ∷ others) (checked : IsReachChecked books before kept) where
    block-fault : (run number : ℕ) → run ≡ run_after (all_printed before) → FindsNumber (IsReachFreeIn books kept.budget before b) (Some number) → IsReachFirstFault books p run number
    block-fault run number is found =
        let front : take (length before) p.blocks ≡ before = ap (take (length before)) are ∙ take-append_seam before (b ∷ others) in
        let A : List NamedBlock → Type 0 = λ bs. AreReachFree books p.budget bs in
        let F : ℕ → Type 0 = λ n. IsLeast (IsReachFreeIn books n before b) found.0 in
        let L : List NamedBlock → Type 0 = λ bs. IsLeast (IsReachFreeIn books p.budget bs b) found.0 in
        inr (inl (record {
          head = head;
          place = length before;
          block = b;
          there = ap (λ bs. slice_get bs (length before)) are ∙ there-at before b others;
          before = subst A (sym front) (free-of before checked.free);
          least = found.0;
          is_least = subst L (sym front) (subst F (sym budget) found.1);
          run_is = omega (arith, is, length-map before printed);
          number_is = found.2;
        }))

    pub block-reported : (v : ReachVerdict) → BlockVerdict books kept.budget before b (Some v) → IsReachVerdict books p v
    block-reported (Valid first within) states = absurd states
    block-reported (Invalid run number) states = block-fault run number states.0 states.1

  -- ---- the end

  module _ (checked : IsReachChecked books p.blocks kept) where
    pub is-missing : (run number : ℕ) → length p.blocks < length books.runs.runs → run ≡ run_after (all_printed p.blocks) → number ≡ 1 → IsReachFirstFault books p run number
    is-missing run number missing is e = inr (inr (inl (record { head = head; blocks = free-of p.blocks checked.free; missing = missing; run_is = is; number_is = e })))

    module _ (every : length p.blocks ≡ length books.runs.runs) where
      pub other-totals : (run number : ℕ) → (AreSums books p.blocks p.operators p.providers → ⊥) → run ≡ length books.runs.runs → number ≡ 12 → IsReachFirstFault books p run number
      other-totals run number differ is e = inr (inr (inr (record { head = head; blocks = free-of p.blocks checked.free; every = every; differ = differ; run_is = is; number_is = e })))

      pub is-valid : AreSums books p.blocks p.operators p.providers → IsReachValid books p
      is-valid totals = record { head = head; blocks = free-of p.blocks checked.free; every = every; totals = totals }

-- the totals that end a day are those of the day
module _ (books : Books) (blocks : List NamedBlock) (own operators : List MoneyLine) (mine providers : List AmountLine) (first : own ≡ operators) (second : mine ≡ providers) where
  pub own-sums : AreSums books blocks operators providers → AreSums books blocks own mine
  own-sums h = record { operators_are = first ∙ h.operators_are; providers_are = second ∙ h.providers_are }

  pub those-sums : AreSums books blocks own mine → AreSums books blocks operators providers
  those-sums h = record { operators_are = sym first ∙ h.operators_are; providers_are = sym second ∙ h.providers_are }

-- ---- a valid day has no fault

pub no-fault : (books : Books) (p : ReachPublication) (run number : ℕ) → IsReachValid books p → IsReachFirstFault books p run number → ⊥
no-fault books p run number valid (inl f) = f.differs valid.head
no-fault books p run number valid (inr (inl f)) = f.is_least.there (valid.blocks f.place f.block f.there f.least)
no-fault books p run number valid (inr (inr (inl f))) = omega (arith, f.missing, valid.every)
no-fault books p run number valid (inr (inr (inr f))) = f.differ valid.totals

pub one-verdict : (books : Books) (p : ReachPublication) (v : ReachVerdict) → IsReachValid books p → IsReachVerdict books p v → v ≡ Valid (first_among p.blocks) (within_among p.blocks)
one-verdict books p (Valid first within) valid h = ap (λ n. Valid n within) h.1 ∙ ap (λ n. Valid (first_among p.blocks) n) h.2
one-verdict books p (Invalid run number) valid h = absurd (no-fault books p run number valid h)
