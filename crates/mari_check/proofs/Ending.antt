-- Verdicts on a publication, by what was found.
use Rattle.std.proofs.Common.{◌≡◌, ◌∙◌, ◌≤◌, ◌<◌, ◌+◌, ℕ, Bool, true, false, List, Option, Some, None, get_or, length, map, take, refl, sym, ap, subst, arith, inl, inr}
use Rattle.std.specs.Prelude.{◌↔◌, slice_get}
use Rattle.std.specs.List.{range_with_len}
use Rattle.std.proofs.lemmas.List.{length-take-le}
use Rattle.std.proofs.lemmas.Option.{slice_get-get_or}
use Rattle.mari_lines.specs.declared.line.AmountLine.{AmountLine}
use Rattle.mari_publish.specs.declared.publication.Block.{Block}
use Rattle.mari_publish.specs.declared.publication.Block.TheVariants as block
use Rattle.mari_lines.specs.declared.line.Heading.{Heading}
use Rattle.mari_lines.specs.declared.line.MoneyLine.{MoneyLine}
use Rattle.mari_publish.specs.declared.publication.Publication.{Publication}
use Rattle.mari_remain.specs.Accepted.{IsAccepted}
use Rattle.mari_remain.specs.declared.books.Books.{Books}
use Rattle.mari_settle.specs.declared.ledger.Ledger.{Ledger}
use Rattle.mari_check.specs.declared.day.DayCheck.{DayCheck}
use Rattle.mari_check.specs.declared.fault.Fault.{Fault}
use Rattle.mari_progress.specs.After.{run_after}
use Rattle.mari_progress.specs.Progress.{AreTotals}
use Rattle.mari_check.specs.declared.verdict.Verdict.{Verdict}
use Rattle.mari_check.specs.declared.verdict.Verdict.TheVariants.{Invalid, Valid}
use Rattle.mari_check.specs.Checked.{FindsHead, IsChecked}
use Rattle.mari_check.specs.Day.{AreFree, IsFirstFault, IsFreeIn, IsHeadFault, IsNextHeading, IsValidPublication}
use Rattle.mari_check.specs.Faults.{FindsNumber, IsLeast}
use Rattle.mari_check.specs.Verdicts.{BlockStates, HeadStates, IsVerdict}
use Rattle.mari_progress.specs.Money.{amount_line, money_lines_of}
use Rattle.mari_progress.specs.Reported.{heading_of}
use Rattle.mari_progress.specs.Totals.{HasHead, HasTotals, operator_totals, provider_totals}
use Rattle.mari_publish.proofs.Counts.{both_kinds}
use Rattle.mari_progress.proofs.Sums.{provider-lines}
use Rattle.mari_check.proofs.Zips.{refuted}

-- ---- an unpublished block

module _ (books : Books) (ok : IsAccepted books) (blocks : List Block) (kept : DayCheck) (checked : IsChecked books blocks kept) where
  pub few-runs : kept.progress.published + kept.unpublished ≤ 1000
  few-runs = omega (arith, checked.progress.published, checked.unpublished, both_kinds blocks, checked.progress.few, ok.runs.few)

  pub few-others : kept.unpublished ≤ 1000
  few-others = omega (arith, few-runs)

  module _ (run : ℕ) (is : run ≡ kept.progress.published + kept.unpublished + 1) where
    pub after-is : run ≡ run_after blocks
    after-is = omega (arith, is, checked.progress.published, checked.unpublished, both_kinds blocks)

    -- there is no run after the last
    pub none-next : (reported : Heading) → length books.runs.runs < run → (false ≡ true) ↔ IsNextHeading books blocks reported
    none-next reported past = refuted (IsNextHeading books blocks reported) false refl (λ h. absurd (omega (arith, h.there, past, after-is)))

    pub next-is : (reported : Heading) (b : Bool) → run ≤ length books.runs.runs → (b ≡ true) ↔ (reported ≡ heading_of books run) → (b ≡ true) ↔ IsNextHeading books blocks reported
    next-is reported b there test = (
      λ t. record { there = omega (arith, there, after-is); is_of = test.0 t ∙ ap (heading_of books) after-is },
      λ h. test.1 (h.is_of ∙ sym (ap (heading_of books) after-is)),
    )

module _ (books : Books) (budget : ℕ) (blocks : List Block) (reported : Heading) (count : ℕ) where
  abbrev free : Fault → Type 0
  free any = IsFreeIn books budget blocks (block.Unpublished reported count) any

-- ---- the totals

module _ (books : Books) (blocks : List Block) (ledger : Ledger) (sums : AreTotals books blocks ledger) where
  module _ (p : Publication) (same : p.blocks ≡ blocks) (operators : List MoneyLine) (providers : List AmountLine) (first : p.operators ≡ operators) (second : p.providers ≡ providers)
      (lines : Bool) (test : (lines ≡ true) ↔ (operators ≡ money_lines_of books.zones.operators ledger.operators)) where
    pub other-operators : lines ≡ false → (false ≡ true) ↔ HasTotals books p
    other-operators wrong = refuted (HasTotals books p) lines wrong (λ h. test.1 (sym first ∙ h.operators ∙ ap (operator_totals books) same ∙ sym sums.operators))

    pub both-totals : lines ≡ true → (amounts : Bool) → (amounts ≡ true) ↔ (providers ≡ map (amount_line books.bids.providers ledger.providers) (range_with_len 0 (length books.bids.providers)))
        → (amounts ≡ true) ↔ HasTotals books p
    both-totals right amounts also = (
      λ t. record {
        operators = first ∙ test.0 right ∙ sums.operators ∙ sym (ap (operator_totals books) same);
        providers = second ∙ also.0 t ∙ provider-lines books blocks ledger sums ∙ sym (ap (provider_totals books) same);
      },
      λ h. also.1 (sym second ∙ h.providers ∙ ap (provider_totals books) same ∙ sym (provider-lines books blocks ledger sums)),
    )

-- ---- the whole

-- the first line
pub head-fault : (books : Books) (p : Publication) (found : Option ℕ) (number : ℕ) → found ≡ Some number → FindsHead (HasHead books p.date p.quarters) found → IsHeadFault books p 0 number
head-fault books p None number e f = cc e
head-fault books p (Some n) number e f = let same : n ≡ number = cc e in record { differs = f.0; run_is = refl; number_is = sym same ∙ f.1 }

pub head-reported : (books : Books) (p : Publication) (found : Option Verdict) (v : Verdict) → found ≡ Some v → HeadStates books p found → IsVerdict books p v
head-reported books p None v e h = cc e
head-reported books p (Some (Valid published unpublished)) v e h = absurd h
head-reported books p (Some (Invalid run number)) v e h = let same : Invalid run number ≡ v = cc e in subst (IsVerdict books p) same (inl h)

pub head-clear : (books : Books) (p : Publication) (found : Option Verdict) → found ≡ None → HeadStates books p found → HasHead books p.date p.quarters
head-clear books p None e h = h
head-clear books p (Some v) e h = absurd (cc e)

module _ (books : Books) (p : Publication) (head : HasHead books p.date p.quarters) (kept : DayCheck) (budget : p.budget ≡ kept.budget) where
  free-of : (blocks : List Block) → AreFree books kept.budget blocks → AreFree books p.budget blocks
  free-of blocks h = let P : ℕ → Type 0 = λ n. AreFree books n blocks in subst P (sym budget) h

  -- a block has a fault
  pub block-fault : (blocks : List Block) → p.blocks ≡ blocks → (i : ℕ) (x : Block) → i < length blocks → x ≡ get_or blocks i x → IsChecked books (take i blocks) kept → (run number : ℕ)
      → run ≡ run_after (take i blocks) → FindsNumber (IsFreeIn books kept.budget (take i blocks) x) (Some number) → IsFirstFault books p run number
  block-fault blocks same i x l at checked run number is found =
      let there : slice_get blocks i ≡ Some x = slice_get-get_or blocks i x l ∙ ap Some (sym at) in
      let F : ℕ → Type 0 = λ n. IsLeast (IsFreeIn books n (take i blocks) x) found.0 in
      let L : List Block → Type 0 = λ bs. IsLeast (IsFreeIn books p.budget (take i bs) x) found.0 in
      let A : List Block → Type 0 = λ bs. AreFree books p.budget (take i bs) in
      inr (inl (record {
        head = head;
        place = i;
        block = x;
        there = ap (λ bs. slice_get bs i) same ∙ there;
        before = subst A (sym same) (free-of (take i blocks) checked.free);
        least = found.0;
        is_least = subst L (sym same) (subst F (sym budget) found.1);
        run_is = omega (arith, is, length-take-le i blocks (omega (arith, l)));
        number_is = found.2;
      }))

  pub block-reported : (blocks : List Block) → p.blocks ≡ blocks → (i : ℕ) (x : Block) → i < length blocks → x ≡ get_or blocks i x → IsChecked books (take i blocks) kept
      → (found : Option Verdict) → BlockStates books kept.budget (take i blocks) x found → (v : Verdict) → found ≡ Some v → IsVerdict books p v
  block-reported blocks same i x l at checked None states v e = cc e
  block-reported blocks same i x l at checked (Some (Valid published unpublished)) states v e = absurd states
  block-reported blocks same i x l at checked (Some (Invalid run number)) states v e =
      let is : Invalid run number ≡ v = cc e in
      subst (IsVerdict books p) is (block-fault blocks same i x l at checked run number states.0 states.1)

  module _ (checked : IsChecked books p.blocks kept) where
    pub is-missing : (run number : ℕ) → kept.progress.published + kept.unpublished < length books.runs.runs
        → run ≡ kept.progress.published + kept.unpublished + 1 → number ≡ 1 → IsFirstFault books p run number
    is-missing run number less is e =
        inr (inr (inl (record {
          head = head;
          blocks = free-of p.blocks checked.free;
          missing = omega (arith, less, checked.progress.published, checked.unpublished, both_kinds p.blocks);
          run_is = omega (arith, is, checked.progress.published, checked.unpublished, both_kinds p.blocks);
          number_is = e;
        })))

    module _ (runs : ℕ) (all : runs ≡ length books.runs.runs) (full : runs ≤ kept.progress.published + kept.unpublished) where
      every : length p.blocks ≡ length books.runs.runs
      every = omega (arith, all, full, checked.progress.few, checked.progress.published, checked.unpublished, both_kinds p.blocks)

      pub other-totals : (number : ℕ) → (HasTotals books p → ⊥) → number ≡ 12 → IsFirstFault books p runs number
      other-totals number differ e = inr (inr (inr (record { head = head; blocks = free-of p.blocks checked.free; every = every; differ = differ; run_is = all; number_is = e })))

      pub is-valid : HasTotals books p → IsValidPublication books p
      is-valid totals = record { head = head; blocks = free-of p.blocks checked.free; every = every; totals = totals }
