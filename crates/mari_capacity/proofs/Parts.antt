-- The parts of a publication that were taken, one after the other.
use Rattle.std.proofs.Common.{◌≡◌, ◌∙◌, ℕ, List, [], ◌∷◌, ◌++◌, map, Option, Some, None, refl, sym, ap, subst, append_assoc, arith}
use Rattle.std.specs.Prelude.{IfSome, Result as Res, Ok, Err, IfOk, IfErr, OnOk, IsSome}
use Rattle.std.proofs.lemmas.List.{append-nil}
use Rattle.mari_lines.specs.declared.line.AmountLine.{AmountLine}
use Rattle.mari_lines.specs.declared.line.MoneyLine.{MoneyLine}
use Rattle.mari_publish.specs.Pieces.{parts_of}
use Rattle.mari_publish.specs.declared.publication.Block.{Block}
use Rattle.mari_publish.specs.declared.publication.Part.{Part}
use Rattle.mari_publish.specs.declared.publication.Part.TheVariants as part
use Rattle.mari_publish.specs.declared.publication.Publication.{Publication}
use Rattle.mari_units.specs.declared.faults.Memory.{Memory as NoRoom}
use Rattle.mari_remain.specs.declared.books.Books.{Books}
use Rattle.mari_progress.specs.After.{run_after}
use Rattle.mari_progress.specs.Totals.{HasHead}
use Rattle.mari_check.specs.declared.day.DayCheck.{DayCheck}
use Rattle.mari_check.specs.declared.fault.Fault.{Fault}
use Rattle.mari_check.specs.declared.verdict.Verdict.{Verdict}
use Rattle.mari_check.specs.Checked.{FindsHead, IsChecked}
use Rattle.mari_check.specs.Day.{IsFreeIn}
use Rattle.mari_check.specs.Faults.{FindsNumber}
use Rattle.mari_check.specs.Streams.{Comes, IsVerdictSoFar, IsOpen}
use Rattle.mari_check.specs.Verdicts.{IsVerdict}
use Rattle.mari_check.proofs.Streaming.{IsLater, Way, block-found, first, head-found, totals-settle, way}
use Rattle.mari_capacity.specs.declared.ending.ValueStop.{ValueStop}
use Rattle.mari_capacity.specs.declared.stream.ValuesSoFar.{ValuesSoFar}
use Rattle.mari_capacity.specs.Ends.{AreChecked, HasFault, blocks_in, budget_in}
use Rattle.mari_capacity.specs.Streams.{StatesChecked}
use Rattle.mari_capacity.specs.Taking.{HasTaken, HaveEnded, IsSameButDay, IsStopAt, StopsAtPart}
use Rattle.mari_capacity.specs.Values.{IsValueText}
use Rattle.mari_capacity.proofs.FirstFaults.{blocks_in-append, blocks_in-blocks}

-- ---- after the totals there is no part

last-part : (own : List Block) (os : List MoneyLine) (ps : List AmountLine) (front : List Part) (o : List MoneyLine) (a : List AmountLine) (x : Part) (more : List Part)
    → map part.Block own ++ part.Totals os ps ∷ [] ≡ front ++ part.Totals o a ∷ x ∷ more → ⊥
last-part [] os ps [] o a x more e = let rest : [] ≡ x ∷ more = cc in absurd cc
last-part [] os ps (p ∷ []) o a x more e = absurd cc
last-part [] os ps (p ∷ q ∷ front) o a x more e = absurd cc
last-part (b ∷ own) os ps [] o a x more e = absurd cc
last-part (b ∷ own) os ps (p ∷ front) o a x more e =
    let rest : map part.Block own ++ part.Totals os ps ∷ [] ≡ front ++ part.Totals o a ∷ x ∷ more = cc in
    last-part own os ps front o a x more rest

not-first : (p : Publication) (front : List Part) (o : List MoneyLine) (a : List AmountLine) (x : Part) (more : List Part) → parts_of p ≡ front ++ part.Totals o a ∷ x ∷ more → ⊥
not-first p [] o a x more e =
    let same : part.Head p.date p.quarters p.budget ∷ (map part.Block p.blocks ++ part.Totals p.operators p.providers ∷ []) ≡ part.Totals o a ∷ x ∷ more = e in
    absurd cc
not-first p (q ∷ front) o a x more e = grind (arith, last-part)

none-after : (parts : List Part) (x : Part) → HaveEnded parts → Comes parts x → ⊥
none-after parts x (front, o, a, is) c =
    not-first c.whole front o a x c.more (c.are ∙ ap (λ (ps : List Part). ps ++ x ∷ c.more) is ∙ append_assoc front (part.Totals o a ∷ []) (x ∷ c.more))

-- ---- parts that were checked

-- as long as a part comes no verdict is settled
pub not-settled : (books : Books) (more : ℕ) (parts : List Part) (s : ValuesSoFar) (x : Part) → HasTaken books more parts s → Comes parts x → s.found ≡ None
not-settled books more parts s x t c = by s.found t.ended
  where
    by : (found : Option Verdict) → IfSome found (λ v. HaveEnded parts) → found ≡ None
    by None e = refl
    by (Some v) e = absurd (none-after parts x e c)

pub still-open : (books : Books) (more : ℕ) (parts : List Part) (s : ValuesSoFar) (x : Part) → HasTaken books more parts s → Comes parts x → IsOpen books parts s.day
still-open books more parts s x t c = subst (λ (f : Option Verdict). IsVerdictSoFar books parts s.day f) (not-settled books more parts s x t c) t.found

pub open-blocks : (books : Books) (parts : List Part) (day : DayCheck) → IsOpen books parts day → IsChecked books (blocks_in parts) day
open-blocks books parts day o = grind (arith, blocks_in-blocks)

pub open-checked : (books : Books) (parts : List Part) (day : DayCheck) → IsOpen books parts day → AreChecked books parts
open-checked books parts day o = grind (arith, open-blocks)

-- the blocks are those that were checked
pub way-blocks : (books : Books) (parts : List Part) (day : DayCheck) (w : Way books parts day) → blocks_in parts ≡ w.clear.blocks
way-blocks books parts day w = ap blocks_in w.is ∙ ap blocks_in w.clear.are ∙ blocks_in-blocks w.clear.blocks

way-budget : (books : Books) (parts : List Part) (day : DayCheck) (w : Way books parts day) → budget_in parts ≡ day.budget
way-budget books parts day w = ap budget_in w.is ∙ w.clear.budget_is

with-totals : (books : Books) (parts : List Part) (day : DayCheck) (w : Way books parts day) (os : List MoneyLine) (ps : List AmountLine)
    → AreChecked books parts → AreChecked books (parts ++ part.Totals os ps ∷ [])
with-totals books parts day w os ps checked = grind (arith, blocks_in-append, append-nil)

-- ---- one part more

-- parts that settle nothing were taken
pub open-taken : (books : Books) (more : ℕ) (parts : List Part) (s : ValuesSoFar) → IsOpen books parts s.day
    → s.found ≡ None → IsValueText books more (blocks_in parts) s.lines.items → s.more ≡ more
    → HasTaken books more parts s
open-taken books more parts s fine none lines same = grind (arith, open-checked)

module _ (books : Books) (more : ℕ) (parts : List Part) (old new : ValuesSoFar) (x : Part) (t : HasTaken books more parts old) (c : Comes parts x) where
  -- the head is that of the books
  pub head-taken : (date : List ℕ) (quarters budget : ℕ) → x ≡ part.Head date quarters budget
      → HasHead books date quarters → IsChecked books [] new.day → new.day.budget ≡ budget → new.found ≡ old.found
      → new.lines ≡ old.lines → new.more ≡ old.more
      → HasTaken books more (parts ++ x ∷ []) new
  head-taken date quarters budget is head checked stated found lines same =
      let fine = still-open books more parts old x t c in
      let states : (p : Publication) → p.date ≡ date → p.quarters ≡ quarters → HasHead books p.date p.quarters = λ p d q. record { date_is = d ∙ head.date_is; quarters_is = q ∙ head.quarters_is } in
      let opens : IsOpen books (parts ++ x ∷ []) new.day = head-found books parts old.day fine x c date quarters budget is None states new.day checked stated in
      let blocks : blocks_in (parts ++ x ∷ []) ≡ blocks_in parts = blocks_in-append parts (x ∷ []) ∙ ap (λ (y : Part). blocks_in parts ++ blocks_in (y ∷ [])) is ∙ append-nil (blocks_in parts) in
      let own : IsValueText books more (blocks_in (parts ++ x ∷ [])) old.lines.items = subst (λ (bs : List Block). IsValueText books more bs old.lines.items) (sym blocks) t.states.lines in
      open-taken books more (parts ++ x ∷ []) new opens (found ∙ not-settled books more parts old x t c) (rw lines own) (same ∙ t.more_is)

  -- a block has no fault and is reported of
  pub block-taken : (b : Block) → x ≡ part.Block b → IsLater x
      → ((any : Fault) → IsFreeIn books old.day.budget (blocks_in parts) b any)
      → IsChecked books (blocks_in parts ++ b ∷ []) new.day → new.day.budget ≡ old.day.budget
      → new.found ≡ old.found → IsValueText books more (blocks_in parts ++ b ∷ []) new.lines.items → new.more ≡ old.more → HasTaken books more (parts ++ x ∷ []) new
  block-taken b is later free checked budget found lines same =
      let fine = still-open books more parts old x t c in
      let w = way books parts old.day x later fine c in
      let own = way-blocks books parts old.day w in
      let F : List Block → Type 0 = λ bs. (any : Fault) → IsFreeIn books old.day.budget bs b any in
      let C : List Block → Type 0 = λ bs. IsChecked books (bs ++ b ∷ []) new.day in
      let none : Res (Option Verdict) ℕ = Ok None in
      let opens : IsOpen books (parts ++ x ∷ []) new.day = block-found books parts old.day x w b is new.day none (subst F own free) (λ e. subst C own checked) budget in
      let blocks : blocks_in (parts ++ x ∷ []) ≡ blocks_in parts ++ b ∷ [] = blocks_in-append parts (x ∷ []) ∙ ap (λ (y : Part). blocks_in parts ++ blocks_in (y ∷ [])) is in
      open-taken books more (parts ++ x ∷ []) new opens (found ∙ not-settled books more parts old x t c)
      (subst (λ (bs : List Block). IsValueText books more bs new.lines.items) (sym blocks) lines) (same ∙ t.more_is)

  -- the totals settle a verdict
  pub totals-taken : (os : List MoneyLine) (ps : List AmountLine) → x ≡ part.Totals os ps → IsLater x → (v : Verdict)
      → ((p : Publication) → HasHead books p.date p.quarters → p.budget ≡ old.day.budget → IsChecked books p.blocks old.day → p.operators ≡ os → p.providers ≡ ps → IsVerdict books p v)
      → new.found ≡ Some v → new.lines ≡ old.lines → new.more ≡ old.more → HasTaken books more (parts ++ x ∷ []) new
  totals-taken os ps is later v ends found lines same =
      let fine = still-open books more parts old x t c in
      let w = way books parts old.day x later fine c in
      let settled : IsVerdictSoFar books (parts ++ x ∷ []) new.day (Some v) = totals-settle books parts old.day x w os ps is v ends in
      let blocks : blocks_in (parts ++ x ∷ []) ≡ blocks_in parts = blocks_in-append parts (x ∷ []) ∙ ap (λ (y : Part). blocks_in parts ++ blocks_in (y ∷ [])) is ∙ append-nil (blocks_in parts) in
      let own : IsValueText books more (blocks_in (parts ++ x ∷ [])) old.lines.items = subst (λ (bs : List Block). IsValueText books more bs old.lines.items) (sym blocks) t.states.lines in
      record {
        found = subst (λ (f : Option Verdict). IsVerdictSoFar books (parts ++ x ∷ []) new.day f) (sym found) settled;
        ended = subst (λ (f : Option Verdict). IfSome f (λ u. HaveEnded (parts ++ x ∷ []))) (sym found) (parts, os, ps, ap (λ (y : Part). parts ++ y ∷ []) is);
        states = record {
          checked = subst (λ (y : Part). AreChecked books (parts ++ y ∷ [])) (sym is) (with-totals books parts old.day w os ps t.states.checked);
          lines = rw lines own;
        };
        more_is = same ∙ t.more_is;
      }

  -- a block has a fault
  pub block-fault : (b : Block) → x ≡ part.Block b → IsLater x → (run number : ℕ) → run ≡ run_after (blocks_in parts)
      → FindsNumber (IsFreeIn books old.day.budget (blocks_in parts) b) (Some number)
      → HasFault books parts x run number
  block-fault b is later run number after finds =
      let w = way books parts old.day x later (still-open books more parts old x t c) c in
      let F : ℕ → Type 0 = λ n. FindsNumber (IsFreeIn books n (blocks_in parts) b) (Some number) in
      subst (λ (y : Part). HasFault books parts y run number) (sym is) (after, subst F (sym (way-budget books parts old.day w)) finds)

-- ---- what a part comes to

module _ (books : Books) (more : ℕ) (parts : List Part) (old new : ValuesSoFar) (x : Part) (t : HasTaken books more parts old) (c : Comes parts x) where
  module _ (date : List ℕ) (quarters budget : ℕ) (is : x ≡ part.Head date quarters budget) (stated : new.day.budget ≡ budget) (checked : IsChecked books [] new.day) (found : new.found ≡ old.found)
      (lines : new.lines ≡ old.lines) (same : new.more ≡ old.more) where
    pub head-goes-on : {T : Type 0} (number : Option ℕ) (r : Res T ValueStop) → FindsHead (HasHead books date quarters) number → IsStopAt 0 (Ok number) r
        → OnOk r (HasTaken books more (parts ++ x ∷ []) new)
    head-goes-on number r finds stop = grind (arith, head-taken)

    pub head-stops : {T : Type 0} (number : Option ℕ) (r : Res T ValueStop) → FindsHead (HasHead books date quarters) number → IsStopAt 0 (Ok number) r
        → IfErr r (StopsAtPart books more parts x new.lines.items)
    head-stops None (Ok done) finds stop = tt
    head-stops None (Err why) finds stop = absurd stop
    head-stops (Some n) (Ok done) finds stop = tt
    head-stops (Some n) (Err why) finds stop =
        let none : parts ≡ [] = first books parts old.day date quarters budget (still-open books more parts old x t c) (subst (Comes parts) is c) in
        let own : HasFault books parts (part.Head date quarters budget) 0 n = (none, finds.0, refl, finds.1) in
        let fault : HasFault books parts x 0 n = subst (λ (y : Part). HasFault books parts y 0 n) (sym is) own in
        let states : StatesChecked books more parts new.lines.items = rw lines t.states in
        subst (λ (w : ValueStop). StopsAtPart books more parts x new.lines.items w) (sym stop) (fault, states)

  module _ (b : Block) (is : x ≡ part.Block b) (later : IsLater x) (run : ℕ) (after : run ≡ run_after (blocks_in parts)) (same : IsSameButDay old new) where
    pub block-goes-on : {T : Type 0} (found : Res (Option ℕ) NoRoom) (r : Res T ValueStop)
        → IfOk found (FindsNumber (IsFreeIn books old.day.budget (blocks_in parts) b))
        → (found ≡ Ok None → IsChecked books (blocks_in parts ++ b ∷ []) new.day)
        → (found ≡ Ok None → IsValueText books more (blocks_in parts ++ b ∷ []) new.lines.items) → IsStopAt run found r → OnOk r (HasTaken books more (parts ++ x ∷ []) new)
    block-goes-on found r finds checked lines stop = grind (arith, block-taken)

    pub block-stops : {T : Type 0} (found : Res (Option ℕ) NoRoom) (r : Res T ValueStop)
        → IfOk found (FindsNumber (IsFreeIn books old.day.budget (blocks_in parts) b))
        → IfOk found (λ number. IsSome number → new.lines ≡ old.lines) → IsStopAt run found r
        → IfErr r (StopsAtPart books more parts x new.lines.items)
    block-stops (Ok None) (Ok done) finds kept stop = tt
    block-stops (Ok None) (Err why) finds kept stop = absurd stop
    block-stops (Ok (Some n)) (Ok done) finds kept stop = tt
    block-stops (Ok (Some n)) (Err why) finds kept stop =
        let fault = block-fault books more parts old new x t c b is later run n after finds in
        let lines : new.lines ≡ old.lines = kept refl in
        let states : StatesChecked books more parts new.lines.items = rw lines t.states in
        subst (λ (w : ValueStop). StopsAtPart books more parts x new.lines.items w) (sym stop) (fault, states)
    block-stops (Err e) (Ok done) finds kept stop = tt
    block-stops (Err e) (Err why) finds kept stop = subst (λ (w : ValueStop). StopsAtPart books more parts x new.lines.items w) (sym stop) tt
