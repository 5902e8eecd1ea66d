-- The parts of a publication, one after the other, and what they settle.
use Rattle.std.proofs.Common.{◌≡◌, ◌∙◌, ℕ, true, false, List, [], ◌∷◌, ◌++◌, map, length, take, get_or, Option, Some, None, refl, sym, ap, subst, arith, append_assoc, length-append}
use Rattle.std.specs.Prelude.{is_some, Result as Res, Ok, Err, IfOk, ⊤}
use Rattle.std.proofs.Math.Seq.{take-append_seam}
use Rattle.std.proofs.lemmas.List.{append-nil, map_push}
use Rattle.mari_publish.specs.declared.held.Held.{Held}
use Rattle.mari_publish.specs.declared.held.Held.TheVariants as held
use Rattle.mari_lines.specs.declared.line.AmountLine.{AmountLine}
use Rattle.mari_publish.specs.declared.publication.Block.{Block}
use Rattle.mari_lines.specs.declared.line.MoneyLine.{MoneyLine}
use Rattle.mari_publish.specs.declared.publication.Part.{Part}
use Rattle.mari_publish.specs.declared.publication.Part.TheVariants as part
use Rattle.mari_publish.specs.declared.publication.Publication.{Publication}
use Rattle.mari_publish.specs.Pieces.{HasPart, parts_of, parts_so_far}
use Rattle.mari_remain.specs.declared.books.Books.{Books}
use Rattle.mari_progress.specs.Totals.{HasHead}
use Rattle.mari_check.specs.declared.day.DayCheck.{DayCheck}
use Rattle.mari_check.specs.declared.verdict.Verdict.{Verdict}
use Rattle.mari_check.specs.Checked.{IsChecked}
use Rattle.mari_check.specs.Streams.{Comes, IsFaultlessSoFar, IsVerdictSoFar, IsOpen, SettlesVerdict}
use Rattle.mari_check.specs.Verdicts.{BlockStates, HeadStates, IsVerdict}
use Rattle.mari_check.proofs.Ending.{block-reported, head-clear, head-reported}

-- ---- which part comes

-- what stands after the head and these blocks among the parts of a publication
abbrev After : (own : List Block) → List MoneyLine → List AmountLine → List Block → Part → Type 0
After own os ps blocks (part.Head date quarters budget) = ⊥
After own os ps blocks (part.Block b) = (others : List Block) × (own ≡ blocks ++ b ∷ others)
After own os ps blocks (part.Totals o p) = (own ≡ blocks) × (os ≡ o) × (ps ≡ p)

one-more : (own : List Block) (os : List MoneyLine) (ps : List AmountLine) (bs : List Block) (a b : Block) (x : Part) → a ≡ b → After own os ps bs x → After (a ∷ own) os ps (b ∷ bs) x
one-more own os ps bs a b (part.Head date quarters budget) e h = h
one-more own os ps bs a b (part.Block c) e h = (h.0, ap (λ z. z ∷ own) e ∙ ap (λ (zs : List Block). b ∷ zs) h.1)
one-more own os ps bs a b (part.Totals o p) e h = (ap (λ z. z ∷ own) e ∙ ap (λ (zs : List Block). b ∷ zs) h.0, h.1, h.2)

after : (own : List Block) (os : List MoneyLine) (ps : List AmountLine) (bs : List Block) (x : Part) (more : List Part)
    → map part.Block own ++ part.Totals os ps ∷ [] ≡ map part.Block bs ++ x ∷ more → After own os ps bs x
after [] os ps [] (part.Head date quarters budget) more e = absurd cc
after [] os ps [] (part.Block b) more e = absurd cc
after [] os ps [] (part.Totals o p) more e = (refl, cc, cc)
after [] os ps (b ∷ bs) x more e = absurd cc
after (a ∷ own) os ps [] (part.Head date quarters budget) more e = absurd cc
after (a ∷ own) os ps [] (part.Block b) more e = let same : a ≡ b = cc in (own, ap (λ z. z ∷ own) same)
after (a ∷ own) os ps [] (part.Totals o p) more e = absurd cc
after (a ∷ own) os ps (b ∷ bs) x more e =
    let same : a ≡ b = cc in
    let rest : map part.Block own ++ part.Totals os ps ∷ [] ≡ map part.Block bs ++ x ∷ more = cc in
    one-more own os ps bs a b x same (after own os ps bs x more rest)

-- after the parts so far a publication has some that follow
rest-of : (p : Publication) (h : Held) → (rest : List Part) × (parts_of p ≡ parts_so_far p h ++ rest)
rest-of p held.Start = (parts_of p, refl)
rest-of p held.Done = ([], sym (append-nil (parts_of p)))
rest-of p _ = (part.Totals p.operators p.providers ∷ [], refl)

pub comes : (text : List ℕ) (parts : List Part) (x : Part) → HasPart text parts x → Comes parts x
comes text parts x h =
    let p = h.gives.so_far in
    let rest = rest-of p h.kept.held in
    record { whole = p; more = rest.0; are = rest.1 ∙ ap (λ (ps : List Part). ps ++ rest.0) (sym h.gives.given) ∙ append_assoc parts (x ∷ []) rest.0 }

-- ---- what is settled stays so

pub settled-stays : (books : Books) (parts : List Part) (x : Part) (day : DayCheck) (found : Option Verdict) → is_some found ≡ true → IsVerdictSoFar books parts day found
    → IsVerdictSoFar books (parts ++ x ∷ []) day found
settled-stays books parts x day None e h = absurd cc
settled-stays books parts x day (Some v) e h = λ p more same. h p (x ∷ more) (same ∙ append_assoc parts (x ∷ []) more)

-- and where nothing is, it is open
pub still-open : (books : Books) (parts : List Part) (day : DayCheck) (found : Option Verdict) → is_some found ≡ false → IsVerdictSoFar books parts day found → IsOpen books parts day
still-open books parts day None e h = h
still-open books parts day (Some v) e h = absurd cc

-- ---- what a part settles

-- what the first line of a publication is, and what stands after it
record Starts (p : Publication) (date : List ℕ) (quarters budget : ℕ) (rest : List Part) : Type 0 where
  pub date_is : p.date ≡ date
  pub quarters_is : p.quarters ≡ quarters
  pub budget_is : p.budget ≡ budget
  pub rest_is : map part.Block p.blocks ++ part.Totals p.operators p.providers ∷ [] ≡ rest

starts : (p : Publication) (date : List ℕ) (quarters budget : ℕ) (rest : List Part) → parts_of p ≡ part.Head date quarters budget ∷ rest → Starts p date quarters budget rest
starts p date quarters budget rest e =
    let same : part.Head p.date p.quarters p.budget ∷ (map part.Block p.blocks ++ part.Totals p.operators p.providers ∷ []) ≡ part.Head date quarters budget ∷ rest = e in
    record { date_is = cc; quarters_is = cc; budget_is = cc; rest_is = cc }

-- a head comes first
pub first : (books : Books) (parts : List Part) (day : DayCheck) (date : List ℕ) (quarters budget : ℕ) → IsOpen books parts day → Comes parts (part.Head date quarters budget) → parts ≡ []
first books [] day date quarters budget o c = refl
first books (part.Head d q b ∷ rest) day date quarters budget o c =
    let p = c.whole in
    let s = starts p d q b (rest ++ part.Head date quarters budget ∷ c.more) c.are in
    absurd (after p.blocks p.operators p.providers o.blocks (part.Head date quarters budget) c.more (s.rest_is ∙ ap (λ (ps : List Part). ps ++ part.Head date quarters budget ∷ c.more) o.are))
first books _ day date quarters budget o c = absurd o

pub first-checked : (books : Books) (parts : List Part) (day : DayCheck) (x : Part) (date : List ℕ) (quarters budget : ℕ)
    → x ≡ part.Head date quarters budget → IsOpen books parts day → Comes parts x → IsChecked books [] day
first-checked books parts day x date quarters budget is o c = subst (λ (ps : List Part). IsOpen books ps day) (first books parts day date quarters budget o (subst (Comes parts) is c)) o

module _ (books : Books) (parts : List Part) (old : DayCheck) (fine : IsOpen books parts old) (x : Part) (c : Comes parts x) (date : List ℕ) (quarters budget : ℕ)
    (is : x ≡ part.Head date quarters budget)
    (found : Option Verdict) (states : (p : Publication) → p.date ≡ date → p.quarters ≡ quarters → HeadStates books p found) where
  alone : parts ++ x ∷ [] ≡ part.Head date quarters budget ∷ []
  alone = ap (λ (ps : List Part). ps ++ x ∷ []) (first books parts old date quarters budget fine (subst (Comes parts) is c)) ∙ ap (λ (y : Part). y ∷ []) is

  head-settles : (v : Verdict) → found ≡ Some v → SettlesVerdict books (parts ++ x ∷ []) v
  head-settles v e = λ p more same.
      let s = starts p date quarters budget more (same ∙ ap (λ (ps : List Part). ps ++ more) alone) in
      head-reported books p found v e (states p s.date_is s.quarters_is)

  head-opens : (new : DayCheck) → found ≡ None → IsChecked books [] new → new.budget ≡ budget → IsOpen books (parts ++ x ∷ []) new
  head-opens new e checked b =
      let p = c.whole in
      let s = starts p date quarters budget c.more (c.are ∙ sym (append_assoc parts (x ∷ []) c.more) ∙ ap (λ (ps : List Part). ps ++ c.more) alone) in
      let right = head-clear books p found e (states p s.date_is s.quarters_is) in
      let now : IsFaultlessSoFar books date quarters budget [] new = record {
        head = record { date_is = sym s.date_is ∙ right.date_is; quarters_is = sym s.quarters_is ∙ right.quarters_is };
        budget_is = sym b;
        blocks = [];
        are = refl;
        checked = checked;
      } in
      subst (λ (ps : List Part). IsOpen books ps new) (sym alone) now

  pub head-found : (new : DayCheck) → IsChecked books [] new → new.budget ≡ budget → IsVerdictSoFar books (parts ++ x ∷ []) new found
  head-found new checked b = by found refl
    where
      by : (f : Option Verdict) → found ≡ f → IsVerdictSoFar books (parts ++ x ∷ []) new f
      by None e = head-opens new e checked b
      by (Some v) e = head-settles v e

-- a block and the totals come after a head
abbrev pub IsLater : Part → Type 0
IsLater (part.Head date quarters budget) = ⊥
IsLater (part.Block b) = ⊤
IsLater (part.Totals os ps) = ⊤

pub later-block : (x : Part) (b : Block) → x ≡ part.Block b → IsLater x
later-block (part.Head date quarters budget) b e = absurd cc
later-block (part.Block c) b e = tt
later-block (part.Totals os ps) b e = tt

pub later-totals : (x : Part) (os : List MoneyLine) (ps : List AmountLine) → x ≡ part.Totals os ps → IsLater x
later-totals (part.Head date quarters budget) os ps e = absurd cc
later-totals (part.Block c) os ps e = tt
later-totals (part.Totals o p) os ps e = tt

pub record Way (books : Books) (parts : List Part) (day : DayCheck) : Type 0 where
  pub date : List ℕ
  pub quarters : ℕ
  pub budget : ℕ
  pub rest : List Part
  pub is : parts ≡ part.Head date quarters budget ∷ rest
  pub clear : IsFaultlessSoFar books date quarters budget rest day

no-first : (p : Publication) (x : Part) (more : List Part) → IsLater x → parts_of p ≡ x ∷ more → ⊥
no-first p (part.Head date quarters budget) more l e = l
no-first p (part.Block b) more l e =
    let same : part.Head p.date p.quarters p.budget ∷ (map part.Block p.blocks ++ part.Totals p.operators p.providers ∷ []) ≡ part.Block b ∷ more = e in
    absurd cc
no-first p (part.Totals os ps) more l e =
    let same : part.Head p.date p.quarters p.budget ∷ (map part.Block p.blocks ++ part.Totals p.operators p.providers ∷ []) ≡ part.Totals os ps ∷ more = e in
    absurd cc

pub way : (books : Books) (parts : List Part) (day : DayCheck) (x : Part) → IsLater x → IsOpen books parts day → Comes parts x → Way books parts day
way books [] day x l o c = absurd (no-first c.whole x c.more l c.are)
way books (part.Head d q b ∷ rest) day x l o c = record { date = d; quarters = q; budget = b; rest = rest; is = refl; clear = o }
way books _ day x l o c = absurd o

-- where a part stands in a publication that begins with it and those before it
record Placed (books : Books) (day : DayCheck) (blocks : List Block) (x : Part) (p : Publication) : Type 0 where
  pub head : HasHead books p.date p.quarters
  pub budget : p.budget ≡ day.budget
  pub stands : After p.blocks p.operators p.providers blocks x

module _ (books : Books) (parts : List Part) (old : DayCheck) (x : Part) (w : Way books parts old) where
  placed : (p : Publication) (more : List Part) → parts_of p ≡ (parts ++ x ∷ []) ++ more → Placed books old w.clear.blocks x p
  placed p more e =
      let s = starts p w.date w.quarters w.budget (w.rest ++ x ∷ more) (e ∙ append_assoc parts (x ∷ []) more ∙ ap (λ (ps : List Part). ps ++ x ∷ more) w.is) in
      record {
        head = record { date_is = s.date_is ∙ w.clear.head.date_is; quarters_is = s.quarters_is ∙ w.clear.head.quarters_is };
        budget = s.budget_is ∙ w.clear.budget_is;
        stands = after p.blocks p.operators p.providers w.clear.blocks x more (s.rest_is ∙ ap (λ (ps : List Part). ps ++ x ∷ more) w.clear.are);
      }

  block-settles : (b : Block) → x ≡ part.Block b → (v : Verdict) → BlockStates books old.budget w.clear.blocks b (Some v) → SettlesVerdict books (parts ++ x ∷ []) v
  block-settles b is v states = λ p more e.
      let spot = placed p more e in
      let own : After p.blocks p.operators p.providers w.clear.blocks (part.Block b) = subst (After p.blocks p.operators p.providers w.clear.blocks) is spot.stands in
      let before = w.clear.blocks in
      let all = before ++ b ∷ own.0 in
      let front : take (length before) all ≡ before = take-append_seam before (b ∷ own.0) in
      let longer = length-append before (b ∷ own.0) in
      let C : List Block → Type 0 = λ bs. IsChecked books bs old in
      let T : List Block → Type 0 = λ bs. BlockStates books old.budget bs b (Some v) in
      block-reported books p spot.head old spot.budget all own.1 (length before) b (omega (arith, longer)) (here before b own.0)
      (subst C (sym front) w.clear.checked) (Some v) (subst T (sym front) states) v refl
    where
      here : (before : List Block) (b : Block) (others : List Block) → b ≡ get_or (before ++ b ∷ others) (length before) b
      here [] b others = refl
      here (a ∷ before) b others = here before b others

  block-opens : (b : Block) → x ≡ part.Block b → (new : DayCheck) → IsChecked books (w.clear.blocks ++ b ∷ []) new → new.budget ≡ old.budget → IsOpen books (parts ++ x ∷ []) new
  block-opens b is new checked budget =
      let longer : parts ++ x ∷ [] ≡ part.Head w.date w.quarters w.budget ∷ (w.rest ++ x ∷ []) = ap (λ (ps : List Part). ps ++ x ∷ []) w.is in
      let now : IsFaultlessSoFar books w.date w.quarters w.budget (w.rest ++ x ∷ []) new = record {
        head = w.clear.head;
        budget_is = w.clear.budget_is ∙ sym budget;
        blocks = w.clear.blocks ++ b ∷ [];
        are = ap (λ (ps : List Part). ps ++ x ∷ []) w.clear.are ∙ ap (λ (y : Part). map part.Block w.clear.blocks ++ y ∷ []) is ∙ sym (map_push part.Block w.clear.blocks b);
        checked = checked;
      } in
      subst (λ (ps : List Part). IsOpen books ps new) (sym longer) now

  pub block-found : {E : Type 0} (b : Block) → x ≡ part.Block b → (new : DayCheck) (r : Res (Option Verdict) E) → IfOk r (BlockStates books old.budget w.clear.blocks b)
      → (r ≡ Ok None → IsChecked books (w.clear.blocks ++ b ∷ []) new) → new.budget ≡ old.budget → IfOk r (IsVerdictSoFar books (parts ++ x ∷ []) new)
  block-found b is new (Ok None) states stands budget = block-opens b is new (stands refl) budget
  block-found b is new (Ok (Some v)) states stands budget = block-settles b is v states
  block-found b is new (Err why) states stands budget = tt

  pub totals-settle : (os : List MoneyLine) (ps : List AmountLine) → x ≡ part.Totals os ps → (v : Verdict)
      → ((p : Publication) → HasHead books p.date p.quarters → p.budget ≡ old.budget → IsChecked books p.blocks old → p.operators ≡ os → p.providers ≡ ps → IsVerdict books p v)
      → SettlesVerdict books (parts ++ x ∷ []) v
  totals-settle os ps is v ends = λ p more e.
      let spot = placed p more e in
      let own : After p.blocks p.operators p.providers w.clear.blocks (part.Totals os ps) = subst (After p.blocks p.operators p.providers w.clear.blocks) is spot.stands in
      let C : List Block → Type 0 = λ bs. IsChecked books bs old in
      ends p spot.head spot.budget (subst C (sym own.0) w.clear.checked) own.1 own.2

-- ---- the totals settle it

no-totals-yet : (own bs : List Block) (os : List MoneyLine) (ps : List AmountLine) → map part.Block own ++ part.Totals os ps ∷ [] ≡ map part.Block bs → ⊥
no-totals-yet [] [] os ps e = absurd cc
no-totals-yet [] (b ∷ bs) os ps e = absurd cc
no-totals-yet (a ∷ own) [] os ps e = absurd cc
no-totals-yet (a ∷ own) (b ∷ bs) os ps e = let rest : map part.Block own ++ part.Totals os ps ∷ [] ≡ map part.Block bs = cc in no-totals-yet own bs os ps rest

pub all-found : (books : Books) (p : Publication) (parts : List Part) (day : DayCheck) (found : Option Verdict) → parts ≡ parts_of p → IsVerdictSoFar books parts day found → is_some found ≡ true
all-found books p parts day (Some v) e f = refl
all-found books p parts day None e f =
    let o : IsFaultlessSoFar books p.date p.quarters p.budget (map part.Block p.blocks ++ part.Totals p.operators p.providers ∷ []) day = subst (λ (ps : List Part). IsOpen books ps day) e f in
    absurd (no-totals-yet p.blocks o.blocks p.operators p.providers o.are)
