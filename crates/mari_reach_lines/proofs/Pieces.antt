-- Lines of the first form in which a piece of a line of the second stands.
use Rattle.std.proofs.Common.{◌≡◌, ℕ, true, List, [], ◌∷◌, ◌++◌, drop, Result, Err, refl, sym, ap, subst, ◌∙◌, arith}
use lib.Chars.{codes}
use Rattle.std.specs.Fmt.{decimal}
use Rattle.std.proofs.lemmas.List.{append-nil}
use Rattle.std.proofs.lemmas.List.Elements.{All-nil}
use Rattle.mari_units.specs.Names.{IsName}
use Rattle.mari_units.specs.declared.numbers.Cents.{Cents}
use Rattle.mari_units.specs.declared.numbers.Quarters.{Quarters}
use Rattle.mari_market.specs.Price.{IsCapped}
use Rattle.mari_lines.specs.Ranges.{InRange, IsHeading}
use Rattle.mari_lines.specs.Reading.{Lacks, Reads}
use Rattle.mari_lines.specs.declared.fault.FormFault.{FormFault}
use Rattle.mari_lines.specs.declared.fault.FormFault.TheVariants as form_fault
use Rattle.mari_lines.specs.Spelling.{heading_fields, kind_text, money_text, price_text, published_text, spaced, spelling}
use Rattle.mari_lines.specs.declared.line.AmountLine.{AmountLine}
use Rattle.mari_lines.specs.declared.line.Heading.{Heading}
use Rattle.mari_lines.specs.declared.line.Line.{Line}
use Rattle.mari_lines.specs.declared.line.Line.TheVariants as line
use Rattle.mari_lines.proofs.Gathered.{cons_all, head_of}
use Rattle.mari_lines.proofs.LineWords.{small_price, words_of_line}
use Rattle.mari_lines.proofs.SameLine.{same_line}
use Rattle.mari_lines.proofs.Splits.{first_split, only_split, some_words}
use Rattle.mari_lines.proofs.Graphic.{graphic_cents, graphic_euros, lacks_space}
use Rattle.mari_reach_lines.specs.Ranges.{IsClaim, IsGap, ReachInRange}
use Rattle.mari_reach_lines.specs.Spelling.{claim_fields, reach_fields, reach_spelling, words_of}
use Rattle.mari_reach_lines.specs.declared.line.Claim.{Claim}
use Rattle.mari_reach_lines.specs.declared.line.Claim.TheVariants.{First, Within}
use Rattle.mari_reach_lines.specs.declared.line.ReachLine.{ReachLine}
use Rattle.mari_reach_lines.specs.declared.line.ReachLine.TheVariants as reach
use Rattle.mari_reach_lines.proofs.OwnWords.{is_branch, is_head, is_price, is_run}
use Rattle.mari_reach_lines.proofs.Words.{after_word, one_word, spaced_words}

-- a text is that of one line
pub the_line : (l m : Line) (text : List ℕ) → InRange l → spelling l ≡ text → InRange m × (spelling m ≡ text) → l ≡ m
the_line l m text r e p = same_line l m r p.0 (e ∙ sym p.1)

-- a price is the one field of a bound
pub bound_of : (p : Cents) (text : List ℕ) → IsCapped p → price_text p ≡ text → InRange (line.Bound (p ∷ [])) × (spelling (line.Bound (p ∷ [])) ≡ codes "bound " ++ text)
unfolding spelling
bound_of p text r e = (((omega arith, omega arith), cons_all IsCapped p [] r (All-nil IsCapped)), ap (λ (t : List ℕ). codes "bound " ++ t) (append-nil (price_text p) ∙ e))

pub bound_text : (p : Cents) (text : List ℕ) → InRange (line.Bound (p ∷ [])) → spelling (line.Bound (p ∷ [])) ≡ codes "bound " ++ text → IsCapped p × (price_text p ≡ text)
unfolding spelling
bound_text p text r e = (head_of IsCapped p [] r.1, sym (append-nil (price_text p)) ∙ ap (λ (t : List ℕ). drop 6 t) e)

-- a gap is the amount of a provider
abbrev pub paid : Quarters → AmountLine
paid gap = record { name = codes "x"; amount = gap }

pub provider_of : (gap : Quarters) (text : List ℕ) → IsGap gap → money_text gap ≡ text → InRange (line.Provider (paid gap)) × (spelling (line.Provider (paid gap)) ≡ codes "provider x " ++ text)
unfolding spelling
provider_of gap text r e = ((refl, r.0), ap (λ (t : List ℕ). codes "provider x " ++ t) (append-nil (money_text gap) ∙ e))

pub provider_text : (p : AmountLine) (text : List ℕ) → InRange (line.Provider p) → spelling (line.Provider p) ≡ codes "provider x " ++ text → money_text p.amount ≡ text
provider_text p text r e =
    let words : codes "provider" ∷ p.name ∷ money_text p.amount ∷ [] ≡ codes "provider" ∷ codes "x" ∷ words_of text =
    sym (words_of_line (line.Provider p) r) ∙ ap words_of e ∙ first_split 32 (codes "provider") (120 ∷ 32 ∷ text) refl
    ∙ ap (λ (ws : List (List ℕ)). codes "provider" ∷ ws) (first_split 32 (codes "x") text refl) in
    let last : words_of text ≡ money_text p.amount ∷ [] = cc in
    one_word (money_text p.amount) text last

pub amount_is : (p : AmountLine) (gap : Quarters) → line.Provider p ≡ line.Provider (paid gap) → p.amount ≡ gap
amount_is p gap e = let same : p ≡ paid gap = cc in ap (λ (q : AmountLine). q.amount) same

-- a heading is that of a published run
pub run_of : (h : Heading) (run quarter kind : List ℕ) → heading_fields h ≡ run ∷ quarter ∷ kind ∷ []
    → spelling (line.Run h) ≡ codes "run" ++ spaced (run ∷ quarter ∷ kind ∷ published_text true ∷ [])
unfolding spelling
run_of h run quarter kind e = ap (λ (ws : List (List ℕ)). codes "run" ++ spaced (ws ++ published_text true ∷ [])) e

pub heading_text : (h : Heading) (run quarter kind : List ℕ) → Lacks 32 run → Lacks 32 quarter → Lacks 32 kind → IsHeading h
    → spelling (line.Run h) ≡ codes "run" ++ spaced (run ∷ quarter ∷ kind ∷ published_text true ∷ []) → heading_fields h ≡ run ∷ quarter ∷ kind ∷ []
heading_text h run quarter kind a b d r e =
    let end : List ℕ = published_text true ++ [] in
    let words : codes "run" ∷ (heading_fields h ++ published_text true ∷ []) ≡ codes "run" ∷ run ∷ quarter ∷ kind ∷ published_text true ∷ [] =
    sym (words_of_line (line.Run h) r) ∙ ap words_of e ∙ first_split 32 (codes "run") (run ++ 32 ∷ (quarter ++ 32 ∷ (kind ++ 32 ∷ end))) refl
    ∙ ap (λ (ws : List (List ℕ)). codes "run" ∷ ws) (first_split 32 run (quarter ++ 32 ∷ (kind ++ 32 ∷ end)) a)
    ∙ ap (λ (ws : List (List ℕ)). codes "run" ∷ run ∷ ws) (first_split 32 quarter (kind ++ 32 ∷ end) b)
    ∙ ap (λ (ws : List (List ℕ)). codes "run" ∷ run ∷ quarter ∷ ws) (first_split 32 kind end d) in
    cc

-- the first line is that of the first form with another number
pub head_of_first : (date : List ℕ) (quarters budget : ℕ) (text : List ℕ) → spelling (line.Head date quarters budget) ≡ codes "mari 1 " ++ text
    → reach_spelling (reach.Head date quarters budget) ≡ codes "mari 2 " ++ text
unfolding spelling
head_of_first date quarters budget text e = ap (λ (t : List ℕ). codes "mari 2 " ++ drop 7 t) e

-- after the first word of a first line stand the number of the form and the fields of one of the first form
pub record FirstAfter (rest : List ℕ) : Type 0 where
  pub date : List ℕ
  pub quarters : ℕ
  pub budget : ℕ
  pub text : List ℕ
  pub after : rest ≡ 50 ∷ 32 ∷ text
  pub first : InRange (line.Head date quarters budget) × (spelling (line.Head date quarters budget) ≡ codes "mari 1 " ++ text)

first_after : (date : List ℕ) (quarters budget : ℕ) (rest : List ℕ)
    → ReachInRange (reach.Head date quarters budget) → reach_spelling (reach.Head date quarters budget) ≡ codes "mari " ++ rest → FirstAfter rest
unfolding spelling
first_after date quarters budget rest r e = record {
  date = date;
  quarters = quarters;
  budget = budget;
  text = date ++ 32 ∷ (decimal quarters ++ 32 ∷ (decimal budget ++ []));
  after = sym (ap (λ (t : List ℕ). drop 5 t) e);
  first = (r, refl);
}

pub head_part : (y : ReachLine) (rest : List ℕ) → ReachInRange y → reach_spelling y ≡ codes "mari " ++ rest → FirstAfter rest
head_part y rest r e =
    let is = is_head y r (after_word y (codes "mari") rest refl r e).0 in
    let x = is.0 in
    first_after x.0 x.1 x.2 rest (subst (λ (z : ReachLine). ReachInRange z) is.1 r) (sym (ap reach_spelling is.1) ∙ e)

pub same_rest : (rest fields : List ℕ) (p : FirstAfter rest) → rest ≡ 50 ∷ 32 ∷ fields
    → InRange (line.Head p.date p.quarters p.budget) × (spelling (line.Head p.date p.quarters p.budget) ≡ codes "mari 1 " ++ fields)
same_rest rest fields p e = let same : p.text ≡ fields = ap (λ (t : List ℕ). drop 2 t) (sym p.after ∙ e) in (p.first.0, p.first.1 ∙ ap (λ (t : List ℕ). codes "mari 1 " ++ t) same)

-- a name is the one word of a branch at a gate
pub branch_part : (y : ReachLine) (rest : List ℕ) → ReachInRange y → reach_spelling y ≡ codes "branch " ++ rest → (bid : List ℕ) × IsName bid × (bid ≡ rest)
branch_part y rest r e =
    let words = after_word y (codes "branch") rest refl r e in
    let is = is_branch y r words.0 in
    let only : words_of rest ≡ is.0 ∷ [] = sym words.1 ∙ ap reach_fields is.1 in
    (is.0, subst (λ (z : ReachLine). ReachInRange z) is.1 r, one_word is.0 rest only)

-- a zone and a price are the words of a branch at a price
pub price_part : (y : ReachLine) (rest : List ℕ) → ReachInRange y → reach_spelling y ≡ codes "price " ++ rest
    → (x : List ℕ × Cents) × IsName x.0 × IsCapped x.1 × (words_of rest ≡ x.0 ∷ price_text x.1 ∷ [])
price_part y rest r e =
    let words = after_word y (codes "price") rest refl r e in
    let is = is_price y r words.0 in
    let range : ReachInRange (reach.Price is.0.0 is.0.1) = subst (λ (z : ReachLine). ReachInRange z) is.1 r in
    (is.0, range.0, range.1, sym words.1 ∙ ap reach_fields is.1)

-- a heading's fields, and what is said of the activation, are the words of a run's line
pub run_part : (y : ReachLine) (rest : List ℕ) → ReachInRange y → reach_spelling y ≡ codes "run " ++ rest
    → (x : Heading × Claim) × IsHeading x.0 × IsClaim x.1 × (words_of rest ≡ heading_fields x.0 ++ claim_fields x.1)
run_part y rest r e =
    let words = after_word y (codes "run") rest refl r e in
    let is = is_run y r words.0 in
    let range : ReachInRange (reach.Run is.0.0 is.0.1) = subst (λ (z : ReachLine). ReachInRange z) is.1 r in
    (is.0, range.0, range.1, sym words.1 ∙ ap reach_fields is.1)

-- a line whose words these are
pub of_words : (word rest : List ℕ) (ws : List (List ℕ)) → words_of rest ≡ ws → word ++ spaced ws ≡ word ++ 32 ∷ rest
of_words word rest ws e = ap (λ (vs : List (List ℕ)). word ++ spaced vs) (sym e) ∙ ap (λ (t : List ℕ). word ++ t) (spaced_words rest)

-- what no whole has leaves it unread
pub unread : {Y T : Type 0} (S : Y → Type 0) (g : Y → T) (u : T) (e : FormFault) (result : Result Y FormFault)
    → (x : FormFault) × (result ≡ Err x) × (x ≡ e) → e ≡ form_fault.Formless → ((y : Y) → S y → g y ≡ u → ⊥) → Reads S g u result
unread S g u e result is f none = subst (λ r. Reads S g u r) (sym is.1) (subst (λ x. Reads S g u (Err x)) (sym (is.2 ∙ f)) none)

-- prices and gaps are single words
pub price_words : (p : Cents) → IsCapped p → words_of (price_text p) ≡ price_text p ∷ []
price_words p r = only_split 32 (price_text p) (lacks_space (price_text p) (graphic_cents p.0 (small_price p.0 r)))

pub gap_words : (gap : Quarters) → IsGap gap → words_of (money_text gap) ≡ money_text gap ∷ []
gap_words gap r = only_split 32 (money_text gap) (lacks_space (money_text gap) (graphic_euros gap.0 (omega (arith, r.0))))

-- a claim of several words is a gap
pub claim_word : (x : Claim) (word gap : List ℕ) → claim_fields x ≡ word ∷ words_of gap → (g : Quarters) × (x ≡ Within g) × (word ≡ codes "within") × (words_of gap ≡ money_text g ∷ [])
claim_word First word gap e = let none : words_of gap ≡ [] = cc in absurd (some_words 32 gap none)
claim_word (Within g) word gap e = (g, refl, cc, cc)

some_claim : (x : Claim) → claim_fields x ≡ [] → ⊥
some_claim x e = grind arith

-- a run's line has three words of its heading, and those of its claim
pub parts_of_run : (h : Heading) (x : Claim) (run quarter kind : List ℕ) (said : List (List ℕ)) → run ∷ quarter ∷ kind ∷ said ≡ heading_fields h ++ claim_fields x
    → (heading_fields h ≡ run ∷ quarter ∷ kind ∷ []) × (claim_fields x ≡ said)
parts_of_run h x run quarter kind said e =
    let a : decimal h.run ≡ run = cc in
    let b : decimal h.quarter ≡ quarter = cc in
    let d : kind_text h.direct ≡ kind = cc in
    let f : claim_fields x ≡ said = cc in
    (cc, f)

pub three_words : (y : ReachLine) (rest a b d : List ℕ) → ReachInRange y → reach_spelling y ≡ codes "run " ++ rest → words_of rest ≡ a ∷ b ∷ d ∷ [] → ⊥
three_words y rest a b d r e w = let p = run_part y rest r e in some_claim p.0.1 (parts_of_run p.0.0 p.0.1 a b d [] (sym w ∙ p.3)).1

pub two_words : (y : ReachLine) (rest a b : List ℕ) → ReachInRange y → reach_spelling y ≡ codes "run " ++ rest → words_of rest ≡ a ∷ b ∷ [] → ⊥
two_words y rest a b r e w = let p = run_part y rest r e in let no : a ∷ b ∷ [] ≡ heading_fields p.0.0 ++ claim_fields p.0.1 = sym w ∙ p.3 in absurd cc

pub one_alone : (y : ReachLine) (rest a : List ℕ) → ReachInRange y → reach_spelling y ≡ codes "run " ++ rest → words_of rest ≡ a ∷ [] → ⊥
one_alone y rest a r e w = let p = run_part y rest r e in let no : a ∷ [] ≡ heading_fields p.0.0 ++ claim_fields p.0.1 = sym w ∙ p.3 in absurd cc
