-- A page that is read piece by piece: its text as far as it has come, and the fault that is reported of it.
use Rattle.std.proofs.Common.{◌≡◌, ◌≢◌, ◌∙◌, ◌+◌, ◌-◌, ◌<◌, ◌≤◌, ℕ, List, [], ◌∷◌, ◌++◌, length, take, drop, Option, Some, None, Result, Ok, Err, ◌⊎◌, inl, inr, refl, sym, ap, subst, arith, append_assoc, length-append}
use Rattle.std.specs.Option.{option_map}
use Rattle.std.proofs.Math.Seq.{take-append-add, take-append_seam}
use Rattle.std.proofs.lemmas.Bool.{cases_lt}
use Rattle.std.proofs.lemmas.List.{take-append-drop, nil_from_length}
use Rattle.mari_io.specs.Outside.{AppendsExactly, IsOverlong, IsPiece, OpenStates, most_given}
use Rattle.mari_publish.specs.Faults.{IsOutcome, IsText, IsTextFault}
use Rattle.mari_publish.specs.Paged.{IsLineFault, IsReportedFault, IsTooLong}
use Rattle.mari_publish.specs.Paged.IsReportedFault.{OfPage as of-page, OfGiven as of-given}
use Rattle.mari_publish.specs.Pieces.{ComeState, ComesFrom, HasPart, IsNext, NoFault, with_part}
use Rattle.mari_publish.specs.declared.fault.TextFault.{TextFault}
use Rattle.mari_publish.specs.declared.fault.TextFault.TheVariants as fault
use Rattle.mari_publish.specs.declared.publication.Part.{Part}
use Rattle.mari_publish.specs.declared.publication.Publication.{Publication}
use Rattle.mari_publish.proofs.MoreText.{line_stays, order_stays}
use Rattle.mari_publish.proofs.Outcomes.{line_answer, order_answer, text_answer, truncated_answer}

-- ---- faults

-- the fault of a line stays, whatever comes after it, and is the first of its text
fault-stays : (text more : List ℕ) (f : TextFault) → IsLineFault text f → IsLineFault (text ++ more) f
fault-stays text more f h = grind (arith, line_stays, order_stays)

fault-first : (text : List ℕ) (f : TextFault) → IsLineFault text f → IsTextFault text f
fault-first text f h = grind arith

pub no-line-fault : (text : List ℕ) (f : TextFault) → NoFault text → IsLineFault text f → ⊥
no-line-fault text f none h = grind arith

-- so what is reported of a page is the first fault of its text, also where it isn't given whole
pub reported-first : (page : List ℕ) (f : TextFault) → IsReportedFault page f → IsTextFault page f
reported-first page f (of-page short h) = h
reported-first page f (of-given long h) =
    let P : List ℕ → Type 0 = λ xs. IsTextFault xs f in
    subst P (take-append-drop most_given page) (fault-first (take most_given page ++ drop most_given page) f (fault-stays (take most_given page) (drop most_given page) f h))

-- a text that was given stands at the front of what is given of the page
pub given-front : (text more : List ℕ) → length text ≤ most_given → (front : List ℕ) × (text ++ front ≡ take most_given (text ++ more))
given-front text more few =
    let room : ℕ = most_given - length text in
    let all : length text + room ≡ most_given = omega (arith, few) in
    (take room more, sym (take-append-add text more room) ∙ ap (λ (n : ℕ). take n (text ++ more)) all)

-- the fault of a line is reported once the line is given
pub fault-reported : (text more : List ℕ) (f : TextFault) → length text ≤ most_given → IsLineFault text f → IsReportedFault (text ++ more) f
fault-reported text more f few h = elim (cases_lt most_given (length (text ++ more))) [
  | inl long ↦
      let front = given-front text more few in
      let P : List ℕ → Type 0 = λ xs. IsLineFault xs f in
      of-given long (subst P front.1 (fault-stays text front.0 f h))
  | inr short ↦ of-page (omega (arith, short)) (fault-first (text ++ more) f (fault-stays text more f h))
]

-- the answer of whoever reads the page whole is the same
pub same-fault : (page : List ℕ) (answer : Result Publication TextFault) (f : TextFault) → IsOutcome page answer → IsReportedFault page f → (answer ≡ Err f) ⊎ (answer ≡ Err fault.Memory)
same-fault page answer f o reported = first f (reported-first page f reported)
  where
    first : (f : TextFault) → IsTextFault page f → (answer ≡ Err f) ⊎ (answer ≡ Err fault.Memory)
    first f h = grind (arith, line_answer, order_answer, truncated_answer)

-- ---- a page has one fault at most

-- the text of a publication has none
pub no-fault-of-text : (page : List ℕ) (p : Publication) (f : TextFault) → IsText page p → IsTextFault page f → ⊥
no-fault-of-text page p (fault.BadLine n) is bad = elim (text_answer page (Err (fault.BadLine n)) bad p is) [ inl e ↦ cc | inr e ↦ cc ]
no-fault-of-text page p (fault.BadOrder n) is bad = elim (text_answer page (Err (fault.BadOrder n)) bad p is) [ inl e ↦ cc | inr e ↦ cc ]
no-fault-of-text page p (fault.Truncated n) is bad = elim (text_answer page (Err (fault.Truncated n)) bad p is) [ inl e ↦ cc | inr e ↦ cc ]
no-fault-of-text page p fault.Memory is bad = bad

outcome-of : (page : List ℕ) (f : TextFault) → IsTextFault page f → IsOutcome page (Err f)
outcome-of page f bad = grind arith

-- two answers that don't say that memory ran out are one
abbrev error : TextFault → Result Publication TextFault
error f = Err f

same-error : (page : List ℕ) (f g : TextFault) → IsTextFault page f → (error f ≡ error g) ⊎ (error f ≡ error fault.Memory) → f ≡ g
same-error page f g bad (inl e) = cc
same-error page f g bad (inr e) = let memory : f ≡ fault.Memory = cc in let P : TextFault → Type 0 = λ x. IsTextFault page x in absurd (subst P memory bad)

pub one-fault : (page : List ℕ) (f g : TextFault) → IsTextFault page f → IsTextFault page g → f ≡ g
one-fault page f (fault.BadLine n) bad other = same-error page f _ bad (line_answer page (Err f) (outcome-of page f bad) n other)
one-fault page f (fault.BadOrder n) bad other = same-error page f _ bad (order_answer page (Err f) (outcome-of page f bad) n other)
one-fault page f (fault.Truncated n) bad other = same-error page f _ bad (truncated_answer page (Err f) (outcome-of page f bad) n other)
one-fault page f fault.Memory bad other = absurd other

-- of a page that is too long none is reported
pub long-none : (page : List ℕ) (f : TextFault) → IsTooLong page → IsReportedFault page f → ⊥
long-none page f long x = grind (arith, no-line-fault)

-- ---- what the reader gives

pub next-part : (text : List ℕ) (parts : List Part) (o : Option Part) (x : Part) → o ≡ Some x → IsNext text parts (Ok o) → HasPart text parts x
next-part text parts o x e n = grind arith

pub next-stands : (come : ComeState) (text : List ℕ) (parts : List Part) (o : Option Part) (x : Part) → o ≡ Some x → ComesFrom come text (with_part parts o) → ComesFrom come text (parts ++ x ∷ [])
next-stands come text parts None x e s = absurd cc
next-stands come text parts (Some y) x e s = let same : y ≡ x = cc in subst (λ (z : Part). ComesFrom come text (parts ++ z ∷ [])) same s

-- ---- a page as far as it was read

-- a page that was opened
pub opened-page : {T : Type 0} (done : T) (page rest : Option (List ℕ)) → OpenStates page rest (Ok done) → (bytes : List ℕ) × (page ≡ Some bytes) × (rest ≡ Some bytes)
opened-page done page rest h = grind arith

-- what was appended to nothing is the piece
pub all-new : (old items piece : List ℕ) (n : ℕ) → old ≡ [] → piece ≡ items → AppendsExactly n old items → length piece ≡ n
all-new old items piece n none same a = let e = ap length none in let f = ap length same in omega (arith, e, f, a.more)

pub first-of : (left old items piece : List ℕ) (n : ℕ) → old ≡ [] → piece ≡ items → IsPiece left old items n → IsPiece left [] piece n
first-of left old items piece n none same h = subst (λ (xs : List ℕ). IsPiece left [] xs n) (sym same) (subst (λ (o : List ℕ). IsPiece left o items n) none h)

-- `given` bytes of the page have come, of which `Known` holds, and `rest` is left of it, where that is reported
pub record Under (Known : List ℕ → Type 0) (page rest : Option (List ℕ)) (given : ℕ) : Type 0 where
  pub text : List ℕ
  pub known : Known text
  pub given_is : given ≡ length text
  pub few : given ≤ most_given
  pub no_fault : NoFault text
  pub reported : (whole : List ℕ) → page ≡ Some whole → (left : List ℕ) × (rest ≡ Some left) × (text ++ left ≡ whole)

pub dropped : (rest now : Option (List ℕ)) (left : List ℕ) (n : ℕ) → rest ≡ Some left → now ≡ option_map (λ l. drop n l) rest → now ≡ Some (drop n left)
dropped rest now left n e f = f ∙ ap (option_map (λ l. drop n l)) e

module _ (Known : List ℕ → Type 0) (page rest : Option (List ℕ)) (given : ℕ) (u : Under Known page rest given) where
  -- `most_given` bytes were given: they are what has come
  pub overlong-front : IsOverlong rest given → (whole : List ℕ) → page ≡ Some whole → u.text ≡ take most_given whole
  overlong-front over whole is =
      let t = u.reported whole is in
      let o : (given ≡ most_given) × (t.0 ≢ []) = subst (λ r. IsOverlong r given) t.1 over in
      sym (take-append_seam u.text t.0) ∙ ap (λ (n : ℕ). take n (u.text ++ t.0)) (sym u.given_is ∙ o.0) ∙ ap (λ (xs : List ℕ). take most_given xs) t.2

  -- and some are left
  pub overlong-page : IsOverlong rest given → (whole : List ℕ) → page ≡ Some whole → IsTooLong whole
  overlong-page over whole is =
      let t = u.reported whole is in
      let o : (given ≡ most_given) × (t.0 ≢ []) = subst (λ r. IsOverlong r given) t.1 over in
      let many = length-append u.text t.0 in
      let some = not-empty t.0 o.1 in
      let sum : length (u.text ++ t.0) ≡ length whole = ap length t.2 in
      record { longer = omega (arith, many, some, sum, o.0, u.given_is); no_fault = subst NoFault (overlong-front over whole is) u.no_fault }
    where
      not-empty : (xs : List ℕ) → (xs ≢ []) → 0 < length xs
      not-empty [] h = absurd (h refl)
      not-empty (x ∷ xs) h = omega arith

  module _ (piece : List ℕ) (n : ℕ) (many : length piece ≡ n) (within : given + n ≤ most_given) (is_piece : (left : List ℕ) → rest ≡ Some left → IsPiece left [] piece n) where
    -- the text with the piece is as long as what is given then
    pub with-piece : length (u.text ++ piece) ≤ most_given
    with-piece = let longer = length-append u.text piece in omega (arith, longer, many, within, u.given_is)

    module _ (whole : List ℕ) (is : page ≡ Some whole) where
      -- what is left of the page begins with the piece
      abbrev pub left-of : (left : List ℕ) × (rest ≡ Some left) × (u.text ++ left ≡ whole)
      left-of = u.reported whole is

      pub and-rest : piece ++ drop n left-of.0 ≡ left-of.0
      and-rest = ap (λ (xs : List ℕ). xs ++ drop n left-of.0) (is_piece left-of.0 left-of.1).bytes ∙ take-append-drop n left-of.0

      pub all-of-it : (u.text ++ piece) ++ drop n left-of.0 ≡ whole
      all-of-it = append_assoc u.text piece (drop n left-of.0) ∙ ap (λ (xs : List ℕ). u.text ++ xs) and-rest ∙ left-of.2

      -- a line of what has come has a fault
      pub line-fault : (f : TextFault) → IsLineFault (u.text ++ piece) f → IsReportedFault whole f
      line-fault f h = let P : List ℕ → Type 0 = λ xs. IsReportedFault xs f in subst P all-of-it (fault-reported (u.text ++ piece) (drop n left-of.0) f with-piece h)

    -- there is more of it
    pub one-piece : (Now : List ℕ → Type 0) → Now (u.text ++ piece) → NoFault (u.text ++ piece)
        → (now : Option (List ℕ)) (more : ℕ) → now ≡ option_map (λ l. drop n l) rest → more ≡ given + n
        → Under Now page now more
    one-piece Now known none now more left_is given_is =
        let longer = length-append u.text piece in
        record {
          text = u.text ++ piece;
          known = known;
          given_is = omega (arith, longer, many, given_is, u.given_is);
          few = omega (arith, within, given_is);
          no_fault = none;
          reported = λ whole is. (drop n (left-of whole is).0, dropped rest now (left-of whole is).0 n (left-of whole is).1 left_is, all-of-it whole is);
        }

    -- that was its end
    pub last-piece : n ≡ 0 → (whole : List ℕ) → page ≡ Some whole → (length whole ≤ most_given) × (u.text ++ piece ≡ whole)
    last-piece none whole is =
        let t = left-of whole is in
        let empty : t.0 ≡ [] = (is_piece t.0 t.1).at_end.0 none in
        let own : piece ≡ [] = nil_from_length piece (many ∙ none) in
        let all : u.text ++ piece ≡ whole = ap (λ (xs : List ℕ). u.text ++ xs) (own ∙ sym empty) ∙ t.2 in
        let long = ap length all in
        let short = with-piece in
        (omega (arith, long, short), all)
