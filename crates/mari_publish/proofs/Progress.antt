-- The lines read so far, and what follows from the next one.
use Rattle.std.proofs.Common.{◌≡◌, ◌≤◌, ◌<◌, ℕ, ◌+◌, ◌^◌, true, List, [], ◌∷◌, ◌++◌, length, Option, Result, Ok, Err, refl, sym, ap, subst, ◌∙◌, append_assoc, length-append, arith}
use Rattle.std.specs.Prelude.{unwrap_or}
use Rattle.std.specs.List.{AllByRecursion}
use Rattle.std.proofs.lemmas.List.{append-nil}
use Rattle.std.proofs.lemmas.Grind.{flat_map-append}
use Rattle.mari_units.specs.Names.{is_name}
use Rattle.mari_publish.specs.declared.publication.Part.{Part}
use Rattle.mari_publish.specs.declared.publication.Publication.{Publication}
use Rattle.mari_lines.specs.declared.line.Line.{Line}
use Rattle.mari_publish.specs.declared.held.Held.{Held}
use Rattle.mari_publish.specs.declared.held.Held.TheVariants as held
use Rattle.mari_publish.specs.declared.held.Counts.{Counts}
use Rattle.mari_publish.specs.declared.held.Kept.{Kept}
use Rattle.mari_publish.specs.declared.fault.TextFault.{TextFault}
use Rattle.mari_publish.specs.declared.fault.TextFault.TheVariants as fault
use Rattle.mari_publish.specs.declared.reading.Gathered.{Gathered}
use Rattle.mari_publish.specs.declared.taking.TakeFault.{TakeFault}
use Rattle.mari_publish.specs.declared.taking.TakeFault.TheVariants as take_fault
use Rattle.mari_publish.specs.Gathering.{seen, text_fault, Took, Finishes}
use Rattle.mari_publish.specs.Lines.{lines_of}
use Rattle.mari_lines.specs.Ranges.{InRange}
use Rattle.mari_lines.specs.Reading.{Lacks}
use Rattle.mari_publish.specs.Order.{after, grown, HasRoom, nothing_read, nothing_kept}
use Rattle.mari_lines.specs.Spelling.{spelling, line_text}
use Rattle.mari_publish.specs.Texts.{text_of_lines}
use Rattle.mari_publish.specs.Faults.{IsText, BadLineAt, BadOrderAt, TruncatedAt, IsOutcome}
use Rattle.mari_publish.proofs.Counts.{both_kinds}
use Rattle.mari_publish.proofs.Fits.{lines_few}
use Rattle.mari_publish.proofs.Steps.{HeldFits}
use Rattle.mari_publish.proofs.Whole.{Stands, next, all_push}
use Rattle.mari_publish.proofs.Begun.{begins, whole_has_text}
use Rattle.mari_publish.proofs.Follows.{Came, came_more, not_begun, not_whole, stands_first}

pub record Progress (bytes rest : List ℕ) (number : ℕ) (p : Publication) (k : Kept) : Type 0 where
  pub before : List Line
  pub parts : bytes ≡ text_of_lines before ++ rest
  pub number_is : number ≡ length before + 1
  pub fit : AllByRecursion InRange before
  pub came : Came before p k
  pub stands : Stands before p k k.held

first_progress : (bytes : List ℕ) → Progress bytes bytes 1 nothing_read nothing_kept
first_progress bytes = record { before = []; parts = refl; number_is = refl; fit = tt; came = refl; stands = stands_first }

pub progress_of_nothing : (bytes : List ℕ) (p : Publication) (k : Kept) → p ≡ nothing_read → k ≡ nothing_kept → Progress bytes bytes 1 p k
progress_of_nothing bytes p k e f = subst (λ q. Progress bytes bytes 1 q k) (sym e) (subst (λ k. Progress bytes bytes 1 nothing_read k) (sym f) (first_progress bytes))

-- a line's number is small
pub number_fits : (bytes rest : List ℕ) (n : ℕ) (p : Publication) (k : Kept) → Progress bytes rest n p k → n < 2 ^ 31 + 1
number_fits bytes rest n p k a =
    let b = begins a.before p k k.held a.stands a.fit in
    let few = lines_few b.0 b.2 in
    let len : length (lines_of b.0) ≡ length a.before + length b.1 = ap length b.3 ∙ length-append a.before b.1 in
    let is = a.number_is in
    omega (arith, few, len, is)

pub counts_kept : (ls : List Line) (p : Publication) (k : Kept) → Stands ls p k k.held → k.counts.published + k.counts.unpublished ≤ 1000
counts_kept ls p k s = let c = both_kinds p.blocks in omega (arith, c, s.published, s.unpublished, s.runs)

pub counts_fit : (bytes rest : List ℕ) (n : ℕ) (p : Publication) (k : Kept) → Progress bytes rest n p k → k.counts.published + k.counts.unpublished ≤ 1000
counts_fit bytes rest n p k a = counts_kept a.before p k a.stands

room_in : (h : Held) (p : Publication) (c : Counts) → c.published + c.unpublished ≡ length p.blocks → HeldFits p h → HasRoom h c
room_in held.Start p c e f = tt
room_in held.Between p c e f = tt
room_in (held.Run h) p c e f = omega (arith, e, f)
room_in (held.Listing b) p c e f = let g = f.0 in omega (arith, e, g)
room_in (held.Growing b) p c e f = let g = f.0 in omega (arith, e, g)
room_in (held.Ending b) p c e f = let g = f.0 in omega (arith, e, g)
room_in (held.Totals os ps) p c e f = tt
room_in held.Done p c e f = tt

pub room_kept : (ls : List Line) (p : Publication) (k : Kept) → Stands ls p k k.held → HasRoom k.held k.counts
room_kept ls p k s = let c = both_kinds p.blocks in room_in k.held p k.counts (omega (arith, c, s.published, s.unpublished)) s.fits

pub has_room : (bytes rest : List ℕ) (n : ℕ) (p : Publication) (k : Kept) → Progress bytes rest n p k → HasRoom k.held k.counts
has_room bytes rest n p k a = room_kept a.before p k a.stands

-- one line more
pub more_text : (before : List Line) (l : Line) (here after : List ℕ) → spelling l ≡ here → text_of_lines before ++ (here ++ 10 ∷ after) ≡ text_of_lines (before ++ l ∷ []) ++ after
more_text before l here after e =
    let one : text_of_lines (before ++ l ∷ []) ≡ text_of_lines before ++ (here ++ 10 ∷ []) =
    flat_map-append line_text before (l ∷ []) ∙ ap (λ (xs : List ℕ). text_of_lines before ++ xs) (append-nil (spelling l ++ 10 ∷ []) ∙ ap (λ (xs : List ℕ). xs ++ 10 ∷ []) e) in
    sym (ap (λ (xs : List ℕ). xs ++ after) one ∙ append_assoc (text_of_lines before) (here ++ 10 ∷ []) after ∙ ap (λ (xs : List ℕ). text_of_lines before ++ xs) (append_assoc here (10 ∷ []) after))

pub shorter : (rest here after : List ℕ) → rest ≡ here ++ 10 ∷ after → length after < length rest
shorter rest here after e = let len : length rest ≡ length here + (length after + 1) = ap length e ∙ length-append here (10 ∷ after) ∙ ap (λ m. length here + m) (omega arith) in omega (arith, len)

pub forward : (bytes rest here after : List ℕ) (n : ℕ) (p : Publication) (k r : Kept) (x : Option Part) → Progress bytes rest n p k → rest ≡ here ++ 10 ∷ after → Took k here r (Ok x)
    → Progress bytes after (n + 1) (grown p x) r
forward bytes rest here after n p k r x a parts t =
    let l = t.0 in
    let line_len : length (a.before ++ l ∷ []) ≡ length a.before + 1 = simp (length-append) in
    record {
      before = a.before ++ l ∷ [];
      parts = a.parts ∙ ap (λ (xs : List ℕ). text_of_lines a.before ++ xs) parts ∙ more_text a.before l here after t.2;
      number_is = ap (λ m. m + 1) a.number_is ∙ sym (ap (λ m. m + 1) line_len);
      fit = all_push InRange a.before l a.fit t.1;
      came = came_more a.before p k l (r, x) a.came t.3;
      stands = next a.before p k k.held l (r, x) a.stands t.3;
    }

bad_line : (bytes rest here after : List ℕ) (n : ℕ) (p : Publication) (k r : Kept) → Progress bytes rest n p k
    → Lacks 10 here → rest ≡ here ++ 10 ∷ after → Took k here r (Err take_fault.Formless) → BadLineAt bytes n
bad_line bytes rest here after n p k r a whole parts took = record {
  before = a.before;
  here = here;
  after = after;
  parts = a.parts ∙ ap (λ (xs : List ℕ). text_of_lines a.before ++ xs) parts;
  whole = whole;
  begins = begins a.before p k k.held a.stands a.fit;
  number = a.number_is;
  formless = took.0;
}

bad_order : (bytes rest here after : List ℕ) (n : ℕ) (p : Publication) (k r : Kept) → Progress bytes rest n p k
    → rest ≡ here ++ 10 ∷ after → Took k here r (Err take_fault.OutOfOrder) → BadOrderAt bytes n
bad_order bytes rest here after n p k r a parts took = record {
  before = a.before;
  here = took.0;
  after = after;
  parts = a.parts ∙ ap (λ (xs : List ℕ). text_of_lines a.before ++ xs) (parts ∙ ap (λ (xs : List ℕ). xs ++ 10 ∷ after) (sym took.2) ∙ sym (append_assoc (spelling took.0) (10 ∷ []) after));
  begins = begins a.before p k k.held a.stands a.fit;
  number = a.number_is;
  in_range = took.1;
  misplaced = not_begun a.before p k took.0 a.came took.3;
}

-- a line that wasn't taken
pub refused : (bytes rest here after : List ℕ) (n : ℕ) (p : Publication) (k r : Kept) → Progress bytes rest n p k
    → Lacks 10 here → rest ≡ here ++ 10 ∷ after → (f : TakeFault) → Took k here r (Err f)
    → IsOutcome bytes (Err (text_fault n f))
refused bytes rest here after n p k r a whole parts take_fault.Formless took = bad_line bytes rest here after n p k r a whole parts took
refused bytes rest here after n p k r a whole parts take_fault.OutOfOrder took = bad_order bytes rest here after n p k r a parts took
refused bytes rest here after n p k r a whole parts take_fault.Memory took = tt

-- where the text ends
pub whole_text : (bytes rest : List ℕ) (n : ℕ) (p q : Publication) (k : Kept) → Progress bytes rest n p k → k.held ≡ held.Done → rest ≡ [] → q ≡ p → IsText bytes q
whole_text bytes rest n p q k a done none is =
    let s = subst (λ h. Stands a.before p k h) done a.stands in
    let made : IsText bytes p = record {
      has = whole_has_text a.before p k s a.fit;
      is = a.parts ∙ ap (λ (xs : List ℕ). text_of_lines a.before ++ xs) none ∙ append-nil (text_of_lines a.before) ∙ ap text_of_lines s.lines;
    } in
    subst (λ x. IsText bytes x) (sym is) made

pub truncated : (bytes rest : List ℕ) (n : ℕ) (p : Publication) (k : Kept) → Progress bytes rest n p k → Lacks 10 rest
    → (k.held ≡ held.Done → rest ≡ [] → p.date ≡ []) → TruncatedAt bytes n
truncated bytes rest n p k a none undated = record {
  before = a.before;
  rest = rest;
  parts = a.parts;
  no_line = none;
  begins = begins a.before p k k.held a.stands a.fit;
  number = a.number_is;
  unfinished = λ empty q has e.
      let w = not_whole a.before p q k a.came has e in
      let no_date : q.date ≡ [] = ap (λ (x : Publication). x.date) w.0 ∙ undated w.1 empty in
      no_name q.date no_date has.head.0.0;
}
  where
    no_name : (d : List ℕ) → d ≡ [] → is_name d ≡ true → ⊥
    no_name d e h = grind arith

pub finished : (bytes rest : List ℕ) (n : ℕ) (g : Gathered) (k : Kept) (r : Result Publication TextFault) → Progress bytes rest n (seen g) k → Lacks 10 rest
    → Finishes g k.held rest n r → IsOutcome bytes r
finished bytes rest n g k (Err (fault.Truncated m)) a none f =
    subst (λ i. TruncatedAt bytes i) (sym f.0) (truncated bytes rest n (seen g) k a none (λ done empty. ap (λ (d : Option (List ℕ)). unwrap_or d []) (f.1 done empty)))
finished bytes rest n g k _ a none f = search (arith, whole_text)
