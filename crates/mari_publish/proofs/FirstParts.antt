-- The parts that a text begins with: they are in range, and after the fault of a line no further one comes.
use Rattle.std.proofs.Common.{◌≡◌, ◌∙◌, ℕ, List, [], ◌∷◌, ◌++◌, map, inl, inr, refl, sym, ap, subst, append_assoc, append-nil, arith}
use Rattle.std.specs.List.{All, AllByRecursion}
use Rattle.std.proofs.lemmas.Grind.{flat_map-append}
use Rattle.mari_lines.proofs.Gathered.{head_of, tail_of}
use Rattle.mari_lines.specs.Ranges.{InRange}
use Rattle.mari_lines.specs.Spelling.{line_text}
use Rattle.mari_lines.specs.declared.line.Line.{Line}
use Rattle.mari_publish.specs.Faults.{BadLineAt, BadOrderAt, Begins}
use Rattle.mari_publish.specs.Lines.{lines_of}
use Rattle.mari_publish.specs.Paged.{IsLineFault}
use Rattle.mari_publish.specs.Pieces.{ComeState, ComesFrom, Gives, HasPart, HoldsParts, NoPart, parts_of}
use Rattle.mari_publish.specs.Ranges.{BlockFits, HasText, PartFits}
use Rattle.mari_publish.specs.Texts.{text_of_lines}
use Rattle.mari_publish.specs.declared.fault.TextFault.{TextFault}
use Rattle.mari_publish.specs.declared.fault.TextFault.TheVariants as fault
use Rattle.mari_publish.specs.declared.held.Kept.{Kept}
use Rattle.mari_publish.specs.declared.publication.Block.{Block}
use Rattle.mari_publish.specs.declared.publication.Part.{Part}
use Rattle.mari_publish.specs.declared.publication.Part.TheVariants as part
use Rattle.mari_publish.specs.declared.publication.Publication.{Publication}
use Rattle.mari_publish.proofs.Begun.{begins}
use Rattle.mari_publish.proofs.Fits.{Fit}
use Rattle.mari_publish.proofs.Follows.{accepted}
use Rattle.mari_publish.proofs.Outcomes.{Stop, compare, fit_begun, line_stop, order_stop}
use Rattle.mari_publish.proofs.PartsGiven.{longer_parts, stands_of}
use Rattle.mari_publish.proofs.Whole.{all_back, all_front}

-- ---- they are in range

blocks_fit : (bs : List Block) (rest : List Part) → All BlockFits bs → AllByRecursion PartFits rest → AllByRecursion PartFits (map part.Block bs ++ rest)
blocks_fit [] rest a more = more
blocks_fit (b ∷ bs) rest a more = (head_of BlockFits b bs a, blocks_fit bs rest (tail_of BlockFits b bs a) more)

all_fit : (p : Publication) → HasText p → AllByRecursion PartFits (parts_of p)
all_fit p h = (h.head, blocks_fit p.blocks (part.Totals p.operators p.providers ∷ []) h.blocks ((h.totals.operators, h.totals.providers), tt))

whole_gives : (p : Publication) → HasText p → (k : Kept) × Gives (lines_of p) (parts_of p) k
whole_gives p h = (_, record { so_far = p; follow = accepted p h; are = refl; given = refl; published = refl; unpublished = refl })

begun_by : (lines : List Line) (parts : List Part) (k : Kept) → Fit lines → Gives lines parts k → Begins lines
begun_by lines parts k fit g = begins lines g.so_far k k.held (stands_of lines g.so_far k g.follow) fit

pub parts_fit : (text : List ℕ) (parts : List Part) → HoldsParts text parts → AllByRecursion PartFits parts
parts_fit text parts h =
    let b = begun_by h.lines parts h.kept h.in_range h.gives in
    let w = whole_gives b.0 b.2 in
    let more = longer_parts h.lines (lines_of b.0) b.1 parts (parts_of b.0) h.kept w.0 h.gives w.1 b.3 in
    all_front PartFits parts more.0 (subst (AllByRecursion PartFits) more.1 (all_fit b.0 b.2))

pub part_fits : (text : List ℕ) (parts : List Part) (x : Part) → HasPart text parts x → PartFits x
part_fits text parts x h = (all_back PartFits parts (x ∷ []) (parts_fit text (parts ++ x ∷ []) h)).0

-- ---- what has come holds them

pub come_parts : (come : ComeState) (text : List ℕ) (parts : List Part) → ComesFrom come text parts → HoldsParts text parts
come_parts come text parts s = record { lines = s.lines; after = s.rest; is = s.is; in_range = s.in_range; kept = come.kept; gives = s.gives }

-- ---- after a fault of a line no part comes, whatever text comes after it

module _ (text left : List ℕ) (parts : List Part) (none : NoPart text parts) (A : List Line) (R S : List ℕ) (is : text ≡ text_of_lines A ++ R) (s : Stop (text ++ left) A S) where
  ahead : (x : Part) (h : HasPart (text ++ left) parts x) (C : List Line) → h.lines ≡ A ++ C → S ≡ text_of_lines C ++ h.after → ⊥
  ahead x h [] e r =
      let same : A ≡ h.lines = sym (e ∙ append-nil A) in
      none x (record { lines = h.lines; after = R; is = is ∙ ap (λ (ls : List Line). text_of_lines ls ++ R) same; in_range = h.in_range; kept = h.kept; gives = h.gives })
  ahead x h (c ∷ C) e r =
      let longer : Begins (A ++ c ∷ C) = subst Begins e (begun_by h.lines (parts ++ x ∷ []) h.kept h.in_range h.gives) in
      let range : InRange c = (all_back InRange A (c ∷ C) (subst Fit e h.in_range)).0 in
      s.stops c C h.after range longer r

  none_stays : NoPart (text ++ left) parts
  none_stays = λ x h. elim (compare A h.lines S h.after (fit_begun A s.begins) h.in_range (sym s.parts ∙ h.is)) [
    | inl c ↦ ahead x h c.0 c.1 c.2
    | inr c ↦ none x (record {
      lines = h.lines;
      after = text_of_lines c.0 ++ R;
      is = is ∙ ap (λ (ls : List Line). text_of_lines ls ++ R) c.1 ∙ ap (λ (t : List ℕ). t ++ R) (flat_map-append line_text h.lines c.0) ∙ append_assoc (text_of_lines h.lines) (text_of_lines c.0) R;
      in_range = h.in_range;
      kept = h.kept;
      gives = h.gives;
    })
  ]

line_more : (text left : List ℕ) (n : ℕ) (a : BadLineAt text n) → Stop (text ++ left) a.before (a.here ++ 10 ∷ (a.after ++ left))
line_more text left n a =
    let b : BadLineAt (text ++ left) n = record {
      before = a.before;
      here = a.here;
      after = a.after ++ left;
      parts = ap (λ (t : List ℕ). t ++ left) a.parts
          ∙ append_assoc (text_of_lines a.before) (a.here ++ 10 ∷ a.after) left ∙ ap (λ (t : List ℕ). text_of_lines a.before ++ t) (append_assoc a.here (10 ∷ a.after) left);
      whole = a.whole;
      begins = a.begins;
      number = a.number;
      formless = a.formless;
    } in
    line_stop (text ++ left) n b

order_more : (text left : List ℕ) (n : ℕ) (a : BadOrderAt text n) → Stop (text ++ left) a.before (line_text a.here ++ (a.after ++ left))
order_more text left n a =
    let b : BadOrderAt (text ++ left) n = record {
      before = a.before;
      here = a.here;
      after = a.after ++ left;
      parts = ap (λ (t : List ℕ). t ++ left) a.parts
          ∙ append_assoc (text_of_lines a.before) (line_text a.here ++ a.after) left ∙ ap (λ (t : List ℕ). text_of_lines a.before ++ t) (append_assoc (line_text a.here) a.after left);
      begins = a.begins;
      number = a.number;
      in_range = a.in_range;
      misplaced = a.misplaced;
    } in
    order_stop (text ++ left) n b

pub no_more : (text left : List ℕ) (parts : List Part) (f : TextFault) → IsLineFault text f → NoPart text parts → NoPart (text ++ left) parts
no_more text left parts (fault.BadLine n) a none = none_stays text left parts none a.before (a.here ++ 10 ∷ a.after) (a.here ++ 10 ∷ (a.after ++ left)) a.parts (line_more text left n a)
no_more text left parts (fault.BadOrder n) a none = none_stays text left parts none a.before (line_text a.here ++ a.after) (line_text a.here ++ (a.after ++ left)) a.parts (order_more text left n a)
no_more text left parts _ a none = omega arith
