-- The parts of lines of the second form that may follow one another are in range.
use Rattle.std.proofs.Common.{◌≡◌, ◌∙◌, ℕ, List, [], ◌∷◌, ◌++◌, map, refl, sym, append-nil}
use Rattle.std.specs.List.{AllByRecursion}
use Rattle.mari_publish.specs.Pieces.{HoldsParts as HoldsFirst}
use Rattle.mari_publish.specs.Ranges.{PartFits as FirstFits}
use Rattle.mari_publish.specs.Texts.{text_of_lines}
use Rattle.mari_publish.specs.declared.publication.Part.{Part}
use Rattle.mari_publish.proofs.FirstParts.{parts_fit}
use Rattle.mari_publish.proofs.Whole.{all_back}
use Rattle.mari_reach_lines.specs.declared.line.ReachLine.{ReachLine}
use Rattle.mari_stream.specs.Forms.{Follow, HasPart, HoldsParts}
use Rattle.mari_reach_text.specs.Order.{ClaimFits, line_of, reach_form}
use Rattle.mari_reach_text.specs.declared.kept.ReachKept.{ReachKept}
use Rattle.mari_reach_text.specs.declared.kept.ReachPart.{ReachPart}
use Rattle.mari_reach_text.specs.declared.kept.ReachPart.TheVariants as parts
use Rattle.mari_reach_text.proofs.Mirrors.{Mirrors, first_part, mirrors}
use Rattle.mari_reach_text.proofs.Same.{block_fits}
use Rattle.mari_reach_text.proofs.Told.{PartFits, tells_of}
use Rattle.mari_reach_feed.specs.Texts.{ReachPartFits}

-- by the parts of the first form for which they stand
one_fits : (x : ReachPart) → FirstFits (first_part x) → ClaimFits x → PartFits x → ReachPartFits x
one_fits (parts.Head date quarters budget) f c t = f
one_fits (parts.Block b) f c t = block_fits b f c t
one_fits (parts.Totals operators providers) f c t = f

all_fit : (xs : List ReachPart) → AllByRecursion FirstFits (map first_part xs) → AllByRecursion ClaimFits xs → AllByRecursion PartFits xs → AllByRecursion ReachPartFits xs
all_fit [] f c t = tt
all_fit (x ∷ xs) f c t = (one_fits x f.0 c.0 t.0, all_fit xs f.1 c.1 t.1)

first_holds : (lines : List ReachLine) (xs : List ReachPart) (s : ReachKept) → Mirrors lines xs s → HoldsFirst (text_of_lines (map line_of lines)) (map first_part xs)
first_holds lines xs s m = record {
  lines = map line_of lines;
  after = [];
  is = sym (append-nil (text_of_lines (map line_of lines)));
  in_range = m.in_range;
  kept = s.kept;
  gives = m.gives;
}

followed_fit : (lines : List ReachLine) (xs : List ReachPart) (s : ReachKept) → Follow reach_form lines xs s → AllByRecursion ReachPartFits xs
followed_fit lines xs s f =
    let m = mirrors lines xs s f in
    all_fit xs (parts_fit (text_of_lines (map line_of lines)) (map first_part xs) (first_holds lines xs s m)) m.claims (tells_of lines xs s f).fit

pub reach_parts_fit : (text : List ℕ) (xs : List ReachPart) → HoldsParts reach_form text xs → AllByRecursion ReachPartFits xs
reach_parts_fit text xs h = followed_fit h.lines xs h.kept h.follow

pub reach_part_fits : (text : List ℕ) (xs : List ReachPart) (x : ReachPart) → HasPart reach_form text xs x → ReachPartFits x
reach_part_fits text xs x h = (all_back ReachPartFits xs (x ∷ []) (reach_parts_fit text (xs ++ x ∷ []) h)).0
