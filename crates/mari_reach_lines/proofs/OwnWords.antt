-- Which kind of line has a first word.
use Rattle.std.proofs.Common.{◌≡◌, ℕ, Bool, true, false, IsTrue, List, refl, sym, ap, ◌∙◌, arith}
use Rattle.std.specs.Prelude.{◌||◌}
use Rattle.std.specs.Str.{bytes_eq}
use lib.Chars.{codes}
use Rattle.std.proofs.lemmas.Bool.{both_ways}
use Rattle.mari_units.specs.declared.numbers.Cents.{Cents}
use Rattle.mari_lines.proofs.Splits.{some_words}
use Rattle.mari_lines.specs.Spelling.{keyword_of, keyword_text}
use Rattle.mari_lines.specs.declared.line.Heading.{Heading}
use Rattle.mari_lines.specs.declared.line.Line.{Line}
use Rattle.mari_reach_lines.specs.Ranges.{ReachInRange, is_shared}
use Rattle.mari_reach_lines.specs.Spelling.{reach_fields, reach_word, words_of}
use Rattle.mari_reach_lines.specs.declared.line.Claim.{Claim}
use Rattle.mari_reach_lines.specs.declared.line.ReachLine.{ReachLine}
use Rattle.mari_reach_lines.specs.declared.line.ReachLine.TheVariants as reach

-- whether a line that the second form has alone has this first word
abbrev pub is_own : List ℕ → Bool
is_own w = bytes_eq w (codes "mari") || bytes_eq w (codes "run") || bytes_eq w (codes "branch") || bytes_eq w (codes "price") || bytes_eq w (codes "none")

shared_word : (l : Line) → is_shared l ≡ true → is_own (keyword_text (keyword_of l)) ≡ false
shared_word l s = grind arith

-- no line of the first form that the second has too begins so
pub apart : (l : Line) (w : List ℕ) → is_shared l ≡ true → is_own w ≡ true → keyword_text (keyword_of l) ≡ w → ⊥
apart l w s own e = both_ways (is_own w) (sym (ap is_own e) ∙ shared_word l s) own

pub is_head : (y : ReachLine) → ReachInRange y → reach_word y ≡ codes "mari" → (x : List ℕ × ℕ × ℕ) × (y ≡ reach.Head x.0 x.1 x.2)
is_head (reach.Head date quarters budget) r e = ((date, quarters, budget), refl)
is_head y r e = grind arith

pub is_run : (y : ReachLine) → ReachInRange y → reach_word y ≡ codes "run" → (x : Heading × Claim) × (y ≡ reach.Run x.0 x.1)
is_run (reach.Run heading claim) r e = ((heading, claim), refl)
is_run y r e = grind arith

pub is_branch : (y : ReachLine) → ReachInRange y → reach_word y ≡ codes "branch" → (bid : List ℕ) × (y ≡ reach.Branch bid)
is_branch y r e = grind arith

pub is_price : (y : ReachLine) → ReachInRange y → reach_word y ≡ codes "price" → (x : List ℕ × Cents) × (y ≡ reach.Price x.0 x.1)
is_price (reach.Price zone price) r e = ((zone, price), refl)
is_price y r e = grind arith

-- a line of several words, of which the first is none of these, is one that the first form has too
pub others_shared : (y : ReachLine) (w rest : List ℕ) → (w ≡ codes "mari" → IsTrue false) → (w ≡ codes "run" → IsTrue false) → (w ≡ codes "branch" → IsTrue false) → (w ≡ codes "price" → IsTrue false)
    → reach_word y ≡ w → reach_fields y ≡ words_of rest → (l : Line) × (y ≡ reach.Shared l)
others_shared (reach.Shared l) w rest a b d f e some = (l, refl)
others_shared (reach.Head date quarters budget) w rest a b d f e some = absurd (both_ways false refl (a (sym e)))
others_shared (reach.Run heading claim) w rest a b d f e some = absurd (both_ways false refl (b (sym e)))
others_shared (reach.Branch bid) w rest a b d f e some = absurd (both_ways false refl (d (sym e)))
others_shared (reach.Price zone price) w rest a b d f e some = absurd (both_ways false refl (f (sym e)))
others_shared reach.Void w rest a b d f e some = absurd (some_words 32 rest (sym some))
