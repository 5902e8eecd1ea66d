-- A line's words are its first word and its fields, and it has no line feed.
use Rattle.std.proofs.Common.{◌≡◌, ℕ, List, [], ◌∷◌, ◌++◌, refl, sym, ap, ◌∙◌, arith}
use Rattle.std.specs.List.{AllByRecursion}
use Rattle.std.proofs.lemmas.List.{append-nil}
use Rattle.mari_lines.specs.Reading.{Lacks}
use Rattle.mari_lines.specs.Spelling.{keyword_of, spaced}
use Rattle.mari_lines.specs.declared.line.Line.TheVariants as line
use Rattle.mari_lines.proofs.Graphic.{IsGraphic, graphic_cents, graphic_euros, graphic_name, spelled, spelled_split, spelling_lacks, split_spaced}
use Rattle.mari_lines.proofs.LineWords.{graphic_fields, graphic_keyword, small_price, no_feed as first_no_feed, words_of_line}
use Rattle.mari_lines.proofs.Splits.{first_split, some_words}
use Rattle.mari_reach_lines.specs.Ranges.{IsClaim, ReachInRange}
use Rattle.mari_reach_lines.specs.Spelling.{claim_fields, reach_fields, reach_spelling, reach_word, words_of}
use Rattle.mari_reach_lines.specs.declared.line.Claim.{Claim}
use Rattle.mari_reach_lines.specs.declared.line.Claim.TheVariants.{First, Within}
use Rattle.mari_reach_lines.specs.declared.line.ReachLine.{ReachLine}
use Rattle.mari_reach_lines.specs.declared.line.ReachLine.TheVariants as reach

graphic_claim : (c : Claim) → IsClaim c → AllByRecursion IsGraphic (claim_fields c)
graphic_claim First r = (refl, tt)
graphic_claim (Within gap) r = (refl, (graphic_euros gap.0 (omega arith), tt))

-- each byte of the words is above the space
graphic_word : (y : ReachLine) → IsGraphic (reach_word y)
graphic_word (reach.Head date quarters budget) = refl
graphic_word (reach.Run heading claim) = refl
graphic_word (reach.Branch bid) = refl
graphic_word (reach.Price zone price) = refl
graphic_word reach.Void = refl
graphic_word (reach.Shared l) = graphic_keyword (keyword_of l)

graphic_reach : (y : ReachLine) → ReachInRange y → AllByRecursion IsGraphic (reach_fields y)
graphic_reach (reach.Head date quarters budget) r = (refl, (graphic_fields (line.Head date quarters budget) r).1)
graphic_reach (reach.Run heading claim) r = let g = graphic_fields (line.Run heading) r.0 in (g.0, (g.1.0, (g.1.1.0, graphic_claim claim r.1)))
graphic_reach (reach.Branch bid) r = (graphic_name bid r, tt)
graphic_reach (reach.Price zone price) r = (graphic_name zone r.0, (graphic_cents price.0 (small_price price.0 r.1), tt))
graphic_reach reach.Void r = tt
graphic_reach (reach.Shared l) r = graphic_fields l r.0

-- a spelling's words
pub reach_words : (y : ReachLine) → ReachInRange y → words_of (reach_spelling y) ≡ reach_word y ∷ reach_fields y
reach_words (reach.Shared l) r = words_of_line l r.0
reach_words (reach.Head date quarters budget) r = let y = reach.Head date quarters budget in split_spaced (reach_word y) (reach_fields y) (graphic_word y) (graphic_reach y r)
reach_words (reach.Run heading claim) r = let y = reach.Run heading claim in split_spaced (reach_word y) (reach_fields y) (graphic_word y) (graphic_reach y r)
reach_words (reach.Branch bid) r = let y = reach.Branch bid in split_spaced (reach_word y) (reach_fields y) (graphic_word y) (graphic_reach y r)
reach_words (reach.Price zone price) r = let y = reach.Price zone price in split_spaced (reach_word y) (reach_fields y) (graphic_word y) (graphic_reach y r)
reach_words reach.Void r = refl

pub no_feed : (y : ReachLine) → ReachInRange y → Lacks 10 (reach_spelling y)
no_feed (reach.Shared l) r = first_no_feed l r.0
no_feed (reach.Head date quarters budget) r = let y = reach.Head date quarters budget in spelling_lacks (reach_word y) (reach_fields y) (graphic_word y) (graphic_reach y r)
no_feed (reach.Run heading claim) r = let y = reach.Run heading claim in spelling_lacks (reach_word y) (reach_fields y) (graphic_word y) (graphic_reach y r)
no_feed (reach.Branch bid) r = let y = reach.Branch bid in spelling_lacks (reach_word y) (reach_fields y) (graphic_word y) (graphic_reach y r)
no_feed (reach.Price zone price) r = let y = reach.Price zone price in spelling_lacks (reach_word y) (reach_fields y) (graphic_word y) (graphic_reach y r)
no_feed reach.Void r = refl

some_word : (y : ReachLine) → reach_word y ≡ [] → ⊥
some_word y e = grind arith

pub never_empty : (y : ReachLine) → ReachInRange y → reach_spelling y ≡ [] → ⊥
never_empty y r e =
    let words : reach_word y ∷ reach_fields y ≡ [] ∷ [] = sym (reach_words y r) ∙ ap words_of e in
    some_word y cc

-- the words of a line that begins with a word and a space
pub after_word : (y : ReachLine) (w rest : List ℕ) → Lacks 32 w → ReachInRange y → reach_spelling y ≡ w ++ 32 ∷ rest → (reach_word y ≡ w) × (reach_fields y ≡ words_of rest)
after_word y w rest lacks r e =
    let words : reach_word y ∷ reach_fields y ≡ w ∷ words_of rest = sym (reach_words y r) ∙ ap words_of e ∙ first_split 32 w rest lacks in
    (cc, cc)

-- a text is its words, each after a space but the first
spaced_spelled : (ws : List (List ℕ)) → (ws ≡ [] → ⊥) → spaced ws ≡ 32 ∷ spelled ws
spaced_spelled ws some = grind arith

pub spaced_words : (rest : List ℕ) → spaced (words_of rest) ≡ 32 ∷ rest
spaced_words rest = spaced_spelled (words_of rest) (some_words 32 rest) ∙ ap (λ (t : List ℕ). 32 ∷ t) (spelled_split rest)

pub one_word : (w text : List ℕ) → words_of text ≡ w ∷ [] → w ≡ text
one_word w text e = sym (append-nil w) ∙ sym (ap spelled e) ∙ spelled_split text
