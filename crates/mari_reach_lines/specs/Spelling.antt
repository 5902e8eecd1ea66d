-- How a line of the second form is spelled. Lines that the first form has too are spelled as there.
use Rattle.std.specs.Prelude.{ℕ, List, [], ◌∷◌, ◌++◌}
use Rattle.std.specs.List.{flat_map, slice_split}
use lib.Chars.{codes}
use Rattle.std.specs.Fmt.{decimal}
use Rattle.std.specs.Prelude.{◌==◌}
use Rattle.mari_lines.specs.Spelling.{fields, heading_fields, keyword_of, keyword_text, money_text, price_text, spaced, spelling}
use Rattle.mari_reach_lines.specs.declared.line.Claim.{Claim}
use Rattle.mari_reach_lines.specs.declared.line.Claim.TheVariants.{First, Within}
use Rattle.mari_reach_lines.specs.declared.line.ReachLine.{ReachLine}
use Rattle.mari_reach_lines.specs.declared.line.ReachLine.TheVariants as reach

-- the words of a text, with a space between two
abbrev pub words_of : List ℕ → List (List ℕ)
words_of text = slice_split (λ b. b == 32) text

-- what a run's line says of the activation
abbrev pub claim_fields : Claim → List (List ℕ)
claim_fields First = codes "first" ∷ []
claim_fields (Within gap) = codes "within" ∷ money_text gap ∷ []

-- the first word of a line
abbrev pub reach_word : ReachLine → List ℕ
reach_word (reach.Head date quarters budget) = codes "mari"
reach_word (reach.Run heading claim) = codes "run"
reach_word (reach.Branch bid) = codes "branch"
reach_word (reach.Price zone price) = codes "price"
reach_word reach.Void = codes "none"
reach_word (reach.Shared l) = keyword_text (keyword_of l)

-- what stands after it
abbrev pub reach_fields : ReachLine → List (List ℕ)
reach_fields (reach.Head date quarters budget) = codes "2" ∷ date ∷ decimal quarters ∷ decimal budget ∷ []
reach_fields (reach.Run heading claim) = heading_fields heading ++ claim_fields claim
reach_fields (reach.Branch bid) = bid ∷ []
reach_fields (reach.Price zone price) = zone ∷ price_text price ∷ []
reach_fields reach.Void = []
reach_fields (reach.Shared l) = fields l

-- a line without its end
abbrev pub reach_spelling : ReachLine → List ℕ
reach_spelling (reach.Shared l) = spelling l
reach_spelling l = reach_word l ++ spaced (reach_fields l)

-- a line with the line feed at its end
abbrev pub reach_line_text : ReachLine → List ℕ
reach_line_text l = reach_spelling l ++ 10 ∷ []

-- the texts of lines, one after the other
abbrev pub text_of_reach_lines : List ReachLine → List ℕ
text_of_reach_lines lines = flat_map reach_line_text lines
