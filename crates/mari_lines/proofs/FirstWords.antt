-- The kinds of lines, by their first words.
use Rattle.std.proofs.Common.{◌≡◌, ℕ, Bool, true, false, List, [], ◌∷◌, ◌++◌, refl}
use Rattle.std.specs.Fmt.{decimal}
use Rattle.mari_lines.specs.declared.line.Heading.{Heading}
use Rattle.mari_lines.specs.declared.line.Line.{Line}
use Rattle.mari_lines.specs.declared.line.Line.TheVariants as line
use Rattle.mari_lines.specs.declared.line.Keyword.TheVariants as first
use Rattle.mari_lines.specs.Ranges.{InRange, Between}
use Rattle.mari_lines.specs.Spelling.{fields, keyword_of, heading_fields, published_text}

-- a line that begins with `mari`
pub head_part : (l : Line) (ws : List (List ℕ)) → InRange l → keyword_of l ≡ first.Mari → fields l ≡ ws
    → (x : List ℕ × ℕ × ℕ) × InRange (line.Head x.0 x.1 x.2) × (fields (line.Head x.0 x.1 x.2) ≡ ws)
head_part (line.Head date quarters budget) ws r k e = ((date, quarters, budget), r, e)
head_part _ _ _ k _ = absurd cc

-- `demand`
pub demand_part : (l : Line) (ws : List (List ℕ)) → InRange l → keyword_of l ≡ first.Demand → fields l ≡ ws
    → (x : ℕ × ℕ) × InRange (line.Demand x.0 x.1) × (fields (line.Demand x.0 x.1) ≡ ws)
demand_part (line.Demand place mw) ws r k e = ((place, mw), r, e)
demand_part _ _ _ k _ = absurd cc

-- `done`
pub done_part : (l : Line) (ws : List (List ℕ)) → InRange l → keyword_of l ≡ first.Done → fields l ≡ ws
    → (x : ℕ × ℕ) × InRange (line.Done x.0 x.1) × (fields (line.Done x.0 x.1) ≡ ws)
done_part (line.Done published unpublished) ws r k e = ((published, unpublished), r, e)
done_part _ _ _ k _ = absurd cc

-- `run`: whether it is published, and what stands after that
pub run_part : (l : Line) → InRange l → keyword_of l ≡ first.Run
    → (published : Bool) × (others : List (List ℕ)) × (heading : Heading) × (fields l ≡ heading_fields heading ++ published_text published ∷ others)
run_part (line.Run heading) r k = (true, [], heading, refl)
run_part (line.Unpublished heading count) r k = (false, decimal count ∷ [], heading, refl)
run_part _ _ k = absurd cc

-- a run that isn't published
pub count_part : (l : Line) (ws left : List (List ℕ)) (a b d : List ℕ) → InRange l → keyword_of l ≡ first.Run → fields l ≡ ws → ws ≡ a ∷ b ∷ d ∷ published_text false ∷ left
    → (n : ℕ) × (others : List (List ℕ)) × Between 1 50000 n × (left ≡ decimal n ∷ others)
count_part (line.Run heading) ws left a b d r k e f = absurd cc
count_part (line.Unpublished heading count) ws left a b d r k e f = (count, [], r.1, cc)
count_part _ _ _ _ _ _ _ k _ _ = absurd cc
