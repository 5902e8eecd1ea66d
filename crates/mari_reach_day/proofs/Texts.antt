-- The text of a block's lines, by its parts.
use Rattle.std.proofs.Common.{◌≡◌, List, ℕ, [], ◌∷◌, ◌++◌, map, refl, sym, ap, ◌∙◌, append_assoc}
use Rattle.std.proofs.lemmas.Grind.{flat_map-append}
use Rattle.mari_lines.specs.Spelling.{line_text}
use Rattle.mari_lines.specs.declared.line.Line.{Line}
use Rattle.mari_lines.specs.declared.line.Line.TheVariants as line
use Rattle.mari_publish.specs.Lines.{ending_lines, market_lines}
use Rattle.mari_publish.specs.Texts.{text_of_lines}
use Rattle.mari_remain.specs.declared.books.Books.{Books}
use Rattle.mari_reach_lines.specs.Spelling.{reach_line_text, text_of_reach_lines}
use Rattle.mari_reach_lines.specs.declared.line.ReachLine.{ReachLine}
use Rattle.mari_reach_lines.specs.declared.line.ReachLine.TheVariants as reach
use Rattle.mari_reach_day.specs.declared.block.ReachBlock.{ReachBlock}
use Rattle.mari_reach_day.specs.Lines.{reach_block_text, reach_tree_lines}

-- lines that the first form has too have the same text in both
pub shared_text : (ls : List Line) → text_of_reach_lines (map reach.Shared ls) ≡ text_of_lines ls
shared_text [] = refl
shared_text (l ∷ ls) = ap (λ (t : List ℕ). line_text l ++ t) (shared_text ls)

-- the lines of the market, of the tree, and the last ones
after_market : (market ending : List Line) (tree : List ReachLine)
    → text_of_lines market ++ (text_of_reach_lines tree ++ text_of_lines ending) ≡ text_of_reach_lines (map reach.Shared market ++ (tree ++ map reach.Shared ending))
after_market market ending tree =
    ap (λ (t : List ℕ). text_of_lines market ++ (text_of_reach_lines tree ++ t)) (sym (shared_text ending))
    ∙ ap (λ (t : List ℕ). text_of_lines market ++ t) (sym (flat_map-append reach_line_text tree (map reach.Shared ending)))
    ∙ ap (λ (t : List ℕ). t ++ text_of_reach_lines (tree ++ map reach.Shared ending)) (sym (shared_text market))
    ∙ sym (flat_map-append reach_line_text (map reach.Shared market) (tree ++ map reach.Shared ending))

-- what was appended part by part is the text of the block
pub block_of_parts : (books : Books) (r : ReachBlock) (out a b d e f : List ℕ) → out ≡ [] → a ≡ out ++ reach_line_text (reach.Run r.block.heading r.claim)
    → b ≡ a ++ line_text (line.Welfare r.block.welfare)
    → d ≡ b ++ text_of_lines (market_lines r.block) → e ≡ d ++ text_of_reach_lines (reach_tree_lines books r.gated r.tree) → f ≡ e ++ text_of_lines (ending_lines r.block)
    → f ≡ reach_block_text books r
block_of_parts books r out a b d e f none ea eb ed ee ef =
    let run = reach_line_text (reach.Run r.block.heading r.claim) in
    let welfare = line_text (line.Welfare r.block.welfare) in
    let market = text_of_lines (market_lines r.block) in
    let tree = text_of_reach_lines (reach_tree_lines books r.gated r.tree) in
    let ending = text_of_lines (ending_lines r.block) in
    let opened : b ≡ run ++ welfare = eb ∙ ap (λ (t : List ℕ). t ++ welfare) (ea ∙ ap (λ (t : List ℕ). t ++ run) none) in
    let rest : f ≡ b ++ (market ++ (tree ++ ending)) =
    ef ∙ ap (λ (t : List ℕ). t ++ ending) (ee ∙ ap (λ (t : List ℕ). t ++ tree) ed)
    ∙ append_assoc (b ++ market) tree ending
    ∙ append_assoc b market (tree ++ ending) in
    rest ∙ ap (λ (t : List ℕ). t ++ (market ++ (tree ++ ending))) opened
    ∙ append_assoc run welfare (market ++ (tree ++ ending))
    ∙ ap (λ (t : List ℕ). run ++ (welfare ++ t)) (after_market (market_lines r.block) (ending_lines r.block) (reach_tree_lines books r.gated r.tree))
