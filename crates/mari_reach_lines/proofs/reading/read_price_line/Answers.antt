use Rattle.std.proofs.Common.{◌≡◌, ◌∷◌, [], ◌++◌, List, ℕ, sym, ap, ◌∙◌, arith}
use lib.Chars.{codes}
use Rattle.std.proofs.lemmas.Result.{err_from_is_err_and}
use Rattle.mari_units.specs.Names.{IsName}
use Rattle.mari_market.specs.Price.{IsCapped}
use Rattle.mari_lines.specs.Spelling.{price_text}
use Rattle.mari_lines.proofs.NotRead.{handed_on}
use Rattle.mari_reach_lines.specs.Ranges.{ReachInRange}
use Rattle.mari_reach_lines.specs.Spelling.{reach_spelling, words_of}
use Rattle.mari_reach_lines.proofs.Pieces.{of_words, price_part, price_words, unread}
use Rattle.mari_reach_lines.proofs.Words.{one_word}
use Rattle.mari_reach_lines.proofs.reading.read_price_line.Goals as goal

-- of two words the first, and the text of the other
words_apart : (zone price a b : List ℕ) → zone ∷ words_of price ≡ a ∷ b ∷ [] → (a ≡ zone) × (b ≡ price)
words_apart zone price a b e = let last : words_of price ≡ b ∷ [] = cc in (cc, one_word b price last)

not_one : (a b d : List ℕ) → a ∷ [] ≡ b ∷ d ∷ [] → ⊥
not_one a b d e = grind arith

pub returns-in_err-zone : goal.returns-in_err-zone
returns-in_err-zone c =
    let rest = c.args.rest.now in
    let none = c.in_err-zone.ensures in
    unread ReachInRange reach_spelling (codes "price " ++ rest) _ c.from_residual.result (err_from_is_err_and c.from_residual.result c.from_residual.ensures.1) none.0
    (λ y r e. let p = price_part y rest r e in not_one rest p.0.0 (price_text p.0.1) (sym none.1 ∙ p.3))

pub returns-in_err-name : goal.returns-in_err-name
returns-in_err-name c =
    let rest = c.args.rest.now in
    handed_on IsName (λ (name : List ℕ). name) c.in_ok-zone.zone.now ReachInRange reach_spelling (codes "price " ++ rest) _ c.from_residual-in_err-name.result
    (err_from_is_err_and c.from_residual-in_err-name.result c.from_residual-in_err-name.ensures.1) c.in_err-name.ensures
    (λ y r e. let p = price_part y rest r e in
    (p.0.0, p.1, (words_apart c.in_ok-zone.zone.now c.in_ok-zone.price.now p.0.0 (price_text p.0.1) (sym c.in_ok-zone.ensures.1 ∙ p.3)).0))

pub returns-in_err-price : goal.returns-in_err-price
returns-in_err-price c =
    let rest = c.args.rest.now in
    handed_on IsCapped price_text c.in_ok-zone.price.now ReachInRange reach_spelling (codes "price " ++ rest) _ c.from_residual-in_err-price.result
    (err_from_is_err_and c.from_residual-in_err-price.result c.from_residual-in_err-price.ensures.1) c.in_err-price.ensures
    (λ y r e. let p = price_part y rest r e in
    (p.0.1, p.2, (words_apart c.in_ok-zone.zone.now c.in_ok-zone.price.now p.0.0 (price_text p.0.1) (sym c.in_ok-zone.ensures.1 ∙ p.3)).1))

pub returns : goal.returns
returns c =
    let rest = c.args.rest.now in
    let zone : List ℕ = c.in_ok-name.name in
    let price = c.in_ok-price.price in
    let last : words_of c.in_ok-zone.price.now ≡ price_text price ∷ [] = ap words_of (sym c.in_ok-price.ensures.1) ∙ price_words price c.in_ok-price.ensures.0 in
    let all : words_of rest ≡ zone ∷ price_text price ∷ [] =
    c.in_ok-zone.ensures.1 ∙ ap (λ (ws : List (List ℕ)). c.in_ok-zone.zone.now ∷ ws) last ∙ ap (λ (w : List ℕ). w ∷ price_text price ∷ []) (sym c.in_ok-name.ensures.1) in
    ((c.in_ok-name.ensures.0, c.in_ok-price.ensures.0), of_words (codes "price") rest (zone ∷ price_text price ∷ []) all)
