-- Lines that are spelled alike are the same.
use Rattle.std.proofs.Common.{◌≡◌, ℕ, List, [], ◌∷◌, ◌++◌, true, refl, sym, ap, ◌∙◌, arith}
use lib.Chars.{codes}
use Rattle.std.specs.Str.{bytes_eq}
use Rattle.std.proofs.lemmas.Bool.{both_ways}
use Rattle.std.specs.Fmt.{decimal}
use Rattle.mari_units.specs.declared.numbers.Cents.{Cents}
use Rattle.mari_lines.specs.Ranges.{IsHeading}
use Rattle.mari_lines.specs.Spelling.{fields, heading_fields, keyword_of, keyword_text, money_text, price_text, published_text, spaced, spelling}
use Rattle.mari_lines.specs.declared.line.Heading.{Heading}
use Rattle.mari_lines.specs.declared.line.Line.{Line}
use Rattle.mari_lines.specs.declared.line.Line.TheVariants as line
use Rattle.mari_lines.proofs.LineWords.{small_price}
use Rattle.mari_lines.proofs.Numbers.{same_money, same_price}
use Rattle.mari_lines.proofs.SameLine.{same_line}
use Rattle.mari_reach_lines.specs.Ranges.{IsClaim, ReachInRange}
use Rattle.mari_reach_lines.specs.Spelling.{claim_fields, reach_fields, reach_spelling, reach_word, words_of}
use Rattle.mari_reach_lines.specs.declared.line.Claim.{Claim}
use Rattle.mari_reach_lines.specs.declared.line.Claim.TheVariants.{First, Within}
use Rattle.mari_reach_lines.specs.declared.line.ReachLine.{ReachLine}
use Rattle.mari_reach_lines.specs.declared.line.ReachLine.TheVariants as reach
use Rattle.mari_reach_lines.proofs.Words.{reach_words}

-- lines of the first form with the same words are the same
by_words : (l m : Line) → keyword_text (keyword_of l) ≡ keyword_text (keyword_of m) → fields l ≡ fields m → spelling l ≡ spelling m
unfolding spelling
by_words l m k e = ap (λ (w : List ℕ). w ++ spaced (fields l)) k ∙ ap (λ (ws : List (List ℕ)). keyword_text (keyword_of m) ++ spaced ws) e

same_headings : (g h : Heading) → IsHeading g → IsHeading h → heading_fields g ≡ heading_fields h → g ≡ h
same_headings g h rg rh e =
    let same : line.Run g ≡ line.Run h = same_line (line.Run g) (line.Run h) rg rh
    (by_words (line.Run g) (line.Run h) refl (ap (λ (ws : List (List ℕ)). ws ++ published_text true ∷ []) e)) in
    cc

same_claim : (a b : Claim) → IsClaim a → IsClaim b → claim_fields a ≡ claim_fields b → a ≡ b
same_claim First First r s e = refl
same_claim (Within g) (Within h) r s e =
    let text : money_text g ≡ money_text h = cc in
    ap (λ z. Within (record { 0 = z })) (same_money g.0 h.0 (omega arith) (omega arith) text)
same_claim a b r s e = cc

-- a line that the first form has too, and another with the same words
with_shared : (l : Line) (z : ReachLine) → ReachInRange (reach.Shared l) → ReachInRange z → keyword_text (keyword_of l) ≡ reach_word z → fields l ≡ reach_fields z → reach.Shared l ≡ z
with_shared l (reach.Shared m) r s k e = ap (λ x. reach.Shared x) (same_line l m r.0 s.0 (by_words l m k e))
with_shared l z r s k e = grind arith

same_heads : (c d : List ℕ) (p q m n : ℕ) → ReachInRange (reach.Head c p m) → ReachInRange (reach.Head d q n) → reach_fields (reach.Head c p m) ≡ reach_fields (reach.Head d q n)
    → reach.Head c p m ≡ reach.Head d q n
same_heads c d p q m n r s e =
    let rest : c ∷ decimal p ∷ decimal m ∷ [] ≡ d ∷ decimal q ∷ decimal n ∷ [] = cc in
    let same : line.Head c p m ≡ line.Head d q n = same_line (line.Head c p m) (line.Head d q n) r s
    (by_words (line.Head c p m) (line.Head d q n) refl (ap (λ (ws : List (List ℕ)). codes "1" ∷ ws) rest)) in
    cc

same_runs : (g h : Heading) (a b : Claim) → ReachInRange (reach.Run g a) → ReachInRange (reach.Run h b) → reach_fields (reach.Run g a) ≡ reach_fields (reach.Run h b) → reach.Run g a ≡ reach.Run h b
same_runs g h a b r s e =
    let front : heading_fields g ≡ heading_fields h = cc in
    let claims : claim_fields a ≡ claim_fields b = cc in
    let heading = same_headings g h r.0 s.0 front in
    let claim = same_claim a b r.1 s.1 claims in
    cc

same_prices : (a b : List ℕ) (p q : Cents) → ReachInRange (reach.Price a p) → ReachInRange (reach.Price b q) → reach_fields (reach.Price a p) ≡ reach_fields (reach.Price b q)
    → reach.Price a p ≡ reach.Price b q
same_prices a b p q r s e =
    let zone : a ≡ b = cc in
    let text : price_text p ≡ price_text q = cc in
    let price : p ≡ q = ap (λ z. record { 0 = z }) (same_price p.0 q.0 (small_price p.0 r.1) (small_price q.0 s.1) text) in
    cc

same_words : (y z : ReachLine) → ReachInRange y → ReachInRange z → reach_word y ≡ reach_word z → reach_fields y ≡ reach_fields z → y ≡ z
same_words (reach.Shared l) z r s k e = with_shared l z r s k e
same_words y (reach.Shared m) r s k e = sym (with_shared m y s r (sym k) (sym e))
same_words (reach.Head c p m) (reach.Head d q n) r s k e = same_heads c d p q m n r s e
same_words (reach.Run g a) (reach.Run h b) r s k e = same_runs g h a b r s e
same_words (reach.Branch a) (reach.Branch b) r s k e = cc
same_words (reach.Price a p) (reach.Price b q) r s k e = same_prices a b p q r s e
same_words reach.Void reach.Void r s k e = refl
same_words y z _ _ k _ = absurd (both_ways (bytes_eq (reach_word y) (reach_word z)) refl (ap (λ w. bytes_eq w (reach_word z)) k))

-- lines that are spelled alike are the same
pub same_reach_line : (y z : ReachLine) → ReachInRange y → ReachInRange z → reach_spelling y ≡ reach_spelling z → y ≡ z
same_reach_line y z r s e =
    let words : reach_word y ∷ reach_fields y ≡ reach_word z ∷ reach_fields z = sym (reach_words y r) ∙ ap words_of e ∙ reach_words z s in
    let first : reach_word y ≡ reach_word z = cc in
    let others : reach_fields y ≡ reach_fields z = cc in
    same_words y z r s first others
