use Rattle.std.proofs.Common.{◌≡◌, ◌∷◌, [], refl, sym, ap, subst, ◌∙◌}
use lib.Chars.{codes}
use Rattle.std.proofs.lemmas.Result.{err_from_is_err_and}
use Rattle.mari_lines.specs.Spelling.{money_text}
use Rattle.mari_lines.proofs.NotRead.{handed_on}
use Rattle.mari_reach_lines.specs.Ranges.{IsClaim, IsGap}
use Rattle.mari_reach_lines.specs.Spelling.{claim_fields, words_of}
use Rattle.mari_reach_lines.specs.declared.line.Claim.{Claim}
use Rattle.mari_reach_lines.proofs.Pieces.{claim_word, gap_words}
use Rattle.mari_reach_lines.proofs.Words.{one_word}
use Rattle.mari_reach_lines.proofs.reading.read_claim.Goals as goal

pub returns-then-not-is_same : goal.returns-then-not-is_same
returns-then-not-is_same c = λ x r e.
    let p = claim_word x c.in_ok-word.word.now c.in_ok-word.gap.now (e ∙ c.in_ok-word.ensures.1) in
    let yes = c.if-not-is_same.ensures.1 p.2 in
    absurd cc

pub returns-in_err-read_gap : goal.returns-in_err-read_gap
returns-in_err-read_gap c =
    handed_on IsGap money_text c.in_ok-word.gap.now IsClaim claim_fields (words_of c.args.text.now) _ c.from_residual-in_err-read_gap.result
    (err_from_is_err_and c.from_residual-in_err-read_gap.result c.from_residual-in_err-read_gap.ensures.1) c.in_err-read_gap.ensures
    (λ x r e. let p = claim_word x c.in_ok-word.word.now c.in_ok-word.gap.now (e ∙ c.in_ok-word.ensures.1) in
    (p.0, subst (λ (y : Claim). IsClaim y) p.1 r, one_word (money_text p.0) c.in_ok-word.gap.now p.3))

pub returns : goal.returns
returns c =
    let gap = c.in_ok-read_gap.field-0 in
    let is = c.in_ok-read_gap.ensures in
    let word : c.in_ok-word.word.now ≡ codes "within" = c.if-not-is_same.ensures.0 refl in
    let last : words_of c.in_ok-word.gap.now ≡ money_text gap ∷ [] = ap words_of (sym is.1) ∙ gap_words gap is.0 in
    let all : codes "within" ∷ money_text gap ∷ [] ≡ words_of c.args.text.now = cc c.in_ok-word.ensures.1 in
    (is.0, all)
