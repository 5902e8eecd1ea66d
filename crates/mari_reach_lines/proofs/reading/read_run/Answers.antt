use Rattle.std.proofs.Common.{◌≡◌, ◌∷◌, [], ◌++◌, List, ℕ, sym, ap, ◌∙◌}
use lib.Chars.{codes}
use Rattle.std.proofs.lemmas.Result.{err_from_is_err_and}
use Rattle.mari_lines.specs.Ranges.{IsHeading}
use Rattle.mari_lines.specs.Spelling.{heading_fields}
use Rattle.mari_lines.proofs.NotRead.{handed_on}
use Rattle.mari_reach_lines.specs.Ranges.{IsClaim, ReachInRange}
use Rattle.mari_reach_lines.specs.Spelling.{claim_fields, reach_spelling, words_of}
use Rattle.mari_reach_lines.proofs.Pieces.{of_words, one_alone, parts_of_run, run_part, three_words, two_words, unread}
use Rattle.mari_reach_lines.proofs.reading.read_run.Goals as goal

-- the words of a text, of which the first ones were taken one by one
then : (a : List ℕ) (ws vs us : List (List ℕ)) → us ≡ a ∷ ws → ws ≡ vs → us ≡ a ∷ vs
then a ws vs us e f = e ∙ ap (λ (ts : List (List ℕ)). a ∷ ts) f

pub returns-in_err-run : goal.returns-in_err-run
returns-in_err-run c =
    let rest = c.args.rest.now in
    let none = c.in_err-run.ensures in
    unread ReachInRange reach_spelling (codes "run " ++ rest) _ c.from_residual.result (err_from_is_err_and c.from_residual.result c.from_residual.ensures.1) none.0
    (λ y r e. one_alone y rest rest r e none.1)

pub returns-in_err-quarter : goal.returns-in_err-quarter
returns-in_err-quarter c =
    let rest = c.args.rest.now in
    let none = c.in_err-quarter.ensures in
    unread ReachInRange reach_spelling (codes "run " ++ rest) _ c.from_residual-in_err-quarter.result
    (err_from_is_err_and c.from_residual-in_err-quarter.result c.from_residual-in_err-quarter.ensures.1) none.0
    (λ y r e. two_words y rest _ _ r e (then _ _ _ _ c.in_ok-run.ensures.1 none.1))

pub returns-in_err-kind : goal.returns-in_err-kind
returns-in_err-kind c =
    let rest = c.args.rest.now in
    let none = c.in_err-kind.ensures in
    unread ReachInRange reach_spelling (codes "run " ++ rest) _ c.from_residual-in_err-kind.result
    (err_from_is_err_and c.from_residual-in_err-kind.result c.from_residual-in_err-kind.ensures.1) none.0
    (λ y r e. three_words y rest _ _ _ r e (then _ _ _ _ c.in_ok-run.ensures.1 (then _ _ _ _ c.in_ok-quarter.ensures.1 none.1)))

pub returns-in_err-heading : goal.returns-in_err-heading
returns-in_err-heading c =
    let rest = c.args.rest.now in
    let a = c.in_ok-run.run'.now in
    let b = c.in_ok-quarter.quarter.now in
    let d = c.in_ok-kind.kind.now in
    let said = words_of c.in_ok-kind.said.now in
    let words : words_of rest ≡ a ∷ b ∷ d ∷ said = then _ _ _ _ c.in_ok-run.ensures.1 (then _ _ _ _ c.in_ok-quarter.ensures.1 c.in_ok-kind.ensures.1) in
    handed_on IsHeading heading_fields (a ∷ b ∷ d ∷ []) ReachInRange reach_spelling (codes "run " ++ rest) _ c.from_residual-in_err-heading.result
    (err_from_is_err_and c.from_residual-in_err-heading.result c.from_residual-in_err-heading.ensures.1) c.in_err-heading.ensures
    (λ y r e. let p = run_part y rest r e in (p.0.0, p.1, (parts_of_run p.0.0 p.0.1 a b d said (sym words ∙ p.3)).0))

pub returns-in_err-claim : goal.returns-in_err-claim
returns-in_err-claim c =
    let rest = c.args.rest.now in
    let a = c.in_ok-run.run'.now in
    let b = c.in_ok-quarter.quarter.now in
    let d = c.in_ok-kind.kind.now in
    let said = words_of c.in_ok-kind.said.now in
    let words : words_of rest ≡ a ∷ b ∷ d ∷ said = then _ _ _ _ c.in_ok-run.ensures.1 (then _ _ _ _ c.in_ok-quarter.ensures.1 c.in_ok-kind.ensures.1) in
    handed_on IsClaim claim_fields said ReachInRange reach_spelling (codes "run " ++ rest) _ c.from_residual-in_err-claim.result
    (err_from_is_err_and c.from_residual-in_err-claim.result c.from_residual-in_err-claim.ensures.1) c.in_err-claim.ensures
    (λ y r e. let p = run_part y rest r e in (p.0.1, p.2, (parts_of_run p.0.0 p.0.1 a b d said (sym words ∙ p.3)).1))

pub returns : goal.returns
returns c =
    let rest = c.args.rest.now in
    let h = c.in_ok-heading.heading in
    let x = c.in_ok-claim.claim in
    let a = c.in_ok-run.run'.now in
    let b = c.in_ok-quarter.quarter.now in
    let d = c.in_ok-kind.kind.now in
    let said = words_of c.in_ok-kind.said.now in
    let words : words_of rest ≡ a ∷ b ∷ d ∷ said = then _ _ _ _ c.in_ok-run.ensures.1 (then _ _ _ _ c.in_ok-quarter.ensures.1 c.in_ok-kind.ensures.1) in
    let all : words_of rest ≡ heading_fields h ++ claim_fields x =
    words ∙ ap (λ (ws : List (List ℕ)). a ∷ b ∷ d ∷ ws) (sym c.in_ok-claim.ensures.1) ∙ ap (λ (ws : List (List ℕ)). ws ++ claim_fields x) (sym c.in_ok-heading.ensures.1) in
    ((c.in_ok-heading.ensures.0, c.in_ok-claim.ensures.0), of_words (codes "run") rest (heading_fields h ++ claim_fields x) all)
