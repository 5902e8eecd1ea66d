use Rattle.std.proofs.Common.{◌∙◌, ◌++◌, List, ℕ, ap, subst, sym}
use Rattle.mari_feed.specs.Texts.{IsLineOf, json_of}
use Rattle.mari_feed.proofs.Plainly.{line_is}
use Rattle.mari_feed.proofs.part.part_text.Goals as goal

pub returns-clause-text : goal.returns-clause-text
returns-clause-text c = c.in_ok-put_part.ensures ∙ ap (λ (t : List ℕ). t ++ json_of c.args.part.now) c.new-text.ensures.items

pub returns-clause-back : goal.returns-clause-back
returns-clause-back c = subst (λ text. IsLineOf text c.args.part.now) (sym (returns-clause-text c)) (line_is c.args.part.now c.requires)
