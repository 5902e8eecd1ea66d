use Rattle.std.proofs.Common.{◌∙◌, ◌++◌, List, ℕ, ap, subst, sym}
use Rattle.mari_reach_feed.specs.Texts.{IsReachLine}
use Rattle.mari_reach_feed.specs.Values.{reach_json_of}
use Rattle.mari_reach_feed.proofs.Plainly.{reach_line_is}
use Rattle.mari_reach_feed.proofs.part.reach_part_text.Goals as goal

pub returns-clause-text : goal.returns-clause-text
returns-clause-text c = c.in_ok-put_part.ensures ∙ ap (λ (t : List ℕ). t ++ reach_json_of c.args.part.now) c.new-text.ensures.items

pub returns-clause-line : goal.returns-clause-line
returns-clause-line c = subst (λ text. IsReachLine text c.args.part.now) (sym (returns-clause-text c)) (reach_line_is c.args.part.now c.requires)
