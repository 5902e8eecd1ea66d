use Rattle.std.proofs.Common.{◌∙◌, ap}
use Rattle.std.specs.Prelude.{List}
use Rattle.mari_reach_lines.specs.Spelling.{text_of_reach_lines}
use Rattle.mari_reach_lines.specs.declared.line.ReachLine.{ReachLine}
use Rattle.mari_reach_text.proofs.Accepted.{accepted}
use Rattle.mari_reach_text.proofs.Mirrors.{mirrors}
use Rattle.mari_reach_text.proofs.Parts.{done_parts, made}
use Rattle.mari_reach_text.proofs.Same.{text_of_parts}
use Rattle.mari_reach_text.proofs.laws.reach_texts_are_whole.Goals as goal

pub returns-clause-publication : goal.returns-clause-publication
returns-clause-publication c = λ text ps w.
    let g = (mirrors w.lines ps w.kept w.follow).gives in
    let a = done_parts ps g.so_far w.kept.kept.held g.given w.done in
    let p = made g.so_far a.blocks in
    let t = text_of_parts w.lines ps w.kept p w.follow w.done a.are in
    (p, record { has = t.1; is = w.is ∙ ap (λ (ls : List ReachLine). text_of_reach_lines ls) t.0 }, a.are)

pub returns-clause-whole : goal.returns-clause-whole
returns-clause-whole c = λ text p t. let a = accepted p t.has in record { lines = _; kept = a.0; is = t.is; follow = a.1; done = a.2 }
