use Rattle.mari_reach_text.proofs.Accepted.{accepted}
use Rattle.mari_reach_text.proofs.Mirrors.{mirrors}
use Rattle.mari_reach_text.proofs.Parts.{done_parts, first_parts, made}
use Rattle.mari_reach_text.proofs.Same.{text_of_parts}
use Rattle.mari_reach_text.proofs.laws.reach_texts_follow.Goals as goal

pub returns-clause-begins : goal.returns-clause-begins
returns-clause-begins c = λ lines ps kept f. let g = (mirrors lines ps kept f).gives in first_parts ps g.so_far kept.kept.held g.given

pub returns-clause-claims : goal.returns-clause-claims
returns-clause-claims c = λ lines ps kept f. (mirrors lines ps kept f).claims

pub returns-clause-whole : goal.returns-clause-whole
returns-clause-whole c = λ lines ps kept f d. let g = (mirrors lines ps kept f).gives in let a = done_parts ps g.so_far kept.kept.held g.given d in (made g.so_far a.blocks, a.are)

pub returns-clause-text : goal.returns-clause-text
returns-clause-text c = text_of_parts

pub returns-clause-follows : goal.returns-clause-follows
returns-clause-follows c = accepted
