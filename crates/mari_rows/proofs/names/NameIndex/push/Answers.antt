use Rattle.std.proofs.Common.{◌∙◌, refl}
use Rattle.mari_rows.proofs.NameLemmas.{added-names, added-place, tried-AreNames}
use Rattle.mari_rows.proofs.names.NameIndex.push.Goals as goal
use Rattle.mari_rows.proofs.names.NameIndex.push.Goals.{in-Ok, in-Err}

pub invariant_of-self : goal.invariant_of-self
invariant_of-self c =
    tried-AreNames (λ v. v.items) c.self.inside.names.keys c.args.text _ _ refl c.self.view_is c.requires.new (rw c.self.view_is at c.self.invariant) c.requires.room c.insert_full.result _
    c.insert_full.ensures.keys c.insert_full.ensures.err

pub returns-clause-place : goal.returns-clause-place
returns-clause-place c =
    elim c.match-insert_full.branch [
      | in-Ok w ↦ rw w.result-is (w.in-Ok.place-is ∙ w.in-Ok.ensures.index ∙ added-place (λ v. v.items) c.self.inside.names.keys c.args.text _ _ refl c.self.view_is c.requires.new)
      | in-Err w ↦ rw w.result-is tt
    ]

pub returns-clause-added : goal.returns-clause-added
returns-clause-added c =
    elim c.match-insert_full.branch [
      | in-Ok w ↦ rw (w.result-is, w.in-Ok.ensures.keys) (added-names (λ v. v.items) c.self.inside.names.keys c.args.text _ _ refl c.self.view_is c.requires.new)
      | in-Err w ↦ rw w.result-is tt
    ]
