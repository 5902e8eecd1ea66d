use Rattle.std.proofs.Common.{◌≡◌, ◌∙◌, ◌++◌, ◌∷◌, [], ℕ, List, length, false, rules, sym, Result, Ok, Err, IfOk}
use Rattle.mari_rows.specs.Names.{is_among, place_in}
use Rattle.mari_rows.proofs.PlaceLemmas.{place-new}
use Rattle.mari_rows.proofs.names.NameIndex.find_or_add.Goals as goal

-- a new name has the place that it was put at
placed : {E : Type 0} (added : Result ℕ E) (names after : List (List ℕ)) (name : List ℕ) → is_among names name ≡ false
    → IfOk added (λ place. place ≡ length names) → IfOk added (λ place. after ≡ names ++ name ∷ []) → IfOk added (λ place. place ≡ place_in after name)
placed (Ok place) names after name new at are = rw are (at ∙ sym (place-new names name new))
placed (Err e) names after name new at are = tt

pub returns-clause-place : goal.returns-clause-place
returns-clause-place c =
    let new : is_among c.args.self.now c.args.name.now ≡ false = search rules in
    placed c.add_new.result c.args.self.now c.add_new.new.self c.args.name.now new c.add_new.ensures.place c.add_new.ensures.added
