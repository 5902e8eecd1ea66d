use Rattle.std.proofs.Common.{◌≡◌, ◌∙◌, ◌++◌, ℕ, List, [], Option, Some, None, OnOk, Bor, ap, refl, subst}
use Rattle.std.specs.Prelude.{option_map, slice_get, unwrap_or}
use Rattle.std.proofs.lemmas.Option.{unwrap_or-slice_get}
use Rattle.mari_rows.specs.Names.{name_at}
use Rattle.mari_remain.proofs.migration.put_zone.Goals as goal

-- what is given out, or nothing
out : (o : Option (Bor (List ℕ))) (d : Bor (List ℕ)) → (unwrap_or o d).now ≡ unwrap_or (option_map (λ (n : Bor (List ℕ)). n.now) o) d.now
out None d = refl
out (Some n) d = refl

named : (d : Bor (List ℕ)) (o : Option (Bor (List ℕ))) (name : Bor (List ℕ)) (names : List (List ℕ)) (place : ℕ) → name ≡ unwrap_or o d → d.now ≡ []
    → option_map (λ (n : Bor (List ℕ)). n.now) o ≡ slice_get names place → name.now ≡ name_at names place
named d o name names place is nothing found =
    ap (λ (n : Bor (List ℕ)). n.now) is ∙ out o d ∙ ap (unwrap_or (option_map (λ (n : Bor (List ℕ)). n.now) o)) nothing
    ∙ ap (λ (x : Option (List ℕ)). unwrap_or x []) found ∙ unwrap_or-slice_get names place []

pub returns : goal.returns
returns c = subst (λ (n : List ℕ). OnOk c.put.result (c.put.new.text.items ≡ c.args.text.now.items ++ n))
    (named _ c.name_at.result c.unwrap_or-name.result c.args.zones.now.zones c.args.zone c.unwrap_or-name.ensures refl c.name_at.ensures) c.put.ensures.put
