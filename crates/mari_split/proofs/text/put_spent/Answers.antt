use Rattle.std.proofs.Common.{◌≡◌, ◌++◌, ◌∷◌, ◌∙◌, [], ℕ, List, ap, append_assoc}
use Rattle.std.specs.Prelude.{codes}
use Rattle.std.specs.Fmt.{decimal}
use Rattle.std.proofs.lemmas.List.{append-nil}
use Rattle.mari_split.proofs.text.put_spent.Goals as goal

regroup : (out word a b : List ℕ) → ((out ++ word) ++ a) ++ b ≡ out ++ (word ++ (a ++ (b ++ [])))
regroup out word a b = simp (append_assoc, append-nil)

pub returns : goal.returns
returns c =
    let island : List ℕ = 32 ∷ decimal c.args.island in
    let count : List ℕ = 32 ∷ decimal c.args.count in
    let word : c.put_field.new.out.items ≡ c.args.out.now.items ++ 32 ∷ codes "unpublished" = c.in_ok-put_field.ensures in
    let first : c.put_number_field.new.out.items ≡ c.put_field.new.out.items ++ island =
    c.in_ok-put_number_field.ensures ∙ ap (λ (n : ℕ). c.put_field.new.out.items ++ 32 ∷ decimal n) c.from.ensures in
    let second : c.put_number_field-2.new.out.items ≡ c.put_number_field.new.out.items ++ count =
    c.in_ok-put_number_field-2.ensures ∙ ap (λ (n : ℕ). c.put_number_field.new.out.items ++ 32 ∷ decimal n) c.from-2.ensures in
    second ∙ ap (λ (t : List ℕ). t ++ count) (first ∙ ap (λ (t : List ℕ). t ++ island) word) ∙ regroup c.args.out.now.items (32 ∷ codes "unpublished") island count
