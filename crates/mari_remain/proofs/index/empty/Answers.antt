use Rattle.std.proofs.Common.{◌≡◌, ◌++◌, ◌∷◌, [], List, ℕ, sym, rules, zero-add}
use Rattle.std.proofs.lemmas.List.FromFn.{map-range_with_len_more}
use Rattle.mari_remain.proofs.index.empty.Goals as goal

pub loop-key-preserved : goal.loop-key-preserved
loop-key-preserved c =
    let none : ℕ → List ℕ = λ key. [] in
    let pushed : c.push.new.self.items ≡ c.loop-key.made.items ++ c.new.result ∷ [] = search rules in
    rw (pushed, c.loop-key.invariant, c.new.ensures) (sym (map-range_with_len_more none 0 c.loop-key.key c.loop-key.key (zero-add c.loop-key.key)))
