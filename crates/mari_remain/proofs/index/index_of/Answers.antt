use Rattle.std.proofs.Common.{◌≡◌, ◌∙◌, ◌++◌, ℕ, List, [], ap, get_or, sym, arith, length, zero-add, drop, rules}
use Rattle.std.proofs.lemmas.List.{append-nil}
use Rattle.std.proofs.lemmas.List.FromFn.{fill_by_all, get_or-map-range_with_len, length-map-range_with_len}
use Rattle.std.proofs.Math.ListN.{drop_of_length-le}
use Rattle.mari_remain.specs.Lists.{places_of}
use Rattle.mari_remain.proofs.index.index_of.Goals as goal

pub loop-place-init : goal.loop-place-init
loop-place-init c =
    let none : ℕ → List ℕ = λ key. [] in
    let made = c.in_ok-index.ensures in
    record {
      sized = ap length made ∙ length-map-range_with_len none 0 c.args.count;
      whole = λ key l. ap (λ (lists : List (List ℕ)). get_or lists key [] ++ places_of c.args.keys.now key) made
          ∙ ap (λ (list : List ℕ). list ++ places_of c.args.keys.now key) (get_or-map-range_with_len none 0 c.args.count key key [] l (zero-add key));
    }

pub returns : goal.returns
returns c =
    let keys = c.args.keys.now in
    let lists : List (List ℕ) = c.loop-place.index.items in
    fill_by_all (places_of keys) lists c.args.count [] c.loop-place.invariant.sized
    (λ key l.
    let none : drop c.loop-place.place keys ≡ [] = drop_of_length-le keys (search (rules, arith)) in
    let whole = rw none at (c.loop-place.invariant.whole key l) in
    sym (append-nil (get_or lists key [])) ∙ whole)
