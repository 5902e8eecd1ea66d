-- The lines of one more run.
use Rattle.std.proofs.Common.{◌≡◌, ◌∙◌, ◌+◌, ◌++◌, ◌∷◌, [], ℕ, List, ap, sym, map-id, append_assoc, append-nil, arith}
use Rattle.std.specs.List.{flat_map, range_with_len}
use Rattle.std.proofs.lemmas.Grind.{flat_map-append}
use Rattle.std.proofs.lemmas.List.FromFn.{map-range_with_len_more}

range-more : (a n j : ℕ) → a + n ≡ j → range_with_len a (n + 1) ≡ range_with_len a n ++ j ∷ []
range-more a n j e =
    sym (map-id (range_with_len a (n + 1))) ∙ map-range_with_len_more (λ k. k) a n j e ∙ ap (λ ks. ks ++ j ∷ []) (map-id (range_with_len a n))

pub runs-more : {X Y : Type 0} (line : X → List Y) (records : ℕ → List X) (before : List Y) (run : ℕ)
    → (before ++ flat_map line (flat_map records (range_with_len 1 run))) ++ flat_map line (records (run + 1))
    ≡ before ++ flat_map line (flat_map records (range_with_len 1 (run + 1)))
runs-more line records before run =
    append_assoc before (flat_map line (flat_map records (range_with_len 1 run))) (flat_map line (records (run + 1)))
    ∙ ap (λ lines. before ++ lines) (sym (flat_map-append line (flat_map records (range_with_len 1 run)) (records (run + 1)))
    ∙ ap (flat_map line) (ap (λ last. flat_map records (range_with_len 1 run) ++ last) (sym (append-nil (records (run + 1))))
    ∙ sym (flat_map-append records (range_with_len 1 run) ((run + 1) ∷ []))
    ∙ ap (flat_map records) (sym (range-more 1 run (run + 1) (omega arith)))))
