-- The line of a bid, as it is put together from four pieces.
use Rattle.std.proofs.Common.{◌≡◌, ◌∙◌, ◌+◌, ◌-◌, ◌%◌, ℕ, ℤ, Bool, List, [], ◌∷◌, ◌++◌, append_assoc, decimal, sym, ap}
use Rattle.std.specs.List.{join_with_byte}
use Rattle.mari_units.specs.Numbers.{printed_cents}
use Rattle.mari_rows.specs.Printed.{line_of}
use Rattle.mari_scenario.specs.Draws.{draw}
use Rattle.mari_scenario.specs.Pages.{bid, bid_least, bid_price, bid_text, direction, greatest, is_both, is_up, kind, provider, zone}

-- two fields with a comma after each, and what follows
two : (old a b rest : List ℕ) → (old ++ a ++ 44 ∷ b ++ 44 ∷ []) ++ rest ≡ old ++ (a ++ 44 ∷ (b ++ 44 ∷ rest))
two old a b rest =
    append_assoc (old ++ a ++ 44 ∷ b) (44 ∷ []) rest ∙ append_assoc (old ++ a) (44 ∷ b) (44 ∷ rest) ∙ append_assoc old a (44 ∷ (b ++ 44 ∷ rest))

-- and three
three : (old a b c rest : List ℕ) → (old ++ a ++ 44 ∷ b ++ 44 ∷ c ++ 44 ∷ []) ++ rest ≡ old ++ (a ++ 44 ∷ (b ++ 44 ∷ (c ++ 44 ∷ rest)))
three old a b c rest =
    append_assoc (old ++ a ++ 44 ∷ b ++ 44 ∷ c) (44 ∷ []) rest ∙ append_assoc (old ++ a ++ 44 ∷ b) (44 ∷ c) (44 ∷ rest)
    ∙ append_assoc (old ++ a) (44 ∷ b) (44 ∷ (c ++ 44 ∷ rest)) ∙ append_assoc old a (44 ∷ (b ++ 44 ∷ (c ++ 44 ∷ rest)))

joined : (old a b c d e f g h j : List ℕ) → (((old ++ a ++ 44 ∷ b ++ 44 ∷ []) ++ c ++ 44 ∷ d ++ 44 ∷ e ++ 44 ∷ []) ++ f ++ 44 ∷ g ++ 44 ∷ []) ++ line_of (h ∷ j ∷ [])
    ≡ old ++ line_of (a ∷ b ∷ c ∷ d ∷ e ∷ f ∷ g ∷ h ∷ j ∷ [])
joined old a b c d e f g h j =
    let first = old ++ a ++ 44 ∷ b ++ 44 ∷ [] in
    let second = first ++ c ++ 44 ∷ d ++ 44 ∷ e ++ 44 ∷ [] in
    let last = join_with_byte 44 (h ∷ j ∷ []) in
    sym (append_assoc (second ++ f ++ 44 ∷ g ++ 44 ∷ []) last (10 ∷ []))
    ∙ ap (λ text. text ++ 10 ∷ []) (two second f g last ∙ three first c d e (join_with_byte 44 (f ∷ g ∷ h ∷ j ∷ [])) ∙ two old a b (join_with_byte 44 (c ∷ d ∷ e ∷ f ∷ g ∷ h ∷ j ∷ [])))
    ∙ append_assoc old (join_with_byte 44 (a ∷ b ∷ c ∷ d ∷ e ∷ f ∷ g ∷ h ∷ j ∷ [])) (10 ∷ [])

-- what is there after each piece, where the pieces are made of what the draws give
pub put-together : (t j x : ℕ) (before named placed offered done : List ℕ) (at : ℕ) (up : Bool) (cents : ℤ) (least most : ℕ) (both : Bool)
    → at ≡ 1 + draw 1 8 x → up ≡ is_up x → cents ≡ bid_price x → least ≡ bid_least j most → most ≡ greatest x → both ≡ is_both x
    → named ≡ before ++ bid t j ++ 44 ∷ provider ((j - 1) % 10 + 1) ++ 44 ∷ []
    → placed ≡ named ++ zone at ++ 44 ∷ decimal t ++ 44 ∷ direction up ++ 44 ∷ []
    → offered ≡ placed ++ printed_cents cents ++ 44 ∷ decimal least ++ 44 ∷ []
    → done ≡ offered ++ line_of (decimal most ∷ kind both ∷ [])
    → done ≡ before ++ bid_text t j x
put-together t j x before named placed offered done at up cents least most both a u c l m b n p o d =
    rw (d, o, p, n, a, u, c, l, m, b)
    (joined before (bid t j) (provider ((j - 1) % 10 + 1)) (zone (1 + draw 1 8 x)) (decimal t) (direction (is_up x)) (printed_cents (bid_price x)) (decimal (bid_least j (greatest x)))
    (decimal (greatest x)) (kind (is_both x)))
