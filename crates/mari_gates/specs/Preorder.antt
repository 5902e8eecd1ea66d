-- The words that wait in a walk through all words in preorder.
use Rattle.std.specs.Prelude.{if◌then◌else◌, Bool, true, ℕ, zero, suc, List, [], ◌∷◌, ◌++◌, length, take, Option, Some, None}
use Rattle.mari_market.specs.declared.market.GateInfo.{GateInfo}
use Rattle.mari_market.specs.declared.prefix.Prefix.{Prefix}
use Rattle.mari_market.specs.Prefix.{word_of, opens_in, may_open}

-- the word that opens the next gate, where that may be
abbrev pub opened_child : List GateInfo → List Bool → List (List Bool)
opened_child gates word = if may_open gates word (length word) then (word ++ true ∷ []) ∷ [] else []

-- the words that wait after the first n decisions of a word, in preorder: the open children of those that it closes
abbrev pub waiting : List GateInfo → List Bool → ℕ → List (List Bool)
waiting gates word zero = []
waiting gates word (suc n) = (if opens_in word n then [] else opened_child gates (take n word)) ++ waiting gates word n

-- the words that wait after a word
abbrev pub waiting_after : List GateInfo → List Bool → List (List Bool)
waiting_after gates word = waiting gates word (length word)

-- the words that are left where a prefix is the next, or none is
abbrev pub left_at : List GateInfo → Option Prefix → List (List Bool)
left_at gates None = []
left_at gates (Some x) = word_of x ∷ waiting_after gates (word_of x)
