-- First parts of a piece that is appended piece by piece.
use Rattle.std.proofs.Common.{◌≡◌, ◌∙◌, sym, ℕ, List, [], ◌++◌, refl, ap}
use Rattle.std.proofs.lemmas.List.{append-nil, append_assoc}
use Rattle.mari_units.specs.Appending.{AppendsPart}

-- none of it yet
pub none_of : (piece before after : List ℕ) → after ≡ before → AppendsPart piece before after
none_of piece before after same = record { part = []; rest = piece; split = refl; appended = same ∙ sym (append-nil before) }

-- a part of its first piece
pub begun : (first more before after : List ℕ) → AppendsPart first before after → AppendsPart (first ++ more) before after
begun first more before after a = record { part = a.part; rest = a.rest ++ more; split = sym (append_assoc a.part a.rest more) ∙ ap (λ t. t ++ more) a.split; appended = a.appended }

-- its first piece, and a part of what follows
pub gone_on : (first more before between after : List ℕ) → between ≡ before ++ first → AppendsPart more between after → AppendsPart (first ++ more) before after
gone_on first more before between after e a = record {
  part = first ++ a.part;
  rest = a.rest;
  split = append_assoc first a.part a.rest ∙ ap (λ t. first ++ t) a.split;
  appended = a.appended ∙ ap (λ t. t ++ a.part) e ∙ append_assoc before first a.part;
}
