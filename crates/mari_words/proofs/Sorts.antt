-- What a word looks like: `--`, an option with two dashes, one dash and more, or neither.
use Rattle.std.proofs.Common.{◌≡◌, ◌∙◌, ◌==◌, ℕ, Bool, true, false, List, [], ◌∷◌, length, Option, Some, None, IsUtf8, bytes_eq, chars, codes, refl, sym, ap, arith, encode_utf8_all, eqb-true}
use Rattle.std.specs.Char.{encode_utf8}
use Rattle.std.proofs.lemmas.Str.{chars_past_char, encodes-chars}
use Rattle.clap.specs.Lexer.{long_of, name_and_value, short_of}
use Rattle.mari_words.specs.Seen.{Text, is_dashed}

pub data Sort (word : Text) : Type 0 where
  dashes : bytes_eq word (codes "--") ≡ true → is_dashed word ≡ true → Sort word
  named : (name : Text) (value : Option Text) → bytes_eq word (codes "--") ≡ false → long_of word ≡ Some (name, value) → is_dashed word ≡ true → Sort word
  short : (y c : ℕ) (ys cs : List ℕ) → bytes_eq word (codes "--") ≡ false → long_of word ≡ None → short_of word ≡ Some (y ∷ ys) → chars (y ∷ ys) ≡ c ∷ cs
      → is_dashed word ≡ true → Sort word
  plain : bytes_eq word (codes "--") ≡ false → long_of word ≡ None → short_of word ≡ None → is_dashed word ≡ false → Sort word

-- after a dash stand characters
spelled : (bs : List ℕ) → IsUtf8 (45 ∷ bs) → encode_utf8_all (chars bs) ≡ bs
unfolding encode_utf8
spelled bs u =
    let first : chars (45 ∷ bs) ≡ 45 ∷ chars bs = chars_past_char (45 ∷ bs) bs 45 u refl in
    let all : encode_utf8_all (45 ∷ chars bs) ≡ 45 ∷ bs = ap encode_utf8_all (sym first) ∙ encodes-chars (45 ∷ bs) u in
    ap tail all
  where
    tail : List ℕ → List ℕ
    tail [] = []
    tail (x ∷ xs) = xs

has_char : (y : ℕ) (ys cs : List ℕ) → encode_utf8_all cs ≡ y ∷ ys → (c : ℕ) × (ds : List ℕ) × (cs ≡ c ∷ ds)
has_char y ys [] e = let bad : 0 ≡ suc_length = ap length e in absurd (omega arith)
  where
    suc_length : ℕ
    suc_length = length (y ∷ ys)
has_char y ys (c ∷ ds) e = (c, ds, refl)

pub sort_of : (word : Text) → IsUtf8 word → Sort word
sort_of [] u = plain refl refl refl refl
sort_of (x ∷ []) u = go (x == 45) refl
  where
    go : (b : Bool) → (x == 45) ≡ b → Sort (x ∷ [])
    go b e = grind arith
sort_of (x ∷ y ∷ ys) u = go (x == 45) (y == 45) refl refl
  where
    two : (zs : List ℕ) → (x == 45) ≡ true → (y == 45) ≡ true → zs ≡ ys → Sort (x ∷ y ∷ zs)
    two [] e f s = dashes (rw (e, f) refl) (rw e refl)
    two (z ∷ zs) e f s = named (name_and_value (z ∷ zs)).0 (name_and_value (z ∷ zs)).1 (rw (e, f) refl) (rw (e, f) refl) (rw e refl)

    go : (a b : Bool) → (x == 45) ≡ a → (y == 45) ≡ b → Sort (x ∷ y ∷ ys)
    go true true e f = two ys e f refl
    go true false e f =
        let dash : x ≡ 45 = eqb-true _ _ e in
        let found = has_char y ys (chars (y ∷ ys)) (spelled (y ∷ ys) (rw dash at u)) in
        short y found.0 ys found.1 (rw (e, f) refl) (rw (e, f) refl) (rw (e, f) refl) found.2 (rw e refl)
    go false b e f = plain (rw e refl) (rw e refl) (rw e refl) (rw e refl)
