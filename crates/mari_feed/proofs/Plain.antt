-- Values whose text is plain: whole numbers of 64 bits, texts that need no escape, and objects with their keys in order.
-- Such a text is graphic ASCII, so it stands on one line, and it is read back as its value.
use Rattle.std.proofs.Common.{◌≡◌, ◌∙◌, ◌≤◌, ◌<◌, ◌^◌, ◌==◌, ◌&&◌, ℕ, zero, suc, Bool, true, false, not, ltb, List, [], ◌∷◌, ◌++◌, pos, negsuc, Some, Greater, decimal, IsAscii, refl, sym, ap, subst, arith, append-nil}
use Rattle.std.specs.Prelude.{⊤, option_map, option_and_then}
use Rattle.std.specs.List.{list_all}
use Rattle.std.specs.Ordering.{nat_cmp}
use Rattle.std.specs.Cmp.Lexicographic.{slice_cmp}
use Rattle.std.specs.Str.{IsUtf8}
use Rattle.std.proofs.lemmas.Bool.{and_parts}
use Rattle.std.proofs.lemmas.Bool.Decides.{nat_tests}
use Rattle.std.proofs.lemmas.List.Folds.{list_all-append}
use Rattle.std.proofs.lemmas.Fmt.{digits_decimal}
use Rattle.std.proofs.lemmas.Str.{IsUtf8-from_ascii}
use Rattle.json.specs.Json as json
use Rattle.json.specs.Lex.{tokens}
use Rattle.json.specs.Print.{IsNumber, escape, quoted}
use Rattle.json.specs.Tree as tree
use Rattle.json.proofs.Printed.Decimals.{IsNumber-decimal, IsNumber-signed_decimal}
use Rattle.json.proofs.Printed.Strings.{escape_byte_plain}
use Rattle.json.proofs.Printed.Tokens.{tokens-print}
use Rattle.json.proofs.Printed.Trees.{ArePrintable-json_tokens, value-json_tokens}
use Rattle.serde_json.specs.Data.{Num, unsigned, negative, float, Data, null, boolean, number, string, array, object, Items, no_items, item, Members, no_members, member, put, depth, items_depth, members_depth}
use Rattle.serde_json.specs.Read.{max_depth, number_of, of_items, of_json, of_members, read}
use Rattle.serde_json.specs.Written.{comma_if, compact_text, items_outline, items_text, members_outline, members_text, number_text, outline}
use Rattle.serde_json.proofs.Numbers.{number_of-decimal, number_of-negative}
use Rattle.serde_json.proofs.Texts.{print-outline}
use Rattle.mari_units.proofs.Digits.{own as numeral}
use Rattle.mari_lines.proofs.Graphic.{lacks_feed, weaken}
use Rattle.mari_lines.specs.Reading.{Lacks}
use Rattle.mari_feed.specs.Plain.{is_plain_byte, is_plain_text}

-- ---- which values

abbrev pub IsWhole : Num → Type 0
IsWhole (unsigned n) = n < 2 ^ 64
IsWhole (negative (pos n)) = ⊥
IsWhole (negative (negsuc n)) = n < 2 ^ 62
IsWhole (float x) = ⊥

-- the key stands after those of all these members
abbrev pub SortsAfter : List ℕ → Members → Type 0
SortsAfter k no_members = ⊤
SortsAfter k (member l d ms) = (slice_cmp nat_cmp k l ≡ Greater) × SortsAfter k ms

-- the members with one more
abbrev pub with_last : Members → List ℕ → Data → Members
with_last no_members k d = member k d no_members
with_last (member l e ms) k d = member l e (with_last ms k d)

abbrev mutual
  pub IsPlain : Data → Type 0
  IsPlain null = ⊤
  IsPlain (boolean b) = ⊤
  IsPlain (number n) = IsWhole n
  IsPlain (string s) = is_plain_text s ≡ true
  IsPlain (array ds) = ArePlain ds
  IsPlain (object ms) = PlainAfter no_members ms

  pub ArePlain : Items → Type 0
  ArePlain no_items = ⊤
  ArePlain (item d ds) = IsPlain d × ArePlain ds

  -- further members after some
  pub PlainAfter : Members → Members → Type 0
  PlainAfter before no_members = ⊤
  PlainAfter before (member k d ms) = (is_plain_text k ≡ true) × SortsAfter k before × IsPlain d × PlainAfter (with_last before k d) ms

-- ---- the text is graphic ASCII

abbrev pub is_text_byte : ℕ → Bool
is_text_byte b = ltb 32 b && ltb b 128

abbrev IsLine : List ℕ → Type 0
IsLine s = list_all is_text_byte s ≡ true

both : (xs ys : List ℕ) → IsLine xs → IsLine ys → IsLine (xs ++ ys)
both xs ys a b = list_all-append is_text_byte xs ys ∙ rw (a, b) refl

plain_line : (s : List ℕ) → is_plain_text s ≡ true → IsLine s
plain_line s e = grind (arith, weaken, nat_tests)

escape_plain : (s : List ℕ) → is_plain_text s ≡ true → escape s ≡ s
escape_plain [] e = refl
escape_plain (b ∷ s) e =
    let here = and_parts (is_plain_byte b) (list_all is_plain_byte s) e in
    let most = and_parts (ltb 32 b && ltb b 128 && not (b == 34)) (not (b == 92)) here.0 in
    let low : 32 ≤ b = grind (arith, nat_tests) in
    (λ i. escape_byte_plain b (no_quote b here.0) (no_slash b here.0) low i ++ escape_plain s here.1 i)
  where
    no_quote : (b : ℕ) → is_plain_byte b ≡ true → b ≡ 34 → ⊥
    no_quote b h e = grind (arith, nat_tests)

    no_slash : (b : ℕ) → is_plain_byte b ≡ true → b ≡ 92 → ⊥
    no_slash b h e = grind (arith, nat_tests)

-- so in quotes it is the text itself
pub quoted_plain : (s : List ℕ) → is_plain_text s ≡ true → quoted s ≡ 34 ∷ (s ++ 34 ∷ [])
quoted_plain s e = ap (λ (t : List ℕ). 34 ∷ (t ++ 34 ∷ [])) (escape_plain s e)

quoted_line : (s : List ℕ) → is_plain_text s ≡ true → IsLine (quoted s)
quoted_line s e = subst IsLine (sym (quoted_plain s e)) (both (34 ∷ []) (s ++ 34 ∷ []) refl (both s (34 ∷ []) (plain_line s e) refl))

digit_line : (n : ℕ) → n < 2 ^ 64 → IsLine (decimal n)
digit_line n small = grind (arith, weaken, digits_decimal, numeral, nat_tests)

number_line : (n : Num) → IsWhole n → IsLine (number_text n)
number_line n w = grind (arith, digit_line, both)

comma_line : (later : Bool) → IsLine (comma_if later)
comma_line true = refl
comma_line false = refl

mutual
  text_line : (d : Data) → IsPlain d → IsLine (compact_text d)
  text_line null h = refl
  text_line (boolean true) h = refl
  text_line (boolean false) h = refl
  text_line (number n) h = number_line n h
  text_line (string s) h = quoted_line s h
  text_line (array ds) h = both (91 ∷ []) (items_text false ds) refl (items_line false ds h)
  text_line (object ms) h = both (123 ∷ []) (members_text false ms) refl (members_line false no_members ms h)

  items_line : (later : Bool) (ds : Items) → ArePlain ds → IsLine (items_text later ds)
  items_line later no_items h = refl
  items_line later (item d ds) h =
      both (comma_if later) (compact_text d ++ items_text true ds) (comma_line later)
      (both (compact_text d) (items_text true ds) (text_line d h.0) (items_line true ds h.1))

  members_line : (later : Bool) (before ms : Members) → PlainAfter before ms → IsLine (members_text later ms)
  members_line later before no_members h = refl
  members_line later before (member k d ms) h =
      both (comma_if later) (quoted k ++ 58 ∷ (compact_text d ++ members_text true ms)) (comma_line later)
      (both (quoted k) (58 ∷ (compact_text d ++ members_text true ms)) (quoted_line k h.0)
      (both (58 ∷ []) (compact_text d ++ members_text true ms) refl
      (both (compact_text d) (members_text true ms) (text_line d h.2) (members_line true (with_last before k d) ms h.3))))

pub one_line : (d : Data) → IsPlain d → Lacks 10 (compact_text d)
one_line d h = lacks_feed (compact_text d) (weaken is_text_byte (λ b. ltb 32 b) (λ b e. (and_parts (ltb 32 b) (ltb b 128) e).0) (compact_text d) (text_line d h))

line_ascii : (s : List ℕ) → IsLine s → IsAscii s
line_ascii [] e i = omega arith
line_ascii (b ∷ s) e zero = let here : ltb b 128 ≡ true = (and_parts (ltb 32 b) (ltb b 128) (and_parts (is_text_byte b) (list_all is_text_byte s) e).0).1 in grind (arith, nat_tests)
line_ascii (b ∷ s) e (suc i) = line_ascii s (and_parts (is_text_byte b) (list_all is_text_byte s) e).1 i

pub plain_utf8 : (d : Data) → IsPlain d → IsUtf8 (compact_text d)
plain_utf8 d h = IsUtf8-from_ascii (compact_text d) (line_ascii (compact_text d) (text_line d h))

-- ---- the text is read back

put_last : (k : List ℕ) (d : Data) (before : Members) → SortsAfter k before → put k d before ≡ with_last before k d
put_last k d no_members h = refl
put_last k d (member l e ms) h = rw h.0 (ap (λ rest. member l e rest) (put_last k d ms h.1))

abbrev joined : Members → Members → Members
joined no_members ms = ms
joined (member l e before) ms = member l e (joined before ms)

joined_last : (before : Members) (k : List ℕ) (d : Data) (ms : Members) → joined (with_last before k d) ms ≡ joined before (member k d ms)
joined_last no_members k d ms = refl
joined_last (member l e before) k d ms = ap (λ rest. member l e rest) (joined_last before k d ms)

joined_all : (before : Members) → joined before no_members ≡ before
joined_all no_members = refl
joined_all (member l e before) = ap (λ rest. member l e rest) (joined_all before)

number_back : (n : Num) → IsWhole n → option_map number (number_of (number_text n)) ≡ Some (number n)
number_back n w = grind (arith, number_of-decimal, number_of-negative)

mutual
  value_back : (d : Data) → IsPlain d → of_json (outline d) ≡ Some d
  value_back null h = refl
  value_back (boolean b) h = refl
  value_back (number n) h = number_back n h
  value_back (string s) h = refl
  value_back (array ds) h = ap (option_map array) (items_back ds h)
  value_back (object ms) h = ap (option_map object) (members_back no_members ms h)

  items_back : (ds : Items) → ArePlain ds → of_items (items_outline ds) ≡ Some ds
  items_back no_items h = refl
  items_back (item d ds) h = ap (option_and_then (λ d. option_map (item d) (of_items (items_outline ds)))) (value_back d h.0) ∙ ap (option_map (item d)) (items_back ds h.1)

  members_back : (before ms : Members) → PlainAfter before ms → of_members (members_outline ms) before ≡ Some (joined before ms)
  members_back before no_members h = ap (λ ms. Some ms) (sym (joined_all before))
  members_back before (member k d ms) h =
      ap (option_and_then (λ e. of_members (members_outline ms) (put k e before))) (value_back d h.2)
      ∙ ap (of_members (members_outline ms)) (put_last k d before h.1)
      ∙ members_back (with_last before k d) ms h.3
      ∙ ap (λ ms. Some ms) (joined_last before k d ms)

number_is : (n : Num) → IsWhole n → IsNumber (number_text n)
number_is (unsigned n) w = IsNumber-decimal n w
number_is (negative (negsuc n)) w = IsNumber-signed_decimal (negsuc n) (omega (arith, w))
number_is n w = grind arith

mutual
  numbers : (d : Data) → IsPlain d → tree.HasNumbers (outline d)
  numbers null h = tt
  numbers (boolean b) h = tt
  numbers (number n) h = number_is n h
  numbers (string s) h = tt
  numbers (array ds) h = items_numbers ds h
  numbers (object ms) h = members_numbers no_members ms h

  items_numbers : (ds : Items) → ArePlain ds → tree.ItemsHaveNumbers (items_outline ds)
  items_numbers no_items h = tt
  items_numbers (item d ds) h = (numbers d h.0, items_numbers ds h.1)

  members_numbers : (before ms : Members) → PlainAfter before ms → tree.MembersHaveNumbers (members_outline ms)
  members_numbers before no_members h = tt
  members_numbers before (member k d ms) h = (numbers d h.2, members_numbers (with_last before k d) ms h.3)

mutual
  same_depth : (d : Data) → tree.depth (outline d) ≡ depth d
  same_depth null = refl
  same_depth (boolean b) = refl
  same_depth (number n) = refl
  same_depth (string s) = refl
  same_depth (array ds) = ap suc (items_same_depth ds)
  same_depth (object ms) = ap suc (members_same_depth ms)

  items_same_depth : (ds : Items) → tree.items_depth (items_outline ds) ≡ items_depth ds
  items_same_depth no_items = refl
  items_same_depth (item d ds) = rw (same_depth d, items_same_depth ds) refl

  members_same_depth : (ms : Members) → tree.members_depth (members_outline ms) ≡ members_depth ms
  members_same_depth no_members = refl
  members_same_depth (member k d ms) = rw (same_depth d, members_same_depth ms) refl

pub read_plain : (d : Data) → IsPlain d → depth d ≤ max_depth → read (compact_text d) ≡ Some d
read_plain d h shallow =
    let j = outline d in
    let same : tokens (compact_text d) ≡ tree.json_tokens j = ap tokens (sym (print-outline d)) ∙ tokens-print (tree.json_tokens j) (ArePrintable-json_tokens j (numbers d h)) in
    ap (λ r. option_and_then of_json (option_and_then (λ p. json.if_last p.0 p.1) r))
    (ap (json.value max_depth) (same ∙ sym (append-nil (tree.json_tokens j))) ∙ value-json_tokens j max_depth [] (omega (arith, same_depth d, shallow)))
    ∙ value_back d h
