-- Numbers that stand first in a text.
use Rattle.std.proofs.Common.{◌≡◌, ◌≤◌, ◌<◌, ◌^◌, ◌/◌, ◌%◌, ◌+◌, ◌*◌, ◌-◌, ℕ, suc, true, List, [], ◌∷◌, ◌++◌, length, take, drop, get_or, eqb, pos, Result, Ok, Err, sym, ap, ◌∙◌, refl, add-one, drop-cons, arith}
use Rattle.std.specs.Prelude.{codes}
use Rattle.std.proofs.lemmas.Int.{ints}
use Rattle.std.specs.List.{slice_split}
use Rattle.std.proofs.lemmas.List.{append-nil, append_assoc, take_all, take_more, take-take, take-append-drop, length-take, length-take-le, length-drop, get_or-take}
use Rattle.std.proofs.lemmas.List.Folds.{list_all-append}
use Rattle.std.proofs.lemmas.List.Sums.{fold_push}
use Rattle.std.specs.Char.{is_ascii_digit}
use Rattle.std.specs.Fmt.{decimal}
use Rattle.mari_units.specs.Numbers.{value_of_digits, printed_cents}
use Rattle.mari_units.specs.Prices.{IsPrice}
use Rattle.mari_units.proofs.Digits.{AreDigits}
use Rattle.mari_lines.specs.declared.fault.FormFault.{FormFault}
use Rattle.mari_lines.specs.declared.fault.FormFault.TheVariants as form_fault
use Rattle.mari_lines.specs.declared.line.Line.TheVariants as line
use Rattle.mari_lines.specs.Ranges.{Between}
use Rattle.mari_lines.specs.Reading.{Lacks, Reads}
use Rattle.mari_lines.specs.Spelling.{line_text, spelling}
use Rattle.mari_lines.proofs.Graphic.{graphic_cents, lacks_space}
use Rattle.mari_lines.proofs.Naturals.{digits_are}
use Rattle.mari_lines.proofs.Printed.{not_below}
use Rattle.mari_lines.proofs.Signs.{hundredths_text, price_of_parts}
use Rattle.mari_lines.proofs.Splits.{first_split, only_split}

-- digits before a place, and what stands from there on
pub number_then : (n place : ℕ) (text : List ℕ) → n < 2 ^ 64 → n ≡ value_of_digits (take place text) → AreDigits (take place text) → 0 < place → place ≤ length text
    → (get_or text 0 0 ≡ 48 → place ≡ 1) → text ≡ decimal n ++ take (length text - place) (drop place text)
number_then n place text small is digits some le alone =
    let front = take place text in
    let long : length front ≡ place = length-take-le place text le in
    let first : get_or front 0 0 ≡ get_or text 0 0 = get_or-take place text 0 0 some in
    let same = digits_are n front small is digits (omega (arith, long, some)) (λ zero. long ∙ alone (sym first ∙ zero)) in
    let rest : length (drop place text) ≤ length text - place = omega (arith, length-drop place text) in
    sym (take-append-drop place text) ∙ ap (λ t. t ++ drop place text) (sym same) ∙ ap (λ t. decimal n ++ t) (sym (take_all (length text - place) (drop place text) rest))

-- a digit after the digits before a place
pub next_digit : (text : List ℕ) (k n d : ℕ) → k < length text → AreDigits (take k text) × (n ≡ value_of_digits (take k text)) → is_ascii_digit (get_or text k 0) ≡ true → d ≡ get_or text k 0 - 48
    → AreDigits (take (k + 1) text) × (10 * n + d ≡ value_of_digits (take (k + 1) text))
next_digit text k n d lt so one is =
    let b = get_or text k 0 in
    let more = take_more text k 0 lt in
    let all : AreDigits (take k text ++ b ∷ []) = list_all-append is_ascii_digit (take k text) (b ∷ []) ∙ rw (so.0, one) refl in
    let step : 10 * n + d ≡ 10 * value_of_digits (take k text) + (b - 48) = omega (arith, so.1, is) in
    let value : 10 * n + d ≡ value_of_digits (take k text ++ b ∷ []) = step ∙ sym (fold_push (λ m c. 10 * m + (c - 48)) 0 (take k text) b) in
    (rw more all, rw more value)

-- a whole number, a point and two digits after it
pub hundredths_then : (n whole tenths ones : ℕ) (text pointed after : List ℕ) → text ≡ decimal whole ++ pointed → pointed ≡ 46 ∷ tenths ∷ ones ∷ after
    → n / 100 ≡ whole → 48 + n % 100 / 10 ≡ tenths → 48 + n % 10 ≡ ones → text ≡ hundredths_text n ++ after
hundredths_then n whole tenths ones text pointed after e f w t o =
    let parts : hundredths_text n ≡ decimal whole ++ 46 ∷ tenths ∷ ones ∷ [] = cc in
    e ∙ ap (λ bs. decimal whole ++ bs) f ∙ sym (append_assoc (decimal whole) (46 ∷ tenths ∷ ones ∷ []) after) ∙ ap (λ bs. bs ++ after) (sym parts)

-- hundredths from 0 to the cap are a price, and written so
pub small_price : (n : ℕ) → n ≤ 9999900 → IsPrice (pos n)
small_price n le = record { low = omega (arith, ints); high = omega (arith, ints) }

pub written_price : (n : ℕ) → printed_cents (pos n) ≡ hundredths_text n
written_price n = price_of_parts (pos n) _ n (hundredths_text n) (hundredths_text n) (not_below n) refl refl refl

pub hundredths_lack : (n : ℕ) → n ≤ 9999900 → Lacks 32 (hundredths_text n)
hundredths_lack n le = lacks_space (hundredths_text n) (rw (sym (written_price n)) (graphic_cents (pos n) (omega arith)))

-- the bytes before a space among a text's first bytes, and what stands after it
pub space_then : (most place : ℕ) (text first : List ℕ) → first ≡ take most text → place < length first → get_or first place 0 ≡ 32
    → text ≡ take place first ++ 32 ∷ take (length text - (place + 1)) (drop (place + 1) text)
space_then most place text first same some is =
    let long = ap length same ∙ length-take most text in
    let within : place < length text = omega (arith, long, some) in
    let few : place < most = omega (arith, long, some) in
    let front : take place first ≡ take place text = ap (take place) same ∙ take-take place most text (omega (arith, few)) in
    let at : get_or text place 0 ≡ 32 = sym (get_or-take most text place 0 few) ∙ ap (λ (bs : List ℕ). get_or bs place 0) (sym same) ∙ is in
    let cut : drop place text ≡ 32 ∷ drop (place + 1) text = rw add-one (drop-cons text place 0 within ∙ ap (λ (b : ℕ). b ∷ drop (suc place) text) at) in
    let rest : length (drop (place + 1) text) ≤ length text - (place + 1) = omega (arith, length-drop (place + 1) text) in
    sym (take-append-drop place text) ∙ ap (λ (bs : List ℕ). take place text ++ bs) cut ∙ ap (λ (bs : List ℕ). bs ++ 32 ∷ drop (place + 1) text) (sym front)
    ∙ ap (λ (bs : List ℕ). take place first ++ 32 ∷ bs) (sym (take_all (length text - (place + 1)) (drop (place + 1) text) rest))

-- a name and a number after the first word, and the line's end after them, are a bid's line
bid_parts : (name number after : List ℕ) → ((name ++ 32 ∷ (number ++ [])) ++ 10 ∷ []) ++ after ≡ name ++ 32 ∷ (number ++ 10 ∷ after)
bid_parts name number after = simp (append_assoc, append-nil)

pub bid_then : (id text fields name number end after : List ℕ) (mw : ℕ) → text ≡ codes "bid " ++ fields → fields ≡ name ++ 32 ∷ number → id ≡ name → number ≡ decimal mw ++ end → end ≡ 10 ∷ after
    → text ≡ line_text (line.Bid (record { id = id; mw = mw })) ++ after
unfolding spelling
bid_then id text fields name number end after mw first words same digits last =
    let parts : fields ≡ id ++ 32 ∷ (decimal mw ++ 10 ∷ after) = cc in
    first ∙ ap (λ (bs : List ℕ). codes "bid " ++ bs) (parts ∙ sym (bid_parts id (decimal mw) after))

-- the words of a text that begins with a word that ends there
pub word_alone : (word text : List ℕ) → text ≡ [] → Lacks 32 word → slice_split (λ b. eqb b 32) (word ++ text) ≡ word ∷ []
word_alone word text none lack = ap (λ bs. slice_split (λ b. eqb b 32) (word ++ bs)) none ∙ ap (λ bs. slice_split (λ b. eqb b 32) bs) (append-nil word) ∙ only_split 32 word lack

pub word_first : (word text : List ℕ) → 0 < length text → get_or text 0 0 ≡ 32 → Lacks 32 word
    → slice_split (λ b. eqb b 32) (word ++ text) ≡ word ∷ slice_split (λ b. eqb b 32) (take (length text - 1) (drop 1 text))
word_first word [] some is lack = absurd (omega arith)
word_first word (b ∷ bs) some is lack =
    let all : take (length (b ∷ bs) - 1) bs ≡ bs = take_all (length (b ∷ bs) - 1) bs (omega arith) in
    ap (λ (c : ℕ). slice_split (λ b. eqb b 32) (word ++ c ∷ bs)) is ∙ first_split 32 word bs lack ∙ ap (λ t. word ∷ slice_split (λ b. eqb b 32) t) (sym all)

-- a number from 0 on
pub from_zero : (greatest : ℕ) (w : List ℕ) (r : Result ℕ FormFault) → Reads (Between 0 greatest) decimal w r → Reads (λ n. n ≤ greatest) decimal w r
from_zero greatest w (Ok n) read = (read.0.1, read.1)
from_zero greatest w (Err form_fault.Formless) none = λ n le e. none n (omega arith, le) e
from_zero greatest w (Err form_fault.Memory) read = tt
