-- No line is long.
use Rattle.std.proofs.Common.{◌≡◌, ◌≤◌, ℕ, suc, ◌*◌, ◌+◌, ◌/◌, ◌%◌, Bool, true, false, List, [], ◌∷◌, ◌++◌, length, int_lt, pos, ap, length-append, arith}
use Rattle.std.specs.Prelude.{nat_le, ◌&&◌}
use Rattle.std.specs.List.{AllByRecursion, list_all}
use lib.Chars.{codes}
use Rattle.std.specs.Fmt.{decimal}
use Rattle.std.specs.Int.RustNames.{unsigned_abs}
use Rattle.std.proofs.lemmas.Bool.{and_parts}
use Rattle.std.proofs.lemmas.Fmt.{length-decimal-le_wide}
use Rattle.mari_units.specs.Names.{IsName, is_name_byte}
use Rattle.mari_units.specs.Numbers.{printed_ten_thousandths, sign_of}
use Rattle.mari_units.specs.declared.numbers.Cents.{Cents}
use Rattle.mari_units.specs.declared.numbers.Quarters.{Quarters}
use Rattle.mari_market.specs.Price.{IsCapped}
use Rattle.mari_lines.specs.Ranges.{IsMoney}
use Rattle.mari_lines.specs.Spelling.{kind_text, money_text, price_text, spaced}
use Rattle.mari_lines.specs.declared.line.TheConstants.{MOST_LINE}
use Rattle.mari_lines.proofs.Lengths.{line_short, price_size}
use Rattle.mari_reach_lines.specs.Ranges.{IsClaim, ReachInRange}
use Rattle.mari_reach_lines.specs.Spelling.{claim_fields, reach_fields, reach_spelling}
use Rattle.mari_reach_lines.specs.declared.line.Claim.{Claim}
use Rattle.mari_reach_lines.specs.declared.line.Claim.TheVariants.{First, Within}
use Rattle.mari_reach_lines.specs.declared.line.ReachLine.{ReachLine}
use Rattle.mari_reach_lines.specs.declared.line.ReachLine.TheVariants as reach

-- a word of at most 40 bytes
abbrev Short : List ℕ → Type 0
Short t = length t ≤ 40

digits : (n : ℕ) → n ≤ 100000000000000000000 → length (decimal n) ≤ 21
digits n le = length-decimal-le_wide 21 n (omega arith) (omega (arith, le)) (omega (arith, le))

sign : (b : Bool) → length (sign_of b) ≤ 1
sign true = omega arith
sign false = omega arith

name : (t : List ℕ) → IsName t → Short t
name t h =
    let first = and_parts (nat_le 1 (length t) && nat_le (length t) 16) (list_all is_name_byte t) h in
    let second = and_parts (nat_le 1 (length t)) (nat_le (length t) 16) first.0 in
    grind (arith, second.1)

number : (n : ℕ) → n ≤ 50000 → Short (decimal n)
number n le = let d = digits n (omega (arith, le)) in omega (arith, d)

kind : (direct : Bool) → Short (kind_text direct)
kind true = omega arith
kind false = omega arith

money : (q : Quarters) → IsMoney q → Short (money_text q)
money q h =
    let n = 25 * unsigned_abs q.0 in
    let d = digits (n / 10000) (omega (arith, h)) in
    let s = sign (int_lt q.0 (pos 0)) in
    let e = length-append (sign_of (int_lt q.0 (pos 0))) (printed_ten_thousandths n) in
    let f = length-append (decimal (n / 10000)) (46 ∷ (48 + n % 10000 / 1000) ∷ (48 + n % 1000 / 100) ∷ (48 + n % 100 / 10) ∷ (48 + n % 10) ∷ []) in
    omega (arith, e, f, d, s)

price : (c : Cents) → IsCapped c → Short (price_text c)
price c h =
    let n = unsigned_abs c.0 in
    let size = price_size c.0 h in
    let d = digits (n / 100) (omega (arith, size)) in
    let s = sign (int_lt c.0 (pos 0)) in
    let e = length-append (sign_of (int_lt c.0 (pos 0)) ++ decimal (n / 100)) (46 ∷ (48 + n % 100 / 10) ∷ (48 + n % 10) ∷ []) in
    let f = length-append (sign_of (int_lt c.0 (pos 0))) (decimal (n / 100)) in
    omega (arith, e, f, d, s)

claim : (c : Claim) → IsClaim c → AllByRecursion Short (claim_fields c)
claim First r = (omega arith, tt)
claim (Within gap) r = (omega arith, (money gap r.0, tt))

words : (ts : List (List ℕ)) → AllByRecursion Short ts → length (spaced ts) ≤ length ts * 41
words [] a = omega arith
words (t ∷ ts) a =
    let more = words ts a.1 in
    let e : length (spaced (t ∷ ts)) ≡ suc (length t + length (spaced ts)) = ap suc (length-append t (spaced ts)) in
    omega (arith, e, a.0, more)

line : (w : List ℕ) (ts : List (List ℕ)) → length w ≤ 6 → AllByRecursion Short ts → length ts ≤ 5 → length (w ++ spaced ts) ≤ MOST_LINE
line w ts few a le = let ws = words ts a in omega (arith, length-append w (spaced ts), few, ws, le)

claim_words : (c : Claim) → length (claim_fields c) ≤ 2
claim_words First = omega arith
claim_words (Within gap) = omega arith

pub reach_line_short : (y : ReachLine) → ReachInRange y → length (reach_spelling y) ≤ MOST_LINE
reach_line_short (reach.Shared l) r = line_short l r.0
reach_line_short (reach.Head date quarters budget) r =
    line (codes "mari") (reach_fields (reach.Head date quarters budget)) (omega arith)
    (omega arith, (name date r.0.0, (number quarters (omega (arith, r.1.1)), (number budget (omega (arith, r.2.1)), tt)))) (omega arith)
reach_line_short (reach.Run h c) r =
    let few = claim_words c in
    line (codes "run") (reach_fields (reach.Run h c)) (omega arith)
    (number h.run (omega (arith, r.0.0.1)), (number h.quarter (omega (arith, r.0.1.1)), (kind h.direct, claim c r.1))) (omega (arith, few))
reach_line_short (reach.Branch bid) r = line (codes "branch") (bid ∷ []) (omega arith) (name bid r, tt) (omega arith)
reach_line_short (reach.Price zone p) r = line (codes "price") (zone ∷ price_text p ∷ []) (omega arith) (name zone r.0, (price p r.1, tt)) (omega arith)
reach_line_short reach.Void r = omega arith
