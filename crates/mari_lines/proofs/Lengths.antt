-- No line in range is long.
use Rattle.std.proofs.Common.{◌≡◌, ◌≤◌, ℕ, ◌+◌, ◌*◌, suc, Bool, true, false, List, [], ◌∷◌, ◌++◌, map, length, ℤ, int_lt, pos, negsuc, neg_ℤ, ◌≤ℤ◌, ◌/◌, ◌%◌, ap, length-append, arith}
use Rattle.std.specs.List.{All, AllByRecursion}
use Rattle.std.specs.Fmt.{decimal, signed_decimal}
use Rattle.std.specs.Int.RustNames.{unsigned_abs}
use Rattle.std.proofs.lemmas.Fmt.{length-decimal-le, length-decimal-le_wide}
use Rattle.std.proofs.Math.Nat.{mul-le-mul_left}
use Rattle.std.proofs.lemmas.Int.{ints}
use Rattle.mari_units.specs.Numbers.{sign_of, printed_cents, printed_ten_thousandths, Within}
use Rattle.std.specs.Prelude.{nat_le, ◌&&◌}
use Rattle.std.specs.List.{list_all}
use Rattle.mari_units.specs.Names.{IsName, is_name_byte}
use Rattle.std.proofs.lemmas.Bool.{and_parts}
use Rattle.mari_units.specs.declared.numbers.Cents.{Cents}
use Rattle.mari_units.specs.declared.numbers.Quarters.{Quarters}
use Rattle.mari_market.specs.Price.{IsCapped, IsPrice}
use Rattle.mari_market.specs.declared.certificate.CutSide.{CutSide}
use Rattle.mari_market.specs.declared.certificate.CutSide.TheVariants.{Out, In}
use Rattle.mari_lines.specs.declared.line.MoneyLine.{MoneyLine}
use Rattle.mari_lines.specs.declared.line.AmountLine.{AmountLine}
use Rattle.mari_lines.specs.declared.line.Keyword.{Keyword}
use Rattle.mari_lines.specs.declared.line.Keyword.TheVariants as first
use Rattle.mari_lines.specs.declared.line.Line.{Line}
use Rattle.mari_lines.specs.declared.line.Line.TheVariants as line
use Rattle.mari_lines.specs.Ranges.{InRange, IsMoney, IsMoneyLine, IsAmountLine, IsZone}
use Rattle.mari_lines.specs.Spelling.{keyword_of, keyword_text, fields, spaced, spelling, price_text, money_text, zone_text, kind_text, side_text, money_fields, amount_fields}
use Rattle.mari_lines.specs.declared.line.TheConstants.{MOST_LINE}
use Rattle.mari_lines.proofs.Gathered.{head_of, tail_of, rising_zones}

keyword_short : (k : Keyword) → length (keyword_text k) ≤ 14
keyword_short first.Mari = omega arith
keyword_short first.Run = omega arith
keyword_short first.Welfare = omega arith
keyword_short first.Zone = omega arith
keyword_short first.Border = omega arith
keyword_short first.Bid = omega arith
keyword_short first.Demand = omega arith
keyword_short first.Tree = omega arith
keyword_short first.Branch = omega arith
keyword_short first.Bound = omega arith
keyword_short first.Cut = omega arith
keyword_short first.Conflict = omega arith
keyword_short first.At = omega arith
keyword_short first.Flows = omega arith
keyword_short first.Mws = omega arith
keyword_short first.Operator = omega arith
keyword_short first.Provider = omega arith
keyword_short first.End = omega arith
keyword_short first.TotalOperator = omega arith
keyword_short first.TotalProvider = omega arith
keyword_short first.Done = omega arith

-- a field after a space, and more of them
spaced_more : (t : List ℕ) (ts : List (List ℕ)) (m n : ℕ) → length t ≤ m → length (spaced ts) ≤ n → length (spaced (t ∷ ts)) ≤ suc m + n
spaced_more t ts m n a b = let e : length (spaced (t ∷ ts)) ≡ suc (length t + length (spaced ts)) = ap suc (length-append t (spaced ts)) in omega (arith, e, a, b)

-- fields of one kind
listed_short : {X : Type 0} (R : X → Type 0) (f : X → List ℕ) (k : ℕ) → ((x : X) → R x → length (f x) ≤ k) → (xs : List X) → All R xs → length (spaced (map f xs)) ≤ length xs * suc k
listed_short R f k short [] a = omega arith
listed_short R f k short (x ∷ xs) a =
    let more = listed_short R f k short xs (tail_of R x xs a) in
    let now = spaced_more (f x) (map f xs) k (length xs * suc k) (short x (head_of R x xs a)) more in
    grind (arith, now)

name_short : (t : List ℕ) → IsName t → length t ≤ 16
name_short t h =
    let first = and_parts (nat_le 1 (length t) && nat_le (length t) 16) (list_all is_name_byte t) h in
    let second = and_parts (nat_le 1 (length t)) (nat_le (length t) 16) first.0 in
    grind (arith, second.1)

number_short : (n : ℕ) → n ≤ 99999 → length (decimal n) ≤ 5
number_short n le = length-decimal-le 5 n (omega arith) (omega (arith, le)) (omega (arith, le))

zone_short : (z : ℕ) → IsZone z → length (zone_text z) ≤ 2
zone_short z lt = length-decimal-le 2 (z + 1) (omega arith) (omega (arith, lt)) (omega (arith, lt))

flow_short : (z : ℤ) → Within 199998 z → length (signed_decimal z) ≤ 7
flow_short (pos n) w = let d = length-decimal-le 6 n (omega arith) (omega (arith, w)) (omega (arith, w)) in omega (arith, d)
flow_short (negsuc n) w = let d = length-decimal-le 6 (suc n) (omega arith) (omega (arith, w)) (omega (arith, w)) in omega (arith, d)

-- a sign or none, and digits
sign_short : (b : Bool) (w : List ℕ) (k : ℕ) → length w ≤ k → length (sign_of b ++ w) ≤ suc k
sign_short true w k le = omega (arith, le)
sign_short false w k le = omega (arith, le)

both_short : (d t : List ℕ) (m n : ℕ) → length d ≤ m → length t ≤ n → length (d ++ t) ≤ m + n
both_short d t m n a b = omega (arith, length-append d t, a, b)

euros_short : (z : ℤ) → unsigned_abs z ≤ 9999900 → length (printed_cents z) ≤ 9
euros_short z h =
    let d = length-decimal-le 5 (unsigned_abs z / 100) (omega arith) (omega (arith, h)) (omega (arith, h)) in
    both_short (sign_of (int_lt z (pos 0)) ++ decimal (unsigned_abs z / 100))
    (46 ∷ (48 + unsigned_abs z % 100 / 10) ∷ (48 + unsigned_abs z % 10) ∷ []) 6 3 (sign_short (int_lt z (pos 0)) (decimal (unsigned_abs z / 100)) 5 d)
    (omega arith)

pub price_size : (z : ℤ) → IsPrice z → unsigned_abs z ≤ 9999900
price_size (pos n) h = let high : pos n ≤ℤ pos 9999900 = h.high in omega (arith, ints, high)
price_size (negsuc n) h = let low : neg_ℤ (pos 9999900) ≤ℤ negsuc n = h.low in omega (arith, ints, low)

price_short : (c : Cents) → IsCapped c → length (price_text c) ≤ 9
price_short c h = euros_short c.0 (price_size c.0 h)

ten_thousandths_short : (n : ℕ) → n ≤ 100000000000000000000 → length (printed_ten_thousandths n) ≤ 17 + 5
ten_thousandths_short n le =
    let d = length-decimal-le_wide 17 (n / 10000) (omega arith) (omega (arith, le)) (omega (arith, le)) in
    both_short (decimal (n / 10000)) _ 17 5 d (omega arith)

money_short : (q : Quarters) → IsMoney q → length (money_text q) ≤ 23
money_short q h = sign_short (int_lt q.0 (pos 0)) (printed_ten_thousandths (25 * unsigned_abs q.0)) 22 (ten_thousandths_short (25 * unsigned_abs q.0) (omega (arith, h)))

-- a field of one word
abbrev Short : List ℕ → Type 0
Short t = length t ≤ 23

short : (t : List ℕ) (k : ℕ) → length t ≤ k → k ≤ 23 → Short t
short t k le few = omega (arith, le, few)

name : (t : List ℕ) → IsName t → Short t
name t h = short t 16 (name_short t h) (omega arith)

number : (n : ℕ) → n ≤ 99999 → Short (decimal n)
number n le = short (decimal n) 5 (number_short n le) (omega arith)

price : (c : Cents) → IsCapped c → Short (price_text c)
price c h = short (price_text c) 9 (price_short c h) (omega arith)

of_words : (ts : List (List ℕ)) → AllByRecursion Short ts → length (spaced ts) ≤ length ts * 24
of_words [] a = omega arith
of_words (t ∷ ts) a =
    let more = of_words ts a.1 in
    let now = spaced_more t ts 23 (length ts * 24) a.0 more in
    grind (arith, now)

abbrev most_fields : ℕ
most_fields = 27648

few_words : (ts : List (List ℕ)) → AllByRecursion Short ts → length ts ≤ 6 → length (spaced ts) ≤ most_fields
few_words ts a few = let le = of_words ts a in omega (arith, le, few)

many : {X : Type 0} (R : X → Type 0) (f : X → List ℕ) (k most : ℕ) → ((x : X) → R x → length (f x) ≤ k) → (xs : List X) → All R xs → length xs ≤ most → length (spaced (map f xs)) ≤ most * suc k
many R f k most each xs a le =
    let is = listed_short R f k each xs a in
    let times : suc k * length xs ≤ suc k * most = mul-le-mul_left (suc k) le in
    grind (arith, is, times)

kind : (direct : Bool) → Short (kind_text direct)
kind true = omega arith
kind false = omega arith

side : (s : CutSide) → Short (side_text s)
side Out = omega arith
side In = omega arith

money_line : (m : MoneyLine) → IsMoneyLine m → length (spaced (money_fields m)) ≤ most_fields
money_line m r = few_words (money_fields m) (name m.name r.0, (money_short m.payment r.1, (money_short m.rent r.2, (money_short m.net r.3, tt)))) (omega arith)

amount_line : (a : AmountLine) → IsAmountLine a → length (spaced (amount_fields a)) ≤ most_fields
amount_line a r = few_words (amount_fields a) (name a.name r.0, (money_short a.amount r.1, tt)) (omega arith)

-- what stands after the first word
fields_short : (l : Line) → InRange l → length (spaced (fields l)) ≤ most_fields
fields_short (line.Head date quarters budget) r =
    few_words (fields (line.Head date quarters budget))
    (omega arith, (name date r.0.0, (number quarters (omega (arith, r.1.1)), (number budget (omega (arith, r.2.1)), tt)))) (omega arith)
fields_short (line.Run h) r = few_words (fields (line.Run h)) (number h.run (omega (arith, r.0.1)), (number h.quarter (omega (arith, r.1.1)), (kind h.direct, (omega arith, tt)))) (omega arith)
fields_short (line.Unpublished h count) r =
    few_words (fields (line.Unpublished h count))
    (number h.run (omega (arith, r.0.0.1)), (number h.quarter (omega (arith, r.0.1.1)), (kind h.direct, (omega arith, (number count (omega (arith, r.1.1)), tt)))))
    (omega arith)
fields_short (line.Welfare w) r = let d = length-decimal-le 19 w (omega arith) (omega (arith, r)) (omega (arith, r)) in few_words (fields (line.Welfare w)) (omega (arith, d), tt) (omega arith)
fields_short (line.Zone z) r =
    few_words (fields (line.Zone z))
    (name z.name r.0, (price z.price r.1, (price z.least r.2, (price z.greatest r.3, (number z.area (omega (arith, r.4.1)), tt))))) (omega arith)
fields_short (line.Border b) r =
    few_words (fields (line.Border b))
    (name b.from r.0, (name b.to r.1, (short (signed_decimal b.flow) 7 (flow_short b.flow r.2) (omega arith), (money_short b.rent r.3, tt))))
    (omega arith)
fields_short (line.Bid b) r = few_words (fields (line.Bid b)) (name b.id r.0, (number b.mw r.1, tt)) (omega arith)
fields_short (line.Demand place mw) r = few_words (fields (line.Demand place mw)) (number place (omega (arith, r.0.1)), (number mw r.1, tt)) (omega arith)
fields_short (line.Tree count) r = few_words (fields (line.Tree count)) (number count (omega (arith, r.1)), tt) (omega arith)
fields_short line.Branch r = omega arith
fields_short (line.Bound prices) r = let le = many IsCapped price_text 9 64 price_short prices r.1 r.0.1 in omega (arith, le)
fields_short (line.Cut cut) r =
    let zones = many IsZone zone_text 2 64 zone_short cut.zones (rising_zones 0 cut.zones r.1) r.0.1 in
    let le = spaced_more (side_text cut.side) (map zone_text cut.zones) 23 192 (side cut.side) zones in
    omega (arith, le)
fields_short (line.Conflict zones) r = let le = many IsZone zone_text 2 64 zone_short zones r.1 r.0.1 in omega (arith, le)
fields_short (line.At prices) r = let le = many IsCapped price_text 9 64 price_short prices r.1 r.0.1 in omega (arith, le)
fields_short (line.Flows flows) r = let le = many (λ flow. Within 199998 flow) signed_decimal 7 256 flow_short flows r.1 r.0.1 in omega (arith, le)
fields_short (line.Mws mws) r = let le = many (λ mw. mw ≤ 99999) decimal 5 4608 number_short mws r.1 r.0.1 in omega (arith, le)
fields_short (line.Operator o) r = money_line o r
fields_short (line.Provider p) r = amount_line p r
fields_short (line.End run) r = few_words (fields (line.End run)) (number run (omega (arith, r.1)), tt) (omega arith)
fields_short (line.TotalOperator o) r = money_line o r
fields_short (line.TotalProvider p) r = amount_line p r
fields_short (line.Done m n) r = few_words (fields (line.Done m n)) (number m (omega (arith, r.0)), (number n (omega (arith, r.1)), tt)) (omega arith)

-- no line in range has more bytes than a reader keeps of one
pub line_short : (l : Line) → InRange l → length (spelling l) ≤ MOST_LINE
unfolding spelling
line_short l r =
    let e : length (spelling l) ≡ length (keyword_text (keyword_of l)) + length (spaced (fields l)) = length-append (keyword_text (keyword_of l)) (spaced (fields l)) in
    let a = keyword_short (keyword_of l) in
    let b = fields_short l r in
    omega (arith, e, a, b)
