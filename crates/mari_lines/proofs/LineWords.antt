-- A line's words are its first word and its fields, and no other line has them.
use Rattle.std.proofs.Common.{◌≡◌, ◌≤◌, ◌<◌, ◌^◌, ◌+◌, ℕ, eqb, List, [], ◌∷◌, map, ℤ, pos, neg_ℤ, refl, arith}
use Rattle.std.specs.Int.RustNames.{unsigned_abs}
use Rattle.std.specs.List.{slice_split, AllByRecursion, All}
use Rattle.std.specs.Fmt.{decimal, signed_decimal}
use Rattle.std.proofs.lemmas.Int.{ints}
use Rattle.mari_units.specs.Numbers.{printed_cents, printed_euros, Within}
use Rattle.mari_market.specs.Price.{IsCapped, IsPrice}
use Rattle.mari_market.specs.declared.certificate.CutSide.{CutSide}
use Rattle.mari_market.specs.declared.certificate.CutSide.TheVariants.{Out, In}
use Rattle.mari_lines.specs.declared.line.Line.{Line}
use Rattle.mari_lines.specs.declared.line.Line.TheVariants as line
use Rattle.mari_lines.specs.declared.line.Keyword.{Keyword}
use Rattle.mari_lines.specs.declared.line.Keyword.TheVariants as first
use Rattle.mari_lines.specs.declared.line.MoneyLine.{MoneyLine}
use Rattle.mari_lines.specs.declared.line.AmountLine.{AmountLine}
use Rattle.mari_lines.specs.Ranges.{InRange, IsMoneyLine, IsAmountLine, IsZone}
use Rattle.mari_lines.specs.Reading.{Lacks}
use Rattle.mari_lines.specs.Spelling.{fields, keyword_of, keyword_text, spelling, price_text, money_fields, amount_fields, zone_text, side_text}
use Rattle.mari_lines.proofs.Numbers.{size_between}
use Rattle.mari_lines.proofs.Gathered.{head_of, tail_of, rising_zones}
use Rattle.mari_lines.proofs.Graphic.{IsGraphic, graphic_name, graphic_decimal, graphic_signed, graphic_cents, graphic_euros, graphic_kind, split_spaced, spelling_lacks}

pub graphic_keyword : (k : Keyword) → IsGraphic (keyword_text k)
graphic_keyword first.Mari = refl
graphic_keyword first.Run = refl
graphic_keyword first.Welfare = refl
graphic_keyword first.Zone = refl
graphic_keyword first.Border = refl
graphic_keyword first.Bid = refl
graphic_keyword first.Demand = refl
graphic_keyword first.Tree = refl
graphic_keyword first.Branch = refl
graphic_keyword first.Bound = refl
graphic_keyword first.Cut = refl
graphic_keyword first.Conflict = refl
graphic_keyword first.At = refl
graphic_keyword first.Flows = refl
graphic_keyword first.Mws = refl
graphic_keyword first.Operator = refl
graphic_keyword first.Provider = refl
graphic_keyword first.End = refl
graphic_keyword first.TotalOperator = refl
graphic_keyword first.TotalProvider = refl
graphic_keyword first.Done = refl

graphic_list : {X : Type 0} (R : X → Type 0) (f : X → List ℕ) → ((x : X) → R x → IsGraphic (f x)) → (xs : List X) → All R xs → AllByRecursion IsGraphic (map f xs)
graphic_list R f g [] a = tt
graphic_list R f g (x ∷ xs) a = (g x (head_of R x xs a), graphic_list R f g xs (tail_of R x xs a))

pub small_price : (z : ℤ) → IsPrice z → unsigned_abs z < 2 ^ 64
small_price z r = size_between (neg_ℤ (pos 9999900)) (pos 9999900) z (omega (arith, ints)) (omega (arith, ints)) r.low r.high

graphic_price : (z : ℤ) → IsPrice z → IsGraphic (printed_cents z)
graphic_price z r = graphic_cents z (small_price z r)

graphic_money : (z : ℤ) → Within 4000000000000000000 z → IsGraphic (printed_euros z)
graphic_money z le = graphic_euros z (omega arith)

graphic_flow : (z : ℤ) → Within 199998 z → IsGraphic (signed_decimal z)
graphic_flow z le = graphic_signed z (omega arith)

graphic_side : (side : CutSide) → IsGraphic (side_text side)
graphic_side Out = refl
graphic_side In = refl

graphic_operator : (m : MoneyLine) → IsMoneyLine m → AllByRecursion IsGraphic (money_fields m)
graphic_operator m r = (graphic_name m.name r.0, (graphic_money m.payment.0 r.1, (graphic_money m.rent.0 r.2, (graphic_money m.net.0 r.3, tt))))

graphic_provider : (a : AmountLine) → IsAmountLine a → AllByRecursion IsGraphic (amount_fields a)
graphic_provider a r = (graphic_name a.name r.0, (graphic_money a.amount.0 r.1, tt))

number : (n most : ℕ) → n ≤ most → most < 2 ^ 64 → IsGraphic (decimal n)
number n most le lt = graphic_decimal n (omega arith)

pub graphic_fields : (l : Line) → InRange l → AllByRecursion IsGraphic (fields l)
graphic_fields (line.Head date quarters budget) r = (refl, (graphic_name date r.0.0, (number quarters 400 r.1.1 (omega arith), (number budget 50000 r.2.1 (omega arith), tt))))
graphic_fields (line.Run h) r = (number h.run 1000 r.0.1 (omega arith), (number h.quarter 400 r.1.1 (omega arith), (graphic_kind h.direct, (refl, tt))))
graphic_fields (line.Unpublished h count) r =
    (number h.run 1000 r.0.0.1 (omega arith), (number h.quarter 400 r.0.1.1 (omega arith), (graphic_kind h.direct, (refl, (number count 50000 r.1.1 (omega arith), tt)))))
graphic_fields (line.Welfare welfare) r = (graphic_decimal welfare (omega arith), tt)
graphic_fields (line.Zone z) r = (graphic_name z.name r.0, (graphic_price z.price.0 r.1, (graphic_price z.least.0 r.2, (graphic_price z.greatest.0 r.3, (number z.area 64 r.4.1 (omega arith), tt)))))
graphic_fields (line.Border b) r = (graphic_name b.from r.0, (graphic_name b.to r.1, (graphic_flow b.flow r.2, (graphic_money b.rent.0 r.3, tt))))
graphic_fields (line.Bid b) r = (graphic_name b.id r.0, (number b.mw 99999 r.1 (omega arith), tt))
graphic_fields (line.Demand place mw) r = (number place 512 r.0.1 (omega arith), (number mw 99999 r.1 (omega arith), tt))
graphic_fields (line.Tree count) r = (number count 50000 r.1 (omega arith), tt)
graphic_fields line.Branch r = tt
graphic_fields (line.Bound prices) r = graphic_list IsCapped price_text (λ p q. graphic_price p.0 q) prices r.1
graphic_fields (line.Cut cut) r = (graphic_side cut.side, graphic_list IsZone zone_text (λ z lt. graphic_decimal (z + 1) (omega arith)) cut.zones (rising_zones 0 cut.zones r.1))
graphic_fields (line.Conflict zones) r = graphic_list IsZone zone_text (λ z lt. graphic_decimal (z + 1) (omega arith)) zones r.1
graphic_fields (line.At prices) r = graphic_list IsCapped price_text (λ p q. graphic_price p.0 q) prices r.1
graphic_fields (line.Flows flows) r = graphic_list (λ z. Within 199998 z) signed_decimal graphic_flow flows r.1
graphic_fields (line.Mws mws) r = graphic_list (λ n. n ≤ 99999) decimal (λ n le. number n 99999 le (omega arith)) mws r.1
graphic_fields (line.Operator operator) r = graphic_operator operator r
graphic_fields (line.Provider provider) r = graphic_provider provider r
graphic_fields (line.End run) r = (number run 1000 r.1 (omega arith), tt)
graphic_fields (line.TotalOperator operator) r = graphic_operator operator r
graphic_fields (line.TotalProvider provider) r = graphic_provider provider r
graphic_fields (line.Done published unpublished) r = (number published 1000 r.0 (omega arith), (number unpublished 1000 r.1 (omega arith), tt))

-- a spelling's words
pub words_of_line : (l : Line) → InRange l → slice_split (λ b. eqb b 32) (spelling l) ≡ keyword_text (keyword_of l) ∷ fields l
unfolding spelling
words_of_line l r = split_spaced (keyword_text (keyword_of l)) (fields l) (graphic_keyword (keyword_of l)) (graphic_fields l r)

pub no_feed : (l : Line) → InRange l → Lacks 10 (spelling l)
unfolding spelling
no_feed l r = spelling_lacks (keyword_text (keyword_of l)) (fields l) (graphic_keyword (keyword_of l)) (graphic_fields l r)
