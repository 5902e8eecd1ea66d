-- Lines that are spelled alike are the same.
use Rattle.std.proofs.Common.{◌≡◌, ◌≤◌, ◌<◌, ◌^◌, ◌+◌, ℕ, Bool, true, false, eqb, ◌==◌, if◌then◌else◌, fold, ◌*◌, List, [], ◌∷◌, ◌++◌, drop, get_or, map, ℤ, Result, Ok, Err, refl, sym, ap, ◌∙◌, arith}
use Rattle.std.proofs.lemmas.Slice.Eq.{bytes_eq-Decides}
use Rattle.std.specs.Str.{bytes_eq}
use Rattle.std.proofs.lemmas.Fmt.{decimal_injective}
use Rattle.std.specs.List.{slice_split}
use Rattle.std.specs.Fmt.{decimal, signed_decimal}
use Rattle.mari_units.specs.declared.numbers.Cents.{Cents}
use Rattle.mari_units.specs.declared.numbers.Quarters.{Quarters}
use Rattle.mari_market.specs.declared.certificate.CutSide.{CutSide}
use Rattle.mari_market.specs.declared.certificate.CutSide.TheVariants.{Out, In}
use Rattle.mari_lines.specs.declared.line.Line.{Line}
use Rattle.mari_lines.specs.declared.line.Line.TheVariants as line
use Rattle.mari_lines.specs.declared.line.Keyword.{Keyword}
use Rattle.mari_lines.specs.declared.line.Keyword.TheVariants as first
use Rattle.mari_lines.specs.declared.line.Heading.{Heading}
use Rattle.mari_market.specs.declared.certificate.Cut.{Cut}
use Rattle.mari_lines.specs.declared.line.ZoneLine.{ZoneLine}
use Rattle.mari_lines.specs.declared.line.BorderLine.{BorderLine}
use Rattle.mari_lines.specs.declared.line.BidLine.{BidLine}
use Rattle.mari_lines.specs.declared.line.MoneyLine.{MoneyLine}
use Rattle.mari_lines.specs.declared.line.AmountLine.{AmountLine}
use Rattle.mari_market.specs.Price.{IsCapped}
use Rattle.mari_units.specs.Numbers.{Within}
use Rattle.mari_lines.specs.Ranges.{InRange, IsHeading, IsMoney, IsMoneyLine, IsAmountLine, IsZone}
use Rattle.mari_lines.specs.Spelling.{spaced, fields, keyword_of, keyword_text, spelling, price_text, money_text, money_fields, amount_fields, zone_text, side_text, kind_text}
use Rattle.mari_lines.proofs.Numbers.{same_whole, same_price, same_money}
use Rattle.mari_lines.proofs.Gathered.{same_list, same_zone, rising_zones}
use Rattle.mari_lines.specs.declared.fault.FormFault.{FormFault}
use Rattle.mari_lines.specs.declared.fault.FormFault.TheVariants as form_fault
use Rattle.mari_lines.specs.Reading.{Reads}
use Rattle.mari_lines.proofs.Graphic.{spelled, spelled_split}
use Rattle.mari_lines.proofs.Splits.{some_words}
use Rattle.mari_lines.proofs.LineWords.{small_price, words_of_line}

-- texts that are the same don't differ by the test of their bytes
text_apart : (xs ys : List ℕ) → xs ≡ ys → bytes_eq xs ys ≡ false → ⊥
text_apart xs ys e apart = let yes : bytes_eq xs ys ≡ true = (bytes_eq-Decides xs ys).1 e in absurd cc

-- keywords with the same text are the same
pub same_keyword : (k m : Keyword) → keyword_text k ≡ keyword_text m → k ≡ m
same_keyword first.Mari first.Mari e = refl
same_keyword first.Run first.Run e = refl
same_keyword first.Welfare first.Welfare e = refl
same_keyword first.Zone first.Zone e = refl
same_keyword first.Border first.Border e = refl
same_keyword first.Bid first.Bid e = refl
same_keyword first.Demand first.Demand e = refl
same_keyword first.Tree first.Tree e = refl
same_keyword first.Branch first.Branch e = refl
same_keyword first.Bound first.Bound e = refl
same_keyword first.Cut first.Cut e = refl
same_keyword first.Conflict first.Conflict e = refl
same_keyword first.At first.At e = refl
same_keyword first.Flows first.Flows e = refl
same_keyword first.Mws first.Mws e = refl
same_keyword first.Operator first.Operator e = refl
same_keyword first.Provider first.Provider e = refl
same_keyword first.End first.End e = refl
same_keyword first.TotalOperator first.TotalOperator e = refl
same_keyword first.TotalProvider first.TotalProvider e = refl
same_keyword first.Done first.Done e = refl
same_keyword k m e = absurd (text_apart (keyword_text k) (keyword_text m) e refl)

below : (m n most : ℕ) → m ≤ most → n ≤ most → most < 2 ^ 64 → decimal m ≡ decimal n → m ≡ n
below m n most lm ln lt e = decimal_injective m n (omega arith) (omega arith) e

cents : (p q : Cents) → IsCapped p → IsCapped q → price_text p ≡ price_text q → p ≡ q
cents p q rp rq e = ap (λ z. record { 0 = z }) (same_price p.0 q.0 (small_price p.0 rp) (small_price q.0 rq) e)

money : (p q : Quarters) → IsMoney p → IsMoney q → money_text p ≡ money_text q → p ≡ q
money p q rp rq e = ap (λ z. record { 0 = z }) (same_money p.0 q.0 (omega arith) (omega arith) e)

flow : (y z : ℤ) → Within 199998 y → Within 199998 z → signed_decimal y ≡ signed_decimal z → y ≡ z
flow y z ry rz e = same_whole y z (omega arith) (omega arith) e

kind : (a b : Bool) → kind_text a ≡ kind_text b → a ≡ b
kind true true e = refl
kind false false e = refl
kind _ _ e = absurd cc

side : (a b : CutSide) → side_text a ≡ side_text b → a ≡ b
side Out Out e = refl
side In In e = refl
side _ _ e = absurd cc

-- records with the same fields are the same
same_heading : (g h : Heading) → g.run ≡ h.run → g.quarter ≡ h.quarter → g.direct ≡ h.direct → g ≡ h
same_heading g h e0 e1 e2 = grind arith

same_zoneline : (g h : ZoneLine) → g.name ≡ h.name → g.price ≡ h.price → g.least ≡ h.least → g.greatest ≡ h.greatest → g.area ≡ h.area → g ≡ h
same_zoneline g h e0 e1 e2 e3 e4 = grind arith

same_borderline : (g h : BorderLine) → g.from ≡ h.from → g.to ≡ h.to → g.flow ≡ h.flow → g.rent ≡ h.rent → g ≡ h
same_borderline g h e0 e1 e2 e3 = grind arith

same_bidline : (g h : BidLine) → g.id ≡ h.id → g.mw ≡ h.mw → g ≡ h
same_bidline g h e0 e1 = grind arith

same_moneyline : (g h : MoneyLine) → g.name ≡ h.name → g.payment ≡ h.payment → g.rent ≡ h.rent → g.net ≡ h.net → g ≡ h
same_moneyline g h e0 e1 e2 e3 = grind arith

same_amountline : (g h : AmountLine) → g.name ≡ h.name → g.amount ≡ h.amount → g ≡ h
same_amountline g h e0 e1 = grind arith

same_cut : (g h : Cut) → g.side ≡ h.side → g.zones ≡ h.zones → g ≡ h
same_cut g h e0 e1 = grind arith

heading : (g h : Heading) → IsHeading g → IsHeading h → decimal g.run ≡ decimal h.run → decimal g.quarter ≡ decimal h.quarter → kind_text g.direct ≡ kind_text h.direct → g ≡ h
heading g h rg rh er eq ed = same_heading g h (below g.run h.run 1000 rg.0.1 rh.0.1 (omega arith) er) (below g.quarter h.quarter 400 rg.1.1 rh.1.1 (omega arith) eq) (kind g.direct h.direct ed)

-- the fields at one place are the same
at : (place : ℕ) {ws vs : List (List ℕ)} → ws ≡ vs → get_or ws place [] ≡ get_or vs place []
at place e = ap (λ (ws : List (List ℕ)). get_or ws place []) e

operator : (g h : MoneyLine) → IsMoneyLine g → IsMoneyLine h → money_fields g ≡ money_fields h → g ≡ h
operator g h rg rh e =
    let name : g.name ≡ h.name = at 0 e in
    let payment : money_text g.payment ≡ money_text h.payment = at 1 e in
    let rent : money_text g.rent ≡ money_text h.rent = at 2 e in
    let net : money_text g.net ≡ money_text h.net = at 3 e in
    same_moneyline g h name (money g.payment h.payment rg.1 rh.1 payment) (money g.rent h.rent rg.2 rh.2 rent) (money g.net h.net rg.3 rh.3 net)

provider : (g h : AmountLine) → IsAmountLine g → IsAmountLine h → amount_fields g ≡ amount_fields h → g ≡ h
provider g h rg rh e =
    let name : g.name ≡ h.name = at 0 e in
    let amount : money_text g.amount ≡ money_text h.amount = at 1 e in
    same_amountline g h name (money g.amount h.amount rg.1 rh.1 amount)

-- lines of one kind with the same fields are the same
same_fields : (l m : Line) → InRange l → InRange m → keyword_of l ≡ keyword_of m → fields l ≡ fields m → l ≡ m
same_fields (line.Head d q b) (line.Head d2 q2 b2) r s k e =
    let date : d ≡ d2 = at 1 e in
    let eq : decimal q ≡ decimal q2 = at 2 e in
    let eb : decimal b ≡ decimal b2 = at 3 e in
    let quarters : q ≡ q2 = below q q2 400 r.1.1 s.1.1 (omega arith) eq in
    let budget : b ≡ b2 = below b b2 50000 r.2.1 s.2.1 (omega arith) eb in
    cc
same_fields (line.Run g) (line.Run h) r s k e =
    let er : decimal g.run ≡ decimal h.run = at 0 e in
    let eq : decimal g.quarter ≡ decimal h.quarter = at 1 e in
    let ed : kind_text g.direct ≡ kind_text h.direct = at 2 e in
    ap (λ x. line.Run x) (heading g h r s er eq ed)
same_fields (line.Run g) (line.Unpublished h n) r s k e = absurd cc
same_fields (line.Unpublished h n) (line.Run g) r s k e = absurd cc
same_fields (line.Unpublished g m) (line.Unpublished h n) r s k e =
    let er : decimal g.run ≡ decimal h.run = at 0 e in
    let eq : decimal g.quarter ≡ decimal h.quarter = at 1 e in
    let ed : kind_text g.direct ≡ kind_text h.direct = at 2 e in
    let en : decimal m ≡ decimal n = at 4 e in
    ap (λ x. line.Unpublished x m) (heading g h r.0 s.0 er eq ed) ∙ ap (λ x. line.Unpublished h x) (below m n 50000 r.1.1 s.1.1 (omega arith) en)
same_fields (line.Welfare m) (line.Welfare n) r s k e = let en : decimal m ≡ decimal n = at 0 e in ap (λ x. line.Welfare x) (decimal_injective m n (omega arith) (omega arith) en)
same_fields (line.Zone g) (line.Zone h) r s k e =
    let name : g.name ≡ h.name = at 0 e in
    let price : price_text g.price ≡ price_text h.price = at 1 e in
    let least : price_text g.least ≡ price_text h.least = at 2 e in
    let greatest : price_text g.greatest ≡ price_text h.greatest = at 3 e in
    let area : decimal g.area ≡ decimal h.area = at 4 e in
    ap (λ x. line.Zone x)
    (same_zoneline g h name (cents g.price h.price r.1 s.1 price) (cents g.least h.least r.2 s.2 least) (cents g.greatest h.greatest r.3 s.3 greatest)
    (below g.area h.area 64 r.4.1 s.4.1 (omega arith) area))
same_fields (line.Border g) (line.Border h) r s k e =
    let from : g.from ≡ h.from = at 0 e in
    let to : g.to ≡ h.to = at 1 e in
    let ef : signed_decimal g.flow ≡ signed_decimal h.flow = at 2 e in
    let rent : money_text g.rent ≡ money_text h.rent = at 3 e in
    ap (λ x. line.Border x) (same_borderline g h from to (flow g.flow h.flow r.2 s.2 ef) (money g.rent h.rent r.3 s.3 rent))
same_fields (line.Bid g) (line.Bid h) r s k e =
    let id : g.id ≡ h.id = at 0 e in
    let mw : decimal g.mw ≡ decimal h.mw = at 1 e in
    ap (λ x. line.Bid x) (same_bidline g h id (below g.mw h.mw 99999 r.1 s.1 (omega arith) mw))
same_fields (line.Demand a m) (line.Demand b n) r s k e =
    let ea : decimal a ≡ decimal b = at 0 e in
    let em : decimal m ≡ decimal n = at 1 e in
    let place : a ≡ b = below a b 512 r.0.1 s.0.1 (omega arith) ea in
    let mw : m ≡ n = below m n 99999 r.1 s.1 (omega arith) em in
    cc
same_fields (line.Tree m) (line.Tree n) r s k e = let en : decimal m ≡ decimal n = at 0 e in ap (λ x. line.Tree x) (below m n 50000 r.1 s.1 (omega arith) en)
same_fields line.Branch line.Branch r s k e = refl
same_fields (line.Bound ps) (line.Bound qs) r s k e = ap (λ x. line.Bound x) (same_list IsCapped price_text cents ps qs r.1 s.1 e)
same_fields (line.Cut c) (line.Cut d) r s k e =
    let es : side_text c.side ≡ side_text d.side = at 0 e in
    let ez : map zone_text c.zones ≡ map zone_text d.zones = ap (λ (ws : List (List ℕ)). drop 1 ws) e in
    ap (λ x. line.Cut x) (same_cut c d (side c.side d.side es) (same_list IsZone zone_text same_zone c.zones d.zones (rising_zones 0 c.zones r.1) (rising_zones 0 d.zones s.1) ez))
same_fields (line.Conflict ys) (line.Conflict zs) r s k e = ap (λ x. line.Conflict x) (same_list IsZone zone_text same_zone ys zs r.1 s.1 e)
same_fields (line.At ps) (line.At qs) r s k e = ap (λ x. line.At x) (same_list IsCapped price_text cents ps qs r.1 s.1 e)
same_fields (line.Flows ys) (line.Flows zs) r s k e = ap (λ x. line.Flows x) (same_list (λ z. Within 199998 z) signed_decimal flow ys zs r.1 s.1 e)
same_fields (line.Mws ms) (line.Mws ns) r s k e = ap (λ x. line.Mws x) (same_list (λ n. n ≤ 99999) decimal (λ m n lm ln q. below m n 99999 lm ln (omega arith) q) ms ns r.1 s.1 e)
same_fields (line.Operator g) (line.Operator h) r s k e = ap (λ x. line.Operator x) (operator g h r s e)
same_fields (line.Provider g) (line.Provider h) r s k e = ap (λ x. line.Provider x) (provider g h r s e)
same_fields (line.End m) (line.End n) r s k e = let en : decimal m ≡ decimal n = at 0 e in ap (λ x. line.End x) (below m n 1000 r.1 s.1 (omega arith) en)
same_fields (line.TotalOperator g) (line.TotalOperator h) r s k e = ap (λ x. line.TotalOperator x) (operator g h r s e)
same_fields (line.TotalProvider g) (line.TotalProvider h) r s k e = ap (λ x. line.TotalProvider x) (provider g h r s e)
same_fields (line.Done a m) (line.Done b n) r s k e =
    let ea : decimal a ≡ decimal b = at 0 e in
    let em : decimal m ≡ decimal n = at 1 e in
    let published : a ≡ b = below a b 1000 r.0 s.0 (omega arith) ea in
    let unpublished : m ≡ n = below m n 1000 r.1 s.1 (omega arith) em in
    cc
same_fields _ _ _ _ k _ = absurd cc

-- lines that are spelled alike are the same
pub same_line : (l m : Line) → InRange l → InRange m → spelling l ≡ spelling m → l ≡ m
same_line l m r s e =
    let words : keyword_text (keyword_of l) ∷ fields l ≡ keyword_text (keyword_of m) ∷ fields m = sym (words_of_line l r) ∙ ap (λ (t : List ℕ). slice_split (λ b. eqb b 32) t) e ∙ words_of_line m s in
    let first : keyword_text (keyword_of l) ≡ keyword_text (keyword_of m) = cc in
    let others : fields l ≡ fields m = cc in
    same_fields l m r s (same_keyword (keyword_of l) (keyword_of m) first) others

-- a line whose first word and fields were read
pub line_read : (keyword : Keyword) (text w : List ℕ) (ws : List (List ℕ)) (result : Result Line FormFault) → slice_split (λ b. eqb b 32) text ≡ w ∷ ws → keyword_text keyword ≡ w
    → Reads (λ l. InRange l × (keyword_of l ≡ keyword)) fields ws result → Reads InRange spelling text result
unfolding spelling
line_read keyword text w ws (Ok l) split k r =
    (r.0.0, ap (λ (v : List ℕ). v ++ spaced (fields l)) (ap keyword_text r.0.1 ∙ k) ∙ ap (λ (vs : List (List ℕ)). w ++ spaced vs) r.1 ∙ sym (ap spelled split) ∙ spelled_split text)
line_read keyword text w ws (Err form_fault.Formless) split k r = λ l range e.
    let words : keyword_text (keyword_of l) ∷ fields l ≡ w ∷ ws = sym (words_of_line l range) ∙ ap (λ (t : List ℕ). slice_split (λ b. eqb b 32) t) e ∙ split in
    let first : keyword_text (keyword_of l) ≡ w = cc in
    let others : fields l ≡ ws = cc in
    r l (range, same_keyword (keyword_of l) keyword (first ∙ sym k)) others
line_read keyword text w ws (Err form_fault.Memory) split k r = tt

-- a text without words, and one with another first word
pub no_words : (text : List ℕ) → slice_split (λ b. eqb b 32) text ≡ [] → ⊥
no_words text e = some_words 32 text e

pub no_keyword : (text w : List ℕ) (ws : List (List ℕ)) → slice_split (λ b. eqb b 32) text ≡ w ∷ ws → ((k : Keyword) → keyword_text k ≡ w → ⊥) → (l : Line) → InRange l → spelling l ≡ text → ⊥
no_keyword text w ws split none l range e =
    let words : keyword_text (keyword_of l) ∷ fields l ≡ w ∷ ws = sym (words_of_line l range) ∙ ap (λ (t : List ℕ). slice_split (λ b. eqb b 32) t) e ∙ split in
    let first : keyword_text (keyword_of l) ≡ w = cc in
    none (keyword_of l) first
