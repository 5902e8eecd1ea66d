-- How a line is spelled: a keyword, and fields that each stand after a space.
use Rattle.std.specs.Prelude.{ℕ, ◌+◌, Bool, true, false, List, [], ◌∷◌, ◌++◌, map}
use lib.Chars.{codes}
use Rattle.std.specs.List.{flat_map}
use Rattle.std.specs.Fmt.{decimal, signed_decimal}
use Rattle.mari_units.specs.declared.numbers.Cents.{Cents}
use Rattle.mari_units.specs.declared.numbers.Quarters.{Quarters}
use Rattle.mari_units.specs.Numbers.{printed_cents, printed_euros}
use Rattle.mari_market.specs.declared.certificate.CutSide.{CutSide}
use Rattle.mari_market.specs.declared.certificate.CutSide.TheVariants.{Out, In}
use Rattle.mari_lines.specs.declared.line.AmountLine.{AmountLine}
use Rattle.mari_lines.specs.declared.line.Heading.{Heading}
use Rattle.mari_lines.specs.declared.line.MoneyLine.{MoneyLine}
use Rattle.mari_lines.specs.declared.line.Keyword.{Keyword}
use Rattle.mari_lines.specs.declared.line.Keyword.TheVariants as first
use Rattle.mari_lines.specs.declared.line.Line.{Line}
use Rattle.mari_lines.specs.declared.line.Line.TheVariants as line

-- the kind of a run
abbrev pub kind_text : Bool → List ℕ
kind_text true = codes "direct"
kind_text false = codes "scheduled"

-- whether a run is published
abbrev pub published_text : Bool → List ℕ
published_text true = codes "published"
published_text false = codes "unpublished"

-- whether a cut's zones have too much energy, or too little
abbrev pub side_text : CutSide → List ℕ
side_text Out = codes "out"
side_text In = codes "in"

-- a price, and an amount of money
abbrev pub price_text : Cents → List ℕ
price_text c = printed_cents c.0

abbrev pub money_text : Quarters → List ℕ
money_text q = printed_euros q.0

-- zones are counted from 1 in the text, and from 0 elsewhere
abbrev pub zone_text : ℕ → List ℕ
zone_text zone = decimal (zone + 1)

-- which of the first words a line has
abbrev pub keyword_of : Line → Keyword
keyword_of (line.Head date quarters budget) = first.Mari
keyword_of (line.Run heading) = first.Run
keyword_of (line.Unpublished heading count) = first.Run
keyword_of (line.Welfare welfare) = first.Welfare
keyword_of (line.Zone zone) = first.Zone
keyword_of (line.Border border) = first.Border
keyword_of (line.Bid bid) = first.Bid
keyword_of (line.Demand place mw) = first.Demand
keyword_of (line.Tree count) = first.Tree
keyword_of line.Branch = first.Branch
keyword_of (line.Bound prices) = first.Bound
keyword_of (line.Cut cut) = first.Cut
keyword_of (line.Conflict zones) = first.Conflict
keyword_of (line.At prices) = first.At
keyword_of (line.Flows flows) = first.Flows
keyword_of (line.Mws mws) = first.Mws
keyword_of (line.Operator operator) = first.Operator
keyword_of (line.Provider provider) = first.Provider
keyword_of (line.End run) = first.End
keyword_of (line.TotalOperator operator) = first.TotalOperator
keyword_of (line.TotalProvider provider) = first.TotalProvider
keyword_of (line.Done published unpublished) = first.Done

-- the first word of a line
abbrev pub keyword_text : Keyword → List ℕ
keyword_text first.Mari = codes "mari"
keyword_text first.Run = codes "run"
keyword_text first.Welfare = codes "welfare"
keyword_text first.Zone = codes "zone"
keyword_text first.Border = codes "border"
keyword_text first.Bid = codes "bid"
keyword_text first.Demand = codes "demand"
keyword_text first.Tree = codes "tree"
keyword_text first.Branch = codes "branch"
keyword_text first.Bound = codes "bound"
keyword_text first.Cut = codes "cut"
keyword_text first.Conflict = codes "conflict"
keyword_text first.At = codes "at"
keyword_text first.Flows = codes "flows"
keyword_text first.Mws = codes "mws"
keyword_text first.Operator = codes "operator"
keyword_text first.Provider = codes "provider"
keyword_text first.End = codes "end"
keyword_text first.TotalOperator = codes "total-operator"
keyword_text first.TotalProvider = codes "total-provider"
keyword_text first.Done = codes "done"

-- an operator's name, payment, rent and net
abbrev pub money_fields : MoneyLine → List (List ℕ)
money_fields m = m.name ∷ money_text m.payment ∷ money_text m.rent ∷ money_text m.net ∷ []

-- a run's number, its quarter and its kind
abbrev pub heading_fields : Heading → List (List ℕ)
heading_fields h = decimal h.run ∷ decimal h.quarter ∷ kind_text h.direct ∷ []

-- a provider's name and amount
abbrev pub amount_fields : AmountLine → List (List ℕ)
amount_fields a = a.name ∷ money_text a.amount ∷ []

-- what stands after the first word
abbrev pub fields : Line → List (List ℕ)
fields (line.Head date quarters budget) = codes "1" ∷ date ∷ decimal quarters ∷ decimal budget ∷ []
fields (line.Run heading) = heading_fields heading ++ published_text true ∷ []
fields (line.Unpublished heading count) = heading_fields heading ++ published_text false ∷ decimal count ∷ []
fields (line.Welfare welfare) = decimal welfare ∷ []
fields (line.Zone z) = z.name ∷ price_text z.price ∷ price_text z.least ∷ price_text z.greatest ∷ decimal z.area ∷ []
fields (line.Border b) = b.from ∷ b.to ∷ signed_decimal b.flow ∷ money_text b.rent ∷ []
fields (line.Bid b) = b.id ∷ decimal b.mw ∷ []
fields (line.Demand place mw) = decimal place ∷ decimal mw ∷ []
fields (line.Tree count) = decimal count ∷ []
fields line.Branch = []
fields (line.Bound prices) = map price_text prices
fields (line.Cut cut) = side_text cut.side ∷ map zone_text cut.zones
fields (line.Conflict zones) = map zone_text zones
fields (line.At prices) = map price_text prices
fields (line.Flows flows) = map signed_decimal flows
fields (line.Mws mws) = map decimal mws
fields (line.Operator operator) = money_fields operator
fields (line.Provider provider) = amount_fields provider
fields (line.End run) = decimal run ∷ []
fields (line.TotalOperator operator) = money_fields operator
fields (line.TotalProvider provider) = amount_fields provider
fields (line.Done published unpublished) = decimal published ∷ decimal unpublished ∷ []

-- fields, each after a space
abbrev pub spaced : List (List ℕ) → List ℕ
spaced texts = flat_map (λ text. 32 ∷ text) texts

-- a line without its end
unfoldable pub spelling : Line → List ℕ
spelling l = keyword_text (keyword_of l) ++ spaced (fields l)

-- a line with the line feed at its end
abbrev pub line_text : Line → List ℕ
line_text l = spelling l ++ 10 ∷ []
