-- Which bytes are JSON of a part, and what reading bytes gives.
use Rattle.std.specs.Prelude.{◌≡◌, ◌⊎◌, ℕ, List, [], ◌∷◌, ◌++◌, Some, Result, Ok, Err, ⊤, codes}
use Rattle.json.specs.Print.{quoted}
use Rattle.std.specs.Str.{IsUtf8}
use Rattle.serde_json.specs.Data.{Data}
use Rattle.serde_json.specs.Read.{read}
use Rattle.serde_json.specs.Written.{compact_text}
use Rattle.mari_lines.specs.Reading.{Lacks}
use Rattle.mari_publish.specs.declared.publication.Part.{Part}
use Rattle.mari_feed.specs.declared.fault.FeedFault.{FeedFault}
use Rattle.mari_feed.specs.declared.fault.FeedFault.TheVariants as fault
use Rattle.mari_publish.specs.Ranges.{PartFits}
use Rattle.mari_publish.specs.declared.publication.FullBlock.{FullBlock}
use Rattle.mari_feed.specs.Values.{bid_value, border_value, item_value, kind_value, list_of, natural, operator_value, part_value, provider_value, zone_value}

-- the bytes are JSON of this value
pub record IsJsonOf (bytes : List ℕ) (d : Data) : Type 0 where
  pub utf8 : IsUtf8 bytes
  pub reads : read bytes ≡ Some d

-- a member of an object after its brace; one after a comma; and several of these
abbrev pub first_text : List ℕ → Data → List ℕ
first_text key d = 123 ∷ (quoted key ++ 58 ∷ compact_text d)

abbrev pub next_text : List ℕ → Data → List ℕ
next_text key d = 44 ∷ (quoted key ++ 58 ∷ compact_text d)

abbrev pub nexts_text : List (List ℕ × Data) → List ℕ
nexts_text [] = []
nexts_text (m ∷ ms) = next_text m.0 m.1 ++ nexts_text ms

-- the text of a block in pieces: its market, its ledger, and its welfare, its zones and its end
abbrev pub market_text : FullBlock → List ℕ
market_text b =
    first_text (codes "bids") (list_of bid_value b.bids)
    ++ nexts_text ((codes "borders", list_of border_value b.borders) ∷ (codes "demands", list_of natural b.demands) ∷ [])

abbrev pub ledger_text : FullBlock → List ℕ
ledger_text b = nexts_text (
    (codes "operators", list_of operator_value b.operators)
    ∷ (codes "providers", list_of provider_value b.providers)
    ∷ (codes "quarter", natural b.heading.quarter)
    ∷ (codes "run", natural b.heading.run)
    ∷ []
    )

abbrev pub outcome_text : FullBlock → List ℕ
outcome_text b = nexts_text ((codes "welfare", natural b.welfare) ∷ (codes "zones", list_of zone_value b.zones) ∷ []) ++ 125 ∷ []

-- the first of these with the kind, and the last after the certificate tree
abbrev pub lines_text : FullBlock → List ℕ
lines_text b =
    first_text (codes "bids") (list_of bid_value b.bids)
    ++ nexts_text
    ((codes "borders", list_of border_value b.borders) ∷ (codes "demands", list_of natural b.demands) ∷ (codes "kind", kind_value b.heading.direct) ∷ [])

abbrev pub rest_text : FullBlock → List ℕ
rest_text b =
    nexts_text ((codes "tree", list_of item_value b.tree) ∷ (codes "welfare", natural b.welfare) ∷ (codes "zones", list_of zone_value b.zones) ∷ []) ++ 125 ∷ []

-- the text of a part
abbrev pub json_of : Part → List ℕ
json_of p = compact_text (part_value p)

-- the bytes are JSON of the part, whatever their spaces, escapes and order of keys, and it is in range
pub record IsPart (bytes : List ℕ) (p : Part) : Type 0 where
  pub fits : PartFits p
  pub json : IsJsonOf bytes (part_value p)

-- and they stand on one line
pub record IsLineOf (bytes : List ℕ) (p : Part) : Type 0 where
  pub part : IsPart bytes p
  pub one : Lacks 10 bytes

-- the bytes are no JSON
abbrev pub IsNoJson : List ℕ → Type 0
IsNoJson bytes = (d : Data) → IsJsonOf bytes d → ⊥

-- the bytes are JSON, of a value that no part in range has
pub record IsNoPart (bytes : List ℕ) : Type 0 where
  pub value : Data
  pub json : IsJsonOf bytes value
  pub none : (p : Part) → PartFits p → part_value p ≡ value → ⊥

-- what reading bytes gives
abbrev pub IsOutcome : List ℕ → Result Part FeedFault → Type 0
IsOutcome bytes (Ok p) = IsPart bytes p
IsOutcome bytes (Err fault.NotJson) = IsNoJson bytes
IsOutcome bytes (Err fault.NotAPart) = IsNoPart bytes
IsOutcome bytes (Err fault.Memory) = ⊤

-- the answer is this one, unless memory ran out
abbrev pub AnswersWith : Result Part FeedFault → Result Part FeedFault → Type 0
AnswersWith expected result = (result ≡ expected) ⊎ (result ≡ Err fault.Memory)
