-- What reading bytes gives, and that it gives nothing else.
use Rattle.std.proofs.Common.{◌≡◌, ℕ, List, Some, Result, Ok, Err, inl, inr, refl, sym, ap, ◌∙◌, arith}
use Rattle.serde_json.specs.Data.{Data}
use Rattle.mari_publish.specs.declared.publication.Part.{Part}
use Rattle.mari_feed.specs.declared.fault.FeedFault.{FeedFault}
use Rattle.mari_feed.specs.declared.fault.FeedFault.TheVariants as fault
use Rattle.mari_publish.specs.Ranges.{PartFits}
use Rattle.mari_feed.specs.Reading.{Reads}
use Rattle.mari_feed.specs.Texts.{AnswersWith, IsJsonOf, IsOutcome, IsPart}
use Rattle.mari_feed.specs.Values.{part_value}
use Rattle.mari_feed.proofs.SameValue.{same_part}

-- bytes are JSON of one value
one_value : (bytes : List ℕ) (d e : Data) → IsJsonOf bytes d → IsJsonOf bytes e → d ≡ e
one_value bytes d e a b = let same : Some d ≡ Some e = sym a.reads ∙ b.reads in cc

-- and of one part
pub one_part : (bytes : List ℕ) (p q : Part) → IsPart bytes p → IsPart bytes q → p ≡ q
one_part bytes p q a b = same_part p q (one_value bytes (part_value p) (part_value q) a.json b.json)

pub outcome : (bytes : List ℕ) (d : Data) (r : Result Part FeedFault) → IsJsonOf bytes d → Reads PartFits part_value d r → IsOutcome bytes r
outcome bytes d r json none = grind arith

pub answers_part : (bytes : List ℕ) (r : Result Part FeedFault) → IsOutcome bytes r → (p : Part) → IsPart bytes p → AnswersWith (Ok p) r
answers_part bytes (Ok q) o p is = inl (ap Ok (one_part bytes q p o is))
answers_part bytes (Err fault.NotJson) o p is = absurd (o (part_value p) is.json)
answers_part bytes (Err fault.NotAPart) o p is = absurd (o.none p is.fits (one_value bytes (part_value p) o.value is.json o.json))
answers_part bytes (Err fault.Memory) o p is = inr refl
