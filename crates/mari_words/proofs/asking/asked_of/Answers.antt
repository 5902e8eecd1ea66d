use Rattle.std.proofs.Common.{◌≡◌, Bool, true, false, bytes_eq, codes, refl, sym}
use Rattle.std.proofs.lemmas.Slice.Eq.{bytes_eq-Decides}
use Rattle.mari_words.specs.Seen.{Text}
use Rattle.mari_words.proofs.asking.asked_of.Goals as goal

-- a name that isn't this word
other : (word name : Text) → (name ≡ word → ⊥) → bytes_eq word name ≡ false
other word name apart = by (bytes_eq word name) refl
  where
    by : (b : Bool) → bytes_eq word name ≡ b → bytes_eq word name ≡ false
    by false e = e
    by true e = absurd (apart (sym ((bytes_eq-Decides word name).0 e)))

pub returns-in_default : goal.returns-in_default
returns-in_default c =
    rw (
      other (codes "clear") c.args.name.now c.in_default.not-clear,
      other (codes "check") c.args.name.now c.in_default.not-check,
      other (codes "generate") c.args.name.now c.in_default.not-generate,
      other (codes "migrate") c.args.name.now c.in_default.not-migrate,
      other (codes "feed") c.args.name.now c.in_default.not-feed,
      other (codes "split") c.args.name.now c.in_default.not-split,
      other (codes "blocks") c.args.name.now c.in_default.not-blocks,
      other (codes "value") c.args.name.now c.in_default.not-value,
    ) refl
