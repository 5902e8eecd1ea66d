-- Names of lines.
use Rattle.std.proofs.Common.{◌≡◌, ℕ, zero, suc, Bool, true, false, List, [], ◌∷◌, length, Some, None, refl, sym, ◌∙◌, subst}
use Rattle.std.specs.Prelude.{◌↔◌, slice_get}
use Rattle.std.specs.List.{AllZip}
use Rattle.std.specs.Str.{bytes_eq}
use Rattle.std.proofs.lemmas.Bool.{false≢true}
use Rattle.std.proofs.lemmas.Slice.Eq.{bytes_eq-Decides}
use Rattle.mari_units.specs.Names.{is_name}
use Rattle.mari_zones.specs.declared.borders.BorderEnds.{BorderEnds}
use Rattle.mari_lines.specs.declared.line.BidLine.{BidLine}
use Rattle.mari_lines.specs.declared.line.BorderLine.{BorderLine}
use Rattle.mari_publish.specs.declared.publication.FullBlock.{FullBlock}
use Rattle.mari_lines.specs.declared.line.ZoneLine.{ZoneLine}
use Rattle.mari_remain.specs.declared.books.Books.{Books}
use Rattle.mari_remain.specs.declared.market.RunMarket.{RunMarket}
use Rattle.mari_progress.specs.Reported.{NamesMarket}
use Rattle.mari_check.specs.Lines.{NamesBid, NamesEnds, NamesZone}
use Rattle.mari_rows.specs.Names.{name_at}
use Rattle.mari_check.proofs.Zips.{map-itself, zip-from, zip-to}

at-some : (names : List (List ℕ)) (place : ℕ) (own : List ℕ) → Some own ≡ slice_get names place → own ≡ name_at names place
at-some [] place own e = absurd (cc e)
at-some (n ∷ ns) zero own e = cc e
at-some (n ∷ ns) (suc place) own e = at-some ns place own e

at-none : (names : List (List ℕ)) (place : ℕ) → None ≡ slice_get names place → name_at names place ≡ []
at-none [] place e = refl
at-none (n ∷ ns) zero e = absurd (cc e)
at-none (n ∷ ns) (suc place) e = at-none ns place e

pub named-some : (name bytes own : List ℕ) (names : List (List ℕ)) (place : ℕ) (b : Bool) → bytes ≡ name
    → Some own ≡ slice_get names place → b ≡ bytes_eq bytes own → (b ≡ true) ↔ (name ≡ name_at names place)
named-some name bytes own names place b e f test = (
  λ t. sym e ∙ (bytes_eq-Decides bytes own).0 (sym test ∙ t) ∙ at-some names place own f,
  λ h. test ∙ (bytes_eq-Decides bytes own).1 (e ∙ h ∙ sym (at-some names place own f)),
)

pub named-none : (name : List ℕ) (names : List (List ℕ)) (place : ℕ) → is_name name ≡ true → None ≡ slice_get names place → (false ≡ true) ↔ (name ≡ name_at names place)
named-none name names place is e = (
  λ t. absurd (false≢true t),
  λ h. let empty : is_name [] ≡ true = subst (λ (n : List ℕ). is_name n ≡ true) (h ∙ at-none names place e) is in absurd (false≢true empty),
)

module _ (books : Books) (made : RunMarket) (b : FullBlock) where
  pub zones-of : NamesMarket books made b → AllZip NamesZone b.zones books.zones.zones
  zones-of h =
      let all = h.lines.zones ∙ sym (map-itself books.zones.zones) in
      zip-from NamesZone (λ (l : ZoneLine). l.name) (λ (l : ZoneLine). l.name) (λ (n : List ℕ). n) (λ (n : List ℕ). n) (λ l n e f. e) b.zones books.zones.zones all all

  pub borders-of : NamesMarket books made b → AllZip (NamesEnds books.zones.zones) b.borders books.borders.borders
  borders-of h =
      zip-from (NamesEnds books.zones.zones) (λ (l : BorderLine). l.from) (λ (l : BorderLine). l.to)
      (λ (ends : BorderEnds). name_at books.zones.zones ends.from) (λ (ends : BorderEnds). name_at books.zones.zones ends.to)
      (λ l ends e f. record { from = e; to = f }) b.borders books.borders.borders h.lines.from h.lines.to

  pub bids-of : NamesMarket books made b → AllZip (NamesBid books.bids.ids) b.bids made.bids
  bids-of h =
      zip-from (NamesBid books.bids.ids) (λ (l : BidLine). l.id) (λ (l : BidLine). l.id) (name_at books.bids.ids) (name_at books.bids.ids)
      (λ l n e f. e) b.bids made.bids h.lines.bids h.lines.bids

  pub names-of : AllZip NamesZone b.zones books.zones.zones
      → AllZip (NamesEnds books.zones.zones) b.borders books.borders.borders
      → AllZip (NamesBid books.bids.ids) b.bids made.bids → length b.demands ≡ made.demands → NamesMarket books made b
  names-of zones borders bids demands = record {
    lines = record {
      zones = zip-to NamesZone (λ (l : ZoneLine). l.name) (λ (n : List ℕ). n) (λ l n e. e) b.zones books.zones.zones zones ∙ map-itself books.zones.zones;
      from =
          zip-to (NamesEnds books.zones.zones) (λ (l : BorderLine). l.from) (λ (ends : BorderEnds). name_at books.zones.zones ends.from) (λ l ends e. e.from) b.borders books.borders.borders borders;
      to = zip-to (NamesEnds books.zones.zones) (λ (l : BorderLine). l.to) (λ (ends : BorderEnds). name_at books.zones.zones ends.to) (λ l ends e. e.to) b.borders books.borders.borders borders;
      bids = zip-to (NamesBid books.bids.ids) (λ (l : BidLine). l.id) (name_at books.bids.ids) (λ l n e. e) b.bids made.bids bids;
    };
    demands = demands;
  }
