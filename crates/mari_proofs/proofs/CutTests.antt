-- The test of a cut against its definition.
use Rattle.std.proofs.Common.{◌≡◌, Bool, ℕ, ℤ, pos, ◌+ℤ◌, List, [], ◌∷◌, length, refl, sym, ap, ◌∙◌, subst}
use Rattle.std.specs.Prelude.{if◌then◌else◌, ◌↔◌, IsTrue}
use Rattle.std.specs.List.{All}
use Rattle.std.proofs.lemmas.List.Elements.{All-head, All-tail}
use Rattle.mari_market.specs.declared.certificate.Cut.{Cut as CutRecord}
use Rattle.mari_market.specs.declared.certificate.CutSide.{CutSide}
use Rattle.mari_market.specs.declared.certificate.CutSide.TheVariants.{Out, In}
use Rattle.mari_market.specs.declared.market.Order.{Order}
use Rattle.mari_market.specs.declared.market.Border.{Border}
use Rattle.mari_market.specs.declared.market.Market.{Market}
use Rattle.mari_market.specs.Bounds.{Span}
use Rattle.mari_market.specs.Cut.{is_in, IsCut, IsRising, CannotBalance}
use Rattle.mari_market.specs.Market.{IsValid, IsValidOrder, GateFits}
use Rattle.mari_market.specs.Sums.{int_sum}
use Rattle.mari_proofs.specs.NetInjections.{net_put, put_of, carried_of, Exceeds}

-- bounds that agree on each order of a gate that is there put in the same
same_put : (side : CutSide) (f g : Order → Span) (set : List ℕ) (zones gates : ℕ) (os : List Order)
    → ((o : Order) → GateFits gates o → f o ≡ g o) → All (IsValidOrder zones gates) os
    → int_sum (put_of side f set) os ≡ int_sum (put_of side g set) os
same_put side f g set zones gates [] e v = refl
same_put side f g set zones gates (o ∷ os) e v =
    let first = All-head (IsValidOrder zones gates) o os v in
    ap (λ (s : Span). (if is_in set o.zone then net_put side o.side s else pos 0) +ℤ int_sum (put_of side f set) os) (e o first.gate)
    ∙ ap (λ (x : ℤ). put_of side g set o +ℤ x) (same_put side f g set zones gates os e (All-tail (IsValidOrder zones gates) o os v))

-- a set cannot be balanced where what it puts in exceeds what is carried
balance_test : (bounds : Order → Span) (m : Market) (side : CutSide) (set : List ℕ)
    → CannotBalance bounds m side set ≡ Exceeds side (int_sum (put_of side bounds set) m.orders) (int_sum (carried_of side set) m.borders)
balance_test bounds m Out set = refl
balance_test bounds m In set = refl

-- the test that the code makes
pub tests_balance : (bounds : Order → Span) (m : Market) (side : CutSide) (set : List ℕ) (orders : List Order) (borders : List Border) (put carried : ℤ) (answer : Bool)
    → put ≡ int_sum (put_of side bounds set) orders → orders ≡ m.orders
    → carried ≡ int_sum (carried_of side set) borders → borders ≡ m.borders → IsTrue answer ↔ Exceeds side put carried
    → IsTrue answer ↔ CannotBalance bounds m side set
tests_balance bounds m side set orders borders put carried answer p os c bs t =
    let put_is : put ≡ int_sum (put_of side bounds set) m.orders = p ∙ ap (int_sum (put_of side bounds set)) os in
    let carried_is : carried ≡ int_sum (carried_of side set) m.borders = c ∙ ap (int_sum (carried_of side set)) bs in
    let same : Exceeds side put carried ≡ CannotBalance bounds m side set =
    ap (λ (x : ℤ). Exceeds side x carried) put_is ∙ ap (λ (x : ℤ). Exceeds side (int_sum (put_of side bounds set) m.orders) x) carried_is ∙ sym (balance_test bounds m side set) in
    subst (λ (P : Type 0). IsTrue answer ↔ P) same t

-- with the bounds as a table of states has them
pub same_balance : (f g : Order → Span) (m : Market) (side : CutSide) (set : List ℕ) → IsValid m
    → ((o : Order) → GateFits (length m.gates) o → f o ≡ g o)
    → CannotBalance f m side set ≡ CannotBalance g m side set
same_balance f g m side set v e =
    balance_test f m side set
    ∙ ap (λ (x : ℤ). Exceeds side x (int_sum (carried_of side set) m.borders)) (same_put side f g set m.zones (length m.gates) m.orders e v.orders)
    ∙ sym (balance_test g m side set)

-- a cut holds where its zones rise and cannot be balanced
pub cut_test : (f g : Order → Span) (m : Market) (cut : CutRecord) (set : List ℕ) (answer : Bool) → IsValid m
    → set ≡ cut.zones → ((o : Order) → GateFits (length m.gates) o → f o ≡ g o) → IsRising 0 m.zones set
    → IsTrue answer ↔ CannotBalance f m cut.side set → IsTrue answer ↔ IsCut g m cut
cut_test f g m cut set answer v same e rising t =
    let side : IsTrue answer ↔ CannotBalance g m cut.side cut.zones =
    subst (λ (zs : List ℕ). IsTrue answer ↔ CannotBalance g m cut.side zs) same (subst (λ (P : Type 0). IsTrue answer ↔ P) (same_balance f g m cut.side set v e) t) in (
      λ yes. record { zones = subst (λ (zs : List ℕ). IsRising 0 m.zones zs) same rising; side = side.0 yes },
      λ is. side.1 is.side,
    )
