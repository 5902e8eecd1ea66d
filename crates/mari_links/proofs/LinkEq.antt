-- When two links are equal.
use Rattle.std.proofs.Common.{◌≡◌, Bool, List, refl, ap}
use Rattle.std.specs.Prelude.{◌&&◌, ◌==◌}
use Rattle.std.specs.List.{list_any}
use denote.Enum.Bare.{sameb}
use Rattle.mari_links.specs.contracts.lines.LinkKind.{the_type}
use Rattle.mari_links.specs.contracts.lines.LinkPartialEq.TheImpl.{eq-value}
use Rattle.mari_links.specs.Links.{is_same_kind, is_same_link}
use Rattle.mari_links.specs.declared.lines.Link.{Link}
use Rattle.mari_links.specs.declared.lines.LinkKind.{LinkKind}
use Rattle.mari_links.specs.declared.lines.LinkKind.TheVariants.{Group, Child, Needs, Bars, Technical}

-- the derived test of two kinds
kinds-same : (a b : LinkKind) → sameb the_type a b ≡ is_same_kind a b
kinds-same Group Group = refl
kinds-same Group Child = refl
kinds-same Group Needs = refl
kinds-same Group Bars = refl
kinds-same Group Technical = refl
kinds-same Child Group = refl
kinds-same Child Child = refl
kinds-same Child Needs = refl
kinds-same Child Bars = refl
kinds-same Child Technical = refl
kinds-same Needs Group = refl
kinds-same Needs Child = refl
kinds-same Needs Needs = refl
kinds-same Needs Bars = refl
kinds-same Needs Technical = refl
kinds-same Bars Group = refl
kinds-same Bars Child = refl
kinds-same Bars Needs = refl
kinds-same Bars Bars = refl
kinds-same Bars Technical = refl
kinds-same Technical Group = refl
kinds-same Technical Child = refl
kinds-same Technical Needs = refl
kinds-same Technical Bars = refl
kinds-same Technical Technical = refl

-- and of two links
pub links-same : (a b : Link) → (eq-value).it a b ≡ is_same_link a b
links-same a b = ap (λ same. same && ((a.first == b.first) && (a.second == b.second))) (kinds-same a.kind b.kind)

-- tests that are alike find alike
pub list_any-alike : {X : Type 0} (p q : X → Bool) (xs : List X) → ((x : X) → p x ≡ q x) → list_any p xs ≡ list_any q xs
list_any-alike p q xs alike = λ i. list_any (λ x. alike x i) xs
