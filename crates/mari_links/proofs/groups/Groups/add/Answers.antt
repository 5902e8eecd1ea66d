use Rattle.std.proofs.Common.{◌≡◌, ◌∙◌, ◌++◌, ◌∷◌, [], ap, sym, rules, false, is_some, refl, List, ℕ}
use Rattle.std.specs.Prelude.{unwrap_or, map}
use Rattle.std.proofs.lemmas.List.{map-append}
use Rattle.mari_rows.specs.Names.{with_name}
use Rattle.mari_rows.proofs.PlaceLemmas.{distinct-push}
use Rattle.mari_links.specs.Links.{groups_of, quarter_of_group, Member}
use Rattle.mari_links.specs.SoFar.{HoldsGroups}
use Rattle.mari_links.proofs.GroupLemmas.{group-there, on-ok, quarter-new, quarters-stay}
use Rattle.mari_links.proofs.groups.Groups.add.Goals as goal

pub returns-in-Some-clause-groups : goal.returns-in-Some-clause-groups
returns-in-Some-clause-groups c = λ bids members bid holds is.
    let member : Member = record { group = c.args.name.now; bid = bid } in
    let there = rw holds.names at (sym c.find.ensures.there ∙ ap is_some c.in-Some.is) in
    let same : groups_of (members ++ member ∷ []) ≡ groups_of members = distinct-push (λ (m : Member). m.group) members member ∙ rw there refl in
    record {
      names = rw same holds.names;
      quarters = rw same (holds.quarters ∙ sym (quarters-stay bids members member));
    }

pub returns-clause-groups : goal.returns-clause-groups
returns-clause-groups c = λ bids members bid holds is.
    let member : Member = record { group = c.args.name.now; bid = bid } in
    let old = c.args.self.now.names in
    let none : is_some c.find.result ≡ false = search rules in
    let new = rw holds.names at (sym c.find.ensures.there ∙ none) in
    let pushed : c.push.new.self.items ≡ c.args.self.now.quarters.items ++ c.args.quarter ∷ [] = search rules in
    let longer : groups_of (members ++ member ∷ []) ≡ groups_of members ++ member.group ∷ [] = distinct-push (λ (m : Member). m.group) members member ∙ rw new refl in
    let quarter_in : List ℕ → ℕ = λ name. unwrap_or (quarter_of_group bids (members ++ member ∷ []) name) 0 in
    let last : quarter_in member.group ≡ c.args.quarter =
    ap (λ o. unwrap_or o 0) (quarter-new bids members member (sym (group-there bids members member.group) ∙ new)) ∙ sym is in
    let quarters : map quarter_in (groups_of (members ++ member ∷ [])) ≡ c.push.new.self.items =
    rw (longer, map-append quarter_in (groups_of members) (member.group ∷ []), quarters-stay bids members member, last, pushed, holds.quarters) refl in
    on-ok c.find_or_add.result (c.find_or_add.new.self ≡ with_name (groups_of members) member.group)
    (HoldsGroups bids (members ++ member ∷ []) (record { names = c.find_or_add.new.self; quarters = c.push.new.self }))
    (rw holds.names at c.find_or_add.ensures.names)
    (λ added. record { names = added ∙ sym (distinct-push (λ (m : Member). m.group) members member); quarters = sym quarters })
