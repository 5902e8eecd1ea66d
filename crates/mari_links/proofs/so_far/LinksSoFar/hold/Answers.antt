use Rattle.std.proofs.Common.{◌≡◌, ◌∙◌, ◌++◌, ◌∷◌, ◌⊎◌, [], List, Some, None, false, ap, sym, refl, subst, inl, inr}
use Rattle.std.specs.List.{list_any}
use Rattle.mari_rows.specs.declared.rows.Row.{Row}
use Rattle.mari_links.specs.Links.{child_of, is_repeated, is_same_link, link_of, member_of, said_by, timed_of, Said}
use Rattle.mari_links.specs.SoFar.{HoldsLinks}
use Rattle.mari_links.specs.declared.lines.Link.{Link}
use Rattle.mari_links.specs.declared.lines.LinkKind.{LinkKind}
use Rattle.mari_links.specs.declared.lines.LinkKind.TheVariants.{Needs, Bars, Technical}
use Rattle.mari_links.proofs.SaidLemmas.{said-child, said-member, said-timed}
use Rattle.mari_links.proofs.so_far.LinksSoFar.hold.Goals as goal

pub returns-in_ok-join-in-Group : goal.returns-in_ok-join-in-Group
returns-in_ok-join-in-Group c = λ earlier holds new.
    let bids = c.args.bids.now in
    let line = c.args.line.now in
    let is = c.requires.kind ∙ ap Some c.in-Group.is in
    let named = ap (λ (link : Link). link.second) c.requires.link in
    let absent = rw (c.in-Group.is, sym named) at new in
    let joined = rw (c.field.ensures, named) at (c.in_ok-join-in-Group.ensures (said_by bids earlier) holds absent) in
    subst (λ (said : Said). HoldsLinks bids said c.join.new.self) (sym (said-member bids earlier line is)) joined

pub returns-in-Child : goal.returns-in-Child
returns-in-Child c = λ earlier holds new.
    let bids = c.args.bids.now in
    let line = c.args.line.now in
    let is = c.requires.kind ∙ ap Some c.in-Child.is in
    let named = ap (λ (link : Link). link.first) c.requires.link in
    let link = c.requires.link ∙ ap (link_of bids line) c.in-Child.is in
    let absent = rw (c.in-Child.is, sym named) at new in
    let followed = rw link at (c.follow.ensures (said_by bids earlier) holds absent) in
    subst (λ (said : Said). HoldsLinks bids said c.follow.new.self) (sym (said-child bids earlier line is)) followed

pub returns-in_ok-name-in-Needs : goal.returns-in_ok-name-in-Needs
returns-in_ok-name-in-Needs c = λ earlier holds new. by earlier holds new c.in-Needs.is
  where
    held : (earlier : List Row) (kind : LinkKind) → HoldsLinks c.args.bids.now (said_by c.args.bids.now earlier) c.args.self.now → c.args.link.kind ≡ kind
        → list_any (is_same_link (link_of c.args.bids.now c.args.line.now kind)) (said_by c.args.bids.now earlier).timed ≡ false
        → member_of c.args.bids.now c.args.line.now kind ≡ None → child_of c.args.bids.now c.args.line.now kind ≡ None
        → timed_of c.args.bids.now c.args.line.now kind ≡ Some (link_of c.args.bids.now c.args.line.now kind)
        → HoldsLinks c.args.bids.now (said_by c.args.bids.now (earlier ++ c.args.line.now ∷ [])) c.name.new.self
    held earlier kind holds is new no_member no_child timed =
        let bids = c.args.bids.now in
        let line = c.args.line.now in
        let link = c.requires.link ∙ ap (link_of bids line) is in
        let named = rw link at (c.in_ok-name-in-Needs.ensures (said_by bids earlier) holds (rw link new)) in
        subst (λ (said : Said). HoldsLinks bids said c.name.new.self) (sym (said-timed bids earlier line kind (c.requires.kind ∙ ap Some is) no_member no_child timed)) named

    by : (earlier : List Row) → HoldsLinks c.args.bids.now (said_by c.args.bids.now earlier) c.args.self.now
        → is_repeated c.args.bids.now (said_by c.args.bids.now earlier) c.args.line.now c.args.link.kind ≡ false
        → (c.args.link.kind ≡ Needs) ⊎ ((c.args.link.kind ≡ Bars) ⊎ (c.args.link.kind ≡ Technical))
        → HoldsLinks c.args.bids.now (said_by c.args.bids.now (earlier ++ c.args.line.now ∷ [])) c.name.new.self
    by earlier holds new (inl is) = held earlier Needs holds is (rw is at new) refl refl refl
    by earlier holds new (inr (inl is)) = held earlier Bars holds is (rw is at new) refl refl refl
    by earlier holds new (inr (inr is)) = held earlier Technical holds is (rw is at new) refl refl refl
