-- Lines that may follow one another stand for lines of the first form that may, and their parts for the parts of these.
use Rattle.std.proofs.Common.{◌≡◌, ◌∙◌, ◌≤◌, ◌<◌, ◌+◌, ◌^◌, Bool, true, false, cond, List, [], ◌∷◌, ◌++◌, Option, Some, None, length, map, option_map, refl, sym, ap, subst, append_assoc, arith}
use Rattle.std.specs.List.{AllByRecursion}
use Rattle.std.proofs.lemmas.List.{append-nil, length-map, length_push, map_push}
use Rattle.std.proofs.lemmas.Option.{option_and_then_some}
use Rattle.mari_market.specs.declared.certificate.TreeItem.{TreeItem}
use Rattle.mari_market.specs.declared.certificate.TreeItem.TheVariants as items
use Rattle.mari_lines.specs.Ranges.{InRange}
use Rattle.mari_lines.specs.declared.line.Line.{Line}
use Rattle.mari_publish.specs.Order.{HasRoom, after}
use Rattle.mari_publish.specs.Pieces.{Gives}
use Rattle.mari_publish.specs.Pieces.{with_part as with_first}
use Rattle.mari_publish.specs.Texts.{text_of_lines}
use Rattle.mari_publish.specs.declared.held.Kept.{Kept}
use Rattle.mari_publish.specs.declared.publication.Block.TheVariants as block
use Rattle.mari_publish.specs.declared.publication.FullBlock.{FullBlock}
use Rattle.mari_publish.specs.declared.publication.Part.{Part}
use Rattle.mari_publish.specs.declared.publication.Part.TheVariants as part
use Rattle.mari_publish.proofs.PartsGiven.{gives_nothing, next_gives, stands_of}
use Rattle.mari_publish.proofs.Progress.{counts_kept, number_fits, room_kept}
use Rattle.mari_publish.proofs.Steps.{some_is}
use Rattle.mari_publish.proofs.Whole.{all_push}
use Rattle.mari_reach_lines.specs.Ranges.{IsClaim, ReachInRange}
use Rattle.mari_reach_lines.specs.declared.line.ReachLine.{ReachLine}
use Rattle.mari_stream.specs.Forms.{Follow, after_lines, with_part}
use Rattle.mari_reach_text.specs.Order.{ClaimFits, after_reach, counts_right, given, kept_beside, line_of, noted, nothing_reached, reach_form, said, without_tree}
use Rattle.mari_reach_text.specs.declared.kept.ReachKept.{ReachKept}
use Rattle.mari_reach_text.specs.declared.kept.ReachPart.{ReachPart}
use Rattle.mari_reach_text.specs.declared.kept.ReachPart.TheVariants as parts
use Rattle.mari_reach_text.specs.declared.kept.Said.{Said}
use Rattle.mari_reach_text.specs.declared.kept.Said.TheVariants as says
use Rattle.mari_reach_text.specs.declared.named.NamedBlock.{NamedBlock}
use Rattle.mari_reach_text.specs.declared.named.NamedItem.{NamedItem}
use Rattle.mari_reach_text.proofs.Stepped.{Counted, branch_in, is_plain, is_quiet, stepped, tree_of}

-- a branch stands in place of each item
abbrev pub branches : List NamedItem → List TreeItem
branches tree = map (λ item. items.Branch) tree

-- the block of the first form for which a block stands, and the part
abbrev pub with_tree : FullBlock → List TreeItem → FullBlock
with_tree b tree = record {
  heading = b.heading;
  welfare = b.welfare;
  zones = b.zones;
  borders = b.borders;
  bids = b.bids;
  demands = b.demands;
  tree = tree;
  operators = b.operators;
  providers = b.providers;
}

abbrev pub first_block : NamedBlock → FullBlock
first_block n = with_tree n.block (branches n.tree)

abbrev pub first_part : ReachPart → Part
first_part (parts.Head date quarters budget) = part.Head date quarters budget
first_part (parts.Block n) = part.Block (block.Published (first_block n))
first_part (parts.Totals operators providers) = part.Totals operators providers

-- lines stand for lines of the first form, and their parts for the parts of these; a branch stands for each item of the tree
pub record Mirrors (lines : List ReachLine) (ps : List ReachPart) (s : ReachKept) : Type 0 where
  pub gives : Gives (map line_of lines) (map first_part ps) s.kept
  pub in_range : AllByRecursion InRange (map line_of lines)
  pub tree : tree_of s.kept.held ≡ branches s.tree
  pub claim : IsClaim s.claim
  pub claims : AllByRecursion ClaimFits ps
  pub few : s.first ≤ length lines

-- what stands for a line in range
pub plain : (l : ReachLine) → ReachInRange l → is_plain (line_of l) ≡ true
plain l r = grind arith

range_of : (k : Kept) (l : ReachLine) → ReachInRange l → Counted k (line_of l) → k.counts.published + k.counts.unpublished ≤ 1000 → InRange (line_of l)
range_of k l r c few = grind arith

-- what is noted of a line
pub noted_kept : (s : ReachKept) (x : Said) → (noted s x).kept ≡ s.kept
noted_kept s (says.Claim claim) = refl
noted_kept s (says.Item item) = refl
noted_kept s (says.First count) = refl
noted_kept s says.Nothing = refl

noted_first : (s : ReachKept) (x : Said) → (noted s x).first ≤ s.first + 1
noted_first s x = grind arith

noted_claim : (s : ReachKept) (l : ReachLine) → IsClaim s.claim → ReachInRange l → IsClaim (noted s (said l)).claim
noted_claim s l c r = grind arith

more_branches : (s : ReachKept) (i : NamedItem) → branches (s.tree ++ i ∷ []) ≡ branches s.tree ++ items.Branch ∷ []
more_branches s i = map_push (λ (item : NamedItem). items.Branch) s.tree i

pub noted_tree : (s : ReachKept) (l : ReachLine) → ReachInRange l → branches (noted s (said l)).tree ≡ branches s.tree ++ branch_in (line_of l)
noted_tree s l r = grind (arith, append-nil, more_branches)

-- with a part an item's line isn't whole
no_item : (l : Line) → is_quiet l ≡ false → branch_in l ≡ []
no_item l e = grind arith

pub quiet_tree : (s : ReachKept) (l : ReachLine) → ReachInRange l → is_quiet (line_of l) ≡ false → branches (noted s (said l)).tree ≡ branches s.tree
quiet_tree s l r e = noted_tree s l r ∙ ap (λ (ts : List TreeItem). branches s.tree ++ ts) (no_item (line_of l) e) ∙ append-nil (branches s.tree)

-- one line more
push_part : (ps : List ReachPart) (q : Option ReachPart) → map first_part (with_part ps q) ≡ with_first (map first_part ps) (option_map first_part q)
push_part ps None = refl
push_part ps (Some x) = map_push first_part ps x

push_claim : (ps : List ReachPart) (q : Option ReachPart) → AllByRecursion ClaimFits ps → ((x : ReachPart) → q ≡ Some x → ClaimFits x) → AllByRecursion ClaimFits (with_part ps q)
push_claim ps None a f = a
push_claim ps (Some x) a f = all_push ClaimFits ps x a (f x refl)

more : (done : List ReachLine) (ps : List ReachPart) (s new : ReachKept) (l : ReachLine) (k : Kept) (o : Option Part) (q : Option ReachPart) → Mirrors done ps s → ReachInRange l
    → after s.kept s.kept.held (line_of l) ≡ Some (k, o) → option_map first_part q ≡ o → new.kept ≡ k
    → tree_of k.held ≡ branches new.tree → IsClaim new.claim → ((x : ReachPart) → q ≡ Some x → ClaimFits x) → new.first ≤ s.first + 1
    → Mirrors (done ++ l ∷ []) (with_part ps q) new
more done ps s new l k o q m r a is same tree claim fits first =
    let push = sym (map_push line_of done l) in
    let g = next_gives (map line_of done) (map first_part ps) s.kept k (line_of l) o m.gives a in
    let st = stepped s.kept s.kept.held (line_of l) (k, o) (plain l r) a in
    let counts = counts_kept (map line_of done) m.gives.so_far s.kept (stands_of (map line_of done) m.gives.so_far s.kept m.gives.follow) in
    let len = length_push done l in
    let few = m.few in
    let by_parts : map first_part (with_part ps q) ≡ with_first (map first_part ps) o = push_part ps q ∙ ap (λ (z : Option Part). with_first (map first_part ps) z) is in
    record {
      gives = subst (λ (ls : List Line). Gives ls (map first_part (with_part ps q)) new.kept) push
          (subst (λ (z : List Part). Gives (map line_of done ++ line_of l ∷ []) z new.kept) (sym by_parts)
          (subst (λ (z : Kept). Gives (map line_of done ++ line_of l ∷ []) (with_first (map first_part ps) o) z) (sym same) g));
      in_range = subst (λ (ls : List Line). AllByRecursion InRange ls) push (all_push InRange (map line_of done) (line_of l) m.in_range (range_of s.kept l r st.0 counts));
      tree = ap (λ (z : Kept). tree_of z.held) same ∙ tree;
      claim = claim;
      claims = push_claim ps q m.claims fits;
      few = omega (arith, len, few, first);
    }

-- by the part of the first form that is whole with it
abbrev Next : List ReachLine → List ReachPart → ReachLine → ReachKept × Option ReachPart → Type 0
Next done ps l y = Mirrors (done ++ l ∷ []) (with_part ps y.1) y.0

by_part : (done : List ReachLine) (ps : List ReachPart) (s : ReachKept) (l : ReachLine) (k : Kept) (o : Option Part) (y : ReachKept × Option ReachPart) → Mirrors done ps s → ReachInRange l
    → after s.kept s.kept.held (line_of l) ≡ Some (k, o) → given (noted (kept_beside s k) (said l)) o ≡ Some y → Next done ps l y
by_part done ps s l k None y m r a g =
    let st = stepped s.kept s.kept.held (line_of l) (k, None) (plain l r) a in
    let old = kept_beside s k in
    let new = noted old (said l) in
    let tree : tree_of k.held ≡ branches new.tree = st.1.0 ∙ ap (λ (ts : List TreeItem). ts ++ branch_in (line_of l)) m.tree ∙ sym (noted_tree old l r) in
    subst (Next done ps l) (some_is (new, None) y g)
    (more done ps s new l k None None m r a refl (noted_kept old (said l)) tree (noted_claim old l m.claim r) (λ x e. absurd cc) (noted_first old (said l)))
by_part done ps s l k (Some (part.Head date quarters budget)) y m r a g =
    let st = stepped s.kept s.kept.held (line_of l) (k, Some (part.Head date quarters budget)) (plain l r) a in
    let old = kept_beside s k in
    let new = noted old (said l) in
    let q = parts.Head date quarters budget in
    let tree : tree_of k.held ≡ branches new.tree = st.1.1 ∙ sym st.1.0 ∙ m.tree ∙ sym (quiet_tree old l r st.1.2) in
    subst (Next done ps l) (some_is (new, Some q) y g)
    (more done ps s new l k _ (Some q) m r a refl (noted_kept old (said l)) tree (noted_claim old l m.claim r) (λ x e. subst ClaimFits (some_is q x e) tt) (noted_first old (said l)))
by_part done ps s l k (Some (part.Totals os qs)) y m r a g =
    let st = stepped s.kept s.kept.held (line_of l) (k, Some (part.Totals os qs)) (plain l r) a in
    let old = kept_beside s k in
    let new = noted old (said l) in
    let q = parts.Totals os qs in
    let tree : tree_of k.held ≡ branches new.tree = st.1.1 ∙ sym st.1.0 ∙ m.tree ∙ sym (quiet_tree old l r st.1.2) in
    subst (Next done ps l) (some_is (new, Some q) y g)
    (more done ps s new l k _ (Some q) m r a refl (noted_kept old (said l)) tree (noted_claim old l m.claim r) (λ x e. subst ClaimFits (some_is q x e) tt) (noted_first old (said l)))
by_part done ps s l k (Some (part.Block (block.Published b))) y m r a g =
    let st = stepped s.kept s.kept.held (line_of l) (k, Some (part.Block (block.Published b))) (plain l r) a in
    let old = kept_beside s k in
    let noted_now = noted old (said l) in
    let new : ReachKept = record { kept = noted_now.kept; claim = noted_now.claim; tree = []; first = noted_now.first } in
    let n : NamedBlock = record { block = without_tree b; claim = noted_now.claim; tree = noted_now.tree } in
    let q = parts.Block n in
    let same_tree : branches noted_now.tree ≡ b.tree = quiet_tree old l r st.1.2 ∙ sym m.tree ∙ sym st.1.0 in
    let is : option_map first_part (Some q) ≡ Some (part.Block (block.Published b)) = ap (λ (ts : List TreeItem). Some (part.Block (block.Published (with_tree b ts)))) same_tree in
    let claim = noted_claim old l m.claim r in
    subst (Next done ps l) (some_is (new, Some q) y g)
    (more done ps s new l k _ (Some q) m r a is (noted_kept old (said l)) st.1.1 claim (λ x e. subst ClaimFits (some_is q x e) claim) (noted_first old (said l)))
by_part done ps s l k (Some (part.Block (block.Unpublished heading count))) y m r a g = absurd cc

-- a choice that gives something
pub if_so : {A : Type 0} (b : Bool) (o : Option A) (y : A) → cond b o None ≡ Some y → (b ≡ true) × (o ≡ Some y)
if_so b o y e = grind arith

pub next : (done : List ReachLine) (ps : List ReachPart) (s : ReachKept) (l : ReachLine) (y : ReachKept × Option ReachPart) → Mirrors done ps s → ReachInRange l → after_reach s l ≡ Some y
    → Mirrors (done ++ l ∷ []) (with_part ps y.1) y.0
next done ps s l y m r e =
    let t = if_so (counts_right s.first (said l)) _ y e in
    option_and_then_some (λ (z : Kept × Option Part). given (noted (kept_beside s z.0) (said l)) z.1) (after s.kept s.kept.held (line_of l)) y t.1
    (λ z a g. by_part done ps s l z.0 z.1 y m r a g)

-- what goes on with each line, and holds before the first, holds after all
abbrev pub GoesOn : (List ReachLine → List ReachPart → ReachKept → Type 0) → Type 0
GoesOn I =
    (done : List ReachLine) (ps : List ReachPart) (s : ReachKept) (l : ReachLine) (y : ReachKept × Option ReachPart) → I done ps s → ReachInRange l → after_reach s l ≡ Some y
    → I (done ++ l ∷ []) (with_part ps y.1) y.0

on_next : (I : List ReachLine → List ReachPart → ReachKept → Type 0)
    → GoesOn I → (done : List ReachLine) (ps qs : List ReachPart) (s r : ReachKept) (l : ReachLine) (ls : List ReachLine) → I done ps s → ReachInRange l
    → ((y : ReachKept × Option ReachPart) → I (done ++ l ∷ []) (with_part ps y.1) y.0 → after_lines reach_form (with_part ps y.1) y.0 ls ≡ Some (qs, r) → I ((done ++ l ∷ []) ++ ls) qs r)
    → after_lines reach_form ps s (l ∷ ls) ≡ Some (qs, r) → I (done ++ l ∷ ls) qs r
on_next I step done ps qs s r l ls i range f e =
    option_and_then_some (λ (y : ReachKept × Option ReachPart). after_lines reach_form (with_part ps y.1) y.0 ls) (after_reach s l) (qs, r) e
    (λ y a g. subst (λ (z : List ReachLine). I z qs r) (append_assoc done (l ∷ []) ls) (f y (step done ps s l y i range a) g))

pub along : (I : List ReachLine → List ReachPart → ReachKept → Type 0)
    → GoesOn I → (done ls : List ReachLine) (ps qs : List ReachPart) (s r : ReachKept) → I done ps s → AllByRecursion ReachInRange ls
    → after_lines reach_form ps s ls ≡ Some (qs, r) → I (done ++ ls) qs r
along I step done [] ps qs s r i a e =
    let pair = some_is (ps, s) (qs, r) e in
    subst (λ (z : List ReachLine). I z qs r) (sym (append-nil done)) (subst (λ (x : List ReachPart × ReachKept). I done x.0 x.1) pair i)
along I step done (l ∷ ls) ps qs s r i a e = on_next I step done ps qs s r l ls i a.0 (λ y n f. along I step (done ++ l ∷ []) ls (with_part ps y.1) qs y.0 r n a.1 f) e

pub first_mirror : Mirrors [] [] nothing_reached
first_mirror = record { gives = gives_nothing; in_range = tt; tree = refl; claim = tt; claims = tt; few = omega arith }

pub mirrors : (lines : List ReachLine) (ps : List ReachPart) (s : ReachKept) → Follow reach_form lines ps s → Mirrors lines ps s
mirrors lines ps s f = along Mirrors next [] lines [] ps nothing_reached s first_mirror f.in_range f.gives

-- so there is room for what is kept, and the lines are few
pub few_lines : (lines : List ReachLine) (ps : List ReachPart) (s : ReachKept) → Follow reach_form lines ps s → length lines < 2 ^ 31
few_lines lines ps s f =
    let m = mirrors lines ps s f in
    let ls = map line_of lines in
    let n = number_fits (text_of_lines ls) [] (length ls + 1) m.gives.so_far s.kept
    (record { before = ls; parts = sym (append-nil (text_of_lines ls)); number_is = refl; fit = m.in_range; came = m.gives.follow; stands = stands_of ls m.gives.so_far s.kept m.gives.follow }) in
    let len = length-map lines line_of in
    omega (arith, n, len)

pub few_first : (lines : List ReachLine) (ps : List ReachPart) (s : ReachKept) → Follow reach_form lines ps s → s.first < 2 ^ 31
few_first lines ps s f = let n = few_lines lines ps s f in let m = (mirrors lines ps s f).few in omega (arith, n, m)

pub few_runs : (lines : List ReachLine) (ps : List ReachPart) (s : ReachKept) → Follow reach_form lines ps s → s.kept.counts.published + s.kept.counts.unpublished ≤ 1000
few_runs lines ps s f = let g = (mirrors lines ps s f).gives in counts_kept (map line_of lines) g.so_far s.kept (stands_of (map line_of lines) g.so_far s.kept g.follow)

pub has_room : (lines : List ReachLine) (ps : List ReachPart) (s : ReachKept) → Follow reach_form lines ps s → HasRoom s.kept.held s.kept.counts
has_room lines ps s f = let g = (mirrors lines ps s f).gives in room_kept (map line_of lines) g.so_far s.kept (stands_of (map line_of lines) g.so_far s.kept g.follow)
