-- What lines say besides the lines for which they stand: the parts say it too.
use Rattle.std.proofs.Common.{◌≡◌, ◌∙◌, ◌+◌, ℕ, Bool, true, false, cond, List, [], ◌∷◌, ◌++◌, Option, Some, None, map, refl, sym, ap, subst, append_assoc, arith}
use Rattle.std.specs.List.{AllByRecursion, flat_map}
use Rattle.std.proofs.lemmas.Grind.{flat_map-append}
use Rattle.std.proofs.lemmas.List.{append-nil, map_push}
use Rattle.std.proofs.lemmas.Option.{option_and_then_some}
use Rattle.mari_lines.specs.declared.line.Line.{Line}
use Rattle.mari_lines.specs.declared.line.Line.TheVariants as line
use Rattle.mari_publish.specs.Order.{after}
use Rattle.mari_publish.specs.declared.held.Held.{Held}
use Rattle.mari_publish.specs.declared.held.Kept.{Kept}
use Rattle.mari_publish.specs.declared.publication.Block.TheVariants as block
use Rattle.mari_publish.specs.declared.publication.Part.{Part}
use Rattle.mari_publish.specs.declared.publication.Part.TheVariants as part
use Rattle.mari_publish.proofs.Steps.{some_is}
use Rattle.mari_publish.proofs.Whole.{all_push}
use Rattle.mari_reach_lines.specs.Ranges.{ReachInRange}
use Rattle.mari_reach_lines.specs.declared.line.Claim.{Claim}
use Rattle.mari_reach_lines.specs.declared.line.ReachLine.{ReachLine}
use Rattle.mari_reach_lines.specs.declared.line.ReachLine.TheVariants as reach
use Rattle.mari_stream.specs.Forms.{Follow, with_part}
use Rattle.mari_reach_text.specs.Claims.{one_if_first}
use Rattle.mari_reach_text.specs.Order.{after_reach, counts_right, given, is_done, kept_beside, line_of, noted, nothing_reached, reach_form, said, without_items, without_tree}
use Rattle.mari_reach_text.specs.Texts.{named_line}
use Rattle.mari_reach_text.specs.declared.kept.ReachKept.{ReachKept}
use Rattle.mari_reach_text.specs.declared.kept.ReachPart.{ReachPart}
use Rattle.mari_reach_text.specs.declared.kept.ReachPart.TheVariants as parts
use Rattle.mari_reach_text.specs.declared.kept.Said.{Said}
use Rattle.mari_reach_text.specs.declared.kept.Said.TheVariants as says
use Rattle.mari_reach_text.specs.declared.named.NamedItem.{NamedItem}
use Rattle.mari_reach_text.specs.declared.named.NamedItem.TheVariants as named
use Rattle.mari_reach_text.proofs.Mirrors.{Mirrors, along, branches, first_mirror, if_so, next, plain}
use Rattle.mari_reach_text.proofs.Stepped.{Stepped, in_block, is_ending, is_last, not_both, stepped, tree_of}

-- what lines say besides
abbrev pub listed : Said → List Said
listed says.Nothing = []
listed x = x ∷ []

abbrev pub saids : List ReachLine → List Said
saids lines = flat_map (λ l. listed (said l)) lines

saids_push : (lines : List ReachLine) (l : ReachLine) → saids (lines ++ l ∷ []) ≡ saids lines ++ listed (said l)
saids_push lines l = flat_map-append (λ (x : ReachLine). listed (said x)) lines (l ∷ []) ∙ ap (λ (xs : List Said). saids lines ++ xs) (append-nil (listed (said l)))

-- what a part says
abbrev both_said : Claim → List NamedItem → List Said
both_said claim tree = says.Claim claim ∷ map says.Item tree

abbrev pub part_saids : ReachPart → List Said
part_saids (parts.Block n) = both_said n.claim n.tree
part_saids _ = []

abbrev saids_of : Option ReachPart → List Said
saids_of None = []
saids_of (Some x) = part_saids x

push_saids : (ps : List ReachPart) (q : Option ReachPart) → flat_map part_saids (with_part ps q) ≡ flat_map part_saids ps ++ saids_of q
push_saids ps None = sym (append-nil (flat_map part_saids ps))
push_saids ps (Some x) = flat_map-append part_saids ps (x ∷ []) ∙ ap (λ (xs : List Said). flat_map part_saids ps ++ xs) (append-nil (part_saids x))

-- what was said of the part that is being read, and by the last line
abbrev coming : ReachKept → List Said
coming s = cond (in_block s.kept.held) (both_said s.claim s.tree) (cond (is_done s.kept.held) (says.First s.first ∷ []) [])

-- how many parts state the first activation, and whether the one that is being read does
abbrev one_in : ReachPart → ℕ
one_in (parts.Block n) = one_if_first n.claim
one_in _ = 0

abbrev pub first_in : List ReachPart → ℕ
first_in [] = 0
first_in (x ∷ xs) = one_in x + first_in xs

abbrev one_of : Option ReachPart → ℕ
one_of None = 0
one_of (Some x) = one_in x

abbrev begun : ReachKept → ℕ
begun s = cond (in_block s.kept.held) (one_if_first s.claim) 0

first_more : (ps : List ReachPart) (x : ReachPart) → first_in (ps ++ x ∷ []) ≡ first_in ps + one_in x
first_more [] x = omega arith
first_more (p ∷ ps) x = let more = first_more ps x in omega (arith, more)

first_push : (ps : List ReachPart) (q : Option ReachPart) → first_in (with_part ps q) ≡ first_in ps + one_of q
first_push ps None = omega arith
first_push ps (Some x) = first_more ps x

-- a block has no tree of the first form, and the items of its own are in range
abbrev pub ItemFits : NamedItem → Type 0
ItemFits i = ReachInRange (named_line i)

abbrev pub PartFits : ReachPart → Type 0
PartFits (parts.Block n) = (n.block.tree ≡ []) × AllByRecursion ItemFits n.tree
PartFits _ = Unit {0}

push_fits : (ps : List ReachPart) (q : Option ReachPart) → AllByRecursion PartFits ps → ((x : ReachPart) → q ≡ Some x → PartFits x) → AllByRecursion PartFits (with_part ps q)
push_fits ps None a f = a
push_fits ps (Some x) a f = all_push PartFits ps x a (f x refl)

-- lines say what the parts and what is kept say
pub record Tells (lines : List ReachLine) (ps : List ReachPart) (s : ReachKept) : Type 0 where
  pub tells : saids lines ≡ flat_map part_saids ps ++ coming s
  pub counted : s.first ≡ first_in ps + begun s
  pub fit : AllByRecursion PartFits ps
  pub items : AllByRecursion ItemFits s.tree

inside : (s : ReachKept) → in_block s.kept.held ≡ true → coming s ≡ both_said s.claim s.tree
inside s e = ap (λ (b : Bool). cond b (both_said s.claim s.tree) (cond (is_done s.kept.held) (says.First s.first ∷ []) [])) e

outside : (s : ReachKept) → in_block s.kept.held ≡ false → is_done s.kept.held ≡ false → coming s ≡ []
outside s e d =
    ap (λ (b : Bool). cond b (both_said s.claim s.tree) (cond (is_done s.kept.held) (says.First s.first ∷ []) [])) e
    ∙ ap (λ (b : Bool). cond b (says.First s.first ∷ []) []) d

pub at_end : (s : ReachKept) → in_block s.kept.held ≡ false → is_done s.kept.held ≡ true → coming s ≡ says.First s.first ∷ []
at_end s e d =
    ap (λ (b : Bool). cond b (both_said s.claim s.tree) (cond (is_done s.kept.held) (says.First s.first ∷ []) [])) e
    ∙ ap (λ (b : Bool). cond b (says.First s.first ∷ []) []) d

begun_inside : (s : ReachKept) → in_block s.kept.held ≡ true → begun s ≡ one_if_first s.claim
begun_inside s e = ap (λ (b : Bool). cond b (one_if_first s.claim) 0) e

pub begun_outside : (s : ReachKept) → in_block s.kept.held ≡ false → begun s ≡ 0
begun_outside s e = ap (λ (b : Bool). cond b (one_if_first s.claim) 0) e

-- one line more
finish : (done : List ReachLine) (ps : List ReachPart) (s new : ReachKept) (l : ReachLine) (q : Option ReachPart) → Tells done ps s
    → coming s ++ listed (said l) ≡ saids_of q ++ coming new → new.first + begun s ≡ (s.first + one_of q) + begun new
    → ((x : ReachPart) → q ≡ Some x → PartFits x) → AllByRecursion ItemFits new.tree → Tells (done ++ l ∷ []) (with_part ps q) new
finish done ps s new l q t told first fits items = grind (arith, first_push, saids_push, append_assoc, push_saids, push_fits)

abbrev Next : List ReachLine → List ReachPart → ReachLine → ReachKept × Option ReachPart → Type 0
Next done ps l y = Tells (done ++ l ∷ []) (with_part ps y.1) y.0

no_more : (x : ReachPart) → None ≡ Some x → PartFits x
no_more x e = grind arith

-- a line that says nothing besides
says_nothing : (done : List ReachLine) (ps : List ReachPart) (s : ReachKept) (l : ReachLine) (k : Kept) → Tells done ps s → said l ≡ says.Nothing
    → in_block k.held ≡ in_block s.kept.held → is_done s.kept.held ≡ false → is_done k.held ≡ false → Next done ps l (noted (kept_beside s k) (said l), None)
says_nothing done ps s l k t nought same was is =
    let new = kept_beside s k in
    let coming_same : coming s ≡ coming new
    = ap (λ (b : Bool). cond b (both_said s.claim s.tree) (cond (is_done s.kept.held) (says.First s.first ∷ []) [])) (sym same)
    ∙ ap (λ (b : Bool). cond (in_block k.held) (both_said s.claim s.tree) (cond b (says.First s.first ∷ []) [])) (was ∙ sym is) in
    let told : coming s ++ listed (said l) ≡ coming new = ap (λ x. coming s ++ listed x) nought ∙ append-nil (coming s) ∙ coming_same in
    let begun_same : begun s ≡ begun new = ap (λ (b : Bool). cond b (one_if_first s.claim) 0) (sym same) in
    subst (λ (x : Said). Next done ps l (noted new x, None)) (sym nought)
    (finish done ps s new l None t told (omega (arith, begun_same)) no_more t.items)

-- one that says an item
says_item : (done : List ReachLine) (ps : List ReachPart) (s : ReachKept) (l : ReachLine) (k : Kept) (i : NamedItem) → Tells done ps s → said l ≡ says.Item i → ItemFits i
    → in_block s.kept.held ≡ true → in_block k.held ≡ true → Next done ps l (noted (kept_beside s k) (said l), None)
says_item done ps s l k i t is fits was now =
    let new = noted (kept_beside s k) (says.Item i) in
    let told : coming s ++ listed (said l) ≡ coming new
    = ap (λ x. coming s ++ listed x) is ∙ ap (λ (xs : List Said). xs ++ says.Item i ∷ []) (inside s was)
    ∙ ap (λ (xs : List Said). says.Claim s.claim ∷ xs) (sym (map_push (λ (x : NamedItem). says.Item x) s.tree i)) ∙ sym (inside new now) in
    let before = begun_inside s was in
    let after_it = begun_inside new now in
    subst (λ (x : Said). Next done ps l (noted (kept_beside s k) x, None)) (sym is)
    (finish done ps s new l None t told (omega (arith, before, after_it)) no_more (all_push ItemFits s.tree i t.items fits))

-- a run's line
no_tree : (h : Held) → in_block h ≡ false → tree_of h ≡ []
no_tree h e = grind arith

no_items : (tree : List NamedItem) → [] ≡ branches tree → tree ≡ []
no_items [] e = refl
no_items (i ∷ is) e = absurd cc

says_claim : (done : List ReachLine) (ps : List ReachPart) (s : ReachKept) (l : ReachLine) (k : Kept) (c : Claim) → Mirrors done ps s → Tells done ps s → said l ≡ says.Claim c
    → in_block s.kept.held ≡ false → is_done s.kept.held ≡ false → in_block k.held ≡ true → Next done ps l (noted (kept_beside s k) (said l), None)
says_claim done ps s l k c m t is was was2 now =
    let new = noted (kept_beside s k) (says.Claim c) in
    let none : s.tree ≡ [] = no_items s.tree (sym (no_tree s.kept.held was) ∙ m.tree) in
    let told : coming s ++ listed (said l) ≡ coming new
    = ap (λ x. coming s ++ listed x) is ∙ ap (λ (xs : List Said). xs ++ says.Claim c ∷ []) (outside s was was2)
    ∙ ap (λ (xs : List NamedItem). both_said c xs) (sym none) ∙ sym (inside new now) in
    let before = begun_outside s was in
    let after_it = begun_inside new now in
    subst (λ (x : Said). Next done ps l (noted (kept_beside s k) x, None)) (sym is)
    (finish done ps s new l None t told (omega (arith, before, after_it)) no_more t.items)

-- a line with which no part is whole
no_part : (done : List ReachLine) (ps : List ReachPart) (s : ReachKept) (l : ReachLine) (k : Kept) → Mirrors done ps s → Tells done ps s → ReachInRange l
    → Stepped s.kept s.kept.held (line_of l) (k, None)
    → Next done ps l (noted (kept_beside s k) (said l), None)
no_part done ps s (reach.Head date quarters budget) k m t r st = says_nothing done ps s (reach.Head date quarters budget) k t refl st.1.1 st.2 st.3
no_part done ps s (reach.Run heading claim) k m t r st = says_claim done ps s (reach.Run heading claim) k claim m t refl st.1.1.0 st.2 st.1.1.1
no_part done ps s (reach.Branch bid) k m t r st = says_item done ps s (reach.Branch bid) k (named.Gate bid) t refl r st.1.1.0 st.1.1.1
no_part done ps s (reach.Price zone price) k m t r st = says_item done ps s (reach.Price zone price) k (named.Price zone price) t refl r st.1.1.0 st.1.1.1
no_part done ps s reach.Void k m t r st = says_item done ps s reach.Void k named.Void t refl r st.1.1.0 st.1.1.1
no_part done ps s (reach.Shared (line.Bound potentials)) k m t r st =
    says_item done ps s (reach.Shared (line.Bound potentials)) k (named.Bound (record { cents = potentials })) t refl r st.1.1.0 st.1.1.1
no_part done ps s (reach.Shared (line.Cut cut)) k m t r st = says_item done ps s (reach.Shared (line.Cut cut)) k (named.Cut cut) t refl r st.1.1.0 st.1.1.1
no_part done ps s (reach.Shared (line.Done first within)) k m t r st = absurd st.1.1
no_part done ps s (reach.Shared (line.Run heading)) k m t r st = absurd (not_both (sym r.1))
no_part done ps s (reach.Shared line.Branch) k m t r st = absurd (not_both (sym r.1))
no_part done ps s (reach.Shared l) k m t r st = says_nothing done ps s (reach.Shared l) k t refl st.1.1 st.2 st.3

-- a line with which the head or a block is whole says nothing besides, and the last line says how many runs state the first
-- activation
ending_says : (l : ReachLine) → is_ending (line_of l) ≡ true → said l ≡ says.Nothing
ending_says l e = grind arith

ending_not_last : (l : Line) → is_ending l ≡ true → is_last l ≡ false
ending_not_last l e = grind arith

last_says : (l : ReachLine) (first : ℕ) → is_last (line_of l) ≡ true → counts_right first (said l) ≡ true → said l ≡ says.First first
last_says l first e c = grind arith

by_part : (done : List ReachLine) (ps : List ReachPart) (s : ReachKept) (l : ReachLine) (k : Kept) (o : Option Part) (y : ReachKept × Option ReachPart)
    → Mirrors done ps s → Tells done ps s → ReachInRange l → counts_right s.first (said l) ≡ true
    → after s.kept s.kept.held (line_of l) ≡ Some (k, o) → given (noted (kept_beside s k) (said l)) o ≡ Some y → Next done ps l y
by_part done ps s l k None y m t r c a g =
    subst (Next done ps l) (some_is (noted (kept_beside s k) (said l), None) y g) (no_part done ps s l k m t r (stepped s.kept s.kept.held (line_of l) (k, None) (plain l r) a))
by_part done ps s l k (Some (part.Head date quarters budget)) y m t r c a g =
    let st = stepped s.kept s.kept.held (line_of l) (k, Some (part.Head date quarters budget)) (plain l r) a in
    let q = parts.Head date quarters budget in
    let nought = ending_says l st.1.5 in
    let new = kept_beside s k in
    let told : coming s ++ listed (said l) ≡ coming new
    = ap (λ x. coming s ++ listed x) nought ∙ append-nil (coming s) ∙ outside s st.1.3 st.2 ∙ sym (outside new st.1.4 (st.3 ∙ ending_not_last (line_of l) st.1.5)) in
    let before = begun_outside s st.1.3 in
    let after_it = begun_outside new st.1.4 in
    subst (Next done ps l) (some_is (noted new (said l), Some q) y g)
    (subst (λ (x : Said). Next done ps l (noted new x, Some q)) (sym nought)
    (finish done ps s new l (Some q) t told (omega (arith, before, after_it)) (λ x e. subst PartFits (some_is q x e) tt) t.items))
by_part done ps s l k (Some (part.Totals os qs)) y m t r c a g =
    let st = stepped s.kept s.kept.held (line_of l) (k, Some (part.Totals os qs)) (plain l r) a in
    let q = parts.Totals os qs in
    let is = last_says l s.first st.1.5 c in
    let new = kept_beside s k in
    let told : coming s ++ listed (said l) ≡ coming new
    = ap (λ x. coming s ++ listed x) is ∙ ap (λ (xs : List Said). xs ++ says.First s.first ∷ []) (outside s st.1.3 st.2) ∙ sym (at_end new st.1.4 (st.3 ∙ st.1.5)) in
    let before = begun_outside s st.1.3 in
    let after_it = begun_outside new st.1.4 in
    subst (Next done ps l) (some_is (noted new (said l), Some q) y g)
    (subst (λ (x : Said). Next done ps l (noted new x, Some q)) (sym is)
    (finish done ps s new l (Some q) t told (omega (arith, before, after_it)) (λ x e. subst PartFits (some_is q x e) tt) t.items))
by_part done ps s l k (Some (part.Block (block.Published b))) y m t r c a g =
    let st = stepped s.kept s.kept.held (line_of l) (k, Some (part.Block (block.Published b))) (plain l r) a in
    let q = parts.Block (record { block = without_tree b; claim = s.claim; tree = s.tree }) in
    let nought = ending_says l st.1.5 in
    let old = kept_beside s k in
    let new = without_items old in
    let told : coming s ++ listed (said l) ≡ both_said s.claim s.tree ++ coming new
    = ap (λ x. coming s ++ listed x) nought ∙ append-nil (coming s) ∙ inside s st.1.3 ∙ sym (append-nil (both_said s.claim s.tree))
    ∙ ap (λ (xs : List Said). both_said s.claim s.tree ++ xs) (sym (outside new st.1.4 (st.3 ∙ ending_not_last (line_of l) st.1.5))) in
    let before = begun_inside s st.1.3 in
    let after_it = begun_outside new st.1.4 in
    let give : given (noted old says.Nothing) (Some (part.Block (block.Published b))) ≡ Some y = ap (λ (x : Said). given (noted old x) (Some (part.Block (block.Published b)))) (sym nought) ∙ g in
    subst (Next done ps l) (some_is (new, Some q) y give)
    (finish done ps s new l (Some q) t told (omega (arith, before, after_it)) (λ x e. subst PartFits (some_is q x e) (refl, t.items)) tt)
by_part done ps s l k (Some (part.Block (block.Unpublished heading count))) y m t r c a g = absurd cc

abbrev Both : List ReachLine → List ReachPart → ReachKept → Type 0
Both lines ps s = Mirrors lines ps s × Tells lines ps s

tells_next : (done : List ReachLine) (ps : List ReachPart) (s : ReachKept) (l : ReachLine) (y : ReachKept × Option ReachPart) → Both done ps s → ReachInRange l → after_reach s l ≡ Some y
    → Both (done ++ l ∷ []) (with_part ps y.1) y.0
tells_next done ps s l y both r e =
    let c = if_so (counts_right s.first (said l)) _ y e in (
      next done ps s l y both.0 r e,
      option_and_then_some (λ (z : Kept × Option Part). given (noted (kept_beside s z.0) (said l)) z.1) (after s.kept s.kept.held (line_of l)) y c.1
          (λ z a g. by_part done ps s l z.0 z.1 y both.0 both.1 r c.0 a g),
    )

pub tells_of : (lines : List ReachLine) (ps : List ReachPart) (s : ReachKept) → Follow reach_form lines ps s → Tells lines ps s
tells_of lines ps s f =
    (along Both tells_next [] lines [] ps nothing_reached s (first_mirror, record { tells = refl; counted = refl; fit = tt; items = tt }) f.in_range f.gives).1
