-- What is said of each bid, with one more line.
use Rattle.std.proofs.Common.{◌≡◌, ◌≢◌, ◌∙◌, ◌<◌, ◌==◌, ◌⊎◌, ℕ, Bool, true, false, List, [], ◌∷◌, ◌++◌, Option, Some, None, get_or, map, refl, sym, ap, zero-add, inl, inr, if◌then◌else◌}
use Rattle.std.specs.Prelude.{◌||◌, ◌&&◌, option_map, filter}
use Rattle.std.specs.List.{find, list_any, range_with_len}
use Rattle.std.specs.Option.{option_or}
use Rattle.std.specs.Str.{bytes_eq}
use Rattle.std.proofs.Math.ListN.{set}
use Rattle.std.proofs.lemmas.Bool.Decides.{eqb_tells}
use Rattle.std.proofs.lemmas.List.{append-nil, get_or-set_other, get_or-set_same, length-set, map-append, same_lists}
use Rattle.std.proofs.lemmas.List.Elements.{filter-append}
use Rattle.std.proofs.lemmas.List.Folds.{find-append, list_any-append}
use Rattle.std.proofs.lemmas.List.FromFn.{get_or-map-range_with_len, length-map-range_with_len}
use Rattle.mari_rows.specs.Names.{is_among, place_in}
use Rattle.mari_rows.proofs.NameLemmas.{bytes_eq-same, list_any-map}
use Rattle.mari_rows.proofs.PlaceLemmas.{distinct-push, place-with}
use Rattle.mari_bids.specs.declared.bids.BidBook.{BidBook}
use Rattle.mari_links.specs.Entries.{with_named}
use Rattle.mari_links.specs.Links.{group_of, groups_of, is_gated, is_same_kind, links_of, named_by, parent_of, Member, Said}
use Rattle.mari_links.specs.declared.lines.Link.{Link}
use Rattle.mari_links.specs.declared.lines.LinkKind.{LinkKind}
use Rattle.mari_links.specs.declared.lines.LinkKind.TheVariants.{Group, Child, Needs, Bars, Technical}
use Rattle.mari_links.specs.declared.links.BidLinks.{BidLinks}
use Rattle.mari_rows.proofs.FindLemmas.{find-some, kept-none}
use Rattle.mari_links.proofs.GroupLemmas.{among-fold}

-- a write to what is made of each place
pub set-made : {Y : Type 0} (f g : ℕ → Y) (n k : ℕ) (v : Y) → k < n → g k ≡ v → ((j : ℕ) → (k == j) ≡ false → g j ≡ f j)
    → set (map f (range_with_len 0 n)) k v ≡ map g (range_with_len 0 n)
set-made f g n k v below here there =
    same_lists (set (map f (range_with_len 0 n)) k v) (map g (range_with_len 0 n))
    (length-set (map f (range_with_len 0 n)) k v ∙ length-map-range_with_len f 0 n ∙ sym (length-map-range_with_len g 0 n))
    (λ j d within. by j d (rw (length-set (map f (range_with_len 0 n)) k v, length-map-range_with_len f 0 n) at within) (eqb_tells k j))
  where
    by : (j : ℕ) (d : _) → j < n → ((k == j) ≡ true) × (k ≡ j) ⊎ ((k == j) ≡ false) × (k ≢ j)
        → get_or (set (map f (range_with_len 0 n)) k v) j d ≡ get_or (map g (range_with_len 0 n)) j d
    by j d within (inl same) =
        rw (sym same.1) (get_or-set_same (map f (range_with_len 0 n)) k v d (rw (length-map-range_with_len f 0 n) below)
        ∙ sym here ∙ sym (get_or-map-range_with_len g 0 n k k d below (zero-add k)))
    by j d within (inr other) =
        get_or-set_other (map f (range_with_len 0 n)) k j v d (λ e. other.1 (sym e))
        ∙ get_or-map-range_with_len f 0 n j j d within (zero-add j) ∙ sym (there j other.0) ∙ sym (get_or-map-range_with_len g 0 n j j d within (zero-add j))

-- a number is itself
pub itself : (n : ℕ) → (n == n) ≡ true
itself n = by (eqb_tells n n)
  where
    by : ((n == n) ≡ true) × (n ≡ n) ⊎ ((n == n) ≡ false) × (n ≢ n) → (n == n) ≡ true
    by (inl same) = same.0
    by (inr other) = absurd (other.1 refl)

-- what is read of what is made of each place
pub made-at : {Y : Type 0} (f : ℕ → Y) (n k : ℕ) (v : Y) → k < n → v ≡ get_or (map f (range_with_len 0 n)) k v → v ≡ f k
made-at f n k v below read = read ∙ get_or-map-range_with_len f 0 n k k v below (zero-add k)

pub or-no : (a : Bool) → (a || false) ≡ a
or-no true = refl
or-no false = refl

pub or-yes : (a : Bool) → (a || true) ≡ true
or-yes true = refl
or-yes false = refl

option-no : {X : Type 0} (o : Option X) → option_or o None ≡ o
option-no None = refl
option-no (Some x) = refl

-- one more member of a group
module _ (bids : BidBook) (said : Said) (member : Member) where
  abbrev pub with_member : Said
  with_member = record said { members = said.members ++ member ∷ [] }

  gated-member : (bid : ℕ) → is_gated bids with_member bid ≡ (is_gated bids said bid || (member.bid == bid))
  gated-member bid = rw (list_any-append (λ (m : Member). m.bid == bid) said.members (member ∷ []))
      (regroup _ (list_any (λ (m : Member). m.bid == bid) said.members) (member.bid == bid) _)
    where
      regroup : (a b e c : Bool) → ((a || (b || (e || false))) || c) ≡ (((a || b) || c) || e)
      regroup true b e c = refl
      regroup false true e c = refl
      regroup false false true true = refl
      regroup false false true false = refl
      regroup false false false true = refl
      regroup false false false false = refl

  -- the group of a member that is found keeps its number
  found-there : (test : Member → Bool) (ms : List Member) (m : Member) → find test ms ≡ Some m → is_among (groups_of ms) m.group ≡ true
  found-there test ms m found = among-fold [] (map (λ (x : Member). x.group) ms) m.group ∙ list_any-map (λ (x : Member). x.group) (bytes_eq m.group) ms ∙ along ms found
    where
      along : (xs : List Member) → find test xs ≡ Some m → list_any (λ (x : Member). bytes_eq m.group x.group) xs ≡ true
      along [] f = cc f
      along (x ∷ xs) f = by (test x) refl f (along xs)
        where
          by : (b : Bool) → test x ≡ b → (if b then Some x else find test xs) ≡ Some m → (find test xs ≡ Some m → list_any (λ (y : Member). bytes_eq m.group y.group) xs ≡ true)
              → (bytes_eq m.group x.group || list_any (λ (y : Member). bytes_eq m.group y.group) xs) ≡ true
          by true e g more = let same : x ≡ m = cc g in rw (same, bytes_eq-same m.group) refl
          by false e g more = rw (more g) (or-yes (bytes_eq m.group x.group))

  number-stays : (test : Member → Bool) → option_map (λ (m : Member). place_in (groups_of (said.members ++ member ∷ [])) m.group) (find test said.members)
      ≡ option_map (λ (m : Member). place_in (groups_of said.members) m.group) (find test said.members)
  number-stays test = by (find test said.members) refl
    where
      by : (o : Option Member) → find test said.members ≡ o → option_map (λ (m : Member). place_in (groups_of (said.members ++ member ∷ [])) m.group) o
          ≡ option_map (λ (m : Member). place_in (groups_of said.members) m.group) o
      by None e = refl
      by (Some m) e =
          ap Some (rw (distinct-push (λ (x : Member). x.group) said.members member) (place-with (groups_of said.members) m.group member.group (found-there test said.members m e)))

  group-stays : (bid : ℕ) → (member.bid == bid) ≡ false → group_of (said.members ++ member ∷ []) bid ≡ group_of said.members bid
  group-stays bid other =
      rw (find-append (λ (m : Member). m.bid == bid) said.members (member ∷ []), other, option-no (find (λ (m : Member). m.bid == bid) said.members))
      (number-stays (λ (m : Member). m.bid == bid))

  group-new : (bid : ℕ) → (member.bid == bid) ≡ true → list_any (λ (m : Member). m.bid == bid) said.members ≡ false
      → group_of (said.members ++ member ∷ []) bid ≡ Some (place_in (groups_of (said.members ++ member ∷ [])) member.group)
  group-new bid same new =
      let none = kept-none (find (λ (m : Member). m.bid == bid) said.members) (find-some (λ (m : Member). m.bid == bid) said.members ∙ new) in
      rw (find-append (λ (m : Member). m.bid == bid) said.members (member ∷ []), none, same) refl

  -- the other bids' links stay
  pub member-other : (bid : ℕ) → (member.bid == bid) ≡ false → links_of bids with_member bid ≡ links_of bids said bid
  member-other bid other =
      let gated = gated-member bid ∙ rw other (or-no (is_gated bids said bid)) in
      λ i. record (links_of bids said bid) { gated = gated i; group = group-stays bid other i }

  -- and the member has a gate and a group
  pub member-same : list_any (λ (m : Member). m.bid == member.bid) said.members ≡ false → (member.bid == member.bid) ≡ true
      → links_of bids with_member member.bid
      ≡ record (links_of bids said member.bid) { gated = true; group = Some (place_in (groups_of (said.members ++ member ∷ [])) member.group) }
  member-same new itself =
      let gated = gated-member member.bid ∙ rw itself (or-yes (is_gated bids said member.bid)) in
      λ i. record (links_of bids said member.bid) { gated = gated i; group = group-new member.bid itself new i }

-- one more child with its parent
module _ (bids : BidBook) (said : Said) (link : Link) where
  abbrev pub with_child : Said
  with_child = record said { children = said.children ++ link ∷ [] }

  gated-child : (bid : ℕ) → is_gated bids with_child bid ≡ (is_gated bids said bid || ((link.first == bid) || (link.second == bid)))
  gated-child bid = rw (list_any-append (λ (l : Link). (l.first == bid) || (l.second == bid)) said.children (link ∷ []))
      (regroup _ (list_any (λ (l : Link). (l.first == bid) || (l.second == bid)) said.children) ((link.first == bid) || (link.second == bid)))
    where
      regroup : (a b e : Bool) → (a || (b || (e || false))) ≡ ((a || b) || e)
      regroup true b e = refl
      regroup false true e = refl
      regroup false false true = refl
      regroup false false false = refl

  parent-stays : (bid : ℕ) → (link.first == bid) ≡ false → parent_of (said.children ++ link ∷ []) bid ≡ parent_of said.children bid
  parent-stays bid other =
      rw (find-append (λ (l : Link). l.first == bid) said.children (link ∷ []), other, option-no (find (λ (l : Link). l.first == bid) said.children)) refl

  parent-new : (bid : ℕ) → (link.first == bid) ≡ true → list_any (λ (l : Link). l.first == bid) said.children ≡ false
      → parent_of (said.children ++ link ∷ []) bid ≡ Some link.second
  parent-new bid same new =
      let none = kept-none (find (λ (l : Link). l.first == bid) said.children) (find-some (λ (l : Link). l.first == bid) said.children ∙ new) in
      rw (find-append (λ (l : Link). l.first == bid) said.children (link ∷ []), none, same) refl

  -- what is said of each bid once the child has its parent, and before the parent has its gate
  abbrev pub halfway : ℕ → BidLinks
  halfway bid = record (links_of bids with_child bid) { gated = is_gated bids said bid || (link.first == bid) }

  pub child-other : (bid : ℕ) → (link.first == bid) ≡ false → halfway bid ≡ links_of bids said bid
  child-other bid other =
      let gated = ap (λ b. is_gated bids said bid || b) other ∙ or-no (is_gated bids said bid) in
      λ i. record (links_of bids said bid) { gated = gated i; parent = parent-stays bid other i }

  pub child-same : list_any (λ (l : Link). l.first == link.first) said.children ≡ false → (link.first == link.first) ≡ true
      → halfway link.first ≡ record (links_of bids said link.first) { gated = true; parent = Some link.second }
  child-same new itself =
      let gated = ap (λ b. is_gated bids said link.first || b) itself ∙ or-yes (is_gated bids said link.first) in
      λ i. record (links_of bids said link.first) { gated = gated i; parent = parent-new link.first itself new i }

  pub parent-other : (bid : ℕ) → (link.second == bid) ≡ false → links_of bids with_child bid ≡ halfway bid
  parent-other bid other =
      let gated = gated-child bid ∙ ap (λ b. is_gated bids said bid || ((link.first == bid) || b)) other ∙ ap (λ b. is_gated bids said bid || b) (or-no (link.first == bid)) in
      λ i. record (links_of bids with_child bid) { gated = gated i }

  pub parent-same : (link.second == link.second) ≡ true → links_of bids with_child link.second ≡ record (halfway link.second) { gated = true }
  parent-same itself =
      let gated = gated-child link.second ∙ ap (λ b. is_gated bids said link.second || ((link.first == link.second) || b)) itself
      ∙ ap (λ b. is_gated bids said link.second || b) (or-yes (link.first == link.second)) ∙ or-yes (is_gated bids said link.second) in
      λ i. record (links_of bids with_child link.second) { gated = gated i }

-- one more link to an earlier quarter
module _ (bids : BidBook) (said : Said) (link : Link) where
  abbrev pub with_timed : Said
  with_timed = record said { timed = said.timed ++ link ∷ [] }

  named-more : (kind : LinkKind) (bid : ℕ) → named_by kind (said.timed ++ link ∷ []) bid
      ≡ named_by kind said.timed bid ++ (if is_same_kind link.kind kind && (link.first == bid) then link.second ∷ [] else [])
  named-more kind bid =
      let test : Link → Bool = λ l. is_same_kind l.kind kind && (l.first == bid) in
      rw (filter-append test said.timed (link ∷ []), map-append (λ (l : Link). l.second) (filter test said.timed) (filter test (link ∷ []))) (by (test link))
    where
      by : (b : Bool) → map (λ (l : Link). l.second) (filter (λ (l : Link). is_same_kind l.kind kind && (l.first == bid)) said.timed)
          ++ map (λ (l : Link). l.second) (if b then link ∷ [] else [])
          ≡ map (λ (l : Link). l.second) (filter (λ (l : Link). is_same_kind l.kind kind && (l.first == bid)) said.timed) ++ (if b then link.second ∷ [] else [])
      by true = refl
      by false = refl

  named-stays : (kind : LinkKind) (bid : ℕ) → (is_same_kind link.kind kind && (link.first == bid)) ≡ false → named_by kind (said.timed ++ link ∷ []) bid ≡ named_by kind said.timed bid
  named-stays kind bid other = named-more kind bid ∙ rw other (append-nil (named_by kind said.timed bid))

  and-no : (a : Bool) → (a && false) ≡ false
  and-no true = refl
  and-no false = refl

  pub timed-other : (bid : ℕ) → (link.first == bid) ≡ false → links_of bids with_timed bid ≡ links_of bids said bid
  timed-other bid other =
      let stays = λ (kind : LinkKind). named-stays kind bid (rw other (and-no (is_same_kind link.kind kind))) in
      λ i. record (links_of bids said bid) { needs = stays Needs i; bars = stays Bars i; technical = stays Technical i }

  pub timed-same : (link.first == link.first) ≡ true → links_of bids with_timed link.first ≡ with_named link.kind link.second (links_of bids said link.first)
  timed-same itself = by link.kind refl
    where
      by : (kind : LinkKind) → link.kind ≡ kind → links_of bids with_timed link.first ≡ with_named kind link.second (links_of bids said link.first)
      by Group e =
          let stays = λ (kind : LinkKind) (no : is_same_kind Group kind ≡ false). named-stays kind link.first (rw (e, no) refl) in
          λ i. record (links_of bids said link.first) { needs = stays Needs refl i; bars = stays Bars refl i; technical = stays Technical refl i }
      by Child e =
          let stays = λ (kind : LinkKind) (no : is_same_kind Child kind ≡ false). named-stays kind link.first (rw (e, no) refl) in
          λ i. record (links_of bids said link.first) { needs = stays Needs refl i; bars = stays Bars refl i; technical = stays Technical refl i }
      by Needs e =
          let stays = λ (kind : LinkKind) (no : is_same_kind Needs kind ≡ false). named-stays kind link.first (rw (e, no) refl) in
          let grows = named-more Needs link.first ∙ rw (e, itself) refl in
          λ i. record (links_of bids said link.first) { needs = grows i; bars = stays Bars refl i; technical = stays Technical refl i }
      by Bars e =
          let stays = λ (kind : LinkKind) (no : is_same_kind Bars kind ≡ false). named-stays kind link.first (rw (e, no) refl) in
          let grows = named-more Bars link.first ∙ rw (e, itself) refl in
          λ i. record (links_of bids said link.first) { needs = stays Needs refl i; bars = grows i; technical = stays Technical refl i }
      by Technical e =
          let stays = λ (kind : LinkKind) (no : is_same_kind Technical kind ≡ false). named-stays kind link.first (rw (e, no) refl) in
          let grows = named-more Technical link.first ∙ rw (e, itself) refl in
          λ i. record (links_of bids said link.first) { needs = stays Needs refl i; bars = stays Bars refl i; technical = grows i }
