-- Lines with which no part is whole, and the next one after them.
use Rattle.std.proofs.Common.{◌≡◌, ◌∙◌, Bool, true, false, cond, List, [], ◌∷◌, ◌++◌, Option, Some, None, map, option_and_then, refl, sym, ap, append_assoc, arith}
use Rattle.std.specs.List.{AllByRecursion}
use Rattle.std.proofs.lemmas.List.{append-nil}
use Rattle.std.proofs.lemmas.Option.{option_and_then_some}
use Rattle.mari_lines.specs.declared.line.Line.{Line}
use Rattle.mari_publish.specs.Order.{after, after_all, grown}
use Rattle.mari_publish.specs.declared.held.Held.{Held}
use Rattle.mari_publish.specs.declared.held.Kept.{Kept}
use Rattle.mari_publish.specs.declared.publication.Part.{Part}
use Rattle.mari_publish.specs.declared.publication.Publication.{Publication}
use Rattle.mari_publish.proofs.Follows.{in_parts}
use Rattle.mari_publish.proofs.Steps.{some_is}
use Rattle.mari_reach_lines.specs.Ranges.{ReachInRange}
use Rattle.mari_reach_lines.specs.declared.line.ReachLine.{ReachLine}
use Rattle.mari_stream.specs.Forms.{after_lines, with_part}
use Rattle.mari_reach_text.specs.Order.{after_reach, counts_right, given, kept_beside, line_of, noted, reach_form, said}
use Rattle.mari_reach_text.specs.declared.kept.ReachKept.{ReachKept}
use Rattle.mari_reach_text.specs.declared.kept.ReachPart.{ReachPart}
use Rattle.mari_reach_text.specs.declared.kept.Said.{Said}
use Rattle.mari_reach_text.specs.declared.kept.Said.TheVariants as says
use Rattle.mari_reach_text.specs.declared.named.NamedItem.{NamedItem}
use Rattle.mari_reach_text.proofs.Mirrors.{plain}
use Rattle.mari_reach_text.proofs.Stepped.{Ended, is_quiet, stepped}

abbrev pub IsQuiet : ReachLine → Type 0
IsQuiet l = is_quiet (line_of l) ≡ true

-- the item that a line says
abbrev pub item_in : Said → List NamedItem
item_in (says.Item item) = item ∷ []
item_in _ = []

abbrev pub items_in : List ReachLine → List NamedItem
items_in [] = []
items_in (l ∷ ls) = item_in (said l) ++ items_in ls

pub items_join : (xs ys : List ReachLine) → items_in (xs ++ ys) ≡ items_in xs ++ items_in ys
items_join [] ys = refl
items_join (x ∷ xs) ys = ap (λ (is : List NamedItem). item_in (said x) ++ is) (items_join xs ys) ∙ sym (append_assoc (item_in (said x)) (items_in xs) (items_in ys))

-- what is kept after a quiet line
abbrev pub more_kept : ReachKept → Kept → List NamedItem → ReachKept
more_kept s k is = record { kept = k; claim = s.claim; tree = s.tree ++ is; first = s.first }

-- a quiet line says an item or nothing
abbrev is_still : Said → Bool
is_still (says.Claim claim) = false
is_still (says.First count) = false
is_still _ = true

still : (l : ReachLine) → IsQuiet l → is_still (said l) ≡ true
still l q = grind arith

still_counts : (n : _) (x : Said) → is_still x ≡ true → counts_right n x ≡ true
still_counts n x q = grind arith

still_noted : (s : ReachKept) (k : Kept) (x : Said) → is_still x ≡ true → noted (kept_beside s k) x ≡ more_kept s k (item_in x)
still_noted s k x q = grind (arith, append-nil)

pub no_part : (h new : Held) (l : Line) (o : Option Part) → Ended h l new o → is_quiet l ≡ true → o ≡ None
no_part h new l o e q = grind arith

-- a line that may follow, by what comes of the line for which it stands
pub follows_by : (s : ReachKept) (l : ReachLine) (z : Kept × Option Part) → counts_right s.first (said l) ≡ true → after s.kept s.kept.held (line_of l) ≡ Some z
    → after_reach s l ≡ given (noted (kept_beside s z.0) (said l)) z.1
follows_by s l z c a =
    let F : Kept × Option Part → Option (ReachKept × Option ReachPart) = λ y. given (noted (kept_beside s y.0) (said l)) y.1 in
    ap (λ (b : Bool). cond b (option_and_then F (after s.kept s.kept.held (line_of l))) None) c ∙ ap (option_and_then F) a

quiet_step : (s : ReachKept) (l : ReachLine) (z : Kept × Option Part) → ReachInRange l → IsQuiet l → after s.kept s.kept.held (line_of l) ≡ Some z
    → (z.1 ≡ None) × (after_reach s l ≡ Some (more_kept s z.0 (item_in (said l)), None))
quiet_step s l z r q a =
    let st = stepped s.kept s.kept.held (line_of l) z (plain l r) a in
    let none = no_part s.kept.held z.0.held (line_of l) z.1 st.1 q in
    let t = still l q in (
      none,
      follows_by s l z (still_counts s.first (said l) t) a ∙ ap (λ (o : Option Part). given (noted (kept_beside s z.0) (said l)) o) none
          ∙ ap (λ (x : ReachKept). Some (x, None)) (still_noted s z.0 (said l) t),
    )

-- quiet lines that may follow, by what comes of the lines for which they stand
pub quiet_lines : (ls rest : List ReachLine) (ps : List ReachPart) (s : ReachKept) (p q : Publication) (k : Kept) → AllByRecursion ReachInRange ls → AllByRecursion IsQuiet ls
    → after_all p s.kept (map line_of ls) ≡ Some (q, k) → (q ≡ p) × (after_lines reach_form ps s (ls ++ rest) ≡ after_lines reach_form ps (more_kept s k (items_in ls)) rest)
quiet_lines [] rest ps s p q k r a e = grind (arith, some_is, append-nil)
quiet_lines (l ∷ ls) rest ps s p q k r a e =
    option_and_then_some (λ (y : Kept × Option Part). after_all (grown p y.1) y.0 (map line_of ls)) (after s.kept s.kept.held (line_of l)) (q, k) e (λ z b g.
    let t = quiet_step s l z r.0 a.0 b in
    let new = more_kept s z.0 (item_in (said l)) in
    let same : after_all p z.0 (map line_of ls) ≡ Some (q, k) = ap (λ (o : Option Part). after_all (grown p o) z.0 (map line_of ls)) (sym t.0) ∙ g in
    let more = quiet_lines ls rest ps new p q k r.1 a.1 same in (
      more.0,
      ap (option_and_then (λ (y : ReachKept × Option ReachPart). after_lines reach_form (with_part ps y.1) y.0 (ls ++ rest))) t.1 ∙ more.1
          ∙ ap (λ (is : List NamedItem). after_lines reach_form ps (record { kept = k; claim = s.claim; tree = is; first = s.first }) rest) (append_assoc s.tree (item_in (said l)) (items_in ls)),
    ))

-- quiet lines up to one that may follow them
pub record UpTo (ls : List ReachLine) (l : ReachLine) (rest : List ReachLine) (ps : List ReachPart) (s : ReachKept) (p q : Publication) (last : Kept) : Type 0 where
  pub before : Kept
  pub part : Option Part
  pub may : after before before.held (line_of l) ≡ Some (last, part)
  pub gives : grown p part ≡ q
  pub come : after_lines reach_form ps s (ls ++ l ∷ rest) ≡ after_lines reach_form ps (more_kept s before (items_in ls)) (l ∷ rest)

pub up_to : (ls : List ReachLine) (l : ReachLine) (rest : List ReachLine) (ps : List ReachPart) (s : ReachKept) (p q : Publication) (last : Kept)
    → AllByRecursion ReachInRange ls → AllByRecursion IsQuiet ls → after_all p s.kept (map line_of ls ++ line_of l ∷ []) ≡ Some (q, last) → UpTo ls l rest ps s p q last
up_to ls l rest ps s p q last r a e =
    let apart = sym (in_parts p s.kept (map line_of ls) (line_of l ∷ [])) ∙ e in
    option_and_then_some (λ (x : Publication × Kept). after_all x.0 x.1 (line_of l ∷ [])) (after_all p s.kept (map line_of ls)) (q, last) apart (λ x come one.
    option_and_then_some (λ (y : Kept × Option Part). Some (grown x.0 y.1, y.0)) (after x.1 x.1.held (line_of l)) (q, last) one (λ y may both.
    let pair = some_is (grown x.0 y.1, y.0) (q, last) both in
    let t = quiet_lines ls (l ∷ rest) ps s p x.0 x.1 r a come in
    let kept : y.0 ≡ last = ap (λ (v : Publication × Kept). v.1) pair in
    record {
      before = x.1;
      part = y.1;
      may = may ∙ ap (λ (k : Kept). Some (k, y.1)) kept;
      gives = ap (λ (v : Publication). grown v y.1) (sym t.0) ∙ ap (λ (v : Publication × Kept). v.0) pair;
      come = t.1;
    }))
