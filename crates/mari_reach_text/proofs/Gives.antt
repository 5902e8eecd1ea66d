-- The lines of a publication may follow one another, and give its parts.
use Rattle.std.proofs.Common.{◌≡◌, ◌∙◌, ◌≤◌, ◌<◌, ◌+◌, ℕ, List, [], ◌∷◌, ◌++◌, Option, Some, None, length, map, option_and_then, refl, sym, ap, subst, append_assoc, arith}
use Rattle.std.specs.List.{All, AllByRecursion, flat_map}
use Rattle.std.proofs.lemmas.Bool.{lt-ltb}
use Rattle.std.proofs.lemmas.List.{append-nil, length-map, map-append}
use Rattle.mari_market.specs.declared.certificate.TreeItem.{TreeItem}
use Rattle.mari_lines.specs.Ranges.{InRange}
use Rattle.mari_lines.specs.declared.line.AmountLine.{AmountLine}
use Rattle.mari_lines.specs.declared.line.Line.{Line}
use Rattle.mari_lines.specs.declared.line.Line.TheVariants as line
use Rattle.mari_lines.specs.declared.line.MoneyLine.{MoneyLine}
use Rattle.mari_lines.proofs.Gathered.{head_of, tail_of}
use Rattle.mari_publish.specs.Lines.{closing_lines_by, ending_lines, full_lines, item_lines, market_lines, tree_lines}
use Rattle.mari_publish.specs.Order.{after, after_all, grown, kept_at, nothing_read}
use Rattle.mari_publish.specs.Ranges.{SumsFit}
use Rattle.mari_publish.specs.declared.held.Held.TheVariants as held
use Rattle.mari_publish.specs.declared.held.Kept.{Kept}
use Rattle.mari_publish.specs.declared.publication.Block.{Block}
use Rattle.mari_publish.specs.declared.publication.Block.TheVariants as block
use Rattle.mari_publish.specs.declared.publication.FullBlock.{FullBlock}
use Rattle.mari_publish.specs.declared.publication.Part.{Part}
use Rattle.mari_publish.specs.declared.publication.Part.TheVariants as part
use Rattle.mari_publish.specs.declared.publication.Publication.{Publication}
use Rattle.mari_publish.proofs.Follows.{block_follows, if_true, last_follows, same}
use Rattle.mari_publish.proofs.Whole.{IsWithinLimits, all_back, all_front}
use Rattle.mari_reach_lines.specs.Ranges.{ReachInRange}
use Rattle.mari_reach_lines.specs.declared.line.Claim.{Claim}
use Rattle.mari_reach_lines.specs.declared.line.ReachLine.{ReachLine}
use Rattle.mari_reach_lines.specs.declared.line.ReachLine.TheVariants as reach
use Rattle.mari_stream.specs.Forms.{after_lines, with_part}
use Rattle.mari_reach_text.specs.Claims.{one_if_first}
use Rattle.mari_reach_text.specs.Order.{after_reach, given, kept_beside, line_of, reach_form, without_tree}
use Rattle.mari_reach_text.specs.Texts.{NamedFits, named_block_lines, named_line, named_tree_lines}
use Rattle.mari_reach_text.specs.declared.kept.ReachKept.{ReachKept}
use Rattle.mari_reach_text.specs.declared.kept.ReachPart.{ReachPart}
use Rattle.mari_reach_text.specs.declared.kept.ReachPart.TheVariants as parts
use Rattle.mari_reach_text.specs.declared.named.NamedBlock.{NamedBlock}
use Rattle.mari_reach_text.specs.declared.named.NamedItem.{NamedItem}
use Rattle.mari_reach_text.specs.declared.named.NamedItem.TheVariants as named
use Rattle.mari_reach_text.proofs.Mirrors.{branches, first_block, with_tree}
use Rattle.mari_reach_text.proofs.Own.{all_join, market_own, own_items, own_lines, own_quiet, own_range, parties_own, totals_own}
use Rattle.mari_reach_text.proofs.Quiet.{IsQuiet, follows_by, items_in, items_join, more_kept, up_to}

abbrev pub state : Kept → Claim → List NamedItem → ℕ → ReachKept
state k claim tree first = record { kept = k; claim = claim; tree = tree; first = first }

-- the operators and the providers of a block
abbrev parties : FullBlock → List Line
parties b = map line.Operator b.operators ++ map line.Provider b.providers

-- the lines of a block between its first and its last
abbrev pub middle : NamedBlock → List ReachLine
middle b = reach.Shared (line.Welfare b.block.welfare) ∷ (map reach.Shared (market_lines b.block) ++ (named_tree_lines b.tree ++ map reach.Shared (parties b.block)))

-- four lists joined, with one more item before the last
regrouped : {X : Type 0} (a b c d : List X) (e : X) → (a ++ (b ++ (c ++ e ∷ []))) ++ d ≡ (a ++ (b ++ c)) ++ e ∷ d
regrouped a b c d e =
    let left = append_assoc a (b ++ (c ++ e ∷ [])) d ∙ ap (λ x. a ++ x) (append_assoc b (c ++ e ∷ []) d ∙ ap (λ x. b ++ x) (append_assoc c (e ∷ []) d)) in
    let right = append_assoc a (b ++ c) (e ∷ d) ∙ ap (λ x. a ++ x) (append_assoc b c (e ∷ d)) in
    left ∙ sym right

ending_apart : (b : FullBlock) → map reach.Shared (ending_lines b) ≡ map reach.Shared (parties b) ++ reach.Shared (line.End b.heading.run) ∷ []
ending_apart b =
    ap (map reach.Shared) (sym (append_assoc (map line.Operator b.operators) (map line.Provider b.providers) (line.End b.heading.run ∷ [])))
    ∙ map-append reach.Shared (parties b) (line.End b.heading.run ∷ [])

pub block_apart : (b : NamedBlock) (rest : List ReachLine) → named_block_lines b ++ rest ≡ reach.Run b.block.heading b.claim ∷ (middle b ++ reach.Shared (line.End b.block.heading.run) ∷ rest)
block_apart b rest =
    let market = map reach.Shared (market_lines b.block) in
    let tree = named_tree_lines b.tree in
    let front : List ReachLine → List ReachLine = λ xs. reach.Run b.block.heading b.claim ∷ reach.Shared (line.Welfare b.block.welfare) ∷ xs in
    ap (λ (xs : List ReachLine). front ((market ++ (tree ++ xs)) ++ rest)) (ending_apart b.block)
    ∙ ap front (regrouped market tree (map reach.Shared (parties b.block)) rest (reach.Shared (line.End b.block.heading.run)))

-- the items of a tree stand for branches
a_branch : (i : NamedItem) → line_of (named_line i) ≡ line.Branch
a_branch i = grind arith

branch_lines : (tree : List NamedItem) → map line_of (map named_line tree) ≡ flat_map item_lines (branches tree)
branch_lines [] = refl
branch_lines (i ∷ is) = ap (λ x. x ∷ map line_of (map named_line is)) (a_branch i) ∙ ap (λ (xs : List Line). line.Branch ∷ xs) (branch_lines is)

tree_first : (tree : List NamedItem) → map line_of (named_tree_lines tree) ≡ tree_lines (branches tree)
tree_first tree =
    ap (λ (n : ℕ). line.Tree n ∷ map line_of (map named_line tree)) (sym (length-map tree (λ item. _)))
    ∙ ap (λ (xs : List Line). line.Tree (length (branches tree)) ∷ xs) (branch_lines tree)

joined : {X : Type 0} (a b c d : List X) → (a ++ (b ++ c)) ++ d ≡ a ++ (b ++ (c ++ d))
joined a b c d = append_assoc a (b ++ c) d ∙ ap (λ x. a ++ x) (append_assoc b c d)

middle_first : (b : NamedBlock) → line.Run b.block.heading ∷ (map line_of (middle b) ++ line.End b.block.heading.run ∷ []) ≡ full_lines (first_block b)
middle_first b =
    let market = map reach.Shared (market_lines b.block) in
    let tree = named_tree_lines b.tree in
    let last = map reach.Shared (parties b.block) in
    let e = line.End b.block.heading.run in
    let front : List Line → List Line = λ xs. line.Run b.block.heading ∷ line.Welfare b.block.welfare ∷ xs in
    let apart : map line_of (market ++ (tree ++ last)) ≡ map line_of market ++ (map line_of tree ++ map line_of last)
    = map-append line_of market (tree ++ last) ∙ ap (λ (xs : List Line). map line_of market ++ xs) (map-append line_of tree last) in
    ap (λ (xs : List Line). front (xs ++ e ∷ [])) (apart
    ∙ ap (λ (xs : List Line). xs ++ (map line_of tree ++ map line_of last)) (own_lines (market_lines b.block) (market_own b.block))
    ∙ ap (λ (xs : List Line). market_lines b.block ++ (xs ++ map line_of last)) (tree_first b.tree)
    ∙ ap (λ (xs : List Line). market_lines b.block ++ (tree_lines (branches b.tree) ++ xs)) (own_lines (parties b.block) (parties_own b.block)))
    ∙ ap front (joined (market_lines b.block) (tree_lines (branches b.tree)) (parties b.block) (e ∷ []))
    ∙ ap (λ (xs : List Line). front (market_lines b.block ++ (tree_lines (branches b.tree) ++ xs))) (append_assoc (map line.Operator b.block.operators) (map line.Provider b.block.providers) (e ∷ []))

-- they are in range, no part is whole with them, and they say the items of the tree
item_range : (tree : List NamedItem) → All (λ i. ReachInRange (named_line i)) tree → AllByRecursion ReachInRange (map named_line tree)
item_range [] a = tt
item_range (i ∷ is) a = (head_of (λ x. ReachInRange (named_line x)) i is a, item_range is (tail_of (λ x. ReachInRange (named_line x)) i is a))

quiet_item : (i : NamedItem) → IsQuiet (named_line i)
quiet_item i = grind arith

quiet_items : (tree : List NamedItem) → AllByRecursion IsQuiet (map named_line tree)
quiet_items [] = tt
quiet_items (i ∷ is) = (quiet_item i, quiet_items is)

said_items : (tree : List NamedItem) → items_in (map named_line tree) ≡ tree
said_items [] = refl
said_items (named.Gate bid ∷ is) = ap (λ x. named.Gate bid ∷ x) (said_items is)
said_items (named.Price zone price ∷ is) = ap (λ x. named.Price zone price ∷ x) (said_items is)
said_items (named.Void ∷ is) = ap (λ x. named.Void ∷ x) (said_items is)
said_items (named.Bound potentials ∷ is) = ap (λ x. named.Bound potentials ∷ x) (said_items is)
said_items (named.Cut cut ∷ is) = ap (λ x. named.Cut cut ∷ x) (said_items is)

abbrev RangeOf : NamedBlock → Type 0
RangeOf b = AllByRecursion InRange (full_lines (first_block b))

parties_range : (b : FullBlock) → AllByRecursion InRange (ending_lines b) → AllByRecursion InRange (parties b) × InRange (line.End b.heading.run)
parties_range b r =
    let both = subst (λ (xs : List Line). AllByRecursion InRange xs) (sym (append_assoc (map line.Operator b.operators) (map line.Provider b.providers) (line.End b.heading.run ∷ []))) r in
    (all_front InRange (parties b) (line.End b.heading.run ∷ []) both, (all_back InRange (parties b) (line.End b.heading.run ∷ []) both).0)

last_range : (b : NamedBlock) → RangeOf b → AllByRecursion InRange (ending_lines b.block)
last_range b r = all_back InRange (tree_lines (branches b.tree)) (ending_lines b.block) (all_back InRange (market_lines b.block) (tree_lines (branches b.tree) ++ ending_lines b.block) r.1.1)

middle_range : (b : NamedBlock) → RangeOf b → NamedFits b → AllByRecursion ReachInRange (middle b)
middle_range b r f =
    let market = all_front InRange (market_lines b.block) (tree_lines (branches b.tree) ++ ending_lines b.block) r.1.1 in
    let following = all_back InRange (market_lines b.block) (tree_lines (branches b.tree) ++ ending_lines b.block) r.1.1 in
    let tree = all_front InRange (tree_lines (branches b.tree)) (ending_lines b.block) following in
    let count : InRange (line.Tree (length b.tree)) = subst (λ (n : ℕ). InRange (line.Tree n)) (length-map b.tree (λ item. _)) tree.0 in
    let ending = parties_range b.block (last_range b r) in (
      (r.1.0, refl),
      all_join ReachInRange (map reach.Shared (market_lines b.block)) _ (own_range (market_lines b.block) (market_own b.block) market)
          (all_join ReachInRange (named_tree_lines b.tree) (map reach.Shared (parties b.block)) ((count, refl), item_range b.tree f.tree.1)
          (own_range (parties b.block) (parties_own b.block) ending.0)),
    )

middle_quiet : (b : NamedBlock) → AllByRecursion IsQuiet (middle b)
middle_quiet b = grind (arith, all_join, own_quiet, market_own, quiet_items, parties_own)

middle_items : (b : NamedBlock) → items_in (middle b) ≡ b.tree
middle_items b = grind (arith, items_join, items_in, own_items, market_own, said_items, parties_own, append-nil)

-- a block's lines are in range
pub block_range : (b : NamedBlock) → RangeOf b → NamedFits b → AllByRecursion ReachInRange (named_block_lines b)
block_range b r f =
    let e = reach.Shared (line.End b.block.heading.run) in
    let end : ReachInRange e = ((parties_range b.block (last_range b r)).1, refl) in
    let all : AllByRecursion ReachInRange (reach.Run b.block.heading b.claim ∷ (middle b ++ e ∷ [])) = ((r.0, f.claim), all_join ReachInRange (middle b) (e ∷ []) (middle_range b r f) (end, tt)) in
    subst (λ (xs : List ReachLine). AllByRecursion ReachInRange xs) (sym (block_apart b []) ∙ append-nil (named_block_lines b)) all

-- one line
on_line : (ps : List ReachPart) (s : ReachKept) (l : ReachLine) (rest : List ReachLine) (y : ReachKept × Option ReachPart) → after_reach s l ≡ Some y
    → after_lines reach_form ps s (l ∷ rest) ≡ after_lines reach_form (with_part ps y.1) y.0 rest
on_line ps s l rest y e = ap (option_and_then (λ (x : ReachKept × Option ReachPart). after_lines reach_form (with_part ps x.1) x.0 rest)) e

-- the part of the first form is a block
block_in : (o : Option Part) (b : Block) → (grown nothing_read o).blocks ≡ b ∷ [] → o ≡ Some (part.Block b)
block_in o b e = grind arith

block_is : (b : NamedBlock) (is : List NamedItem) → is ≡ b.tree → b.block.tree ≡ [] → parts.Block (record { block = without_tree (first_block b); claim = b.claim; tree = is }) ≡ parts.Block b
block_is b is same none =
    ap (λ (xs : List NamedItem). parts.Block (record { block = without_tree (first_block b); claim = b.claim; tree = xs })) same
    ∙ ap (λ (ts : List TreeItem). parts.Block (record { block = with_tree b.block ts; claim = b.claim; tree = b.tree })) (sym none)

pub block_gives : (b : NamedBlock) (rest : List ReachLine) (ps : List ReachPart) (m n : ℕ) (claim : Claim) → RangeOf b → NamedFits b → m < 1000
    → after_lines reach_form ps (state (kept_at held.Between m 0) claim [] n) (named_block_lines b ++ rest)
    ≡ after_lines reach_form (ps ++ parts.Block b ∷ []) (state (kept_at held.Between (m + 1) 0) b.claim [] (n + one_if_first b.claim)) rest
block_gives b rest ps m n claim r f room =
    let h = b.block.heading in
    let k0 = kept_at held.Between m 0 in
    let s0 = state k0 claim [] n in
    let kr = kept_at (held.Run h) m 0 in
    let first = n + one_if_first b.claim in
    let sr = state kr b.claim [] first in
    let last = kept_at held.Between (m + 1) 0 in
    let B = block.Published (first_block b) in
    let e = reach.Shared (line.End h.run) in
    let some_room : m + 0 < 1000 = omega (arith, room) in
    let run : after k0 held.Between (line.Run h) ≡ Some (kr, None) = if_true _ (kr, None) (lt-ltb _ _ some_room) in
    let within : IsWithinLimits B = (f.zones.0, f.borders.0.1, f.bids.0.1, f.operators.0, f.providers.0.1) in
    let law : after_all nothing_read k0 (full_lines (first_block b)) ≡ Some (grown nothing_read (Some (part.Block B)), last)
    = ap (λ (ls : List Line). after_all nothing_read k0 ls) (sym (append-nil (full_lines (first_block b)))) ∙ block_follows nothing_read m 0 B [] within some_room in
    let lines = map line_of (middle b) ++ line.End h.run ∷ [] in
    let apart : after_all nothing_read kr lines ≡ Some (grown nothing_read (Some (part.Block B)), last)
    = sym (ap (option_and_then (λ (y : Kept × Option Part). after_all (grown nothing_read y.1) y.0 lines)) run) ∙ ap (λ (ls : List Line). after_all nothing_read k0 ls) (middle_first b) ∙ law in
    let u = up_to (middle b) e rest ps sr nothing_read (grown nothing_read (Some (part.Block B))) last (middle_range b r f) (middle_quiet b) apart in
    let is = items_in (middle b) in
    let s1 = more_kept sr u.before is in
    let new = state last b.claim [] first in
    let whole : u.part ≡ Some (part.Block B) = block_in u.part B (ap (λ (p : Publication). p.blocks) u.gives) in
    let end : after_reach s1 e ≡ Some (new, Some (parts.Block b))
    = follows_by s1 e (last, u.part) refl u.may ∙ ap (λ (o : Option Part). given (kept_beside s1 last) o) whole
    ∙ ap (λ (x : ReachPart). Some (new, Some x)) (block_is b is (middle_items b) f.no_tree) in
    ap (λ (ls : List ReachLine). after_lines reach_form ps s0 ls) (block_apart b rest)
    ∙ on_line ps s0 (reach.Run h b.claim) (middle b ++ e ∷ rest) (sr, None) (follows_by s0 (reach.Run h b.claim) (kr, None) refl run)
    ∙ u.come
    ∙ on_line ps s1 e rest (new, Some (parts.Block b)) end

-- the part of the first form is the totals
totals_in : (o : Option Part) (os : List MoneyLine) (ps : List AmountLine) → 1 ≤ length os → grown nothing_read o ≡ grown nothing_read (Some (part.Totals os ps)) → o ≡ Some (part.Totals os ps)
totals_in o os ps some e = grind arith

pub closing_apart : (os : List MoneyLine) (qs : List AmountLine) (first within : ℕ)
    → map reach.Shared (closing_lines_by os qs first within) ≡ map reach.Shared (map line.TotalOperator os ++ map line.TotalProvider qs) ++ reach.Shared (line.Done first within) ∷ []
closing_apart os qs first within =
    ap (map reach.Shared) (sym (append_assoc (map line.TotalOperator os) (map line.TotalProvider qs) (line.Done first within ∷ [])))
    ∙ map-append reach.Shared (map line.TotalOperator os ++ map line.TotalProvider qs) (line.Done first within ∷ [])

pub closing_gives : (os : List MoneyLine) (qs : List AmountLine) (first within : ℕ) (ps : List ReachPart) (claim : Claim)
    → AllByRecursion InRange (map line.TotalOperator os ++ map line.TotalProvider qs) → SumsFit os qs
    → after_lines reach_form ps (state (kept_at held.Between (first + within) 0) claim [] first) (map reach.Shared (closing_lines_by os qs first within))
    ≡ Some (ps ++ parts.Totals os qs ∷ [], state (kept_at held.Done (first + within) 0) claim [] first)
closing_gives os qs first within ps claim r f =
    let n = first + within in
    let k0 = kept_at held.Between n 0 in
    let s0 = state k0 claim [] first in
    let last = kept_at held.Done n 0 in
    let totals = map line.TotalOperator os ++ map line.TotalProvider qs in
    let own = totals_own os qs in
    let e = reach.Shared (line.Done first within) in
    let law : after_all nothing_read k0 (totals ++ line.Done n 0 ∷ []) ≡ Some (grown nothing_read (Some (part.Totals os qs)), last)
    = ap (λ (ls : List Line). after_all nothing_read k0 ls) (append_assoc (map line.TotalOperator os) (map line.TotalProvider qs) (line.Done n 0 ∷ []))
    ∙ last_follows nothing_read n 0 os qs f.0.0 f.1.0.1 in
    let apart : after_all nothing_read k0 (map line_of (map reach.Shared totals) ++ line.Done n 0 ∷ []) ≡ Some (grown nothing_read (Some (part.Totals os qs)), last)
    = ap (λ (ls : List Line). after_all nothing_read k0 (ls ++ line.Done n 0 ∷ [])) (own_lines totals own) ∙ law in
    let u = up_to (map reach.Shared totals) e [] ps s0 nothing_read (grown nothing_read (Some (part.Totals os qs))) last (own_range totals own r) (own_quiet totals own) apart in
    let whole : u.part ≡ Some (part.Totals os qs) = totals_in u.part os qs f.0.0.0 u.gives in
    let none : items_in (map reach.Shared totals) ≡ [] = own_items totals own in
    let s1 = more_kept s0 u.before (items_in (map reach.Shared totals)) in
    let s2 = state u.before claim [] first in
    let new = state last claim [] first in
    let end : after_reach s2 e ≡ Some (new, Some (parts.Totals os qs))
    = ◌∙◌ {b = given (kept_beside s2 last) u.part} (follows_by s2 e (last, u.part) (same first) u.may) (ap (λ (o : Option Part). given (kept_beside s2 last) o) whole) in
    let come : after_lines reach_form ps s0 (map reach.Shared totals ++ e ∷ []) ≡ after_lines reach_form ps s2 (e ∷ [])
    = u.come ∙ ap (λ (is : List NamedItem). after_lines reach_form ps (state u.before claim is first) (e ∷ [])) none in
    let closes = on_line ps s2 e [] (new, Some (parts.Totals os qs)) end in
    ap (λ (ls : List ReachLine). after_lines reach_form ps s0 ls) (closing_apart os qs first within) ∙ come ∙ closes
