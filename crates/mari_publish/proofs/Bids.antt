-- Lines of bids that are taken in place.
use Rattle.std.proofs.Common.{◌≡◌, ◌≤◌, ◌<◌, ℕ, ◌+◌, ◌-◌, true, ltb, List, [], ◌∷◌, ◌++◌, map, length, drop, Some, None, refl, sym, ap, subst, ◌∙◌, append_assoc, length-append, arith}
use Rattle.std.specs.List.{AllByRecursion}
use Rattle.std.proofs.lemmas.Bool.{lt-ltb}
use Rattle.std.proofs.lemmas.List.{append-nil, drop-drop, length-drop}
use Rattle.std.proofs.Math.Seq.{drop-append-add}
use Rattle.mari_units.specs.declared.limits.TheConstants.{MOST_BIDS}
use Rattle.mari_lines.specs.declared.line.BidLine.{BidLine}
use Rattle.mari_lines.specs.declared.line.Line.TheVariants as line
use Rattle.mari_lines.specs.Ranges.{InRange}
use Rattle.mari_lines.specs.Spelling.{line_text, spelling}
use Rattle.mari_lines.proofs.LineWords.{no_feed}
use Rattle.mari_publish.specs.declared.coming.Ahead.{Ahead}
use Rattle.mari_publish.specs.declared.coming.Ahead.TheVariants as mark
use Rattle.mari_publish.specs.declared.held.Held.{Held}
use Rattle.mari_publish.specs.declared.held.Held.TheVariants as held
use Rattle.mari_publish.specs.declared.held.Kept.{Kept}
use Rattle.mari_publish.specs.declared.held.Listing.{Listing}
use Rattle.mari_publish.specs.declared.publication.Part.{Part}
use Rattle.mari_publish.specs.Bids.{BidsTaken, with_bids}
use Rattle.mari_publish.specs.Handling.{IsTaken}
use Rattle.mari_publish.specs.Order.{after, is_empty, kept_with}
use Rattle.mari_publish.specs.Pieces.{ComesFrom, ComeState}
use Rattle.mari_publish.specs.Texts.{text_of_lines}
use Rattle.mari_publish.proofs.Pieces.{taken}

-- what has come, from its parts
abbrev pub state : Kept → ℕ → Ahead → List ℕ → ComeState
state k n a unread = record { kept = k; lines = n; ahead = a; unread = unread }

-- in a block that has a zone, room for a bid, and no demand
may_follow : (k : Kept) (b : Listing) (x : BidLine) → 0 < length b.zones → b.demands ≡ [] → length b.bids < MOST_BIDS
    → after k (held.Listing b) (line.Bid x) ≡ Some (kept_with k (held.Listing (with_bids b (b.bids ++ x ∷ []))), None)
may_follow k b x zone none room =
    let zones : ltb 0 (length b.zones) ≡ true = lt-ltb 0 (length b.zones) zone in
    let demands : is_empty b.demands ≡ true = ap is_empty none in
    let bids : ltb (length b.bids) 4096 ≡ true = lt-ltb (length b.bids) 4096 room in
    rw (zones, demands, bids) refl

-- the first of the bids is taken
first_taken : (k : Kept) (b : Listing) (x : BidLine) (n : ℕ) (following : List ℕ) → InRange (line.Bid x) → 0 < length b.zones → b.demands ≡ [] → length b.bids < MOST_BIDS
    → IsTaken (state (kept_with k (held.Listing b)) n mark.Whole (line_text (line.Bid x) ++ following))
    (state (kept_with k (held.Listing (with_bids b (b.bids ++ x ∷ [])))) (n + 1) mark.Whole following) None
first_taken k b x n following range zone none room = record {
  here = spelling (line.Bid x);
  following = following;
  begins = record { all = refl; is = append_assoc (spelling (line.Bid x)) (10 ∷ []) following; whole = no_feed (line.Bid x) range };
  line = line.Bid x;
  in_range = range;
  spelled = refl;
  follows = may_follow (kept_with k (held.Listing b)) b x zone none room;
  one_more = refl;
  all = refl;
  left = refl;
}

-- and so are all of them, one after the other
bids_come : (k : Kept) (b : Listing) (bids : List BidLine) (n : ℕ) (rest : List ℕ) → AllByRecursion (λ x. InRange (line.Bid x)) bids
    → (0 < length bids → (0 < length b.zones) × (b.demands ≡ []) × (length b.bids + length bids ≤ MOST_BIDS))
    → (text : List ℕ) (parts : List Part) → ComesFrom (state (kept_with k (held.Listing b)) n mark.Whole (text_of_lines (map line.Bid bids) ++ rest)) text parts
    → ComesFrom (state (kept_with k (held.Listing (with_bids b (b.bids ++ bids)))) (n + length bids) mark.Whole rest) text parts
bids_come k b [] n rest range may text parts s =
    let same : n ≡ n + 0 = omega arith in
    subst (λ (bids : List BidLine). ComesFrom (state (kept_with k (held.Listing (with_bids b bids))) (n + 0) mark.Whole rest) text parts) (sym (append-nil b.bids))
    (subst (λ m. ComesFrom (state (kept_with k (held.Listing b)) m mark.Whole rest) text parts) same s)
bids_come k b (x ∷ bids) n rest range may text parts s =
    let m = may (omega arith) in
    let following = text_of_lines (map line.Bid bids) ++ rest in
    let more = b.bids ++ x ∷ [] in
    let parts_of_text : text_of_lines (map line.Bid (x ∷ bids)) ++ rest ≡ line_text (line.Bid x) ++ following = append_assoc (line_text (line.Bid x)) (text_of_lines (map line.Bid bids)) rest in
    let first = subst (λ (bs : List ℕ). ComesFrom (state (kept_with k (held.Listing b)) n mark.Whole bs) text parts) parts_of_text s in
    let room : length b.bids < MOST_BIDS = omega (arith, m.2) in
    let next = taken _ _ None (first_taken k b x n following range.0 m.0 m.1 room) text parts first in
    let all = bids_come k (with_bids b more) bids (n + 1) rest range.1 (λ some. (m.0, m.1, omega (arith, m.2, length-append b.bids (x ∷ [])))) text parts next in
    let number : (n + 1) + length bids ≡ n + length (x ∷ bids) = omega arith in
    subst (λ (bs : List BidLine). ComesFrom (state (kept_with k (held.Listing (with_bids b bs))) (n + length (x ∷ bids)) mark.Whole rest) text parts) (append_assoc b.bids (x ∷ []) bids)
    (subst (λ i. ComesFrom (state (kept_with k (held.Listing (with_bids b (more ++ bids)))) i mark.Whole rest) text parts) number all)

-- what is left of the bytes
pub rest_left : (old new : List BidLine) (bytes after : List ℕ) (handled : ℕ) → handled ≤ length bytes → BidsTaken old new (drop handled bytes) after → drop (length bytes - length after) bytes ≡ after
rest_left old new bytes after handled le t =
    let front = text_of_lines (map line.Bid t.bids) in
    let size : length bytes - length after ≡ handled + (length front + 0) = omega (arith, le, length-drop handled bytes, ap length t.is, length-append front after) in
    ap (λ n. drop n bytes) size ∙ sym (drop-drop (length front + 0) handled bytes) ∙ ap (λ (bs : List ℕ). drop (length front + 0) bs) t.is ∙ drop-append-add front after 0

-- a block's bids that were taken in place: what has come stands for what it stood for
pub bids_stand : (k : Kept) (n : ℕ) (a : Ahead) (unread left : List ℕ) (b new : Listing) (count : ℕ) → a ≡ mark.Whole → k.held ≡ held.Listing b → BidsTaken b.bids new.bids unread left
    → (0 < count → (0 < length b.zones) × (b.demands ≡ [])) → new ≡ with_bids b new.bids → length new.bids ≡ length b.bids + count
    → (text : List ℕ) (parts : List Part) → ComesFrom (state k n a unread) text parts → ComesFrom (state (kept_with k (held.Listing new)) (n + count) a left) text parts
bids_stand k n a unread left b new count whole is t may same number text parts s =
    let long : length new.bids ≡ length b.bids + length t.bids = ap length t.appended ∙ length-append b.bids t.bids in
    let few = t.few in
    let counted : length t.bids ≡ count = omega (arith, long, number) in
    let held_so = subst (λ (h : Held). ComesFrom (state (kept_with k h) n a unread) text parts) is s in
    let ahead_so = subst (λ (m : Ahead). ComesFrom (state (kept_with k (held.Listing b)) n m unread) text parts) whole held_so in
    let unread_so = subst (λ (bs : List ℕ). ComesFrom (state (kept_with k (held.Listing b)) n mark.Whole bs) text parts) t.is ahead_so in
    let come = bids_come k b t.bids n left t.in_range (λ some. let m = may (omega (arith, some, counted)) in (m.0, m.1, omega (arith, some, long, few))) text parts unread_so in
    let block : with_bids b (b.bids ++ t.bids) ≡ new = ap (λ (bs : List BidLine). with_bids b bs) (sym t.appended) ∙ sym same in
    subst (λ (m : Ahead). ComesFrom (state (kept_with k (held.Listing new)) (n + count) m left) text parts) (sym whole)
    (subst (λ (x : Listing). ComesFrom (state (kept_with k (held.Listing x)) (n + count) mark.Whole left) text parts) block
    (subst (λ i. ComesFrom (state (kept_with k (held.Listing (with_bids b (b.bids ++ t.bids)))) (n + i) mark.Whole left) text parts) counted come))
