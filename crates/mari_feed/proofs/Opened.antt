-- The text of an object, member by member.
use Rattle.std.proofs.Common.{◌≡◌, ◌∙◌, ℕ, true, List, [], ◌∷◌, ◌++◌, Result, Ok, Err, refl, sym, ap, append_assoc, append-nil, arith}
use Rattle.std.specs.Result.{OnOk}
use Rattle.serde_json.specs.Data.{Data}
use Rattle.serde_json.specs.Written.{compact_text, members_text}
use Rattle.mari_feed.specs.Texts.{first_text, next_text, nexts_text}
use Rattle.mari_feed.specs.Values.{members_from, object_of}

abbrev Member : Type 0
Member = List ℕ × Data

nexts_append : (ms ns : List Member) → nexts_text (ms ++ ns) ≡ nexts_text ms ++ nexts_text ns
nexts_append [] ns = refl
nexts_append (m ∷ ms) ns = ap (λ (t : List ℕ). next_text m.0 m.1 ++ t) (nexts_append ms ns) ∙ sym (append_assoc (next_text m.0 m.1) (nexts_text ms) (nexts_text ns))

nexts_push : (ms : List Member) (key : List ℕ) (d : Data) → nexts_text (ms ++ (key, d) ∷ []) ≡ nexts_text ms ++ next_text key d
nexts_push ms key d = nexts_append ms ((key, d) ∷ []) ∙ ap (λ (t : List ℕ). nexts_text ms ++ t) (append-nil (next_text key d))

-- a member before a text
regroup : (q c t : List ℕ) → q ++ 58 ∷ (c ++ t) ≡ (q ++ 58 ∷ c) ++ t
regroup q c t = sym (append_assoc q (58 ∷ c) t)

members_end : (ms : List Member) → members_text true (members_from ms) ≡ nexts_text ms ++ 125 ∷ []
members_end [] = refl
members_end (m ∷ ms) = grind (arith, regroup, append_assoc, members_end ms)

object_end : (key : List ℕ) (d : Data) (ms : List Member) → compact_text (object_of ((key, d) ∷ ms)) ≡ (first_text key d ++ nexts_text ms) ++ 125 ∷ []
object_end key d ms = grind (arith, members_end, regroup, append_assoc)

-- ---- an object as far as it is written

abbrev pub Opened : (old now : List ℕ) → List ℕ → Data → List Member → Type 0
Opened old now key d ms = now ≡ old ++ (first_text key d ++ nexts_text ms)

pub opened : (old now key : List ℕ) (d : Data) → now ≡ old ++ first_text key d → Opened old now key d []
opened old now key d e = e ∙ ap (λ (t : List ℕ). old ++ t) (sym (append-nil (first_text key d)))

grown : (old key : List ℕ) (d : Data) (ms : List Member) (k : List ℕ) (x : Data)
    → (old ++ (first_text key d ++ nexts_text ms)) ++ next_text k x ≡ old ++ (first_text key d ++ nexts_text (ms ++ (k, x) ∷ []))
grown old key d ms k x = grind (arith, append_assoc, nexts_push)

pub further : (old now next key : List ℕ) (d : Data) (ms : List Member) (k : List ℕ) (x : Data) → Opened old now key d ms → next ≡ now ++ next_text k x → Opened old next key d (ms ++ (k, x) ∷ [])
further old now next key d ms k x o e = e ∙ ap (λ (t : List ℕ). t ++ next_text k x) o ∙ grown old key d ms k x

pub further_last : {R E : Type 0} (r : Result R E) (old now next key : List ℕ) (d : Data) (ms : List Member) (k : List ℕ) (x : Data)
    → Opened old now key d ms → OnOk r (next ≡ now ++ next_text k x)
    → OnOk r (Opened old next key d (ms ++ (k, x) ∷ []))
further_last (Ok v) old now next key d ms k x o e = further old now next key d ms k x o e
further_last (Err v) old now next key d ms k x o e = tt

-- the same where what was written is that value
pub further_shown : {R E : Type 0} (r : Result R E) (old now next key : List ℕ) (d : Data) (ms : List Member) (k : List ℕ) (shown x : Data) → shown ≡ x
    → Opened old now key d ms → OnOk r (next ≡ now ++ next_text k shown)
    → OnOk r (Opened old next key d (ms ++ (k, x) ∷ []))
further_shown (Ok v) old now next key d ms k shown x is o e = further old now next key d ms k x o (e ∙ ap (λ (y : Data). now ++ next_text k y) is)
further_shown (Err v) old now next key d ms k shown x is o e = tt

pub closed : {R E : Type 0} (r : Result R E) (old now next key : List ℕ) (d : Data) (ms : List Member)
    → Opened old now key d ms → OnOk r (next ≡ now ++ 125 ∷ [])
    → OnOk r (next ≡ old ++ compact_text (object_of ((key, d) ∷ ms)))
closed r old now next key d ms o e = grind (arith, append_assoc, object_end)

-- ---- further members alone

abbrev pub Grown : (old now : List ℕ) → List Member → Type 0
Grown old now ms = now ≡ old ++ nexts_text ms

pub begun : (old now key : List ℕ) (d : Data) → now ≡ old ++ next_text key d → Grown old now ((key, d) ∷ [])
begun old now key d e = e ∙ ap (λ (t : List ℕ). old ++ t) (sym (append-nil (next_text key d)))

pub more : (old now next : List ℕ) (ms : List Member) (k : List ℕ) (x : Data) → Grown old now ms → next ≡ now ++ next_text k x → Grown old next (ms ++ (k, x) ∷ [])
more old now next ms k x o e = e ∙ ap (λ (t : List ℕ). t ++ next_text k x) o ∙ append_assoc old (nexts_text ms) (next_text k x) ∙ ap (λ (t : List ℕ). old ++ t) (sym (nexts_push ms k x))

pub more_last : {R E : Type 0} (r : Result R E) (old now next : List ℕ) (ms : List Member) (k : List ℕ) (x : Data)
    → Grown old now ms → OnOk r (next ≡ now ++ next_text k x) → OnOk r (Grown old next (ms ++ (k, x) ∷ []))
more_last (Ok v) old now next ms k x o e = more old now next ms k x o e
more_last (Err v) old now next ms k x o e = tt

pub ended : {R E : Type 0} (r : Result R E) (old now next : List ℕ) (ms : List Member) → Grown old now ms → OnOk r (next ≡ now ++ 125 ∷ []) → OnOk r (next ≡ old ++ (nexts_text ms ++ 125 ∷ []))
ended (Ok v) old now next ms o e = e ∙ ap (λ (t : List ℕ). t ++ 125 ∷ []) o ∙ append_assoc old (nexts_text ms) (125 ∷ [])
ended (Err v) old now next ms o e = tt

-- a member, and then the end
pub ended_after : {R E : Type 0} (r : Result R E) (old now next key : List ℕ) (d : Data) (ms : List Member)
    → now ≡ old ++ next_text key d → OnOk r (next ≡ now ++ (nexts_text ms ++ 125 ∷ []))
    → OnOk r (next ≡ old ++ (nexts_text ((key, d) ∷ ms) ++ 125 ∷ []))
ended_after r old now next key d ms o e = grind (arith, append_assoc)

-- ---- an object in three pieces

pub in_pieces : {R E : Type 0} (r : Result R E) (old first second last key : List ℕ) (d : Data) (ms ns ps : List Member)
    → first ≡ old ++ (first_text key d ++ nexts_text ms) → second ≡ first ++ nexts_text ns
    → OnOk r (last ≡ second ++ (nexts_text ps ++ 125 ∷ []))
    → OnOk r (last ≡ old ++ compact_text (object_of ((key, d) ∷ (ms ++ (ns ++ ps)))))
in_pieces r old first second last key d ms ns ps a b c = grind (arith, append_assoc, object_end, nexts_append)
