-- The crossings into a zone, made border by border.
use Rattle.std.proofs.Common.{◌≡◌, Bool, true, false, ℕ, ◌+◌, ◌<◌, List, [], ◌∷◌, ◌++◌, length, arith, refl, sym, subst, inl, inr}
use Rattle.std.proofs.lemmas.Bool.{cases_lt, cases_eq}
use Rattle.std.specs.List.{All, Contains}
use Rattle.std.proofs.lemmas.List.Elements.{All-push, Contains-push, Contains-append_left}
use Rattle.mari_market.specs.declared.market.Border.{Border}
use Rattle.mari_network.specs.declared.network.Crossing.{Crossing}
use Rattle.mari_network.specs.Network.{border_at, head_of, crossing_of, IsCrossing, AreMeeting}

-- those over the first n borders
pub record AreMeetingTo (bs : List Border) (n z : ℕ) (crossings : List Crossing) : Type 0 where
  pub each : All (IsCrossing bs z) crossings
  pub all : (k : ℕ) (forth : Bool) → k < n → head_of forth (border_at bs k) ≡ z → Contains crossings (crossing_of bs k forth)

-- a crossing is added where the zone is this one
pub record IsAdded (crossing : Crossing) (zone z : ℕ) (old new : List Crossing) : Type 0 where
  pub here : z ≡ zone → new ≡ old ++ crossing ∷ []
  pub other : (z ≡ zone → ⊥) → new ≡ old

added_each : (bs : List Border) (crossing : Crossing) (zone z : ℕ) (old new : List Crossing) → (zone ≡ z → IsCrossing bs z crossing) → IsAdded crossing zone z old new
    → All (IsCrossing bs z) old → All (IsCrossing bs z) new
added_each bs crossing zone z old new is h a = elim (cases_eq z zone) [
  | inl e ↦ subst (λ (ws : List Crossing). All (IsCrossing bs z) ws) (sym (h.here e)) (All-push (IsCrossing bs z) old crossing a (is (sym e)))
  | inr e ↦ subst (λ (ws : List Crossing). All (IsCrossing bs z) ws) (sym (h.other e)) a
]

added_keeps : (crossing : Crossing) (zone z : ℕ) (w : Crossing) (old new : List Crossing) → IsAdded crossing zone z old new → Contains old w → Contains new w
added_keeps crossing zone z w old new h a = elim (cases_eq z zone) [
  | inl e ↦ subst (λ (ws : List Crossing). Contains ws w) (sym (h.here e)) (Contains-append_left old (crossing ∷ []) w a)
  | inr e ↦ subst (λ (ws : List Crossing). Contains ws w) (sym (h.other e)) a
]

added_has : (crossing : Crossing) (zone z : ℕ) (old new : List Crossing) → IsAdded crossing zone z old new → zone ≡ z → Contains new crossing
added_has crossing zone z old new h e = subst (λ (ws : List Crossing). Contains ws crossing) (sym (h.here (sym e))) (Contains-push old crossing)

pub meeting_more : (bs : List Border) (n z : ℕ) (old mid new : List Crossing) → n < length bs
    → IsAdded (crossing_of bs n false) (border_at bs n).from z old mid → IsAdded (crossing_of bs n true) (border_at bs n).to z mid new
    → AreMeetingTo bs n z old → AreMeetingTo bs (n + 1) z new
meeting_more bs n z old mid new l one two a = record {
  each =
      added_each bs (crossing_of bs n true) (border_at bs n).to z mid new (λ e. record { there = l; from = refl; to = e }) two
      (added_each bs (crossing_of bs n false) (border_at bs n).from z old mid (λ e. record { there = l; from = refl; to = e }) one a.each);
  all = λ k forth h m. elim (cases_lt k n) [
    | inl b ↦ added_keeps (crossing_of bs n true) (border_at bs n).to z (crossing_of bs k forth) mid new two
        (added_keeps (crossing_of bs n false) (border_at bs n).from z (crossing_of bs k forth) old mid one (a.all k forth b m))
    | inr b ↦
        let same : n ≡ k = omega arith in
        subst (λ (j : ℕ). Contains new (crossing_of bs j forth)) same (here forth (subst (λ (j : ℕ). head_of forth (border_at bs j) ≡ z) (sym same) m))
  ];
}
  where
    here : (forth : Bool) → head_of forth (border_at bs n) ≡ z → Contains new (crossing_of bs n forth)
    here true e = added_has (crossing_of bs n true) (border_at bs n).to z mid new two e
    here false e = added_keeps (crossing_of bs n true) (border_at bs n).to z (crossing_of bs n false) mid new two (added_has (crossing_of bs n false) (border_at bs n).from z old mid one e)

pub meeting_all : (bs : List Border) (n z : ℕ) (crossings : List Crossing) → n ≡ length bs → AreMeetingTo bs n z crossings → AreMeeting bs z crossings
meeting_all bs n z crossings e a = record { each = a.each; all = λ k forth l m. a.all k forth (subst (λ (j : ℕ). k < j) (sym e) l) m }
