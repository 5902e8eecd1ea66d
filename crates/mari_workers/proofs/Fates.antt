-- What becomes of an early leaf by what is found at its word.
use Rattle.std.proofs.Common.{◌≡◌, ◌∙◌, Bool, true, false, ℕ, ◌+◌, ◌<◌, ◌≤◌, nat_le, if◌then◌else◌, pos, ◌-ℤ◌, List, length, Option, Some, None, arith, refl, ap, subst}
use Rattle.std.specs.Prelude.{IfSome, IsSomeAnd, MatchOption}
use Rattle.std.proofs.lemmas.Int.{ints, clamps}
use Rattle.mari_market.specs.declared.certificate.Conflict.{Conflict as ConflictRecord}
use Rattle.mari_market.specs.declared.certificate.Leaf.{Leaf as LeafRecord}
use Rattle.mari_market.specs.declared.certificate.Leaf.TheVariants.{Bound}
use Rattle.mari_market.specs.declared.finding.Attained.{Attained}
use Rattle.mari_market.specs.declared.finding.Finding.{Finding}
use Rattle.mari_market.specs.declared.finding.Finding.TheVariants.{Empty, Relaxed}
use Rattle.mari_market.specs.declared.finding.Relaxed.{Relaxed as RelaxedRecord}
use Rattle.mari_market.specs.declared.market.Market.{Market}
use Rattle.mari_market.specs.Conflict.{IsConflict}
use Rattle.mari_market.specs.Finding.{IsAttained, IsFinding, IsRefuted, IsRelaxedFinding, IsSettled}
use Rattle.mari_market.specs.Prefix.{word_of}
use Rattle.mari_market.specs.Tree.{IsEarly, LeafHolds, LeafHoldsFor}
use Rattle.mari_market.proofs.Search.{leaf_rises}
use Rattle.mari_core.specs.Growth.{closing_leaf, closing_relaxed}
use Rattle.mari_core.proofs.Settling.{closing_leaf_holds, gt_by_test, must_branch, MustBranch}
use Rattle.mari_workers.specs.Alone.{best_in, without_best}
use Rattle.mari_workers.specs.declared.fate.Aim.{Aim}
use Rattle.mari_workers.specs.Refine.{fate_by, replaced, unbounded, IsAim, IsEarlier, IsFate, IsToBranch}

-- a leaf that holds at the welfare less 1 stays
pub low_stays : (m : Market) (w most : ℕ) (gates word : List Bool) (leaf : LeafRecord) → most + 1 ≡ w → LeafHolds m (pos most) word leaf → LeafHoldsFor m (pos w) gates word leaf
low_stays m w most gates word leaf e h = record {
  holds = leaf_rises m (pos most) (pos w) word leaf (omega (arith, ints, e)) h;
  early = λ _. leaf_rises m (pos most) (pos w -ℤ pos 1) word leaf (omega (arith, ints, e)) h;
}

-- where a gate is left to decide and no certificate is found, the word is to branch
to_branch : (m : Market) (w most : ℕ) (gates word : List Bool) (leaf : LeafRecord) (f : Finding) → most + 1 ≡ w
    → LeafHolds m (pos w) word leaf → IsEarly gates word → IsFinding m word f → length word < length m.gates
    → closing_leaf most f ≡ None → IsToBranch m w gates word leaf
to_branch m w most gates word leaf f e h early is l none =
    let must : MustBranch m word most = must_branch m word most f is (omega (arith, l)) (not_full f) none in
    record {
      holds = h;
      early = early;
      undecided = l;
      relaxed = must.exceeds.relaxed;
      is_relaxed = must.exceeds.is_relaxed;
      reaches = omega (arith, ints, must.exceeds.above, e);
    }
  where
    not_full : (g : Finding) → Rattle.mari_core.specs.Growth.IsReached m word most g
    not_full (Empty cut) = tt
    not_full (Relaxed r) = λ full c. absurd (omega (arith, full, l))

-- where every gate is decided and no certificate is found, there is an activation of the welfare
earlier_of : (m : Market) (aim : Aim) (most : ℕ) (word : List Bool) (leaf : LeafRecord) (r : RelaxedRecord) (best : Attained)
    → IsAim m aim → most + 1 ≡ aim.welfare → LeafHolds m (pos aim.welfare) word leaf → IsEarly (word_of aim.word) word
    → IsRelaxedFinding m word r → r.best ≡ Some best → length word ≡ length m.gates → most < r.bound
    → IsEarlier m aim.welfare (word_of aim.word) word leaf best.activation
earlier_of m aim most word leaf r best k e h early f is full above =
    let settled : IsSettled m word r best = subst (λ (o : Option Attained). MatchOption o (IsRefuted m word r) (IsSettled m word r)) is (f.at_the_end full) in
    let attained : IsAttained m best = subst (λ (o : Option Attained). IfSome o (IsAttained m)) is f.attained in
    record {
      holds = h;
      early = early;
      admissible = attained.admissible;
      welfare = omega (arith, ints, clamps, attained.welfare, settled.value, f.bound, above, e, k.greatest best.activation attained.admissible);
      gates_are = settled.gates;
    }

bound_above : (r : RelaxedRecord) (most : ℕ) (o : Option ConflictRecord) → r.conflict ≡ o → closing_relaxed most r o ≡ None → (most < r.bound) × (r.conflict ≡ None)
bound_above r most (Some c) same e = absurd (cc)
bound_above r most None same e = (by_test (nat_le r.bound most) refl e, same)
  where
    by_test : (b : Bool) → nat_le r.bound most ≡ b → (if b then Some (Bound r.potentials) else None) ≡ None → most < r.bound
    by_test true low h = absurd (cc)
    by_test false low h = gt_by_test r.bound most low

-- a word that decides every gate has an activation, or a conflict
has_best : (m : Market) (word : List Bool) (r : RelaxedRecord) → IsRelaxedFinding m word r → length word ≡ length m.gates → r.conflict ≡ None → r.best ≡ None → ⊥
has_best m word r f full none is =
    let refuted : IsRefuted m word r = subst (λ (o : Option Attained). MatchOption o (IsRefuted m word r) (IsSettled m word r)) is (f.at_the_end full) in
    let no : IsSomeAnd None (IsConflict m word) = subst (λ (o : Option ConflictRecord). IsSomeAnd o (IsConflict m word)) none refuted.conflict in
    no

-- what is found at the word of an early leaf makes of it what is to become of it
pub found_fate : (m : Market) (aim : Aim) (most : ℕ) (word : List Bool) (leaf : LeafRecord) (f : Finding) (full : Bool)
    → IsAim m aim → most + 1 ≡ aim.welfare → LeafHolds m (pos aim.welfare) word leaf → IsEarly (word_of aim.word) word
    → IsFinding m word f → length word ≤ length m.gates → (full ≡ true → length word ≡ length m.gates)
    → (full ≡ false → length word < length m.gates)
    → IsFate m aim.welfare (word_of aim.word) word (fate_by f leaf most full)
found_fate m aim most word leaf f full k e h early is within decided free = by_closing (closing_leaf most f) refl
  where
    by_best : (g : Finding) → IsFinding m word g → closing_leaf most g ≡ None → length word ≡ length m.gates → IsFate m aim.welfare (word_of aim.word) word (unbounded (best_in g) leaf true)
    by_best (Empty cut) found none all = absurd (cc)
    by_best (Relaxed r) found none all = with_best r.best refl
      where
        above : (most < r.bound) × (r.conflict ≡ None)
        above = bound_above r most r.conflict refl none

        with_best : (o : Option Attained) → r.best ≡ o → IsFate m aim.welfare (word_of aim.word) word (unbounded o leaf true)
        with_best None same = absurd (has_best m word r found all above.1 same)
        with_best (Some best) same = earlier_of m aim most word leaf r best k e h early found same all above.0

    open_still : (o : Option Attained) → closing_leaf most f ≡ None → length word < length m.gates → IsFate m aim.welfare (word_of aim.word) word (unbounded o leaf false)
    open_still None none l = to_branch m aim.welfare most (word_of aim.word) word leaf f e h early is l none
    open_still (Some best) none l = to_branch m aim.welfare most (word_of aim.word) word leaf f e h early is l none

    by_full : (b : Bool) → full ≡ b → closing_leaf most f ≡ None → IsFate m aim.welfare (word_of aim.word) word (unbounded (best_in f) leaf b)
    by_full true same none = by_best f is none (decided same)
    by_full false same none = open_still (best_in f) none (free same)

    by_closing : (o : Option LeafRecord) → closing_leaf most f ≡ o → IsFate m aim.welfare (word_of aim.word) word (replaced o (best_in f) leaf full)
    by_closing (Some other) same = low_stays m aim.welfare most (word_of aim.word) word other e (closing_leaf_holds m word most f other is within same)
    by_closing None same = by_full full refl same

-- by which certificate a finding closes doesn't rest on its activation
closing_without_best : (cutoff : ℕ) (f : Finding) → closing_leaf cutoff (without_best f) ≡ closing_leaf cutoff f
closing_without_best cutoff (Empty cut) = refl
closing_without_best cutoff (Relaxed r) = by_conflict r.conflict
  where
    by_conflict : (o : Option ConflictRecord) → closing_relaxed cutoff (record r { best = None }) o ≡ closing_relaxed cutoff r o
    by_conflict (Some conflict) = refl
    by_conflict None = refl

-- so the activation may be taken out before the certificate is sought
pub fate_apart : (f rest : Finding) (o : Option LeafRecord) (best : Option Attained) (leaf : LeafRecord) (most : ℕ) (full : Bool)
    → rest ≡ without_best f → best ≡ best_in f → o ≡ closing_leaf most rest
    → replaced o best leaf full ≡ fate_by f leaf most full
fate_apart f rest o best leaf most full apart is closing =
    ap (λ (p : Option LeafRecord). replaced p best leaf full) (closing ∙ ap (closing_leaf most) apart ∙ closing_without_best most f)
    ∙ ap (λ (b : Option Attained). replaced (closing_leaf most f) b leaf full) is
