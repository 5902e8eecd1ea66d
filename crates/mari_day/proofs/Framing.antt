-- A day that is printed block by block: what was written after each text, and after a first part of one.
use Rattle.std.proofs.Common.{◌≡◌, ◌∙◌, ◌<◌, ◌+◌, ℕ, List, [], ◌∷◌, ◌++◌, length, take, refl, sym, ap, arith, inl, inr, subst, Option, Ok, Err}
use Rattle.std.specs.Prelude.{Result, IfOk, IsErrAnd, OnErr}
use Rattle.std.specs.List.{flat_map}
use Rattle.std.proofs.Math.Seq.{take-append-add}
use Rattle.std.proofs.lemmas.Grind.{flat_map-append}
use Rattle.std.proofs.lemmas.List.{append_assoc, append-nil, length-append}
use Rattle.mari_io.specs.Taken.{TookPart, then_took}
use Rattle.mari_io.proofs.Taken.{took_both}
use Rattle.mari_progress.proofs.Lists.{each-more}
use Rattle.mari_day.specs.Frame.{EndsText, IsPartBy, IsPartTextBy, MakesNext, StoppedBy, Writes, WroteBy, part_text_by}
use Rattle.mari_day.specs.declared.frame.Stop.{Stop}
use Rattle.mari_day.specs.declared.frame.Stop.TheVariants.{Sink, Memory as NoMemory}

-- the head and the blocks of the first `count` runs were written, and what is kept stands for them
pub record WroteFirst {B : Type 0} (runs : ℕ) (IsNext : List B → B → Type 0) (head : List ℕ) (block_text : B → List ℕ) (Keeps : List B → Type 0) (count : ℕ)
    (before after : Option (List ℕ)) : Type 0 where
  pub blocks : List B
  pub part : IsPartBy runs IsNext blocks
  pub keeps : Keeps blocks
  pub counted : length blocks ≡ count
  pub taken : after ≡ then_took before (part_text_by head block_text blocks)

-- two ends of one writing
abbrev Ends : Result (Unit {0}) Stop → Result (Unit {0}) Stop → Type 0
Ends r s = r ≡ s

-- a first part of a text after another text
took-after : (before mid after : Option (List ℕ)) (text more : List ℕ) → mid ≡ then_took before text → TookPart mid after more → TookPart before after (text ++ more)
took-after before mid after text more e (count, f) =
    (length text + count, took_both before mid after text (take count more) e f ∙ ap (then_took before) (sym (take-append-add text more count)))

module _ {B : Type 0} (runs : ℕ) (IsNext : List B → B → Type 0) (head : List ℕ) (block_text : B → List ℕ) where
  abbrev text-of : List B → List ℕ
  text-of = part_text_by head block_text

  abbrev IsPart : List ℕ → Type 0
  IsPart = IsPartTextBy runs IsNext head block_text

  none : IsPartBy runs IsNext []
  none = record { few = omega arith; each = λ k b e. cc e }

  -- the blocks with one more, and their text
  part-more : (blocks : List B) (b : B) → IsPartBy runs IsNext blocks → length blocks < runs → IsNext blocks b → IsPartBy runs IsNext (blocks ++ b ∷ [])
  part-more blocks b part last is = record {
    few = omega (arith, last, length-append blocks (b ∷ []));
    each = each-more IsNext blocks b part.each is;
  }

  text-more : (blocks : List B) (b : B) → text-of (blocks ++ b ∷ []) ≡ text-of blocks ++ block_text b
  text-more blocks b =
      ap (λ t. head ++ t) (flat_map-append block_text blocks (b ∷ []) ∙ ap (λ t. flat_map block_text blocks ++ t) (append-nil (block_text b)))
      ∙ sym (append_assoc head (flat_map block_text blocks) (block_text b))

  -- the head
  pub head-written : (Keeps : List B → Type 0) → Keeps [] → (text : List ℕ) → text ≡ head → (before after : Option (List ℕ)) → after ≡ then_took before text
      → WroteFirst runs IsNext head block_text Keeps 0 before after
  head-written Keeps keeps text is before after e = record {
    blocks = [];
    part = none;
    keeps = keeps;
    counted = refl;
    taken = e ∙ ap (then_took before) (is ∙ sym (append-nil head));
  }

  module _ (IsWhole : List ℕ → Type 0) where
    pub head-stops : (text : List ℕ) → text ≡ head → (before after : Option (List ℕ)) (stop : Stop) → Writes text before after (Err stop) → StoppedBy IsPart IsWhole before after stop
    head-stops text is before after Sink cut = record {
      text = text-of [];
      is_text = inl (record { blocks = []; part = none; spelled = refl });
      taken = subst (TookPart before after) (is ∙ sym (append-nil head)) cut;
    }
    head-stops text is before after NoMemory cut = absurd cut

  module _ (Keeps : List B → Type 0) (count : ℕ) (before mid : Option (List ℕ)) (first : WroteFirst runs IsNext head block_text Keeps count before mid) where
    module _ (After : List B → Type 0) (text : List ℕ) (last : count < runs) (next : MakesNext block_text IsNext After first.blocks text) where
      more : IsPartBy runs IsNext (first.blocks ++ next.block ∷ [])
      more = part-more first.blocks next.block first.part (omega (arith, last, first.counted)) next.is_next

      spelled : text-of first.blocks ++ text ≡ text-of (first.blocks ++ next.block ∷ [])
      spelled = ap (λ t. text-of first.blocks ++ t) next.spelled ∙ sym (text-more first.blocks next.block)

      -- one block more
      pub block-written : (after : Option (List ℕ)) → after ≡ then_took mid text → WroteFirst runs IsNext head block_text After (count + 1) before after
      block-written after e = record {
        blocks = first.blocks ++ next.block ∷ [];
        part = more;
        keeps = next.keeps;
        counted = length-append first.blocks (next.block ∷ []) ∙ ap (λ n. n + 1) first.counted;
        taken = took_both before mid after (text-of first.blocks) text first.taken e ∙ ap (then_took before) spelled;
      }

      -- a first part of it
      pub block-stops : (IsWhole : List ℕ → Type 0) (after : Option (List ℕ)) (stop : Stop) → Writes text mid after (Err stop) → StoppedBy IsPart IsWhole before after stop
      block-stops IsWhole after Sink cut = record {
        text = text-of (first.blocks ++ next.block ∷ []);
        is_text = inl (record { blocks = first.blocks ++ next.block ∷ []; part = more; spelled = refl });
        taken = subst (TookPart before after) spelled (took-after before mid after (text-of first.blocks) text first.taken cut);
      }
      block-stops IsWhole after NoMemory cut = absurd cut

    -- nothing more: there was no memory for the next text
    pub stays : (after : Option (List ℕ)) → after ≡ mid → WroteBy IsPart before after
    stays after e = record {
      text = text-of first.blocks;
      is_text = record { blocks = first.blocks; part = first.part; spelled = refl };
      taken = e ∙ first.taken;
    }

    -- the end, or a first part of it
    module _ (IsWhole : List ℕ → Type 0) (text : List ℕ) (whole : IsWhole (text-of first.blocks ++ text)) where
      pub end-written : (after : Option (List ℕ)) → after ≡ then_took mid text → WroteBy IsWhole before after
      end-written after e = record {
        text = text-of first.blocks ++ text;
        is_text = whole;
        taken = took_both before mid after (text-of first.blocks) text first.taken e;
      }

      pub end-stops : (after : Option (List ℕ)) (stop : Stop) → Writes text mid after (Err stop) → StoppedBy IsPart IsWhole before after stop
      end-stops after Sink cut = record {
        text = text-of first.blocks ++ text;
        is_text = inr whole;
        taken = took-after before mid after (text-of first.blocks) text first.taken cut;
      }
      end-stops after NoMemory cut = absurd cut

  -- the same of texts that are made, for which there may be no memory
  module _ {T E : Type 0} (items : T → List ℕ) (made : Result T E) (Keeps : List B → Type 0) (count : ℕ) (before mid : Option (List ℕ))
      (first : WroteFirst runs IsNext head block_text Keeps count before mid) (after : Option (List ℕ)) where
    pub next-written : (After : List B → Type 0) → count < runs → IfOk made (λ t. MakesNext block_text IsNext After first.blocks (items t)) → (u : Unit {0})
        → IfOk made (λ t. Writes (items t) mid after (Ok u)) → OnErr made ((Ends (Ok u) (Err NoMemory)) × (after ≡ mid)) → WroteFirst runs IsNext head block_text After (count + 1) before after
    next-written After last next u ok lack = by made next ok lack
      where
        by : (m : Result T E) → IfOk m (λ t. MakesNext block_text IsNext After first.blocks (items t)) → IfOk m (λ t. Writes (items t) mid after (Ok u))
            → OnErr m ((Ends (Ok u) (Err NoMemory)) × (after ≡ mid))
            → WroteFirst runs IsNext head block_text After (count + 1) before after
        by (Ok t) next ok lack = block-written Keeps count before mid first After (items t) last next after ok
        by (Err e) next ok lack = cc lack.0

    pub next-stops : (IsWhole : List ℕ → Type 0) (After : List B → Type 0) → count < runs → IfOk made (λ t. MakesNext block_text IsNext After first.blocks (items t)) → (stop : Stop)
        → IfOk made (λ t. Writes (items t) mid after (Err stop)) → OnErr made ((Ends (Err stop) (Err NoMemory)) × (after ≡ mid)) → StoppedBy IsPart IsWhole before after stop
    next-stops IsWhole After last next stop ok lack = by made stop next ok lack
      where
        by : (m : Result T E) (s : Stop) → IfOk m (λ t. MakesNext block_text IsNext After first.blocks (items t)) → IfOk m (λ t. Writes (items t) mid after (Err s))
            → OnErr m ((Ends (Err s) (Err NoMemory)) × (after ≡ mid))
            → StoppedBy IsPart IsWhole before after s
        by (Ok t) s next ok lack = block-stops Keeps count before mid first After (items t) last next IsWhole after s ok
        by (Err e) NoMemory next ok lack = inr (stays Keeps count before mid first after lack.1)
        by (Err e) Sink next ok lack = cc lack.0

    pub end-ends : (IsWhole : List ℕ → Type 0) → IfOk made (λ t. IsWhole (text-of first.blocks ++ items t)) → (r : Result (Unit {0}) Stop)
        → IfOk made (λ t. Writes (items t) mid after r) → OnErr made ((Ends r (Err NoMemory)) × (after ≡ mid)) → EndsText IsPart IsWhole before after r
    end-ends IsWhole whole r ok lack = by made r whole ok lack
      where
        by : (m : Result T E) (r : Result (Unit {0}) Stop) → IfOk m (λ t. IsWhole (text-of first.blocks ++ items t)) → IfOk m (λ t. Writes (items t) mid after r)
            → OnErr m ((Ends r (Err NoMemory)) × (after ≡ mid))
            → EndsText IsPart IsWhole before after r
        by (Ok t) (Ok u) whole ok lack = end-written Keeps count before mid first IsWhole (items t) whole after ok
        by (Ok t) (Err s) whole ok lack = end-stops Keeps count before mid first IsWhole (items t) whole after s ok
        by (Err e) (Err NoMemory) whole ok lack = inr (stays Keeps count before mid first after lack.1)
        by (Err e) (Err Sink) whole ok lack = cc lack.0
        by (Err e) (Ok u) whole ok lack = cc lack.0

  -- an error that is passed on
  pub ends-at : (IsWhole : List ℕ → Type 0) (before after : Option (List ℕ)) (r : Result (Unit {0}) Stop) (stop : Stop) → IsErrAnd r (λ s. s ≡ stop) → StoppedBy IsPart IsWhole before after stop
      → EndsText IsPart IsWhole before after r
  ends-at IsWhole before after (Ok u) stop is h = absurd is
  ends-at IsWhole before after (Err s) stop is h = subst (StoppedBy IsPart IsWhole before after) (sym is) h

-- what was written of a day that stopped, where texts of a whole day are so by another word too
pub stopped-as : (IsPartText IsWhole IsOther : List ℕ → Type 0) (before after : Option (List ℕ)) (stop : Stop) → ((text : List ℕ) → IsWhole text → IsOther text)
    → StoppedBy IsPartText IsWhole before after stop → StoppedBy IsPartText IsOther before after stop
stopped-as IsPartText IsWhole IsOther before after Sink too h = record {
  text = h.text;
  is_text = elim h.is_text [ inl part ↦ inl part | inr whole ↦ inr (too h.text whole) ];
  taken = h.taken;
}
stopped-as IsPartText IsWhole IsOther before after NoMemory too h = h

-- what holds of a text holds of one that is made and is the same
pub made-as : {T E : Type 0} (items : T → List ℕ) (made : Result T E) (text wanted : List ℕ) (Holds : List ℕ → Type 0) → IfOk made (λ t. items t ≡ text) → text ≡ wanted → Holds wanted
    → IfOk made (λ t. Holds (items t))
made-as items (Ok t) text wanted Holds is same holds = subst Holds (sym (is ∙ same)) holds
made-as items (Err e) text wanted Holds is same holds = tt
