-- What is not read leaves what it is a part of unread.
use Rattle.std.proofs.Common.{◌≡◌, ℕ, List, ◌∷◌, Result, Err, sym, subst}
use Rattle.mari_lines.specs.declared.fault.FormFault.{FormFault}
use Rattle.mari_lines.specs.declared.fault.FormFault.TheVariants as form_fault
use Rattle.mari_lines.specs.Reading.{Reads, ReadsFirst}

-- a part that each whole has
pub part_unread : {X Y T U : Type 0} (R : X → Type 0) (f : X → T) (t : T) (S : Y → Type 0) (g : Y → U) (u : U) (e : FormFault)
    → Reads R f t (Err e) → ((y : Y) → S y → g y ≡ u → (x : X) × R x × (f x ≡ t)) → Reads S g u (Err e)
part_unread R f t S g u form_fault.Formless none part = λ y r w. let x = part y r w in none x.0 x.1 x.2
part_unread R f t S g u form_fault.Memory none part = tt

-- the same where the fault is handed on
pub handed_on : {X Y T U : Type 0} (R : X → Type 0) (f : X → T) (t : T) (S : Y → Type 0) (g : Y → U) (u : U) (e : FormFault) (result : Result Y FormFault)
    → (x : FormFault) × (result ≡ Err x) × (x ≡ e) → Reads R f t (Err e) → ((y : Y) → S y → g y ≡ u → (x : X) × R x × (f x ≡ t)) → Reads S g u result
handed_on R f t S g u e result is none part =
    subst (λ r. Reads S g u r) (sym is.1) (subst (λ x. Reads S g u (Err x)) (sym is.2) (part_unread R f t S g u e none part))

-- a word that no whole has there
pub word_unread : {X Y T : Type 0} (R : X → Type 0) (f : X → List ℕ) (ws left : List (List ℕ)) (S : Y → Type 0) (g : Y → T) (u : T) (e : FormFault) (result : Result Y FormFault)
    → (x : FormFault) × (result ≡ Err x) × (x ≡ e) → ReadsFirst R f ws left (Err e)
    → ((y : Y) → S y → g y ≡ u → (x : X) × (others : List (List ℕ)) × R x × (ws ≡ f x ∷ others)) → Reads S g u result
word_unread R f ws left S g u e result is none part =
    subst (λ r. Reads S g u r) (sym is.1) (subst (λ x. Reads S g u (Err x)) (sym is.2) (by_fault e none))
  where
    by_fault : (e : FormFault) → ReadsFirst R f ws left (Err e) → Reads S g u (Err e)
    by_fault form_fault.Formless none = λ y r w. let x = part y r w in none x.0 x.1 x.2 x.3
    by_fault form_fault.Memory none = tt
