-- What a command asks for lies within its limits.
use Rattle.std.proofs.Common.{◌≡◌, ℕ, List, [], ◌∷◌, Option, Some, None, arith, refl, subst}
use Rattle.std.specs.Prelude.{◌≤◌, ◌&&◌, nat_le, Bool, true, false, if◌then◌else◌, option_and_then, ⊤}
use Rattle.std.proofs.lemmas.Bool.Decides.{nat_tests}
use Rattle.mari_units.specs.Numbers.{natural_of}
use Rattle.mari_words.specs.Asked.{Asked}
use Rattle.mari_words.specs.Asked.Asked.{Blocks, Clear, Check, Generate, Migrate, Feed, Split, Value}
use Rattle.mari_words.specs.Words.{Given, Verb, asked_for, command_at, command_of, folder_in, given_by, natural_in, number_or, part_named, verb_named}
use Rattle.mari_words.specs.Words.Verb.{Clears, Checks, Generates, Migrates, Feeds, Splits, Joins, Values}
use Rattle.mari_units.specs.declared.limits.TheConstants.{LAST_NUMBER, MOST_NODES, MOST_QUARTERS, MOST_RAISE, MOST_WORKERS}
use Rattle.mari_market.specs.Clearing.{IsBudget, IsWorkerCount}
use Rattle.mari_words.specs.declared.command.TheConstants.{USUAL_NODES, USUAL_WORKERS}

abbrev pub IsWithin : Asked → Type 0
IsWithin (Clear folder nodes workers) = IsBudget nodes × IsWorkerCount workers
IsWithin (Check folder) = ⊤
IsWithin (Generate number) = number ≤ LAST_NUMBER
IsWithin (Migrate folder part) = ⊤
IsWithin (Feed folder) = ⊤
IsWithin (Split folder nodes workers) = IsBudget nodes × IsWorkerCount workers
IsWithin (Value folder more) = (1 ≤ more) × (more ≤ MOST_RAISE)
IsWithin (Blocks folder first last nodes workers) = (first ≤ last) × (last ≤ MOST_QUARTERS) × IsBudget nodes × IsWorkerCount workers

-- what was there where a step after it gave something
pub record Step (A B : Type 0) (o : Option A) (f : A → Option B) (y : B) : Type 0 where
  pub x : A
  pub is : o ≡ Some x
  pub gives : f x ≡ Some y

step : {A B : Type 0} (o : Option A) (f : A → Option B) (y : B) → option_and_then f o ≡ Some y → Step A B o f y
step None f y e = absurd (cc)
step (Some x) f y e = record { x = x; is = refl; gives = e }

if-some : (b : Bool) (n m : ℕ) → (if b then Some n else None) ≡ Some m → (b ≡ true) × (n ≡ m)
if-some true n m e = (refl, (cc))
if-some false n m e = absurd (cc)

within-tests : (low high n : ℕ) → (nat_le low n && nat_le n high) ≡ true → (low ≤ n) × (n ≤ high)
within-tests low high n e = grind (arith, nat_tests, e)

number-within : (low high n : ℕ) (text : List ℕ) → natural_in low high text ≡ Some n → (low ≤ n) × (n ≤ high)
number-within low high n text e =
    let s = step (natural_of text) (λ n. if nat_le low n && nat_le n high then Some n else None) n e in
    let t = if-some (nat_le low s.x && nat_le s.x high) s.x n s.gives in
    let P : ℕ → Type 0 = λ k. (low ≤ k) × (k ≤ high) in
    subst P t.1 (within-tests low high s.x t.0)

usual-within : (usual low high n : ℕ) (text : Option (List ℕ)) → (low ≤ usual) × (usual ≤ high) → number_or usual low high text ≡ Some n → (low ≤ n) × (n ≤ high)
usual-within usual low high n None u e = let same : usual ≡ n = cc in let P : ℕ → Type 0 = λ k. (low ≤ k) × (k ≤ high) in subst P same u
usual-within usual low high n (Some text) u e = number-within low high n text e

same-within : (x y : Asked) → Some x ≡ Some y → IsWithin x → IsWithin y
same-within x y e w = let same : x ≡ y = cc in subst IsWithin same w

asked-within : (verb : Verb) (given : Given) (x : Asked) → asked_for verb given ≡ Some x → IsWithin x
asked-within Clears given x e =
    let a = step given.first _ x e in
    let b = step (folder_in a.x) _ x a.gives in
    let c = step (number_or USUAL_NODES 1 MOST_NODES given.nodes) _ x b.gives in
    let d = step (number_or USUAL_WORKERS 1 MOST_WORKERS given.workers) _ x c.gives in
    let nodes = usual-within USUAL_NODES 1 MOST_NODES c.x given.nodes (omega arith, omega arith) c.is in
    let workers = usual-within USUAL_WORKERS 1 MOST_WORKERS d.x given.workers (omega arith, omega arith) d.is in
    same-within (Clear b.x c.x d.x) x d.gives (nodes, workers)
asked-within Checks given x e =
    let a = step given.first _ x e in
    let b = step (folder_in a.x) _ x a.gives in
    same-within (Check b.x) x b.gives tt
asked-within Generates given x e =
    let a = step given.first _ x e in
    let b = step (natural_in 0 LAST_NUMBER a.x) _ x a.gives in
    same-within (Generate b.x) x b.gives (number-within 0 LAST_NUMBER b.x a.x b.is).1
asked-within Migrates given x e =
    let a = step given.first _ x e in
    let b = step (folder_in a.x) _ x a.gives in
    let c = step given.second _ x b.gives in
    let d = step (part_named c.x) _ x c.gives in
    same-within (Migrate b.x d.x) x d.gives tt
asked-within Feeds given x e =
    let a = step given.first _ x e in
    let b = step (folder_in a.x) _ x a.gives in
    same-within (Feed b.x) x b.gives tt
asked-within Splits given x e =
    let a = step given.first _ x e in
    let b = step (folder_in a.x) _ x a.gives in
    let c = step (number_or USUAL_NODES 1 MOST_NODES given.nodes) _ x b.gives in
    let d = step (number_or USUAL_WORKERS 1 MOST_WORKERS given.workers) _ x c.gives in
    let nodes = usual-within USUAL_NODES 1 MOST_NODES c.x given.nodes (omega arith, omega arith) c.is in
    let workers = usual-within USUAL_WORKERS 1 MOST_WORKERS d.x given.workers (omega arith, omega arith) d.is in
    same-within (Split b.x c.x d.x) x d.gives (nodes, workers)
asked-within Joins given x e =
    let a = step given.first _ x e in
    let b = step (folder_in a.x) _ x a.gives in
    let c = step given.second _ x b.gives in
    let d = step (natural_in 1 MOST_QUARTERS c.x) _ x c.gives in
    let f = step given.third _ x d.gives in
    let g = step (natural_in d.x MOST_QUARTERS f.x) _ x f.gives in
    let h = step (number_or USUAL_NODES 1 MOST_NODES given.nodes) _ x g.gives in
    let i = step (number_or USUAL_WORKERS 1 MOST_WORKERS given.workers) _ x h.gives in
    let last = number-within d.x MOST_QUARTERS g.x f.x g.is in
    let nodes = usual-within USUAL_NODES 1 MOST_NODES h.x given.nodes (omega arith, omega arith) h.is in
    let workers = usual-within USUAL_WORKERS 1 MOST_WORKERS i.x given.workers (omega arith, omega arith) i.is in
    same-within (Blocks b.x d.x g.x h.x i.x) x i.gives (last.0, last.1, nodes, workers)
asked-within Values given x e =
    let a = step given.first _ x e in
    let b = step (folder_in a.x) _ x a.gives in
    let c = step given.second _ x b.gives in
    let d = step (natural_in 1 MOST_RAISE c.x) _ x c.gives in
    same-within (Value b.x d.x) x d.gives (number-within 1 MOST_RAISE d.x c.x d.is)

pub within : (words : List (List ℕ)) (x : Asked) → command_at words ≡ Some x → IsWithin x
within [] x e = absurd (cc)
within (name ∷ words) x e =
    let v = step (verb_named name) (λ verb. command_of verb words) x e in
    let g = step (given_by v.x words) (asked_for v.x) x v.gives in
    asked-within v.x g.x x g.gives
