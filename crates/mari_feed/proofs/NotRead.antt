-- What is not read leaves what it is a part of unread.
use Rattle.std.proofs.Common.{◌≡◌, ◌≢◌, ℕ, List, Result, Err, Some, None, sym, ap, subst, ◌∙◌, arith}
use Rattle.serde_json.specs.Data.{Data, Members, member, no_members, object}
use Rattle.serde_json.specs.Find.{as_object}
use Rattle.mari_feed.specs.declared.fault.FeedFault.{FeedFault}
use Rattle.mari_feed.specs.declared.fault.FeedFault.TheVariants as fault
use Rattle.mari_feed.specs.Reading.{Reads, ReadsMember}

-- ---- members that are known twice, as they were read and as those of a whole

pub begins : (u : Data) (ms ns : Members) → u ≡ object ms → object ns ≡ u → ms ≡ ns
begins u ms ns read whole = let same : object ms ≡ object ns = sym read ∙ sym whole in cc

pub after : (key : List ℕ) (d e : Data) (ms ns all : Members) → all ≡ member key d ms → all ≡ member key e ns → ms ≡ ns
after key d e ms ns all read whole = let same : member key d ms ≡ member key e ns = sym read ∙ whole in cc

-- the value of a member that is known twice
pub same_value : (key : List ℕ) (d e : Data) (ms ns all : Members) → all ≡ member key d ms → all ≡ member key e ns → d ≡ e
same_value key d e ms ns all read whole = let same : member key d ms ≡ member key e ns = sym read ∙ whole in cc

-- members that are read up to here go on
pub going_on : (key : List ℕ) (d : Data) (ms ns all : Members) → all ≡ member key d ms → ms ≡ ns → all ≡ member key d ns
going_on key d ms ns all read more = read ∙ ap (λ rest. member key d rest) more

-- ---- faults

-- a fault that is handed on
abbrev pub HandedOn : {Y : Type 0} → FeedFault → Result Y FeedFault → Type 0
HandedOn e result = (x : FeedFault) × (result ≡ Err x) × (x ≡ e)

-- a part that each whole has
pub part_unread : {X Y : Type 0} (R : X → Type 0) (f : X → Data) (t : Data) (S : Y → Type 0) (g : Y → Data) (u : Data) (e : FeedFault)
    → Reads R f t (Err e) → ((y : Y) → S y → g y ≡ u → (x : X) × R x × (f x ≡ t)) → Reads S g u (Err e)
part_unread R f t S g u e none part = grind arith

-- the same where the fault is handed on
pub handed_on : {X Y : Type 0} (R : X → Type 0) (f : X → Data) (t : Data) (S : Y → Type 0) (g : Y → Data) (u : Data) (e : FeedFault) (result : Result Y FeedFault)
    → HandedOn e result → Reads R f t (Err e) → ((y : Y) → S y → g y ≡ u → (x : X) × R x × (f x ≡ t)) → Reads S g u result
handed_on R f t S g u e result is none part =
    subst (λ r. Reads S g u r) (sym is.1) (subst (λ x. Reads S g u (Err x)) (sym is.2) (part_unread R f t S g u e none part))

-- a member that no whole has there
pub member_unread : {X Y : Type 0} (key : List ℕ) (R : X → Type 0) (f : X → Data) (ms left : Members) (S : Y → Type 0) (g : Y → Data) (u : Data) (e : FeedFault) (result : Result Y FeedFault)
    → HandedOn e result → ReadsMember key R f ms left (Err e)
    → ((y : Y) → S y → g y ≡ u → (x : X) × (others : Members) × R x × (ms ≡ member key (f x) others)) → Reads S g u result
member_unread key R f ms left S g u e result is none part = grind arith

-- a value that is no object, though each whole is one
pub no_object : {Y : Type 0} (S : Y → Type 0) (g : Y → Data) (u : Data) (e : FeedFault) (result : Result Y FeedFault)
    → HandedOn e result → (e ≡ fault.NotAPart) × (as_object u ≡ None) → ((y : Y) → (ms : Members) × (g y ≡ object ms)) → Reads S g u result
no_object S g u e result is none whole =
    subst (λ r. Reads S g u r) (sym is.1) (subst (λ x. Reads S g u (Err x)) (sym (is.2 ∙ none.0)) (λ y r w. never (whole y).0 (ap as_object (sym (whole y).1 ∙ w) ∙ none.1)))
  where
    never : (ms : Members) → Some ms ≡ None → ⊥
    never ms e = cc

-- a member too many
pub not_the_end : {Y : Type 0} (ms : Members) (S : Y → Type 0) (g : Y → Data) (u : Data) (e : FeedFault) (result : Result Y FeedFault)
    → HandedOn e result → (e ≡ fault.NotAPart) × (ms ≢ no_members) → ((y : Y) → S y → g y ≡ u → ms ≡ no_members) → Reads S g u result
not_the_end ms S g u e result is more whole =
    subst (λ r. Reads S g u r) (sym is.1) (subst (λ x. Reads S g u (Err x)) (sym (is.2 ∙ more.0)) (λ y r w. more.1 (whole y r w)))
