use Rattle.std.proofs.Common.{arith, ◌≡◌, ◌<◌, ◌≤◌, ℕ, length, Some, None, Option, below_more, List, Bool, refl, ap, inl, inr}
use Rattle.std.specs.Prelude.{slice_get, option_and_then}
use Rattle.std.proofs.lemmas.Bool.{cases_lt}
use Rattle.std.proofs.lemmas.Option.{slice_get_past}
use Rattle.mari_market.specs.declared.market.GateInfo.{GateInfo}
use Rattle.mari_market.specs.Gates.{KeepsGateRules}
use Rattle.mari_welfare.specs.Gates.{KeepsRulesAt}
use Rattle.mari_market.specs.Prefix.{opens_in}
use Rattle.mari_welfare.proofs.gates.keep_gate_rules.Goals as goal

past : (f : GateInfo → Option ℕ) (gates : List GateInfo) (g h : ℕ) → length gates ≤ g → option_and_then f (slice_get gates g) ≡ Some h → ⊥
past f gates g h l e = let none : option_and_then f (slice_get gates g) ≡ None = ap (option_and_then f) (slice_get_past gates g l) in cc

whole : (gates : List GateInfo) (opens : ℕ → Bool) (n : ℕ) → length gates ≤ n → ((g : ℕ) → g < n → KeepsRulesAt gates opens g) → KeepsGateRules gates opens
whole gates opens n l each = record {
  parents = λ g h o p. elim (cases_lt g n) [ inl i ↦ (each g i).parent o h p | inr i ↦ absurd (past (λ (info : GateInfo). info.parent) gates g h (omega arith) p) ];
  groups = λ g h k o p q r. elim (cases_lt g n) [ inl i ↦ (each g i).group o k q h p r | inr i ↦ absurd (past (λ (info : GateInfo). info.group) gates g k (omega arith) q) ];
}

pub loop-place-preserved : goal.loop-place-preserved
loop-place-preserved c = below_more (KeepsRulesAt c.args.gates.now (opens_in c.args.opened.now)) _ c.loop-place.invariant (c.keeps_rules_at.ensures.0 c.if-not-keeps_rules_at.false)

pub returns : goal.returns
returns c = (λ t. whole c.args.gates.now (opens_in c.args.opened.now) c.loop-place.place (omega arith) c.loop-place.invariant, λ h. refl)
