-- Two equal indivisible bids of 30 MW at 30.00, a bid of up to 100 MW at 50.00, and a demand of 30 MW: opening either
-- bid is optimal, and the later one is published.
use Rattle.std.proofs.Common.{◌≡◌, Bool, true, false, ℕ, zero, suc, ◌<◌, ◌≤◌, pos, List, [], ◌∷◌, Some, arith, refl}
use Rattle.std.proofs.lemmas.Int.{ints, clamps}
use Rattle.mari_units.specs.declared.Cents.{Cents}
use Rattle.mari_market.specs.declared.activation.Activation.{Activation}
use Rattle.mari_market.specs.declared.certificate.Leaf.TheVariants.{Bound}
use Rattle.mari_market.specs.declared.certificate.TreeItem.{TreeItem}
use Rattle.mari_market.specs.declared.certificate.TreeItem.TheVariants.{Branch, Leaf}
use Rattle.mari_market.specs.declared.clearing.Cleared.TheVariants.{Published}
use Rattle.mari_market.specs.declared.market.Market.{Market}
use Rattle.mari_market.specs.declared.market.Side.TheVariants.{Inject, Withdraw}
use Rattle.mari_market.specs.Activation.{is_open}
use Rattle.mari_market.specs.Clearing.{Clears}
use Rattle.mari_market.specs.First.{ComesBefore, IsFirst}
use Rattle.mari_market.specs.Gates.{group_of, parent_of, KeepsGateRules}
use Rattle.mari_market.specs.Market.{IsValid, IsValidOrder, IsValidGate}
use Rattle.mari_market.specs.Optimal.{IsAdmissible, IsOptimal}
use Rattle.mari_market.specs.Price.{ArePrices, IsPrice}
use Rattle.mari_market.specs.Tree.{TreeHoldsFor}
use Rattle.mari_market.proofs.Examples.{all_of, cents, gated, is_price, lone, one_balance, one_zone, plain, valid_gated, valid_plain}
use Rattle.mari_market.proofs.Search.{optimal_by_tree}
use Rattle.mari_market.proofs.Ties.{before_both, before_here, first_by_tree, not_before_itself, tree_holds_plain}
use Rattle.std.proofs.lemmas.List.Elements.{All-nil}

abbrev pub market : Market
market = one_zone (gated 0 Inject 3000 30 30 0 ∷ gated 0 Inject 3000 30 30 1 ∷ plain 0 Inject 5000 100 ∷ plain 0 Withdraw 9999900 30 ∷ []) (lone ∷ lone ∷ [])

-- ---- the market is valid

no_parent : (g h : ℕ) → parent_of (lone ∷ lone ∷ []) g ≡ Some h → ⊥
no_parent g h p = grind arith

no_group : (g k : ℕ) → group_of (lone ∷ lone ∷ []) g ≡ Some k → ⊥
no_group g k e = grind arith

two_gates : (opens : ℕ → Bool) → KeepsGateRules (lone ∷ lone ∷ []) opens
two_gates opens = record { parents = λ g h e p. absurd (no_parent g h p); groups = λ g h k e o in_g in_h. absurd (no_group g k in_g) }

gates_valid : (g : ℕ) → g < 2 → IsValidGate market g
gates_valid zero l = record { parent = λ h p. absurd (no_parent 0 h p); used = (0, gated 0 Inject 3000 30 30 0, omega arith, refl, refl) }
gates_valid (suc zero) l = record { parent = λ h p. absurd (no_parent 1 h p); used = (1, gated 0 Inject 3000 30 30 1, omega arith, refl, refl) }
gates_valid (suc (suc g)) l = absurd (omega arith)

pub valid : IsValid market
valid = record {
  zones = (omega arith, omega arith);
  few_borders = omega arith;
  few_orders = omega arith;
  few_gates = omega arith;
  borders = All-nil _;
  orders = all_of (IsValidOrder 1 2) market.orders (
    valid_gated 1 2 0 Inject 3000 30 30 0 (omega arith) (omega arith) (omega arith) (omega arith) (omega arith) (omega arith),
    (
      valid_gated 1 2 0 Inject 3000 30 30 1 (omega arith) (omega arith) (omega arith) (omega arith) (omega arith) (omega arith),
      (valid_plain 1 2 0 Inject 5000 100 (omega arith) (omega arith) (omega arith), (valid_plain 1 2 0 Withdraw 9999900 30 (omega arith) (omega arith) (omega arith), tt)),
    ),
  );
  gates = gates_valid;
  reference = is_price 4000 (omega arith);
}

-- ---- either bid is admissible

abbrev pub first_bid : Activation
first_bid = record { mw = 30 ∷ 0 ∷ 0 ∷ 30 ∷ []; flow = [] }

abbrev pub second_bid : Activation
second_bid = record { mw = 0 ∷ 30 ∷ 0 ∷ 30 ∷ []; flow = [] }

abbrev at : ℕ → List Cents
at c = cents (pos c) ∷ []

priced : (c : ℕ) → c ≤ 9999900 → ArePrices market (at c)
priced c l = record { one_each = refl; capped = all_of (λ (p : Cents). IsPrice p.0) (at c) (is_price c l, tt) }

pub first_admissible : IsAdmissible market first_bid
first_admissible = record {
  feasible = record {
    orders = (
      record { least = omega arith; most = omega arith },
      (record { least = omega arith; most = omega arith }, (record { least = omega arith; most = omega arith }, (record { least = omega arith; most = omega arith }, tt))),
    );
    gates = two_gates (is_open market first_bid);
    borders = tt;
    balance = one_balance market first_bid refl refl;
  };
  consistent = (
    at 4000,
    record {
      prices = priced 4000 (omega arith);
      orders = (
        record { lower = λ l. omega (arith, ints); upper = λ l. absurd (omega arith) },
        (
          record { lower = λ l. absurd l; upper = λ l. absurd l },
          (record { lower = λ l. absurd (omega arith); upper = λ l. omega (arith, ints) }, (record { lower = λ l. absurd (omega arith); upper = λ l. omega (arith, ints) }, tt)),
        ),
      );
      borders = tt;
    },
  );
}

pub second_admissible : IsAdmissible market second_bid
second_admissible = record {
  feasible = record {
    orders = (
      record { least = omega arith; most = omega arith },
      (record { least = omega arith; most = omega arith }, (record { least = omega arith; most = omega arith }, (record { least = omega arith; most = omega arith }, tt))),
    );
    gates = two_gates (is_open market second_bid);
    borders = tt;
    balance = one_balance market second_bid refl refl;
  };
  consistent = (
    at 4000,
    record {
      prices = priced 4000 (omega arith);
      orders = (
        record { lower = λ l. absurd l; upper = λ l. absurd l },
        (
          record { lower = λ l. omega (arith, ints); upper = λ l. absurd (omega arith) },
          (record { lower = λ l. absurd (omega arith); upper = λ l. omega (arith, ints) }, (record { lower = λ l. absurd (omega arith); upper = λ l. omega (arith, ints) }, tt)),
        ),
      );
      borders = tt;
    },
  );
}

-- ---- the tree: 50.00 where both are closed, and 30.00 where the second or the first is open

abbrev pub tree : List TreeItem
tree = Branch ∷ Branch ∷ Leaf (Bound (record { cents = at 5000 })) ∷ Leaf (Bound (record { cents = at 3000 })) ∷ Leaf (Bound (record { cents = at 3000 })) ∷ []

opened_is_late : ComesBefore (true ∷ []) (false ∷ true ∷ []) → ⊥
opened_is_late e = not_before_itself (true ∷ []) (before_both (true ∷ []) (false ∷ true ∷ []) (true ∷ []) e (before_here (true ∷ []) []))

-- with both closed the welfare is less, so the early leaf holds at the welfare less 1
pub tree_holds : TreeHoldsFor market (pos 299907000) (false ∷ true ∷ []) tree
tree_holds = (
  omega arith,
  (
    omega arith,
    (
      record {
        holds = record { prices = priced 5000 (omega arith); value = omega (arith, ints, clamps) };
        early = λ e. record { prices = priced 5000 (omega arith); value = omega (arith, ints, clamps) };
      },
      (
        record { holds = record { prices = priced 3000 (omega arith); value = omega (arith, ints, clamps) }; early = λ e. absurd (not_before_itself (false ∷ true ∷ []) e) },
        (record { holds = record { prices = priced 3000 (omega arith); value = omega (arith, ints, clamps) }; early = λ e. absurd (opened_is_late e) }, tt),
      ),
    ),
  ),
)

-- the second bid is published
pub clears : Clears market 5 (Published (record { activation = second_bid; welfare = 299907000; tree = tree }))
clears = record { first = first_by_tree market second_bid tree valid second_admissible tree_holds; welfare = refl; tree = tree_holds; within_budget = omega arith }

-- the first one is optimal too, and isn't published
pub first_optimal : IsOptimal market first_bid
first_optimal = optimal_by_tree market first_bid tree valid first_admissible (tree_holds_plain market (pos 299907000) (false ∷ true ∷ []) tree tree_holds)

pub first_not_published : IsFirst market first_bid → ⊥
first_not_published h = h.none_before second_bid clears.first.optimal (before_here (true ∷ []) (false ∷ []))
