-- The block that is put together is that of a published run.
use Rattle.std.proofs.Common.{Option, ◌≡◌, ◌∙◌, ℕ, ◌+◌, List, length, map, refl, sym, ap, subst, arith}
use Rattle.std.proofs.lemmas.List.{length-drop, take-append-drop}
use Rattle.mari_units.specs.declared.numbers.Cents.{Cents}
use Rattle.mari_market.specs.declared.clearing.Clearing.{Clearing}
use Rattle.mari_market.specs.Area.{AreAreas}
use Rattle.mari_market.specs.Clearing.{IsClearing}
use Rattle.mari_market.specs.Interval.{AreLeastPrices, AreGreatestPrices, ArePublishedPrices}
use Rattle.mari_market.specs.Optimal.{IsConsistent}
use Rattle.mari_publish.specs.declared.publication.FullBlock.{FullBlock}
use Rattle.mari_remain.specs.declared.books.Books.{Books}
use Rattle.mari_remain.specs.declared.market.RunMarket.{RunMarket}
use Rattle.mari_market.specs.declared.activation.Prices.{Prices}
use Rattle.mari_settle.specs.Ledger.{operator_lines, provider_amounts, rents_of, scheduled_or}
use Rattle.mari_day.specs.declared.block.Priced.{Priced}
use Rattle.mari_progress.specs.declared.progress.SettledRun.{SettledRun}
use Rattle.mari_progress.specs.Runs.{IsRunOf}
use Rattle.mari_day.specs.Assembled.{HasShapes, IsAssembled, IsPriced}
use Rattle.mari_progress.specs.Money.{amount_line, amounts_of, money_lines_of, providers_among}
use Rattle.mari_progress.specs.Reported.{activation_of, prices_of}
use Rattle.mari_day.specs.Published.{IsPublishedOf, IsReportedOf}
use Rattle.mari_day.specs.Run.{clearing_of}

along2 : {A B : Type 0} (P : A → B → Type 0) (a a' : A) (b b' : B) → a' ≡ a → b' ≡ b → P a b → P a' b'
along2 P a a' b b' e f h = let Q : _ → Type 0 = λ x. P x b' in subst Q (sym e) (subst (P a) (sym f) h)

same2 : {A B C : Type 0} (f : A → B → C) (a a' : A) (b b' : B) → a' ≡ a → b' ≡ b → f a' b' ≡ f a b
same2 f a a' b b' e g = ap (λ x. f x b') e ∙ ap (f a) g

module _ (books : Books) (budget run : ℕ) (made : RunMarket) (also : Option (List Cents)) (clearing : Clearing) (priced : Priced) (b : FullBlock)
    (is : IsAssembled books run made.bids clearing priced b) where
  -- the block states the activation that was cleared
  pub same_activation : activation_of b ≡ clearing.activation
  same_activation = rw (is.orders.mw, is.orders.demands, is.flow, take-append-drop) refl

  pub same_clearing : clearing_of b ≡ clearing
  same_clearing = rw (is.orders.mw, is.orders.demands, is.flow, take-append-drop, is.welfare, is.tree) refl

  -- the amounts of all providers are those of the block's activation at its prices
  pub same_amounts : IsPriced books made also clearing priced → priced.ledger.providers ≡ amounts_of books made also b
  same_amounts p =
      p.providers ∙ sym
      (same2 (λ x ps. provider_amounts books.bids made.bids x ps (scheduled_or ps also)) clearing.activation (activation_of b) priced.pricing.published.cents
      (prices_of b) same_activation is.zones.prices)

  pub reported : IsPriced books made also clearing priced → length clearing.activation.mw ≡ length made.bids + made.demands → IsReportedOf books run made also clearing b
  reported p long =
      let m = made.market in
      let a = clearing.activation in
      let ps = priced.pricing.published.cents in
      record {
        heading = is.heading;
        names = record {
          lines = is.names;
          demands = ap length is.orders.demands ∙ simp length-drop (omega (arith, long));
        };
        cleared = same_clearing;
        prices = record {
          published = along2 (ArePublishedPrices m) a (activation_of b) ps (prices_of b) same_activation is.zones.prices p.prices.published;
          consistent = along2 (IsConsistent m) a (activation_of b) ps (prices_of b) same_activation is.zones.prices p.prices.consistent;
          intervals = record {
            least = along2 (AreLeastPrices m) a (activation_of b) _ _ same_activation is.zones.least p.prices.intervals.least;
            greatest = along2 (AreGreatestPrices m) a (activation_of b) _ _ same_activation is.zones.greatest p.prices.intervals.greatest;
          };
          areas = along2 (AreAreas m) a (activation_of b) _ _ same_activation is.zones.areas p.prices.areas;
        };
        ledger = record {
          states = record {
            rents = is.ledger.rents ∙ p.rents ∙ sym (same2 (rents_of m) a (activation_of b) ps (prices_of b) same_activation is.zones.prices);
            operators = is.ledger.operators
                ∙ ap (money_lines_of books.zones.operators) (p.operators ∙ sym (same2 (operator_lines books.zones m) a (activation_of b) ps (prices_of b) same_activation is.zones.prices));
            providers = is.ledger.providers ∙ ap (λ amounts. map (amount_line books.bids.providers amounts) (providers_among books.bids.bids made.bids)) (same_amounts p);
          };
        };
      }

  pub published : IsClearing made.market budget clearing → IsPriced books made also clearing priced
      → length clearing.activation.mw ≡ length made.bids + made.demands → IsPublishedOf books budget run made also b
  published clears p long =
      let t = reported p long in
      record { heading = t.heading; names = t.names; clearing = subst (IsClearing made.market budget) (sym same_clearing) clears; prices = t.prices; ledger = t.ledger }

  -- what the block adds to its day
  pub run-of : (settled : SettledRun) → IsPriced books made also clearing priced
      → HasShapes books made.bids clearing priced → settled.made ≡ made → settled.activation ≡ clearing.activation
      → settled.prices ≡ priced.pricing.published
      → settled.ledger ≡ priced.ledger → IsRunOf books made also b settled
  run-of settled p shapes same of prices ledger = record {
    market = same;
    activation = of ∙ sym same_activation;
    prices = ap (λ (ps : Prices). ps.cents) prices ∙ sym is.zones.prices;
    operators = rw ledger is.ledger.operators;
    providers = rw ledger (same_amounts p);
    one_each = rw ledger shapes.operators;
    rents = rw ledger shapes.rents;
    balanced = rw ledger p.balanced;
  }
