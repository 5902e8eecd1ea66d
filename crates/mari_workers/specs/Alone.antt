-- A search of one actor that takes nodes by their keys.
use Rattle.std.specs.Prelude.{◌≡◌, ℕ, Bool, List, Option, Some, None}
use Rattle.mari_market.specs.declared.market.Market.{Market}
use Rattle.mari_market.specs.declared.finding.Attained.{Attained}
use Rattle.mari_market.specs.declared.finding.Finding.{Finding}
use Rattle.mari_market.specs.declared.finding.Finding.TheVariants.{Empty, Relaxed}
use Rattle.mari_market.specs.Activation.{gate_word_of}
use Rattle.mari_market.specs.Finding.{IsFinding}
use Rattle.mari_market.specs.Relaxation.{all_closed}
use Rattle.mari_core.specs.declared.event.Event.TheVariants.{Offer, Take, Settle}
use Rattle.mari_core.specs.declared.node.NodeState.TheVariants.{Untaken}
use Rattle.mari_core.specs.Growth.{NoneWaits}
use Rattle.mari_core.specs.Machine.{Machine, after, KeepsFacts}
use Rattle.mari_core.specs.Nodes.{state_at}
use Rattle.mari_pool.specs.Pooled.{taken_among}
use Rattle.mari_pool.specs.Queued.{Queued, child_key, IsQueueOf}

-- a search of the market between two visits, with the queue of its nodes, none of which is taken; it began with an
-- activation that opens no gate
pub record IsUnderWay (m : Market) (s : Machine) (q : Queued) : Type 0 where
  pub market : s.tree.market ≡ m
  pub facts : KeepsFacts s
  pub queue : IsQueueOf s.tree.nodes q
  pub room : q.room ≡ s.tree.budget
  pub none_taken : taken_among s.tree.nodes ≡ 0
  pub from_closed : gate_word_of m s.first.activation ≡ all_closed m

-- a search in which no node waits and none is taken; it began with an activation that opens no gate
pub record IsFinished (s : Machine) : Type 0 where
  pub facts : KeepsFacts s
  pub none_waits : NoneWaits s.tree.nodes
  pub none_taken : taken_among s.tree.nodes ≡ 0
  pub from_closed : gate_word_of s.tree.market s.first.activation ≡ all_closed s.tree.market

-- a search of the market in which this node waits
pub record IsAtNode (m : Market) (s : Machine) (x : ℕ) : Type 0 where
  pub market : s.tree.market ≡ m
  pub facts : KeepsFacts s
  pub waits : state_at s.tree.nodes x ≡ Some Untaken

-- the activation that a finding has, if it has one
abbrev pub best_in : Finding → Option Attained
best_in (Empty cut) = None
best_in (Relaxed r) = r.best

-- the finding without that activation
abbrev pub without_best : Finding → Finding
without_best (Empty cut) = Empty cut
without_best (Relaxed r) = Relaxed (record r { best = None })

-- the search after the one actor's offer, if there is one
abbrev pub after_offer : Machine → Option Attained → Machine
after_offer s None = s
after_offer s (Some best) = after s (Offer 0 best)

-- the search after a node is taken, what is found there is offered, and the node is settled with it
abbrev pub visited : Machine → ℕ → Finding → Machine
visited s x finding = after (after_offer (after s (Take 0 x)) (best_in finding)) (Settle 0 x finding)

-- the search has visited the node of this number and word, with what may be found there, and this is the key of its
-- children
pub record IsVisited (m : Market) (old new : Machine) (x : ℕ) (word : List Bool) (key : ℕ) : Type 0 where
  pub finding : Finding
  pub is_finding : IsFinding m word finding
  pub change : new ≡ visited old x finding
  pub key_is : key ≡ child_key finding
