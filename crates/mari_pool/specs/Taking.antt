-- What a worker gets that wants a node, and why there is no tree yet.
use Rattle.std.specs.Prelude.{◌≡◌, ℕ, ◌<◌, true, false, List, Some, length, slice_get, ⊤}
use Rattle.mari_market.specs.Prefix.{word_of}
use Rattle.mari_core.specs.Nodes.{TreeNode, words_of}
use Rattle.mari_core.specs.Preorder.{IsFirstOpen}
use Rattle.mari_pool.specs.declared.pool.PoolFault.{PoolFault}
use Rattle.mari_pool.specs.declared.pool.PoolFault.TheVariants.{NotClosed, Memory}
use Rattle.mari_core.specs.Growth.{NoneWaits}
use Rattle.mari_pool.specs.declared.name.SearchName.{Ghosts}
use Rattle.mari_pool.specs.declared.ticket.Ticket.{Ticket}
use Rattle.mari_pool.specs.declared.ticket.Took.{Took}
use Rattle.mari_pool.specs.declared.ticket.Took.TheVariants as took
use Rattle.mari_pool.specs.Queued.{IsFirstWaiting}
use Rattle.mari_pool.specs.Pooled.{Pooled, taking, taken_among}

-- why there is no tree yet; that memory ran out may always be answered
-- The pool's own fault and what it says, beside `FinishFault` and `IsOpenFault` of the search machine, of which callers
-- of the pool know nothing.
abbrev pub IsOpenAt : List TreeNode → PoolFault → Type 0
IsOpenAt nodes (NotClosed x) = IsFirstOpen nodes x
IsOpenAt nodes Memory = ⊤

-- no node waits, and n nodes are taken; nothing changes
pub record IsIdle (p q : Pooled) (n : ℕ) : Type 0 where
  pub not_full : p.tree.full ≡ false
  pub none_waits : NoneWaits p.tree.nodes
  pub taken : taken_among p.tree.nodes ≡ n
  pub same : q ≡ p

module _ {N : Type 0} {g : Ghosts N} where
  -- of the nodes that wait that of the greatest key, and of equal keys the one of the lowest number, is taken by the
  -- worker, at the turn that is the place of the entry
  pub record IsTaken (worker : ℕ) (p q : Pooled) (x : Ticket N g) : Type 0 where
    pub not_full : p.tree.full ≡ false
    pub waits : IsFirstWaiting p.keys p.tree.nodes x.node
    pub worker_is : x.worker ≡ worker
    pub turn_is : x.turn ≡ length p.journal
    pub word_is : slice_get (words_of p.tree.nodes) x.node ≡ Some (word_of x.prefix)
    pub change : q ≡ taking p worker x.node

  -- what a worker gets, and the pool after it: a ticket, the number of nodes that others have taken, that nothing is left,
  -- or that the budget is spent
  abbrev pub Takes : ℕ → Pooled → Pooled → Took N g → Type 0
  Takes worker p q (took.Took x) = IsTaken worker p q x
  Takes worker p q (took.Idle n) = IsIdle p q n × (0 < n)
  Takes worker p q took.Finished = IsIdle p q 0
  Takes worker p q (took.Spent n) = (p.tree.full ≡ true) × (n ≡ length p.tree.nodes) × (q ≡ p)
