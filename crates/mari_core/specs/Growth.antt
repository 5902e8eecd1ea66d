-- How a part of the search tree grows, node by node, whoever works on it.
use Rattle.std.specs.Prelude.{◌≡◌, ℕ, ◌+◌, ◌<◌, ◌≤◌, ◌==◌, Bool, true, false, if◌then◌else◌, nat_le, ℤ, pos, ◌≤ℤ◌, ◌<ℤ◌, List, [], ◌∷◌, ◌++◌, length, map, Option, Some, None, slice_get, MatchOption, Result, Ok, Err, ⊤, ◌⊎◌, All}
use Rattle.mari_market.specs.declared.market.Market.{Market}
use Rattle.mari_market.specs.declared.certificate.Leaf.{Leaf}
use Rattle.mari_market.specs.declared.certificate.Leaf.TheVariants.{Bound, Cut, Conflict}
use Rattle.mari_market.specs.declared.certificate.Conflict.{Conflict as ConflictRecord}
use Rattle.mari_market.specs.declared.finding.Relaxed.{Relaxed as RelaxedRecord}
use Rattle.mari_market.specs.declared.finding.Finding.{Finding}
use Rattle.mari_market.specs.declared.finding.Finding.TheVariants.{Empty, Relaxed}
use Rattle.mari_market.specs.Market.{IsValid}
use Rattle.mari_market.specs.Prefix.{children}
use Rattle.mari_market.specs.Relaxation.{IsRelaxedWelfare, IsClosedWelfare}
use Rattle.mari_market.specs.SearchTree.{AreNodes}
use Rattle.mari_market.specs.Finding.{IsFinding}
use Rattle.mari_market.specs.Tree.{LeafHolds}
use Rattle.mari_core.specs.declared.node.NodeState.{NodeState}
use Rattle.mari_core.specs.declared.node.NodeState.TheVariants.{Untaken, Taken, Branched, Closed}
use Rattle.mari_core.specs.declared.journal.JournalEntry.{JournalEntry}
use Rattle.mari_core.specs.declared.journal.JournalEntry.TheVariants as journal
use Rattle.mari_core.specs.declared.event.StepFault.{StepFault}
use Rattle.mari_core.specs.declared.event.StepFault.TheVariants.{NoNode, NotUntaken, NotTaken, Memory}
use Rattle.mari_core.specs.Nodes.{TreeNode, new_node, in_state, changed, words_of, word_at, state_at, child_numbers, branch_of}
use Rattle.mari_core.specs.Preorder.{HasPreorder}
use Rattle.mari_market.specs.Clearing.{IsBudget, IsCrowdedOut}

-- ---- what grows

-- a part of a market's search tree: the nodes in the order in which they were made, at most the budget, and a mark that
-- a node could not branch within it
pub record Grown : Type 0 where
  pub market : Market
  pub budget : ℕ
  pub nodes : List TreeNode
  pub full : Bool

-- at the start the empty word waits
abbrev pub seed : Market → ℕ → Grown
seed m budget = record { market = m; budget = budget; nodes = new_node [] ∷ []; full = false }

-- an entry of a tree's journal: by which actor what was done to which node, and at which cutoff
pub data Entry : Type 0 where
  Take : (actor node : ℕ) → Entry
  Close : (actor node : ℕ) (leaf : Leaf) (cutoff : ℕ) → Entry
  Branch : (actor node cutoff : ℕ) → Entry
  Full : (actor node cutoff : ℕ) → Entry
  GiveBack : (actor node : ℕ) → Entry

-- the nodes with one of them in another state
abbrev pub with_state : NodeState → List TreeNode → ℕ → List TreeNode
with_state state nodes x = changed (in_state state) nodes x

-- the words of the children of a node
abbrev pub children_at : Grown → ℕ → List (List Bool)
children_at g x = children g.market.gates (word_at g.nodes x)

-- the node is branched, and its children are made and wait
abbrev pub branched : Grown → ℕ → List TreeNode
branched g x = with_state (branch_of (length g.nodes) (children_at g x)) g.nodes x ++ map new_node (children_at g x)

-- what an entry changes; all else stays
abbrev pub grown : Grown → Entry → Grown
grown g (Take k x) = record g { nodes = with_state (Taken k) g.nodes x }
grown g (Close k x leaf cutoff) = record g { nodes = with_state (Closed leaf cutoff) g.nodes x }
grown g (Branch k x cutoff) = record g { nodes = branched g x }
grown g (Full k x cutoff) = record g { nodes = with_state Untaken g.nodes x; full = true }
grown g (GiveBack k x) = record g { nodes = with_state Untaken g.nodes x }

-- ---- when an entry is allowed

-- a cutoff is at least the closed welfare
pub record IsCutoff (m : Market) (cutoff : ℕ) : Type 0 where
  pub closed : ℤ
  pub is_closed : IsClosedWelfare m closed
  pub above : closed ≤ℤ pos cutoff

-- the node is taken by the actor, and the leaf holds for it at the cutoff
pub record MayClose (g : Grown) (k x : ℕ) (leaf : Leaf) (cutoff : ℕ) : Type 0 where
  pub taken : state_at g.nodes x ≡ Some (Taken k)
  pub holds : LeafHolds g.market (pos cutoff) (word_at g.nodes x) leaf
  pub cutoff_is : IsCutoff g.market cutoff

-- the relaxed welfare of the word is greater than the cutoff
pub record RelaxedExceeds (m : Market) (word : List Bool) (cutoff : ℕ) : Type 0 where
  pub relaxed : ℤ
  pub is_relaxed : IsRelaxedWelfare m word relaxed
  pub above : pos cutoff <ℤ relaxed

-- the node is taken by the actor and leaves a gate to decide, and its relaxed welfare is greater than the cutoff
pub record MayBranch (g : Grown) (k x cutoff : ℕ) : Type 0 where
  pub taken : state_at g.nodes x ≡ Some (Taken k)
  pub undecided : length (word_at g.nodes x) < length g.market.gates
  pub exceeds : RelaxedExceeds g.market (word_at g.nodes x) cutoff
  pub cutoff_is : IsCutoff g.market cutoff

-- when an entry is allowed: a branch where the children fit the budget, and the mark where they don't
abbrev pub IsAllowed : Grown → Entry → Type 0
IsAllowed g (Take k x) = state_at g.nodes x ≡ Some Untaken
IsAllowed g (Close k x leaf cutoff) = MayClose g k x leaf cutoff
IsAllowed g (Branch k x cutoff) = MayBranch g k x cutoff × (length g.nodes + length (children_at g x) ≤ g.budget)
IsAllowed g (Full k x cutoff) = MayBranch g k x cutoff × (g.budget < length g.nodes + length (children_at g x))
IsAllowed g (GiveBack k x) = state_at g.nodes x ≡ Some (Taken k)

-- ---- a list of entries, and the journal of a tree

-- the tree after these entries
abbrev pub grown_by : Grown → List Entry → Grown
grown_by g [] = g
grown_by g (e ∷ es) = grown_by (grown g e) es

-- each entry is allowed where those before it lead
abbrev pub AreAllowed : Grown → List Entry → Type 0
AreAllowed g [] = ⊤
AreAllowed g (e ∷ es) = IsAllowed g e × AreAllowed (grown g e) es

-- an entry as the journal has it, without the certificate of a closed node, which stands in the tree
abbrev pub in_journal : Entry → JournalEntry
in_journal (Take k x) = journal.Take k x
in_journal (Close k x leaf cutoff) = journal.Close k x cutoff
in_journal (Branch k x cutoff) = journal.Branch k x cutoff
in_journal (Full k x cutoff) = journal.Full k x cutoff
in_journal (GiveBack k x) = journal.GiveBack k x

-- the cutoff of an entry, if it has one, is at most w
abbrev pub IsEntryCutAt : ℕ → Entry → Type 0
IsEntryCutAt w (Take k x) = ⊤
IsEntryCutAt w (Close k x leaf cutoff) = cutoff ≤ w
IsEntryCutAt w (Branch k x cutoff) = cutoff ≤ w
IsEntryCutAt w (Full k x cutoff) = cutoff ≤ w
IsEntryCutAt w (GiveBack k x) = ⊤

-- the journal's entries, with the certificates of closed nodes, are allowed one after the other, at cutoffs of at most
-- w, and lead from the start to the tree
pub record JournalLeadsTo (journal : List JournalEntry) (w : ℕ) (g : Grown) : Type 0 where
  pub entries : List Entry
  pub kept : map in_journal entries ≡ journal
  pub allowed : AreAllowed (seed g.market g.budget) entries
  pub cut : All (IsEntryCutAt w) entries
  pub leads : grown_by (seed g.market g.budget) entries ≡ g

-- ---- what is settled of a node by a finding

-- the certificate of a relaxed optimum at a cutoff: its conflict, or else its potentials where the bound is low enough
abbrev pub closing_relaxed : ℕ → RelaxedRecord → Option ConflictRecord → Option Leaf
closing_relaxed cutoff r (Some conflict) = Some (Conflict conflict)
closing_relaxed cutoff r None = if nat_le r.bound cutoff then Some (Bound r.potentials) else None

-- the certificate by which a finding closes its node at a cutoff, if it does
abbrev pub closing_leaf : ℕ → Finding → Option Leaf
closing_leaf cutoff (Empty cut) = Some (Cut cut)
closing_leaf cutoff (Relaxed r) = closing_relaxed cutoff r r.conflict

-- the node is closed by the certificate; or else branches, where its children fit the budget; or else is marked
abbrev pub settling_by : Grown → ℕ → ℕ → ℕ → Option Leaf → Entry
settling_by g k x cutoff (Some leaf) = Close k x leaf cutoff
settling_by g k x cutoff None = if nat_le (length g.nodes + length (children_at g x)) g.budget then Branch k x cutoff else Full k x cutoff

-- the entry by which an actor settles a node with a finding, at a cutoff
abbrev pub settling : Grown → ℕ → ℕ → ℕ → Finding → Entry
settling g k x cutoff finding = settling_by g k x cutoff (closing_leaf cutoff finding)

-- at a word that decides every gate, a finding without a conflict has a bound that the cutoff reaches
abbrev pub IsReached : Market → List Bool → ℕ → Finding → Type 0
IsReached m word cutoff (Empty cut) = ⊤
IsReached m word cutoff (Relaxed r) = length word ≡ length m.gates → r.conflict ≡ None → r.bound ≤ cutoff

-- what a node may be settled with: a finding for its word, which the cutoff reaches where every gate is decided
pub record MaySettle (m : Market) (cutoff : ℕ) (finding : Finding) (n : TreeNode) : Type 0 where
  pub finding_is : IsFinding m n.word finding
  pub reached : IsReached m n.word cutoff finding

-- ---- why a node isn't taken, settled or given back

-- why a node in this state can't be taken, if it can't
abbrev pub take_refused : Option NodeState → Option StepFault
take_refused None = Some NoNode
take_refused (Some Untaken) = None
take_refused (Some (Taken k)) = Some NotUntaken
take_refused (Some (Branched closed opened)) = Some NotUntaken
take_refused (Some (Closed leaf cutoff)) = Some NotUntaken

-- why an actor can't settle or give back a node in this state, if it can't
abbrev pub return_refused : ℕ → Option NodeState → Option StepFault
return_refused k None = Some NoNode
return_refused k (Some Untaken) = Some NotTaken
return_refused k (Some (Taken j)) = if j == k then None else Some NotTaken
return_refused k (Some (Branched closed opened)) = Some NotTaken
return_refused k (Some (Closed leaf cutoff)) = Some NotTaken

-- ---- what every growth keeps

-- a branched node leaves a gate to decide, and the nodes that it names are its children, closed first
abbrev pub HasChildren : Market → List (List Bool) → List Bool → NodeState → Type 0
HasChildren m words word Untaken = ⊤
HasChildren m words word (Taken k) = ⊤
HasChildren m words word (Branched closed opened) =
    (length word < length m.gates) × (map (λ x. slice_get words x) (child_numbers (Branched closed opened)) ≡ map (λ w. Some w) (children m.gates word))
HasChildren m words word (Closed leaf cutoff) = ⊤

-- whether the node is branched
abbrev pub is_branched : NodeState → Bool
is_branched Untaken = false
is_branched (Taken k) = false
is_branched (Branched closed opened) = true
is_branched (Closed leaf cutoff) = false

-- a node that is the word's parent, and branched
pub record HasParent (nodes : List TreeNode) (word : List Bool) : Type 0 where
  pub number : ℕ
  pub node : TreeNode
  pub last : Bool
  pub there : slice_get nodes number ≡ Some node
  pub child : word ≡ node.word ++ last ∷ []
  pub branched_is : is_branched node.state ≡ true

-- a closed node's leaf holds at its cutoff
abbrev pub HoldsAtCutoff : Market → List Bool → NodeState → Type 0
HoldsAtCutoff m word Untaken = ⊤
HoldsAtCutoff m word (Taken k) = ⊤
HoldsAtCutoff m word (Branched closed opened) = ⊤
HoldsAtCutoff m word (Closed leaf cutoff) = LeafHolds m (pos cutoff) word leaf

-- a node without children that could branch, but for the budget: with its children the nodes are more than that
pub record IsCrowded (g : Grown) : Type 0 where
  pub number : ℕ
  pub node : TreeNode
  pub there : slice_get g.nodes number ≡ Some node
  pub leaf : is_branched node.state ≡ false
  pub crowded : IsCrowdedOut g.market g.budget (length g.nodes) node.word

-- what every entry keeps: the nodes are distinct nodes of the search tree, at most as many as the budget; the first is
-- the empty word; the children of a node are nodes exactly where it is branched; closed leaves hold at their cutoffs;
-- and where the mark is on, some leaf could branch but for the budget
pub record IsGrowth (g : Grown) : Type 0 where
  pub valid : IsValid g.market
  pub budget_is : IsBudget g.budget
  pub nodes_are : AreNodes g.market (words_of g.nodes)
  pub root : slice_get (words_of g.nodes) 0 ≡ Some []
  pub within_budget : length g.nodes ≤ g.budget
  pub have_children : All (λ (n : TreeNode). HasChildren g.market (words_of g.nodes) n.word n.state) g.nodes
  pub have_parents : All (λ (n : TreeNode). (n.word ≡ []) ⊎ HasParent g.nodes n.word) g.nodes
  pub hold : All (λ (n : TreeNode). HoldsAtCutoff g.market n.word n.state) g.nodes
  pub preorder : HasPreorder g.nodes
  pub crowded : g.full ≡ true → IsCrowded g

-- the cutoff of a closed node is at most w
abbrev pub IsCutAt : ℕ → NodeState → Type 0
IsCutAt w Untaken = ⊤
IsCutAt w (Taken k) = ⊤
IsCutAt w (Branched closed opened) = ⊤
IsCutAt w (Closed leaf cutoff) = cutoff ≤ w

-- every cutoff at which a node was closed is at most w
abbrev pub AreCutAt : ℕ → List TreeNode → Type 0
AreCutAt w nodes = All (λ (n : TreeNode). IsCutAt w n.state) nodes

-- ---- which node is taken next

-- no node with a smaller number waits, and the node of this number does, if it is there
pub record IsNext (nodes : List TreeNode) (x : ℕ) : Type 0 where
  pub within : x ≤ length nodes
  pub none_before : (y : ℕ) → y < x → state_at nodes y ≡ Some Untaken → ⊥
  pub waits : x < length nodes → state_at nodes x ≡ Some Untaken

-- the node waits, and none with a smaller number does
pub record IsLeastUntaken (nodes : List TreeNode) (x : ℕ) : Type 0 where
  pub waits : state_at nodes x ≡ Some Untaken
  pub none_before : (y : ℕ) → y < x → state_at nodes y ≡ Some Untaken → ⊥

-- no node waits
abbrev pub NoneWaits : List TreeNode → Type 0
NoneWaits nodes = (y : ℕ) → state_at nodes y ≡ Some Untaken → ⊥

-- some actor may branch the node at some cutoff
pub record CanBranch (g : Grown) (x : ℕ) : Type 0 where
  pub actor : ℕ
  pub cutoff : ℕ
  pub may : MayBranch g actor x cutoff

-- the answer is the refusal, exactly where there is one
abbrev pub IsRefusal : {X : Type 0} → Option StepFault → Result X StepFault → Type 0
IsRefusal refused (Ok x) = refused ≡ None
IsRefusal refused (Err fault) = refused ≡ Some fault

-- some actor may close the node by the leaf at the cutoff
pub record CanClose (g : Grown) (x : ℕ) (leaf : Leaf) (cutoff : ℕ) : Type 0 where
  pub actor : ℕ
  pub may : MayClose g actor x leaf cutoff
