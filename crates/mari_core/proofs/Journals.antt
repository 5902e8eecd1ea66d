-- The journal of a tree: one entry more, and what it states of the tree's cutoffs.
use Rattle.std.proofs.Common.{◌≡◌, ℕ, ◌≤◌, List, [], ◌∷◌, ◌++◌, arith, refl, sym, ap, subst, ◌∙◌}
use Rattle.std.specs.List.{All}
use Rattle.std.proofs.lemmas.List.{map-append}
use Rattle.std.proofs.lemmas.List.Elements.{All-append, All-cons, All-nil, All-head, All-tail}
use Rattle.mari_market.specs.declared.market.Market.{Market}
use Rattle.mari_core.specs.declared.journal.JournalEntry.{JournalEntry}
use Rattle.mari_core.specs.Nodes.{TreeNode, new_node}
use Rattle.mari_core.specs.Growth.{Grown, Entry, seed, grown, grown_by, in_journal, AreAllowed, IsAllowed, IsEntryCutAt, IsCutAt, AreCutAt, JournalLeadsTo}
use Rattle.mari_core.proofs.Machines.{entry_cut, grown_market}

pub grown_budget : (g : Grown) (e : Entry) → (grown g e).budget ≡ g.budget
grown_budget g e = grind arith

pub grown_more : (g : Grown) (es : List Entry) (e : Entry) → grown_by g (es ++ e ∷ []) ≡ grown (grown_by g es) e
grown_more g [] e = refl
grown_more g (d ∷ es) e = grown_more (grown g d) es e

pub allowed_more : (g : Grown) (es : List Entry) (e : Entry) → AreAllowed g es → IsAllowed (grown_by g es) e → AreAllowed g (es ++ e ∷ [])
allowed_more g [] e a h = (h, tt)
allowed_more g (d ∷ es) e a h = (a.0, allowed_more (grown g d) es e a.1 h)

cut_above : (v w : ℕ) (e : Entry) → v ≤ w → IsEntryCutAt v e → IsEntryCutAt w e
cut_above v w e l h = grind arith

-- the same, where more is seen
pub leads_above : (j : List JournalEntry) (v w : ℕ) (g : Grown) → v ≤ w → JournalLeadsTo j v g → JournalLeadsTo j w g
leads_above j v w g l h = record {
  entries = h.entries;
  kept = h.kept;
  allowed = h.allowed;
  cut = λ k d within. cut_above v w _ l (h.cut k d within);
  leads = h.leads;
}

seed_same : (g h : Grown) → h.market ≡ g.market → h.budget ≡ g.budget → seed h.market h.budget ≡ seed g.market g.budget
seed_same g h m b = ap (λ (n : Market). seed n h.budget) m ∙ ap (λ (k : ℕ). seed g.market k) b

-- an allowed entry leads on
pub leads_on : (j : List JournalEntry) (w : ℕ) (g : Grown) (e : Entry) → JournalLeadsTo j w g → IsAllowed g e → IsEntryCutAt w e → JournalLeadsTo (j ++ in_journal e ∷ []) w (grown g e)
leads_on j w g e h may cut =
    let same : seed (grown g e).market (grown g e).budget ≡ seed g.market g.budget = seed_same g (grown g e) (grown_market g e) (grown_budget g e) in
    record {
      entries = h.entries ++ e ∷ [];
      kept = map-append in_journal h.entries (e ∷ []) ∙ ap (λ (es : List JournalEntry). es ++ in_journal e ∷ []) h.kept;
      allowed = subst (λ (s : Grown). AreAllowed s (h.entries ++ e ∷ [])) (sym same) (allowed_more _ h.entries e h.allowed (subst (λ (s : Grown). IsAllowed s e) (sym h.leads) may));
      cut = All-append (IsEntryCutAt w) h.entries (e ∷ []) h.cut (All-cons (IsEntryCutAt w) e [] cut (All-nil (IsEntryCutAt w)));
      leads = ap (λ (s : Grown). grown_by s (h.entries ++ e ∷ [])) same ∙ grown_more _ h.entries e ∙ ap (λ (s : Grown). grown s e) h.leads;
    }

cut_by : (w : ℕ) (g : Grown) (es : List Entry) → AreCutAt w g.nodes → All (IsEntryCutAt w) es → AreCutAt w (grown_by g es).nodes
cut_by w g [] a c = a
cut_by w g (e ∷ es) a c = cut_by w (grown g e) es (entry_cut g e w (All-head (IsEntryCutAt w) e es c) a) (All-tail (IsEntryCutAt w) e es c)

seed_cut : (w : ℕ) (m : Market) (budget : ℕ) → AreCutAt w (seed m budget).nodes
seed_cut w m budget = All-cons (λ (n : TreeNode). IsCutAt w n.state) (new_node []) [] tt (All-nil (λ (n : TreeNode). IsCutAt w n.state))

-- each node is closed at a cutoff of the journal
pub cut_by_journal : (j : List JournalEntry) (w : ℕ) (g : Grown) → JournalLeadsTo j w g → AreCutAt w g.nodes
cut_by_journal j w g h =
    subst (λ (s : Grown). AreCutAt w s.nodes) h.leads (cut_by w (seed g.market g.budget) h.entries (seed_cut w g.market g.budget) h.cut)

-- at the start there is no entry
pub leads_nowhere : (w : ℕ) (m : Market) (budget : ℕ) → JournalLeadsTo [] w (seed m budget)
leads_nowhere w m budget = record { entries = []; kept = refl; allowed = tt; cut = All-nil (IsEntryCutAt w); leads = refl }
