-- The order of the second form's lines. Each line stands, in this order, for one of the first form.
use Rattle.std.specs.Prelude.{◌≡◌, ℕ, ◌+◌, Bool, true, false, ◌==◌, [], ◌∷◌, ◌++◌, Option, Some, None, Result, Ok, Err, if◌then◌else◌, ⊤}
use Rattle.std.specs.Option.{option_and_then}
use Rattle.mari_lines.specs.declared.line.Line.{Line}
use Rattle.mari_lines.specs.declared.line.Line.TheVariants as line
use Rattle.mari_publish.specs.Order.{after, nothing_kept}
use Rattle.mari_publish.specs.declared.held.Held.{Held}
use Rattle.mari_publish.specs.declared.held.Held.TheVariants as held
use Rattle.mari_publish.specs.declared.held.Kept.{Kept}
use Rattle.mari_publish.specs.declared.publication.Block.TheVariants as block
use Rattle.mari_publish.specs.declared.publication.FullBlock.{FullBlock}
use Rattle.mari_publish.specs.declared.publication.Part.{Part}
use Rattle.mari_publish.specs.declared.publication.Part.TheVariants as part
use Rattle.mari_publish.specs.declared.taking.TakeFault.{TakeFault}
use Rattle.mari_publish.specs.declared.taking.TakeFault.TheVariants as fault
use Rattle.mari_reach_lines.specs.Ranges.{IsClaim, ReachInRange}
use Rattle.mari_reach_lines.specs.Spelling.{reach_spelling}
use Rattle.mari_reach_lines.specs.declared.line.Claim.TheVariants as claims
use Rattle.mari_reach_lines.specs.declared.line.ReachLine.{ReachLine}
use Rattle.mari_reach_lines.specs.declared.line.ReachLine.TheVariants as reach
use Rattle.mari_stream.specs.Forms.{Form}
use Rattle.mari_reach_text.specs.Claims.{one_if_first}
use Rattle.mari_reach_text.specs.declared.kept.ReachKept.{ReachKept}
use Rattle.mari_reach_text.specs.declared.kept.ReachPart.{ReachPart}
use Rattle.mari_reach_text.specs.declared.kept.ReachPart.TheVariants as parts
use Rattle.mari_reach_text.specs.declared.kept.Said.{Said}
use Rattle.mari_reach_text.specs.declared.kept.Said.TheVariants as says
use Rattle.mari_reach_text.specs.declared.named.NamedItem.TheVariants as named

-- the line of the first form for which a line stands: a branch for an item of a tree, and for the last line that so many runs
-- are published as state the first activation or one within a gap
abbrev pub line_of : ReachLine → Line
line_of (reach.Head date quarters budget) = line.Head date quarters budget
line_of (reach.Run heading claim) = line.Run heading
line_of (reach.Branch bid) = line.Branch
line_of (reach.Price zone price) = line.Branch
line_of reach.Void = line.Branch
line_of (reach.Shared (line.Bound potentials)) = line.Branch
line_of (reach.Shared (line.Cut cut)) = line.Branch
line_of (reach.Shared (line.Done first within)) = line.Done (first + within) 0
line_of (reach.Shared l) = l

-- what it says besides
abbrev pub said : ReachLine → Said
said (reach.Run heading claim) = says.Claim claim
said (reach.Branch bid) = says.Item (named.Gate bid)
said (reach.Price zone price) = says.Item (named.Price zone price)
said reach.Void = says.Item named.Void
said (reach.Shared (line.Bound potentials)) = says.Item (named.Bound (record { cents = potentials }))
said (reach.Shared (line.Cut cut)) = says.Item (named.Cut cut)
said (reach.Shared (line.Done first within)) = says.First first
said _ = says.Nothing

-- the last line counts the runs that state the first activation
abbrev pub counts_right : (first : ℕ) → Said → Bool
counts_right first (says.First count) = count == first
counts_right first _ = true

-- what is kept, with this of the lines for which the lines stand
abbrev pub kept_beside : ReachKept → Kept → ReachKept
kept_beside s k = record { kept = k; claim = s.claim; tree = s.tree; first = s.first }

-- and with what a line says besides
abbrev pub noted : ReachKept → Said → ReachKept
noted s (says.Claim claim) = record { kept = s.kept; claim = claim; tree = s.tree; first = s.first + one_if_first claim }
noted s (says.Item item) = record { kept = s.kept; claim = s.claim; tree = s.tree ++ item ∷ []; first = s.first }
noted s _ = s

-- and after a whole block: no item of the next one's tree has come
abbrev pub without_items : ReachKept → ReachKept
without_items s = record { kept = s.kept; claim = s.claim; tree = []; first = s.first }

-- a block of the first form without its tree
abbrev pub without_tree : FullBlock → FullBlock
without_tree b = record {
  heading = b.heading;
  welfare = b.welfare;
  zones = b.zones;
  borders = b.borders;
  bids = b.bids;
  demands = b.demands;
  tree = [];
  operators = b.operators;
  providers = b.providers;
}

-- what is kept after a line, and the part that is whole with it, by the part of the first form: no run is left unpublished
abbrev pub given : ReachKept → Option Part → Option (ReachKept × Option ReachPart)
given s None = Some (s, None)
given s (Some (part.Head date quarters budget)) = Some (s, Some (parts.Head date quarters budget))
given s (Some (part.Block (block.Published b))) = Some (without_items s, Some (parts.Block (record { block = without_tree b; claim = s.claim; tree = s.tree })))
given s (Some (part.Block (block.Unpublished heading count))) = None
given s (Some (part.Totals operators providers)) = Some (s, Some (parts.Totals operators providers))

-- the same, by the line for which a line stands and by what it says besides
abbrev pub after_both : ReachKept → Line → Said → Option (ReachKept × Option ReachPart)
after_both s l x = if counts_right s.first x
    then option_and_then (λ (y : Kept × Option Part). given (noted (kept_beside s y.0) x) y.1) (after s.kept s.kept.held l) else None

-- the same, by the line
abbrev pub after_reach : ReachKept → ReachLine → Option (ReachKept × Option ReachPart)
after_reach s l = after_both s (line_of l) (said l)

-- before the first line
abbrev pub nothing_reached : ReachKept
nothing_reached = record { kept = nothing_kept; claim = claims.First; tree = []; first = 0 }

-- whether the last line has come
abbrev pub is_done : Held → Bool
is_done held.Done = true
is_done _ = false

-- the second form
abbrev pub reach_form : Form ReachKept ReachLine ReachPart
reach_form = record {
  start = nothing_reached;
  after = after_reach;
  is_done = λ s. is_done s.kept.held;
  spelled = reach_spelling;
  IsLine = ReachInRange;
}

-- a line was taken, or may not follow; where memory ran out nothing is said
abbrev pub FollowsReach : Option (ReachKept × Option ReachPart) → ReachKept → Result (Option ReachPart) TakeFault → Type 0
FollowsReach expected new (Ok x) = expected ≡ Some (new, x)
FollowsReach expected new (Err fault.OutOfOrder) = expected ≡ None
FollowsReach expected new (Err fault.Memory) = ⊤
FollowsReach expected new (Err fault.Formless) = ⊥

-- what a part says of the activation may be said
abbrev pub ClaimFits : ReachPart → Type 0
ClaimFits (parts.Block b) = IsClaim b.claim
ClaimFits _ = ⊤
