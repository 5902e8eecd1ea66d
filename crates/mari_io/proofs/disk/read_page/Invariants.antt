use Rattle.std.proofs.Common.{◌≡◌, ◌≤◌, ◌+◌, length, take, drop}
use Rattle.std.specs.Io.KnownBytes.{Consumes}
use Rattle.mari_units.specs.declared.limits.TheConstants.{MOST_PAGE}
use Rattle.mari_io.proofs.disk.read_page.Given as goal

abbrev pub invariant-loop : goal.invariant-loop
invariant-loop g l = record {
  consumed : Consumes (g.F.Read.remaining l.fn.file) (g.F.Read.remaining l.file) (drop (length l.fn.into.items) l.into.items);
  kept : take (length l.fn.into.items) l.into.items ≡ l.fn.into.items;
  size : length l.into.items ≡ length l.fn.into.items + l.total;
  limit : l.total ≤ MOST_PAGE;
}
