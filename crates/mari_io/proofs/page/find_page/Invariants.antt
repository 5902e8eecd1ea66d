use Rattle.std.proofs.Common.{◌≡◌, drop}
use Rattle.mari_io.specs.Outside.{page_of}
use Rattle.mari_io.specs.Memory.{pages_of}
use Rattle.mari_io.proofs.page.find_page.Given as goal

-- no page so far has the name
abbrev pub invariant-loop-i : goal.invariant-loop-i
invariant-loop-i l = page_of (pages_of (drop l.i l.pages)) l.name ≡ page_of (pages_of l.pages) l.name
