use Rattle.std.proofs.Common.{◌≡◌, ◌<◌, ℕ, zero, suc, true, List, [], ◌∷◌, length, get_or, drop, Some, refl, sym, ap, ◌∙◌, arith}
use Rattle.std.specs.Str.{bytes_eq}
use Rattle.mari_io.specs.declared.page.Page.{Page}
use Rattle.mari_io.specs.Outside.{page_of}
use Rattle.mari_io.specs.Memory.{bytes_of, pages_of}
use Rattle.mari_io.proofs.page.find_page.Goals as goal

-- the page at this place is the first of those from there on
from_place : (ps : List Page) (i : ℕ) (name : List ℕ) (p : Page) → i < length ps → p ≡ get_or ps i p → bytes_eq p.name name ≡ true → page_of (pages_of (drop i ps)) name ≡ Some (bytes_of ps i)
from_place [] i name p lt e is = absurd (omega arith)
from_place (q ∷ ps) zero name p lt e is = rw (sym e, is) refl
from_place (q ∷ ps) (suc i) name p lt e is = from_place ps i name p (omega arith) e is

pub returns-then-eq : goal.returns-then-eq
returns-then-eq c =
    let named = sym (c.if-eq.ensures ∙ ap (λ (x : List ℕ). bytes_eq x c.args.name.now) c.as_str.ensures) in
    (c.loop-i-test.true, sym c.loop-i.invariant ∙ from_place c.args.pages.now c.loop-i.i c.args.name.now c.index-pages-i.result c.loop-i-test.true c.index-pages-i.is named)
