use Rattle.std.proofs.Common.{◌≡◌, ◌<◌, ℕ, zero, suc, List, [], ◌∷◌, length, get_or, sym, ap, ◌∙◌, arith}
use Rattle.mari_io.specs.declared.page.Page.{Page}
use Rattle.mari_io.specs.Memory.{bytes_of}
use Rattle.mari_io.proofs.page.bytes_at.Goals as goal

at_place : (ps : List Page) (i : ℕ) (p : Page) → i < length ps → p ≡ get_or ps i p → p.bytes ≡ bytes_of ps i
at_place [] i p lt e = absurd (omega arith)
at_place (q ∷ ps) zero p lt e = ap (λ (x : Page). x.bytes) e
at_place (q ∷ ps) (suc i) p lt e = at_place ps i p (omega arith) e

pub returns : goal.returns
returns c = (c.as_slice.ensures ∙ sym (ap (λ (p : Page). p.bytes) c.index-pages-place.is)) ∙ at_place c.args.pages.now c.args.place c.index-pages-place.result c.requires c.index-pages-place.is
