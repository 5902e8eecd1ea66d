use Rattle.std.proofs.Common.{◌≡◌, ◌≤◌, ◌+◌, ◌-◌, ℕ, List, drop, length, refl, sym, ap, subst, ◌∙◌, arith}
use Rattle.mari_publish.specs.Bids.{BidsTaken}
use Rattle.mari_publish.specs.Order.{kept_with}
use Rattle.mari_publish.specs.Pieces.{ComesFrom}
use Rattle.mari_publish.specs.declared.held.Held.TheVariants as held
use Rattle.mari_publish.proofs.Bids.{bids_stand, rest_left, state}
use Rattle.mari_publish.proofs.MoreText.{from_place}
use Rattle.mari_publish.proofs.coming.take_bids.Goals as goal

pub returns-in-Listing-clause-stands : goal.returns-in-Listing-clause-stands
returns-in-Listing-clause-stands c = λ text parts s.
    let coming = c.args.coming.now in
    let bytes = coming.bytes.items in
    let bids = c.list_bids-count in
    let block = c.in-Listing.block in
    let new = bids.new.block in
    let after = bids.result.0.now in
    let unread = from_place bytes c.deref.result.now coming.handled _ c.deref.ensures.value refl in
    let taken = subst (λ (bs : List ℕ). BidsTaken block.bids new.bids bs after) (sym unread) bids.ensures.taken in
    let come = bids_stand coming.kept coming.lines coming.ahead
    (drop coming.handled bytes) after block new bids.result.1 c.in-Whole.is c.in-Listing.is taken bids.ensures.place bids.ensures.same bids.ensures.number text parts s in
    let long : c.len.result ≡ length bytes = omega (arith, c.len.ensures, coming.bytes.ok.0) in
    let handled : coming.handled ≤ length bytes = omega (arith, c.requires.handled, coming.bytes.ok.0) in
    let left : drop (c.len.result - length after) bytes ≡ after = ap (λ n. drop (n - length after) bytes) long ∙ rest_left block.bids new.bids bytes after coming.handled handled taken in
    subst (λ (bs : List ℕ). ComesFrom (state (kept_with coming.kept (held.Listing new)) (coming.lines + bids.result.1) coming.ahead bs) text parts) (sym left) come
