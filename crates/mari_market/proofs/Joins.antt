-- What joins zones joins them both ways, and so does one area.
use Rattle.std.proofs.Common.{ℕ, ℤ, inl, inr}
use Rattle.mari_market.specs.declared.along.Along.TheVariants.{Joined}
use Rattle.mari_market.specs.declared.market.Border.{Border}
use Rattle.mari_market.specs.declared.market.Market.{Market}
use Rattle.mari_market.specs.declared.activation.Activation.{Activation}
use Rattle.mari_market.specs.Along.{LeadsOver}
use Rattle.mari_market.specs.Area.{Joins, InOneArea}
use Rattle.mari_market.specs.Along.Reaches.{itself, further}
use Rattle.mari_market.proofs.Sums.{AnyZip-map}

joins_back : (y z : ℕ) (b : Border) (f : ℤ) → LeadsOver Joined y z b f → LeadsOver Joined z y b f
joins_back y z b f (inl l) = inr (l.1, l.0, l.2)
joins_back y z b f (inr l) = inl (l.1, l.0, l.2)

pub joins_other : (m : Market) (a : Activation) (y z : ℕ) → Joins m a y z → Joins m a z y
joins_other m a y z j = AnyZip-map (LeadsOver Joined y z) (LeadsOver Joined z y) (joins_back y z) m.borders a.flow j

pub area_on : (m : Market) (a : Activation) (x y z : ℕ) → InOneArea m a x y → InOneArea m a y z → InOneArea m a x z
area_on m a x y _ h itself = h
area_on m a x y _ h (further w z k j) = further w z (area_on m a x y w h k) j

pub area_back : (m : Market) (a : Activation) (y z : ℕ) → InOneArea m a y z → InOneArea m a z y
area_back m a y _ itself = itself
area_back m a y _ (further w z k j) = area_on m a z w y (further z w itself (joins_other m a w z j)) (area_back m a y w k)
