-- A border that leads along rising prices leads back along falling ones.
use Rattle.std.proofs.Common.{ℕ, ℤ, inl, inr}
use Rattle.mari_market.specs.declared.along.Along.TheVariants.{Falling}
use Rattle.mari_market.specs.declared.market.Border.{Border}
use Rattle.mari_market.specs.declared.market.Market.{Market}
use Rattle.mari_market.specs.declared.activation.Activation.{Activation}
use Rattle.mari_market.specs.Along.{Leads, LeadsBy, LeadsOver, LeadsTo}
use Rattle.mari_market.proofs.Sums.{AnyZip-map}

falling_by : (y z : ℕ) (b : Border) (f : ℤ) → LeadsBy y z b f → LeadsOver Falling z y b f
falling_by y z b f (inl l) = inr (l.1, l.0, l.2)
falling_by y z b f (inr l) = inl (l.1, l.0, l.2)

falling_over : (y z : ℕ) (b : Border) (f : ℤ) → LeadsOver Falling z y b f → LeadsBy y z b f
falling_over y z b f (inl l) = inr (l.1, l.0, l.2)
falling_over y z b f (inr l) = inl (l.1, l.0, l.2)

pub falling_spreads : (m : Market) (a : Activation) (y z : ℕ) → Leads m a y z → LeadsTo Falling m.borders a.flow z y
falling_spreads m a y z l = AnyZip-map (LeadsBy y z) (LeadsOver Falling z y) (falling_by y z) m.borders a.flow l

pub falling_from : (m : Market) (a : Activation) (y z : ℕ) → LeadsTo Falling m.borders a.flow z y → Leads m a y z
falling_from m a y z l = AnyZip-map (LeadsOver Falling z y) (LeadsBy y z) (falling_over y z) m.borders a.flow l
