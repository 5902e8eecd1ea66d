-- How bounds of prices, and areas, spread along borders.
use Rattle.std.specs.Prelude.{◌≡◌, ◌⊎◌, ℕ, ℤ, List}
use Rattle.mari_market.specs.declared.market.Border.{Border}
use Rattle.mari_market.specs.declared.market.Market.{Market}
use Rattle.mari_market.specs.declared.activation.Activation.{Activation}
use Rattle.mari_market.specs.Consistent.{HasRoomOn, HasRoomBack}
use Rattle.mari_market.specs.Sums.{AnyZip}
use Rattle.mari_market.specs.declared.along.Along.{Along}
use Rattle.mari_market.specs.declared.along.Along.TheVariants.{Rising, Falling, Joined}

-- the flow is below the border's limit and above the negative of its back limit
pub record IsUncongested (b : Border) (f : ℤ) : Type 0 where
  pub below : HasRoomOn b f
  pub above : HasRoomBack b f

-- whether the border leads from its first zone to its second: lower bounds go where prices are at least as high, upper
-- bounds where they are at least as low, and areas over uncongested borders
abbrev pub LeadsOn : Along → Border → ℤ → Type 0
LeadsOn Rising b f = HasRoomBack b f
LeadsOn Falling b f = HasRoomOn b f
LeadsOn Joined b f = IsUncongested b f

-- whether it leads from its second zone to its first
abbrev pub LeadsBack : Along → Border → ℤ → Type 0
LeadsBack Rising b f = HasRoomOn b f
LeadsBack Falling b f = HasRoomBack b f
LeadsBack Joined b f = IsUncongested b f

-- the border leads from zone y to zone z
abbrev pub LeadsOver : Along → ℕ → ℕ → Border → ℤ → Type 0
LeadsOver along y z b f = ((b.from ≡ y) × (b.to ≡ z) × LeadsOn along b f) ⊎ ((b.to ≡ y) × (b.from ≡ z) × LeadsBack along b f)

-- some border does
abbrev pub LeadsTo : Along → List Border → List ℤ → ℕ → ℕ → Type 0
LeadsTo along bs fs y z = AnyZip (LeadsOver along y z) bs fs

-- the border makes the price of zone z at least that of zone y
abbrev pub LeadsBy : ℕ → ℕ → Border → ℤ → Type 0
LeadsBy y z b f = LeadsOver Rising y z b f

-- some border makes the price of zone z at least that of zone y
abbrev pub Leads : Market → Activation → ℕ → ℕ → Type 0
Leads m a y z = LeadsTo Rising m.borders a.flow y z

-- a zone leads to itself, and to another directly or through others
pub data Reaches (lead : ℕ → ℕ → Type 0) (y : ℕ) : ℕ → Type 0 where
  itself : Reaches lead y y
  further : (x z : ℕ) → Reaches lead y x → lead x z → Reaches lead y z
