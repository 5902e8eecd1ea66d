use Rattle.std.proofs.Common.{◌≡◌, ◌<◌, ℕ, slice_index, arith, subst, sym, ◌∙◌}
use Rattle.mari_market.specs.Along.Reaches.{itself}
use Rattle.mari_islands.specs.Islands.{InOneIsland}
use Rattle.mari_islands.proofs.firsts.own_zones.Goals as goal

pub returns : goal.returns
returns c =
    let m = c.args.market.now in
    let at_end : c.loop-zone.zone ≡ m.zones = omega arith in
    let own : (z : ℕ) → z < m.zones → slice_index c.loop-zone.firsts.items z ≡ z = λ z l. c.loop-zone.invariant.own z (omega arith) in
    record {
      one_each = c.loop-zone.invariant.long ∙ at_end;
      together = λ z l. subst (λ (f : ℕ). InOneIsland m f z) (sym (own z l)) itself;
      no_later = λ z l. omega (arith, own z l);
    }
