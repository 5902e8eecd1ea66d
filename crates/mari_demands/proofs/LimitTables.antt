-- The limits of a border in a run, by their place in one list.
use Rattle.std.proofs.Common.{◌≡◌, ◌∙◌, ◌+◌, ◌-◌, ◌*◌, ◌<◌, ◌≤◌, ℕ, List, [], Option, get_or, length, map, arith, ap, sym}
use Rattle.std.specs.List.{range_with_len}
use Rattle.std.proofs.lemmas.List.FromFn.{get_or-map-range_with_len, length-map-range_with_len}
use Rattle.std.proofs.Math.Nat.{mul-le-mul_right}
use Rattle.mari_demands.specs.LimitPairs.{limits_in, limits_there, no_limits, table_of}
use Rattle.mari_demands.specs.declared.limits.Limits.{Limits}

module _ (runs borders : ℕ) (flat : List (Option Limits)) where
  -- there is a line for each run
  pub table-length : length (table_of runs borders flat) ≡ runs
  table-length = length-map-range_with_len (λ run. map (λ border. limits_there flat (run * borders + border)) (range_with_len 0 borders)) 0 runs

  -- with a pair for each border
  pub table-row : (run : ℕ) → run < runs → get_or (table_of runs borders flat) run [] ≡ map (λ border. limits_there flat (run * borders + border)) (range_with_len 0 borders)
  table-row run l = get_or-map-range_with_len (λ run. map (λ border. limits_there flat (run * borders + border)) (range_with_len 0 borders)) 0 runs run run [] l (omega arith)

  pub row-length : (run : ℕ) → run < runs → length (get_or (table_of runs borders flat) run []) ≡ borders
  row-length run l = ap length (table-row run l) ∙ length-map-range_with_len (λ border. limits_there flat (run * borders + border)) 0 borders

  pub limits-place : (run border : ℕ) → 1 ≤ run → run ≤ runs → border < borders → limits_in (table_of runs borders flat) run border ≡ limits_there flat ((run - 1) * borders + border)
  limits-place run border first last b =
      ap (λ row. get_or row border no_limits) (table-row (run - 1) (omega arith))
      ∙ get_or-map-range_with_len (λ border. limits_there flat ((run - 1) * borders + border)) 0 borders border border no_limits b (omega arith)

-- a place of the list is one of its places
pub place-within : (runs borders run border : ℕ) → run < runs → border < borders → run * borders + border < runs * borders
place-within runs borders run border r b = let more : (run + 1) * borders ≤ runs * borders = mul-le-mul_right borders (omega (arith, r)) in omega (arith, more, b)

-- what is asked of a run and a border of a table is asked of the list after it
pub record IsPlaced (runs borders : ℕ) (flat : List (Option Limits)) (table : List (List Limits)) (run border : ℕ) : Type 0 where
  pub within : (run - 1) * borders + border < runs * borders
  pub limits : limits_there flat ((run - 1) * borders + border) ≡ limits_in table run border

pub placed : (runs borders : ℕ) (flat : List (Option Limits)) (table : List (List Limits)) (run border : ℕ) → table_of runs borders flat ≡ table
    → 1 ≤ run → run ≤ length table → border < length (get_or table (run - 1) []) → IsPlaced runs borders flat table run border
placed runs borders flat table run border e first last b =
    let long : run ≤ runs = omega (arith, rw (sym e) at last, table-length runs borders flat) in
    let wide : border < borders = omega (arith, rw (sym e) at b, row-length runs borders flat (run - 1) (omega (arith, first, long))) in
    record {
      within = place-within runs borders (run - 1) border (omega (arith, first, long)) wide;
      limits = sym (limits-place runs borders flat run border first long wide) ∙ ap (λ t. limits_in t run border) e;
    }
