-- No page is longer than a page may be.
use Rattle.std.proofs.Common.{◌≡◌, ◌≤◌, ◌<◌, ◌+◌, ◌-◌, ◌*◌, ◌/◌, ◌%◌, ◌^◌, ◌==◌, ℕ, zero, suc, Bool, true, false, List, [], ◌∷◌, ◌++◌, codes, decimal, length, refl, arith, ℤ, pos, negsuc, ◌-ℤ◌, int_lt, unsigned_abs, All, if◌then◌else◌}
use Rattle.std.specs.Fmt.{digits, signed_decimal}
use Rattle.std.proofs.lemmas.Fmt.{length-decimal-le}
use Rattle.std.proofs.lemmas.List.{length-append}
use Rattle.std.proofs.lemmas.List.Elements.{All-cons, All-nil}
use Rattle.mari_units.specs.Numbers.{printed_cents, sign_of}
use Rattle.mari_rows.specs.Printed.{line_of}
use Rattle.mari_rows.proofs.PrintedLemmas.{length-line}
use Rattle.mari_zones.specs.Zones.{zone_columns}
use Rattle.mari_zones.specs.Borders.{border_columns}
use Rattle.mari_bids.specs.Bids.{bid_columns}
use Rattle.mari_links.specs.Links.{link_columns}
use Rattle.mari_calendar.specs.Columns.{day_columns}
use Rattle.mari_scenario.specs.Accepted.{IsShort}
use Rattle.mari_scenario.specs.Draws.{Drawn, after, draw, lines}
use Rattle.mari_demands.specs.Runs.{run_columns, scheduled_word}
use Rattle.mari_demands.specs.Demands.{demand_columns}
use Rattle.mari_scenario.specs.Pages.{before_bids, before_demands, before_runs, bid, bid_least, bid_line, bid_price, bids_at, border_line, borders_at, day_text, demand_line, demand_text, demands_at, direction, from_of, greatest, group, is_both, is_up, kind, link_lines, links_text, provider, run_line, runs_at, scenario_at, to_of, zone, zones_text}
use Rattle.mari_scenario.proofs.BidNames.{length-bid}
use Rattle.mari_scenario.proofs.BidPage.{greatest-small, least-small, price-small}
use Rattle.mari_scenario.proofs.DemandPage.{price-small as elastic-small, quantity-small}
use Rattle.mari_scenario.proofs.DrawBounds.{draw-lt}
use Rattle.mari_scenario.proofs.Places.{first-ten}

-- the lengths of fields
number : (n : ℕ) → n < 2 ^ 64 → length (decimal n) ≤ 20
number n small = length-decimal-le 20 n (omega arith) (omega arith) small

of-zone : (n : ℕ) → n < 2 ^ 64 → length (zone n) ≤ 21
of-zone n small = omega (arith, length-append (codes "Z") (decimal n), number n small)

of-provider : (n : ℕ) → n < 2 ^ 64 → length (provider n) ≤ 21
of-provider n small = omega (arith, length-append (codes "P") (decimal n), number n small)

of-group : (n : ℕ) → n < 2 ^ 64 → length (group n) ≤ 21
of-group n small = omega (arith, length-append (codes "g") (decimal n), number n small)

of-bid : (t j : ℕ) → t < 2 ^ 64 → j < 2 ^ 64 → length (bid t j) ≤ 42
of-bid t j a b = omega (arith, length-bid t j, number t a, number j b)

of-sign : (negative : Bool) → length (sign_of negative) ≤ 1
of-sign true = omega arith
of-sign false = omega arith

of-price : (z : ℤ) → unsigned_abs z < 2 ^ 64 → length (printed_cents z) ≤ 24
of-price z small =
    let n = unsigned_abs z in
    let sign = sign_of (int_lt z (pos 0)) in
    omega (
      arith,
      length-append (sign ++ decimal (n / 100)) (46 ∷ (48 + n % 100 / 10) ∷ (48 + n % 10) ∷ []),
      length-append sign (decimal (n / 100)),
      of-sign (int_lt z (pos 0)),
      number (n / 100) (omega arith),
    )

of-whole : (z : ℤ) → unsigned_abs z < 2 ^ 64 → length (signed_decimal z) ≤ 21
of-whole (pos n) small = omega (arith, number n small)
of-whole (negsuc n) small = omega (arith, number (suc n) small)

of-direction : (b : Bool) → length (direction b) ≤ 4
of-direction true = omega arith
of-direction false = omega arith

of-kind : (b : Bool) → length (kind b) ≤ 9
of-kind true = omega arith
of-kind false = omega arith

-- lines of at most 250 bytes
size-lines : (line : ℕ → ℕ → Drawn) (most : ℕ) → ((i x : ℕ) → i < most → length (line i x).text ≤ 250) → (n x : ℕ) → n ≤ most → length (lines line n x).text ≤ 250 * n
unfolding lines
size-lines line most all zero x few = omega arith
size-lines line most all (suc n) x few =
    omega (arith, length-append (lines line n x).text (line n (lines line n x).state).text, size-lines line most all n x (omega arith), all n (lines line n x).state (omega arith))

border-zones : (i : ℕ) → i < 10 → (length (zone (from_of i)) ≡ 2) × (length (zone (to_of i)) ≡ 2)
unfolding digits
border-zones = first-ten (λ i. (length (zone (from_of i)) ≡ 2) × (length (zone (to_of i)) ≡ 2))
    (refl, refl) (refl, refl) (refl, refl) (refl, refl) (refl, refl) (refl, refl) (refl, refl) (refl, refl) (refl, refl) (refl, refl)

border-size : (i x : ℕ) → i < 10 → length (border_line i x).text ≤ 250
border-size i x few =
    let limit = decimal (20 + draw 1 80 x) in
    let back = decimal (20 + draw 2 80 x) in
    omega (
      arith,
      length-line (zone (from_of i)) (zone (to_of i) ∷ limit ∷ back ∷ []),
      (border-zones i few).0,
      (border-zones i few).1,
      number (20 + draw 1 80 x) (omega (arith, draw-lt 1 80 x (omega arith))),
      number (20 + draw 2 80 x) (omega (arith, draw-lt 2 80 x (omega arith))),
    )

bid-size : (i x : ℕ) → i < 960 → length (bid_line i x).text ≤ 250
bid-size i x few =
    let t = i / 40 + 1 in
    let j = i % 40 + 1 in
    let small : greatest x < 2 ^ 64 = omega (arith, greatest-small x) in
    let least = bid_least j (greatest x) in
    omega (
      arith,
      length-line (bid t j)
          (provider ((j - 1) % 10 + 1) ∷ zone (1 + draw 1 8 x) ∷ decimal t ∷ direction (is_up x) ∷ printed_cents (bid_price x) ∷ decimal least ∷ decimal (greatest x) ∷ kind (is_both x) ∷ []),
      of-bid t j (omega arith) (omega arith),
      of-provider ((j - 1) % 10 + 1) (omega arith),
      of-zone (1 + draw 1 8 x) (omega (arith, draw-lt 1 8 x (omega arith))),
      number t (omega arith),
      of-direction (is_up x),
      of-price (bid_price x) (omega (arith, price-small x)),
      number least (omega (arith, least-small i x, small)),
      number (greatest x) small,
      of-kind (is_both x),
    )

link-size : (i x : ℕ) → i < 24 → length (link_lines i x).text ≤ 250
link-size i x few =
    let first = line_of (codes "group" ∷ group (i + 1) ∷ bid (i + 1) 10 ∷ []) in
    let second = line_of (codes "group" ∷ group (i + 1) ∷ bid (i + 1) 15 ∷ []) in
    let third = line_of (codes "child" ∷ bid (i + 1) 25 ∷ bid (i + 1) 20 ∷ []) in
    omega (
      arith,
      length-append (first ++ second) third,
      length-append first second,
      length-line (codes "group") (group (i + 1) ∷ bid (i + 1) 10 ∷ []),
      length-line (codes "group") (group (i + 1) ∷ bid (i + 1) 15 ∷ []),
      length-line (codes "child") (bid (i + 1) 25 ∷ bid (i + 1) 20 ∷ []),
      of-group (i + 1) (omega arith),
      of-bid (i + 1) 10 (omega arith) (omega arith),
      of-bid (i + 1) 15 (omega arith) (omega arith),
      of-bid (i + 1) 20 (omega arith) (omega arith),
      of-bid (i + 1) 25 (omega arith) (omega arith),
    )

run-size : (i x : ℕ) → i < 24 → length (run_line i x).text ≤ 250
unfolding scheduled_word
run-size i x few =
    let reference = pos (4000 + draw 1 4000 x) in
    omega (
      arith,
      length-line (decimal (i + 1)) (decimal (i + 1) ∷ scheduled_word ∷ printed_cents reference ∷ []),
      number (i + 1) (omega arith),
      of-price reference (omega (arith, draw-lt 1 4000 x (omega arith))),
    )

demand-by : (i x : ℕ) (price : List ℕ) → i < 192 → length price ≤ 24 → length (demand_text i x price) ≤ 250
demand-by i x price few small =
    let mw = signed_decimal (pos (draw 1 61 x) -ℤ pos 20) in
    omega (
      arith,
      length-line (decimal (i / 8 + 1)) (zone (i % 8 + 1) ∷ mw ∷ price ∷ []),
      number (i / 8 + 1) (omega arith),
      of-zone (i % 8 + 1) (omega arith),
      of-whole (pos (draw 1 61 x) -ℤ pos 20) (omega (arith, quantity-small x)),
      small,
    )

demand-size : (i x : ℕ) → i < 192 → length (demand_line i x).text ≤ 250
demand-size i x few = by (draw 2 3 x == 2)
  where
    line_by : Bool → Drawn
    line_by b =
        if b then record { text = demand_text i x (printed_cents (pos (5000 + draw 3 10000 x))); state = after 3 x }
        else record { text = demand_text i x []; state = after 2 x }

    by : (b : Bool) → length (line_by b).text ≤ 250
    by true = demand-by i x (printed_cents (pos (5000 + draw 3 10000 x))) few (of-price (pos (5000 + draw 3 10000 x)) (omega (arith, elastic-small x)))
    by false = demand-by i x [] few (omega arith)

-- a header and `n` lines
page-short : (header : List ℕ) (line : ℕ → ℕ → Drawn) (n x : ℕ) → length header ≤ 1000 → n ≤ 1000 → ((i x : ℕ) → i < n → length (line i x).text ≤ 250)
    → length (header ++ (lines line n x).text) ≤ 268435456
page-short header line n x head few all = omega (arith, length-append header (lines line n x).text, size-lines line n all n x (omega arith))

day-short : length day_text ≡ 26
unfolding day_columns
day-short = refl

zones-short : length zones_text ≡ 62
unfolding lines digits zone_columns
zones-short = refl

seven : {X : Type 0} (P : X → Type 0) (a b c d e f g : X) → P a → P b → P c → P d → P e → P f → P g → All P (a ∷ b ∷ c ∷ d ∷ e ∷ f ∷ g ∷ [])
seven P a b c d e f g pa pb pc pd pe pf pg =
    All-cons P a (b ∷ c ∷ d ∷ e ∷ f ∷ g ∷ []) pa
    (All-cons P b (c ∷ d ∷ e ∷ f ∷ g ∷ []) pb
    (All-cons P c (d ∷ e ∷ f ∷ g ∷ []) pc
    (All-cons P d (e ∷ f ∷ g ∷ []) pd
    (All-cons P e (f ∷ g ∷ []) pe
    (All-cons P f (g ∷ []) pf
    (All-cons P g [] pg (All-nil P)))))))

pub pages-short : (number : ℕ) → All IsShort (scenario_at number)
unfolding scenario_at border_columns bid_columns link_columns run_columns demand_columns
pages-short n =
    let borders = codes "from,to,limit,back\n" in
    let bids = codes "id,provider,zone,quarter,direction,price,least,greatest,kind\n" in
    let runs = codes "run,quarter,kind,reference\n" in
    let demands = codes "run,zone,mw,price\n" in
    seven IsShort (codes "s/day.csv", day_text) (codes "s/zones.csv", zones_text) (codes "s/borders.csv", borders ++ (borders_at n).text) (codes "s/bids.csv", bids ++ (bids_at (before_bids n)).text)
    (codes "s/links.csv", links_text) (codes "s/runs.csv", runs ++ (runs_at (before_runs n)).text) (codes "s/demands.csv", demands ++ (demands_at (before_demands n)).text)
    (omega (arith, day-short)) (omega (arith, zones-short)) (page-short borders border_line 10 n (omega arith) (omega arith) border-size)
    (page-short bids bid_line 960 (before_bids n) (omega arith) (omega arith) bid-size)
    (page-short (codes "kind,first,second\n") link_lines 24 0 (omega arith) (omega arith) link-size) (page-short runs run_line 24 (before_runs n) (omega arith) (omega arith) run-size)
    (page-short demands demand_line 192 (before_demands n) (omega arith) (omega arith) demand-size)
