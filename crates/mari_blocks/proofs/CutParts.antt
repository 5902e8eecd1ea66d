-- The parts of the quarters, cut out one after the other, are the whole.
use Rattle.std.proofs.Common.{◌≡◌, ◌∙◌, ◌+◌, ◌-◌, ◌*◌, ◌<◌, ◌≤◌, ◌++◌, ◌∷◌, ℕ, List, [], drop, length, map, take, ap, refl, sym, subst, arith}
use Rattle.std.specs.List.{All, flat_map, range_with_len}
use Rattle.std.proofs.lemmas.List.{drop-drop, length-drop, length-map, length-take-le, map-append, take-append-drop, take_all}
use Rattle.std.proofs.lemmas.List.Elements.{All-drop, All-push, All-take, All-weaker}
use Rattle.mari_lines.specs.Ranges.{IsMoney}
use Rattle.mari_lines.specs.declared.line.BidLine.{BidLine}
use Rattle.mari_lines.specs.declared.line.BorderLine.{BorderLine}
use Rattle.mari_lines.specs.declared.line.ZoneLine.{ZoneLine}
use Rattle.mari_market.specs.Market.{IsValid}
use Rattle.mari_market.specs.declared.activation.Activation.{Activation}
use Rattle.mari_remain.specs.Accepted.{IsAccepted}
use Rattle.mari_remain.specs.declared.books.Books.{Books}
use Rattle.mari_rows.specs.Names.{name_at}
use Rattle.mari_settle.specs.Conditions.{IsSmall}
use Rattle.mari_progress.specs.Reported.{NameLines}
use Rattle.mari_progress.proofs.Lists.{as-many, of-map}
use Rattle.mari_progress.proofs.Small.{money}
use Rattle.mari_blocks.specs.Cutting.{AreCutOut, ArePrinted, HasShapes, IsAfter, IsCutOut, IsPlaceOf, IsThere, piece}
use Rattle.mari_blocks.specs.Joint.{demands_brought}
use Rattle.mari_blocks.specs.Printed.{IsQuarterBlock, bids_of, demand_count, demands_printed}
use Rattle.mari_blocks.specs.Text.{QuarterFits}
use Rattle.mari_blocks.specs.declared.blocks.BlockBook.{BlockBook}
use Rattle.mari_blocks.specs.declared.joint.Joint.{Joint}
use Rattle.mari_blocks.specs.declared.printing.Place.{Place}
use Rattle.mari_blocks.specs.declared.printing.Priced.{Priced}
use Rattle.mari_blocks.specs.declared.text.QuarterBlock.{QuarterBlock}
use Rattle.mari_blocks.proofs.Cuts.{end-within, length-more, one-more-times, piece-more, printed-more}
use Rattle.mari_blocks.proofs.JointPrices.{IsMade}
use Rattle.mari_blocks.proofs.JointShapes.{bids-are, bids-piece, bids-within, borders-are, brought-count, demands-are, demands-within, few-demands, kept, bids-of, orders-are, zones-are}
use Rattle.mari_blocks.proofs.Ranges.{range-more}

-- a piece that is there is as long as it is to be
pub piece-length : {X : Type 0} (from count : ℕ) (xs : List X) → from + count ≤ length xs → length (piece from count xs) ≡ count
piece-length from count xs within = length-take-le count (drop from xs) (omega (arith, within, length-drop from xs))

-- what one part's lines add to those before
line-more : {Y Z L : Type 0} (lines : QuarterBlock → List L) (get : L → Z) (name : Y → Z) (xs : List Y) (from count to : ℕ) (quarters : List QuarterBlock) (q : QuarterBlock)
    → map get (flat_map lines quarters) ≡ map name (take from xs) → map get (lines q) ≡ map name (piece from count xs) → to ≡ from + count
    → map get (flat_map lines (quarters ++ q ∷ [])) ≡ map name (take to xs)
line-more lines get name xs from count to quarters q before own reaches =
    ap (map get) (printed-more lines quarters q) ∙ map-append get (flat_map lines quarters) (lines q)
    ∙ rw (before, own) (sym (map-append name (take from xs) (piece from count xs)))
    ∙ ap (map name) (piece-more from count xs ∙ ap (λ n. take n xs) (sym reaches))

-- the same of items as they are
item-more : {X L : Type 0} (lines : QuarterBlock → List L) (get : L → X) (xs : List X) (from count to : ℕ) (quarters : List QuarterBlock) (q : QuarterBlock)
    → map get (flat_map lines quarters) ≡ take from xs → map get (lines q) ≡ piece from count xs → to ≡ from + count
    → map get (flat_map lines (quarters ++ q ∷ [])) ≡ take to xs
item-more lines get xs from count to quarters q before own reaches =
    ap (map get) (printed-more lines quarters q) ∙ map-append get (flat_map lines quarters) (lines q)
    ∙ rw (before, own) refl
    ∙ piece-more from count xs ∙ ap (λ n. take n xs) (sym reaches)

module _ (books : Books) (ok : IsAccepted books) (blocks : BlockBook) (first last : ℕ) (joint : Joint) (made : IsMade books blocks first last joint) (a : Activation) (priced : Priced)
    (shapes : HasShapes books (last + 1 - first) joint a priced) where
  abbrev own : ℕ → List ℕ
  own = kept books blocks first last

  abbrev Places : ℕ → Place → Type 0
  Places quarter at = IsPlaceOf books joint a priced first own quarter at

  -- the lines of a quarter are there
  pub is-there : (quarter : ℕ) (at : Place) → first ≤ quarter → quarter ≤ last → Places quarter at → IsThere books joint a priced quarter at
  is-there quarter at low high is =
      let less : quarter - first < last + 1 - first = omega (arith, low, high) in
      let zones = end-within (quarter - first) (last + 1 - first) (length books.zones.zones) less in
      let borders = end-within (quarter - first) (last + 1 - first) (length books.borders.borders) less in
      record {
        zones = rw (is.zones, shapes.areas) zones;
        borders = rw (is.borders, shapes.rents) borders;
        bids = rw is.bids (bids-within books blocks first last joint made ok quarter low high);
        demands = rw is.demands (demands-within books blocks first last joint made ok quarter low high);
      }

  -- no place is far
  pub record IsNear (at : Place) (q : QuarterBlock) : Type 0 where
    pub zones : at.zones + length books.zones.zones ≤ 64
    pub borders : at.borders + length books.borders.borders ≤ 256
    pub bids : at.bids + length q.bids ≤ 4608
    pub demands : at.demands + length q.demands ≤ 4608

  module _ (quarter : ℕ) (at : Place) (q : QuarterBlock) (low : first ≤ quarter) (high : quarter ≤ last) (is : Places quarter at) (there : IsThere books joint a priced quarter at)
      (cut : IsCutOut books joint a priced quarter at q) where
    bids-long : length q.bids ≡ length (bids_of books joint.bids quarter)
    bids-long =
        as-many (λ (l : BidLine). l.id) q.bids _ cut.names.bids ∙ length-map (piece at.bids (length (bids_of books joint.bids quarter)) joint.bids)
        (name_at books.bids.ids) ∙ piece-length at.bids _ joint.bids there.bids

    demands-long : length q.demands ≡ demand_count books quarter
    demands-long = ap length cut.demands ∙ piece-length (length joint.bids + at.demands) (demand_count books quarter) a.mw (omega (arith, there.demands, shapes.mw))

    pub near : IsValid joint.market → IsNear at q
    near valid = record {
      zones = omega (arith, there.zones, shapes.areas, zones-are books blocks first last joint made, valid.zones);
      borders = omega (arith, there.borders, shapes.rents, borders-are books blocks first last joint made, valid.few_borders);
      bids = omega (arith, bids-long, there.bids, orders-are books blocks first last joint made, valid.few_orders);
      demands = omega (arith, demands-long, there.demands, orders-are books blocks first last joint made, valid.few_orders);
    }

    -- the part is that of its quarter
    is-quarter : IsQuarterBlock books joint q
    is-quarter =
        let same : piece at.bids (length (bids_of books joint.bids quarter)) joint.bids ≡ bids_of books joint.bids q.quarter =
        ap (λ n. piece n (length (bids_of books joint.bids quarter)) joint.bids) is.bids
        ∙ bids-piece books blocks first last joint made ok quarter low high ∙ ap (bids_of books joint.bids) (sym cut.of_quarter) in
        record {
          lines = subst (λ numbers. NameLines books numbers q.zones q.borders q.bids) same cut.names;
          demands = demands-long ∙ ap (demand_count books) (sym cut.of_quarter);
        }

    fits : QuarterFits q
    fits =
        let small : All IsSmall (piece at.borders (length books.borders.borders) priced.rents) =
        All-take IsSmall (length books.borders.borders) _ (All-drop IsSmall at.borders priced.rents shapes.small) in
        let few = few-demands books blocks first last joint made ok quarter in
        record {
          rents = of-map (λ (l : BorderLine). l.rent) IsMoney q.borders _ cut.rents (All-weaker IsSmall IsMoney money _ small);
          demands = omega (arith, demands-long, few);
        }

    module _ (after : Place) (next : IsAfter books q at after) where
      -- one quarter more
      longer : quarter + 1 - first ≡ (quarter - first) + 1
      longer = omega (arith, low)

      here : first + (quarter - first) ≡ quarter
      here = omega (arith, low)

      pub next-place : Places (quarter + 1) after
      next-place = record {
        zones = let more = one-more-times (quarter - first) (length books.zones.zones) in next.zones ∙ rw (longer, is.zones) (sym more);
        borders = let more = one-more-times (quarter - first) (length books.borders.borders) in next.borders ∙ rw (longer, is.borders) (sym more);
        bids = next.bids ∙ rw (bids-long, is.bids, longer, length-more own first (quarter - first) quarter here)
            (ap (λ n. length (flat_map own (range_with_len first (quarter - first))) + n) (ap length (bids-of books blocks first last joint made ok quarter low high)));
        demands = next.demands ∙ rw (demands-long, is.demands, longer, length-more (demands_brought books first) first (quarter - first) quarter here)
            (ap (λ n. length (flat_map (demands_brought books first) (range_with_len first (quarter - first))) + n) (sym (brought-count books blocks first last joint made quarter)));
      }

      pub one-more : (quarters : List QuarterBlock) → AreCutOut books joint a priced first quarter quarters at → AreCutOut books joint a priced first (quarter + 1) (quarters ++ q ∷ []) after
      one-more quarters so_far = record {
        numbers = map-append (λ (q : QuarterBlock). q.quarter) quarters (q ∷ [])
            ∙ rw (so_far.numbers, cut.of_quarter) (sym (range-more first (quarter - first) quarter here)) ∙ ap (range_with_len first) (sym longer);
        each = All-push (IsQuarterBlock books joint) quarters q so_far.each is-quarter;
        fit = All-push QuarterFits quarters q so_far.fit fits;
        prices = item-more (λ q. q.zones) (λ (l : ZoneLine). l.price) priced.pricing.published.cents at.zones (length books.zones.zones) after.zones quarters q so_far.prices cut.prices next.zones;
        least = item-more (λ q. q.zones) (λ (l : ZoneLine). l.least) priced.pricing.least.cents at.zones (length books.zones.zones) after.zones quarters q so_far.least cut.least next.zones;
        greatest =
            item-more (λ q. q.zones) (λ (l : ZoneLine). l.greatest) priced.pricing.greatest.cents at.zones (length books.zones.zones) after.zones quarters q so_far.greatest cut.greatest next.zones;
        areas = item-more (λ q. q.zones) (λ (l : ZoneLine). l.area) priced.areas.items at.zones (length books.zones.zones) after.zones quarters q so_far.areas cut.areas next.zones;
        flow = item-more (λ q. q.borders) (λ (l : BorderLine). l.flow) a.flow at.borders (length books.borders.borders) after.borders quarters q so_far.flow cut.flow next.borders;
        rents = item-more (λ q. q.borders) (λ (l : BorderLine). l.rent) priced.rents at.borders (length books.borders.borders) after.borders quarters q so_far.rents cut.rents next.borders;
        ids = line-more (λ q. q.bids) (λ (l : BidLine). l.id) (name_at books.bids.ids) joint.bids at.bids (length (bids_of books joint.bids quarter)) after.bids quarters q so_far.ids cut.names.bids
            (next.bids ∙ ap (λ n. at.bids + n) bids-long);
        mw = item-more (λ q. q.bids) (λ (l : BidLine). l.mw) a.mw at.bids (length (bids_of books joint.bids quarter)) after.bids quarters q so_far.mw cut.mw
            (next.bids ∙ ap (λ n. at.bids + n) bids-long);
        demands =
            printed-more (λ q. q.demands) quarters q
            ∙ rw (so_far.demands, cut.demands, ← drop-drop at.demands (length joint.bids) a.mw) (piece-more at.demands (demand_count books quarter) (drop (length joint.bids) a.mw))
            ∙ ap (λ n. take n (drop (length joint.bids) a.mw)) (sym (next.demands ∙ ap (λ n. at.demands + n) demands-long));
      }

  -- all quarters
  pub whole : (quarter : ℕ) (at : Place) (quarters : List QuarterBlock) → quarter ≡ last + 1 → Places quarter at
      → AreCutOut books joint a priced first quarter quarters at → ArePrinted books joint a priced first last quarters
  whole quarter at quarters end is cut =
      let all : quarter - first ≡ last + 1 - first = ap (λ n. n - first) end in
      let zones : at.zones ≡ (last + 1 - first) * length books.zones.zones = is.zones ∙ ap (λ n. n * length books.zones.zones) all in
      let borders : at.borders ≡ (last + 1 - first) * length books.borders.borders = is.borders ∙ ap (λ n. n * length books.borders.borders) all in
      let bids : at.bids ≡ length joint.bids = is.bids ∙ ap (λ n. length (flat_map own (range_with_len first n))) all ∙ ap length (sym (bids-are books blocks first last joint made)) in
      let demands : at.demands ≡ joint.demands =
      is.demands ∙ ap (λ n. length (flat_map (demands_brought books first) (range_with_len first n))) all ∙ sym (demands-are books blocks first last joint made) in
      let rest : take at.demands (drop (length joint.bids) a.mw) ≡ drop (length joint.bids) a.mw = take_all at.demands _ (omega (arith, demands, length-drop (length joint.bids) a.mw, shapes.mw)) in
      let mw = cut.mw ∙ ap (λ n. take n a.mw) bids in
      let flow = cut.flow ∙ take_all at.borders a.flow (omega (arith, borders, shapes.flow)) in
      let whole_mw = ap (λ xs. xs ++ demands_printed quarters) mw ∙ ap (λ ys. take (length joint.bids) a.mw ++ ys) (cut.demands ∙ rest) ∙ take-append-drop (length joint.bids) a.mw in
      record {
        numbers = cut.numbers ∙ ap (range_with_len first) all;
        each = cut.each;
        fit = cut.fit;
        prices = cut.prices ∙ take_all at.zones _ (omega (arith, zones, shapes.published));
        least = cut.least ∙ take_all at.zones _ (omega (arith, zones, shapes.least));
        greatest = cut.greatest ∙ take_all at.zones _ (omega (arith, zones, shapes.greatest));
        areas = cut.areas ∙ take_all at.zones _ (omega (arith, zones, shapes.areas));
        rents = cut.rents ∙ take_all at.borders _ (omega (arith, borders, shapes.rents));
        ids = cut.ids ∙ ap (map (name_at books.bids.ids)) (ap (λ n. take n joint.bids) bids ∙ take_all (length joint.bids) joint.bids (omega arith));
        activation = λ i. record { mw = whole_mw i; flow = flow i };
      }
