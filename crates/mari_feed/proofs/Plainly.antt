-- The value of a part in range is plain, so its text is a line that is read back as the part.
use Rattle.std.proofs.Common.{◌≡◌, ◌≤◌, ◌^◌, ℕ, Bool, true, false, List, [], ◌∷◌, ℤ, pos, negsuc, refl, arith}
use Rattle.std.specs.List.{All, list_all}
use Rattle.std.proofs.lemmas.Bool.{and_parts}
use Rattle.std.proofs.lemmas.Bool.Decides.{nat_tests}
use Rattle.serde_json.specs.Data.{Data}
use Rattle.mari_units.specs.Names.{IsName, is_name_byte}
use Rattle.mari_units.specs.Numbers.{Within}
use Rattle.mari_units.specs.declared.numbers.Cents.{Cents}
use Rattle.mari_units.specs.declared.numbers.Quarters.{Quarters}
use Rattle.mari_market.specs.Price.{IsCapped}
use Rattle.mari_market.specs.declared.certificate.CutSide.{CutSide}
use Rattle.mari_market.specs.declared.certificate.CutSide.TheVariants.{Out, In}
use Rattle.mari_market.specs.declared.certificate.Leaf.TheVariants as leaf
use Rattle.mari_market.specs.declared.certificate.TreeItem.{TreeItem}
use Rattle.mari_market.specs.declared.certificate.TreeItem.TheVariants as item
use Rattle.mari_lines.proofs.Gathered.{head_of, rising_zones, tail_of}
use Rattle.mari_lines.proofs.Graphic.{weaken}
use Rattle.mari_lines.proofs.Lengths.{price_size}
use Rattle.mari_lines.specs.Ranges.{InRange, IsAmountLine, IsMoney, IsMoneyLine, IsZone}
use Rattle.mari_lines.specs.declared.line.AmountLine.{AmountLine}
use Rattle.mari_lines.specs.declared.line.BidLine.{BidLine}
use Rattle.mari_lines.specs.declared.line.BorderLine.{BorderLine}
use Rattle.mari_lines.specs.declared.line.Line.TheVariants as line
use Rattle.mari_lines.specs.declared.line.MoneyLine.{MoneyLine}
use Rattle.mari_lines.specs.declared.line.ZoneLine.{ZoneLine}
use Rattle.mari_publish.specs.Ranges.{BlockFits, FullFits, ItemFits, PartFits, SumsFit}
use Rattle.mari_publish.specs.declared.publication.Block.{Block}
use Rattle.mari_publish.specs.declared.publication.FullBlock.{FullBlock}
use Rattle.mari_publish.specs.declared.publication.Part.{Part}
use Rattle.mari_feed.specs.Ranges.{FitsButTree}
use Rattle.mari_feed.specs.Texts.{IsLineOf, json_of}
use Rattle.mari_feed.specs.Values.{natural, whole, price_value, money_value, kind_value, side_value, zone_number, list_of, zone_value, border_value, bid_value, operator_value, provider_value, item_value, full_value, block_value, totals_value, part_value}
use Rattle.mari_feed.specs.Plain.{is_plain_byte, is_plain_text}
use Rattle.mari_feed.proofs.Plain.{IsPlain, one_line, plain_utf8, read_plain}
use Rattle.mari_feed.proofs.Shallow.{shallow_part}

-- ---- numbers and words

plain_whole : (z : ℤ) → Within (2 ^ 62) z → IsPlain (whole z)
plain_whole (pos n) w = omega (arith, w)
plain_whole (negsuc n) w = omega (arith, w)

pub plain_flow : (z : ℤ) → Within 199998 z → IsPlain (whole z)
plain_flow z w = plain_whole z (omega (arith, w))

pub plain_money : (q : Quarters) → IsMoney q → IsPlain (money_value q)
plain_money q w = plain_whole q.0 (omega (arith, w))

pub plain_price : (c : Cents) → IsCapped c → IsPlain (price_value c)
plain_price c h = plain_whole c.0 (omega (arith, price_size c.0 h))

pub plain_kind : (direct : Bool) → IsPlain (kind_value direct)
plain_kind true = refl
plain_kind false = refl

pub plain_side : (s : CutSide) → IsPlain (side_value s)
plain_side Out = refl
plain_side In = refl

pub plain_name : (name : List ℕ) → IsName name → is_plain_text name ≡ true
plain_name name is = weaken is_name_byte is_plain_byte own name (and_parts _ (list_all is_name_byte name) is).1
  where
    own : (b : ℕ) → is_name_byte b ≡ true → is_plain_byte b ≡ true
    own b h = grind (arith, nat_tests)

pub plain_list : {X : Type 0} (R : X → Type 0) (f : X → Data) → ((x : X) → R x → IsPlain (f x)) → (xs : List X) → All R xs → IsPlain (list_of f xs)
plain_list R f plain [] a = tt
plain_list R f plain (x ∷ xs) a = (plain x (head_of R x xs a), plain_list R f plain xs (tail_of R x xs a))

-- ---- lines

pub plain_zone : (z : ZoneLine) → InRange (line.Zone z) → IsPlain (zone_value z)
plain_zone z h = grind (arith, plain_price, plain_name)

pub plain_border : (b : BorderLine) → InRange (line.Border b) → IsPlain (border_value b)
plain_border b h = grind (arith, plain_flow, plain_name, plain_money)

pub plain_bid : (b : BidLine) → InRange (line.Bid b) → IsPlain (bid_value b)
plain_bid b h = (refl, tt, plain_name b.id h.0, (refl, (refl, tt), omega (arith, h.1), tt))

pub plain_operator : (o : MoneyLine) → IsMoneyLine o → IsPlain (operator_value o)
plain_operator o h = grind (arith, plain_name, plain_money)

pub plain_provider : (p : AmountLine) → IsAmountLine p → IsPlain (provider_value p)
plain_provider p h = (refl, tt, plain_money p.amount h.1, (refl, (refl, tt), plain_name p.name h.0, tt))

pub plain_zone_number : (zone : ℕ) → IsZone zone → IsPlain (zone_number zone)
plain_zone_number zone h = omega (arith, h)

pub plain_mw : (mw : ℕ) → mw ≤ 99999 → IsPlain (natural mw)
plain_mw mw h = omega (arith, h)

pub plain_item : (x : TreeItem) → ItemFits x → IsPlain (item_value x)
plain_item item.Branch h = refl
plain_item (item.Leaf (leaf.Bound p)) h = (refl, tt, plain_list IsCapped price_value plain_price p.cents h.0.1, tt)
plain_item (item.Leaf (leaf.Cut c)) h = (
  refl,
  tt,
  plain_list IsZone zone_number plain_zone_number c.zones (rising_zones 0 c.zones h.0.1),
  (
    refl,
    (refl, tt),
    plain_side c.side,
    tt,
  ),
)
plain_item (item.Leaf (leaf.Conflict c)) h = (
  refl,
  tt,
  plain_list IsCapped price_value plain_price c.potentials.cents h.1.0.1,
  (
    refl,
    (refl, tt),
    plain_list IsZone zone_number plain_zone_number c.chain h.0.1,
    (
      refl,
      (refl, (refl, tt)),
      plain_list (λ flow. Within 199998 flow) whole plain_flow c.activation.flow h.1.1.0.1,
      (
        refl,
        (refl, (refl, (refl, tt))),
        plain_list (λ mw. mw ≤ 99999) natural plain_mw c.activation.mw h.1.1.1.0.1,
        tt,
      ),
    ),
  ),
)

-- ---- parts

pub but_tree : (b : FullBlock) → FullFits b → FitsButTree b
but_tree b h = grind arith

plain_full : (b : FullBlock) → FullFits b → IsPlain (full_value b)
plain_full b h = (
  refl,
  tt,
  plain_list (λ x. InRange (line.Bid x)) bid_value plain_bid b.bids h.bids.1,
  (
    refl,
    (refl, tt),
    plain_list (λ x. InRange (line.Border x)) border_value plain_border b.borders h.borders.1,
    (
      refl,
      (refl, (refl, tt)),
      plain_list (λ mw. mw ≤ 99999) natural plain_mw b.demands h.demands.1,
      (
        refl,
        (refl, (refl, (refl, tt))),
        plain_kind b.heading.direct,
        (
          refl,
          (refl, (refl, (refl, (refl, tt)))),
          plain_list IsMoneyLine operator_value plain_operator b.operators h.operators.1,
          (
            refl,
            (refl, (refl, (refl, (refl, (refl, tt))))),
            plain_list IsAmountLine provider_value plain_provider b.providers h.providers.1,
            (
              refl,
              (refl, (refl, (refl, (refl, (refl, (refl, tt)))))),
              omega (arith, h.heading),
              (
                refl,
                (refl, (refl, (refl, (refl, (refl, (refl, (refl, tt))))))),
                omega (arith, h.heading),
                (
                  refl,
                  (refl, (refl, (refl, (refl, (refl, (refl, (refl, (refl, tt)))))))),
                  plain_list ItemFits item_value plain_item b.tree h.tree.1,
                  (
                    refl,
                    (refl, (refl, (refl, (refl, (refl, (refl, (refl, (refl, (refl, tt))))))))),
                    omega (arith, h.welfare),
                    (
                      refl,
                      (refl, (refl, (refl, (refl, (refl, (refl, (refl, (refl, (refl, (refl, tt)))))))))),
                      plain_list (λ z. InRange (line.Zone z)) zone_value plain_zone b.zones h.zones.1,
                      tt,
                    ),
                  ),
                ),
              ),
            ),
          ),
        ),
      ),
    ),
  ),
)

plain_block : (b : Block) → BlockFits b → IsPlain (block_value b)
plain_block b h = grind (arith, plain_full, plain_kind)

plain_totals : (os : List MoneyLine) (ps : List AmountLine) → SumsFit os ps → IsPlain (totals_value os ps)
plain_totals os ps h = (
  refl,
  tt,
  plain_list IsMoneyLine operator_value plain_operator os h.0.1,
  (
    refl,
    (refl, tt),
    plain_list IsAmountLine provider_value plain_provider ps h.1.1,
    tt,
  ),
)

pub plain_part : (p : Part) → PartFits p → IsPlain (part_value p)
plain_part p h = grind (arith, plain_name, plain_block, plain_totals)

-- ---- the text of a part

pub line_is : (p : Part) → PartFits p → IsLineOf (json_of p) p
line_is p fits = grind (arith, plain_part, plain_utf8, read_plain, shallow_part, one_line)
