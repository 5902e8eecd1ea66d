-- The value of a part in range is plain and nests four levels at most, so its text is one line that is JSON of it.
use Rattle.std.proofs.Common.{◌≡◌, ◌≤◌, ℕ, List, [], ◌∷◌, refl, arith}
use Rattle.serde_json.specs.Data.{depth}
use Rattle.serde_json.specs.Read.{max_depth}
use Rattle.mari_market.specs.Price.{IsCapped}
use Rattle.mari_lines.specs.Ranges.{InRange, IsAmountLine, IsMoneyLine}
use Rattle.mari_lines.specs.declared.line.Line.TheVariants as line
use Rattle.mari_market.specs.declared.certificate.Leaf.TheVariants as leaf
use Rattle.mari_market.specs.declared.certificate.TreeItem.TheVariants as items
use Rattle.mari_publish.specs.declared.publication.Part.TheVariants as first
use Rattle.mari_reach_lines.specs.Ranges.{IsClaim}
use Rattle.mari_reach_lines.specs.declared.line.Claim.{Claim}
use Rattle.mari_reach_lines.specs.declared.line.Claim.TheVariants.{First, Within}
use Rattle.mari_reach_text.specs.Texts.{NamedFits}
use Rattle.mari_reach_text.specs.declared.kept.ReachPart.{ReachPart}
use Rattle.mari_reach_text.specs.declared.kept.ReachPart.TheVariants as parts
use Rattle.mari_reach_text.specs.declared.named.NamedBlock.{NamedBlock}
use Rattle.mari_reach_text.specs.declared.named.NamedItem.{NamedItem}
use Rattle.mari_reach_text.specs.declared.named.NamedItem.TheVariants as named
use Rattle.mari_feed.specs.Ranges.{FitsButTree}
use Rattle.mari_feed.specs.Values.{bid_value, border_value, natural, operator_value, price_value, provider_value, zone_value}
use Rattle.mari_feed.proofs.Plain.{IsPlain, one_line, plain_utf8, read_plain}
use Rattle.mari_feed.proofs.Plainly.{plain_bid, plain_border, plain_item, plain_kind, plain_list, plain_money, plain_mw, plain_name}
use Rattle.mari_feed.proofs.Plainly.{plain_operator, plain_part, plain_price, plain_provider, plain_zone}
use Rattle.mari_feed.proofs.Shallow.{lines, numbers, shallow_item, shallow_list, shallow_part}
use Rattle.mari_reach_feed.specs.Texts.{IsReachLine, NamedItemFits, ReachPartFits}
use Rattle.mari_reach_feed.specs.Values.{gap_value, named_block_value, named_value, reach_json_of, reach_part_value}

pub but_tree : (b : NamedBlock) → NamedFits b → FitsButTree b.block
but_tree b h = record {
  heading = h.heading;
  welfare = h.welfare;
  zones = h.zones;
  borders = h.borders;
  bids = h.bids;
  demands = h.demands;
  operators = h.operators;
  providers = h.providers;
}

-- ---- plain values

plain_gap : (c : Claim) → IsClaim c → IsPlain (gap_value c)
plain_gap First h = tt
plain_gap (Within gap) h = plain_money gap h.0

plain_named : (i : NamedItem) → NamedItemFits i → IsPlain (named_value i)
plain_named (named.Gate bid) h = (refl, tt, plain_name bid h, tt)
plain_named (named.Price zone price) h = (refl, tt, plain_price price h.1, (refl, (refl, tt), plain_name zone h.0, tt))
plain_named named.Void h = refl
plain_named (named.Bound potentials) h = plain_item (items.Leaf (leaf.Bound potentials)) (h.0, tt)
plain_named (named.Cut cut) h = plain_item (items.Leaf (leaf.Cut cut)) (h.0, tt)

plain_block : (b : NamedBlock) → NamedFits b → IsPlain (named_block_value b)
plain_block b h = (
  refl,
  tt,
  plain_list (λ x. InRange (line.Bid x)) bid_value plain_bid b.block.bids h.bids.1,
  (
    refl,
    (refl, tt),
    plain_list (λ x. InRange (line.Border x)) border_value plain_border b.block.borders h.borders.1,
    (
      refl,
      (refl, (refl, tt)),
      plain_list (λ mw. mw ≤ 99999) natural plain_mw b.block.demands h.demands.1,
      (
        refl,
        (refl, (refl, (refl, tt))),
        plain_gap b.claim h.claim,
        (
          refl,
          (refl, (refl, (refl, (refl, tt)))),
          plain_kind b.block.heading.direct,
          (
            refl,
            (refl, (refl, (refl, (refl, (refl, tt))))),
            plain_list IsMoneyLine operator_value plain_operator b.block.operators h.operators.1,
            (
              refl,
              (refl, (refl, (refl, (refl, (refl, (refl, tt)))))),
              plain_list IsAmountLine provider_value plain_provider b.block.providers h.providers.1,
              (
                refl,
                (refl, (refl, (refl, (refl, (refl, (refl, (refl, tt))))))),
                omega (arith, h.heading),
                (
                  refl,
                  (refl, (refl, (refl, (refl, (refl, (refl, (refl, (refl, tt)))))))),
                  omega (arith, h.heading),
                  (
                    refl,
                    (refl, (refl, (refl, (refl, (refl, (refl, (refl, (refl, (refl, tt))))))))),
                    plain_list NamedItemFits named_value plain_named b.tree h.tree.1,
                    (
                      refl,
                      (refl, (refl, (refl, (refl, (refl, (refl, (refl, (refl, (refl, (refl, tt)))))))))),
                      omega (arith, h.welfare),
                      (
                        refl,
                        (refl, (refl, (refl, (refl, (refl, (refl, (refl, (refl, (refl, (refl, (refl, tt))))))))))),
                        plain_list (λ z. InRange (line.Zone z)) zone_value plain_zone b.block.zones h.zones.1,
                        tt,
                      ),
                    ),
                  ),
                ),
              ),
            ),
          ),
        ),
      ),
    ),
  ),
)

plain_value : (x : ReachPart) → ReachPartFits x → IsPlain (reach_part_value x)
plain_value (parts.Head date quarters budget) h = plain_part (first.Head date quarters budget) h
plain_value (parts.Block b) h = plain_block b h
plain_value (parts.Totals operators providers) h = plain_part (first.Totals operators providers) h

-- ---- levels

shallow_gap : (c : Claim) → depth (gap_value c) ≡ 0
shallow_gap First = refl
shallow_gap (Within gap) = refl

shallow_named : (i : NamedItem) → depth (named_value i) ≤ 2
shallow_named (named.Gate bid) = omega arith
shallow_named (named.Price zone price) = omega arith
shallow_named named.Void = omega arith
shallow_named (named.Bound potentials) = shallow_item (items.Leaf (leaf.Bound potentials))
shallow_named (named.Cut cut) = shallow_item (items.Leaf (leaf.Cut cut))

shallow_block : (b : NamedBlock) → depth (named_block_value b) ≤ max_depth
shallow_block b = omega (
  arith,
  lines bid_value (λ _. refl) b.block.bids,
  lines border_value (λ _. refl) b.block.borders,
  numbers natural (λ _. refl) b.block.demands,
  shallow_gap b.claim,
  lines operator_value (λ _. refl) b.block.operators,
  lines provider_value (λ _. refl) b.block.providers,
  shallow_list named_value 2 shallow_named b.tree,
  lines zone_value (λ _. refl) b.block.zones,
)

shallow_value : (x : ReachPart) → depth (reach_part_value x) ≤ max_depth
shallow_value (parts.Head date quarters budget) = shallow_part (first.Head date quarters budget)
shallow_value (parts.Block b) = shallow_block b
shallow_value (parts.Totals operators providers) = shallow_part (first.Totals operators providers)

-- ---- the text of a part

pub reach_line_is : (x : ReachPart) → ReachPartFits x → IsReachLine (reach_json_of x) x
reach_line_is x fits =
    let plain = plain_value x fits in
    record {
      json = record { utf8 = plain_utf8 (reach_part_value x) plain; reads = read_plain (reach_part_value x) plain (shallow_value x) };
      one = one_line (reach_part_value x) plain;
    }
