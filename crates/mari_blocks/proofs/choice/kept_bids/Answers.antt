use Rattle.std.proofs.Common.{◌≡◌, ◌∙◌, ◌++◌, ◌∷◌, [], ℕ, Bool, List, Option, Some, None, false, get_or, refl, sym, ap, rules}
use Rattle.std.specs.Prelude.{not}
use Rattle.std.specs.Option.{option_map_or}
use Rattle.std.proofs.lemmas.List.{append-nil, get_or_default}
use Rattle.mari_remain.proofs.Choosing.{filter-take}
use Rattle.mari_blocks.specs.Blocks.{block_at}
use Rattle.mari_blocks.specs.Joint.{is_left_out}
use Rattle.mari_blocks.proofs.choice.kept_bids.Goals as goal
use Rattle.mari_blocks.proofs.choice.kept_bids.Goals.{then-not-is_out+in_ok-push, else-not-is_out}

-- marks of blocks state what they mark
same-marks : (f g : ℕ → Bool) → ((block : ℕ) → f block ≡ g block) → (o : Option ℕ) → option_map_or f o false ≡ option_map_or g o false
same-marks f g same None = refl
same-marks f g same (Some block) = same block

pub loop-bid-preserved : goal.loop-bid-preserved
loop-bid-preserved c =
    let blocks = c.args.blocks.now in
    let offered = c.args.offered.now in
    let k = c.loop-bid.bid-index in
    let bid : ℕ = get_or offered k 0 in
    let stays : ℕ → Bool = λ bid. not (option_map_or (is_left_out blocks offered) (block_at blocks bid) false) in
    let more = filter-take stays offered k bid c.loop-bid-test.true (get_or_default offered k bid 0 c.loop-bid-test.true) in
    let out : c.is_out.result ≡ option_map_or (is_left_out blocks offered) (block_at blocks bid) false =
    c.is_out.ensures ∙ ap (λ (marks : List Bool). option_map_or (λ block. get_or marks block false) (block_at blocks bid) false) c.deref.ensures.value
    ∙ same-marks (λ block. get_or c.in_ok-out.out.items block false) (is_left_out blocks offered) c.in_ok-out.ensures (block_at blocks bid) in
    elim c.if-not-is_out.branch [
      | then-not-is_out+in_ok-push w ↦ (
          let pushed : w.push.new.self.items ≡ c.loop-bid.numbers.items ++ bid ∷ [] = search rules in
          rw (w.numbers-is, pushed, c.loop-bid.invariant, more) (rw (sym out ∙ w.if-not-is_out.true) refl))
      | else-not-is_out w ↦ rw (w.numbers-is, c.loop-bid.invariant, more) (sym (rw (sym out ∙ w.if-not-is_out.false) (append-nil _)))
    ]
