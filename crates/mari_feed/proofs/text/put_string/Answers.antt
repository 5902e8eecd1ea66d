use Rattle.std.proofs.Common.{◌≡◌, ◌++◌, List, ℕ, subst, sym}
use Rattle.std.specs.Result.{OnOk}
use Rattle.mari_lines.proofs.Appended.{after_three}
use Rattle.mari_feed.proofs.Plain.{quoted_plain}
use Rattle.mari_feed.proofs.text.put_string.Goals as goal

pub returns : goal.returns
returns c =
    let P : List ℕ → Type 0 = λ q. OnOk c.put-3.result (c.put-3.new.text.items ≡ c.args.text.now.items ++ q) in
    subst P (sym (quoted_plain c.args.string.now c.requires)) (after_three _ _ _ _ _ _ _ _ c.in_ok-put.ensures.put c.in_ok-put-2.ensures.put c.put-3.ensures.put)
