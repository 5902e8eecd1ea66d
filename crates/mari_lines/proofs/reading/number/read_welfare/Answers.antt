use Rattle.std.proofs.Common.{ℕ, pos, ◌<◌, ◌^◌, arith}
use Rattle.std.specs.Fmt.{decimal, signed_decimal}
use Rattle.std.proofs.lemmas.Int.{ints}
use Rattle.std.proofs.lemmas.Result.{err_from_is_err_and}
use Rattle.mari_lines.proofs.NotRead.{handed_on}
use Rattle.mari_lines.proofs.reading.number.read_welfare.Goals as goal

pub returns-in_err-value : goal.returns-in_err-value
returns-in_err-value c =
    handed_on _ signed_decimal c.args.text.now (λ (n : ℕ). n < 2 ^ 63) decimal c.args.text.now _ c.from_residual.result
    (err_from_is_err_and c.from_residual.result c.from_residual.ensures.1) c.in_err-value.ensures (λ n r e. (pos n, (omega (arith, ints), omega (arith, ints)), e))
