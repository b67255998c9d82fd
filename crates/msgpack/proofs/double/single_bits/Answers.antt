use Rattle.std.proofs.Common.{◌≡◌, ℕ, ◌%◌, ◌<◌, ◌≤◌, cond, sym, ap, ◌∙◌, arith}
use lib.Ieee.{binary32, binary64, of_bits, to_bits}
use lib.Ieee.Bits.{nan_bits_above}
use Rattle.std.proofs.lemmas.Bool.{lt-ltb, le-ltb}
use Rattle.msgpack.specs.Doubles.{widened, widened_nan}
use Rattle.msgpack.proofs.double.single_bits.Goals as goal

module _ (b : ℕ) where
  wide_nan : 2139095040 < b % 2147483648 → widened b ≡ widened_nan b
  wide_nan h = ap (λ t. cond t (widened_nan b) (to_bits binary64 (of_bits binary32 b))) (nan_bits_above binary32 b ∙ lt-ltb 2139095040 (b % 2147483648) h)

  wide_value : b % 2147483648 ≤ 2139095040 → widened b ≡ to_bits binary64 (of_bits binary32 b)
  wide_value h = ap (λ t. cond t (widened_nan b) (to_bits binary64 (of_bits binary32 b))) (nan_bits_above binary32 b ∙ le-ltb 2139095040 (b % 2147483648) h)

pub returns-then-bits-gt2139095040 : goal.returns-then-bits-gt2139095040
returns-then-bits-gt2139095040 c = c.nan_bits.ensures ∙ sym (wide_nan c.args.bits (omega arith))

pub returns : goal.returns
returns c =
    c.f64_to_bits_with_nan.ensures
    ∙ ap (to_bits binary64) (c.f32_to_f64_with_nan.ensures ∙ c.f32_from_bits_with_nan.ensures)
    ∙ sym (wide_value c.args.bits (omega arith))
