-- Doubles by the 64 bits of IEEE 754's binary64. Assumes nothing.
use Rattle.std.specs.Prelude.{ℕ, ◌+◌, ◌*◌, ◌/◌, ◌%◌, ◌^◌, cond, ℤ, from_bits, to_bits}
use Rattle.std.specs.Float.{binary32, binary64}
use Rattle.std.specs.Float.Ieee.{of_int, nan_bits}

-- the double nearest to an integer, at a tie the one with an even last digit
abbrev pub nearest_double : ℤ → ℕ
nearest_double z = to_bits binary64 (of_int binary64 z)

-- a NaN of these bits of binary32: the same sign, the quiet bit, and the payload at the top of the wider field
abbrev pub widened_nan : ℕ → ℕ
widened_nan b = b / 2 ^ 31 * 2 ^ 63 + 0x7ff8 * 2 ^ 48 + b % 2 ^ 22 * 2 ^ 29

-- the double that has the value of these bits of binary32
abbrev pub widened : ℕ → ℕ
widened b = cond (nan_bits binary32 b) (widened_nan b) (to_bits binary64 (from_bits binary32 b))
