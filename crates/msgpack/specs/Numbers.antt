-- Numbers as bytes: big-endian, two's complement. Assumes nothing.
use Rattle.std.specs.Prelude.{ℕ, zero, suc, ◌-◌, ◌*◌, ◌/◌, ◌%◌, ◌^◌, cond, List, [], ◌∷◌, ◌++◌, ℤ, pos, negsuc, nat_lt}
use Rattle.std.specs.Int.Digits.{number_from_digits}
use Rattle.msgpack.specs.declared.marker.Width.{Width}
use Rattle.msgpack.specs.declared.marker.Width.TheVariants.{One, Two, Four, Eight}

-- the bytes that a length or a number takes
abbrev pub wide : Width → ℕ
wide One = 1
wide Two = 2
wide Four = 4
wide Eight = 8

-- the number that bytes write, the highest first: they are digits to the base 256
abbrev pub big : List ℕ → ℕ
big bytes = number_from_digits 256 bytes

-- the k lowest digits of a number to the base 256, the highest first
abbrev pub digits : ℕ → ℕ → List ℕ
digits zero n = []
digits (suc k) n = digits k (n / 256) ++ (n % 256 ∷ [])

-- the number that n stands for in two's complement of so many bytes
abbrev pub twos : ℕ → ℕ → ℤ
twos k n = cond (nat_lt n (2 ^ (8 * k - 1))) (pos n) (negsuc (256 ^ k - suc n))
