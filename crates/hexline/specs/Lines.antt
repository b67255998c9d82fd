-- Lines of hexadecimal digits. Assumes nothing.
use Rattle.std.specs.Prelude.{ℕ, ◌+◌, ◌-◌, ◌*◌, ◌&&◌, nat_le, List, [], ◌∷◌, Option, Some, None, if◌then◌else◌}
use Rattle.std.specs.Option.{option_map}

-- the digit that a character is: 0 to 9, or a to f
abbrev pub digit_of : ℕ → Option ℕ
digit_of b = if nat_le 48 b && nat_le b 57 then Some (b - 48) else (if nat_le 97 b && nat_le b 102 then Some (b - 87) else None)

-- one more byte in front
abbrev pub with_byte : Option ℕ → Option ℕ → Option (List ℕ) → Option (List ℕ)
with_byte (Some high) (Some low) (Some bytes) = Some ((high * 16 + low) ∷ bytes)
with_byte (Some high) (Some low) None = None
with_byte (Some high) None more = None
with_byte None low more = None

-- the bytes that a line writes, two digits each, a last digit alone none; nothing if a character is no digit
abbrev pub bytes_in : List ℕ → Option (List ℕ)
bytes_in [] = Some []
bytes_in (a ∷ []) = option_map (λ d. []) (digit_of a)
bytes_in (a ∷ b ∷ cs) = with_byte (digit_of a) (digit_of b) (bytes_in cs)
