-- Examples of items, written and read. Assumes nothing.
use Rattle.std.specs.Prelude.{◌≡◌, [], ◌∷◌, pos, negsuc}
use Rattle.msgpack.specs.Encodings.{written_integer}
use Rattle.items.specs.declared.fault.DecodeError.TheVariants.{InvalidConversion, InvalidType, Utf8Error}
use Rattle.items.specs.Items.{an_integer, a_double, a_text, at_item}
use Rattle.items.specs.Reads.{got}

-- -32, -33, 127, 128 and -1, in their shortest forms
abbrev pub WrittenExamples : Type 0
WrittenExamples =
    (written_integer (negsuc 31) ≡ 0xe0 ∷ []) × (written_integer (negsuc 32) ≡ 0xd0 ∷ 0xdf ∷ []) × (written_integer (pos 127) ≡ 0x7f ∷ [])
    × (written_integer (pos 128) ≡ 0xcc ∷ 0x80 ∷ []) × (written_integer (negsuc 0) ≡ 0xff ∷ [])

-- -1 and null, where a number from 0 to 2 ^ 64 - 1 is asked for
abbrev pub IntegerExamples : Type 0
IntegerExamples =
    (an_integer (pos 0) (pos 18446744073709551615) (0xff ∷ []) 0 ≡ at_item InvalidConversion 0)
    × (an_integer (pos 0) (pos 18446744073709551615) (0xc0 ∷ []) 0 ≡ at_item InvalidType 0)

-- 2 ^ 53 + 1 at a tie, 1.5, the least single, a signalling NaN, and 2 ^ 64 - 1
abbrev pub DoubleExamples : Type 0
DoubleExamples =
    (a_double (0xcf ∷ 0x00 ∷ 0x20 ∷ 0x00 ∷ 0x00 ∷ 0x00 ∷ 0x00 ∷ 0x00 ∷ 0x01 ∷ []) 0 ≡ got 0x4340000000000000 9)
    × (a_double (0xca ∷ 0x3f ∷ 0xc0 ∷ 0x00 ∷ 0x00 ∷ []) 0 ≡ got 0x3ff8000000000000 5)
    × (a_double (0xca ∷ 0x00 ∷ 0x00 ∷ 0x00 ∷ 0x01 ∷ []) 0 ≡ got 0x36a0000000000000 5)
    × (a_double (0xca ∷ 0xff ∷ 0x80 ∷ 0x00 ∷ 0x01 ∷ []) 0 ≡ got 0xfff8000020000000 5)
    × (a_double (0xcf ∷ 0xff ∷ 0xff ∷ 0xff ∷ 0xff ∷ 0xff ∷ 0xff ∷ 0xff ∷ 0xff ∷ []) 0 ≡ got 0x43f0000000000000 9)

-- a surrogate is no text, and the euro sign is one
abbrev pub TextExamples : Type 0
TextExamples =
    (a_text (0xa3 ∷ 0xed ∷ 0xa0 ∷ 0x80 ∷ []) 0 ≡ at_item Utf8Error 0)
    × (a_text (0xa3 ∷ 0xe2 ∷ 0x82 ∷ 0xac ∷ []) 0 ≡ got (record { content = 0xe2 ∷ 0x82 ∷ 0xac ∷ []; place = 0; start = 1 }) 4)
