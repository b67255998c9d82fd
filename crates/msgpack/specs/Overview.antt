-- MessagePack's format overview: which format each first byte begins. Assumes nothing.
use Rattle.std.specs.Prelude.{◌≡◌, ℕ, suc, ◌+◌, ◌-◌, ◌<◌, ◌≤◌, cond, ◌&&◌, List, [], ◌∷◌, length, ◌==◌, nat_le, nat_lt}
use Rattle.msgpack.specs.declared.marker.Width.{Width}
use Rattle.msgpack.specs.declared.marker.Width.TheVariants.{One, Two, Four, Eight}
use Rattle.msgpack.specs.declared.marker.Marker.{Marker}
use Rattle.msgpack.specs.declared.marker.Marker.TheVariants.{PositiveFixint, FixMap, FixArray, FixStr, Nil, NeverUsed, False, True, Bin, Ext, Float, Uint, Int, FixExt, Str, Array, Map, NegativeFixint}

-- a row of the overview: its last first byte, and what a first byte in it says
pub record Row : Type 0 where
  pub last : ℕ
  pub says : ℕ → Marker

-- a row of one first byte
abbrev pub only : ℕ → Marker → Row
only b m = record { last = b; says = λ _. m }

-- the 37 rows, each from behind the one above to its last first byte
abbrev pub overview : List Row
overview =
    record { last = 0x7f; says = λ b. PositiveFixint b } ∷
    record { last = 0x8f; says = λ b. FixMap (b - 0x80) } ∷
    record { last = 0x9f; says = λ b. FixArray (b - 0x90) } ∷
    record { last = 0xbf; says = λ b. FixStr (b - 0xa0) } ∷
    only 0xc0 Nil ∷
    only 0xc1 NeverUsed ∷
    only 0xc2 False ∷
    only 0xc3 True ∷
    only 0xc4 (Bin One) ∷
    only 0xc5 (Bin Two) ∷
    only 0xc6 (Bin Four) ∷
    only 0xc7 (Ext One) ∷
    only 0xc8 (Ext Two) ∷
    only 0xc9 (Ext Four) ∷
    only 0xca (Float Four) ∷
    only 0xcb (Float Eight) ∷
    only 0xcc (Uint One) ∷
    only 0xcd (Uint Two) ∷
    only 0xce (Uint Four) ∷
    only 0xcf (Uint Eight) ∷
    only 0xd0 (Int One) ∷
    only 0xd1 (Int Two) ∷
    only 0xd2 (Int Four) ∷
    only 0xd3 (Int Eight) ∷
    only 0xd4 (FixExt 1) ∷
    only 0xd5 (FixExt 2) ∷
    only 0xd6 (FixExt 4) ∷
    only 0xd7 (FixExt 8) ∷
    only 0xd8 (FixExt 16) ∷
    only 0xd9 (Str One) ∷
    only 0xda (Str Two) ∷
    only 0xdb (Str Four) ∷
    only 0xdc (Array Two) ∷
    only 0xdd (Array Four) ∷
    only 0xde (Map Two) ∷
    only 0xdf (Map Four) ∷
    record { last = 0xff; says = λ b. NegativeFixint b } ∷ []

-- the first row that reaches the byte
abbrev pub decided : List Row → ℕ → Marker
decided [] b = NeverUsed
decided (r ∷ rs) b = cond (nat_le b r.last) (r.says b) (decided rs b)

-- what a first byte says
abbrev pub marker : ℕ → Marker
marker b = decided overview b

-- the way back: the first byte of each format

abbrev pub widths : ℕ → ℕ → ℕ → ℕ → Width → ℕ
widths one two four eight One = one
widths one two four eight Two = two
widths one two four eight Four = four
widths one two four eight Eight = eight

-- no first byte
abbrev pub none : ℕ
none = 256

abbrev pub first_byte : Marker → ℕ
first_byte (PositiveFixint n) = cond (nat_lt n 0x80) n none
first_byte (FixMap n) = cond (nat_lt n 0x10) (0x80 + n) none
first_byte (FixArray n) = cond (nat_lt n 0x10) (0x90 + n) none
first_byte (FixStr n) = cond (nat_lt n 0x20) (0xa0 + n) none
first_byte Nil = 0xc0
first_byte NeverUsed = 0xc1
first_byte False = 0xc2
first_byte True = 0xc3
first_byte (Bin w) = widths 0xc4 0xc5 0xc6 none w
first_byte (Ext w) = widths 0xc7 0xc8 0xc9 none w
first_byte (Float w) = widths none none 0xca 0xcb w
first_byte (Uint w) = widths 0xcc 0xcd 0xce 0xcf w
first_byte (Int w) = widths 0xd0 0xd1 0xd2 0xd3 w
first_byte (FixExt n) = cond (n == 1) 0xd4 (cond (n == 2) 0xd5 (cond (n == 4) 0xd6 (cond (n == 8) 0xd7 (cond (n == 16) 0xd8 none))))
first_byte (Str w) = widths 0xd9 0xda 0xdb none w
first_byte (Array w) = widths none 0xdc 0xdd none w
first_byte (Map w) = widths none 0xde 0xdf none w
first_byte (NegativeFixint b) = cond (nat_le 0xe0 b) b none

-- a first byte can be told from what its row says
abbrev pub DecidesEach : Type 0
DecidesEach = (b : ℕ) → b < 256 → first_byte (marker b) ≡ b

-- the rows begin at this byte, each ends behind the one above, and the last ends at 0xff
abbrev pub Rising : ℕ → List Row → Type 0
Rising start [] = start ≡ 256
Rising start (r ∷ rs) = (start ≤ r.last) × Rising (suc r.last) rs

abbrev pub Rises : Type 0
Rises = (length overview ≡ 37) × Rising 0 overview

-- how many of the rows hold the byte, where the first begins at start
abbrev pub rows_of : ℕ → ℕ → List Row → ℕ
rows_of b start [] = 0
rows_of b start (r ∷ rs) = cond (nat_le start b && nat_le b r.last) 1 0 + rows_of b (suc r.last) rs

-- each first byte stands in one row alone
abbrev pub OneRow : Type 0
OneRow = (b : ℕ) → b < 256 → rows_of b 0 overview ≡ 1
