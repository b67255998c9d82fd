-- Ranges of integers. Assumes nothing.
use Rattle.std.specs.Prelude.{ℕ, List, ℤ, Option}
use Rattle.items.specs.declared.fault.ItemFault.{ItemFault}
use Rattle.items.specs.declared.number.Number.{Number}
use Rattle.items.specs.Items.{in_range, integer_of, an_integer}
use Rattle.items.specs.Reads.{Outcome}

-- the integers from low to high
pub record Range : Type 0 where
  pub low : ℤ
  pub high : ℤ

module _ (range : Range) where
  -- an integer, where it is in the range
  abbrev pub held_in : ℤ → Option ℤ
  held_in = in_range range.low range.high

  -- the integer of a number, where it has one in the range
  abbrev pub number_in : Number → Option ℤ
  number_in = integer_of range.low range.high

  -- the reading of an integer in the range
  abbrev pub integer_in : List ℕ → ℕ → Outcome ItemFault ℤ
  integer_in = an_integer range.low range.high
