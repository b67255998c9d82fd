-- The numbers of the causes of faults. Assumes nothing.
use Rattle.std.specs.Prelude.{ℕ}
use Rattle.items.specs.declared.fault.DecodeError.{DecodeError}
use Rattle.items.specs.declared.fault.DecodeError.TheVariants.{InvalidConversion, InvalidType, InvalidFormat, IOError, Utf8Error}

abbrev pub cause_number : DecodeError → ℕ
cause_number InvalidConversion = 1
cause_number InvalidType = 2
cause_number InvalidFormat = 3
cause_number IOError = 4
cause_number Utf8Error = 5
