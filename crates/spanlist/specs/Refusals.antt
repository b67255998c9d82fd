-- The numbers of a listing's refusals. Assumes nothing.
use Rattle.std.specs.Prelude.{ℕ, Some, None, Option}
use Rattle.items.specs.Faults.{cause_number}
use Rattle.spanlist.specs.declared.refusal.Refusal.{Refusal}
use Rattle.spanlist.specs.declared.refusal.Refusal.TheVariants as refusal

abbrev pub refusal_number : Refusal → Option ℕ
refusal_number (refusal.Fault f) = Some (cause_number f.fault.item.cause)
refusal_number refusal.Shortage = Some 6
refusal_number refusal.TooLong = Some 8
refusal_number refusal.Memory = None
