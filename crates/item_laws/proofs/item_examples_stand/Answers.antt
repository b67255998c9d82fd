use Rattle.std.proofs.Common.{refl}
use lib.Ieee.{of_int, of_bits, to_bits, nan_bits}
use Rattle.msgpack.specs.Text.{utf8}
use Rattle.item_laws.proofs.item_examples_stand.Goals as goal

pub returns : goal.returns
unfolding of_int of_bits to_bits nan_bits utf8
returns c = record { written = (refl, refl, refl, refl, refl); integers = (refl, refl); doubles = (refl, refl, refl, refl, refl); texts = (refl, refl) }
