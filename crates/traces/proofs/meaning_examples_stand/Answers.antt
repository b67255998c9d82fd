use Rattle.std.proofs.Common.{refl}
use Rattle.msgpack.specs.Text.{utf8}
use Rattle.names.specs.Keys.{key_with}
use Rattle.traces.proofs.meaning_examples_stand.Goals as goal

pub returns : goal.returns
unfolding utf8 key_with
returns c = (refl, refl, refl, refl)
