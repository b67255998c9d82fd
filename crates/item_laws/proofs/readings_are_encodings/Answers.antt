use Rattle.item_laws.proofs.Complete.{encodings_read}
use Rattle.item_laws.proofs.Sound.{reads_encodings}
use Rattle.item_laws.proofs.readings_are_encodings.Goals as goal

pub returns : goal.returns
returns c = record { sound = reads_encodings; complete = encodings_read }
