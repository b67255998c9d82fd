use Rattle.item_laws.proofs.Written.{written_read_back}
use Rattle.item_laws.proofs.written_items_are_read_back.Goals as goal

pub returns : goal.returns
returns c = written_read_back
