use Rattle.msgpack.proofs.Table.{decides_each, rises, one_row}
use Rattle.msgpack.proofs.marker.overview_decides.Goals as goal

pub returns : goal.returns
returns c = record { tells = decides_each; rises = rises; one = one_row }
