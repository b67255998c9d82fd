use Rattle.item_laws.proofs.Faults.{faults_told}
use Rattle.item_laws.proofs.item_faults_are_told.Goals as goal

pub returns : goal.returns
returns c = faults_told
