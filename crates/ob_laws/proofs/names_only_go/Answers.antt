-- Each step keeps the rows that it had or lacks, and a new one has the next id.
use Rattle.ob_laws.proofs.Names.{names_only_go}
use Rattle.ob_laws.proofs.names_only_go.Goals as goal

pub returns : goal.returns
returns g c = names_only_go _ _ _ _
