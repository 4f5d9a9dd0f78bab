use Rattle.ob_rows.proofs.Counted.{counts_account}
use Rattle.ob_rows.proofs.change.counts_account_for_all.Goals as goal

pub returns : goal.returns
returns c = counts_account
