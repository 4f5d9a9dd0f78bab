-- What stands behind a front is what `strip_prefix` leaves.
use Rattle.ob_parts.proofs.Cuts.{behind_found, behind_none}
use Rattle.ob_parts.proofs.split.behind.Goals as goal

pub returns : goal.returns
returns c = record {
  found = behind_found c.args.bytes.now c.args.front.now c.strip_prefix.result c.strip_prefix.ensures.cases;
  none = behind_none c.args.bytes.now c.args.front.now c.strip_prefix.result c.strip_prefix.ensures.cases;
}
