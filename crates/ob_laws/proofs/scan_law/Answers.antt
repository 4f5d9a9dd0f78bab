-- Each page is a front of what is left, and what is left lies behind the context.
use Rattle.ob_laws.proofs.ScanSteps.{scans_are_whole}
use Rattle.ob_laws.proofs.scan_law.Goals as goal

pub returns : goal.returns
returns g c = scans_are_whole
