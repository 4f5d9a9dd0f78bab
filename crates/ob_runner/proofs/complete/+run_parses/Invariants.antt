-- Each parse that follows leaves fewer reparses.
use Rattle.ob_runner.proofs.Fewer.{left_to}
use Rattle.ob_runner.proofs.complete.+run_parses.Given as goal

abbrev pub decreases-run_parses : goal.decreases-run_parses
decreases-run_parses g l = left_to l.core.now l.parsing.ticket
