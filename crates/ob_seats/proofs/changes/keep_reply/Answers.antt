-- A child's process variable is set, and then its own variables.
use Rattle.std.proofs.Common.{ap}
use Rattle.ob_lines.specs.Changes.{change_seen}
use Rattle.ob_requests.specs.Tables.{variables_in}
use Rattle.ob_seats.proofs.Children.{child_changed}
use Rattle.ob_seats.proofs.changes.keep_reply.Goals as goal

pub returns-in-SetsProcess-clause-changed : goal.returns-in-SetsProcess-clause-changed
returns-in-SetsProcess-clause-changed c =
    child_changed c.begin_child.result (change_seen c.args.change) c.args.process c.args.reply.now c.in-SetsProcess.process.now c.in-SetsProcess.inherit (variables_in c.args.variables.now)
    (variables_in c.apply.new.self) (variables_in c.begin_child.new.variables) (ap change_seen c.in-SetsProcess.is) c.apply.ensures.applied c.begin_child.ensures.begun
