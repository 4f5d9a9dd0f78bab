-- Bytes that stand where a process variable does, and are none, begin with no process variable.
use Rattle.std.proofs.lemmas.Bool.{both_ways}
use Rattle.ob_parts.specs.Text.{IsProcessVariable}
use Rattle.ob_parts.proofs.Readings.{moved}
use Rattle.ob_parts.proofs.Processed.{process_parts}
use Rattle.ob_parts.proofs.process.take_process.Goals as goal

pub returns-then-not-is_process_variable-clause-none : goal.returns-then-not-is_process_variable-clause-none
returns-then-not-is_process_variable-clause-none c = λ p r b.
    let same = process_parts _ _ _ p r c.in_ok-process.ensures.found.0 c.in_ok-process.ensures.found.1 b in
    both_ways _ c.if-not-is_process_variable.true (c.is_process_variable.ensures.1 (moved IsProcessVariable _ _ same.0 b.0))
