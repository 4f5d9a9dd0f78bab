use Rattle.ob_plain.proofs.FirstCalls.{none_then_kept, none_then_lost}
use Rattle.ob_plain.proofs.calls.first_calls_are_kept.Goals as goal

pub returns : goal.returns
returns c = record { kept = none_then_kept; lost = none_then_lost }
