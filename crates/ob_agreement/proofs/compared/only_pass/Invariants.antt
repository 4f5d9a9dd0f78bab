-- What was found is all that the passes so far have of the seat.
use Rattle.std.proofs.Common.{◌≡◌, take}
use Rattle.std.specs.Option.{option_to_list}
use Rattle.std.specs.Prelude.{option_copied}
use Rattle.ob_agreement.specs.Agreement.{passes_of}
use Rattle.ob_agreement.proofs.compared.only_pass.Given as goal

abbrev pub invariant-loop-pass : goal.invariant-loop-pass
invariant-loop-pass g l = passes_of l.seat (take l.pass-index l.passes) ≡ option_to_list (option_copied l.found)
