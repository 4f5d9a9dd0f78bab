-- An end that the step leads to ends the run, and the rest that is left gets shorter.
use Rattle.ob_types.specs.Runs.{IfStepMade, Leads}
use Rattle.ob_types.proofs.Runs.{steps_left}
use Rattle.ob_types.proofs.run.run_parse.Given as goal

abbrev pub invariant-loop-step : goal.invariant-loop-step
invariant-loop-step g l = record {
  leads : Leads g.T.TypeSet.procedures l.face l.rest l.step;
  idle : IfStepMade l.step (λ _ inner. g.T.TypeSet.idle inner);
}

abbrev pub decreases-loop-step : goal.decreases-loop-step
decreases-loop-step g l = steps_left l.step
