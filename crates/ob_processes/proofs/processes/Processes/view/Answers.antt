-- The map under a number is that of the process of this number.
use Rattle.std.proofs.Common.{◌∙◌, ◌<◌, refl, subst}
use Rattle.std.specs.List.{AllPairs}
use Rattle.ob_model.specs.declared.state.Process.{Process}
use Rattle.ob_processes.proofs.Seen.{map_seen, processes_now, numbers_rise}
use Rattle.ob_processes.proofs.processes.Processes.view.Goals as goal

pub returns-clause-local : goal.returns-clause-local
returns-clause-local g c =
    c.view.ensures.local
    ∙ map_seen c.self.inside.maps c.self.inside.live.entries c.self.inside.total c.self.invariant.running c.args.self.now c.self.view_is c.args.process c.args.process refl
    c.self.invariant.mapped

pub returns-clause-rising : goal.returns-clause-rising
returns-clause-rising g c =
    subst (AllPairs (λ (a : Process) b. a.number < b.number))
    (processes_now c.self.inside.maps c.self.inside.live.entries c.self.inside.total c.self.invariant.running c.args.self.now c.self.view_is)
    (numbers_rise c.self.inside.maps c.self.inside.live.entries c.self.invariant.running.numbers)
