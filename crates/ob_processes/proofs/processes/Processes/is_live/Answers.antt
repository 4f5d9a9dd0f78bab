-- A number that is there is that of a live process.
use Rattle.std.proofs.Common.{◌∙◌, refl}
use Rattle.ob_processes.proofs.Entries.{at}
use Rattle.ob_processes.proofs.Seen.{live_seen}
use Rattle.ob_processes.proofs.processes.Processes.is_live.Goals as goal

pub returns : goal.returns
returns g c =
    c.contains_key.ensures
    ∙ live_seen c.self.inside.maps c.self.inside.live.entries c.self.inside.total c.self.invariant.running c.args.self.now c.self.view_is c.process.inside.0 c.args.process c.process.view_is
    (at c.self.inside.live.entries c.process.inside.0) refl
