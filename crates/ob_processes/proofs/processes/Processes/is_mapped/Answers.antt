-- A directory is the one of a map exactly where it is that of a live process.
use Rattle.std.proofs.Common.{◌∙◌, ap}
use Rattle.std.specs.List.{list_any}
use Rattle.ob_processes.proofs.Mapped.{has_map, mapped_seen}
use Rattle.ob_processes.proofs.Seen.{processes_now}
use Rattle.ob_processes.proofs.processes.Processes.is_mapped.Goals as goal

pub returns : goal.returns
returns g c =
    mapped_seen c.self.inside.maps c.self.inside.live.entries c.self.invariant.mapped c.args.directory c.is_mapped.result (c.is_mapped.ensures.0) (c.is_mapped.ensures.1)
    ∙ ap (list_any (has_map c.args.directory)) (processes_now c.self.inside.maps c.self.inside.live.entries c.self.inside.total c.self.invariant.running c.args.self.now c.self.view_is)
