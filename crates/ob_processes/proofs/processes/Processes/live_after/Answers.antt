-- What comes first in the range above a number is that of the next process.
use Rattle.std.proofs.Common.{◌∙◌, ap, sym, option_map, slice_get}
use Rattle.ob_processes.proofs.Seen.{next_seen}
use Rattle.ob_processes.proofs.processes.Processes.live_after.Goals as goal

pub returns-in_err-number : goal.returns-in_err-number
returns-in_err-number g c =
    c.from_residual.ensures
    ∙ ap (λ es. option_map (λ e. e.0) (slice_get es 0)) (sym c.in_err-number.ensures.steps.0)
    ∙ next_seen c.self.inside.maps c.self.inside.live.entries c.self.inside.total c.self.invariant.running c.args.self.now c.self.view_is c.process.inside.0 c.args.process c.process.view_is
    c.range.result (c.range.ensures.between tt)

pub returns : goal.returns
returns g c =
    ap (λ es. option_map (λ e. e.0) (slice_get es 0)) (sym c.in_ok-number.ensures.steps)
    ∙ next_seen c.self.inside.maps c.self.inside.live.entries c.self.inside.total c.self.invariant.running c.args.self.now c.self.view_is c.process.inside.0 c.args.process c.process.view_is
    c.range.result (c.range.ensures.between tt)
