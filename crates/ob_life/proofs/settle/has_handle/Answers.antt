-- An object has a handle exactly where the count of its handles isn't 0.
use Rattle.std.proofs.Common.{◌∙◌, ◌==◌, ap}
use Rattle.std.specs.Prelude.{nat_lt}
use Rattle.ob_space.proofs.Handles.{any_counted}
use Rattle.ob_life.proofs.settle.has_handle.Goals as goal

pub returns : goal.returns
returns g c = ap (nat_lt 0) c.count_of.ensures ∙ any_counted (λ h. h.object == c.args.id) c.args.processes.now.handles
