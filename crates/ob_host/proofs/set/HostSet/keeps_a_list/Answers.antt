use Rattle.std.proofs.Common.{ap, sym}
use Rattle.ob_host.proofs.set.HostSet.keeps_a_list.Goals as goal

pub returns : goal.returns
returns c = (_, sym (ap (λ set. set.deletions) c.self.view_is))
