-- The handles of the process and the counts stay, and so does all that is seen.
use Rattle.std.proofs.Common.{◌∙◌, refl, ap, sym}
use Rattle.std.specs.Option.{option_copied_mut}
use Rattle.ob_processes.proofs.Kept.{counted_same}
use Rattle.ob_processes.proofs.Written.{seen_same}
use Rattle.ob_processes.proofs.processes.Processes.reserve.Goals as goal

pub invariant_of-self-2 : goal.invariant_of-self-2
invariant_of-self-2 g c = counted_same c.self.inside.maps c.self.inside.live.entries c.self.inside.total c.self.inside.counts c.self.invariant c.args.self.now c.self.view_is c.process.inside.0 c.args.process c.process.view_is c.in-Some.live.now
    (sym c.get_mut.ensures.value ∙ ap option_copied_mut c.in-Some.is)
    (c.get_mut.follows.lender c.reserve.new.self).entries c.reserve.new.self ((c.get_mut.follows.holds c.reserve.new.self).0)
    c.self.inside.counts c.reserve.ensures refl

pub returns : goal.returns
returns g c = seen_same c.self.inside.maps c.self.inside.live.entries c.self.inside.total c.self.invariant.running c.args.self.now c.self.view_is c.process.inside.0 c.args.process c.process.view_is c.in-Some.live.now
    (sym c.get_mut.ensures.value ∙ ap option_copied_mut c.in-Some.is)
    (c.get_mut.follows.lender c.reserve.new.self).entries c.reserve.new.self ((c.get_mut.follows.holds c.reserve.new.self).0)
    c.reserve.ensures
