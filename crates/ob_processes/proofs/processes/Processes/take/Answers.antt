-- The handle goes from the table of its process, and from all.
use Rattle.std.proofs.Common.{◌≡◌, ◌∙◌, ◌+◌, ◌-◌, if◌then◌else◌, length, None, ap, sym, subst, arith}
use Rattle.std.specs.Option.{option_copied_mut, is_some}
use Rattle.ob_processes.specs.Running.{handles_of}
use Rattle.ob_processes.proofs.Kept.{counted_fewer, counted_none}
use Rattle.ob_processes.proofs.Seen.{nothing_taken, get_seen}
use Rattle.ob_processes.proofs.Written.{get_of, seen_fewer, processes_fewer, kept_enough}
use Rattle.ob_processes.proofs.processes.Processes.take.Goals as goal

pub returns-in_err-live-clause-there : goal.returns-in_err-live-clause-there
returns-in_err-live-clause-there g c = c.from_residual.ensures ∙ get_seen c.self.inside.maps c.self.inside.live.entries c.self.inside.total c.self.invariant.running c.args.self.now c.self.view_is c.process.inside.0 c.args.process c.process.view_is None
    (sym c.get_mut.ensures.value ∙ ap option_copied_mut c.in_err-live.was) c.args.value

pub returns-in_err-live-clause-others : goal.returns-in_err-live-clause-others
returns-in_err-live-clause-others g c =
    ap (λ m. handles_of m.entries) c.get_mut.follows.holds-at-none
    ∙ nothing_taken c.self.inside.maps c.self.inside.live.entries c.self.inside.total c.self.invariant.running c.args.self.now c.self.view_is c.process.inside.0 c.args.process c.process.view_is c.args.value
    (sym c.get_mut.ensures.value ∙ ap option_copied_mut c.in_err-live.was)

pub invariant_of-self-in_err-taken : goal.invariant_of-self-in_err-taken
invariant_of-self-in_err-taken g c = counted_none c.self.inside.maps c.self.inside.live.entries c.self.inside.total c.self.inside.counts c.self.invariant c.args.self.now c.self.view_is c.process.inside.0 c.args.process c.process.view_is c.in_ok-live.live.now
    (sym c.get_mut.ensures.value ∙ ap option_copied_mut c.in_ok-live.was)
    (c.get_mut.follows.lender c.take.new.self).entries c.take.new.self ((c.get_mut.follows.holds c.take.new.self).0)
    c.args.value c.take.ensures.others (sym c.take.ensures.there ∙ c.in_err-taken.was)

pub returns-in_err-taken-clause-there : goal.returns-in_err-taken-clause-there
returns-in_err-taken-clause-there g c =
    c.from_residual-in_err-taken.ensures ∙ sym c.in_err-taken.was ∙ c.take.ensures.there ∙ get_of c.self.inside.maps c.self.inside.live.entries c.self.inside.total c.self.invariant.running c.args.self.now c.self.view_is c.process.inside.0 c.args.process c.process.view_is c.in_ok-live.live.now
    (sym c.get_mut.ensures.value ∙ ap option_copied_mut c.in_ok-live.was) c.args.value

pub returns-in_err-taken-clause-others : goal.returns-in_err-taken-clause-others
returns-in_err-taken-clause-others g c = seen_fewer c.self.inside.maps c.self.inside.live.entries c.self.inside.total c.self.invariant.running c.args.self.now c.self.view_is c.process.inside.0 c.args.process c.process.view_is c.in_ok-live.live.now
    (sym c.get_mut.ensures.value ∙ ap option_copied_mut c.in_ok-live.was)
    (c.get_mut.follows.lender c.take.new.self).entries c.take.new.self ((c.get_mut.follows.holds c.take.new.self).0)
    c.args.value c.take.ensures.others

pub returns-in_err-taken-clause-processes : goal.returns-in_err-taken-clause-processes
returns-in_err-taken-clause-processes g c = processes_fewer c.self.inside.maps c.self.inside.live.entries c.self.inside.total c.self.invariant.running c.args.self.now c.self.view_is c.process.inside.0 c.args.process c.process.view_is c.in_ok-live.live.now
    (sym c.get_mut.ensures.value ∙ ap option_copied_mut c.in_ok-live.was)
    (c.get_mut.follows.lender c.take.new.self).entries c.take.new.self ((c.get_mut.follows.holds c.take.new.self).0)
    c.args.value c.take.ensures.others

pub overflow_sub-self : goal.overflow_sub-self
overflow_sub-self g c = kept_enough c.self.inside.maps c.self.inside.live.entries c.self.inside.total c.self.invariant.running c.args.self.now c.self.view_is c.process.inside.0 c.args.process c.process.view_is c.in_ok-live.live.now
    (sym c.get_mut.ensures.value ∙ ap option_copied_mut c.in_ok-live.was)
    (c.get_mut.follows.lender c.take.new.self).entries c.take.new.self ((c.get_mut.follows.holds c.take.new.self).0)
    c.args.value c.take.ensures.others 1 (subst (λ o. length c.take.new.self + (if is_some o then 1 else 0) ≡ length c.in_ok-live.live.now) c.in_ok-taken.was c.take.ensures.fewer)

pub invariant_of-self-2 : goal.invariant_of-self-2
invariant_of-self-2 g c =
    let fewer = subst (λ o. length c.take.new.self + (if is_some o then 1 else 0) ≡ length c.in_ok-live.live.now) c.in_ok-taken.was c.take.ensures.fewer in
    let enough = kept_enough c.self.inside.maps c.self.inside.live.entries c.self.inside.total c.self.invariant.running c.args.self.now c.self.view_is c.process.inside.0 c.args.process c.process.view_is c.in_ok-live.live.now
    (sym c.get_mut.ensures.value ∙ ap option_copied_mut c.in_ok-live.was)
    (c.get_mut.follows.lender c.take.new.self).entries c.take.new.self ((c.get_mut.follows.holds c.take.new.self).0)
    c.args.value c.take.ensures.others 1 fewer in
    counted_fewer c.self.inside.maps c.self.inside.live.entries c.self.inside.total c.self.inside.counts c.self.invariant c.args.self.now c.self.view_is c.process.inside.0 c.args.process c.process.view_is c.in_ok-live.live.now
    (sym c.get_mut.ensures.value ∙ ap option_copied_mut c.in_ok-live.was)
    (c.get_mut.follows.lender c.take.new.self).entries c.take.new.self ((c.get_mut.follows.holds c.take.new.self).0)
    c.args.value c.take.ensures.others c.in_ok-taken.taken c.in_ok-taken.ensures.one fewer (c.self.inside.total - 1) (omega (arith, enough)) c.lower.new.self c.lower.ensures.counted

pub returns-clause-there : goal.returns-clause-there
returns-clause-there g c = sym c.in_ok-taken.was ∙ c.take.ensures.there ∙ get_of c.self.inside.maps c.self.inside.live.entries c.self.inside.total c.self.invariant.running c.args.self.now c.self.view_is c.process.inside.0 c.args.process c.process.view_is c.in_ok-live.live.now
    (sym c.get_mut.ensures.value ∙ ap option_copied_mut c.in_ok-live.was) c.args.value

pub returns-clause-others : goal.returns-clause-others
returns-clause-others g c = seen_fewer c.self.inside.maps c.self.inside.live.entries c.self.inside.total c.self.invariant.running c.args.self.now c.self.view_is c.process.inside.0 c.args.process c.process.view_is c.in_ok-live.live.now
    (sym c.get_mut.ensures.value ∙ ap option_copied_mut c.in_ok-live.was)
    (c.get_mut.follows.lender c.take.new.self).entries c.take.new.self ((c.get_mut.follows.holds c.take.new.self).0)
    c.args.value c.take.ensures.others

pub returns-clause-processes : goal.returns-clause-processes
returns-clause-processes g c = processes_fewer c.self.inside.maps c.self.inside.live.entries c.self.inside.total c.self.invariant.running c.args.self.now c.self.view_is c.process.inside.0 c.args.process c.process.view_is c.in_ok-live.live.now
    (sym c.get_mut.ensures.value ∙ ap option_copied_mut c.in_ok-live.was)
    (c.get_mut.follows.lender c.take.new.self).entries c.take.new.self ((c.get_mut.follows.holds c.take.new.self).0)
    c.args.value c.take.ensures.others
