-- A process goes with its map and its handles, which are counted no longer.
use Rattle.std.proofs.Common.{◌∙◌, ◌-◌, ◌==◌, count_by, None, Some, ap, sym, subst, arith}
use Rattle.std.specs.Option.{is_some}
use Rattle.ob_handles.specs.Counts.{count_of}
use Rattle.ob_devmap.specs.Maps.{MapChanges}
use Rattle.ob_processes.proofs.Entries.{handles_in}
use Rattle.ob_processes.proofs.Kept.{processes_left, handles_left, enough_ended, counted_ended}
use Rattle.ob_processes.proofs.Seen.{live_seen, in_found}
use Rattle.ob_processes.proofs.processes.Processes.end.Goals as goal

pub returns-in_err-live-clause-others : goal.returns-in_err-live-clause-others
returns-in_err-live-clause-others g c =
    processes_left c.self.inside.maps c.self.inside.live.entries c.self.inside.total c.self.inside.counts c.self.invariant c.args.self.now c.self.view_is c.process.inside.0 c.args.process c.process.view_is
    c.remove-live.new.self.entries c.remove-live.ensures.entries c.clear.new.self c.clear.ensures

pub returns-in_err-live-clause-handles : goal.returns-in_err-live-clause-handles
returns-in_err-live-clause-handles g c =
    handles_left c.self.inside.maps c.self.inside.live.entries c.self.inside.total c.self.inside.counts c.self.invariant c.args.self.now c.self.view_is c.process.inside.0 c.args.process c.process.view_is
    c.remove-live.new.self.entries c.remove-live.ensures.entries

pub returns-in_err-live-clause-live : goal.returns-in_err-live-clause-live
returns-in_err-live-clause-live g c =
    ap is_some c.from_residual.ensures
    ∙ live_seen c.self.inside.maps c.self.inside.live.entries c.self.inside.total c.self.invariant.running c.args.self.now c.self.view_is c.process.inside.0 c.args.process c.process.view_is None (sym c.remove-live.ensures.value ∙ c.in_err-live.was)

pub overflow_sub-self : goal.overflow_sub-self
overflow_sub-self g c =
    let enough = enough_ended c.self.inside.maps c.self.inside.live.entries c.self.inside.total c.self.inside.counts c.self.invariant c.args.self.now c.self.view_is c.process.inside.0 c.remove-live.new.self.entries
    c.in_ok-live.live (ap handles_in (sym c.remove-live.ensures.value ∙ c.in_ok-live.was)) c.remove-live.ensures.entries in
    omega (arith, enough, c.len.ensures)

pub invariant_of-self-2 : goal.invariant_of-self-2
invariant_of-self-2 g c =
    let found = ap handles_in (sym c.remove-live.ensures.value ∙ c.in_ok-live.was) in
    let enough = enough_ended c.self.inside.maps c.self.inside.live.entries c.self.inside.total c.self.inside.counts c.self.invariant c.args.self.now c.self.view_is c.process.inside.0 c.remove-live.new.self.entries c.in_ok-live.live found c.remove-live.ensures.entries in
    counted_ended c.self.inside.maps c.self.inside.live.entries c.self.inside.total c.self.inside.counts c.self.invariant c.args.self.now c.self.view_is c.process.inside.0 c.remove-live.new.self.entries c.in_ok-live.live found c.remove-live.ensures.entries
    (c.self.inside.total - c.len.result) (omega (arith, enough, c.len.ensures)) c.remove-live.ensures.ordered
    c.clear.new.self (subst (λ p. MapChanges p None c.self.inside.maps c.clear.new.self) (sym c.process.view_is) c.clear.ensures)
    c.uncount.new.counts (λ object. c.uncount.ensures object ∙ ap (λ hs. count_of c.self.inside.counts object - count_by (λ h. h.object == object) hs) c.into_ending-ending.ensures.handles)

pub returns-clause-others : goal.returns-clause-others
returns-clause-others g c =
    processes_left c.self.inside.maps c.self.inside.live.entries c.self.inside.total c.self.inside.counts c.self.invariant c.args.self.now c.self.view_is c.process.inside.0 c.args.process c.process.view_is
    c.remove-live.new.self.entries c.remove-live.ensures.entries c.clear.new.self c.clear.ensures

pub returns-clause-handles : goal.returns-clause-handles
returns-clause-handles g c =
    handles_left c.self.inside.maps c.self.inside.live.entries c.self.inside.total c.self.inside.counts c.self.invariant c.args.self.now c.self.view_is c.process.inside.0 c.args.process c.process.view_is
    c.remove-live.new.self.entries c.remove-live.ensures.entries

pub returns-clause-live : goal.returns-clause-live
returns-clause-live g c =
    live_seen c.self.inside.maps c.self.inside.live.entries c.self.inside.total c.self.invariant.running c.args.self.now c.self.view_is c.process.inside.0 c.args.process c.process.view_is (Some c.in_ok-live.live) (sym c.remove-live.ensures.value ∙ c.in_ok-live.was)

pub returns-clause-own : goal.returns-clause-own
returns-clause-own g c =
    c.into_ending-ending.ensures.handles ∙ sym (in_found c.self.inside.maps c.self.inside.live.entries c.self.inside.total c.self.invariant.running c.args.self.now c.self.view_is c.process.inside.0 c.args.process c.process.view_is (Some c.in_ok-live.live) (sym c.remove-live.ensures.value ∙ c.in_ok-live.was))
