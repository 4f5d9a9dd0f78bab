-- The handle comes last in the table of its process, and last of all; or all is as it was.
use Rattle.std.proofs.Common.{◌∙◌, ◌<◌, ◌≤◌, refl, ap, sym, arith}
use Rattle.std.proofs.lemmas.Result.{err_from_is_err_and}
use Rattle.std.specs.Option.{option_copied_mut}
use Rattle.ob_model.specs.State.{greatest_number}
use Rattle.ob_handles.specs.Counts.{count_of}
use Rattle.ob_processes.proofs.Kept.{own_back, room, counted_same, counted_more}
use Rattle.ob_processes.proofs.Seen.{not_live, few}
use Rattle.ob_processes.proofs.Written.{all_of, get_of, seen_same, seen_more, processes_more}
use Rattle.ob_processes.proofs.processes.Processes.put.Goals as goal

pub unreachable-requires : goal.unreachable-requires
unreachable-requires g c =
    not_live c.self.inside.maps c.self.inside.live.entries c.self.inside.total c.self.invariant.running c.args.self.now c.self.view_is c.process.inside.0 c.args.held.process c.process.view_is
    (sym c.get_mut.ensures.value ∙ ap option_copied_mut c.in_default.is) c.requires.live

pub put-requires-clause-newest : goal.put-requires-clause-newest
put-requires-clause-newest g c _ _ = all_of c.self.inside.maps c.self.inside.live.entries c.self.inside.total c.self.invariant.running c.args.self.now c.self.view_is c.process.inside.0 c.args.held.process c.process.view_is c.in-Some.live.now
    (sym c.get_mut.ensures.value ∙ ap option_copied_mut c.in-Some.is) (λ h. h.order < c.args.held.order) c.requires.newest

pub invariant_of-self : goal.invariant_of-self
invariant_of-self g c = counted_same c.self.inside.maps c.self.inside.live.entries c.self.inside.total c.self.inside.counts c.self.invariant c.args.self.now c.self.view_is c.process.inside.0 c.args.held.process c.process.view_is c.in-Some.live.now
    (sym c.get_mut.ensures.value ∙ ap option_copied_mut c.in-Some.is)
    (c.get_mut.follows.lender c.put.new.self).entries c.put.new.self ((c.get_mut.follows.holds c.put.new.self).0)
    c.self.inside.counts c.in_err-put.ensures.unchanged refl

pub returns-in_err-put-clause-processes : goal.returns-in_err-put-clause-processes
returns-in_err-put-clause-processes g c =
    ap (λ r. r.processes) (seen_same c.self.inside.maps c.self.inside.live.entries c.self.inside.total c.self.invariant.running c.args.self.now c.self.view_is c.process.inside.0 c.args.held.process c.process.view_is c.in-Some.live.now
    (sym c.get_mut.ensures.value ∙ ap option_copied_mut c.in-Some.is)
    (c.get_mut.follows.lender c.put.new.self).entries c.put.new.self ((c.get_mut.follows.holds c.put.new.self).0)
    c.in_err-put.ensures.unchanged)

pub returns-in_err-put-clause-unchanged : goal.returns-in_err-put-clause-unchanged
returns-in_err-put-clause-unchanged g c =
    let p = err_from_is_err_and c.from_residual.result c.from_residual.ensures.1 in
    rw p.1 (seen_same c.self.inside.maps c.self.inside.live.entries c.self.inside.total c.self.invariant.running c.args.self.now c.self.view_is c.process.inside.0 c.args.held.process c.process.view_is c.in-Some.live.now
    (sym c.get_mut.ensures.value ∙ ap option_copied_mut c.in-Some.is)
    (c.get_mut.follows.lender c.put.new.self).entries c.put.new.self ((c.get_mut.follows.holds c.put.new.self).0)
    c.in_err-put.ensures.unchanged)

pub add-requires : goal.add-requires
add-requires g c =
    let number : c.args.held.order ≤ greatest_number = c.requires.number in
    let enough : count_of c.self.inside.counts c.args.held.object ≤ c.args.held.order =
    room c.self.inside.maps c.self.inside.live.entries c.self.inside.total c.self.inside.counts c.self.invariant c.args.self.now c.self.view_is c.args.held.order c.args.held.object c.requires.newest in
    record { room = omega (arith, enough, number) }

pub invariant_of-self-in-Err : goal.invariant_of-self-in-Err
invariant_of-self-in-Err g c = counted_same c.self.inside.maps c.self.inside.live.entries c.self.inside.total c.self.inside.counts c.self.invariant c.args.self.now c.self.view_is c.process.inside.0 c.args.held.process c.process.view_is c.in-Some.live.now
    (sym c.get_mut.ensures.value ∙ ap option_copied_mut c.in-Some.is)
    (c.get_mut.follows.lender c.take.new.self).entries c.take.new.self ((c.get_mut.follows.holds c.take.new.self).0)
    c.add.new.self (own_back c.in-Some.live.now c.put.new.self c.take.new.self
    c.args.held (
      c.requires.value,
      get_of c.self.inside.maps c.self.inside.live.entries c.self.inside.total c.self.invariant.running c.args.self.now c.self.view_is c.process.inside.0 c.args.held.process c.process.view_is c.in-Some.live.now
          (sym c.get_mut.ensures.value ∙ ap option_copied_mut c.in-Some.is) c.args.held.value ∙ c.requires.unused,
    ) c.in_ok-put.ensures.last c.take.ensures.others) c.in-Err.ensures.unchanged

pub returns-in-Err-clause-processes : goal.returns-in-Err-clause-processes
returns-in-Err-clause-processes g c =
    ap (λ r. r.processes) (seen_same c.self.inside.maps c.self.inside.live.entries c.self.inside.total c.self.invariant.running c.args.self.now c.self.view_is c.process.inside.0 c.args.held.process c.process.view_is c.in-Some.live.now
    (sym c.get_mut.ensures.value ∙ ap option_copied_mut c.in-Some.is)
    (c.get_mut.follows.lender c.take.new.self).entries c.take.new.self ((c.get_mut.follows.holds c.take.new.self).0)
    (own_back c.in-Some.live.now c.put.new.self c.take.new.self
    c.args.held (
      c.requires.value,
      get_of c.self.inside.maps c.self.inside.live.entries c.self.inside.total c.self.invariant.running c.args.self.now c.self.view_is c.process.inside.0 c.args.held.process c.process.view_is c.in-Some.live.now
          (sym c.get_mut.ensures.value ∙ ap option_copied_mut c.in-Some.is) c.args.held.value ∙ c.requires.unused,
    ) c.in_ok-put.ensures.last c.take.ensures.others))

pub returns-in-Err-clause-unchanged : goal.returns-in-Err-clause-unchanged
returns-in-Err-clause-unchanged g c =
    seen_same c.self.inside.maps c.self.inside.live.entries c.self.inside.total c.self.invariant.running c.args.self.now c.self.view_is c.process.inside.0 c.args.held.process c.process.view_is c.in-Some.live.now
    (sym c.get_mut.ensures.value ∙ ap option_copied_mut c.in-Some.is)
    (c.get_mut.follows.lender c.take.new.self).entries c.take.new.self ((c.get_mut.follows.holds c.take.new.self).0)
    (own_back c.in-Some.live.now c.put.new.self c.take.new.self
    c.args.held (
      c.requires.value,
      get_of c.self.inside.maps c.self.inside.live.entries c.self.inside.total c.self.invariant.running c.args.self.now c.self.view_is c.process.inside.0 c.args.held.process c.process.view_is c.in-Some.live.now
          (sym c.get_mut.ensures.value ∙ ap option_copied_mut c.in-Some.is) c.args.held.value ∙ c.requires.unused,
    ) c.in_ok-put.ensures.last c.take.ensures.others)

pub overflow_add-self : goal.overflow_add-self
overflow_add-self g c = omega (arith, few c.self.inside.maps c.self.inside.live.entries c.self.inside.total c.self.invariant.running c.args.self.now c.self.view_is c.args.held.order c.requires.newest)

pub invariant_of-self-2 : goal.invariant_of-self-2
invariant_of-self-2 g c = counted_more c.self.inside.maps c.self.inside.live.entries c.self.inside.total c.self.inside.counts c.self.invariant c.args.self.now c.self.view_is c.process.inside.0 c.args.held.process c.process.view_is c.in-Some.live.now
    (sym c.get_mut.ensures.value ∙ ap option_copied_mut c.in-Some.is)
    (c.get_mut.follows.lender c.put.new.self).entries c.put.new.self ((c.get_mut.follows.holds c.put.new.self).0)
    c.args.held
    c.in_ok-put.ensures.last c.requires.newest refl c.add.new.self c.in_default-add.ensures.counted

pub returns-clause-last : goal.returns-clause-last
returns-clause-last g c = seen_more c.self.inside.maps c.self.inside.live.entries c.self.inside.total c.self.invariant.running c.args.self.now c.self.view_is c.process.inside.0 c.args.held.process c.process.view_is c.in-Some.live.now
    (sym c.get_mut.ensures.value ∙ ap option_copied_mut c.in-Some.is)
    (c.get_mut.follows.lender c.put.new.self).entries c.put.new.self ((c.get_mut.follows.holds c.put.new.self).0)
    c.args.held
    c.in_ok-put.ensures.last c.requires.newest

pub returns-clause-processes : goal.returns-clause-processes
returns-clause-processes g c = processes_more c.self.inside.maps c.self.inside.live.entries c.self.inside.total c.self.invariant.running c.args.self.now c.self.view_is c.process.inside.0 c.args.held.process c.process.view_is c.in-Some.live.now
    (sym c.get_mut.ensures.value ∙ ap option_copied_mut c.in-Some.is)
    (c.get_mut.follows.lender c.put.new.self).entries c.put.new.self ((c.get_mut.follows.holds c.put.new.self).0)
    c.args.held
    c.in_ok-put.ensures.last c.requires.newest

pub put-requires-clause-unused : goal.put-requires-clause-unused
put-requires-clause-unused g c _ _ = (
  c.requires.value,
  get_of c.self.inside.maps c.self.inside.live.entries c.self.inside.total c.self.invariant.running c.args.self.now c.self.view_is c.process.inside.0 c.args.held.process c.process.view_is c.in-Some.live.now
      (sym c.get_mut.ensures.value ∙ ap option_copied_mut c.in-Some.is) c.args.held.value ∙ c.requires.unused,
)
