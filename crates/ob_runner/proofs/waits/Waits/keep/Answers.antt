-- A parse whose ticket is above all comes last, and none was kept under it.
use Rattle.std.proofs.Common.{◌∙◌, ap, sym, subst}
use Rattle.std.specs.Map.{values_of}
use Rattle.ob_runner.specs.Kept.{AreKept}
use Rattle.ob_runner.proofs.Kept.{none_there, last_now, more_kept}
use Rattle.ob_runner.proofs.Results.{on_ok, on_err, ok_of_err, err_of_ok, if_err_of_ok, if_err_of_err}
use Rattle.ob_runner.proofs.waits.Waits.keep.Goals as goal
use Rattle.ob_runner.proofs.waits.Waits.keep.Goals.{in-Ok-None, in-Ok-Some, in-Err}

pub invariant_of-self : goal.invariant_of-self
invariant_of-self g c =
    let more = more_kept c.self.inside.parses.entries c.self.invariant c.args.self.now c.self.view_is c.args.parsing c.requires.newest c.ticket.result c.ticket.ensures c.insert.new.self.entries in
    elim c.match-insert.branch [
      | in-Ok-None w ↦ more w.in-Ok-None.ensures.entries c.insert.ensures.ordered
      | in-Ok-Some w ↦ more w.in-Ok-Some.ensures.entries c.insert.ensures.ordered
      | in-Err w ↦ subst AreKept (sym w.in-Err.ensures.err) c.self.invariant
    ]

pub returns-clause-last : goal.returns-clause-last
returns-clause-last g c =
    let last = last_now c.self.inside.parses.entries c.self.invariant c.args.self.now c.self.view_is c.args.parsing c.requires.newest c.ticket.result c.ticket.ensures c.insert.new.self.entries in
    elim c.match-insert.branch [
      | in-Ok-None w ↦ on_ok _ c.match-insert.result (last w.in-Ok-None.ensures.entries)
      | in-Ok-Some w ↦ ok_of_err _ c.match-insert.result _ w.result-is
      | in-Err w ↦ ok_of_err _ c.match-insert.result _ w.result-is
    ]

pub returns-clause-unchanged : goal.returns-clause-unchanged
returns-clause-unchanged g c =
    let none = none_there c.self.inside.parses.entries c.self.invariant c.args.self.now c.self.view_is c.args.parsing c.requires.newest c.ticket.result c.ticket.ensures in
    elim c.match-insert.branch [
      | in-Ok-None w ↦ err_of_ok _ c.match-insert.result _ w.result-is
      | in-Ok-Some w ↦ absurd (none w.in-Ok-Some.other (sym w.in-Ok-Some.field-0-is ∙ w.in-Ok-Some.ensures.old))
      | in-Err w ↦ on_err _ c.match-insert.result (ap values_of w.in-Err.ensures.err ∙ c.self.view_is)
    ]

pub returns-clause-back : goal.returns-clause-back
returns-clause-back g c =
    let none = none_there c.self.inside.parses.entries c.self.invariant c.args.self.now c.self.view_is c.args.parsing c.requires.newest c.ticket.result c.ticket.ensures in
    elim c.match-insert.branch [
      | in-Ok-None w ↦ if_err_of_ok _ c.match-insert.result _ w.result-is
      | in-Ok-Some w ↦ absurd (none w.in-Ok-Some.other (sym w.in-Ok-Some.field-0-is ∙ w.in-Ok-Some.ensures.old))
      | in-Err w ↦ if_err_of_err _ c.match-insert.result _ w.result-is (ap (λ y. y.1) w.in-Err.ensures.value_returned)
    ]
