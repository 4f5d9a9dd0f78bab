-- The row of one object more is collected, if it has one.
use Rattle.std.proofs.Common.{arith, map, ap, ◌∙◌}
use Rattle.ob_tree.specs.Index.{named_by}
use Rattle.ob_tree.proofs.Collected.{with_row, without_row}
use Rattle.ob_tree.proofs.index.unsorted_entries.Goals as goal
use Rattle.ob_tree.proofs.index.unsorted_entries.Goals.{in-Some+in_ok-push, in_default}

pub loop-object-preserved : goal.loop-object-preserved
loop-object-preserved c =
    elim c.match-object.branch [
      | in-Some+in_ok-push w ↦
          with_row c.args.objects.now c.loop-object.object-index c.object-item.result (omega arith) c.object-item.is c.loop-object.found.items c.match-object.found.items w.in-Some.row _
          c.loop-object.invariant (ap (λ v. v.items) w.found-is ∙ w.in_ok-push.ensures.items) w.in-Some.is w.entry_for.ensures
      | in_default w ↦
          ap (λ v. map named_by v.items) w.found-is
          ∙ without_row c.args.objects.now c.loop-object.object-index c.object-item.result (omega arith) c.object-item.is (map named_by c.loop-object.found.items) c.loop-object.invariant w.in_default.is
    ]
