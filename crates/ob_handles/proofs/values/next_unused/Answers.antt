-- One value after another leads to a row, and not all of them do.
use Rattle.std.proofs.Common.{◌∙◌, eqb, is_some, ap, sym, arith, below_more}
use Rattle.indexmap.specs.IndexMap.{get}
use Rattle.slab.specs.Slab.{get as row}
use Rattle.ob_handles.specs.Values.{behind, key_in}
use Rattle.ob_handles.proofs.Inside.{some_of}
use Rattle.ob_handles.proofs.SlabPlaces.{not_all_used}
use Rattle.ob_handles.proofs.values.next_unused.Goals as goal

pub loop-step-preserved : goal.loop-step-preserved
loop-step-preserved c =
    below_more _ _ c.loop-step.invariant
    (ap (λ f. is_some (key_in (row c.args.rows.now) (get eqb c.args.foreign.now) (behind f c.loop-step.step))) (sym c.from.ensures)
    ∙ ap is_some (sym c.key_of.ensures) ∙ some_of c.key_of.result c.is_none.result c.is_none.ensures c.if-is_none.false)

pub unreachable-requires : goal.unreachable-requires
unreachable-requires c =
    not_all_used c.args.fourth c.args.rows.now (key_in (row c.args.rows.now) (get eqb c.args.foreign.now)) c.requires.room c.requires.lead
    (λ k below. c.loop-step.invariant k (omega (arith, below, c.loop-step-test.false)))
