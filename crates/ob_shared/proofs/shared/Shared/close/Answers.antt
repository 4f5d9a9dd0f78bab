-- What was settled is what is handed back.
use Rattle.std.proofs.Common.{◌++◌, map, sym}
use Rattle.std.specs.Arc.{arc_value}
use Rattle.ob_entries.specs.Segments.{joined}
use Rattle.ob_segments.specs.Journal.{whole}
use Rattle.ob_shared.proofs.Chained.{mismatch_as, settled_as}
use Rattle.ob_shared.proofs.shared.Shared.close.Goals as goal

pub returns-in-Ok-clause-settled : goal.returns-in-Ok-clause-settled
returns-in-Ok-clause-settled g c =
    settled_as (whole c.into_locked-locked.result.journal) (joined (map arc_value c.into_parts-core.result.1.items) ++ c.into_parts-core.result.2.entries) c.as_slice.result.now c.args.passes.items c.self.inside.seats c.args.self
    (sym c.into_parts-core.ensures.journal) c.as_slice.ensures.value c.self.view_is c.in-Ok.ensures.ok

pub returns-clause-mismatch : goal.returns-clause-mismatch
returns-clause-mismatch g c = (
  c.into_locked-locked.result,
  c.is_kept.ensures.run,
  mismatch_as (whole c.into_locked-locked.result.journal) c.as_slice.result.now c.args.passes.items c.self.inside.seats c.args.self c.in-Err.mismatch c.as_slice.ensures.value c.self.view_is c.in-Err.ensures.err,
)
