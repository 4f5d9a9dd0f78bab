-- The run has one entry less.
use Rattle.ob_dirs.proofs.Joined.{joined-taken}
use Rattle.ob_dirs.proofs.runs.take_at.Goals as goal

pub returns-else-is_empty-clause-others : goal.returns-else-is_empty-clause-others
returns-else-is_empty-clause-others c =
    joined-taken c.args.runs.now.items c.args.place.now.run c.args.place.now.at c.index_mut-run.result.now c.remove-entry.new.self c.requires.here.run_in c.index_mut-run.ensures.value c.remove-entry.ensures.by_index.2
