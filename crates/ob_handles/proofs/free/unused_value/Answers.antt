-- The value behind the greatest one is a handle value, and so is the gap.
use Rattle.ob_model.specs.Grants.{IsHandleValue}
use Rattle.ob_handles.proofs.Gaps.{gap_value, gap_unused, next_value, found_key, keys_are_fewer}
use Rattle.ob_handles.proofs.free.unused_value.Goals as goal

pub returns-in-Some-clause-value : goal.returns-in-Some-clause-value
returns-in-Some-clause-value c =
    let entries = c.args.values.now.entries in
    next_value c.in-Some.greatest.now (found_key IsHandleValue entries c.in-Some.greatest.now c.in-Some.field-0-1.now c.in-Some.ensures.value c.requires.values)
    c.if-greatest-lt-GREATEST.true

pub returns-in-Some-2-clause-value : goal.returns-in-Some-2-clause-value
returns-in-Some-2-clause-value c =
    gap_value _ c.least_unused.result c.least_unused.ensures.least c.least_unused.ensures.ordered c.requires.values (keys_are_fewer c.args.values.now.entries c.requires.room)

pub returns-in-Some-2-clause-unused : goal.returns-in-Some-2-clause-unused
returns-in-Some-2-clause-unused c =
    gap_unused c.args.values.now.entries c.least_unused.result c.least_unused.ensures.least c.least_unused.ensures.ordered c.requires.values
