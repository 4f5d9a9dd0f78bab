-- A resume that answers isn't out of memory, and its open is pending no longer.
use Rattle.ob_types.specs.Pending.{run_of_end}
use Rattle.ob_locked.proofs.Starts.{ended_then, plain_then}
use Rattle.ob_locked.proofs.made.resume_core.Goals as goal

pub copy_plain-requires : goal.copy_plain-requires
copy_plain-requires g c =
    plain_then g.T.TypeSet.procedures c.args.core.now c.resume.new.self c.state_is_sound.ensures c.args.parsed.ticket (run_of_end c.args.parsed.outcome) c.in-Ok-Done.field-0 c.in-Ok-Done.ensures.step _ c.in-Ok-Done.field-0-is

pub copy_plain-requires-in-Ok-Done : goal.copy_plain-requires-in-Ok-Done
copy_plain-requires-in-Ok-Done g c =
    plain_then g.T.TypeSet.procedures c.args.core.now c.resume.new.self c.state_is_sound.ensures c.args.parsed.ticket (run_of_end c.args.parsed.outcome) c.in-Ok-Done.field-0 c.in-Ok-Done.ensures.step _ c.in-Ok-Done.field-0-is

pub returns-in-Ok-Done-clause-pending : goal.returns-in-Ok-Done-clause-pending
returns-in-Ok-Done-clause-pending g c =
    ended_then g.T.TypeSet.procedures c.args.core.now c.resume.new.self c.state_is_sound.ensures c.args.parsed.ticket (run_of_end c.args.parsed.outcome) c.in-Ok-Done.field-0 c.in-Ok-Done.ensures.step _ c.in-Ok-Done.field-0-is

pub returns-in-Ok-Parsing-clause-pending : goal.returns-in-Ok-Parsing-clause-pending
returns-in-Ok-Parsing-clause-pending g c =
    ended_then g.T.TypeSet.procedures c.args.core.now c.resume.new.self c.state_is_sound.ensures c.args.parsed.ticket (run_of_end c.args.parsed.outcome) c.in-Ok-Parsing.field-0 c.in-Ok-Parsing.ensures.step _ c.in-Ok-Parsing.field-0-is
