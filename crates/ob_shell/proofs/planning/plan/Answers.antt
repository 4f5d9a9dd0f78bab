use Rattle.std.proofs.Common.{map, ap, sym, ◌∙◌}
use Rattle.clap.specs.Words.{subcommand_rows_of}
use Rattle.ob_shell.proofs.Faults.{faultless_as_stated, kinds_as_stated, some_task, task_is_spelled, used_as_stated}
use Rattle.ob_shell.proofs.Arguments.{takes_alone, takes_as_stated}
use Rattle.ob_shell.specs.Plan.{named, task_of}
use Rattle.ob_shell.proofs.planning.plan.Goals as goal

pub unreachable-requires : goal.unreachable-requires
unreachable-requires g c =
    let parsed = c.in-Ok-try_get_matches_from.ensures in
    some_task (map g.S.AsStr.text c.args.arguments.now) (subcommand_rows_of c.in-Ok-try_get_matches_from.matches) (faultless_as_stated _ _ c.in-Ok.ensures.app parsed.kinds) (used_as_stated _ _ _ c.in-Ok.ensures.app parsed.matches) c.in-None.ensures

pub returns-in-Some-clause-spelled : goal.returns-in-Some-clause-spelled
returns-in-Some-clause-spelled g c =
    let parsed = c.in-Ok-try_get_matches_from.ensures in
    task_is_spelled (map g.S.AsStr.text c.args.arguments.now) (subcommand_rows_of c.in-Ok-try_get_matches_from.matches) (named c.in-Some.task) (faultless_as_stated _ _ c.in-Ok.ensures.app parsed.kinds) (used_as_stated _ _ _ c.in-Ok.ensures.app parsed.matches) c.in-Some.ensures

pub returns-in-Err-try_get_matches_from-clause-memory : goal.returns-in-Err-try_get_matches_from-clause-memory
returns-in-Err-try_get_matches_from-clause-memory g c = takes_as_stated _ _ _ c.in-Ok.ensures.app c.in-Err-try_get_matches_from.ensures.passes

pub returns-in-Err-try_get_matches_from-clause-alone : goal.returns-in-Err-try_get_matches_from-clause-alone
returns-in-Err-try_get_matches_from-clause-alone g c =
    λ short. takes_as_stated _ _ _ c.in-Ok.ensures.app c.in-Err-try_get_matches_from.ensures.passes (takes_alone g.S.AsStr.text c.args.arguments.now short)

pub returns-in-Err-try_get_matches_from-clause-kinds : goal.returns-in-Err-try_get_matches_from-clause-kinds
returns-in-Err-try_get_matches_from-clause-kinds g c = kinds_as_stated _ _ c.in-Err-try_get_matches_from.fault c.in-Ok.ensures.app c.in-Err-try_get_matches_from.ensures.kinds

pub returns-in-Some-clause-kinds : goal.returns-in-Some-clause-kinds
returns-in-Some-clause-kinds g c = faultless_as_stated _ _ c.in-Ok.ensures.app c.in-Ok-try_get_matches_from.ensures.kinds

pub returns-in-Some-clause-task : goal.returns-in-Some-clause-task
returns-in-Some-clause-task g c =
    ap task_of (sym (used_as_stated _ _ _ c.in-Ok.ensures.app c.in-Ok-try_get_matches_from.ensures.matches)) ∙ sym c.in-Some.ensures
