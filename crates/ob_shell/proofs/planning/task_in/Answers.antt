use Rattle.std.proofs.Common.{Some, None, rules}
use Rattle.clap.specs.Words.{found_of}
use Rattle.ob_shell.proofs.Tasks.{task_of_check, task_of_replay, task_of_run, task_of_threads}
use Rattle.ob_shell.proofs.planning.task_in.Goals as goal

pub returns-in-Some-get_str : goal.returns-in-Some-get_str
returns-in-Some-get_str c =
    task_of_run c.args.matches.now c.in-Some.name.now (found_of c.in-Some.inside.now) (Some c.in-Some-get_str.file.now) c.in-Some.ensures.name c.in-Some.ensures.rows (search rules) c.in-Some-get_str.ensures

pub returns-in-None-get_str : goal.returns-in-None-get_str
returns-in-None-get_str c =
    task_of_run c.args.matches.now c.in-Some.name.now (found_of c.in-Some.inside.now) None c.in-Some.ensures.name c.in-Some.ensures.rows (search rules) c.in-None-get_str.ensures

pub returns-in-Some-get_str-2 : goal.returns-in-Some-get_str-2
returns-in-Some-get_str-2 c =
    task_of_threads c.args.matches.now c.in-Some.name.now (found_of c.in-Some.inside.now) (Some c.in-Some-get_str-2.file.now) c.in-Some.ensures.name c.in-Some.ensures.rows (search rules) c.in-Some-get_str-2.ensures

pub returns-in-None-get_str-2 : goal.returns-in-None-get_str-2
returns-in-None-get_str-2 c =
    task_of_threads c.args.matches.now c.in-Some.name.now (found_of c.in-Some.inside.now) None c.in-Some.ensures.name c.in-Some.ensures.rows (search rules) c.in-None-get_str-2.ensures

pub returns-in-Some-get_str-3 : goal.returns-in-Some-get_str-3
returns-in-Some-get_str-3 c =
    task_of_replay c.args.matches.now c.in-Some.name.now (found_of c.in-Some.inside.now) (Some c.in-Some-get_str-3.file.now) c.in-Some.ensures.name c.in-Some.ensures.rows (search rules) c.in-Some-get_str-3.ensures

pub returns-in-None-get_str-3 : goal.returns-in-None-get_str-3
returns-in-None-get_str-3 c =
    task_of_replay c.args.matches.now c.in-Some.name.now (found_of c.in-Some.inside.now) None c.in-Some.ensures.name c.in-Some.ensures.rows (search rules) c.in-None-get_str-3.ensures

pub returns-in-Some-get_str-4 : goal.returns-in-Some-get_str-4
returns-in-Some-get_str-4 c =
    task_of_check c.args.matches.now c.in-Some.name.now (found_of c.in-Some.inside.now) (Some c.in-Some-get_str-4.file.now) c.in-Some.ensures.name c.in-Some.ensures.rows (search rules) c.in-Some-get_str-4.ensures

pub returns-in-None-get_str-4 : goal.returns-in-None-get_str-4
returns-in-None-get_str-4 c =
    task_of_check c.args.matches.now c.in-Some.name.now (found_of c.in-Some.inside.now) None c.in-Some.ensures.name c.in-Some.ensures.rows (search rules) c.in-None-get_str-4.ensures
