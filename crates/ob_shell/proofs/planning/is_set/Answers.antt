-- The value is the one of the rows.
use Rattle.std.proofs.Common.{rules}
use Rattle.clap.specs.Words.{found_of}
use Rattle.ob_shell.proofs.Tasks.{set_by, unset_by}
use Rattle.ob_shell.proofs.planning.is_set.Goals as goal

pub returns-in-Some : goal.returns-in-Some
returns-in-Some c =
    let known = set_by (found_of c.args.matches.now) c.args.id.now c.in-Some.value.now c.in-Some.ensures in
    search (rules, known)

pub returns-in-None : goal.returns-in-None
returns-in-None c = unset_by (found_of c.args.matches.now) c.args.id.now c.in-None.ensures
