-- Both are read of the rows.
use Rattle.clap.specs.Words.{found_of}
use Rattle.ob_shell.proofs.Tasks.{tree_named}
use Rattle.ob_shell.proofs.planning.tree_in.Goals as goal

pub returns : goal.returns
returns c = tree_named (found_of c.args.matches.now) c.picture_in.result c.get_str.result c.picture_in.ensures c.get_str.ensures
