-- The reply was cut, which was to be written whole.
use Rattle.ob_effects.specs.Kept.{space_of}
use Rattle.ob_script_tree.specs.Drawing.{left_by}
use Rattle.ob_script_tree.proofs.Leads.{cut_by}
use Rattle.std.specs.Prelude.{Some}
use Rattle.ob_script_tree.proofs.drawing.draw.Goals as goal

pub returns-in-Some-clause-fault : goal.returns-in-Some-clause-fault
returns-in-Some-clause-fault g c =
    cut_by c.args.picture c.args.script.now (g.W.Write.contents c.args.writer.now) (g.W.Write.contents c.write_stop.new.writer) c.args.session.now
    (left_by (Some c.in-Some.stop) (space_of c.run_lines.new.session)) c.requires.first c.in-Some.ensures.left c.in-Err.fault c.in-Err.ensures.cut
