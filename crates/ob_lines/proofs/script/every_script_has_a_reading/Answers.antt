-- One form more is read.
use Rattle.ob_lines.specs.Script.{found_seen}
use Rattle.ob_lines.proofs.Scripted.{read_more}
use Rattle.ob_lines.proofs.script.every_script_has_a_reading.Goals as goal

pub loop-form-preserved : goal.loop-form-preserved
loop-form-preserved c =
    read_more c.args.script.now c.loop-form.rest.now c.in-Some.behind.now (found_seen c.in-Some._form) c.loop-form.invariant c.in-Some.ensures.found
