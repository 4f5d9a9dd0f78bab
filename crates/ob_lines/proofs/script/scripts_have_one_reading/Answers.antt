use Rattle.ob_lines.proofs.Scripted.{scripts_alike}
use Rattle.ob_lines.proofs.script.scripts_have_one_reading.Goals as goal

pub returns : goal.returns
returns c = scripts_alike
