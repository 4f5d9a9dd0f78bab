use Rattle.ob_lines.proofs.Singled.{misfits_alike}
use Rattle.ob_lines.proofs.misfit.lines_have_one_misfit.Goals as goal

pub returns : goal.returns
returns c = misfits_alike
